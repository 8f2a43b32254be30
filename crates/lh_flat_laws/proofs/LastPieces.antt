-- The last pieces of blocks, and the edges that name them.
use Rattle.std.proofs.Common.{◌≡◌, ℕ, suc, ◌+◌, Bool, true, false, ◌||◌, if◌then◌else◌, List, [], ◌∷◌, ◌++◌, length, map, Option, Some, None, refl, ap, sym, ◌∙◌, subst, arith}
use Rattle.std.specs.List.{list_any, flat_map}
use Rattle.std.specs.Option.{option_map, option_map_or}
use Rattle.std.proofs.lemmas.List.{append-nil}
use Rattle.std.proofs.lemmas.Option.{same_Some, none-some}
use Rattle.lh_unit_names.specs.declared.name.UnitName.{UnitName}
use Rattle.lh_types.specs.Types.{TypeTree}
use Rattle.lh_unit.specs.Contents.{OperandText, EdgeText, InstText, call_text, ret_text, LineText, BlockText, UnitText, is_result_name}
use Rattle.lh_unit_names.specs.Names.{same_name}
use Rattle.lh_unit.specs.Named.{block_of, label_or}
use Rattle.lh_unit_names.specs.UnitNames.{is_assert}
use Rattle.lh_unit.specs.Places.{is_terminator}
use Rattle.lh_unit.specs.WellFormed.{is_phi}
use Rattle.lh_unit.specs.Hierarchy.{lines_of}
use Rattle.lh_unit.specs.Activation.{edge_from}
use Rattle.lh_unit.specs.Within.{Each}
use Rattle.lh_unit.proofs.Lists.{Each-right}
use Rattle.lh_verify_laws.specs.Shape.{EndsOnce}
use Rattle.lh_flat.specs.Calls.{callee_if, callees_in}
use Rattle.lh_flat.specs.Copies.{Copy, call_path, opened, first_piece, last_from, last_piece, last_piece_of, copied_edge}
use Rattle.lh_flat.specs.Flat.{edge_if_given, given_in, given_by}
use Rattle.lh_flat.specs.Marks.{IsPlain}
use Rattle.lh_flat_laws.specs.Tidy.{Either, NoPhis, PhisFirst}
use Rattle.lh_flat.proofs.Marks.{not_same, is_same, Names, one, two, names, nothing_behind, mark_behind, path-apart}
use Rattle.lh_flat_laws.proofs.BlocksFound.{Piece, IsLabelled, opens-is, opens-path}
use Rattle.lh_flat_laws.proofs.Facts.{label-found}

-- ---- lines and blocks of a unit

pub each-middle : (P : LineText → Type 0) (before rest : List LineText) (l : LineText) (ls : List LineText) → ls ≡ before ++ l ∷ rest → Each P ls → P l
each-middle P before rest l ls e h = by before (subst (Each P) e h)
  where
    by : (before : List LineText) → Each P (before ++ l ∷ rest) → P l
    by [] k = k.0
    by (x ∷ more) k = by more k.1

pub block-each : (P : BlockText → Type 0) (label : List ℕ) (bs : List BlockText) (b : BlockText) → block_of label bs ≡ Some b → Each P bs → P b
block-each P label [] b e h = absurd (none-some b e)
block-each P label (y ∷ bs) b e h = by (is_result_name label y.label) e (λ r. block-each P label bs b r h.1)
  where
    by : (t : Bool) → (if t then Some y else block_of label bs) ≡ Some b → (block_of label bs ≡ Some b → P b) → P b
    by true r go = subst P (same_Some y b r) h.0
    by false r go = go r

-- a terminator is the last line of its block
pub ends-last : (before rest : List LineText) (l : LineText) → EndsOnce (before ++ l ∷ rest) → is_terminator l.inst ≡ true → rest ≡ []
ends-last [] [] l e t = refl
ends-last [] (m ∷ rest) l e t = absurd cc
  where
    no : is_terminator l.inst ≡ false
    no = e.0
ends-last (x ∷ []) rest l e t = ends-last [] rest l e.1 t
ends-last (x ∷ y ∷ before) rest l e t = ends-last (y ∷ before) rest l e.1 t

pub ends-before : (before rest : List LineText) (l : LineText) → EndsOnce (before ++ l ∷ rest) → Each (λ (x : LineText). is_terminator x.inst ≡ false) before
ends-before [] rest l e = tt
ends-before (x ∷ []) rest l e = (e.0, tt)
ends-before (x ∷ y ∷ before) rest l e = (e.0, ends-before (y ∷ before) rest l e.1)

-- behind a line that is no `phi` stands none
pub no_phi-behind : (before rest : List LineText) (l : LineText) → is_phi l.inst ≡ false → PhisFirst (before ++ l ∷ rest) → NoPhis rest
no_phi-behind [] rest l e p = subst (λ b. Either b (PhisFirst rest) (NoPhis rest)) e p
no_phi-behind (x ∷ before) rest l e p = by (is_phi x.inst) p (no_phi-behind before rest l e)
  where
    by : (b : Bool) → Either b (PhisFirst (before ++ l ∷ rest)) (NoPhis (before ++ l ∷ rest)) → (PhisFirst (before ++ l ∷ rest) → NoPhis rest) → NoPhis rest
    by true q go = go q
    by false q go = (Each-right (λ (y : LineText). is_phi y.inst ≡ false) before (l ∷ rest) q).1

-- none of the calls of a unit is so
pub none-called : (P : UnitName → Bool) (bs : List BlockText) (label : List ℕ) (b : BlockText) (before rest : List LineText) (l : LineText) (f : UnitName) (ty : TypeTree) (args : List OperandText)
    → list_any P (callees_in (lines_of bs)) ≡ false → block_of label bs ≡ Some b → b.lines ≡ before ++ l ∷ rest → l.inst ≡ call_text f ty args → is_assert f ≡ false → P f ≡ false
none-called P [] label b before rest l f ty args n s e i a = absurd (none-some b s)
none-called P (y ∷ bs) label b before rest l f ty args n s e i a = by (is_result_name label y.label) s (λ q. none-called P bs label b before rest l f ty args (right y.lines (lines_of bs) n) q e i a)
  where
    left : (p q : Bool) → (p || q) ≡ false → p ≡ false
    left false q r = refl
    left true q r = r

    after : (p q : Bool) → (p || q) ≡ false → q ≡ false
    after false q r = r
    after true q r = absurd cc

    behind : (j : InstText) (ns : List UnitName) → list_any P (callee_if j ns) ≡ false → list_any P ns ≡ false
    behind (call_text g r os) ns q = at (is_assert g) q
      where
        at : (c : Bool) → list_any P (if c then ns else g ∷ ns) ≡ false → list_any P ns ≡ false
        at true z = z
        at false z = after (P g) (list_any P ns) z
    behind _ ns q = q

    right : (xs ys : List LineText) → list_any P (callees_in (xs ++ ys)) ≡ false → list_any P (callees_in ys) ≡ false
    right [] ys q = q
    right (x ∷ xs) ys q = right xs ys (behind x.inst (callees_in (xs ++ ys)) q)

    here : (xs ys zs : List LineText) → list_any P (callees_in ((xs ++ l ∷ ys) ++ zs)) ≡ false → P f ≡ false
    here [] ys zs q =
        left (P f) (list_any P (callees_in (ys ++ zs)))
        (ap (λ c. list_any P (if c then callees_in (ys ++ zs) else f ∷ callees_in (ys ++ zs))) (sym a) ∙ ap (λ j. list_any P (callee_if j (callees_in (ys ++ zs)))) (sym i) ∙ q)
    here (x ∷ xs) ys zs q = here xs ys zs (behind x.inst (callees_in ((xs ++ l ∷ ys) ++ zs)) q)

    by : (t : Bool) → (if t then Some y else block_of label bs) ≡ Some b → (block_of label bs ≡ Some b → P f ≡ false) → P f ≡ false
    by true r go = here before rest (lines_of bs) (subst (λ ls. list_any P (callees_in (ls ++ lines_of bs)) ≡ false) (ap (λ (x : BlockText). x.lines) (same_Some y b r) ∙ e) n)
    by false r go = go r

-- ---- the last piece of a block

pub last-append : (fs : List UnitText) (c : Copy) (label here : List ℕ) (k : ℕ) (xs ys : List LineText)
    → last_from fs c label here k (xs ++ ys) ≡ last_from fs c label (last_from fs c label here k xs) (k + length xs) ys
last-append fs c label here k [] ys = ap (λ n. last_from fs c label here n ys) (more_zero k)
  where
    more_zero : (k : ℕ) → k ≡ k + 0
    more_zero k = omega arith
last-append fs c label here k (x ∷ xs) ys =
    last-append fs c label (option_map_or (λ (d : Copy). d.path) (opened fs c (call_path c label k) x.inst) here) (k + 1) xs ys
    ∙ ap (λ n. last_from fs c label (last_from fs c label (option_map_or (λ (d : Copy). d.path) (opened fs c (call_path c label k) x.inst) here) (k + 1) xs) n ys) (moved k (length xs))
  where
    moved : (k m : ℕ) → k + 1 + m ≡ k + suc m
    moved k m = omega arith

last-is : (fs : List UnitText) (c : Copy) (label here : List ℕ) (k : ℕ) (ls : List LineText) → Piece c.path label here → Piece c.path label (last_from fs c label here k ls)
last-is fs c label here k [] p = p
last-is fs c label here k (l ∷ ls) p = last-is fs c label (option_map_or (λ (d : Copy). d.path) (opened fs c (call_path c label k) l.inst) here) (k + 1) ls
    (by (opened fs c (call_path c label k) l.inst) refl)
  where
    by : (o : Option Copy) → opened fs c (call_path c label k) l.inst ≡ o → Piece c.path label (option_map_or (λ (d : Copy). d.path) o here)
    by None q = p
    by (Some d) q = record { more = (256 + k) ∷ []; behind = mark_behind k [] refl; is = opens-path fs c (call_path c label k) l.inst d (opens-is fs c (call_path c label k) l.inst d q) }

first-is : (c : Copy) (label : List ℕ) → Piece c.path label (first_piece c label)
first-is c label = record { more = []; behind = nothing_behind refl; is = sym (append-nil (c.path ++ label)) }

pub last_piece-is : (fs : List UnitText) (c : Copy) (b : BlockText) → Piece c.path (label_or b.label) (last_piece fs c b)
last_piece-is fs c b = last-is fs c (label_or b.label) (first_piece c (label_or b.label)) 0 b.lines (first-is c (label_or b.label))

pub last_piece_of-is : (fs : List UnitText) (c : Copy) (label : List ℕ) → Piece c.path label (last_piece_of fs c label)
last_piece_of-is fs c label = by (block_of label c.unit.blocks) refl
  where
    by : (o : Option BlockText) → block_of label c.unit.blocks ≡ o → Piece c.path label (option_map_or (last_piece fs c) o (first_piece c label))
    by None q = first-is c label
    by (Some b) q = subst (λ n. Piece c.path n (last_piece fs c b)) (label-found label c.unit.blocks b q) (last_piece-is fs c b)

-- last pieces of two blocks are one where their labels are
pub pieces-apart : (p m n x y : List ℕ) → IsPlain m → IsPlain n → Piece p m x → Piece p n y → (m ≡ n → ⊥) → same_name x y ≡ false
pieces-apart p m n x y a b u v h = not_same x y (λ e. h (path-apart p m n u.more v.more a b u.behind v.behind (sym u.is ∙ e ∙ v.is)))

pub last-same : (fs : List UnitText) (c : Copy) (m n : List ℕ) → IsPlain m → IsPlain n → same_name (last_piece_of fs c m) (last_piece_of fs c n) ≡ same_name m n
last-same fs c m n a b = by (names m n)
  where
    by : Names m n → same_name (last_piece_of fs c m) (last_piece_of fs c n) ≡ same_name m n
    by (one e s) = is_same (last_piece_of fs c m) (last_piece_of fs c n) (ap (last_piece_of fs c) e) ∙ sym s
    by (two e s) = pieces-apart c.path m n (last_piece_of fs c m) (last_piece_of fs c n) a b (last_piece_of-is fs c m) (last_piece_of-is fs c n) e ∙ sym s

-- the edge of a `phi` in a copy
pub edge-copied : (fs : List UnitText) (c : Copy) (from : List ℕ) (edges : List EdgeText) → IsPlain from → Each (λ (e : EdgeText). IsPlain e.block) edges
    → edge_from (last_piece_of fs c from) (map (copied_edge fs c) edges) ≡ option_map c.value (edge_from from edges)
edge-copied fs c from [] p h = refl
edge-copied fs c from (e ∷ edges) p h =
    ap (λ b. if b then Some (c.value e.value) else edge_from (last_piece_of fs c from) (map (copied_edge fs c) edges)) (last-same fs c e.block from h.0 p)
    ∙ by (same_name e.block from) (edge-copied fs c from edges p h.1)
  where
    by : (b : Bool) → edge_from (last_piece_of fs c from) (map (copied_edge fs c) edges) ≡ option_map c.value (edge_from from edges)
        → (if b then Some (c.value e.value) else edge_from (last_piece_of fs c from) (map (copied_edge fs c) edges)) ≡ option_map c.value (if b then Some e.value else edge_from from edges)
    by true q = refl
    by false q = q

-- ---- what a copy gives back

edge-right : (here : List ℕ) (xs ys : List EdgeText) → edge_from here xs ≡ None → edge_from here (xs ++ ys) ≡ edge_from here ys
edge-right here [] ys e = refl
edge-right here (x ∷ xs) ys e = by (same_name x.block here) e (edge-right here xs ys)
  where
    by : (b : Bool) → (if b then Some x.value else edge_from here xs) ≡ None → (edge_from here xs ≡ None → edge_from here (xs ++ ys) ≡ edge_from here ys)
        → (if b then Some x.value else edge_from here (xs ++ ys)) ≡ edge_from here ys
    by true q go = absurd (none-some x.value (sym q))
    by false q go = go q

edge-left : (here : List ℕ) (xs ys : List EdgeText) (v : List ℕ) → edge_from here xs ≡ Some v → edge_from here (xs ++ ys) ≡ Some v
edge-left here [] ys v e = absurd (none-some v e)
edge-left here (x ∷ xs) ys v e = by (same_name x.block here) e (edge-left here xs ys v)
  where
    by : (b : Bool) → (if b then Some x.value else edge_from here xs) ≡ Some v → (edge_from here xs ≡ Some v → edge_from here (xs ++ ys) ≡ Some v)
        → (if b then Some x.value else edge_from here (xs ++ ys)) ≡ Some v
    by true q go = q
    by false q go = go q

-- none from another block
given-elsewhere : (d : Copy) (block here : List ℕ) (ls : List LineText) → same_name block here ≡ false → edge_from here (given_in d block ls) ≡ None
given-elsewhere d block here [] e = refl
given-elsewhere d block here (l ∷ ls) e = by l.inst (given-elsewhere d block here ls e)
  where
    by : (i : InstText) → edge_from here (given_in d block ls) ≡ None → edge_from here (edge_if_given d block i (given_in d block ls)) ≡ None
    by (ret_text (Some o)) q = ap (λ b. if b then Some (d.value o.value) else edge_from here (given_in d block ls)) e ∙ q
    by (ret_text None) q = q
    by _ q = q

-- the one that ends the block
given-here : (d : Copy) (block : List ℕ) (before : List LineText) (l : LineText) (o : OperandText) → Each (λ (x : LineText). is_terminator x.inst ≡ false) before → l.inst ≡ ret_text (Some o)
    → edge_from block (given_in d block (before ++ l ∷ [])) ≡ Some (d.value o.value)
given-here d block [] l o h e =
    ap (λ i. edge_from block (edge_if_given d block i [])) e
    ∙ ap (λ b. if b then Some (d.value o.value) else None) (is_same block block refl)
given-here d block (x ∷ before) l o h e = by x.inst h.0 (given-here d block before l o h.1 e)
  where
    by : (i : InstText) → is_terminator i ≡ false → edge_from block (given_in d block (before ++ l ∷ [])) ≡ Some (d.value o.value)
        → edge_from block (edge_if_given d block i (given_in d block (before ++ l ∷ []))) ≡ Some (d.value o.value)
    by (ret_text (Some y)) t q = absurd cc
    by (ret_text None) t q = q
    by _ t q = q

given-blocks : (fs : List UnitText) (d : Copy) (label : List ℕ) (text : BlockText) (before : List LineText) (l : LineText) (o : OperandText) (bs : List BlockText) → Each IsLabelled bs → IsPlain label
    → block_of label bs ≡ Some text → text.lines ≡ before ++ l ∷ []
    → Each (λ (x : LineText). is_terminator x.inst ≡ false) before → l.inst ≡ ret_text (Some o) → edge_from (last_piece fs d text) (flat_map (λ b. given_in d (last_piece fs d b) b.lines) bs)
    ≡ Some (d.value o.value)
given-blocks fs d label text before l o [] w p s e h i = absurd (none-some text s)
given-blocks fs d label text before l o (y ∷ bs) w p s e h i = by (is_result_name label y.label) refl s (λ q. given-blocks fs d label text before l o bs w.1 p q e h i)
  where
    labels : (n : Option (List ℕ)) → label_or n ≡ label → (label_or n ≡ [] → ⊥) → is_result_name label n ≡ true
    labels None g m = absurd (m refl)
    labels (Some m) g x = is_same m label g

    by : (t : Bool) → is_result_name label y.label ≡ t → (if t then Some y else block_of label bs) ≡ Some text
        → (block_of label bs ≡ Some text → edge_from (last_piece fs d text) (flat_map (λ b. given_in d (last_piece fs d b) b.lines) bs) ≡ Some (d.value o.value))
        → edge_from (last_piece fs d text) (given_in d (last_piece fs d y) y.lines ++ flat_map (λ b. given_in d (last_piece fs d b) b.lines) bs) ≡ Some (d.value o.value)
    by true r q go =
        let m : text ≡ y = sym (same_Some y text q) in
        subst (λ (x : BlockText). edge_from (last_piece fs d text) (given_in d (last_piece fs d x) x.lines ++ flat_map (λ b. given_in d (last_piece fs d b) b.lines) bs) ≡ Some (d.value o.value)) m
        (edge-left (last_piece fs d text) (given_in d (last_piece fs d text) text.lines) (flat_map (λ b. given_in d (last_piece fs d b) b.lines) bs) (d.value o.value)
        (ap (λ ls. edge_from (last_piece fs d text) (given_in d (last_piece fs d text) ls)) e ∙ given-here d (last_piece fs d text) before l o h i))
    by false r q go =
        edge-right (last_piece fs d text) (given_in d (last_piece fs d y) y.lines) (flat_map (λ b. given_in d (last_piece fs d b) b.lines) bs)
        (given-elsewhere d (last_piece fs d y) (last_piece fs d text) y.lines
        (pieces-apart d.path (label_or y.label) label (last_piece fs d y) (last_piece fs d text) w.0.plain p (last_piece-is fs d y)
        (subst (λ n. Piece d.path n (last_piece fs d text)) (label-found label bs text q) (last_piece-is fs d text)) other))
        ∙ go q
      where
        other : label_or y.label ≡ label → ⊥
        other g = let n : is_result_name label y.label ≡ true = labels y.label g w.0.some in cc

-- the value that a `ret` gives is on the edge from its block
pub edge-given : (fs : List UnitText) (d : Copy) (label : List ℕ) (text : BlockText) (before : List LineText) (l : LineText) (o : OperandText) → Each IsLabelled d.unit.blocks → IsPlain label
    → block_of label d.unit.blocks ≡ Some text → text.lines ≡ before ++ l ∷ []
    → EndsOnce text.lines → l.inst ≡ ret_text (Some o) → edge_from (last_piece fs d text) (given_by fs d) ≡ Some (d.value o.value)
edge-given fs d label text before l o w p s e h i = given-blocks fs d label text before l o d.unit.blocks w p s e (ends-before before [] l (subst EndsOnce e h)) i
