-- Each block of a copy is found in the flat text by its label.
use Rattle.std.proofs.Common.{◌≡◌, ℕ, zero, suc, ◌+◌, Bool, true, false, if◌then◌else◌, List, [], ◌∷◌, ◌++◌, length, map, Option, Some, None, refl, ap, sym, ◌∙◌, subst, arith}
use Rattle.std.specs.List.{flat_map}
use Rattle.std.specs.Option.{option_map}
use Rattle.std.proofs.lemmas.List.{append_cancel_left, append_assoc, append-nil}
use Rattle.std.proofs.lemmas.Option.{same_Some, none-some}
use Rattle.lh_types.specs.Types.{TypeTree}
use Rattle.lh_unit_names.specs.declared.name.UnitName.{UnitName}
use Rattle.lh_unit.specs.Contents.{OperandText, InstText, call_text, LineText, BlockText, UnitText, is_result_name}
use Rattle.lh_unit_names.specs.Names.{same_name}
use Rattle.lh_unit.specs.Named.{block_of, function_named, label_or}
use Rattle.lh_unit_names.specs.UnitNames.{is_assert}
use Rattle.lh_unit.specs.Typing.{or_else}
use Rattle.lh_unit.specs.Within.{Each}
use Rattle.lh_unit.proofs.Lists.{Each-append}
use Rattle.lh_unit_names.proofs.NameLists.{same_name-is}
use Rattle.lh_unit.proofs.Within.{Each-more}
use Rattle.lh_flat.specs.Copies.{Copy, call_path, copy_at, opened, first_piece}
use Rattle.lh_flat.specs.Flat.{FlatBlockText, Pieces, merge_of, with_line, pieces_from, flat_block, flat_copy, as_block}
use Rattle.lh_flat.specs.Marks.{IsPlain}
use Rattle.lh_flat.proofs.Marks.{not_same, is_same, Behind, nothing_behind, mark_behind, path-apart, longer-apart, not_empty}

-- the first of these blocks with this label
abbrev pub found : List ℕ → List FlatBlockText → Option FlatBlockText
found n [] = None
found n (b ∷ more) = if same_name b.label n then Some b else found n more

pub found-block : (n : List ℕ) (bs : List FlatBlockText) → block_of n (map as_block bs) ≡ option_map as_block (found n bs)
found-block n [] = refl
found-block n (b ∷ bs) = by (same_name b.label n) (found-block n bs)
  where
    by : (c : Bool) → block_of n (map as_block bs) ≡ option_map as_block (found n bs)
        → (if c then Some (as_block b) else block_of n (map as_block bs)) ≡ option_map as_block (if c then Some b else found n bs)
    by true e = refl
    by false e = e

found-append : (n : List ℕ) (xs ys : List FlatBlockText) → found n (xs ++ ys) ≡ or_else (found n xs) (found n ys)
found-append n [] ys = refl
found-append n (x ∷ xs) ys = by (same_name x.label n) (found-append n xs ys)
  where
    by : (c : Bool) → found n (xs ++ ys) ≡ or_else (found n xs) (found n ys) → (if c then Some x else found n (xs ++ ys)) ≡ or_else (if c then Some x else found n xs) (found n ys)
    by true e = refl
    by false e = e

found-left : (n : List ℕ) (xs ys : List FlatBlockText) (x : FlatBlockText) → found n xs ≡ Some x → found n (xs ++ ys) ≡ Some x
found-left n xs ys x e = found-append n xs ys ∙ ap (λ o. or_else o (found n ys)) e

found-right : (n : List ℕ) (xs ys : List FlatBlockText) → found n xs ≡ None → found n (xs ++ ys) ≡ found n ys
found-right n xs ys e = found-append n xs ys ∙ ap (λ o. or_else o (found n ys)) e

-- no block has the label
found-none : {P : List ℕ → Type 0} (n : List ℕ) (bs : List FlatBlockText) → ((l : List ℕ) → P l → l ≡ n → ⊥) → Each (λ (b : FlatBlockText). P b.label) bs → found n bs ≡ None
found-none n [] h e = refl
found-none n (b ∷ bs) h e = ap (λ c. if c then Some b else found n bs) (not_same b.label n (h b.label e.0)) ∙ found-none n bs h e.1

-- what a line is that opens a copy
pub record Opens (fs : List UnitText) (c : Copy) (path : List ℕ) (i : InstText) (d : Copy) : Type 0 where
  pub callee : UnitName
  pub ty : TypeTree
  pub args : List OperandText
  pub inst : i ≡ call_text callee ty args
  pub no_assert : is_assert callee ≡ false
  pub named : function_named callee fs ≡ Some d.unit
  pub copy : copy_at path (map (λ (o : OperandText). c.value o.value) args) d.unit ≡ d

pub opens-is : (fs : List UnitText) (c : Copy) (path : List ℕ) (i : InstText) (d : Copy) → opened fs c path i ≡ Some d → Opens fs c path i d
opens-is fs c path (call_text f r args) d e = by (is_assert f) refl (function_named f fs) refl e
  where
    by : (b : Bool) → is_assert f ≡ b → (o : Option UnitText) → function_named f fs ≡ o → (if b then None else option_map (copy_at path (map (λ (o : OperandText). c.value o.value) args)) o) ≡ Some d
        → Opens fs c path (call_text f r args) d
    by true a o n q = absurd (none-some d q)
    by false a None n q = absurd (none-some d q)
    by false a (Some g) n q =
        let w : copy_at path (map (λ (o : OperandText). c.value o.value) args) g ≡ d = same_Some (copy_at path (map (λ (o : OperandText). c.value o.value) args) g) d q in
        record {
          callee = f;
          ty = r;
          args = args;
          inst = refl;
          no_assert = a;
          named = n ∙ ap (λ (x : Copy). Some x.unit) w;
          copy = ap (λ (x : Copy). copy_at path (map (λ (o : OperandText). c.value o.value) args) x.unit) (sym w) ∙ w;
        }
opens-is fs c path _ d e = absurd (none-some d e)

pub opens-path : (fs : List UnitText) (c : Copy) (path : List ℕ) (i : InstText) (d : Copy) → Opens fs c path i d → d.path ≡ path
opens-path fs c path i d o = sym (ap (λ (x : Copy). x.path) o.copy)

-- ---- the labels of a copy

-- a label under a path: the path, and more
pub record Under (p l : List ℕ) : Type 0 where
  pub more : List ℕ
  pub some : more ≡ [] → ⊥
  pub is : l ≡ p ++ more

-- a label of a piece of a block: with nothing behind it, or a mark
pub record Piece (p label l : List ℕ) : Type 0 where
  pub more : List ℕ
  pub behind : Behind more
  pub is : l ≡ (p ++ label) ++ more

-- the labels of a unit's blocks are not empty, and of bytes
pub record IsLabelled (b : BlockText) : Type 0 where
  pub some : label_or b.label ≡ [] → ⊥
  pub plain : IsPlain (label_or b.label)

abbrev pub UnitLabelled : UnitText → Type 0
UnitLabelled u = Each IsLabelled u.blocks

-- so it is of each function
abbrev pub AllLabelled : List UnitText → Type 0
AllLabelled fs = (n : UnitName) (f : UnitText) → function_named n fs ≡ Some f → UnitLabelled f

abbrev pub AllUnder : (copy_of : Copy → List FlatBlockText) → Type 0
AllUnder copy_of = (d : Copy) → UnitLabelled d.unit → Each (λ (b : FlatBlockText). Under d.path b.label) (copy_of d)

-- under the path of a call are pieces of the block
under-piece : (p label l : List ℕ) (k : ℕ) → Under ((p ++ label) ++ (256 + k) ∷ []) l → Piece p label l
under-piece p label l k u = record { more = (256 + k) ∷ u.more; behind = mark_behind k u.more refl; is = u.is ∙ append_assoc (p ++ label) ((256 + k) ∷ []) u.more }

module _ (fs : List UnitText) (w : AllLabelled fs) where
  opens-labelled : (c : Copy) (path : List ℕ) (i : InstText) (d : Copy) → Opens fs c path i d → UnitLabelled d.unit
  opens-labelled c path i d o = w o.callee d.unit o.named

  line-labels : (copy_of : Copy → List FlatBlockText) → AllUnder copy_of → (c : Copy) (label : List ℕ) (k : ℕ) (l : LineText) (o : Option Copy) (p : Pieces)
      → opened fs c (call_path c label k) l.inst ≡ o
      → Each (λ (b : FlatBlockText). Piece c.path label b.label) p.more → Each (λ (b : FlatBlockText). Piece c.path label b.label) (with_line copy_of fs c l o p).more
  line-labels copy_of h c label k l None p q e = e
  line-labels copy_of h c label k l (Some d) p q e =
      let x = opens-is fs c (call_path c label k) l.inst d q in
      let z = opens-path fs c (call_path c label k) l.inst d x in
      Each-append (λ (b : FlatBlockText). Piece c.path label b.label) (copy_of d) (record { label = d.path; merge = merge_of fs c d l.inst l.result; lines = p.rest } ∷ p.more)
      (Each-more (λ (b : FlatBlockText). Under d.path b.label) (λ (b : FlatBlockText). Piece c.path label b.label) (copy_of d)
      (λ b u. under-piece c.path label b.label k (subst (λ y. Under y b.label) z u)) (h d (opens-labelled c (call_path c label k) l.inst d x)))
      (record { more = (256 + k) ∷ []; behind = mark_behind k [] refl; is = z }, e)

  pieces-labels : (copy_of : Copy → List FlatBlockText) → AllUnder copy_of → (c : Copy) (label : List ℕ) (k : ℕ) (ls : List LineText)
      → Each (λ (b : FlatBlockText). Piece c.path label b.label) (pieces_from copy_of fs c label k ls).more
  pieces-labels copy_of h c label k [] = tt
  pieces-labels copy_of h c label k (l ∷ ls) =
      line-labels copy_of h c label k l (opened fs c (call_path c label k) l.inst) (pieces_from copy_of fs c label (k + 1) ls) refl (pieces-labels copy_of h c label (k + 1) ls)

  block-labels : (copy_of : Copy → List FlatBlockText) → AllUnder copy_of → (c : Copy) (b : BlockText)
      → Each (λ (x : FlatBlockText). Piece c.path (label_or b.label) x.label) (flat_block copy_of fs c b)
  block-labels copy_of h c b = (
    record { more = []; behind = nothing_behind refl; is = sym (append-nil (c.path ++ label_or b.label)) },
    pieces-labels copy_of h c (label_or b.label) 0 b.lines,
  )

  blocks-under : (copy_of : Copy → List FlatBlockText) → AllUnder copy_of → (c : Copy) (bs : List BlockText) → Each IsLabelled bs
      → Each (λ (x : FlatBlockText). Under c.path x.label) (flat_map (flat_block copy_of fs c) bs)
  blocks-under copy_of h c [] e = tt
  blocks-under copy_of h c (b ∷ bs) e =
      Each-append (λ (x : FlatBlockText). Under c.path x.label) (flat_block copy_of fs c b) (flat_map (flat_block copy_of fs c) bs)
      (Each-more (λ (x : FlatBlockText). Piece c.path (label_or b.label) x.label) (λ (x : FlatBlockText). Under c.path x.label) (flat_block copy_of fs c b)
      (λ x p. record { more = label_or b.label ++ p.more; some = not_empty (label_or b.label) p.more e.0.some; is = p.is ∙ append_assoc c.path (label_or b.label) p.more })
      (block-labels copy_of h c b))
      (blocks-under copy_of h c bs e.1)

  copy-under : (k : ℕ) → AllUnder (flat_copy k fs)
  copy-under zero d e = tt
  copy-under (suc k) d e = blocks-under (flat_copy k fs) (copy-under k) d d.unit.blocks e

  -- ---- a block is found

  -- what is found in the pieces of the block of a label is found in the copy
  in-blocks : (k : ℕ) (c : Copy) (label z : List ℕ) (bs : List BlockText) (b : BlockText) (x : FlatBlockText) → IsPlain label → Behind z → Each IsLabelled bs → block_of label bs ≡ Some b
      → found ((c.path ++ label) ++ z) (flat_block (flat_copy k fs) fs c b) ≡ Some x → found ((c.path ++ label) ++ z) (flat_map (flat_block (flat_copy k fs) fs c) bs) ≡ Some x
  in-blocks k c label z [] b x p h e s f = absurd (none-some b s)
  in-blocks k c label z (y ∷ bs) b x p h e s f = by (is_result_name label y.label) refl s (λ q. in-blocks k c label z bs b x p h e.1 q f)
    where
      by : (t : Bool) → is_result_name label y.label ≡ t → (if t then Some y else block_of label bs) ≡ Some b
          → (block_of label bs ≡ Some b → found ((c.path ++ label) ++ z) (flat_map (flat_block (flat_copy k fs) fs c) bs) ≡ Some x)
          → found ((c.path ++ label) ++ z) (flat_block (flat_copy k fs) fs c y ++ flat_map (flat_block (flat_copy k fs) fs c) bs) ≡ Some x
      by true r q go =
          let m : b ≡ y = sym (same_Some y b q) in
          found-left ((c.path ++ label) ++ z) (flat_block (flat_copy k fs) fs c y) (flat_map (flat_block (flat_copy k fs) fs c) bs) x
          (subst (λ v. found ((c.path ++ label) ++ z) (flat_block (flat_copy k fs) fs c v) ≡ Some x) m f)
      by false r q go =
          found-right ((c.path ++ label) ++ z) (flat_block (flat_copy k fs) fs c y) (flat_map (flat_block (flat_copy k fs) fs c) bs)
          (found-none ((c.path ++ label) ++ z) (flat_block (flat_copy k fs) fs c y) other (block-labels (flat_copy k fs) (copy-under k) c y))
          ∙ go q
        where
          labels : (o : Option (List ℕ)) → label_or o ≡ label → (label_or o ≡ [] → ⊥) → is_result_name label o ≡ true
          labels None g n = absurd (n refl)
          labels (Some m) g n = is_same m label g

          other : (l : List ℕ) → Piece c.path (label_or y.label) l → l ≡ (c.path ++ label) ++ z → ⊥
          other l i g =
              let m : label_or y.label ≡ label = path-apart c.path (label_or y.label) label i.more z e.0.plain p i.behind h (sym i.is ∙ g) in
              let n : is_result_name label y.label ≡ true = labels y.label m e.0.some in cc

  -- the copies and pieces of the lines before a call are passed
  in-pieces : (k : ℕ) (c : Copy) (label z : List ℕ) (j m : ℕ) (before rest : List LineText) (l : LineText) (x : FlatBlockText) → m ≡ j + length before
      → found ((c.path ++ label) ++ ((256 + m) ∷ z)) (pieces_from (flat_copy k fs) fs c label m (l ∷ rest)).more ≡ Some x
      → found ((c.path ++ label) ++ ((256 + m) ∷ z)) (pieces_from (flat_copy k fs) fs c label j (before ++ l ∷ rest)).more ≡ Some x
  in-pieces k c label z j m [] rest l x e f = subst (λ n. found ((c.path ++ label) ++ ((256 + m) ∷ z)) (pieces_from (flat_copy k fs) fs c label n (l ∷ rest)).more ≡ Some x) (zero_more m j e) f
    where
      zero_more : (m j : ℕ) → m ≡ j + 0 → m ≡ j
      zero_more m j e = omega arith
  in-pieces k c label z j m (y ∷ before) rest l x e f = by (opened fs c (call_path c label j) y.inst) refl (in-pieces k c label z (j + 1) m before rest l x (next m j (length before) e) f)
    where
      next : (m j n : ℕ) → m ≡ j + suc n → m ≡ (j + 1) + n
      next m j n e = omega arith

      before_it : j ≡ m → ⊥
      before_it q = omega (arith, e, q)

      firsts : (a b : ℕ) (v w : List ℕ) → (256 + a) ∷ v ≡ (256 + b) ∷ w → a ≡ b
      firsts a b v w q = let h : 256 + a ≡ 256 + b = cc in omega (arith, h)

      other : (l : List ℕ) (v : List ℕ) → l ≡ (c.path ++ label) ++ ((256 + j) ∷ v) → l ≡ (c.path ++ label) ++ ((256 + m) ∷ z) → ⊥
      other l v q r = before_it (firsts j m v z (append_cancel_left (c.path ++ label) ((256 + j) ∷ v) ((256 + m) ∷ z) (sym q ∙ r)))

      by : (o : Option Copy) → opened fs c (call_path c label j) y.inst ≡ o
          → found ((c.path ++ label) ++ ((256 + m) ∷ z)) (pieces_from (flat_copy k fs) fs c label (j + 1) (before ++ l ∷ rest)).more ≡ Some x
          → found ((c.path ++ label) ++ ((256 + m) ∷ z)) (with_line (flat_copy k fs) fs c y o (pieces_from (flat_copy k fs) fs c label (j + 1) (before ++ l ∷ rest))).more ≡ Some x
      by None q go = go
      by (Some d) q go =
          let w = opens-is fs c (call_path c label j) y.inst d q in
          let s = opens-path fs c (call_path c label j) y.inst d w in
          found-right ((c.path ++ label) ++ ((256 + m) ∷ z)) (flat_copy k fs d) _
          (found-none ((c.path ++ label) ++ ((256 + m) ∷ z)) (flat_copy k fs d) (λ n u g. other n u.more (u.is ∙ ap (λ v. v ++ u.more) s ∙ append_assoc (c.path ++ label) ((256 + j) ∷ []) u.more) g)
          (copy-under k d (opens-labelled c (call_path c label j) y.inst d w)))
          ∙ ap (λ b. if b then Some (record { label = d.path; merge = merge_of fs c d y.inst y.result; lines = (pieces_from (flat_copy k fs) fs c label (j + 1) (before ++ l ∷ rest)).rest }) else found
          ((c.path ++ label) ++ ((256 + m) ∷ z)) (pieces_from (flat_copy k fs) fs c label (j + 1) (before ++ l ∷ rest)).more)
          (not_same d.path ((c.path ++ label) ++ ((256 + m) ∷ z)) (λ g. other d.path [] s g))
          ∙ go

  -- the first piece of a block, and a piece behind one of its calls
  abbrev pub first_of : (k : ℕ) → Copy → BlockText → FlatBlockText
  first_of k c b = record { label = first_piece c (label_or b.label); merge = None; lines = (pieces_from (flat_copy k fs) fs c (label_or b.label) 0 b.lines).rest }

  abbrev pub next_of : (k : ℕ) → (c d : Copy) → (label : List ℕ) → (at : ℕ) → LineText → List LineText → FlatBlockText
  next_of k c d label at l rest = record { label = d.path; merge = merge_of fs c d l.inst l.result; lines = (pieces_from (flat_copy k fs) fs c label (at + 1) rest).rest }

  -- all that is found in a copy is found in all
  pub record BlocksAreFound (all : List FlatBlockText) (k : ℕ) (c : Copy) : Type 0 where
    pub at : (z : List ℕ) (x : FlatBlockText) → (z ≡ [] → ⊥) → found (c.path ++ z) (flat_copy k fs c) ≡ Some x → found (c.path ++ z) all ≡ Some x

  module _ (all : List FlatBlockText) (k : ℕ) (c : Copy) (o : BlocksAreFound all (suc k) c) (v : UnitLabelled c.unit) (label : List ℕ) (b : BlockText) (s : block_of label c.unit.blocks ≡ Some b)
      (p : IsPlain label) (e : label ≡ label_or b.label) where
    not_nothing : label ≡ [] → ⊥
    not_nothing q = nonempty c.unit.blocks v s
      where
        is-none : (o : Option (List ℕ)) → (label_or o ≡ [] → ⊥) → is_result_name label o ≡ true → ⊥
        is-none None g r = absurd (g refl)
        is-none (Some m) g r = g (same_name-is m label r ∙ q)

        nonempty : (bs : List BlockText) → Each IsLabelled bs → block_of label bs ≡ Some b → ⊥
        nonempty [] h r = none-some b r
        nonempty (y ∷ bs) h r = by (is_result_name label y.label) refl r (nonempty bs h.1)
          where
            by : (t : Bool) → is_result_name label y.label ≡ t → (if t then Some y else block_of label bs) ≡ Some b → (block_of label bs ≡ Some b → ⊥) → ⊥
            by true g r go = is-none y.label h.0.some g
            by false g r go = go r

    whole : (z : List ℕ) (x : FlatBlockText) → Behind z → found ((c.path ++ label) ++ z) (flat_block (flat_copy k fs) fs c b) ≡ Some x → found ((c.path ++ label) ++ z) all ≡ Some x
    whole z x h f =
        subst (λ n. found n all ≡ Some x) (sym (append_assoc c.path label z))
        (o.at (label ++ z) x (not_empty label z not_nothing)
        (subst (λ n. found n (flat_copy (suc k) fs c) ≡ Some x) (append_assoc c.path label z) (in-blocks k c label z c.unit.blocks b x p h v s f)))

    pub first-found : found (first_piece c label) all ≡ Some (first_of k c b)
    first-found =
        subst (λ n. found n all ≡ Some (first_of k c b)) (append-nil (c.path ++ label))
        (whole [] (first_of k c b) (nothing_behind refl)
        (ap (λ t. if t then Some (first_of k c b) else found ((c.path ++ label) ++ []) (pieces_from (flat_copy k fs) fs c (label_or b.label) 0 b.lines).more)
        (is_same (c.path ++ label_or b.label) ((c.path ++ label) ++ []) (ap (λ n. c.path ++ n) (sym e) ∙ sym (append-nil (c.path ++ label))))))

    -- of a call
    module _ (before rest : List LineText) (l : LineText) (d : Copy) (y : b.lines ≡ before ++ l ∷ rest) (q : opened fs c (call_path c label (length before)) l.inst ≡ Some d) where
      opens : Opens fs c (call_path c label (length before)) l.inst d
      opens = opens-is fs c (call_path c label (length before)) l.inst d q

      path-is : d.path ≡ (c.path ++ label) ++ (256 + length before) ∷ []
      path-is = opens-path fs c (call_path c label (length before)) l.inst d opens

      zero_first : (n : ℕ) → n ≡ 0 + n
      zero_first n = omega arith

      -- what is found behind the call is found in all
      in-call : (z : List ℕ) (x : FlatBlockText)
          → found ((c.path ++ label) ++ ((256 + length before) ∷ z)) (with_line (flat_copy k fs) fs c l (Some d) (pieces_from (flat_copy k fs) fs c label (length before + 1) rest)).more ≡ Some x
          → found ((c.path ++ label) ++ ((256 + length before) ∷ z)) all ≡ Some x
      in-call z x f =
          whole ((256 + length before) ∷ z) x (mark_behind (length before) z refl)
          (ap (λ t. if t then Some (first_of k c b) else found ((c.path ++ label) ++ ((256 + length before) ∷ z)) (pieces_from (flat_copy k fs) fs c (label_or b.label) 0 b.lines).more)
          (not_same (c.path ++ label_or b.label) ((c.path ++ label) ++ ((256 + length before) ∷ z))
          (λ g. longer-apart (c.path ++ label) ((256 + length before) ∷ z) (λ r. marked r) (sym g ∙ ap (λ n. c.path ++ n) (sym e))))
          ∙ subst (λ n. found ((c.path ++ label) ++ ((256 + length before) ∷ z)) (pieces_from (flat_copy k fs) fs c n 0 b.lines).more ≡ Some x) e
          (subst (λ ls. found ((c.path ++ label) ++ ((256 + length before) ∷ z)) (pieces_from (flat_copy k fs) fs c label 0 ls).more ≡ Some x) (sym y)
          (in-pieces k c label z 0 (length before) before rest l x (zero_first (length before))
          (subst (λ o. found ((c.path ++ label) ++ ((256 + length before) ∷ z)) (with_line (flat_copy k fs) fs c l o (pieces_from (flat_copy k fs) fs c label (length before + 1) rest)).more ≡ Some x)
          (sym q) f))))
        where
          marked : (256 + length before) ∷ z ≡ [] → ⊥
          marked r = cc

      pub call-stands : BlocksAreFound all k d
      call-stands = record {
        at = λ z x n f.
            subst (λ g. found g all ≡ Some x) (sym (ap (λ g. g ++ z) path-is ∙ append_assoc (c.path ++ label) ((256 + length before) ∷ []) z))
            (in-call z x (found-left ((c.path ++ label) ++ ((256 + length before) ∷ z)) (flat_copy k fs d) _ x
            (subst (λ g. found g (flat_copy k fs d) ≡ Some x) (ap (λ g. g ++ z) path-is ∙ append_assoc (c.path ++ label) ((256 + length before) ∷ []) z) f)));
      }

      pub next-found : found d.path all ≡ Some (next_of k c d label (length before) l rest)
      next-found =
          subst (λ g. found g all ≡ Some (next_of k c d label (length before) l rest)) (sym path-is)
          (in-call [] (next_of k c d label (length before) l rest)
          (found-right ((c.path ++ label) ++ (256 + length before) ∷ []) (flat_copy k fs d) _
          (found-none ((c.path ++ label) ++ (256 + length before) ∷ []) (flat_copy k fs d) (λ n u g. longer-apart d.path u.more u.some (sym u.is ∙ g ∙ sym path-is))
          (copy-under k d (opens-labelled c (call_path c label (length before)) l.inst d opens)))
          ∙ ap (λ t. if t then Some (next_of k c d label (length before) l rest) else found ((c.path ++ label) ++ (256 + length before) ∷ [])
          (pieces_from (flat_copy k fs) fs c label (length before + 1) rest).more)
          (is_same d.path ((c.path ++ label) ++ (256 + length before) ∷ []) path-is)))
