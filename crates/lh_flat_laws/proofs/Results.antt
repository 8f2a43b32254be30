-- Each result of a flat text stands once.
use Rattle.std.proofs.Common.{◌≡◌, ◌⊎◌, ◌||◌, ℕ, zero, suc, ◌+◌, List, [], ◌∷◌, ◌++◌, map, true, false, Option, Some, None, option_map, refl, ap, sym, ◌∙◌, inl, inr, subst, append_assoc}
use Rattle.std.specs.List.{flat_map}
use Rattle.std.proofs.lemmas.Bool.{or_parts, or_from}
use Rattle.std.proofs.lemmas.List.{append_cancel_left}
use Rattle.lh_unit_names.specs.declared.name.UnitName.{UnitName}
use Rattle.lh_unit.specs.Contents.{OperandText, InstText, call_text, LineText, BlockText, ArgText, UnitText, is_result_name, lines_define, args_define}
use Rattle.lh_unit_names.specs.Names.{same_name}
use Rattle.lh_unit.specs.Named.{function_named, label_or}
use Rattle.lh_unit.specs.Within.{Each}
use Rattle.lh_unit.specs.Hierarchy.{lines_of}
use Rattle.lh_unit.proofs.Lists.{Each-append, Each-left, Each-right}
use Rattle.lh_unit.proofs.Within.{Each-more}
use Rattle.lh_text_laws.specs.Printable.{result_repeats, results_repeat}
use Rattle.lh_flat.specs.Copies.{Copy, top_copy, call_path, opened}
use Rattle.lh_flat.specs.Flat.{FlatBlockText, Pieces, merge_of, with_line, pieces_from, with_merge, flat_block, flat_copy, flat_unit, max_nested, text_of, as_block}
use Rattle.lh_flat.specs.Marks.{IsPlain}
use Rattle.lh_flat.proofs.Marks.{is_same, not_same}
use Rattle.lh_flat.proofs.Apart.{Differs, Apart, differs-from, apart-append, Begins, UnderFrom, from-at, from-first, from-later, at-apart, begins-under, line-apart, plain-under, begins-more}
use Rattle.lh_flat_laws.proofs.HeldValues.{other-name}
use Rattle.lh_flat_laws.proofs.BlocksFound.{opens-is, Opens}
use Rattle.lh_flat_laws.specs.Members.{Among}
use Rattle.lh_flat_laws.proofs.Members.{in-each, among-left, among-right}

-- ---- the names of results

-- one more name in front, where there is one
abbrev pub named : Option (List ℕ) → List (List ℕ) → List (List ℕ)
named None more = more
named (Some n) more = n ∷ more

-- the names of the results of these lines, in order
abbrev pub results : List LineText → List (List ℕ)
results [] = []
results (l ∷ more) = named l.result (results more)

-- those of the blocks of a flat text
abbrev pub given : List FlatBlockText → List (List ℕ)
given bs = results (lines_of (map as_block bs))

named-append : (r : Option (List ℕ)) (xs ys : List (List ℕ)) → named r (xs ++ ys) ≡ named r xs ++ ys
named-append None xs ys = refl
named-append (Some n) xs ys = refl

results-append : (xs ys : List LineText) → results (xs ++ ys) ≡ results xs ++ results ys
results-append [] ys = refl
results-append (l ∷ xs) ys = ap (named l.result) (results-append xs ys) ∙ named-append l.result (results xs) (results ys)

lines-append : (xs ys : List FlatBlockText) → lines_of (map as_block (xs ++ ys)) ≡ lines_of (map as_block xs) ++ lines_of (map as_block ys)
lines-append [] ys = refl
lines-append (b ∷ xs) ys = ap (λ ls. with_merge b.merge b.lines ++ ls) (lines-append xs ys) ∙ sym (append_assoc (with_merge b.merge b.lines) (lines_of (map as_block xs)) (lines_of (map as_block ys)))

given-append : (xs ys : List FlatBlockText) → given (xs ++ ys) ≡ given xs ++ given ys
given-append xs ys = ap results (lines-append xs ys) ∙ results-append (lines_of (map as_block xs)) (lines_of (map as_block ys))

-- ---- names that stand once

differs-among : (x y : List ℕ) (ys : List (List ℕ)) → Differs x ys → Among y ys → x ≡ y → ⊥
differs-among x y ys d a e = in-each (λ z. x ≡ z → ⊥) ys y d a e

apart-left : (xs ys : List (List ℕ)) → Apart (xs ++ ys) → Apart xs
apart-left [] ys h = tt
apart-left (x ∷ xs) ys h = (Each-left (λ z. x ≡ z → ⊥) xs ys h.0, apart-left xs ys h.1)

apart-right : (xs ys : List (List ℕ)) → Apart (xs ++ ys) → Apart ys
apart-right [] ys h = h
apart-right (x ∷ xs) ys h = apart-right xs ys h.1

apart-across : (xs ys : List (List ℕ)) (x y : List ℕ) → Apart (xs ++ ys) → Among x xs → Among y ys → x ≡ y → ⊥
apart-across [] ys x y h a b e = elim a [ ]
apart-across (z ∷ xs) ys x y h (inl q) b e = differs-among z y ys (Each-right (λ w. z ≡ w → ⊥) xs ys h.0) b (q ∙ e)
apart-across (z ∷ xs) ys x y h (inr a) b e = apart-across xs ys x y h.1 a b e

-- no argument and no earlier line has this name
abbrev pub IsNewIn : List ArgText → (seen : List LineText) → List ℕ → Type 0
IsNewIn args seen n = (args_define n args ≡ false) × (lines_define n seen ≡ false)

define-append : (n : List ℕ) (seen : List LineText) (l : LineText) → lines_define n seen ≡ false → is_result_name n l.result ≡ false → lines_define n (seen ++ l ∷ []) ≡ false
define-append n [] l p q = or_from (is_result_name n l.result) false q refl
define-append n (x ∷ seen) l p q =
    let r = or_parts (is_result_name n x.result) (lines_define n seen) p in
    or_from (is_result_name n x.result) (lines_define n (seen ++ l ∷ [])) r.0 (define-append n seen l r.1 q)

define-parts : (n : List ℕ) (seen : List LineText) (l : LineText) → lines_define n (seen ++ l ∷ []) ≡ false → (lines_define n seen ≡ false) × (is_result_name n l.result ≡ false)
define-parts n [] l p = (refl, (or_parts (is_result_name n l.result) false p).0)
define-parts n (x ∷ seen) l p =
    let r = or_parts (is_result_name n x.result) (lines_define n (seen ++ l ∷ [])) p in
    let s = define-parts n seen l r.1 in
    (or_from (is_result_name n x.result) (lines_define n seen) r.0 s.0, s.1)

-- so results do not repeat
pub results-new : (args : List ArgText) (seen ls : List LineText) → Apart (results ls) → Each (IsNewIn args seen) (results ls) → results_repeat args seen ls ≡ false
results-new args seen [] a h = refl
results-new args seen (l ∷ ls) a h = by l.result refl a h (λ x y. results-new args (seen ++ l ∷ []) ls x y)
  where
    by : (r : Option (List ℕ)) → l.result ≡ r → Apart (named r (results ls)) → Each (IsNewIn args seen) (named r (results ls))
        → (Apart (results ls) → Each (IsNewIn args (seen ++ l ∷ [])) (results ls) → results_repeat args (seen ++ l ∷ []) ls ≡ false)
        → (result_repeats args seen r || results_repeat args (seen ++ l ∷ []) ls) ≡ false
    by None e a h go = go a (Each-more (IsNewIn args seen) (IsNewIn args (seen ++ l ∷ [])) (results ls) (λ n k. (k.0, define-append n seen l k.1 (ap (is_result_name n) e))) h)
    by (Some m) e a h go =
        or_from (args_define m args || lines_define m seen) (results_repeat args (seen ++ l ∷ []) ls) (or_from (args_define m args) (lines_define m seen) h.0.0 h.0.1)
        (go a.1 (later (results ls) a.0 h.1))
      where
        later : (ns : List (List ℕ)) → Differs m ns → Each (IsNewIn args seen) ns → Each (IsNewIn args (seen ++ l ∷ [])) ns
        later [] d k = tt
        later (n ∷ ns) d k = ((k.0.0, define-append n seen l k.0.1 (ap (is_result_name n) e ∙ not_same m n d.0)), later ns d.1 k.1)

-- and where they do not, each name stands once
pub results-apart : (args : List ArgText) (seen ls : List LineText) → results_repeat args seen ls ≡ false → Apart (results ls) × Each (IsNewIn args seen) (results ls)
results-apart args seen [] h = (tt, tt)
results-apart args seen (l ∷ ls) h =
    let p = or_parts (result_repeats args seen l.result) (results_repeat args (seen ++ l ∷ []) ls) h in
    by l.result refl p.0 (results-apart args (seen ++ l ∷ []) ls p.1)
  where
    earlier : (n : List ℕ) → IsNewIn args (seen ++ l ∷ []) n → IsNewIn args seen n
    earlier n k = (k.0, (define-parts n seen l k.1).0)

    other : (m n : List ℕ) → l.result ≡ Some m → IsNewIn args (seen ++ l ∷ []) n → m ≡ n → ⊥
    other m n e k q =
        let f : same_name m n ≡ false = ap (is_result_name n) (sym e) ∙ (define-parts n seen l k.1).1 in
        let t : same_name m n ≡ true = is_same m n q in cc

    by : (r : Option (List ℕ)) → l.result ≡ r → result_repeats args seen r ≡ false → Apart (results ls) × Each (IsNewIn args (seen ++ l ∷ [])) (results ls) → Apart (named r (results ls))
        × Each (IsNewIn args seen) (named r (results ls))
    by None e p k = (k.0, Each-more (IsNewIn args (seen ++ l ∷ [])) (IsNewIn args seen) (results ls) earlier k.1)
    by (Some m) e p k = (
      (differs-from (IsNewIn args (seen ++ l ∷ [])) m (results ls) k.1 (λ n q. other m n e q), k.0),
      (or_parts (args_define m args) (lines_define m seen) p, Each-more (IsNewIn args (seen ++ l ∷ [])) (IsNewIn args seen) (results ls) earlier k.1),
    )

-- ---- a unit and a copy whose names keep apart

-- a name of bytes that is not empty
pub record IsOwn (n : List ℕ) : Type 0 where
  pub plain : IsPlain n
  pub filled : n ≡ [] → ⊥

abbrev pub labels_in : List BlockText → List (List ℕ)
labels_in [] = []
labels_in (b ∷ more) = label_or b.label ∷ labels_in more

-- each result of a unit has a name of its own, and each block a label of its own
pub record OwnNames (v : UnitText) : Type 0 where
  pub once : Apart (results (lines_of v.blocks))
  pub own : Each IsOwn (results (lines_of v.blocks))
  pub new : Each (λ n. args_define n v.args ≡ false) (results (lines_of v.blocks))
  pub labels : Each IsOwn (labels_in v.blocks)
  pub labels_once : Apart (labels_in v.blocks)

-- a copy whose results stand behind its path
pub record CopyIsOwn (c : Copy) : Type 0 where
  pub unit : OwnNames c.unit
  pub value : (n : List ℕ) → args_define n c.unit.args ≡ false → c.value n ≡ c.path ++ n

-- the result of one of these names, behind a path
abbrev OwnResult : (path : List ℕ) → (ns : List (List ℕ)) → List ℕ → Type 0
OwnResult p ns x = (n : List ℕ) × Among n ns × IsOwn n × (x ≡ p ++ n)

-- it, or a name behind the mark of line k or a later one
abbrev ResultFrom : (path label : List ℕ) → (k : ℕ) → (ns : List (List ℕ)) → List ℕ → Type 0
ResultFrom p m k ns x = OwnResult p ns x ⊎ UnderFrom p m k x

-- it, or a name behind the mark of a line of one of these blocks
abbrev pub ResultIn : (path : List ℕ) → (ns ms : List (List ℕ)) → List ℕ → Type 0
ResultIn p ns ms x = OwnResult p ns x ⊎ ((m : List ℕ) × Among m ms × IsOwn m × UnderFrom p m 0 x)

-- the names of what a copy gives back
abbrev CopyGives : (copy_of : Copy → List FlatBlockText) → Copy → Type 0
CopyGives copy_of d = Apart (given (copy_of d)) × Each (Begins d.path) (given (copy_of d))

own-of : (ns : List (List ℕ)) (p n x : List ℕ) → OwnResult p ns x → OwnResult p (n ∷ ns) x
own-of ns p n x h = (h.0, inr h.1, h.2, h.3)

own-apart : (p n x y : List ℕ) (ns : List (List ℕ)) → Differs n ns → x ≡ p ++ n → OwnResult p ns y → x ≡ y → ⊥
own-apart p n x y ns d e h q = differs-among n h.0 ns d h.1 (append_cancel_left p n h.0 (sym e ∙ q ∙ h.3))

module _ (fs : List UnitText) (c : Copy) (copy_of : Copy → List FlatBlockText)
    (copies : (path : List ℕ) (i : InstText) (d : Copy) → opened fs c path i ≡ Some d → (d.path ≡ path) × CopyGives copy_of d)
    (value : (n : List ℕ) → args_define n c.unit.args ≡ false → c.value n ≡ c.path ++ n) where
  -- ---- the lines of a block

  -- a merge gives what the call gave
  merge-named : (d : Copy) (path : List ℕ) (i : InstText) (r : Option (List ℕ)) (ls : List LineText) → opened fs c path i ≡ Some d
      → results (with_merge (merge_of fs c d i r) ls) ≡ named (option_map c.value r) (results ls)
  merge-named d path i r ls e =
      let o : Opens fs c path i d = opens-is fs c path i d e in
      ap (λ j. results (with_merge (merge_of fs c d j r) ls)) o.inst ∙ by r
    where
      by : (r : Option (List ℕ)) → results (with_merge (merge_of fs c d (call_text (opens-is fs c path i d e).callee (opens-is fs c path i d e).ty (opens-is fs c path i d e).args) r) ls)
          ≡ named (option_map c.value r) (results ls)
      by None = refl
      by (Some n) = refl

  module _ (m : List ℕ) where
    -- one more result
    with-result : (k : ℕ) (r : Option (List ℕ)) (ns xs : List (List ℕ)) → Apart (named r ns) → Each IsOwn (named r ns) → Each (λ n. args_define n c.unit.args ≡ false) (named r ns)
        → Apart xs × Each (ResultFrom c.path m k ns) xs → Apart (named (option_map c.value r) xs) × Each (ResultFrom c.path m k (named r ns)) (named (option_map c.value r) xs)
    with-result k None ns xs a o n h = h
    with-result k (Some r) ns xs a o n h = (
      (differs-from (ResultFrom c.path m k ns) (c.value r) xs h.1 apart, h.0),
      (inl (r, inl refl, o.0, value r n.0), Each-more (ResultFrom c.path m k ns) (ResultFrom c.path m k (r ∷ ns)) xs more h.1),
    )
      where
        apart : (y : List ℕ) → ResultFrom c.path m k ns y → c.value r ≡ y → ⊥
        apart y (inl w) e = own-apart c.path r (c.value r) y ns a.0 (value r n.0) w e
        apart y (inr w) e = plain-under c.path r m k (c.value r) y o.0.plain (value r n.0) w e

        more : (x : List ℕ) → ResultFrom c.path m k ns x → ResultFrom c.path m k (r ∷ ns) x
        more x (inl w) = inl (own-of ns c.path r x w)
        more x (inr w) = inr w

    earlier : (k : ℕ) (ns : List (List ℕ)) (x : List ℕ) → ResultFrom c.path m (k + 1) ns x → ResultFrom c.path m k ns x
    earlier k ns x (inl w) = inl w
    earlier k ns x (inr w) = inr (from-later c.path m k x w)

    -- the results of a copy, and those behind the call
    behind-call : (k : ℕ) (ns xs ys : List (List ℕ)) → Apart xs → Each (Begins (call_path c m k)) xs → Apart ys × Each (ResultFrom c.path m (k + 1) ns) ys → Apart (xs ++ ys)
        × Each (ResultFrom c.path m k ns) (xs ++ ys)
    behind-call k ns xs ys a b h = (
      apart-append (Begins (call_path c m k)) (ResultFrom c.path m (k + 1) ns) xs ys a h.0 b h.1 apart,
      Each-append (ResultFrom c.path m k ns) xs ys (Each-more (Begins (call_path c m k)) (ResultFrom c.path m k ns) xs (λ x w. inr (from-first c.path m k x (begins-under c.path m k x w))) b)
          (Each-more (ResultFrom c.path m (k + 1) ns) (ResultFrom c.path m k ns) ys (earlier k ns) h.1),
    )
      where
        apart : (x y : List ℕ) → Begins (call_path c m k) x → ResultFrom c.path m (k + 1) ns y → x ≡ y → ⊥
        apart x y w (inl z) e = plain-under c.path z.0 m k y x z.2.plain z.3 (from-first c.path m k x (begins-under c.path m k x w)) (sym e)
        apart x y w (inr z) e = line-apart c.path m k x y (begins-under c.path m k x w) z e

    -- what lines from line k on give
    abbrev LinesGive : (k : ℕ) → List LineText → Pieces → Type 0
    LinesGive k ls p = Apart (results p.rest ++ given p.more) × Each (ResultFrom c.path m k (results ls)) (results p.rest ++ given p.more)

    -- one more line in front
    line-gives : (k : ℕ) (l : LineText) (ls : List LineText) (q : Pieces) → Apart (results (l ∷ ls)) → Each IsOwn (results (l ∷ ls)) → Each (λ n. args_define n c.unit.args ≡ false) (results (l ∷ ls))
        → LinesGive (k + 1) ls q
        → LinesGive k (l ∷ ls) (with_line copy_of fs c l (opened fs c (call_path c m k) l.inst) q)
    line-gives k l ls q a o n behind = by (opened fs c (call_path c m k) l.inst) refl
      where
        here : Apart (named (option_map c.value l.result) (results q.rest ++ given q.more))
            × Each (ResultFrom c.path m (k + 1) (results (l ∷ ls))) (named (option_map c.value l.result) (results q.rest ++ given q.more))
        here = with-result (k + 1) l.result (results ls) (results q.rest ++ given q.more) a o n behind

        by : (x : Option Copy) → opened fs c (call_path c m k) l.inst ≡ x → LinesGive k (l ∷ ls) (with_line copy_of fs c l x q)
        by None e =
            subst (λ ns. Apart ns × Each (ResultFrom c.path m k (results (l ∷ ls))) ns) (named-append (option_map c.value l.result) (results q.rest) (given q.more)) (
              here.0,
              Each-more (ResultFrom c.path m (k + 1) (results (l ∷ ls))) (ResultFrom c.path m k (results (l ∷ ls))) (named (option_map c.value l.result) (results q.rest ++ given q.more))
                  (earlier k (results (l ∷ ls))) here.1,
            )
        by (Some d) e =
            let D : FlatBlockText = record { label = d.path; merge = merge_of fs c d l.inst l.result; lines = q.rest } in
            let copy : (d.path ≡ call_path c m k) × CopyGives copy_of d = copies (call_path c m k) l.inst d e in
            let tail : given (D ∷ q.more) ≡ named (option_map c.value l.result) (results q.rest ++ given q.more) =
            results-append (with_merge D.merge q.rest) (lines_of (map as_block q.more)) ∙ ap (λ ns. ns ++ given q.more) (merge-named d (call_path c m k) l.inst l.result q.rest e)
            ∙ sym (named-append (option_map c.value l.result) (results q.rest) (given q.more)) in
            subst (λ ns. Apart ns × Each (ResultFrom c.path m k (results (l ∷ ls))) ns) (sym (given-append (copy_of d) (D ∷ q.more) ∙ ap (λ ns. given (copy_of d) ++ ns) tail))
            (behind-call k (results (l ∷ ls)) (given (copy_of d)) (named (option_map c.value l.result) (results q.rest ++ given q.more)) copy.1.0
            (subst (λ p. Each (Begins p) (given (copy_of d))) copy.0 copy.1.1) here)

    named-apart : (r : Option (List ℕ)) (ns : List (List ℕ)) → Apart (named r ns) → Apart ns
    named-apart None ns h = h
    named-apart (Some x) ns h = h.1

    named-each : (P : List ℕ → Type 0) (r : Option (List ℕ)) (ns : List (List ℕ)) → Each P (named r ns) → Each P ns
    named-each P None ns h = h
    named-each P (Some x) ns h = h.1

    lines-give : (k : ℕ) (ls : List LineText) → Apart (results ls) → Each IsOwn (results ls) → Each (λ n. args_define n c.unit.args ≡ false) (results ls)
        → LinesGive k ls (pieces_from copy_of fs c m k ls)
    lines-give k [] a o n = (tt, tt)
    lines-give k (l ∷ ls) a o n =
        line-gives k l ls (pieces_from copy_of fs c m (k + 1) ls) a o n
        (lines-give (k + 1) ls (named-apart l.result (results ls) a) (named-each IsOwn l.result (results ls) o) (named-each (λ x. args_define x c.unit.args ≡ false) l.result (results ls) n))

  -- ---- the blocks

  abbrev BlocksGive : List BlockText → List FlatBlockText → Type 0
  BlocksGive bs ys = Apart (given ys) × Each (ResultIn c.path (results (lines_of bs)) (labels_in bs)) (given ys)

  -- one more block in front
  block-gives : (b : BlockText) (bs : List BlockText) (ys : List FlatBlockText) → Apart (results (lines_of (b ∷ bs))) → Each IsOwn (results (lines_of (b ∷ bs)))
      → Each (λ n. args_define n c.unit.args ≡ false) (results (lines_of (b ∷ bs))) → Each IsOwn (labels_in (b ∷ bs)) → Apart (labels_in (b ∷ bs))
      → BlocksGive bs ys → BlocksGive (b ∷ bs) (flat_block copy_of fs c b ++ ys)
  block-gives b bs ys a o n l d rest =
      subst (λ ns. Apart ns × Each (ResultIn c.path (results (lines_of (b ∷ bs))) (labels_in (b ∷ bs))) ns) (sym (given-append (flat_block copy_of fs c b) ys ∙ ap (λ ns. ns ++ given ys) block)) (
        apart-append (ResultFrom c.path m 0 (results b.lines)) (ResultIn c.path (results (lines_of bs)) (labels_in bs)) (results P.rest ++ given P.more) (given ys) first.0 rest.0 first.1 rest.1 apart,
        Each-append (ResultIn c.path (results (lines_of (b ∷ bs))) (labels_in (b ∷ bs))) (results P.rest ++ given P.more) (given ys)
            (Each-more (ResultFrom c.path m 0 (results b.lines)) (ResultIn c.path (results (lines_of (b ∷ bs))) (labels_in (b ∷ bs))) (results P.rest ++ given P.more) from-first-block first.1)
            (Each-more (ResultIn c.path (results (lines_of bs)) (labels_in bs)) (ResultIn c.path (results (lines_of (b ∷ bs))) (labels_in (b ∷ bs))) (given ys) from-later-block rest.1),
      )
    where
      m : List ℕ
      m = label_or b.label

      P : Pieces
      P = pieces_from copy_of fs c m 0 b.lines

      both : results (lines_of (b ∷ bs)) ≡ results b.lines ++ results (lines_of bs)
      both = results-append b.lines (lines_of bs)

      once : Apart (results b.lines ++ results (lines_of bs))
      once = subst Apart both a

      own : Each IsOwn (results b.lines ++ results (lines_of bs))
      own = subst (Each IsOwn) both o

      new : Each (λ n. args_define n c.unit.args ≡ false) (results b.lines ++ results (lines_of bs))
      new = subst (Each (λ n. args_define n c.unit.args ≡ false)) both n

      block : given (flat_block copy_of fs c b) ≡ results P.rest ++ given P.more
      block = results-append P.rest (lines_of (map as_block P.more))

      first : LinesGive m 0 b.lines P
      first = lines-give m 0 b.lines (apart-left (results b.lines) (results (lines_of bs)) once) (Each-left IsOwn (results b.lines) (results (lines_of bs)) own)
          (Each-left (λ n. args_define n c.unit.args ≡ false) (results b.lines) (results (lines_of bs)) new)

      apart : (x y : List ℕ) → ResultFrom c.path m 0 (results b.lines) x → ResultIn c.path (results (lines_of bs)) (labels_in bs) y → x ≡ y → ⊥
      apart x y (inl w) (inl z) e = apart-across (results b.lines) (results (lines_of bs)) w.0 z.0 once w.1 z.1 (append_cancel_left c.path w.0 z.0 (sym w.3 ∙ e ∙ z.3))
      apart x y (inl w) (inr z) e = plain-under c.path w.0 z.0 0 x y w.2.plain w.3 z.3 e
      apart x y (inr w) (inl z) e = plain-under c.path z.0 m 0 y x z.2.plain z.3 w (sym e)
      apart x y (inr w) (inr z) e = differs-among m z.0 (labels_in bs) d.0 z.1 (at-apart c.path m z.0 x y l.0.plain z.2.plain (from-at c.path m 0 x w) (from-at c.path z.0 0 y z.3) e)

      in-both : (ns : List (List ℕ)) (x : List ℕ) → ((n : List ℕ) → Among n ns → Among n (results b.lines ++ results (lines_of bs))) → OwnResult c.path ns x
          → OwnResult c.path (results (lines_of (b ∷ bs))) x
      in-both ns x f w = (w.0, subst (λ ms. Among w.0 ms) (sym both) (f w.0 w.1), w.2, w.3)

      from-first-block : (x : List ℕ) → ResultFrom c.path m 0 (results b.lines) x → ResultIn c.path (results (lines_of (b ∷ bs))) (labels_in (b ∷ bs)) x
      from-first-block x (inl w) = inl (in-both (results b.lines) x (λ n h. among-left n (results b.lines) (results (lines_of bs)) h) w)
      from-first-block x (inr w) = inr (m, inl refl, l.0, w)

      from-later-block : (x : List ℕ) → ResultIn c.path (results (lines_of bs)) (labels_in bs) x → ResultIn c.path (results (lines_of (b ∷ bs))) (labels_in (b ∷ bs)) x
      from-later-block x (inl w) = inl (in-both (results (lines_of bs)) x (λ n h. among-right n (results b.lines) (results (lines_of bs)) h) w)
      from-later-block x (inr w) = inr (w.0, inr w.1, w.2, w.3)

  blocks-give : (bs : List BlockText) → Apart (results (lines_of bs)) → Each IsOwn (results (lines_of bs)) → Each (λ n. args_define n c.unit.args ≡ false) (results (lines_of bs))
      → Each IsOwn (labels_in bs) → Apart (labels_in bs)
      → BlocksGive bs (flat_map (flat_block copy_of fs c) bs)
  blocks-give [] a o n l d = (tt, tt)
  blocks-give (b ∷ bs) a o n l d =
      let both : results (lines_of (b ∷ bs)) ≡ results b.lines ++ results (lines_of bs) = results-append b.lines (lines_of bs) in
      block-gives b bs (flat_map (flat_block copy_of fs c) bs) a o n l d
      (blocks-give bs (apart-right (results b.lines) (results (lines_of bs)) (subst Apart both a)) (Each-right IsOwn (results b.lines) (results (lines_of bs)) (subst (Each IsOwn) both o))
      (Each-right (λ n. args_define n c.unit.args ≡ false) (results b.lines) (results (lines_of bs)) (subst (Each (λ n. args_define n c.unit.args ≡ false)) both n)) l.1 d.1)

-- ---- all copies

-- something stands behind a path before a name of its own
own-begins : (p n x : List ℕ) → IsOwn n → x ≡ p ++ n → Begins p x
own-begins p n x o e = (n, o.filled, e)

in-begins : (p : List ℕ) (ns ms : List (List ℕ)) (x : List ℕ) → ResultIn p ns ms x → Begins p x
in-begins p ns ms x (inl w) = own-begins p w.0 x w.2 w.3
in-begins p ns ms x (inr w) = begins-more p w.0 0 x w.2.filled (from-at p w.0 0 x w.3)

module _ (fs : List UnitText) (functions : (n : UnitName) (f : UnitText) → function_named n fs ≡ Some f → OwnNames f) where
  opened-own : (c : Copy) (path : List ℕ) (i : InstText) (d : Copy) → opened fs c path i ≡ Some d → (d.path ≡ path) × CopyIsOwn d
  opened-own c path i d e =
      let o : Opens fs c path i d = opens-is fs c path i d e in
      let q : d.path ≡ path = ap (λ (x : Copy). x.path) (sym o.copy) in (
        q,
        record {
          unit = functions o.callee d.unit o.named;
          value = λ n h. ap (λ (x : Copy). x.value n) (sym o.copy) ∙ other-name d.unit.args (map (λ (o : OperandText). c.value o.value) o.args) (path ++ n) n h ∙ ap (λ p. p ++ n) (sym q);
        },
      )

  -- what a copy gives stands once, where that of the copies in it does
  copy-in : (k : ℕ) → ((d : Copy) → CopyIsOwn d → CopyGives (flat_copy k fs) d) → (c : Copy) → CopyIsOwn c
      → Apart (given (flat_copy (suc k) fs c)) × Each (ResultIn c.path (results (lines_of c.unit.blocks)) (labels_in c.unit.blocks)) (given (flat_copy (suc k) fs c))
  copy-in k gives c h =
      blocks-give fs c (flat_copy k fs) (λ path i d e. let r = opened-own c path i d e in (r.0, gives d r.1)) h.value c.unit.blocks h.unit.once h.unit.own h.unit.new h.unit.labels h.unit.labels_once

  -- and it stands behind the path of the copy
  copy-gives : (k : ℕ) (c : Copy) → CopyIsOwn c → CopyGives (flat_copy k fs) c
  copy-gives zero c h = (tt, tt)
  copy-gives (suc k) c h =
      let r = copy-in k (λ d o. copy-gives k d o) c h in (
        r.0,
        Each-more (ResultIn c.path (results (lines_of c.unit.blocks)) (labels_in c.unit.blocks)) (Begins c.path) (given (flat_copy (suc k) fs c))
            (in-begins c.path (results (lines_of c.unit.blocks)) (labels_in c.unit.blocks)) r.1,
      )

  -- a name with a mark is no argument, where those are of bytes
  no-argument : (args : List ArgText) (m : List ℕ) (k : ℕ) (x : List ℕ) → Each (λ (a : ArgText). IsPlain a.name) args → UnderFrom [] m k x → args_define x args ≡ false
  no-argument [] m k x p h = refl
  no-argument (a ∷ args) m k x p h = or_from (same_name a.name x) (args_define x args) (not_same a.name x (λ e. plain-under [] a.name m k a.name x p.0 refl h e)) (no-argument args m k x p.1 h)

  -- Each result of the flat text of a process stands once.
  pub once : (u : UnitText) (name : UnitName) → OwnNames u → Each (λ (a : ArgText). IsPlain a.name) u.args
      → results_repeat (flat_unit name (text_of fs u)).args [] (lines_of (flat_unit name (text_of fs u)).blocks) ≡ false
  once u name o p =
      let r = copy-in max_nested (λ d h. copy-gives max_nested d h) (top_copy u) (record { unit = o; value = λ n h. refl }) in
      results-new u.args [] (lines_of (map as_block (flat_copy (suc max_nested) fs (top_copy u)))) r.0
      (Each-more (ResultIn [] (results (lines_of u.blocks)) (labels_in u.blocks)) (IsNewIn u.args []) (given (flat_copy (suc max_nested) fs (top_copy u))) new r.1)
    where
      new : (x : List ℕ) → ResultIn [] (results (lines_of u.blocks)) (labels_in u.blocks) x → IsNewIn u.args [] x
      new x (inl w) = (ap (λ n. args_define n u.args) w.3 ∙ in-each (λ n. args_define n u.args ≡ false) (results (lines_of u.blocks)) w.0 o.new w.1, refl)
      new x (inr w) = (no-argument u.args w.0 0 x p w.3, refl)
