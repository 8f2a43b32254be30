-- The names of the values that a unit itself brings into a flat text: no two are alike, and none is one of a copy in it.
use Rattle.std.proofs.Common.{◌≡◌, ℕ, zero, suc, ◌+◌, ◌<◌, List, [], ◌∷◌, ◌++◌, length, get_or, Option, Some, None, refl, ap, sym, ◌∙◌, subst, arith}
use Rattle.std.specs.List.{slice_get}
use Rattle.std.proofs.lemmas.List.{append_cancel_left, append_assoc}
use Rattle.lh_unit_names.specs.Names.{IsName}
use Rattle.lh_unit_names.specs.Distinct.{AllDistinct}
use Rattle.lh_unit.specs.Table.{Table, IsTable, ResultWithin, ResultsWithin, no_line}
use Rattle.lh_unit.specs.Within.{Each}
use Rattle.lh_unit.specs.declared.inst.InstId.{InstId}
use Rattle.lh_unit.specs.declared.inst.ValueId.{ValueId}
use Rattle.lh_unit.specs.declared.inst.ValueDef.{ValueDef}
use Rattle.lh_unit.specs.declared.inst.ValueDef.TheVariants as value_def
use Rattle.lh_unit.specs.declared.table.TableLine.{TableLine}
use Rattle.lh_unit.proofs.ById.{ResultWithin-at}
use Rattle.lh_unit.proofs.Within.{Each-more}
use Rattle.lh_flat.specs.CopyNames.{result_name, result_names}
use Rattle.lh_flat.specs.Marks.{marks}
use Rattle.lh_flat.proofs.Marks.{marks-mark, plain-first, fewer-apart}
use Rattle.lh_flat.proofs.Apart.{Differs, Apart, differs-from, plain-name, name-there, Begins, UnderFrom, from-at, plain-under}

next-place : (i j : ℕ) → suc i ≡ suc j → i ≡ j
next-place i j e = omega (arith, e)

pub distinct-tail : {K : Type 0} (x : K) (xs : List K) → AllDistinct (x ∷ xs) → AllDistinct xs
distinct-tail x xs h = λ i j k p q. next-place i j (h (suc i) (suc j) k p q)

pub distinct-head : {K : Type 0} (x : K) (xs : List K) → AllDistinct (x ∷ xs) → (i : ℕ) → slice_get xs i ≡ Some x → ⊥
distinct-head x xs h i e = let n : 0 ≡ suc i = h 0 (suc i) x refl e in omega (arith, n)

-- a name of a value behind the path, or a mark behind it
pub data Own (p x : List ℕ) : Type 0 where
  named : (n : List ℕ) → IsName n → x ≡ p ++ n → Own p x
  unnamed : (k : ℕ) → x ≡ p ++ (256 + k) ∷ [] → Own p x

pub own-begins : (p x : List ℕ) → Own p x → Begins p x
own-begins p x (named n h e) = (n, name-there n h, e)
own-begins p x (unnamed k e) = ((256 + k) ∷ [], λ z. cc, e)

heads : (a b : ℕ) (x y : List ℕ) → a ∷ x ≡ b ∷ y → a ≡ b
heads a b x y r = cc

-- a mark is no label
mark-apart : (k : ℕ) (m z : List ℕ) → IsName m → (256 + k) ∷ [] ≡ m ++ z → ⊥
mark-apart k [] z h e = name-there [] h refl
mark-apart k (c ∷ m) z h e =
    let q : 256 + k ≡ c = heads (256 + k) c [] (m ++ z) e in
    let l : c < 256 = (plain-first c m (plain-name (c ∷ m) h)).0 in
    omega (arith, q, l)

-- so it is no name of a copy in the unit
pub own-under : (p m x y : List ℕ) → IsName m → Own p x → UnderFrom p m 0 y → x ≡ y → ⊥
own-under p m x y h (named n g e) t q = plain-under p n m 0 x y (plain-name n g) e t q
own-under p m x y h (unnamed k e) t q =
    let at = from-at p m 0 y t in
    mark-apart k m at.0 h (append_cancel_left p ((256 + k) ∷ []) (m ++ at.0) (sym e ∙ q ∙ at.2 ∙ append_assoc p m at.0))

-- ---- those of a process

pub own-each : (xs : List (List ℕ)) → ((v : ℕ) → v < length xs → IsName (get_or xs v [])) → Each (Own []) xs
own-each [] h = tt
own-each (x ∷ xs) h = (named x (h 0 (omega arith)) refl, own-each xs (λ v l. h (suc v) (omega arith)))

own-differs : (x : List ℕ) (xs : List (List ℕ)) → ((i : ℕ) → slice_get xs i ≡ Some x → ⊥) → Differs x xs
own-differs x [] h = tt
own-differs x (y ∷ xs) h = ((λ e. h 0 (ap Some (sym e))), own-differs x xs (λ i q. h (suc i) q))

pub own-apart : (xs : List (List ℕ)) → AllDistinct xs → Apart xs
own-apart [] h = tt
own-apart (x ∷ xs) h = (own-differs x xs (distinct-head x xs h), own-apart xs (distinct-tail x xs h))

-- ---- those of a copy

pub length-results : (name : ℕ → List ℕ) (p : List ℕ) (k : ℕ) (ls : List TableLine) → length (result_names name p k ls) ≡ length ls
length-results name p k [] = refl
length-results name p k (l ∷ ls) = ap suc (length-results name p (k + 1) ls)

-- no two lines give one value
pub once : (t : Table) (o : IsTable t) (i j : ℕ) (v : ValueId) → i < length t.lines → j < length t.lines → (get_or t.lines i no_line).result ≡ Some v → (get_or t.lines j no_line).result ≡ Some v → i ≡ j
once t o i j v x y e q =
    let a : InstId = record { 0 = i } in
    let b : InstId = record { 0 = j } in
    let z : value_def.Inst a ≡ value_def.Inst b = o.defined_once v.0 (value_def.Inst a) (value_def.Inst b) (x, e) (y, q) in
    ap number z
  where
    number : ValueDef → ℕ
    number value_def.Missing = 0
    number (value_def.Arg n) = 0
    number (value_def.Inst n) = n.0

module _ (name : ℕ → List ℕ) (p : List ℕ) (n : ℕ) where
  result-own : (k : ℕ) (r : Option ValueId) → ((v : ℕ) → v < n → IsName (name v)) → ResultWithin n r → Own p (result_name name p k r)
  result-own k None h w = unnamed k refl
  result-own k (Some v) h w = named (name v.0) (h v.0 w) refl

  pub results-each : ((v : ℕ) → v < n → IsName (name v)) → (k : ℕ) (ls : List TableLine) → ResultsWithin n ls → Each (Own p) (result_names name p k ls)
  results-each h k [] w = tt
  results-each h k (l ∷ ls) w = (result-own k l.result h w.0, results-each h (k + 1) ls w.1)

  -- the name of one of these lines, the first of which has the number k
  abbrev OneOf : ℕ → List TableLine → List ℕ → Type 0
  OneOf k ls x = (i : ℕ) × (i < length ls) × (x ≡ result_name name p (k + i) (get_or ls i no_line).result)

  later : (k i : ℕ) → k + 1 + i ≡ k + suc i
  later k i = omega arith

  first : (k : ℕ) → k ≡ k + 0
  first k = omega arith

  one-later : (k : ℕ) (l : TableLine) (ls : List TableLine) (x : List ℕ) → OneOf (k + 1) ls x → OneOf k (l ∷ ls) x
  one-later k l ls x h = (suc h.0, omega (arith, h.1), h.2 ∙ ap (λ m. result_name name p m (get_or ls h.0 no_line).result) (later k h.0))

  results-are : (k : ℕ) (ls : List TableLine) → Each (OneOf k ls) (result_names name p k ls)
  results-are k [] = tt
  results-are k (l ∷ ls) = (
    (zero, omega arith, ap (λ m. result_name name p m l.result) (first k)),
    Each-more (OneOf (k + 1) ls) (OneOf k (l ∷ ls)) (result_names name p (k + 1) ls) (one-later k l ls) (results-are (k + 1) ls),
  )

  -- a name is no mark
  name-mark : (j : ℕ) (m : List ℕ) → IsName m → m ≡ (256 + j) ∷ [] → ⊥
  name-mark j m h e =
      let q : marks m ≡ 0 = plain-name m h in
      let s : marks ((256 + j) ∷ []) ≡ 1 = marks-mark j [] in
      fewer-apart m ((256 + j) ∷ []) (omega (arith, q, s)) e

  two-results : (k j : ℕ) (r s : Option ValueId) → ((v w : ℕ) → v < n → w < n → name v ≡ name w → v ≡ w) → ((v : ℕ) → v < n → IsName (name v)) → ResultWithin n r → ResultWithin n s → k < j
      → ((v : ValueId) → r ≡ Some v → s ≡ Some v → ⊥) → result_name name p k r ≡ result_name name p j s → ⊥
  two-results k j None None a h w z l d e =
      let q : 256 + k ≡ 256 + j = heads (256 + k) (256 + j) [] [] (append_cancel_left p ((256 + k) ∷ []) ((256 + j) ∷ []) e) in omega (arith, q, l)
  two-results k j None (Some v) a h w z l d e = name-mark k (name v.0) (h v.0 z) (sym (append_cancel_left p ((256 + k) ∷ []) (name v.0) e))
  two-results k j (Some v) None a h w z l d e = name-mark j (name v.0) (h v.0 w) (append_cancel_left p (name v.0) ((256 + j) ∷ []) e)
  two-results k j (Some v) (Some x) a h w z l d e =
      let q : v.0 ≡ x.0 = a v.0 x.0 w z (append_cancel_left p (name v.0) (name x.0) e) in d v refl (ap (λ m. Some (record { 0 = m })) (sym q))

  pub results-apart : ((v w : ℕ) → v < n → w < n → name v ≡ name w → v ≡ w) → ((v : ℕ) → v < n → IsName (name v)) → (k : ℕ) (ls : List TableLine) → ResultsWithin n ls
      → ((i j : ℕ) (v : ValueId) → i < length ls → j < length ls → (get_or ls i no_line).result ≡ Some v → (get_or ls j no_line).result ≡ Some v → i ≡ j) → Apart (result_names name p k ls)
  results-apart a h k [] w u = tt
  results-apart a h k (l ∷ ls) w u = (
    differs-from (OneOf (k + 1) ls) (result_name name p k l.result) (result_names name p (k + 1) ls) (results-are (k + 1) ls)
        (λ y t e. two-results k (k + 1 + t.0) l.result (get_or ls t.0 no_line).result a h w.0 (ResultWithin-at n ls t.0 w.1) (omega arith)
        (λ v r s. let z : zero ≡ suc t.0 = u zero (suc t.0) v (omega arith) (omega (arith, t.1)) r s in omega (arith, z)) (e ∙ t.2)),
    results-apart a h (k + 1) ls w.1 (λ i j v x y r s. next-place i j (u (suc i) (suc j) v (omega (arith, x)) (omega (arith, y)) r s)),
  )
