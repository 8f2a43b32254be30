-- Parts of types, step by step.
use Rattle.std.proofs.Common.{◌≡◌, ℕ, ◌+◌, ◌-◌, ◌*◌, ◌<◌, ◌≤◌, zero, suc, Bool, true, false, ◌&&◌, nat_lt, nat_le, List, length, get_or, drop, refl, ap, sym, ◌∙◌, subst, arith, Option, Some, None, add_assoc}
use Rattle.std.specs.Option.{option_map, option_and_then}
use Rattle.std.proofs.lemmas.List.{drop_all, drop_more}
use Rattle.std.proofs.lemmas.Nat.{mul-le, row_fits}
use Rattle.std.proofs.lemmas.Option.{same_Some, none-some}
use Rattle.std.proofs.lemmas.Bool.Decides.{nat_tests}
use Rattle.lh_types.specs.Types.{TypeTree, TypeRow, int_type, time_type, void_type, array_type, tuple_type, signal_type, pointer_type, no_types, more_types, row_of, AreData, IsData, bit_count, bit_count_row}
use Rattle.lh_types.specs.Parts.{Part, part_beyond, part_if, field_part, step_part, part_of}
use Rattle.lh_types.specs.Same.{and_both}
use Rattle.lh_types.specs.declared.part.Step.{Step}
use Rattle.lh_types.specs.declared.part.Step.TheVariants.{Field, Slice}
use Rattle.lh_types.proofs.Rows.{row_of-drop, AreData-split, bit_count_row-drop}

-- further on twice is further on by the sum
pub part_beyond-twice : (a b : ℕ) (o : Option Part) → option_map (part_beyond a) (option_map (part_beyond b) o) ≡ option_map (part_beyond (a + b)) o
part_beyond-twice a b None = refl
part_beyond-twice a b (Some p) = ap (λ n. Some (record { lo = n; of = p.of })) (sym (add_assoc a b p.lo))

-- a walk along the fields of a struct towards field k, at an index, with the bits of the fields before it
pub record FieldAt (all xs : List TypeTree) (k i lo : ℕ) : Type 0 where
  pub whole : xs ≡ all
  pub before : i ≤ k
  pub rest : lo + bit_count_row (row_of (drop i xs)) ≡ bit_count_row (row_of all)
  pub data_left : AreData (row_of (drop i xs))
  pub found : option_map (part_beyond lo) (field_part (row_of (drop i xs)) (k - i)) ≡ field_part (row_of all) k

field_part-more : (t : TypeTree) (ts : TypeRow) (k i : ℕ) → i < k → field_part (more_types t ts) (k - i) ≡ option_map (part_beyond (bit_count t)) (field_part ts (k - (i + 1)))
field_part-more t ts k i h = let e : k - i ≡ suc (k - (i + 1)) = omega arith in rw e refl

pub FieldAt-next : (all xs : List TypeTree) (k i lo : ℕ) (x : TypeTree) → FieldAt all xs k i lo → i < length xs → x ≡ get_or xs i x → i < k → FieldAt all xs k (i + 1) (lo + bit_count x)
FieldAt-next all xs k i lo x r h e lt = record {
  whole = r.whole;
  before = omega arith;
  rest = omega (arith, r.rest, bit_count_row-drop xs i x h e);
  data_left = let d = AreData-split xs i x r.data_left h e in d.1;
  found =
      let row : row_of (drop i xs) ≡ more_types x (row_of (drop (i + 1) xs)) = row_of-drop xs i x h ∙ ap (λ t. more_types t (row_of (drop (i + 1) xs))) (sym e) in
      let step = ap (λ ts. option_map (part_beyond lo) (field_part ts (k - i))) row ∙ ap (option_map (part_beyond lo)) (field_part-more x (row_of (drop (i + 1) xs)) k i lt)
      ∙ part_beyond-twice lo (bit_count x) (field_part (row_of (drop (i + 1) xs)) (k - (i + 1))) in
      sym step ∙ r.found;
}

pub FieldAt-here : (all xs : List TypeTree) (k i lo : ℕ) (x : TypeTree) → FieldAt all xs k i lo → i < length xs → x ≡ get_or xs i x → i ≡ k
    → field_part (row_of all) k ≡ Some (record { lo = lo; of = x })
FieldAt-here all xs k i lo x r h e q =
    let row : row_of (drop i xs) ≡ more_types x (row_of (drop (i + 1) xs)) = row_of-drop xs i x h ∙ ap (λ t. more_types t (row_of (drop (i + 1) xs))) (sym e) in
    let none : k - i ≡ 0 = omega arith in
    let same : lo + 0 ≡ lo = omega arith in
    let step = ap (λ ts. option_map (part_beyond lo) (field_part ts (k - i))) row ∙ ap (λ n. option_map (part_beyond lo) (field_part (more_types x (row_of (drop (i + 1) xs))) n)) none
    ∙ ap (λ n. Some (record { lo = n; of = x })) same in
    sym r.found ∙ step

pub FieldAt-none : (all xs : List TypeTree) (k i lo : ℕ) → FieldAt all xs k i lo → length xs ≤ i → field_part (row_of all) k ≡ None
FieldAt-none all xs k i lo r h = sym r.found ∙ ap (λ ts. option_map (part_beyond lo) (field_part (row_of ts) (k - i))) (drop_all i xs h)

-- a part that is there starts and ends within the whole, and is of a data type
pub record Within (bits : ℕ) (p : Part) : Type 0 where
  pub is_data : IsData p.of
  pub inside : p.lo + bit_count p.of ≤ bits

-- what holds of a part where the test holds
pub part_if-holds : (P : Part → Type 0) (b : Bool) (lo : ℕ) (t : TypeTree) (p : Part) → part_if b lo t ≡ Some p → (b ≡ true → P (record { lo = lo; of = t })) → P p
part_if-holds P true lo t p e h = subst P (same_Some _ _ e) (h refl)
part_if-holds P false lo t p e h = absurd (none-some _ e)

-- what holds of each part further on
pub part_beyond-holds : (P : Part → Type 0) (n : ℕ) (o : Option Part) (p : Part) → option_map (part_beyond n) o ≡ Some p → ((q : Part) → o ≡ Some q → P (part_beyond n q)) → P p
part_beyond-holds P n None p e h = absurd (none-some _ e)
part_beyond-holds P n (Some q) p e h = subst P (same_Some _ _ e) (h q refl)

field_part-within : (ts : TypeRow) (k : ℕ) (p : Part) → AreData ts → field_part ts k ≡ Some p → Within (bit_count_row ts) p
field_part-within no_types k p h e = absurd (none-some _ e)
field_part-within (more_types t ts) zero p h e = subst (Within (bit_count t + bit_count_row ts)) (same_Some _ _ e) (record { is_data = h.0; inside = omega arith })
field_part-within (more_types t ts) (suc k) p h e =
    part_beyond-holds (Within (bit_count t + bit_count_row ts)) (bit_count t) (field_part ts k) p e (λ q g. let w = field_part-within ts k q h.1 g in
    record { is_data = w.is_data; inside = omega (arith, w.inside) })

pub slice_facts : (len at n : ℕ) → (nat_le 1 len && nat_le (at + len) n) ≡ true → (1 ≤ len) × (at + len ≤ n)
slice_facts len at n h = let b = and_both (nat_le 1 len) (nat_le (at + len) n) h in (let x = b.0 in grind (arith, nat_tests), let y = b.1 in grind (arith, nat_tests))

-- the part that a step leads to lies within the whole
pub step_part-within : (t : TypeTree) (s : Step) (p : Part) → IsData t → step_part t s ≡ Some p → Within (bit_count t) p
step_part-within (array_type n t) (Field k) p h e =
    part_if-holds (Within (n * bit_count t)) (nat_lt k n) _ t p e (λ b. let lt : k < n = grind (arith, nat_tests) in
    record { is_data = h.0; inside = row_fits k (bit_count t) n (bit_count t) lt (omega arith) })
step_part-within (tuple_type ts) (Field k) p h e = field_part-within ts k p h.0 e
step_part-within (int_type n) (Slice at len) p h e =
    part_if-holds (Within n) _ _ (int_type len) p e (λ b. let f = slice_facts len at n b in record { is_data = (f.0, omega (arith, f.1)); inside = f.1 })
step_part-within (array_type n t) (Slice at len) p h e =
    part_if-holds (Within (n * bit_count t)) _ _ (array_type len t) p e (λ b.
    let f = slice_facts len at n b in
    let w = bit_count t in
    record {
      is_data = (h.0, f.0, omega (arith, f.1), omega (arith, mul-le len (bit_count t) n (bit_count t) (omega (arith, f.1)) (omega arith)), h.4);
      inside = omega (arith, mul-le (at + len) (bit_count t) n (bit_count t) f.1 (omega arith));
    })
step_part-within time_type s p h e = absurd h
step_part-within void_type s p h e = absurd h
step_part-within (signal_type t) s p h e = absurd h
step_part-within (pointer_type t) s p h e = absurd h
step_part-within (int_type n) (Field k) p h e = absurd (none-some _ e)
step_part-within (tuple_type ts) (Slice at len) p h e = absurd (none-some _ e)

-- no bits further on
pub part_beyond-zero : (o : Option Part) → option_map (part_beyond 0) o ≡ o
part_beyond-zero None = refl
part_beyond-zero (Some p) = let e : 0 + p.lo ≡ p.lo = omega arith in ap (λ n. Some (record { lo = n; of = p.of })) e

-- a walk along the steps into a type, at an index, with the part that the steps before it lead to
pub record StepsAt (t : TypeTree) (ss : List Step) (i : ℕ) (at : Part) : Type 0 where
  pub is_data : IsData at.of
  pub inside : at.lo + bit_count at.of ≤ bit_count t
  pub found : option_map (part_beyond at.lo) (part_of at.of (drop i ss)) ≡ part_of t ss

pub StepsAt-start : (t : TypeTree) (ss : List Step) → IsData t → StepsAt t ss 0 (record { lo = 0; of = t })
StepsAt-start t ss h = record { is_data = h; inside = omega arith; found = part_beyond-zero (part_of t ss) }

module _ (t : TypeTree) (ss : List Step) (i : ℕ) (at : Part) (s d : Step) (w : StepsAt t ss i at) (h : i < length ss) (e : s ≡ get_or ss i d) where
  part_of-here : part_of at.of (drop i ss) ≡ option_and_then (λ p. option_map (part_beyond p.lo) (part_of p.of (drop (i + 1) ss))) (step_part at.of s)
  part_of-here = ap (part_of at.of) (drop_more ss i d h) ∙ ap (λ x. option_and_then (λ p. option_map (part_beyond p.lo) (part_of p.of (drop (i + 1) ss))) (step_part at.of x)) (sym e)

  pub StepsAt-none : step_part at.of s ≡ None → part_of t ss ≡ None
  StepsAt-none n = sym w.found ∙ ap (option_map (part_beyond at.lo)) (part_of-here ∙ ap (option_and_then (λ p. option_map (part_beyond p.lo) (part_of p.of (drop (i + 1) ss)))) n)

  pub StepsAt-next : (p : Part) → step_part at.of s ≡ Some p → StepsAt t ss (i + 1) (part_beyond at.lo p)
  StepsAt-next p q =
      let inside = step_part-within at.of s p w.is_data q in
      record {
        is_data = inside.is_data;
        inside = omega (arith, inside.inside, w.inside);
        found =
            let step = ap (option_map (part_beyond at.lo)) (part_of-here ∙ ap (option_and_then (λ p. option_map (part_beyond p.lo) (part_of p.of (drop (i + 1) ss)))) q)
            ∙ part_beyond-twice at.lo p.lo (part_of p.of (drop (i + 1) ss)) in
            sym step ∙ w.found;
      }

pub StepsAt-end : (t : TypeTree) (ss : List Step) (i : ℕ) (at : Part) → StepsAt t ss i at → length ss ≤ i → part_of t ss ≡ Some at
StepsAt-end t ss i at w h =
    let e : at.lo + 0 ≡ at.lo = omega arith in
    sym w.found ∙ ap (λ xs. option_map (part_beyond at.lo) (part_of at.of xs)) (drop_all i ss h) ∙ ap (λ n. Some (record { lo = n; of = at.of })) e
