-- A process has few arguments: each is the definition of a value of its own.
use Rattle.std.proofs.Common.{◌≡◌, ℕ, zero, suc, ◌<◌, ◌≤◌, ◌^◌, List, [], ◌∷◌, map, length, Bool, true, false, ◌||◌, eqb, Some, refl, ap, sym, subst, arith}
use Rattle.std.specs.Prelude.{slice_get}
use Rattle.std.specs.Option.{option_map}
use Rattle.std.specs.List.{IsDistinct, AllByRecursion, list_any}
use Rattle.std.proofs.lemmas.Bool.{false≢true}
use Rattle.std.proofs.lemmas.Bool.Decides.{nat_tests}
use Rattle.std.proofs.lemmas.Option.{same_Some, none-some}
use Rattle.std.proofs.lemmas.List.{length-map}
use Rattle.std.proofs.lemmas.Map.Steps.{length-le_from_distinct_below}
use Rattle.lh_unit.specs.Arena.{Arena, IsArena, unit_count, table_at, naming, unit_text_at}
use Rattle.lh_unit.specs.Naming.{arg_text}
use Rattle.lh_unit.specs.Table.{Table, ArgsWithin, IsTable}
use Rattle.lh_unit.specs.declared.inst.Arg.{Arg}
use Rattle.lh_unit.proofs.DefinitionsGive.{same-argument}
use Rattle.lh_unit.specs.declared.inst.ValueDef.TheVariants as value_def

-- no number stands at two places
abbrev StandsOnce : List ℕ → Type 0
StandsOnce xs = (j k v : ℕ) → slice_get xs j ≡ Some v → slice_get xs k ≡ Some v → j ≡ k

-- a number that stands nowhere
apart : (x : ℕ) (xs : List ℕ) → ((k : ℕ) → slice_get xs k ≡ Some x → ⊥) → IsDistinct eqb xs → IsDistinct eqb (x ∷ xs)
unfolding IsDistinct
apart x xs h d = (each xs h, d)
  where
    differs : (x y : ℕ) → (y ≡ x → ⊥) → eqb x y ≡ false
    differs x y h = by (eqb x y) refl
      where
        same : (x y : ℕ) → eqb x y ≡ true → y ≡ x
        same x y e = grind (arith, nat_tests)

        by : (b : Bool) → eqb x y ≡ b → b ≡ false
        by true e = absurd (h (same x y e))
        by false e = refl

    each : (ys : List ℕ) → ((k : ℕ) → slice_get ys k ≡ Some x → ⊥) → AllByRecursion (λ y. eqb x y ≡ false) ys
    each [] h = tt
    each (y ∷ ys) h = (differs x y (λ e. h 0 (ap Some e)), each ys (λ k e. h (suc k) e))

none-distinct : IsDistinct eqb []
unfolding IsDistinct
none-distinct = tt

zero-not-suc : (k : ℕ) → 0 ≡ suc k → ⊥
zero-not-suc k e = absurd (omega (arith, e))

once-distinct : (xs : List ℕ) → StandsOnce xs → IsDistinct eqb xs
once-distinct [] h = none-distinct
once-distinct (x ∷ xs) h =
    apart x xs (λ k e. zero-not-suc k (h 0 (suc k) x refl e)) (once-distinct xs (λ j k v a b. let e : suc j ≡ suc k = h (suc j) (suc k) v a b in omega (arith, e)))

-- a number that stands in the list stands at a place
placed : (q : ℕ) (xs : List ℕ) → list_any (eqb q) xs ≡ true → (k : ℕ) × (slice_get xs k ≡ Some q)
placed q [] h = absurd (false≢true h)
placed q (x ∷ xs) h = by (eqb q x) refl h (placed q xs)
  where
    same : (q x : ℕ) → eqb q x ≡ true → x ≡ q
    same q x e = grind (arith, nat_tests)

    by : (b : Bool) → eqb q x ≡ b → (b || list_any (eqb q) xs) ≡ true → (list_any (eqb q) xs ≡ true → (k : ℕ) × (slice_get xs k ≡ Some q)) → (k : ℕ) × (slice_get (x ∷ xs) k ≡ Some q)
    by true e h go = (0, ap Some (same q x e))
    by false e h go = let r = go h in (suc r.0, r.1)

-- an argument by its place
record ArgAt (xs : List Arg) (j v : ℕ) : Type 0 where
  within : j < length xs
  value : option_map (λ (a : Arg). a.value) (slice_get xs j) ≡ Some (record { 0 = v })

arg-at : (xs : List Arg) (j v : ℕ) → slice_get (map (λ (a : Arg). a.value.0) xs) j ≡ Some v → ArgAt xs j v
arg-at [] j v e = absurd (none-some v e)
arg-at (a ∷ xs) zero v e =
    let q : a.value.0 ≡ v = same_Some a.value.0 v e in
    record { within = omega arith; value = λ i. Some (record { 0 = q i }) }
arg-at (a ∷ xs) (suc j) v e = let r = arg-at xs j v e in let w = r.within in record { within = omega (arith, w); value = r.value }

low-value : (n : ℕ) (xs : List Arg) → ArgsWithin n xs → (k v : ℕ) → slice_get (map (λ (a : Arg). a.value.0) xs) k ≡ Some v → v < n
low-value n [] w k v e = absurd (none-some v e)
low-value n (a ∷ xs) w zero v e = subst (λ x. x < n) (same_Some a.value.0 v e) w.0
low-value n (a ∷ xs) w (suc k) v e = low-value n xs w.1 k v e

args-few : (t : Table) → IsTable t → length t.args < 2 ^ 32
args-few t o =
    let xs : List ℕ = map (λ (a : Arg). a.value.0) t.args in
    let once : StandsOnce xs = λ j k v a b. let x = arg-at t.args j v a in let y = arg-at t.args k v b in
    same-argument j k (o.defined_once v (value_def.Arg j) (value_def.Arg k) (x.within, x.value) (y.within, y.value)) in
    let few : length xs ≤ length t.values = length-le_from_distinct_below xs (length t.values) (once-distinct xs once) (λ q h. let r = placed q xs h in
    low-value (length t.values) t.args o.args_within r.0 q r.1) in
    let long : length xs ≡ length t.args = length-map t.args (λ (a : Arg). a.value.0) in
    let v = o.few_values in
    omega (arith, few, long, v)

pub unit-args-few : (a : Arena) (u : ℕ) → IsArena a → u < unit_count a → length (unit_text_at a u).args < 2 ^ 32
unit-args-few a u o h = let l = length-map (table_at a u).args (arg_text (naming a u)) in let f = args-few (table_at a u) (o.tables u h) in subst (λ n. n < 2 ^ 32) (sym l) f
