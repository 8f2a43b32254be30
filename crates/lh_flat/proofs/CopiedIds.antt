-- The ids of the values of a copy, by what defines each.
use Rattle.std.proofs.Common.{◌≡◌, ℕ, zero, suc, ◌+◌, ◌<◌, inl, inr, Bool, true, false, ◌||◌, nat_eq, if◌then◌else◌, List, [], ◌∷◌, length, get_or, Option, Some, None, slice_get, unwrap_or, refl, ap, sym, ◌∙◌, subst, arith}
use Rattle.std.specs.Option.{option_map}
use Rattle.std.proofs.lemmas.Bool.{cases_lt}
use Rattle.std.proofs.lemmas.List.{get_or_past}
use Rattle.std.proofs.lemmas.List.FromFn.{map-range_with_len_more, length-map-range_with_len}
use Rattle.lh_unit.specs.ById.{maybe_id}
use Rattle.lh_unit.specs.Contents.{defines_value}
use Rattle.lh_unit.specs.Table.{Table, IsTable, IsDefinition, is_arg, is_result, is_made, is_defined, has_definition, line_at, no_line}
use Rattle.lh_unit.specs.Within.{Each}
use Rattle.lh_unit.specs.Arena.{Arena, IsArena, table_at, unit_count, value_count, value_name_at, unit_text_at}
use Rattle.lh_unit.specs.declared.inst.Arg.{Arg}
use Rattle.lh_unit.specs.declared.inst.InstId.{InstId}
use Rattle.lh_unit.specs.declared.inst.ValueId.{ValueId}
use Rattle.lh_unit.specs.declared.inst.ValueDef.{ValueDef}
use Rattle.lh_unit.specs.declared.inst.ValueDef.TheVariants as value_def
use Rattle.lh_unit.specs.declared.table.TableLine.{TableLine}
use Rattle.lh_unit.proofs.Lists.{nat_eq-refl, nat_eq-is, not_true, some_inj}
use Rattle.lh_unit.proofs.ById.{result-within, defines_value-by_id}
use Rattle.lh_unit.proofs.DefinitionsGive.{is_arg-there}
use Rattle.lh_unit.proofs.ValueDefinitions.{definition-tells}
use Rattle.lh_flat.specs.Agrees.{IsKnown}
use Rattle.lh_flat.specs.Building.{argument_of, result_id, new_id}
use Rattle.lh_flat.specs.CopyNames.{is_known}
use Rattle.lh_types.proofs.Tests.{or_false_left, or_false_right}

-- a line that gives a value stands in the table
gives-within : (t : Table) (i : ℕ) (v : ValueId) → (line_at t i).result ≡ Some v → i < length t.lines
gives-within t i v e = elim (cases_lt i (length t.lines)) [
  | inl l ↦ l
  | inr l ↦ let q : line_at t i ≡ no_line = get_or_past t.lines i no_line l in absurd (none v (sym (ap (λ (x : TableLine). x.result) q) ∙ e))
]
  where
    none : (w : ValueId) → None ≡ Some w → ⊥
    none w z = cc

-- the result of a line is a known value
pub result-known : (a : Arena) (u : ℕ) (o : IsArena a) (l : u < unit_count a) (i : ℕ) (v : Option ValueId) → v ≡ (line_at (table_at a u) i).result → Each (IsKnown (is_known a u)) (maybe_id v)
result-known a u o l i None e = tt
result-known a u o l i (Some v) e = (
  defines_value-by_id a u o l v.0 (within (line_at (table_at a u) i).result (sym e) (result-within a u o l i))
      ∙ definition-tells (table_at a u) v.0 (value_def.Inst (record { 0 = i })) (gives-within (table_at a u) i v (sym e), sym e),
  tt,
)
  where
    within : (r : Option ValueId) → r ≡ Some v → Rattle.lh_unit.specs.Table.ResultWithin (value_count a u) r → v.0 < value_count a u
    within None z h = cc
    within (Some w) z h = let q : w ≡ v = some_inj w v z in subst (λ (x : ValueId). x.0 < value_count a u) q h

-- the argument of a parameter, where the parameter is the only one that is the value
argument-at : (ps : List Arg) (xs : List ValueId) (j k : ℕ) → option_map (λ (p : Arg). p.value) (slice_get ps j) ≡ Some (record { 0 = k })
    → ((i : ℕ) → i < length ps → option_map (λ (p : Arg). p.value) (slice_get ps i) ≡ Some (record { 0 = k }) → i ≡ j) → argument_of ps xs k ≡ slice_get xs j
argument-at [] xs j k e u = cc
argument-at (p ∷ ps) [] zero k e u = refl
argument-at (p ∷ ps) [] (suc j) k e u = refl
argument-at (p ∷ ps) (x ∷ xs) zero k e u =
    let q : p.value ≡ record { 0 = k } = some_inj p.value (record { 0 = k }) e in
    ap (λ b. if b then Some x else argument_of ps xs k) (ap (λ (v : ValueId). nat_eq v.0 k) q ∙ nat_eq-refl k)
argument-at (p ∷ ps) (x ∷ xs) (suc j) k e u =
    let n : nat_eq p.value.0 k ≡ false = not_true (nat_eq p.value.0 k) (λ t. let w : p.value.0 ≡ k = nat_eq-is p.value.0 k t in
    let z : zero ≡ suc j = u zero (omega arith) (λ i. Some (record { 0 = w i })) in cc) in
    ap (λ b. if b then Some x else argument_of ps xs k) n ∙ argument-at ps xs j k e (λ i h q. let z : suc i ≡ suc j = u (suc i) (omega (arith, h)) q in omega (arith, z))

argument-none : (ps : List Arg) (xs : List ValueId) (k : ℕ) → is_arg ps k ≡ false → argument_of ps xs k ≡ None
argument-none [] xs k e = refl
argument-none (p ∷ ps) [] k e = refl
argument-none (p ∷ ps) (x ∷ xs) k e =
    ap (λ b. if b then Some x else argument_of ps xs k) (or_false_left (nat_eq p.value.0 k) (is_arg ps k) e) ∙ argument-none ps xs k (or_false_right (nat_eq p.value.0 k) (is_arg ps k) e)

-- the number of a result, where the line is the only one that gives it
result-at : (from : ℕ) (ls : List TableLine) (i k : ℕ) → (get_or ls i no_line).result ≡ Some (record { 0 = k })
    → ((j : ℕ) → j < length ls → (get_or ls j no_line).result ≡ Some (record { 0 = k }) → j ≡ i) → result_id from ls k ≡ from + i
result-at from [] i k e u = cc
result-at from (l ∷ ls) zero k e u =
    ap (λ b. if b then from else result_id (from + 1) ls k) (ap (λ r. is_result r k) e ∙ nat_eq-refl k) ∙ first from
  where
    first : (n : ℕ) → n ≡ n + 0
    first n = omega arith
result-at from (l ∷ ls) (suc i) k e u =
    let n : is_result l.result k ≡ false = not_true (is_result l.result k) (λ t. let z : zero ≡ suc i = u zero (omega arith) (gives l.result t) in cc) in
    ap (λ b. if b then from else result_id (from + 1) ls k) n
    ∙ result-at (from + 1) ls i k e (λ j h q. let z : suc j ≡ suc i = u (suc j) (omega (arith, h)) q in omega (arith, z))
    ∙ later from i
  where
    gives : (r : Option ValueId) → is_result r k ≡ true → r ≡ Some (record { 0 = k })
    gives None t = cc
    gives (Some v) t = let w : v.0 ≡ k = nat_eq-is v.0 k t in λ x. Some (record { 0 = w x })

    later : (n m : ℕ) → n + 1 + m ≡ n + suc m
    later n m = omega arith

result-none : (from : ℕ) (ls : List TableLine) (k : ℕ) → is_made ls k ≡ false → result_id from ls k ≡ 0
result-none from [] k e = refl
result-none from (l ∷ ls) k e =
    ap (λ b. if b then from else result_id (from + 1) ls k) (or_false_left (is_result l.result k) (is_made ls k) e) ∙ result-none (from + 1) ls k (or_false_right (is_result l.result k) (is_made ls k) e)

abbrev numbered : ℕ → ValueId
numbered n = record { 0 = n }

-- a line that gives the value stands somewhere
is_made-there : (ls : List TableLine) (k : ℕ) → is_made ls k ≡ true → (i : ℕ) × (i < length ls) × ((get_or ls i no_line).result ≡ Some (record { 0 = k }))
is_made-there [] k p = cc
is_made-there (l ∷ ls) k p = by (is_result l.result k) refl (is_made-there ls k)
  where
    gives : (r : Option ValueId) → is_result r k ≡ true → r ≡ Some (record { 0 = k })
    gives None t = cc
    gives (Some v) t = let w : v.0 ≡ k = nat_eq-is v.0 k t in λ x. Some (record { 0 = w x })

    by : (c : Bool) → is_result l.result k ≡ c → (is_made ls k ≡ true → (i : ℕ) × (i < length ls) × ((get_or ls i no_line).result ≡ Some (record { 0 = k })))
        → (i : ℕ) × (i < length (l ∷ ls)) × ((get_or (l ∷ ls) i no_line).result ≡ Some (record { 0 = k }))
    by true e f = (zero, omega arith, gives l.result e)
    by false e f = let r = f (sym (ap (λ c. c || is_made ls k) e) ∙ p) in (suc r.0, omega (arith, r.1), r.2)

module _ (t : Table) (o : IsTable t) (xs : List ValueId) (from k : ℕ) where
  -- a parameter has the id of its argument
  pub id-argument : (j : ℕ) (x : ValueId) → IsDefinition t k (value_def.Arg j) → slice_get xs j ≡ Some x → x ≡ new_id t xs from k
  id-argument j x d e =
      sym (ap (λ y. unwrap_or y (numbered (result_id from t.lines k)))
      (argument-at t.args xs j k d.1 (λ i h q. let z : value_def.Arg i ≡ value_def.Arg j = o.defined_once k (value_def.Arg i) (value_def.Arg j) (h, q) d in cc) ∙ e))

  not-made : (j : ℕ) → IsDefinition t k (value_def.Arg j) → is_made t.lines k ≡ false
  not-made j d = not_true (is_made t.lines k) (λ p. let r = is_made-there t.lines k p in let i : InstId = record { 0 = r.0 } in
      let z : value_def.Inst i ≡ value_def.Arg j = o.defined_once k (value_def.Inst i) (value_def.Arg j) (r.1, r.2) d in cc)

  pub id-unbound : (j : ℕ) → IsDefinition t k (value_def.Arg j) → slice_get xs j ≡ None → numbered 0 ≡ new_id t xs from k
  id-unbound j d e =
      sym (ap (λ y. unwrap_or y (numbered (result_id from t.lines k)))
      (argument-at t.args xs j k d.1 (λ i h q. let z : value_def.Arg i ≡ value_def.Arg j = o.defined_once k (value_def.Arg i) (value_def.Arg j) (h, q) d in cc) ∙ e)
      ∙ ap numbered (result-none from t.lines k (not-made j d)))

  not-argument : (i : InstId) → IsDefinition t k (value_def.Inst i) → is_arg t.args k ≡ false
  not-argument i d = not_true (is_arg t.args k) (λ p. let r = is_arg-there t.args k p in
      let z : value_def.Arg r.0 ≡ value_def.Inst i = o.defined_once k (value_def.Arg r.0) (value_def.Inst i) (r.1, r.2) d in cc)

  -- a result has the id of its instruction
  pub id-result : (i : InstId) (n : ℕ) → IsDefinition t k (value_def.Inst i) → n ≡ from + i.0 → numbered n ≡ new_id t xs from k
  id-result i n d e =
      ap numbered (e ∙ sym (result-at from t.lines i.0 k d.1 (λ j h q. let y : InstId = record { 0 = j } in
      let z : value_def.Inst y ≡ value_def.Inst i = o.defined_once k (value_def.Inst y) (value_def.Inst i) (h, q) d in ap number z)))
      ∙ sym (ap (λ y. unwrap_or y (numbered (result_id from t.lines k))) (argument-none t.args xs k (not-argument i d)))
    where
      number : ValueDef → ℕ
      number value_def.Missing = 0
      number (value_def.Arg j) = 0
      number (value_def.Inst y) = y.0

  -- what nothing defines has the first id
  pub id-missing : IsDefinition t k value_def.Missing → numbered 0 ≡ new_id t xs from k
  id-missing d =
      sym (ap (λ y. unwrap_or y (numbered (result_id from t.lines k))) (argument-none t.args xs k (or_false_left (is_arg t.args k) (is_made t.lines k) d))
      ∙ ap numbered (result-none from t.lines k (or_false_right (is_arg t.args k) (is_made t.lines k) d)))
