-- The chain has a design: it does not nest into itself, and is not too large.
use Rattle.std.proofs.Common.{◌≡◌, ℕ, ◌+◌, ◌*◌, ◌≤◌, false, nat_lt, List, [], ◌∷◌, ◌++◌, length, map, Option, None, refl, ap, sym, ◌∙◌, subst, arith, append_assoc}
use Rattle.std.specs.List.{sum_by, flat_map, range_with_len}
use Rattle.std.proofs.lemmas.Grind.{common_steps}
use Rattle.std.proofs.lemmas.List.{append-nil}
use Rattle.std.proofs.lemmas.List.FromFn.{length-range_with_len}
use Rattle.std.proofs.lemmas.List.Sums.{sum_by-cons, sum_by_from}
use Rattle.lh_types.specs.Types.{bit_count}
use Rattle.lh_unit_names.specs.declared.name.UnitName.{UnitName}
use Rattle.lh_unit.specs.Contents.{LineText}
use Rattle.lh_unit.specs.Held.{Env}
use Rattle.lh_unit.specs.Within.{Each}
use Rattle.lh_unit.specs.Hierarchy.{SignalText, Child, Entry, hierarchies, hierarchy_of, static_held, signals_of, children_of}
use Rattle.lh_unit.specs.Design.{is_one_of, cycle_at, cycle_from, nests_deeper, instance_count, bits_below, max_nesting, max_instances, max_bits, refusal_by, refusal_of, elaborated, design_of}
use Rattle.lh_unit.proofs.Lists.{list_any-none, first_some-none}
use Rattle.lh_selftest_design.specs.Summary.{chain_name}
use Rattle.lh_selftest_laws.specs.Words.{unit_at}
use Rattle.lh_selftest_laws.specs.Chain.{link_signals, link_instances, chain_last, chain_lines, chain_unit, chain_file}
use Rattle.lh_selftest_laws.specs.Laws.{ChainElaborates}

-- ---- lists

sum-ones : {A : Type 0} (f : A → ℕ) (xs : List A) → Each (λ x. f x ≡ 1) xs → sum_by f xs ≡ length xs
sum-ones f [] h = refl
sum-ones f (x ∷ xs) h = omega (arith, sum_by-cons f x xs, h.0, sum-ones f xs h.1)

sum-zeros : {A : Type 0} (f : A → ℕ) (xs : List A) → Each (λ x. f x ≡ 0) xs → sum_by f xs ≡ 0
sum-zeros f [] h = refl
sum-zeros f (x ∷ xs) h = omega (arith, sum_by-cons f x xs, h.0, sum-zeros f xs h.1)

-- ---- the instances and the signals in the chain, whatever it holds

module _ (e : Env) where
  abbrev units_in : List LineText → List UnitName
  units_in ls = map (λ (c : Child). c.unit) (children_of e ls)

  abbrev bits : SignalText → ℕ
  bits s = bit_count s.ty

  abbrev bits_in : List LineText → ℕ
  bits_in ls = sum_by bits (signals_of e ls)

  -- signals are no instances
  signals-units : (is : List ℕ) (more : List LineText) → units_in (flat_map link_signals is ++ more) ≡ units_in more
  signals-units [] more = refl
  signals-units (i ∷ is) more = signals-units is more

  -- the instances are of three units
  instances-units : (P : UnitName → Type 0) → P (unit_at "ff") → P (unit_at "comb") → P (unit_at "tb") → (is : List ℕ) → Each P (units_in (flat_map link_instances is ++ chain_last))
  instances-units P f c t [] = (t, tt)
  instances-units P f c t (i ∷ is) = (f, (c, instances-units P f c t is))

  instances-count : (is : List ℕ) → length (units_in (flat_map link_instances is ++ chain_last)) ≡ 2 * length is + 1
  instances-count [] = refl
  instances-count (i ∷ is) = omega (arith, instances-count is)

  signals-bits : (is : List ℕ) (more : List LineText) → bits_in (flat_map link_signals is ++ more) ≡ 64 * length is + bits_in more
  signals-bits [] more = omega arith
  signals-bits (i ∷ is) more =
      let a : bits_in (flat_map link_signals (i ∷ is) ++ more) ≡ 64 + bits_in (flat_map link_signals is ++ more) = sum_by_from bits 64 (signals_of e (flat_map link_signals is ++ more)) in
      omega (arith, a, signals-bits is more)

  instances-bits : (is : List ℕ) → bits_in (flat_map link_instances is ++ chain_last) ≡ 0
  instances-bits [] = refl
  instances-bits (i ∷ is) = instances-bits is

  module _ (n : ℕ) where
    abbrev ns : List ℕ
    ns = range_with_len 0 n

    abbrev rest : List LineText
    rest = flat_map link_instances ns ++ chain_last

    chain-units : units_in (chain_lines n ++ []) ≡ units_in rest
    chain-units =
        ap units_in (append-nil (chain_lines n))
        ∙ ap units_in (append_assoc (flat_map link_signals ns) (flat_map link_instances ns) chain_last)
        ∙ signals-units ns rest

    chain-bits : bits_in (chain_lines n ++ []) ≡ 64 * n + 33
    chain-bits =
        let l : length ns ≡ n = length-range_with_len 0 n in
        let a : bits_in (chain_lines n ++ []) ≡ bits_in (chain_lines n) = ap bits_in (append-nil (chain_lines n)) in
        let b : bits_in (chain_lines n) ≡ 33 + bits_in (flat_map link_signals ns ++ rest) =
        sum_by_from bits 33 (signals_of e (flat_map link_signals ns ++ flat_map link_instances ns ++ chain_last))
        ∙ ap (λ ls. 33 + bits_in ls) (append_assoc (flat_map link_signals ns) (flat_map link_instances ns) chain_last)
        in
        omega (arith, a, b, signals-bits ns rest, instances-bits ns, l)

    -- what holds of the three units holds of each instance
    chain-each : (P : UnitName → Type 0) → P (unit_at "ff") → P (unit_at "comb") → P (unit_at "tb") → Each P (units_in (chain_lines n ++ []))
    chain-each P f c t = subst (Each P) (sym chain-units) (instances-units P f c t ns)

    chain-count : length (units_in (chain_lines n ++ [])) ≡ 2 * n + 1
    chain-count =
        let l : length ns ≡ n = length-range_with_len 0 n in
        omega (arith, ap (λ (us : List UnitName). length us) chain-units, instances-count ns, l)

-- ---- nothing refuses the chain

module _ (n : ℕ) (h : n ≤ 1000) where
  abbrev table : List Entry
  table = hierarchies (chain_file n)

  abbrev held : Env
  held = static_held (chain_unit n) [] []

  no-cycle : cycle_from (length table) table [] chain_name ≡ None
  no-cycle =
      let f : UnitName → Option UnitName = λ t. cycle_at (cycle_from 3 table (chain_name ∷ [])) (is_one_of (chain_name ∷ []) t) t in
      first_some-none f (units_in held (chain_lines n ++ [])) (chain-each held n (λ t. f t ≡ None) refl refl refl)

  not-deep : nests_deeper max_nesting table chain_name ≡ false
  not-deep = list_any-none (nests_deeper 63 table) (units_in held (chain_lines n ++ [])) (chain-each held n (λ t. nests_deeper 63 table t ≡ false) refl refl refl)

  few : nat_lt max_instances (instance_count max_nesting table chain_name) ≡ false
  few =
      let s : sum_by (instance_count 63 table) (units_in held (chain_lines n ++ [])) ≡ length (units_in held (chain_lines n ++ [])) =
      sum-ones (instance_count 63 table) (units_in held (chain_lines n ++ [])) (chain-each held n (λ t. instance_count 63 table t ≡ 1) refl refl refl) in
      let c : length (units_in held (chain_lines n ++ [])) ≡ 2 * n + 1 = chain-count held n in
      let e : 1 + sum_by (instance_count 63 table) (units_in held (chain_lines n ++ [])) ≡ 2 * n + 2 = omega arith in
      ap (nat_lt 65536) e ∙ (let k : 2 * n + 2 ≤ 65536 = omega arith in grind (arith, common_steps))

  small : nat_lt max_bits (0 + bits_below max_nesting table chain_name) ≡ false
  small =
      let s : sum_by (bits_below 63 table) (units_in held (chain_lines n ++ [])) ≡ 0 =
      sum-zeros (bits_below 63 table) (units_in held (chain_lines n ++ [])) (chain-each held n (λ t. bits_below 63 table t ≡ 0) refl refl refl) in
      let b : bits_in held (chain_lines n ++ []) ≡ 64 * n + 33 = chain-bits held n in
      let e : 0 + (bits_in held (chain_lines n ++ []) + sum_by (bits_below 63 table) (units_in held (chain_lines n ++ []))) ≡ 64 * n + 33 = omega arith in
      ap (nat_lt 16777216) e ∙ (let k : 64 * n + 33 ≤ 16777216 = omega arith in grind (arith, common_steps))

  not-refused : refusal_of table chain_name (hierarchy_of (chain_unit n)) ≡ None
  unfolding refusal_of
  not-refused j = refusal_by false (no-cycle j) (not-deep j) (few j) (small j)

pub chain-elaborates : ChainElaborates
chain-elaborates n h =
    let d = design_of max_nesting (table n h) chain_name in
    (d, ap (λ r. elaborated r d) (not-refused n h))
