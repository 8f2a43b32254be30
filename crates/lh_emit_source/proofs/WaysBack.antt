-- Steps go back from a part to an argument, in fewer steps than there are values.
use Rattle.std.proofs.Common.{◌≡◌, ℕ, zero, suc, ◌+◌, ◌-◌, ◌<◌, ◌≤◌, Bool, true, false, if◌then◌else◌, List, [], ◌∷◌, ◌++◌, length, Option, Some, None, refl, ap, sym, ◌∙◌, subst, arith, length-append}
use Rattle.std.specs.Option.{option_and_then, is_some, IsSome}
use Rattle.std.proofs.lemmas.Option.{none-some}
use Rattle.lh_unit.specs.declared.inst.ValueId.{ValueId}
use Rattle.lh_unit.proofs.Lists.{Same, same, other, same_or}
use Rattle.lh_term.specs.declared.part.Part.{Part}
use Rattle.lh_flat.specs.declared.flat.Flat.{Flat}
use Rattle.lh_flat_parts.specs.declared.step.PartStep.{PartStep}
use Rattle.lh_flat_parts.specs.declared.table.PartTable.{PartTable}
use Rattle.lh_flat_parts.specs.Steps.{step_giving, insts_in, argument_of, stepped, part_by, part_found, HasSteps, step_at, part_at, IsPartTable}
use Rattle.lh_flat_parts.specs.Resolving.{StepsLeadAlong}
use Rattle.lh_flat_parts.proofs.StepPaths.{StepsLeadAlong-push}
use Rattle.lh_flat_parts.proofs.Resolved.{giving-within}
use Rattle.lh_emit_source.specs.Firsts.{IsWayBack}
use Rattle.lh_flat.specs.Below.{ValuesBelow}

-- ---- as many steps as values are enough

module _ (f : ℕ → Option PartStep) (a : ℕ → Option Part) where
  pub one-more : (n v : ℕ) (p : Part) → part_found n f a v ≡ Some p → part_found (suc n) f a v ≡ Some p
  one-more zero v p h = absurd (none-some p h)
  one-more (suc n) v p h = by (f v) h (λ u q k. one-more n u q k)
    where
      by : (o : Option PartStep) → part_by (part_found n f a) o (a v) ≡ Some p → ((u : ℕ) (q : Part) → part_found n f a u ≡ Some q → part_found (suc n) f a u ≡ Some q)
          → part_by (part_found (suc n) f a) o (a v) ≡ Some p
      by None k g = k
      by (Some s) k g = at (part_found n f a s.from.0) refl k
        where
          at : (x : Option Part) → part_found n f a s.from.0 ≡ x → option_and_then (λ (q : Part). stepped q s) x ≡ Some p
              → option_and_then (λ (q : Part). stepped q s) (part_found (suc n) f a s.from.0) ≡ Some p
          at None q l = absurd (none-some p l)
          at (Some x) q l = ap (option_and_then (λ (y : Part). stepped y s)) (g s.from.0 x q) ∙ l

  abbrev is_found : ℕ → ℕ → Bool
  is_found n v = is_some (part_found n f a v)

  -- how many of the first m values are found
  abbrev count : (n m : ℕ) → ℕ
  count n zero = 0
  count n (suc m) = if is_found n m then suc (count n m) else count n m

  found-more : (n v : ℕ) → is_found n v ≡ true → is_found (suc n) v ≡ true
  found-more n v e = at (part_found n f a v) refl e
    where
      at : (x : Option Part) → part_found n f a v ≡ x → is_some x ≡ true → is_found (suc n) v ≡ true
      at None q k = absurd cc
      at (Some p) q k = ap is_some (one-more n v p q)

  count-within : (n m : ℕ) → count n m ≤ m
  count-within n zero = omega arith
  count-within n (suc m) = at (is_found n m) (count-within n m)
    where
      at : (b : Bool) → count n m ≤ m → (if b then suc (count n m) else count n m) ≤ suc m
      at true h = omega (arith, h)
      at false h = omega (arith, h)

  count-more : (n m : ℕ) → count n m ≤ count (suc n) m
  count-more n zero = omega arith
  count-more n (suc m) = at (is_found n m) (is_found (suc n) m) refl refl (count-more n m)
    where
      at : (x y : Bool) → is_found n m ≡ x → is_found (suc n) m ≡ y → count n m ≤ count (suc n) m → (if x then suc (count n m) else count n m) ≤ (if y then suc (count (suc n) m) else count (suc n) m)
      at true true p q k = omega (arith, k)
      at true false p q k = let z : true ≡ false = sym (found-more n m p) ∙ q in absurd cc
      at false true p q k = omega (arith, k)
      at false false p q k = k

  -- it is found with one more step, and not with this many
  record IsNew (n v : ℕ) : Type 0 where
    part : Part
    before : part_found n f a v ≡ None
    after : part_found (suc n) f a v ≡ Some part

  count-one : (n m v : ℕ) → IsNew n v → v < m → count n m < count (suc n) m
  count-one n zero v w l = absurd (omega (arith, l))
  count-one n (suc m) v w l = by (same_or v m) (count-one n m v w)
    where
      unfound : is_found n v ≡ false
      unfound = ap is_some w.before

      found : is_found (suc n) v ≡ true
      found = ap is_some w.after

      last : (x y : Bool) → x ≡ false → y ≡ true → count n m ≤ count (suc n) m → (if x then suc (count n m) else count n m) < (if y then suc (count (suc n) m) else count (suc n) m)
      last true y p q k = absurd cc
      last false true p q k = omega (arith, k)
      last false false p q k = absurd cc

      before : (x y : Bool) → is_found n m ≡ x → is_found (suc n) m ≡ y → count n m < count (suc n) m
          → (if x then suc (count n m) else count n m) < (if y then suc (count (suc n) m) else count (suc n) m)
      before true true p q k = omega (arith, k)
      before true false p q k = let z : true ≡ false = sym (found-more n m p) ∙ q in absurd cc
      before false true p q k = omega (arith, k)
      before false false p q k = k

      by : Same v m → (v < m → count n m < count (suc n) m) → count n (suc m) < count (suc n) (suc m)
      by (same e) go = last (is_found n m) (is_found (suc n) m) (subst (λ (i : ℕ). is_found n i ≡ false) e unfound) (subst (λ (i : ℕ). is_found (suc n) i ≡ true) e found) (count-more n m)
      by (other e) go = before (is_found n m) (is_found (suc n) m) refl refl (go (omega (arith, l, e)))

  -- what it is a step from is new with one step fewer
  new-from : (n v : ℕ) → IsNew (suc n) v → (s : PartStep) × (f v ≡ Some s) × IsNew n s.from.0
  new-from n v w = by (f v) refl w.before w.after
    where
      by : (o : Option PartStep) → f v ≡ o → part_by (part_found n f a) o (a v) ≡ None → part_by (part_found (suc n) f a) o (a v) ≡ Some w.part → (s : PartStep) × (f v ≡ Some s) × IsNew n s.from.0
      by None q k l = absurd (none-some w.part (sym k ∙ l))
      by (Some s) q k l = at (part_found n f a s.from.0) refl (part_found (suc n) f a s.from.0) refl k l
        where
          at : (x : Option Part) → part_found n f a s.from.0 ≡ x → (y : Option Part) → part_found (suc n) f a s.from.0 ≡ y
              → option_and_then (λ (p : Part). stepped p s) x ≡ None → option_and_then (λ (p : Part). stepped p s) y ≡ Some w.part → (t : PartStep) × (f v ≡ Some t) × IsNew n t.from.0
          at None i (Some p) j k l = (s, q, record { part = p; before = i; after = j })
          at None i None j k l = absurd (none-some w.part l)
          at (Some x) i y j k l =
              let e : Some x ≡ y = sym (one-more n s.from.0 x i) ∙ j in
              absurd (none-some w.part (sym k ∙ ap (option_and_then (λ (p : Part). stepped p s)) e ∙ l))

  module _ (m : ℕ) (within : (v : ℕ) (s : PartStep) → f v ≡ Some s → s.from.0 < m) where
    new-counted : (n v : ℕ) → IsNew n v → n ≤ count n m
    new-counted zero v w = omega arith
    new-counted (suc n) v w =
        let t = new-from n v w in
        omega (arith, new-counted n t.0.from.0 t.2, count-one n m t.0.from.0 t.2 (within v t.0 t.1))

    -- a value that is found with one more step needs fewer steps than there are values
    new-few : (n v : ℕ) → v < m → IsNew n v → n < m
    new-few n v l w = omega (arith, new-counted n v w, count-one n m v w l, count-within (suc n) m)

    enough : (d v : ℕ) (p : Part) → v < m → part_found (d + m) f a v ≡ Some p → part_found m f a v ≡ Some p
    enough zero v p l h = let z : 0 + m ≡ m = omega arith in ap (λ n. part_found n f a v) (sym z) ∙ h
    enough (suc d) v p l h = at (part_found (d + m) f a v) refl (enough d v)
      where
        next : suc d + m ≡ suc (d + m)
        next = omega arith

        at : (o : Option Part) → part_found (d + m) f a v ≡ o → ((q : Part) → v < m → part_found (d + m) f a v ≡ Some q → part_found m f a v ≡ Some q) → part_found m f a v ≡ Some p
        at None q g = absurd (let k = new-few (d + m) v l (record { part = p; before = q; after = ap (λ n. part_found n f a v) (sym next) ∙ h }) in omega (arith, k))
        at (Some x) q g =
            let e : Some x ≡ Some p = sym (one-more (d + m) v x q) ∙ ap (λ n. part_found n f a v) (sym next) ∙ h in
            g x l q ∙ e

    more : (d n v : ℕ) (p : Part) → part_found n f a v ≡ Some p → part_found (d + n) f a v ≡ Some p
    more zero n v p h = let z : 0 + n ≡ n = omega arith in ap (λ k. part_found k f a v) z ∙ h
    more (suc d) n v p h = let z : suc d + n ≡ suc (d + n) = omega arith in ap (λ k. part_found k f a v) z ∙ one-more (d + n) v p (more d n v p h)

    pub in-few : (n v : ℕ) (p : Part) → v < m → part_found n f a v ≡ Some p → part_found m f a v ≡ Some p
    in-few n v p l h =
        let z : n + m ≡ m + n = omega arith in
        enough n v p l (ap (λ k. part_found k f a v) z ∙ more m n v p h)

-- ---- the step of a flat text

-- ---- the way back from a value

-- the values so far, and how many steps may be left
pub record GoingBack (t : Flat) (steps : List (Option PartStep)) (from : ℕ) (way : List ValueId) (v : ℕ) : Type 0 where
  pub is_in : v < t.values
  pub within : ValuesBelow t.values way
  pub leads : StepsLeadAlong steps from way v
  pub left : ℕ
  pub together : left + length way ≡ t.values
  pub part : Part
  pub found : part_found left (step_giving (insts_in t.blocks)) (argument_of t.args) v ≡ Some part

pub values-push : (n : ℕ) (vs : List ValueId) (v : ValueId) → ValuesBelow n vs → v.0 < n → ValuesBelow n (vs ++ v ∷ [])
values-push n [] v h l = (l, tt)
values-push n (w ∷ vs) v h l = (h.0, values-push n vs v h.1 l)

pub back-none : (t : Flat) (table : PartTable) (v : ℕ) (p : Part) → HasSteps t → IsPartTable t table → v < length table.parts.items → part_at table.parts.items v ≡ Some p
    → GoingBack t table.steps.given.items v [] v
back-none t table v p h i l e =
    let is_in : v < t.values = subst (λ (n : ℕ). v < n) i.long l in
    let k = i.sound v p e in
    record {
      is_in = is_in;
      within = tt;
      leads = refl;
      left = t.values;
      together = omega arith;
      part = p;
      found = in-few (step_giving (insts_in t.blocks)) (argument_of t.args) t.values (λ u s f. giving-within t.values (insts_in t.blocks) u s h.within f) k.0 v p is_in k.1;
    }

pub back-start : (t : Flat) (table : PartTable) (v : ℕ) (way : List ValueId) → HasSteps t → IsPartTable t table → v < length table.parts.items → IsSome (part_at table.parts.items v) → way ≡ []
    → GoingBack t table.steps.given.items v way v
back-start t table v way h i l k e = at (part_at table.parts.items v) refl k
  where
    at : (o : Option Part) → part_at table.parts.items v ≡ o → IsSome o → GoingBack t table.steps.given.items v way v
    at None f z = absurd (let y : false ≡ true = z in cc)
    at (Some p) f z = subst (λ (w : List ValueId). GoingBack t table.steps.given.items v w v) (sym e) (back-none t table v p h i l f)

-- what is found by a step is found from where the step comes
found-from : (f : ℕ → Option PartStep) (a : ℕ → Option Part) (n v : ℕ) (s : PartStep) (p : Part) → f v ≡ Some s → part_found n f a v ≡ Some p → (k : ℕ) × (q : Part) × (n ≡ suc k)
    × (part_found k f a s.from.0 ≡ Some q)
found-from f a zero v s p e h = absurd (none-some p h)
found-from f a (suc n) v s p e h = at (part_found n f a s.from.0) refl (ap (λ o. part_by (part_found n f a) o (a v)) (sym e) ∙ h)
  where
    at : (x : Option Part) → part_found n f a s.from.0 ≡ x → option_and_then (λ (q : Part). stepped q s) x ≡ Some p → (k : ℕ) × (q : Part) × (suc n ≡ suc k) × (part_found k f a s.from.0 ≡ Some q)
    at None q k = absurd (none-some p k)
    at (Some x) q k = (n, x, refl, q)

pub record GoesOn (t : Flat) (steps : List (Option PartStep)) (from : ℕ) (way now : List ValueId) (v : ℕ) : Type 0 where
  pub back : GoingBack t steps from now v
  pub fewer : t.values - length now < t.values - length way

pub back-next : (t : Flat) (table : PartTable) (from : ℕ) (way now : List ValueId) (v : ValueId) (s : PartStep) → HasSteps t → IsPartTable t table → GoingBack t table.steps.given.items from way v.0
    → step_at table.steps.given.items v.0 ≡ Some s → now ≡ way ++ v ∷ [] → GoesOn t table.steps.given.items from way now s.from.0
back-next t table from way now v s h i b e n =
    let given : step_giving (insts_in t.blocks) v.0 ≡ Some s = sym (i.steps v.0 b.is_in) ∙ e in
    let k = found-from (step_giving (insts_in t.blocks)) (argument_of t.args) b.left v.0 s b.part given b.found in
    let long : length now ≡ length way + 1 = ap length n ∙ length-append way (v ∷ []) in
    record {
      back = record {
        is_in = giving-within t.values (insts_in t.blocks) v.0 s h.within given;
        within = subst (ValuesBelow t.values) (sym n) (values-push t.values way v b.within b.is_in);
        leads = subst (λ (w : List ValueId). StepsLeadAlong table.steps.given.items from w s.from.0) (sym n) (StepsLeadAlong-push table.steps.given.items from way v s b.leads e);
        left = k.0;
        together = omega (arith, b.together, k.2, long);
        part = k.1;
        found = k.3;
      };
      fewer = omega (arith, b.together, k.2, long);
    }

pub back-end : (t : Flat) (table : PartTable) (from : ℕ) (way : List ValueId) (v : ℕ) → IsPartTable t table → GoingBack t table.steps.given.items from way v → step_at table.steps.given.items v ≡ None
    → IsWayBack table.steps.given.items from way
back-end t table from way v i b e = record { end = v; within = subst (λ (n : ℕ). ValuesBelow n way) (sym i.long_steps) b.within; leads = b.leads; stops = e }
