-- The first results of steps to each part, as results are taken one by one.
use Rattle.std.proofs.Common.{◌≡◌, ℕ, ◌<◌, Bool, true, false, ◌&&◌, nat_eq, if◌then◌else◌, unwrap_or, List, [], ◌∷◌, ◌++◌, length, Option, Some, None, refl, ap, sym, ◌∙◌, subst}
use Rattle.std.specs.HashMap.{HashMap, get}
use Rattle.std.specs.Option.{is_some}
use Rattle.std.proofs.lemmas.Option.{same_Some, none-some}
use Rattle.lh_types.specs.Same.{and_both, nat_eq-is, nat_eq-refl}
use Rattle.lh_unit.specs.Typing.{or_else}
use Rattle.lh_unit.specs.Within.{Each}
use Rattle.lh_unit.specs.declared.inst.ValueId.{ValueId}
use Rattle.lh_term.specs.Same.{same_part, same_part-is}
use Rattle.lh_term.specs.declared.part.Part.{Part}
use Rattle.lh_flat.specs.declared.flat.FlatInst.{FlatInst}
use Rattle.lh_flat.specs.declared.flat.Flat.{Flat}
use Rattle.lh_flat_parts.specs.declared.step.PartStep.{PartStep}
use Rattle.lh_flat_parts.specs.declared.table.PartTable.{PartTable}
use Rattle.lh_flat_parts.specs.Steps.{step_in, with_result, step_results, insts_in, StepWithin, HasSteps, part_at, IsPartTable}
use Rattle.lh_emit_source.specs.Firsts.{is_the_part, first_result, same_key, kept_at, key_of, kept_for, AddsAt, KeepsFirsts, KeepsOneMore}
use Rattle.lh_flat.specs.Below.{ValuesBelow}
use Rattle.lh_emit_source.proofs.WaysBack.{values-push}

-- ---- one more result

-- the last of results, where it is the part
abbrev last_if : List (Option Part) → ValueId → Part → Option ValueId
last_if parts v p = if is_the_part p (part_at parts v.0) then Some v else None

pub first-push : (parts : List (Option Part)) (vs : List ValueId) (v : ValueId) (p : Part) → first_result parts (vs ++ v ∷ []) p ≡ or_else (first_result parts vs p) (last_if parts v p)
first-push parts [] v p = refl
first-push parts (w ∷ vs) v p = by (is_the_part p (part_at parts w.0)) (first-push parts vs v p)
  where
    by : (b : Bool) → first_result parts (vs ++ v ∷ []) p ≡ or_else (first_result parts vs p) (last_if parts v p)
        → (if b then Some w else first_result parts (vs ++ v ∷ []) p) ≡ or_else (if b then Some w else first_result parts vs p) (last_if parts v p)
    by true e = refl
    by false e = e

or-none : (o : Option ValueId) → or_else o None ≡ o
or-none None = refl
or-none (Some v) = refl

-- the last one is the part, or not
last-other : (parts : List (Option Part)) (v : ValueId) (p : Part) (o : Option Part) → part_at parts v.0 ≡ o → is_the_part p o ≡ false → last_if parts v p ≡ None
last-other parts v p o e f = ap (λ (x : Option Part). if is_the_part p x then Some v else None) e ∙ ap (λ (b : Bool). if b then Some v else None) f

pub not-one-more : (parts : List (Option Part)) (vs : List ValueId) (v : ValueId) (p : Part) (o : Option Part) → part_at parts v.0 ≡ o → is_the_part p o ≡ false
    → first_result parts (vs ++ v ∷ []) p ≡ first_result parts vs p
not-one-more parts vs v p o e f = first-push parts vs v p ∙ ap (or_else (first_result parts vs p)) (last-other parts v p o e f) ∙ or-none (first_result parts vs p)

key-is : (x y : ℕ × ℕ × ℕ) → same_key x y ≡ true → x ≡ y
key-is x y f =
    let (front, f2) = and_both (nat_eq x.0 y.0 && nat_eq x.1 y.1) (nat_eq x.2 y.2) f in
    let (f0, f1) = and_both (nat_eq x.0 y.0) (nat_eq x.1 y.1) front in
    (λ i. (nat_eq-is x.0 y.0 f0 i, nat_eq-is x.1 y.1 f1 i, nat_eq-is x.2 y.2 f2 i))

key-refl : (x : ℕ × ℕ × ℕ) → same_key x x ≡ true
key-refl x =
    ap (λ (b : Bool). (b && nat_eq x.1 x.1) && nat_eq x.2 x.2) (nat_eq-refl x.0) ∙ ap (λ (b : Bool). b && nat_eq x.2 x.2) (nat_eq-refl x.1) ∙ nat_eq-refl x.2

module _ {S : Type 0} (parts : List (Option Part)) (v : ValueId) where
  -- it is no part
  pub takes-none : (m : HashMap (ℕ × ℕ × ℕ) (List ValueId) S) → part_at parts v.0 ≡ None → KeepsOneMore parts v m m
  takes-none m e = λ results h. record { within = h.within; first = λ p. h.first p ∙ sym (not-one-more parts results v p None e refl) }

  -- an earlier one is the same part
  pub takes-again : (m : HashMap (ℕ × ℕ × ℕ) (List ValueId) S) (q : Part) (w : ValueId) → part_at parts v.0 ≡ Some q → first_result parts (kept_for m q) q ≡ Some w → KeepsOneMore parts v m m
  takes-again m q w e f = λ results h. record { within = h.within; first = λ p. h.first p ∙ by results h p (same_part q p) refl }
    where
      by : (results : List ValueId) → KeepsFirsts parts results m → (p : Part) (b : Bool) → same_part q p ≡ b → first_result parts results p ≡ first_result parts (results ++ v ∷ []) p
      by results h p false k = sym (not-one-more parts results v p (Some q) e k)
      by results h p true k =
          let there : first_result parts results p ≡ Some w = subst (λ (x : Part). first_result parts results x ≡ Some w) (same_part-is q p k) (sym (h.first q) ∙ f) in
          there ∙ sym (first-push parts results v p ∙ ap (λ (o : Option ValueId). or_else o (last_if parts v p)) there)

  pub takes-seen : (m : HashMap (ℕ × ℕ × ℕ) (List ValueId) S) (q : Part) (o : Option ValueId) (vs : List ValueId) → part_at parts v.0 ≡ Some q → vs ≡ kept_for m q → o ≡ first_result parts vs q
      → true ≡ is_some o → KeepsOneMore parts v m m
  takes-seen m q None vs e k f t = absurd (let z : true ≡ false = t in cc)
  takes-seen m q (Some w) vs e k f t = takes-again m q w e (ap (λ (x : List ValueId). first_result parts x q) (sym k) ∙ sym f)

  -- it is added to those of its key
  pub takes-new : (m n : HashMap (ℕ × ℕ × ℕ) (List ValueId) S) (q : Part) (key : ℕ × ℕ × ℕ) → part_at parts v.0 ≡ Some q → key ≡ key_of q → v.0 < length parts
      → AddsAt key v m n → KeepsOneMore parts v m n
  takes-new m n q key e c l adds = λ results h. record { within = λ k. within-at results h k (same_key key k) refl; first = λ p. at results h p (same_key key (key_of p)) refl }
    where
      within-at : (results : List ValueId) → KeepsFirsts parts results m → (k : ℕ × ℕ × ℕ) (b : Bool) → same_key key k ≡ b → ValuesBelow (length parts) (kept_at n k)
      within-at results h k true f = subst (ValuesBelow (length parts)) (sym (adds.kept k ∙ ap (λ (x : Bool). if x then kept_at m key ++ v ∷ [] else kept_at m k) f))
          (values-push (length parts) (kept_at m key) v (h.within key) l)
      within-at results h k false f = subst (ValuesBelow (length parts)) (sym (adds.kept k ∙ ap (λ (x : Bool). if x then kept_at m key ++ v ∷ [] else kept_at m k) f)) (h.within k)

      at : (results : List ValueId) → KeepsFirsts parts results m → (p : Part) (b : Bool) → same_key key (key_of p) ≡ b → first_result parts (kept_for n p) p ≡ first_result parts (results ++ v ∷ []) p
      at results h p true f =
          let same : key ≡ key_of p = key-is key (key_of p) f in
          ap (λ (vs : List ValueId). first_result parts vs p)
          (adds.kept (key_of p) ∙ ap (λ (x : Bool). if x then kept_at m key ++ v ∷ [] else kept_for m p) f ∙ ap (λ (k : ℕ × ℕ × ℕ). kept_at m k ++ v ∷ []) same)
          ∙ first-push parts (kept_for m p) v p
          ∙ ap (λ (o : Option ValueId). or_else o (last_if parts v p)) (h.first p)
          ∙ sym (first-push parts results v p)
      at results h p false f =
          ap (λ (vs : List ValueId). first_result parts vs p) (adds.kept (key_of p) ∙ ap (λ (x : Bool). if x then kept_at m key ++ v ∷ [] else kept_for m p) f)
          ∙ h.first p
          ∙ sym (not-one-more parts results v p (Some q) e (by (same_part q p) refl))
        where
          by : (b : Bool) → same_part q p ≡ b → same_part q p ≡ false
          by false k = k
          by true k =
              let there : same_key key (key_of q) ≡ false = subst (λ (x : Part). same_key key (key_of x) ≡ false) (sym (same_part-is q p k)) f in
              let here : same_key key (key_of q) ≡ true = ap (λ (x : ℕ × ℕ × ℕ). same_key x (key_of q)) c ∙ key-refl (key_of q) in
              absurd (let z : true ≡ false = sym here ∙ there in cc)

-- ---- one more value at a key

-- what was kept at a key is taken out, and put back with one more value
pub kept-updated : {S : Type 0} (m k n : HashMap (ℕ × ℕ × ℕ) (List ValueId) S) (key : ℕ × ℕ × ℕ) (v : ValueId) (old new : List ValueId) → old ≡ kept_at m key
    → ((q : ℕ × ℕ × ℕ) → same_key key q ≡ false → kept_at k q ≡ kept_at m q)
    → new ≡ old ++ v ∷ [] → ((q : ℕ × ℕ × ℕ) → get same_key n q ≡ (if same_key key q then Some new else get same_key k q)) → AddsAt key v m n
kept-updated m k n key v old new o others e u = record { kept = λ q. ap (λ (x : Option (List ValueId)). unwrap_or x []) (u q) ∙ by q (same_key key q) refl }
  where
    by : (q : ℕ × ℕ × ℕ) (b : Bool) → same_key key q ≡ b → unwrap_or (if b then Some new else get same_key k q) [] ≡ (if b then kept_at m key ++ v ∷ [] else kept_at m q)
    by q true t = e ∙ ap (λ (x : List ValueId). x ++ v ∷ []) o
    by q false t = others q t

-- ---- nothing is kept before the first result

pub keeps-none : {S : Type 0} (parts : List (Option Part)) (m : HashMap (ℕ × ℕ × ℕ) (List ValueId) S) → ((k : ℕ × ℕ × ℕ) → get same_key m k ≡ None) → KeepsFirsts parts [] m
keeps-none parts m h = record {
  within = λ k. subst (ValuesBelow (length parts)) (sym (ap (λ (o : Option (List ValueId)). unwrap_or o []) (h k))) tt;
  first = λ p. ap (λ (o : Option (List ValueId)). first_result parts (unwrap_or o []) p) (h (key_of p));
}

-- ---- the results of a flat text are values

with-within : (n : ℕ) (r : Option ValueId) (s : Option PartStep) (more : List ValueId) → StepWithin n r s → ValuesBelow n more → ValuesBelow n (with_result r s more)
with-within n None s more h a = a
with-within n (Some v) None more h a = a
with-within n (Some v) (Some s) more h a = (h.0, a)

results-within : (n : ℕ) (ls : List FlatInst) → Each (λ (l : FlatInst). StepWithin n l.result (step_in l.inst)) ls → ValuesBelow n (step_results ls)
results-within n [] h = tt
results-within n (l ∷ ls) h = with-within n l.result (step_in l.inst) (step_results ls) h.0 (results-within n ls h.1)

pub results-values : (t : Flat) (table : PartTable) → HasSteps t → IsPartTable t table → ValuesBelow (length table.parts.items) table.steps.results.items
results-values t table h i =
    subst (ValuesBelow (length table.parts.items)) (sym i.results)
    (subst (λ (n : ℕ). ValuesBelow n (step_results (insts_in t.blocks))) (sym i.long) (results-within t.values (insts_in t.blocks) h.within))

-- ---- the first one that is the part

pub first-some : (n : ℕ) (parts : List (Option Part)) (vs : List ValueId) (p : Part) (v : ValueId) → ValuesBelow n vs → first_result parts vs p ≡ Some v → (v.0 < n) × (part_at parts v.0 ≡ Some p)
first-some n parts [] p v h e = absurd (none-some v e)
first-some n parts (w ∷ vs) p v h e = at (part_at parts w.0) refl e (first-some n parts vs p v h.1)
  where
    by : (q : Part) → part_at parts w.0 ≡ Some q → (b : Bool) → same_part q p ≡ b → (if b then Some w else first_result parts vs p) ≡ Some v
        → (first_result parts vs p ≡ Some v → (v.0 < n) × (part_at parts v.0 ≡ Some p)) → (v.0 < n) × (part_at parts v.0 ≡ Some p)
    by q f false t k go = go k
    by q f true t k go =
        let same : w ≡ v = same_Some w v k in
        (subst (λ (x : ValueId). x.0 < n) same h.0, ap (λ (x : ValueId). part_at parts x.0) (sym same) ∙ f ∙ ap Some (same_part-is q p t))

    at : (o : Option Part) → part_at parts w.0 ≡ o → (if is_the_part p o then Some w else first_result parts vs p) ≡ Some v
        → (first_result parts vs p ≡ Some v → (v.0 < n) × (part_at parts v.0 ≡ Some p)) → (v.0 < n) × (part_at parts v.0 ≡ Some p)
    at None f k go = go k
    at (Some q) f k go = by q f (same_part q p) refl k go

pub first-met : (parts : List (Option Part)) (o : Option ValueId) (vs ws : List ValueId) (p : Part) (v : ValueId) → o ≡ first_result parts vs p → vs ≡ ws → o ≡ Some v
    → first_result parts ws p ≡ Some v
first-met parts o vs ws p v a b c = ap (λ (x : List ValueId). first_result parts x p) (sym b) ∙ sym a ∙ c

pub first-missed : (parts : List (Option Part)) (o : Option ValueId) (vs ws : List ValueId) (p : Part) → o ≡ first_result parts vs p → vs ≡ ws → o ≡ None → first_result parts ws p ≡ None
first-missed parts o vs ws p a b c = ap (λ (x : List ValueId). first_result parts x p) (sym b) ∙ sym a ∙ c
