-- The steps of values are followed back to an argument, and each value gets the part to which its step leads.
use Rattle.std.proofs.Common.{◌≡◌, ℕ, zero, suc, ◌<◌, ◌⊎◌, inl, inr, Bool, true, false, ◌||◌, nat_eq, List, [], ◌∷◌, ◌++◌, length, get_or, set, Option, Some, None, refl, ap, sym, ◌∙◌, subst, arith, length-set, get_or-set_same, get_or-set_other}
use Rattle.std.proofs.lemmas.List.{set-get_or, get_or_default}
use Rattle.std.specs.Option.{option_and_then}
use Rattle.std.proofs.lemmas.Bool.{or_cases, or_left as or_first, or_right as or_second}
use Rattle.lh_unit.specs.Within.{Each}
use Rattle.lh_unit.specs.declared.inst.ValueId.{ValueId}
use Rattle.lh_unit.proofs.Lists.{Same, same, other, same_or, nat_eq-refl, nat_eq-other, nat_eq-is, or_false}
use Rattle.lh_term.specs.declared.part.Part.{Part}
use Rattle.lh_flat_parts.specs.declared.step.PartStep.{PartStep}
use Rattle.lh_flat_parts.specs.Steps.{stepped, part_by, part_found, IsFound, step_at, part_at}
use Rattle.lh_flat_parts.specs.Resolving.{part_by_step, settled, is_met, is_on, comes_from, StepsAreInPlace, StepsFrom, CanStep, AreFound, Steppable, StepsLeadAlong, AreNew, GoesBack, StepsAreSettled, StepsAreFollowed}
use Rattle.lh_flat.specs.Below.{ValuesBelow}
use Rattle.lh_types.proofs.Tests.{or_false_left, or_false_right, not_both}

-- ---- tests

apart : (a b : ℕ) → nat_eq a b ≡ false → b ≡ a → ⊥
apart a b e h = not_both (nat_eq a b) (subst (λ (k : ℕ). nat_eq a k ≡ true) (sym h) (nat_eq-refl a)) e

other_way : (a b : ℕ) → nat_eq a b ≡ false → nat_eq b a ≡ false
other_way a b e = nat_eq-other b a (λ h. apart a b e h)

each-map : (P Q : ValueId → Type 0) (way : List ValueId) → ((u : ValueId) → is_on way u.0 ≡ true → P u → Q u) → Each P way → Each Q way
each-map P Q [] f h = tt
each-map P Q (w ∷ more) f h = (f w (or_first (nat_eq w.0 w.0) (is_on more w.0) (nat_eq-refl w.0)) h.0, each-map P Q more (λ u on p. f u (or_second (nat_eq w.0 u.0) (is_on more u.0) on) p) h.1)

-- ---- ways

-- what holds of each holds of one that is there
each-on : (P : ℕ → Type 0) (way : List ValueId) (u : ℕ) → Each (λ (w : ValueId). P w.0) way → is_on way u ≡ true → P u
each-on P [] u h e = absurd (not_both false e refl)
each-on P (w ∷ more) u h e = by (λ k. each-on P more u h.1 k) (or_cases (nat_eq w.0 u) (is_on more u) e)
  where
    by : (is_on more u ≡ true → P u) → (nat_eq w.0 u ≡ true) ⊎ (is_on more u ≡ true) → P u
    by f (inl k) = subst P (nat_eq-is w.0 u k) h.0
    by f (inr k) = f k

on_itself : (w : ValueId) (more : List ValueId) → is_on (w ∷ more) w.0 ≡ true
on_itself w more = or_first (nat_eq w.0 w.0) (is_on more w.0) (nat_eq-refl w.0)

each-off : (way : List ValueId) (u : ℕ) → is_on way u ≡ false → Each (λ (w : ValueId). w.0 ≡ u → ⊥) way
each-off [] u e = tt
each-off (w ∷ more) u e = ((λ h. apart u w.0 (other_way w.0 u (or_false_left (nat_eq w.0 u) (is_on more u) e)) h), each-off more u (or_false_right (nat_eq w.0 u) (is_on more u) e))

is_on-push : (way : List ValueId) (x : ValueId) (u : ℕ) → is_on (way ++ x ∷ []) u ≡ (is_on way u || nat_eq x.0 u)
is_on-push [] x u = or_false (nat_eq x.0 u)
is_on-push (w ∷ more) x u = ap (λ (b : Bool). nat_eq w.0 u || b) (is_on-push more x u) ∙ assoc (nat_eq w.0 u) (is_on more u) (nat_eq x.0 u)
  where
    assoc : (a b c : Bool) → (a || (b || c)) ≡ ((a || b) || c)
    assoc true b c = refl
    assoc false b c = refl

pub StepsLeadAlong-push : (steps : List (Option PartStep)) (v : ℕ) (way : List ValueId) (x : ValueId) (s : PartStep) → StepsLeadAlong steps v way x.0 → step_at steps x.0 ≡ Some s
    → StepsLeadAlong steps v (way ++ x ∷ []) s.from.0
StepsLeadAlong-push steps v [] x s h e = (sym h, (s, subst (λ (k : ℕ). step_at steps k ≡ Some s) (sym h) e, refl))
StepsLeadAlong-push steps v (w ∷ more) x s h e = (h.0, (h.1.0, h.1.1, StepsLeadAlong-push steps h.1.0.from.0 more x s h.1.2 e))

AreNew-push : (met : List Bool) (way : List ValueId) (x : ValueId) → AreNew met way → is_met met x.0 ≡ false → is_on way x.0 ≡ false → AreNew met (way ++ x ∷ [])
AreNew-push met [] x h m o = (m, refl, tt)
AreNew-push met (w ∷ more) x h m o = (
  h.0,
  is_on-push more x w.0 ∙ ap (λ (b : Bool). b || nat_eq x.0 w.0) h.1 ∙ other_way w.0 x.0 (or_false_left (nat_eq w.0 x.0) (is_on more x.0) o),
  AreNew-push met more x h.2 m (or_false_right (nat_eq w.0 x.0) (is_on more x.0) o),
)

-- a way back that is not at its end
pub record OnWay (steps : List (Option PartStep)) (old : List Bool) (from : ℕ) (new : List Bool) (way : List ValueId) (at : ℕ) : Type 0 where
  pub leads : StepsLeadAlong steps from way at
  pub new_ones : AreNew old way
  pub met : (v : ℕ) → is_met new v ≡ (is_met old v || is_on way v)
  pub long : length new ≡ length old

pub OnWay-none : (steps : List (Option PartStep)) (met : List Bool) (from : ℕ) → OnWay steps met from met [] from
OnWay-none steps met from = record { leads = refl; new_ones = tt; met = λ v. sym (or_false (is_met met v)); long = refl }

Next : List (Option PartStep) → List Bool → ℕ → ℕ → Type 0
Next steps met v n = (s : PartStep) × (step_at steps v ≡ Some s) × (s.from.0 ≡ n) × (is_met met v ≡ false)

-- the next one, where there is one
next-is : (o : Option PartStep) (b : Bool) (n : ValueId) → comes_from o b ≡ Some n → (s : PartStep) × (o ≡ Some s) × (s.from ≡ n) × (b ≡ false)
next-is o true n e = cc
next-is None false n e = cc
next-is (Some s) false n e = (s, refl, cc, refl)

next-none : (o : Option PartStep) (b : Bool) → comes_from o b ≡ None → (o ≡ None) ⊎ (b ≡ true)
next-none o true e = inr refl
next-none None false e = inl refl
next-none (Some s) false e = cc

met-set : (met : List Bool) (x v : ℕ) → x < length met → is_met (set met x true) v ≡ (is_met met v || nat_eq x v)
met-set met x v l = by (same_or x v)
  where
    by : Same x v → is_met (set met x true) v ≡ (is_met met v || nat_eq x v)
    by (same e) = subst (λ (k : ℕ). is_met (set met x true) k ≡ (is_met met k || nat_eq x k)) e (get_or-set_same met x true false l ∙ sym (or_second (is_met met x) (nat_eq x x) (nat_eq-refl x)))
    by (other n) = get_or-set_other met x v true false (λ h. n (sym h)) ∙ sym (ap (λ (b : Bool). is_met met v || b) (nat_eq-other x v n) ∙ or_false (is_met met v))

pub OnWay-next : (steps : List (Option PartStep)) (old new : List Bool) (from : ℕ) (way : List ValueId) (x n : ValueId) → x.0 < length new → OnWay steps old from new way x.0
    → Some n ≡ comes_from (step_at steps x.0) (is_met new x.0) → OnWay steps old from (set new x.0 true) (way ++ x ∷ []) n.0
OnWay-next steps old new from way x n l w e =
    let i = next-is (step_at steps x.0) (is_met new x.0) n (sym e) in
    let off : (is_met old x.0 || is_on way x.0) ≡ false = sym (w.met x.0) ∙ i.3 in
    record {
      leads = subst (λ (k : ValueId). StepsLeadAlong steps from (way ++ x ∷ []) k.0) i.2 (StepsLeadAlong-push steps from way x i.0 w.leads i.1);
      new_ones = AreNew-push old way x w.new_ones (or_false_left (is_met old x.0) (is_on way x.0) off) (or_false_right (is_met old x.0) (is_on way x.0) off);
      met = λ v.
          met-set new x.0 v l
          ∙ ap (λ (b : Bool). b || nat_eq x.0 v) (w.met v)
          ∙ assoc (is_met old v) (is_on way v) (nat_eq x.0 v)
          ∙ ap (λ (b : Bool). is_met old v || b) (sym (is_on-push way x v));
      long = length-set new x.0 true ∙ w.long;
    }
  where
    assoc : (a b c : Bool) → ((a || b) || c) ≡ (a || (b || c))
    assoc true b c = refl
    assoc false b c = refl

pub GoesBack-end : (steps : List (Option PartStep)) (old new : List Bool) (from : ℕ) (way : List ValueId) (x : ℕ) → OnWay steps old from new way x → None ≡ comes_from (step_at steps x) (is_met new x)
    → GoesBack steps old from new way
GoesBack-end steps old new from way x w e = record {
  end = x;
  leads = w.leads;
  new_ones = w.new_ones;
  met = w.met;
  stops = next-none (step_at steps x) (is_met new x) (sym e);
  long = w.long;
}

-- how many were not met
abbrev pub unmet_count : List Bool → ℕ
unmet_count [] = 0
unmet_count (true ∷ more) = unmet_count more
unmet_count (false ∷ more) = suc (unmet_count more)

pub fewer-unmet : (met : List Bool) (x : ℕ) → x < length met → is_met met x ≡ false → unmet_count (set met x true) < unmet_count met
fewer-unmet [] x l e = absurd (omega arith)
fewer-unmet (true ∷ more) zero l e = cc
fewer-unmet (false ∷ more) zero l e = omega arith
fewer-unmet (true ∷ more) (suc x) l e = fewer-unmet more x (omega arith) e
fewer-unmet (false ∷ more) (suc x) l e = omega (arith, fewer-unmet more x (omega arith) e)

-- values on a way are in place
pub within-way : (steps : List (Option PartStep)) (v : ℕ) (way : List ValueId) (x : ℕ) → ((u : ℕ) (s : PartStep) → step_at steps u ≡ Some s → s.from.0 < length steps) → v < length steps
    → StepsLeadAlong steps v way x → ValuesBelow (length steps) way
within-way steps v [] x f l h = tt
within-way steps v (w ∷ more) x f l h = (subst (λ (k : ℕ). k < length steps) (sym h.0) l, within-way steps h.1.0.from.0 more x f (f v h.1.0 h.1.1) h.1.2)

-- ---- parts on the way forth

-- a step can be taken from the part that is there
pub steps-from : (steps : List (Option PartStep)) (base parts : List (Option Part)) (v : ℕ) (s : PartStep) → CanStep steps base → AreFound steps base parts → step_at steps v ≡ Some s
    → StepsFrom (part_at parts s.from.0) s
steps-from steps base parts v s can found e = by (part_at parts s.from.0) refl
  where
    by : (o : Option Part) → part_at parts s.from.0 ≡ o → StepsFrom o s
    by None h = tt
    by (Some p) h = can v s p e (found s.from.0 p h)

step-found : (steps : List (Option PartStep)) (base parts : List (Option Part)) (w : ℕ) (p : Part) → AreFound steps base parts → (o : Option PartStep) → step_at steps w ≡ o
    → part_by_step parts o ≡ Some p → IsFound (step_at steps) (part_at base) w p
step-found steps base parts w p f None e h = cc
step-found steps base parts w p f (Some s) e h = by (part_at parts s.from.0) refl h
  where
    by : (o : Option Part) → part_at parts s.from.0 ≡ o → option_and_then (λ (q : Part). stepped q s) o ≡ Some p → IsFound (step_at steps) (part_at base) w p
    by None g k = cc
    by (Some q) g k =
        let n = f s.from.0 q g in (
          suc n.0,
          ap (λ (o : Option PartStep). part_by (part_found n.0 (step_at steps) (part_at base)) o (part_at base w)) e
              ∙ ap (λ (o : Option Part). option_and_then (λ (q : Part). stepped q s) o) n.1 ∙ k,
        )

pub found-set : (steps : List (Option PartStep)) (base parts : List (Option Part)) (w : ℕ) → w < length parts → AreFound steps base parts
    → AreFound steps base (set parts w (part_by_step parts (step_at steps w)))
found-set steps base parts w l f v p e = by (same_or w v)
  where
    by : Same w v → IsFound (step_at steps) (part_at base) v p
    by (same k) =
        subst (λ (u : ℕ). IsFound (step_at steps) (part_at base) u p) k
        (step-found steps base parts w p f (step_at steps w) refl
        (sym (get_or-set_same parts w (part_by_step parts (step_at steps w)) None l) ∙ subst (λ (u : ℕ). part_at (set parts w (part_by_step parts (step_at steps w))) u ≡ Some p) (sym k) e))
    by (other n) = f v p (sym (get_or-set_other parts w v (part_by_step parts (step_at steps w)) None (λ h. n (sym h))) ∙ e)

-- the last one is taken first
pub settled-last : (steps : List (Option PartStep)) (parts : List (Option Part)) (way : List ValueId) (w : ValueId)
    → settled steps parts (way ++ w ∷ []) ≡ settled steps (set parts w.0 (part_by_step parts (step_at steps w.0))) way
settled-last steps parts [] w = refl
settled-last steps parts (x ∷ more) w = ap (λ (rest : List (Option Part)). set rest x.0 (part_by_step rest (step_at steps x.0))) (settled-last steps parts more w)

pub within-last : (n : ℕ) (way : List ValueId) (w : ValueId) → ValuesBelow n (way ++ w ∷ []) → ValuesBelow n way × (w.0 < n)
within-last n [] w h = (tt, h.0)
within-last n (x ∷ more) w h = let r = within-last n more w h.1 in ((h.0, r.0), r.1)

-- the parts while the way forth is gone
pub record Forth (steps : List (Option PartStep)) (start parts : List (Option Part)) (all way : List ValueId) : Type 0 where
  pub in_place : StepsAreInPlace steps parts
  pub found : Steppable steps parts
  pub within : ValuesBelow (length steps) way
  pub made : settled steps parts way ≡ settled steps start all

pub Forth-next : (steps : List (Option PartStep)) (start parts new : List (Option Part)) (all way more : List ValueId) (w : ValueId) → way ≡ more ++ w ∷ []
    → new ≡ set parts w.0 (part_by_step parts (step_at steps w.0)) → Forth steps start parts all way → Forth steps start new all more
Forth-next steps start parts new all way more w e q f =
    let r = within-last (length steps) more w (subst (ValuesBelow (length steps)) e f.within) in
    record {
      in_place = record { long = ap length q ∙ length-set parts w.0 (part_by_step parts (step_at steps w.0)) ∙ f.in_place.long; within = f.in_place.within };
      found = record {
        base = f.found.base;
        can_step = f.found.can_step;
        found = subst (AreFound steps f.found.base) (sym q)
            (found-set steps f.found.base parts w.0 (subst (λ (k : ℕ). w.0 < k) (sym f.in_place.long) r.1) f.found.found);
      };
      within = r.0;
      made =
          ap (λ (x : List (Option Part)). settled steps x more) q
          ∙ sym (settled-last steps parts more w)
          ∙ ap (settled steps parts) (sym e)
          ∙ f.made;
    }

-- the step that is read
pub read-step : (steps : List (Option PartStep)) (v : ℕ) (d : Option PartStep) (s : PartStep) → v < length steps → get_or steps v d ≡ Some s → step_at steps v ≡ Some s
read-step steps v d s l e = get_or_default steps v None d l ∙ e

-- ---- after the way back and forth

-- where the step of the first on a way comes from: one after it, or the end
source-first : (steps : List (Option PartStep)) (v : ℕ) (w : ValueId) (more : List ValueId) (x u : ℕ) (s : PartStep) → StepsLeadAlong steps v (w ∷ more) x → w.0 ≡ u → step_at steps u ≡ Some s
    → (is_on more s.from.0 ≡ true) ⊎ (s.from.0 ≡ x)
source-first steps v w more x u s h k e =
    let g : step_at steps u ≡ Some h.1.0 = subst (λ (i : ℕ). step_at steps i ≡ Some h.1.0) (sym h.0 ∙ k) h.1.1 in
    let same_step : h.1.0 ≡ s = cc in
    subst (λ (z : PartStep). (is_on more z.from.0 ≡ true) ⊎ (z.from.0 ≡ x)) same_step (start h.1.0.from.0 more h.1.2)
  where
    start : (f : ℕ) (rest : List ValueId) → StepsLeadAlong steps f rest x → (is_on rest f ≡ true) ⊎ (f ≡ x)
    start f [] l = inr l
    start f (y ∷ rest) l = inl (or_first (nat_eq y.0 f) (is_on rest f) (subst (λ (i : ℕ). nat_eq y.0 i ≡ true) l.0 (nat_eq-refl y.0)))

-- where the step of one on a way comes from: another on it, or its end
source : (steps : List (Option PartStep)) (v : ℕ) (way : List ValueId) (x u : ℕ) (s : PartStep) → StepsLeadAlong steps v way x → is_on way u ≡ true → step_at steps u ≡ Some s
    → (is_on way s.from.0 ≡ true) ⊎ (s.from.0 ≡ x)
source steps v [] x u s h o e = absurd (not_both false o refl)
source steps v (w ∷ more) x u s h o e = by (λ k. source steps h.1.0.from.0 more x u s h.1.2 k e) (or_cases (nat_eq w.0 u) (is_on more u) o)
  where
    later : (f : ℕ) → (is_on more f ≡ true) ⊎ (f ≡ x) → (is_on (w ∷ more) f ≡ true) ⊎ (f ≡ x)
    later f (inl k) = inl (or_second (nat_eq w.0 f) (is_on more f) k)
    later f (inr k) = inr k

    by : (is_on more u ≡ true → (is_on more s.from.0 ≡ true) ⊎ (s.from.0 ≡ x)) → (nat_eq w.0 u ≡ true) ⊎ (is_on more u ≡ true) → (is_on (w ∷ more) s.from.0 ≡ true) ⊎ (s.from.0 ≡ x)
    by f (inr k) = later s.from.0 (f k)
    by f (inl k) = later s.from.0 (source-first steps v w more x u s h (nat_eq-is w.0 u k) e)

on-unmet : (met : List Bool) (way : List ValueId) (u : ℕ) → AreNew met way → is_on way u ≡ true → is_met met u ≡ false
on-unmet met [] u h o = absurd (not_both false o refl)
on-unmet met (w ∷ more) u h o = by (λ k. on-unmet met more u h.2 k) (or_cases (nat_eq w.0 u) (is_on more u) o)
  where
    by : (is_on more u ≡ true → is_met met u ≡ false) → (nat_eq w.0 u ≡ true) ⊎ (is_on more u ≡ true) → is_met met u ≡ false
    by f (inl k) = subst (λ (i : ℕ). is_met met i ≡ false) (nat_eq-is w.0 u k) h.0
    by f (inr k) = f k

on-step : (steps : List (Option PartStep)) (v : ℕ) (way : List ValueId) (x u : ℕ) → StepsLeadAlong steps v way x → is_on way u ≡ true → (s : PartStep) × (step_at steps u ≡ Some s)
on-step steps v [] x u h o = absurd (not_both false o refl)
on-step steps v (w ∷ more) x u h o = by (λ k. on-step steps h.1.0.from.0 more x u h.1.2 k) (or_cases (nat_eq w.0 u) (is_on more u) o)
  where
    by : (is_on more u ≡ true → (s : PartStep) × (step_at steps u ≡ Some s)) → (nat_eq w.0 u ≡ true) ⊎ (is_on more u ≡ true) → (s : PartStep) × (step_at steps u ≡ Some s)
    by f (inl k) = (h.1.0, subst (λ (i : ℕ). step_at steps i ≡ Some h.1.0) (sym h.0 ∙ nat_eq-is w.0 u k) h.1.1)
    by f (inr k) = f k

pub length-settled : (steps : List (Option PartStep)) (ps : List (Option Part)) (way : List ValueId) → length (settled steps ps way) ≡ length ps
length-settled steps ps [] = refl
length-settled steps ps (w ∷ more) = length-set (settled steps ps more) w.0 (part_by_step (settled steps ps more) (step_at steps w.0)) ∙ length-settled steps ps more

found-settled : (steps : List (Option PartStep)) (base ps : List (Option Part)) (way : List ValueId) → ValuesBelow (length ps) way → AreFound steps base ps → AreFound steps base (settled steps ps way)
found-settled steps base ps [] l f = f
found-settled steps base ps (w ∷ more) l f = found-set steps base (settled steps ps more) w.0 (subst (λ (k : ℕ). w.0 < k) (sym (length-settled steps ps more)) l.0)
    (found-settled steps base ps more l.1 f)

settled-off : (steps : List (Option PartStep)) (ps : List (Option Part)) (way : List ValueId) (u : ℕ) → is_on way u ≡ false → part_at (settled steps ps way) u ≡ part_at ps u
settled-off steps ps [] u o = refl
settled-off steps ps (w ∷ more) u o =
    get_or-set_other (settled steps ps more) w.0 u (part_by_step (settled steps ps more) (step_at steps w.0)) None (λ h. apart w.0 u (or_false_left (nat_eq w.0 u) (is_on more u) o) h)
    ∙ settled-off steps ps more u (or_false_right (nat_eq w.0 u) (is_on more u) o)

-- where each source has the same part, a step leads to the same one
same-by : (ps qs : List (Option Part)) (o : Option PartStep) → ((s : PartStep) → o ≡ Some s → part_at ps s.from.0 ≡ part_at qs s.from.0) → part_by_step ps o ≡ part_by_step qs o
same-by ps qs None f = refl
same-by ps qs (Some s) f = ap (λ (o : Option Part). option_and_then (λ (p : Part). stepped p s) o) (f s refl)

Has : List (Option PartStep) → List (Option Part) → ValueId → Type 0
Has steps ps w = part_at ps w.0 ≡ part_by_step ps (step_at steps w.0)

-- a way to an end that is not on it
settled-each : (steps : List (Option PartStep)) (met : List Bool) (ps : List (Option Part)) (v : ℕ) (way : List ValueId) (x : ℕ) → StepsLeadAlong steps v way x → AreNew met way
    → ValuesBelow (length ps) way → is_on way x ≡ false → Each (Has steps (settled steps ps way)) way
unfolding Has
settled-each steps met ps v [] x h n l o = tt
settled-each steps met ps v (w ∷ more) x h n l o =
    let rest = settled steps ps more in
    let new = set rest w.0 (part_by_step rest (step_at steps w.0)) in
    let in_rest : w.0 < length rest = subst (λ (k : ℕ). w.0 < k) (sym (length-settled steps ps more)) l.0 in
    let by_others = λ (u : ℕ) (on : is_on (w ∷ more) u ≡ true). same-by new rest (step_at steps u) (λ s e. not-w rest (part_by_step rest (step_at steps w.0)) s (source-after u s on e)) in (
      get_or-set_same rest w.0 (part_by_step rest (step_at steps w.0)) None in_rest ∙ sym (by_others w.0 (on_itself w more)),
      more-each rest (settled-each steps met ps h.1.0.from.0 more x h.1.2 n.2 l.1 (or_false_right (nat_eq w.0 x) (is_on more x) o)) by_others,
    )
  where
    -- the source of each is after the first
    source-after : (u : ℕ) (s : PartStep) → is_on (w ∷ more) u ≡ true → step_at steps u ≡ Some s → (is_on more s.from.0 ≡ true) ⊎ (s.from.0 ≡ x)
    source-after u s on e = elim (or_cases (nat_eq w.0 u) (is_on more u) on) [
      | inl k ↦ source-first steps v w more x u s h (nat_eq-is w.0 u k) e
      | inr k ↦ source steps h.1.0.from.0 more x u s h.1.2 k e
    ]

    not-w : (rest : List (Option Part)) (p : Option Part) (s : PartStep) → (is_on more s.from.0 ≡ true) ⊎ (s.from.0 ≡ x) → part_at (set rest w.0 p) s.from.0 ≡ part_at rest s.from.0
    not-w rest p s (inl k) = get_or-set_other rest w.0 s.from.0 p None (λ e. not_both (is_on more s.from.0) k (subst (λ (i : ℕ). is_on more i ≡ false) (sym e) n.1))
    not-w rest p s (inr k) = get_or-set_other rest w.0 s.from.0 p None (λ e. apart w.0 x (or_false_left (nat_eq w.0 x) (is_on more x) o) (sym k ∙ e))

    more-each : (rest : List (Option Part)) → Each (Has steps rest) more
        → ((u : ℕ) → is_on (w ∷ more) u ≡ true → part_by_step (set rest w.0 (part_by_step rest (step_at steps w.0))) (step_at steps u) ≡ part_by_step rest (step_at steps u))
        → Each (Has steps (set rest w.0 (part_by_step rest (step_at steps w.0)))) more
    more-each rest h f =
        each-map (Has steps rest) (Has steps (set rest w.0 (part_by_step rest (step_at steps w.0)))) more
        (λ u on p.
        get_or-set_other rest w.0 u.0 (part_by_step rest (step_at steps w.0)) None (λ e. not_both (is_on more u.0) on (subst (λ (i : ℕ). is_on more i ≡ false) (sym e) n.1))
        ∙ p ∙ sym (f u.0 (or_second (nat_eq w.0 u.0) (is_on more u.0) on)))
        h

-- a way round in a circle, on which nothing is a part
settled-none : (steps : List (Option PartStep)) (ps : List (Option Part)) (way : List ValueId) → Each (λ (w : ValueId). (part_at ps w.0 ≡ None) × (part_by_step ps (step_at steps w.0) ≡ None)) way
    → settled steps ps way ≡ ps
settled-none steps ps [] h = refl
settled-none steps ps (w ∷ more) h =
    ap (λ (rest : List (Option Part)). set rest w.0 (part_by_step rest (step_at steps w.0))) (settled-none steps ps more h.1)
    ∙ ap (set ps w.0) (h.0.1 ∙ sym h.0.0)
    ∙ set-get_or ps w.0 None

each-of : (P : ValueId → Type 0) (way : List ValueId) → ((u : ValueId) → is_on way u.0 ≡ true → P u) → Each P way
each-of P [] f = tt
each-of P (w ∷ more) f = (f w (on_itself w more), each-of P more (λ u on. f u (or_second (nat_eq w.0 u.0) (is_on more u.0) on)))

-- what is known where the way back is right
record Back (steps : List (Option PartStep)) (base ps : List (Option Part)) (ms ns : List Bool) (v : ℕ) (way : List ValueId) : Type 0 where
  settled_so_far : StepsAreSettled steps base ps ms
  back : GoesBack steps ms v ns way
  within : ValuesBelow (length ps) way

on-none : (steps : List (Option PartStep)) (base ps : List (Option Part)) (ms ns : List Bool) (v : ℕ) (way : List ValueId) → Back steps base ps ms ns v way → (u : ℕ) → is_on way u ≡ true
    → part_at ps u ≡ None
on-none steps base ps ms ns v way b u o =
    let s = on-step steps v way b.back.end u b.back.leads o in
    b.settled_so_far.unmet u s.0 s.1 (on-unmet ms way u b.back.new_ones o)

-- on a circle no part is made
circle : (steps : List (Option PartStep)) (base ps : List (Option Part)) (ms ns : List Bool) (v : ℕ) (way : List ValueId) (b : Back steps base ps ms ns v way) → is_on way b.back.end ≡ true
    → settled steps ps way ≡ ps
circle steps base ps ms ns v way b c =
    settled-none steps ps way (each-of (λ (w : ValueId). (part_at ps w.0 ≡ None) × (part_by_step ps (step_at steps w.0) ≡ None)) way
    (λ u o. (on-none steps base ps ms ns v way b u.0 o, by u o (on-step steps v way b.back.end u.0 b.back.leads o))))
  where
    by : (u : ValueId) → is_on way u.0 ≡ true → (s : PartStep) × (step_at steps u.0 ≡ Some s) → part_by_step ps (step_at steps u.0) ≡ None
    by u o s =
        ap (part_by_step ps) s.1
        ∙ ap (λ (x : Option Part). option_and_then (λ (p : Part). stepped p s.0) x)
        (on-none steps base ps ms ns v way b s.0.from.0
        (elim (source steps v way b.back.end u.0 s.0 b.back.leads o s.1) [ inl k ↦ k | inr k ↦ subst (λ (i : ℕ). is_on way i ≡ true) (sym k) c ]))

-- what is met before, or has no step, is not on the way
met-off : (steps : List (Option PartStep)) (v : ℕ) (ms ns : List Bool) (way : List ValueId) (u : ℕ) → GoesBack steps ms v ns way → (step_at steps u ≡ None) ⊎ (is_met ms u ≡ true) → is_on way u ≡ false
met-off steps v ms ns way u b h = by (is_on way u) refl h
  where
    by : (o : Bool) → is_on way u ≡ o → (step_at steps u ≡ None) ⊎ (is_met ms u ≡ true) → is_on way u ≡ false
    by false e k = e
    by true e (inr k) = absurd (not_both (is_met ms u) k (on-unmet ms way u b.new_ones e))
    by true e (inl k) = let s = on-step steps v way b.end u b.leads e in let q : step_at steps u ≡ Some s.0 = s.1 in cc

-- each met value has the part to which its step leads
stepped-after : (steps : List (Option PartStep)) (base ps : List (Option Part)) (ms ns : List Bool) (v : ℕ) (way : List ValueId) → Back steps base ps ms ns v way → (u : ℕ) (s : PartStep)
    → step_at steps u ≡ Some s → is_met ns u ≡ true → part_at (settled steps ps way) u ≡ part_by_step (settled steps ps way) (Some s)
unfolding Has
stepped-after steps base ps ms ns v way b u s e m = by (is_on way b.back.end) refl (is_on way u) refl
  where
    -- what was met before
    before : is_on way u ≡ false → is_met ms u ≡ true
    before o = elim (or_cases (is_met ms u) (is_on way u) (sym (b.back.met u) ∙ m)) [ inl k ↦ k | inr k ↦ absurd (not_both (is_on way u) k o) ]

    old : is_on way u ≡ false → part_at (settled steps ps way) u ≡ part_by_step (settled steps ps way) (Some s)
    old o =
        settled-off steps ps way u o ∙ b.settled_so_far.stepped u s e (before o)
        ∙ ap (λ (x : Option Part). option_and_then (λ (p : Part). stepped p s) x) (sym
        (settled-off steps ps way s.from.0 (met-off steps v ms ns way s.from.0 b.back (b.settled_so_far.closed u s e (before o)))))

    round : is_on way b.back.end ≡ true → is_on way u ≡ true → is_on way s.from.0 ≡ true
    round c o = elim (source steps v way b.back.end u s b.back.leads o e) [ inl k ↦ k | inr k ↦ subst (λ (i : ℕ). is_on way i ≡ true) (sym k) c ]

    by : (c : Bool) → is_on way b.back.end ≡ c → (o : Bool) → is_on way u ≡ o → part_at (settled steps ps way) u ≡ part_by_step (settled steps ps way) (Some s)
    by c ce false oe = old oe
    by false ce true oe =
        each-on (λ (i : ℕ). part_at (settled steps ps way) i ≡ part_by_step (settled steps ps way) (step_at steps i)) way u
        (settled-each steps ms ps v way b.back.end b.back.leads b.back.new_ones b.within ce) oe
        ∙ ap (part_by_step (settled steps ps way)) e
    by true ce true oe =
        let same : settled steps ps way ≡ ps = circle steps base ps ms ns v way b ce in
        subst (λ (qs : List (Option Part)). part_at qs u ≡ part_by_step qs (Some s)) (sym same)
        (on-none steps base ps ms ns v way b u oe ∙ ap (λ (x : Option Part). option_and_then (λ (p : Part). stepped p s) x) (sym (on-none steps base ps ms ns v way b s.from.0 (round ce oe))))

-- Following the steps of a value keeps all right.
pub follows : (steps : List (Option PartStep)) (ps : List (Option Part)) (ms ns : List Bool) (v : ℕ) (way : List ValueId) → ValuesBelow (length ps) way → GoesBack steps ms v ns way
    → StepsAreFollowed steps v ps (settled steps ps way) ms ns
follows steps ps ms ns v way l g base h =
    let b : Back steps base ps ms ns v way = record { settled_so_far = h; back = g; within = l } in (
      record {
        long = length-settled steps ps way ∙ h.long;
        long_met = g.long ∙ h.long_met;
        closed = λ u s e m. closed-after u s e (or_cases (is_met ms u) (is_on way u) (sym (g.met u) ∙ m));
        stepped = stepped-after steps base ps ms ns v way b;
        unmet = λ u s e m.
            let off = sym (g.met u) ∙ m in
            settled-off steps ps way u (or_false_right (is_met ms u) (is_on way u) off) ∙ h.unmet u s e (or_false_left (is_met ms u) (is_on way u) off);
        others = λ u e. settled-off steps ps way u (met-off steps v ms ns way u g (inl e)) ∙ h.others u e;
        found = found-settled steps base ps way l h.found;
      },
      first-met way g.leads (λ u o. g.met u ∙ or_second (is_met ms u) (is_on way u) o),
      λ u m. g.met u ∙ or_first (is_met ms u) (is_on way u) m,
    )
  where
    still : (u : ℕ) → is_met ms u ≡ true → is_met ns u ≡ true
    still u m = g.met u ∙ or_first (is_met ms u) (is_on way u) m

    later : (u : ℕ) → (step_at steps u ≡ None) ⊎ (is_met ms u ≡ true) → (step_at steps u ≡ None) ⊎ (is_met ns u ≡ true)
    later u (inl k) = inl k
    later u (inr k) = inr (still u k)

    closed-after : (u : ℕ) (s : PartStep) → step_at steps u ≡ Some s → (is_met ms u ≡ true) ⊎ (is_on way u ≡ true) → (step_at steps s.from.0 ≡ None) ⊎ (is_met ns s.from.0 ≡ true)
    closed-after u s e (inl k) = later s.from.0 (h.closed u s e k)
    closed-after u s e (inr k) = elim (source steps v way g.end u s g.leads k e) [
      | inl o ↦ inr (g.met s.from.0 ∙ or_second (is_met ms s.from.0) (is_on way s.from.0) o)
      | inr o ↦ subst (λ (i : ℕ). (step_at steps i ≡ None) ⊎ (is_met ns i ≡ true)) (sym o) g.stops
    ]

    first-met : (w : List ValueId) → StepsLeadAlong steps v w g.end → ((u : ℕ) → is_on w u ≡ true → is_met ns u ≡ true) → (step_at steps v ≡ None) ⊎ (is_met ns v ≡ true)
    first-met [] k f = subst (λ (i : ℕ). (step_at steps i ≡ None) ⊎ (is_met ns i ≡ true)) (sym k) g.stops
    first-met (x ∷ more) k f = inr (f v (or_first (nat_eq x.0 v) (is_on more v) (subst (λ (i : ℕ). nat_eq x.0 i ≡ true) k.0 (nat_eq-refl x.0))))

-- one more value on the way back
pub record Walking (steps : List (Option PartStep)) (old : List Bool) (from : ℕ) (was new : List Bool) (way : List ValueId) (next : ℕ) : Type 0 where
  pub fewer : unmet_count new < unmet_count was
  pub is_in : next < length steps
  pub on_way : OnWay steps old from new way next

pub Walking-next : (steps : List (Option PartStep)) (old : List Bool) (from : ℕ) (now : List (Option PartStep)) (was : List Bool) (way : List ValueId) (x n : ValueId) (new : List Bool)
    (longer : List ValueId) → ((u : ℕ) (s : PartStep) → step_at steps u ≡ Some s → s.from.0 < length steps) → length old ≡ length steps → now ≡ steps → x.0 < length steps
    → OnWay steps old from was way x.0 → Some n ≡ comes_from (step_at now x.0) (is_met was x.0) → new ≡ set was x.0 true → longer ≡ way ++ x ∷ [] → Walking steps old from was new longer n.0
Walking-next steps old from now was way x n new longer within long at l w e p q =
    let f : Some n ≡ comes_from (step_at steps x.0) (is_met was x.0) = e ∙ ap (λ (ss : List (Option PartStep)). comes_from (step_at ss x.0) (is_met was x.0)) at in
    let i = next-is (step_at steps x.0) (is_met was x.0) n (sym f) in
    let in_was : x.0 < length was = subst (λ (k : ℕ). x.0 < k) (sym (w.long ∙ long)) l in
    record {
      fewer = subst (λ (m : List Bool). unmet_count m < unmet_count was) (sym p) (fewer-unmet was x.0 in_was i.3);
      is_in = subst (λ (k : ValueId). k.0 < length steps) i.2 (within x.0 i.0 i.1);
      on_way = subst (λ (m : List Bool). OnWay steps old from m longer n.0) (sym p)
          (subst (λ (o : List ValueId). OnWay steps old from (set was x.0 true) o n.0) (sym q) (OnWay-next steps old was from way x n in_was w f));
    }

-- ---- the steps of one value

pub follow-found : (ss ts : List (Option PartStep)) (ps qs : List (Option Part)) → ts ≡ ss → qs ≡ ps → Steppable ss ps → Steppable ts qs
follow-found ss ts ps qs e f s = subst (λ (x : List (Option PartStep)). Steppable x qs) (sym e) (subst (Steppable ss) (sym f) s)

pub follow-within : (ss ts : List (Option PartStep)) (v : ℕ) (ps : List (Option Part)) (ms ns : List Bool) (way : List ValueId) → ts ≡ ss → StepsAreInPlace ss ps → v < length ss → GoesBack ss ms v ns way
    → ValuesBelow (length ts) way
follow-within ss ts v ps ms ns way e p l g = subst (λ (x : List (Option PartStep)). ValuesBelow (length x) way) (sym e) (within-way ss v way g.end p.within l g.leads)

pub follow-follows : (ss ts : List (Option PartStep)) (v : ℕ) (ps qs rs : List (Option Part)) (ms ns os : List Bool) (way : List ValueId) → ts ≡ ss → StepsAreInPlace ss ps → v < length ss
    → GoesBack ss ms v ns way → qs ≡ ps → rs ≡ settled ts qs way → os ≡ ns → StepsAreFollowed ss v ps rs ms os
follow-follows ss ts v ps qs rs ms ns os way e p l g f r o =
    subst (λ (x : List Bool). StepsAreFollowed ss v ps rs ms x) (sym o)
    (subst (λ (x : List (Option Part)). StepsAreFollowed ss v ps x ms ns) (sym (r ∙ ap (λ (x : List (Option PartStep)). settled x qs way) e ∙ ap (λ (x : List (Option Part)). settled ss x way) f))
    (follows ss ps ms ns v way (subst (λ (k : ℕ). ValuesBelow k way) (sym p.long) (within-way ss v way g.end p.within l g.leads)) g))
