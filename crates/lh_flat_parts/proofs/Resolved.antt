-- All values are followed, one after the other, and what the table has at the end.
use Rattle.std.proofs.Common.{◌≡◌, ℕ, zero, suc, ◌+◌, ◌^◌, ◌<◌, ◌≤◌, ◌⊎◌, inl, inr, Bool, true, false, nat_eq, if◌then◌else◌, List, [], ◌∷◌, length, get_or, replicate, Option, Some, None, refl, ap, sym, ◌∙◌, subst, arith}
use Rattle.std.proofs.lemmas.List.{length-replicate}
use Rattle.std.specs.Option.{option_and_then, option_map}
use Rattle.lh_types.specs.Types.{TypeTree, IsData, bit_count}
use Rattle.lh_types.specs.Parts.{Part as Within, part_of, part_range, range_of}
use Rattle.lh_types.specs.declared.part.Range.{Range}
use Rattle.lh_types.specs.declared.part.Step.{Step}
use Rattle.lh_bits.proofs.LawProofs.{parts_are_within}
use Rattle.lh_types.proofs.Limits.{bit_count-le}
use Rattle.lh_types.proofs.Lists.{no_flag}
use Rattle.lh_unit.specs.Typing.{or_else}
use Rattle.lh_unit.specs.Effects.{step_of}
use Rattle.lh_unit.specs.Within.{Each}
use Rattle.lh_unit.specs.declared.inst.ValueId.{ValueId}
use Rattle.lh_unit.proofs.Lists.{Same, same, other, same_or, or_else-none}
use Rattle.lh_term.specs.declared.part.Part.{Part}
use Rattle.lh_flat.specs.declared.flat.FlatInst.{FlatInst}
use Rattle.lh_flat.specs.declared.flat.Flat.{Flat}
use Rattle.lh_flat_parts.specs.declared.step.PartStep.{PartStep}
use Rattle.lh_flat_parts.specs.declared.table.PartTable.{PartTable}
use Rattle.lh_flat_parts.specs.Steps.{step_in, if_result, step_giving, step_results, insts_in, argument_of, range_by, part_within, stepped, part_by, part_found, IsFound, type_carried, StepWithin, HasSteps, step_at, part_at, IsPartTable}
use Rattle.lh_flat_parts.specs.Resolving.{with_steps, with_args, part_by_step, is_met, StepsAreInPlace, StepsCarry, PartsCarry, CanStep, AreFound, AreSteps, Steppable, IsResolved, StepsAreSettled, StepsAreFollowed}
use Rattle.lh_flat_parts.proofs.Tables.{at-none, length-steps, steps-with, length-args, args-with}

-- ---- the values so far

pub record SoFar (steps : List (Option PartStep)) (base ps : List (Option Part)) (met : List Bool) (k : ℕ) : Type 0 where
  pub settled : StepsAreSettled steps base ps met
  pub done : (v : ℕ) → v < k → (step_at steps v ≡ None) ⊎ (is_met met v ≡ true)

-- an argument is found at once
found-base : (steps : List (Option PartStep)) (base : List (Option Part)) → AreSteps steps base → AreFound steps base base
found-base steps base a v p e = by (step_at steps v) refl
  where
    by : (o : Option PartStep) → step_at steps v ≡ o → IsFound (step_at steps) (part_at base) v p
    by None f = (1, ap (λ (o : Option PartStep). part_by (part_found 0 (step_at steps) (part_at base)) o (part_at base v)) f ∙ e)
    by (Some s) f = let n : part_at base v ≡ None = a v s f in absurd cc

pub SoFar-none : (steps : List (Option PartStep)) (base : List (Option Part)) (n : ℕ) → n ≡ length steps → StepsAreInPlace steps base → AreSteps steps base → SoFar steps base base (replicate n false) 0
SoFar-none steps base n e i a = record {
  settled = record {
    long = i.long;
    long_met = length-replicate n false ∙ e;
    closed = λ v s f m. absurd (never v m);
    stepped = λ v s f m. absurd (never v m);
    unmet = λ v s f m. a v s f;
    others = λ v f. refl;
    found = found-base steps base a;
  };
  done = λ v l. absurd (omega arith);
}
  where
    never : (v : ℕ) → is_met (replicate n false) v ≡ true → ⊥
    never v m = let f : get_or (replicate n false) v false ≡ false = no_flag n v in cc

pub SoFar-next : (steps : List (Option PartStep)) (base ps qs : List (Option Part)) (ms ns : List Bool) (k : ℕ) → StepsAreFollowed steps k ps qs ms ns → SoFar steps base ps ms k
    → SoFar steps base qs ns (k + 1)
SoFar-next steps base ps qs ms ns k f s = let r = f base s.settled in record { settled = r.0; done = λ v l. by v l (same_or k v) }
  where
    by : (v : ℕ) → v < k + 1 → Same k v → (step_at steps v ≡ None) ⊎ (is_met ns v ≡ true)
    by v l (same e) = subst (λ (i : ℕ). (step_at steps i ≡ None) ⊎ (is_met ns i ≡ true)) e (f base s.settled).1
    by v l (other n) = elim (s.done v (omega arith)) [ inl e ↦ inl e | inr m ↦ inr ((f base s.settled).2 v m) ]

pub SoFar-end : (steps : List (Option PartStep)) (base ps : List (Option Part)) (ms : List Bool) (k : ℕ) → k ≡ length steps → SoFar steps base ps ms k → IsResolved steps base ps
SoFar-end steps base ps ms k e s = record {
  long = s.settled.long;
  stepped = λ v t l f. by v t f (s.done v (subst (λ (n : ℕ). v < n) (sym e) l));
  others = s.settled.others;
  found = s.settled.found;
}
  where
    by : (v : ℕ) (t : PartStep) → step_at steps v ≡ Some t → (step_at steps v ≡ None) ⊎ (is_met ms v ≡ true) → part_at ps v ≡ part_by_step ps (Some t)
    by v t f (inl g) = absurd cc
    by v t f (inr m) = s.settled.stepped v t f m

pub SoFar-in_place : (steps now : List (Option PartStep)) (base ps : List (Option Part)) (ms : List Bool) (k : ℕ) → now ≡ steps → StepsAreInPlace steps base → SoFar steps base ps ms k → StepsAreInPlace now ps
SoFar-in_place steps now base ps ms k e i s = subst (λ (x : List (Option PartStep)). StepsAreInPlace x ps) (sym e) (record { long = s.settled.long; within = i.within })

pub SoFar-steppable : (steps now : List (Option PartStep)) (base ps : List (Option Part)) (ms : List Bool) (k : ℕ) → now ≡ steps → CanStep steps base → SoFar steps base ps ms k → Steppable now ps
SoFar-steppable steps now base ps ms k e c s = subst (λ (x : List (Option PartStep)). Steppable x ps) (sym e) (record { base = base; can_step = c; found = s.settled.found })

pub follows-in : (steps now : List (Option PartStep)) (v : ℕ) (ps qs : List (Option Part)) (ms ns : List Bool) → now ≡ steps → StepsAreFollowed now v ps qs ms ns → StepsAreFollowed steps v ps qs ms ns
follows-in steps now v ps qs ms ns e f = subst (λ (x : List (Option PartStep)). StepsAreFollowed x v ps qs ms ns) e f

-- ---- a step that is taken has room

range-within : (t : TypeTree) (o : Option Step) (r : Range) → IsData t → option_and_then (λ (s : Step). range_of t (s ∷ [])) o ≡ Some r → r.lo + r.len ≤ bit_count t
range-within t None r d e = cc
range-within t (Some s) r d e = by (part_of t (s ∷ [])) refl e
  where
    by : (p : Option Within) → part_of t (s ∷ []) ≡ p → option_map part_range p ≡ Some r → r.lo + r.len ≤ bit_count t
    by None f g = cc
    by (Some p) f g = let k : part_range p ≡ r = cc in subst (λ (x : Range). x.lo + x.len ≤ bit_count t) k (parts_are_within t (s ∷ []) p d f).1

-- the type of the part that a value is
type_at : List (Option PartStep) → List (Option Part) → ℕ → Option TypeTree
type_at steps base v = or_else (option_map (λ (s : PartStep). s.ty) (step_at steps v)) (option_map (λ (p : Part). p.ty) (part_at base v))

pub record Typed (steps : List (Option PartStep)) (base : List (Option Part)) : Type 0 where
  pub steps_data : StepsCarry steps
  pub args_data : PartsCarry base
  pub apart : AreSteps steps base
  pub fit : (v : ℕ) (s : PartStep) (whole : TypeTree) (r : Range) → step_at steps v ≡ Some s
      → or_else (option_map (λ (x : PartStep). x.ty) (step_at steps s.from.0)) (option_map (λ (x : Part). x.ty) (part_at base s.from.0)) ≡ Some whole → range_by whole s.op ≡ Some r
      → r.len ≡ bit_count s.ty

record Room (steps : List (Option PartStep)) (base : List (Option Part)) (v : ℕ) (p : Part) : Type 0 where
  is_data : IsData p.ty
  narrow : p.lo + bit_count p.ty ≤ 65536
  type : type_at steps base v ≡ Some p.ty

room-base : (steps : List (Option PartStep)) (base : List (Option Part)) → Typed steps base → (v : ℕ) (p : Part) → step_at steps v ≡ None → part_at base v ≡ Some p → Room steps base v p
unfolding type_at
room-base steps base t v p e f = let a = t.args_data v p f in record {
  is_data = a.0;
  narrow = omega (arith, a.1, bit_count-le p.ty a.0);
  type = ap (λ (o : Option PartStep). or_else (option_map (λ (s : PartStep). s.ty) o) (option_map (λ (q : Part). q.ty) (part_at base v))) e ∙ ap (option_map (λ (q : Part). q.ty)) f;
}

room-arith : (a b c d e n : ℕ) → a + b ≤ n → c + d ≤ b → d ≡ e → (a + c) + e ≤ n
room-arith a b c d e n p q r = omega arith

room-step : (steps : List (Option PartStep)) (base : List (Option Part)) → Typed steps base → (v : ℕ) (s : PartStep) (q p : Part) → step_at steps v ≡ Some s → Room steps base s.from.0 q
    → stepped q s ≡ Some p → Room steps base v p
unfolding type_at
room-step steps base t v s q p e m f = by (range_by q.ty s.op) refl f
  where
    by : (o : Option Range) → range_by q.ty s.op ≡ o → option_map (part_within q s.ty) o ≡ Some p → Room steps base v p
    by None g h = cc
    by (Some r) g h =
        let k : part_within q s.ty r ≡ p = cc in
        subst (Room steps base v) k (record {
          is_data = t.steps_data v s e;
          narrow = room-arith q.lo (bit_count q.ty) r.lo r.len (bit_count s.ty) 65536 m.narrow (range-within q.ty (step_of s.op) r m.is_data g) (t.fit v s q.ty r e m.type g);
          type = ap (λ (o : Option PartStep). or_else (option_map (λ (x : PartStep). x.ty) o) (option_map (λ (x : Part). x.ty) (part_at base v))) e;
        })

room-found : (steps : List (Option PartStep)) (base : List (Option Part)) → Typed steps base → (n v : ℕ) (p : Part) → part_found n (step_at steps) (part_at base) v ≡ Some p → Room steps base v p
room-found steps base t zero v p e = cc
room-found steps base t (suc n) v p e = by (step_at steps v) refl e (λ u q f. room-found steps base t n u q f)
  where
    by : (o : Option PartStep) → step_at steps v ≡ o → part_by (part_found n (step_at steps) (part_at base)) o (part_at base v) ≡ Some p
        → ((u : ℕ) (q : Part) → part_found n (step_at steps) (part_at base) u ≡ Some q → Room steps base u q) → Room steps base v p
    by None f g h = room-base steps base t v p f g
    by (Some s) f g h = at (part_found n (step_at steps) (part_at base) s.from.0) refl g
      where
        at : (o : Option Part) → part_found n (step_at steps) (part_at base) s.from.0 ≡ o → option_and_then (λ (q : Part). stepped q s) o ≡ Some p → Room steps base v p
        at None k l = cc
        at (Some q) k l = room-step steps base t v s q p f (h s.from.0 q k) l

pub CanStep-typed : (steps : List (Option PartStep)) (base : List (Option Part)) → Typed steps base → CanStep steps base
CanStep-typed steps base t v s p e f =
    let m = room-found steps base t f.0 s.from.0 p f.1 in
    (m.is_data, λ r g. below p.lo (bit_count p.ty) r.lo r.len m.narrow (range-within p.ty (step_of s.op) r m.is_data g))
  where
    below : (a b c d : ℕ) → a + b ≤ 65536 → c + d ≤ b → a + c < 2 ^ 32
    below a b c d p q = omega arith

-- ---- the table of a flat text

pub if-within : (n : ℕ) (r : Option ValueId) (x : Option PartStep) (v : ℕ) (s : PartStep) → StepWithin n r x → if_result v r x ≡ Some s → s.from.0 < n
if-within n None x v s h e = cc
if-within n (Some w) None v s h e = by (nat_eq w.0 v) e
  where
    by : (b : Bool) → (if b then None else None) ≡ Some s → s.from.0 < n
    by true f = cc
    by false f = cc
if-within n (Some w) (Some y) v s h e = by (nat_eq w.0 v) e
  where
    by : (b : Bool) → (if b then Some y else None) ≡ Some s → s.from.0 < n
    by true f = let k : y ≡ s = cc in subst (λ (z : PartStep). z.from.0 < n) k h.1
    by false f = cc

pub giving-within : (n : ℕ) (ls : List FlatInst) (v : ℕ) (s : PartStep) → Each (λ (l : FlatInst). StepWithin n l.result (step_in l.inst)) ls → step_giving ls v ≡ Some s → s.from.0 < n
giving-within n [] v s h e = cc
giving-within n (l ∷ more) v s h e = by (step_giving more v) e (λ f. giving-within n more v s h.1 f)
  where
    by : (o : Option PartStep) → or_else o (if_result v l.result (step_in l.inst)) ≡ Some s → (o ≡ Some s → s.from.0 < n) → s.from.0 < n
    by (Some y) f g = g f
    by None f g = if-within n l.result (step_in l.inst) v s h.0 f

-- steps and arguments as they are put into a table
pub record Made (t : Flat) (steps : List (Option PartStep)) (base : List (Option Part)) : Type 0 where
  pub text : HasSteps t
  pub given : steps ≡ with_steps (replicate t.values None) (insts_in t.blocks)
  pub args : base ≡ with_args (replicate t.values None) 0 t.args
  pub steps_data : StepsCarry steps
  pub args_data : PartsCarry base

made-step : (t : Flat) (steps : List (Option PartStep)) (base : List (Option Part)) → Made t steps base → (v : ℕ) → step_at steps v ≡ step_giving (insts_in t.blocks) v
made-step t steps base m v =
    ap (λ (x : List (Option PartStep)). step_at x v) m.given
    ∙ steps-with t.values (replicate t.values None) (insts_in t.blocks) v (length-replicate t.values None) m.text.within
    ∙ ap (or_else (step_giving (insts_in t.blocks) v)) (at-none t.values v)
    ∙ or_else-none (step_giving (insts_in t.blocks) v)

made-arg : (t : Flat) (steps : List (Option PartStep)) (base : List (Option Part)) → Made t steps base → (v : ℕ) → part_at base v ≡ argument_of t.args v
made-arg t steps base m v =
    ap (λ (x : List (Option Part)). part_at x v) m.args
    ∙ args-with t.values (replicate t.values None) 0 t.args v (length-replicate t.values None) m.text.args
    ∙ ap (or_else (argument_of t.args v)) (at-none t.values v)
    ∙ or_else-none (argument_of t.args v)

pub made-long : (t : Flat) (steps : List (Option PartStep)) (base : List (Option Part)) → Made t steps base → length steps ≡ t.values
made-long t steps base m = ap length m.given ∙ length-steps (replicate t.values None) (insts_in t.blocks) ∙ length-replicate t.values None

pub made-in_place : (t : Flat) (steps : List (Option PartStep)) (base : List (Option Part)) → Made t steps base → StepsAreInPlace steps base
made-in_place t steps base m = record {
  long = ap length m.args ∙ length-args (replicate t.values None) 0 t.args ∙ length-replicate t.values None ∙ sym (made-long t steps base m);
  within = λ v s e. subst (λ (n : ℕ). s.from.0 < n) (sym (made-long t steps base m)) (giving-within t.values (insts_in t.blocks) v s m.text.within (sym (made-step t steps base m v) ∙ e));
}

pub made-apart : (t : Flat) (steps : List (Option PartStep)) (base : List (Option Part)) → Made t steps base → AreSteps steps base
made-apart t steps base m v s e = made-arg t steps base m v ∙ by (argument_of t.args v) refl
  where
    by : (o : Option Part) → argument_of t.args v ≡ o → o ≡ None
    by None f = refl
    by (Some p) f = let a = m.text.apart v p f in let g : step_giving (insts_in t.blocks) v ≡ Some s = sym (made-step t steps base m v) ∙ e in cc

pub made-can_step : (t : Flat) (steps : List (Option PartStep)) (base : List (Option Part)) → Made t steps base → CanStep steps base
made-can_step t steps base m = CanStep-typed steps base (record {
  steps_data = m.steps_data;
  args_data = m.args_data;
  apart = made-apart t steps base m;
  fit = λ v s whole r e f g. m.text.fit v s whole r (sym (made-step t steps base m v) ∙ e) (same_type s.from.0 ∙ f) g;
})
  where
    same_type : (u : ℕ) → type_carried t u ≡ or_else (option_map (λ (x : PartStep). x.ty) (step_at steps u)) (option_map (λ (x : Part). x.ty) (part_at base u))
    same_type u =
        ap (λ (o : Option PartStep). or_else (option_map (λ (x : PartStep). x.ty) o) (option_map (λ (x : Part). x.ty) (argument_of t.args u))) (sym (made-step t steps base m u))
        ∙ ap (λ (o : Option Part). or_else (option_map (λ (x : PartStep). x.ty) (step_at steps u)) (option_map (λ (x : Part). x.ty) o)) (sym (made-arg t steps base m u))

by-same : (f g : ℕ → Option Part) (o : Option PartStep) (a : Option Part) → ((u : ℕ) → f u ≡ g u) → part_by f o a ≡ part_by g o a
by-same f g None a h = refl
by-same f g (Some s) a h = ap (option_and_then (λ (p : Part). stepped p s)) (h s.from.0)

found-same : (n : ℕ) (f g : ℕ → Option PartStep) (a b : ℕ → Option Part) (v : ℕ) → ((u : ℕ) → f u ≡ g u) → ((u : ℕ) → a u ≡ b u) → part_found n f a v ≡ part_found n g b v
found-same zero f g a b v h k = refl
found-same (suc n) f g a b v h k =
    ap (λ (o : Option PartStep). part_by (part_found n f a) o (a v)) (h v)
    ∙ ap (part_by (part_found n f a) (g v)) (k v)
    ∙ by-same (part_found n f a) (part_found n g b) (g v) (b v) (λ u. found-same n f g a b u h k)

-- a part that is found is in the table
whole-found : (t : Flat) (steps : List (Option PartStep)) (base ps : List (Option Part)) → Made t steps base → IsResolved steps base ps → (n v : ℕ) (p : Part) → v < t.values
    → part_found n (step_giving (insts_in t.blocks)) (argument_of t.args) v ≡ Some p → part_at ps v ≡ Some p
whole-found t steps base ps m r zero v p l e = cc
whole-found t steps base ps m r (suc n) v p l e = by (step_giving (insts_in t.blocks) v) refl e (λ u q k f. whole-found t steps base ps m r n u q k f)
  where
    by : (o : Option PartStep) → step_giving (insts_in t.blocks) v ≡ o → part_by (part_found n (step_giving (insts_in t.blocks)) (argument_of t.args)) o (argument_of t.args v) ≡ Some p
        → ((u : ℕ) (q : Part) → u < t.values → part_found n (step_giving (insts_in t.blocks)) (argument_of t.args) u ≡ Some q → part_at ps u ≡ Some q) → part_at ps v ≡ Some p
    by None f g h = r.others v (made-step t steps base m v ∙ f) ∙ made-arg t steps base m v ∙ g
    by (Some s) f g h = at (part_found n (step_giving (insts_in t.blocks)) (argument_of t.args) s.from.0) refl g
      where
        at : (o : Option Part) → part_found n (step_giving (insts_in t.blocks)) (argument_of t.args) s.from.0 ≡ o → option_and_then (λ (q : Part). stepped q s) o ≡ Some p → part_at ps v ≡ Some p
        at None j k = cc
        at (Some q) j k =
            r.stepped v s (subst (λ (i : ℕ). v < i) (sym (made-long t steps base m)) l) (made-step t steps base m v ∙ f)
            ∙ ap (option_and_then (λ (x : Part). stepped x s)) (h s.from.0 q (giving-within t.values (insts_in t.blocks) v s m.text.within f) j)
            ∙ k

pub made-table : (t : Flat) (table : PartTable) (base : List (Option Part)) → Made t table.steps.given.items base → table.steps.results.items ≡ step_results (insts_in t.blocks)
    → IsResolved table.steps.given.items base table.parts.items → IsPartTable t table
made-table t table base m e r = record {
  long = r.long ∙ made-long t table.steps.given.items base m;
  long_steps = made-long t table.steps.given.items base m;
  steps = λ v l. made-step t table.steps.given.items base m v;
  results = e;
  sound = λ v p f. let g = r.found v p f in (
    g.0,
    sym (found-same g.0 (step_at table.steps.given.items) (step_giving (insts_in t.blocks)) (part_at base) (argument_of t.args) v (made-step t table.steps.given.items base m)
        (made-arg t table.steps.given.items base m)) ∙ g.1,
  );
  whole = λ v p l f. whole-found t table.steps.given.items base table.parts.items m r f.0 v p l f.1;
}
