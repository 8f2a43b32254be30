-- What a `wait` leads to.
use Rattle.std.proofs.Common.{◌≡◌, ℕ, ◌<◌, List, [], ◌∷◌, length, map, Option, Some, None, refl, ap, sym, ◌∙◌, subst}
use Rattle.std.specs.Option.{option_map}
use Rattle.lh_time.specs.declared.Instant.{Instant}
use Rattle.lh_time.specs.Due.{due_of}
use Rattle.lh_types.specs.declared.part.Range.{Range}
use Rattle.lh_unit.specs.Activation.{waits, Caller, Point, Next, no_step, ends_at, waiting, wake_at}
use Rattle.lh_unit.specs.Arena.{Arena, naming, label_count, label_name_at}
use Rattle.lh_unit.specs.Held.{Held, Env, front, parts_at}
use Rattle.lh_unit.specs.Naming.{value_text, maybe_text}
use Rattle.lh_unit.specs.Within.{Each}
use Rattle.lh_unit.specs.declared.inst.BlockId.{BlockId}
use Rattle.lh_unit.specs.declared.inst.ValueId.{ValueId}
use Rattle.lh_eval.specs.Holding.{Holds, MaybeIn}
use Rattle.lh_eval.proofs.HeldByIds.{same-held}
use Rattle.lh_exec.specs.declared.machine.Machine.{Machine}
use Rattle.lh_exec.specs.declared.machine.Flow.TheVariants as flow
use Rattle.lh_exec.specs.Standing.{MachineIs, InstLeads, parts_in, wake_in}
use Rattle.lh_exec.proofs.Steps.{no-callers}

pub parts-same : (a : Arena) (u : ℕ) (slots : List (Option Held)) (e : Env) → Holds a u slots e → (vs : List ValueId) → Each (λ (v : ValueId). v.0 < length slots) vs
    → parts_in slots vs ≡ parts_at e (map (value_text (naming a u)) vs)
parts-same a u slots e d [] w = refl
parts-same a u slots e d (v ∷ vs) w =
    let x = (same-held a u slots e d).part v w.0 in
    let y = parts-same a u slots e d vs w.1 in
    λ i. front (x i) (y i)

pub wake-same : (a : Arena) (u : ℕ) (slots : List (Option Held)) (e : Env) → Holds a u slots e → (t : Instant) (v : Option ValueId) → MaybeIn slots v
    → wake_in t slots v ≡ wake_at t e (maybe_text (naming a u) v)
wake-same a u slots e d t None w = refl
wake-same a u slots e d t (Some v) w = ap (option_map (due_of t)) ((same-held a u slots e d).delay v w)

-- without a place to stand an activation does not end
pub ends-none : (p : Point) (cs : List Caller) → ends_at p cs None ≡ no_step
ends-none p [] = refl
ends-none p (c ∷ cs) = refl

no-wake : (block to : List ℕ) (on : Option (List Range)) → waiting block to on None ≡ None
no-wake block to None = refl
no-wake block to (Some on) = refl

module _ (a : Arena) (m : Machine) (p : Point) (k : MachineIs a m p) (t : Instant) (to : BlockId) (after : Option ValueId) (signals : List ValueId) (w : MaybeIn m.frame.slots after)
    (s : Each (λ (v : ValueId). v.0 < length m.frame.slots) signals) where
  pub no-parts : parts_in m.frame.slots signals ≡ None → let f = naming a m.frame.unit.0 in
      InstLeads a m flow.Lost p.control.unit (ends_at p p.callers
      (waiting p.control.block (f.label_name to.0) (parts_at p.control.held (map (value_text f) signals)) (wake_at t p.control.held (maybe_text f after))))
  no-parts e =
      let f = naming a m.frame.unit.0 in
      let none : parts_at p.control.held (map (value_text f) signals) ≡ None = sym (parts-same a m.frame.unit.0 m.frame.slots p.control.held k.frame.held signals s) ∙ e in
      subst (λ (n : Next). InstLeads a m flow.Lost p.control.unit n)
      (sym (ap (λ (o : Option (List Range)). ends_at p p.callers (waiting p.control.block (f.label_name to.0) o (wake_at t p.control.held (maybe_text f after)))) none ∙ ends-none p p.callers)) tt

  pub no-delay : wake_in t m.frame.slots after ≡ None → let f = naming a m.frame.unit.0 in
      InstLeads a m flow.Lost p.control.unit (ends_at p p.callers
      (waiting p.control.block (f.label_name to.0) (parts_at p.control.held (map (value_text f) signals)) (wake_at t p.control.held (maybe_text f after))))
  no-delay e =
      let f = naming a m.frame.unit.0 in
      let none : wake_at t p.control.held (maybe_text f after) ≡ None = sym (wake-same a m.frame.unit.0 m.frame.slots p.control.held k.frame.held t after w) ∙ e in
      subst (λ (n : Next). InstLeads a m flow.Lost p.control.unit n)
      (sym (ap (λ (o : Option (Option Instant)). ends_at p p.callers (waiting p.control.block (f.label_name to.0) (parts_at p.control.held (map (value_text f) signals)) o)) none
      ∙ ap (ends_at p p.callers) (no-wake p.control.block (f.label_name to.0) (parts_at p.control.held (map (value_text f) signals))) ∙ ends-none p p.callers)) tt

  pub waits-leads : (on : List Range) (wake : Option Instant) → to.0 < label_count a m.frame.unit.0 → m.callers.items ≡ [] → parts_in m.frame.slots signals ≡ Some on
      → wake_in t m.frame.slots after ≡ Some wake
      → let f = naming a m.frame.unit.0 in InstLeads a m (flow.Waits to (record { parts = on; wake = wake })) p.control.unit (ends_at p p.callers
      (waiting p.control.block (f.label_name to.0) (parts_at p.control.held (map (value_text f) signals)) (wake_at t p.control.held (maybe_text f after))))
  waits-leads on wake l calls e g =
      let f = naming a m.frame.unit.0 in
      let x : parts_at p.control.held (map (value_text f) signals) ≡ Some on = sym (parts-same a m.frame.unit.0 m.frame.slots p.control.held k.frame.held signals s) ∙ e in
      let y : wake_at t p.control.held (maybe_text f after) ≡ Some wake = sym (wake-same a m.frame.unit.0 m.frame.slots p.control.held k.frame.held t after w) ∙ g in
      let n : p.callers ≡ [] = no-callers a m.callers.items p.callers calls k.callers in
      let all : ends_at p p.callers (waiting p.control.block (f.label_name to.0) (parts_at p.control.held (map (value_text f) signals)) (wake_at t p.control.held (maybe_text f after)))
      ≡ ends_at p [] (Some (waits p.control.block (f.label_name to.0) on wake)) =
      λ i. ends_at p (n i) (waiting p.control.block (f.label_name to.0) (x i) (y i)) in
      subst (λ (z : Next). InstLeads a m (flow.Waits to (record { parts = on; wake = wake })) p.control.unit z) (sym all) (
        l,
        record {
          within = k.frame.within;
          label = k.frame.label;
          unit = k.frame.unit;
          stand = ap (λ (b : List ℕ). waits b (label_name_at a m.frame.unit.0 to.0) on wake) k.frame.block;
          held = k.frame.held;
          wish = k.wish;
          outcomes = k.outcomes;
        },
      )
