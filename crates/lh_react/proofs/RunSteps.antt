-- A run of the code stands for what a pass comes to, instruction by instruction.
use Rattle.std.proofs.Common.{◌≡◌, ℕ, ◌<◌, Bool, not, ◌&&◌, ◌||◌, if◌then◌else◌, List, [], ◌∷◌, ◌++◌, length, map, unwrap_or, Option, Some, None, false, refl, ap, sym, ◌∙◌, subst}
use Rattle.lh_time.specs.declared.Instant.{Instant}
use Rattle.lh_types.specs.Wish.{Wish}
use Rattle.lh_unit.specs.Arena.{Arena, IsArena, naming, unit_count}
use Rattle.lh_unit.specs.Effects.{drive_due}
use Rattle.lh_unit.specs.Held.{Held, Env}
use Rattle.lh_unit.specs.Hierarchy.{if_held}
use Rattle.lh_unit.specs.Naming.{maybe_text, operand_text, trigger_text}
use Rattle.lh_unit.specs.Pass.{Passed, mode_holds, past_of, trigger_now, fires, delay_of, stored, triggers_from}
use Rattle.lh_unit.specs.Within.{Each}
use Rattle.lh_unit.specs.declared.inst.ValueId.{ValueId}
use Rattle.lh_unit.specs.declared.inst.Typed.{Typed}
use Rattle.lh_unit.specs.declared.inst.RegTrigger.{RegTrigger}
use Rattle.lh_eval.specs.Holding.{Holds, MaybeIn, SameHeld}
use Rattle.lh_eval.proofs.HeldByIds.{same-held, holds-given}
use Rattle.lh_react.specs.declared.pass.PassRun.{PassRun}
use Rattle.lh_react.specs.Standing.{StandsForPass, HasGiven, HasWished}
use Rattle.lh_react.specs.Registers.{TriggerIn, delay_in, value_in, fires_in, stored_in, tried, tries}

module _ (a : Arena) (u : ℕ) where
  pub stands-given : (p : Passed) (r s : PassRun) (name : Option ValueId) (h k : Option Held) → IsArena a → u < unit_count a → StandsForPass a u p r
      → MaybeIn r.slots name → h ≡ k → HasGiven r name h s → StandsForPass a u (record p { held = if_held p.held (maybe_text (naming a u) name) k }) s
  stands-given p r s name h k o hu st w e g = record {
    holds = subst (λ (x : Option Held). Holds a u s.slots (if_held p.held (maybe_text (naming a u) name) x)) e
        (subst (λ (x : List (Option Held)). Holds a u x (if_held p.held (maybe_text (naming a u) name) h)) (sym g.slots)
        (holds-given a u r.slots p.held name h o hu st.holds w));
    seen = g.seen ∙ st.seen;
    wish = g.wishes ∙ st.wish;
  }

  pub stands-wished : (p : Passed) (r s : PassRun) (v w : Wish) → StandsForPass a u p r → v ≡ w → HasWished r v s → StandsForPass a u (record p { wish = w }) s
  stands-wished p r s v w st e g = record {
    holds = subst (λ (x : List (Option Held)). Holds a u x p.held) (sym g.slots) st.holds;
    seen = g.seen ∙ st.seen;
    wish = g.wishes ∙ e;
  }

  delay-same : (slots : List (Option Held)) (e : Env) → SameHeld a u slots e → (x : Option ValueId) → MaybeIn slots x
      → delay_in slots x ≡ delay_of e (maybe_text (naming a u) x)
  delay-same slots e h None w = refl
  delay-same slots e h (Some v) w = h.delay v w

  module _ (memory : Option (List Bool)) (t : Instant) (to : Typed) where
    value-same : (p : Passed) (r : PassRun) (g : RegTrigger) → StandsForPass a u p r → TriggerIn r.slots g
        → value_in r.slots g ≡ trigger_now p.held (trigger_text (naming a u) g)
    value-same p r g st w = ap (λ (x : Option Bool). unwrap_or x false) ((same-held a u r.slots p.held st.holds).test g.trigger w.trigger)

    fires-same : (p : Passed) (r : PassRun) (g : RegTrigger) → StandsForPass a u p r → TriggerIn r.slots g
        → fires_in memory r g ≡ fires memory p (trigger_text (naming a u) g)
    fires-same p r g st w =
        let v : value_in r.slots g ≡ trigger_now p.held (trigger_text (naming a u) g) = value-same p r g st w in
        let c = (same-held a u r.slots p.held st.holds).condition g.gate w.gate in
        λ i. mode_holds g.mode (past_of memory (st.seen i)) (v i) && unwrap_or (c i) false

    stored-same : (p : Passed) (r : PassRun) (g : RegTrigger) → StandsForPass a u p r → to.value.0 < length r.slots → TriggerIn r.slots g
        → stored_in t to.value r g ≡ stored t (operand_text (naming a u) to) (trigger_text (naming a u) g) p
    stored-same p r g st l w =
        let h = same-held a u r.slots p.held st.holds in
        let x = h.part to.value l in
        let y = h.datum g.value w.value in
        let z = delay-same r.slots p.held h g.after w.after in
        λ i. unwrap_or (drive_due t (st.wish i) (x i) (y i) (z i)) (st.wish i)

    pub stands-tries : (gs : List RegTrigger) (was : Bool) (p : Passed) (r : PassRun) → StandsForPass a u p r → to.value.0 < length r.slots
        → Each (TriggerIn r.slots) gs → StandsForPass a u (triggers_from memory t (operand_text (naming a u) to) was p (map (trigger_text (naming a u)) gs))
        (tries memory t to.value was r gs)
    stands-tries [] was p r st l w = st
    stands-tries (g ∷ gs) was p r st l w =
        let g' = trigger_text (naming a u) g in
        let to' = operand_text (naming a u) to in
        let v : value_in r.slots g ≡ trigger_now p.held g' = value-same p r g st w.0 in
        let f : fires_in memory r g ≡ fires memory p g' = fires-same p r g st w.0 in
        let x : stored_in t to.value r g ≡ stored t to' g' p = stored-same p r g st l w.0 in
        let q : Passed = record {
          held = p.held;
          seen = p.seen ++ trigger_now p.held g' ∷ [];
          wish = if not was && fires memory p g' then stored t to' g' p else p.wish;
        } in
        let next : StandsForPass a u q (tried memory t to.value was r g) =
        record { holds = st.holds; seen = λ i. st.seen i ++ v i ∷ []; wish = λ i. if not was && f i then x i else st.wish i } in
        subst (λ (b : Bool). StandsForPass a u (triggers_from memory t to' (was || b) q (map (trigger_text (naming a u)) gs))
        (tries memory t to.value (was || fires_in memory r g) (tried memory t to.value was r g) gs)) f
        (stands-tries gs (was || fires_in memory r g) q (tried memory t to.value was r g) next l w.1)
