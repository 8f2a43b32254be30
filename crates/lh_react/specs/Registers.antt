-- The triggers of a register, by ids.
use Rattle.std.specs.Prelude.{◌<◌, List, [], ◌∷◌, ◌++◌, length, Bool, false, not, ◌&&◌, ◌||◌, if◌then◌else◌, unwrap_or, Option, Some, None}
use Rattle.lh_time.specs.declared.Instant.{Instant}
use Rattle.lh_time.specs.declared.Delay.{Delay}
use Rattle.lh_types.specs.Wish.{Wish}
use Rattle.lh_unit.specs.Effects.{drive_due}
use Rattle.lh_unit.specs.Held.{Held}
use Rattle.lh_unit.specs.Pass.{mode_holds, past_of}
use Rattle.lh_unit.specs.declared.inst.ValueId.{ValueId}
use Rattle.lh_unit.specs.declared.inst.RegTrigger.{RegTrigger}
use Rattle.lh_eval.specs.Holding as holding
use Rattle.lh_eval.specs.Holding.{MaybeIn, datum_in, part_in, test_in, condition_in}
use Rattle.lh_eval.specs.Fitting.{DriveFits}
use Rattle.lh_react.specs.declared.pass.PassRun.{PassRun}

-- each operand of a trigger has a slot
pub record TriggerIn (slots : List (Option Held)) (g : RegTrigger) : Type 0 where
  pub value : g.value.0 < length slots
  pub trigger : g.trigger.0 < length slots
  pub gate : MaybeIn slots g.gate
  pub after : MaybeIn slots g.after

-- what a trigger drives fits
abbrev pub TriggerFits : (slots : List (Option Held)) → (to : ValueId) → RegTrigger → Type 0
TriggerFits slots to g = DriveFits (part_in slots to) (datum_in slots g.value)

-- an absent delay is the zero delay
abbrev pub delay_in : List (Option Held) → Option ValueId → Option Delay
delay_in slots None = Some (record { fs = 0; delta = 0; eps = 0 })
delay_in slots (Some v) = holding.delay_in slots v

-- the trigger's value now
abbrev pub value_in : List (Option Held) → RegTrigger → Bool
value_in slots g = unwrap_or (test_in slots g.trigger) false

-- the mode holds and the gate is 1
abbrev pub fires_in : (memory : Option (List Bool)) → PassRun → RegTrigger → Bool
fires_in memory r g = mode_holds g.mode (past_of memory r.seen) (value_in r.slots g) && unwrap_or (condition_in r.slots g.gate) false

-- the wish after a trigger has fired
abbrev pub stored_in : Instant → (to : ValueId) → PassRun → RegTrigger → Wish
stored_in t to r g = unwrap_or (drive_due t r.wishes (part_in r.slots to) (datum_in r.slots g.value) (delay_in r.slots g.after)) r.wishes

-- the run after a trigger
abbrev pub tried : (memory : Option (List Bool)) → Instant → (to : ValueId) → (fired : Bool) → PassRun → RegTrigger → PassRun
tried memory t to fired r g = record { slots = r.slots; seen = r.seen ++ value_in r.slots g ∷ []; wishes = if not fired && fires_in memory r g then stored_in t to r g else r.wishes }

-- the run after the triggers of a register, in order
abbrev pub tries : (memory : Option (List Bool)) → Instant → (to : ValueId) → (fired : Bool) → PassRun → List RegTrigger → PassRun
tries memory t to fired r [] = r
tries memory t to fired r (g ∷ more) = tries memory t to (fired || fires_in memory r g) (tried memory t to fired r g) more
