-- Entities: one pass over the text.
use Rattle.std.specs.Prelude.{ℕ, List, [], ◌∷◌, ◌++◌, length, slice_get, Bool, false, not, ◌&&◌, ◌||◌, if◌then◌else◌, unwrap_or, Option, Some, None}
use Rattle.std.specs.Option.{option_and_then}
use Rattle.lh_time.specs.declared.Instant.{Instant}
use Rattle.lh_time.specs.declared.Delay.{Delay}
use Rattle.lh_types.specs.Wish.{Wish, no_wish}
use Rattle.lh_types.specs.declared.part.Range.{Range}
use Rattle.lh_unit.specs.declared.inst.Mode.{Mode}
use Rattle.lh_unit.specs.declared.inst.Mode.TheVariants.{Rise, Fall, Both, High, Low}
use Rattle.lh_unit.specs.Contents.{OperandText, TriggerText, InstText, const_text, pure_text, prb_text, drv_text, reg_text, LineText, UnitText}
use Rattle.lh_unit.specs.Held.{datum_held, Env, datum_at, delay_at, part_at, test_at}
use Rattle.lh_unit.specs.Effects.{operated, probed, driven, condition_at, drive_due}
use Rattle.lh_unit.specs.Hierarchy.{lines_of, parts_of, if_held, static_held, probed_parts}

-- what a pass has come to: what is held, the value of each trigger so far, and the wish
pub record Passed : Type 0 where
  pub held : Env
  pub seen : List Bool
  pub wish : Wish

-- A trigger's mode holds: `high` and `low` look at the trigger now; the others compare it with the previous run, and do not hold at the first.
abbrev pub mode_holds : Mode → (past : Option Bool) → (now : Bool) → Bool
mode_holds High past now = now
mode_holds Low past now = not now
mode_holds Rise (Some past) now = not past && now
mode_holds Fall (Some past) now = past && not now
mode_holds Both (Some past) now = (not past && now) || (past && not now)
mode_holds _ None now = false

-- the value of the next trigger at the previous run, which has a memory of all triggers in text order
abbrev pub past_of : (memory : Option (List Bool)) → (seen : List Bool) → Option Bool
past_of memory seen = option_and_then (λ values. slice_get values (length seen)) memory

-- the trigger's value now
abbrev pub trigger_now : Env → TriggerText → Bool
trigger_now e g = unwrap_or (test_at e g.trigger) false

-- the mode holds and the gate is 1; an absent gate is 1
abbrev pub fires : (memory : Option (List Bool)) → Passed → TriggerText → Bool
fires memory p g = mode_holds g.mode (past_of memory p.seen) (trigger_now p.held g) && unwrap_or (condition_at p.held g.gate) false

-- an absent delay is the zero delay
abbrev pub delay_of : Env → Option (List ℕ) → Option Delay
delay_of e None = Some (record { fs = 0; delta = 0; eps = 0 })
delay_of e (Some d) = delay_at e d

-- the wish after a trigger has fired
abbrev pub stored : Instant → OperandText → TriggerText → Passed → Wish
stored t to g p = unwrap_or (drive_due t p.wish (part_at p.held to.value) (datum_at p.held g.value) (delay_of p.held g.after)) p.wish

-- The triggers of a register, in order: the first that fires drives its value, the others do nothing; the value of each is seen.
abbrev pub triggers_from : (memory : Option (List Bool)) → Instant → OperandText → (fired : Bool) → Passed → List TriggerText → Passed
triggers_from memory t to fired p [] = p
triggers_from memory t to fired p (g ∷ more) =
    triggers_from memory t to (fired || fires memory p g)
    (record { held = p.held; seen = p.seen ++ trigger_now p.held g ∷ []; wish = if not fired && fires memory p g then stored t to g p else p.wish }) more

-- one line of an entity; `sig` and `inst` do nothing in a pass
abbrev pub passes : UnitText → (now : List Bool) → (memory : Option (List Bool)) → Instant → InstText → Option (List ℕ) → Passed → Passed
passes u now memory t (const_text d) result p = record p { held = if_held p.held result (Some (datum_held d)) }
passes u now memory t (pure_text o args) result p = record p { held = if_held p.held result (operated u p.held o args) }
passes u now memory t (prb_text s) result p = record p { held = if_held p.held result (probed now p.held s) }
passes u now memory t (drv_text to value after cond) result p = record p { wish = unwrap_or (driven t p.held p.wish to value after cond) p.wish }
passes u now memory t (reg_text to triggers) result p = triggers_from memory t to false p triggers
passes u now memory t _ result p = p

-- the lines, one after the other
abbrev pub pass_from : UnitText → (now : List Bool) → (memory : Option (List Bool)) → Instant → Passed → List LineText → Passed
pass_from u now memory t p [] = p
pass_from u now memory t p (l ∷ more) = pass_from u now memory t (passes u now memory t l.inst l.result p) more

-- A pass: the instructions of an entity in text order. What it has seen is the memory of the next run.
unfoldable pub pass : UnitText → (args sigs : List Range) → (now : List Bool) → (memory : Option (List Bool)) → Instant → Passed
pass u args sigs now memory t = pass_from u now memory t (record { held = parts_of u args sigs; seen = []; wish = no_wish }) (lines_of u.blocks)

-- the parts that an entity senses: those that a `prb` in it names
unfoldable pub probes : UnitText → (args sigs : List Range) → List Range
probes u args sigs = probed_parts (static_held u args sigs) (lines_of u.blocks)
