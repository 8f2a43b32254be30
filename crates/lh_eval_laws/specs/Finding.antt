-- Nothing goes wrong in an entity: what a pass and elaboration look for is there, so that no default is ever met.
use Rattle.std.specs.Prelude.{◌≡◌, ℕ, ◌<◌, List, [], ◌∷◌, ◌++◌, length, Bool, Option, Some, IsSome}
use Rattle.lh_time.specs.declared.Instant.{Instant}
use Rattle.lh_types.specs.Wish.{no_wish}
use Rattle.lh_types.specs.declared.part.Range.{Range}
use Rattle.lh_unit.specs.Contents.{OperandText, TriggerText, InstText, pure_text, sig_text, prb_text, drv_text, reg_text, child_text, LineText, UnitText}
use Rattle.lh_unit.specs.Held.{Env, datum_at, part_at, test_at}
use Rattle.lh_unit.specs.Effects.{operated, probed, condition_at, driven}
use Rattle.lh_unit.specs.Hierarchy.{lines_of, parts_of, static_held}
use Rattle.lh_unit.specs.Pass.{Passed, delay_of, passes}
use Rattle.lh_unit.specs.Arena.{Arena, IsArena, unit_count, kind_at, contents, unit_text_at}
use Rattle.lh_unit.specs.Within.{Each}
use Rattle.lh_unit.specs.WellFormed.{IsWellFormed}
use Rattle.lh_unit.specs.declared.inst.UnitKind.TheVariants as kind
use Rattle.lh_eval_laws.specs.Ranges.{InstanceFits}

-- a trigger of a register finds its value, its trigger, its gate and its delay
pub record TriggerFinds (e : Env) (g : TriggerText) : Type 0 where
  pub value : IsSome (datum_at e g.value)
  pub trigger : IsSome (test_at e g.trigger)
  pub gate : IsSome (condition_at e g.gate)
  pub after : IsSome (delay_of e g.after)

-- an instruction of an entity finds what it looks for in a pass; the others look for nothing there
abbrev pub FindsInPass : UnitText → (now : List Bool) → Instant → Passed → InstText → Type 0
FindsInPass u now t p (pure_text o args) = IsSome (operated u p.held o args)
FindsInPass u now t p (prb_text s) = IsSome (probed now p.held s)
FindsInPass u now t p (drv_text to value after cond) = IsSome (driven t p.held p.wish to value after cond)
FindsInPass u now t p (reg_text to triggers) = IsSome (part_at p.held to.value) × Each (TriggerFinds p.held) triggers
FindsInPass u now t p _ = Unit {0}

-- so does each of these instructions, where the pass comes to it
abbrev pub FindsAll : UnitText → (now : List Bool) → (memory : Option (List Bool)) → Instant → Passed → List LineText → Type 0
FindsAll u now memory t p [] = Unit {0}
FindsAll u now memory t p (l ∷ more) = FindsInPass u now t p l.inst × FindsAll u now memory t (passes u now memory t l.inst l.result p) more

-- a part of the signals is under the name of each operand of `prb` and `inst`
abbrev pub PartsFound : Env → InstText → Type 0
PartsFound e (prb_text s) = IsSome (part_at e s.value)
PartsFound e (child_text v inputs outputs) = Each (λ (o : OperandText). IsSome (part_at e o.value)) (inputs ++ outputs)
PartsFound e _ = Unit {0}

-- a `sig` writes its type, and its initial value is there
abbrev pub InitialFound : Env → InstText → Type 0
InitialFound e (sig_text a) = IsSome a.ty × IsSome (datum_at e a.value)
InitialFound e _ = Unit {0}

-- In each entity of a well-formed module elaboration finds the parts that it senses and those that its instances are connected to.
abbrev pub PartsAreFound : Type 0
PartsAreFound = (a : Arena) (u : ℕ) → IsArena a → u < unit_count a → kind_at a u ≡ Some kind.Entity → IsWellFormed (contents a) → (args sigs : List Range) (width : ℕ) → InstanceFits (unit_text_at a u) args sigs width →
    Each (λ (l : LineText). PartsFound (static_held (unit_text_at a u) args sigs) l.inst) (lines_of (unit_text_at a u).blocks)

-- It finds the initial values of its signals, from constants and operations alone.
abbrev pub InitialsAreFound : Type 0
InitialsAreFound = (a : Arena) (u : ℕ) → IsArena a → u < unit_count a → kind_at a u ≡ Some kind.Entity → IsWellFormed (contents a) →
    Each (λ (l : LineText). InitialFound (static_held (unit_text_at a u) [] []) l.inst) (lines_of (unit_text_at a u).blocks)

-- In each pass of an entity of a well-formed module every instruction finds what it looks for, whatever the bits, the memory and the instant are.
abbrev pub PassesFindAll : Type 0
PassesFindAll = (a : Arena) (u : ℕ) → IsArena a → u < unit_count a → kind_at a u ≡ Some kind.Entity → IsWellFormed (contents a) → (args sigs : List Range) (now : List Bool) (memory : Option (List Bool)) (t : Instant) →
    InstanceFits (unit_text_at a u) args sigs (length now) →
    FindsAll (unit_text_at a u) now memory t (record { held = parts_of (unit_text_at a u) args sigs; seen = []; wish = no_wish }) (lines_of (unit_text_at a u).blocks)
