-- What is kept of an instance between frames: of a process or of an entity.
use Rattle.std.specs.Prelude.{◌≡◌, ℕ, List, Option, Some, None}
use Rattle.lh_time.specs.declared.Instant.{Instant}
use Rattle.lh_types.specs.declared.part.Range.{Range}
use Rattle.lh_unit.specs.Arena.{Arena, kind_at, unit_text_at}
use Rattle.lh_unit.specs.declared.inst.UnitKind.TheVariants as kind
use Rattle.lh_unit.specs.World.{State, of_process, of_entity}
use Rattle.lh_eval.specs.declared.instance.Instance.{Instance}
use Rattle.lh_exec.specs.States as process
use Rattle.lh_exec.specs.Laws.{parts_of, wake_of}
use Rattle.lh_react.specs.Standing as entity
use Rattle.lh_kernel_states.specs.declared.state.InstState.{InstState}
use Rattle.lh_kernel_states.specs.declared.state.InstState.TheVariants.{Process, Entity}

-- what is kept of an instance stands for its state
abbrev pub StateIs : Arena → Instance → InstState → State → Type 0
StateIs a i (Process s) (of_process p) = process.StandsForState a i.unit.0 i.args s p
StateIs a i (Entity s) (of_entity memory) = s.memory ≡ memory
StateIs a i _ _ = ⊥

-- it is of the kind of the instance's unit, and fits, where the signals have so many bits
abbrev pub StateFits : Arena → (width : ℕ) → Instance → InstState → Type 0
StateFits a width i (Process s) = (kind_at a i.unit.0 ≡ Some kind.Proc) × process.ProcStateFits a i.unit.0 width s
StateFits a width i (Entity s) = (kind_at a i.unit.0 ≡ Some kind.Entity) × entity.EntityStateFits (unit_text_at a i.unit.0) i.args s

-- the parts that an instance senses: those that a process waits for, or that an entity probes
abbrev pub parts_sensed : InstState → (probes : List Range) → List Range
parts_sensed (Process s) probes = parts_of (process.waited_on s)
parts_sensed (Entity s) probes = probes

-- when an instance wakes by itself
abbrev pub wake_kept : InstState → Option Instant
wake_kept (Process s) = wake_of (process.waited_on s)
wake_kept (Entity s) = None
