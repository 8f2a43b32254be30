-- Laws of the units of a well-formed module: each is sound, and what an instance begins with fits.
use Rattle.std.specs.Prelude.{◌≡◌, ℕ, ◌<◌, List, length, map, Bool, Option, Some, IsSome}
use Rattle.lh_time.specs.declared.Instant.{Instant}
use Rattle.lh_types.specs.declared.part.Range.{Range}
use Rattle.lh_unit.specs.Contents.{LineText, UnitText}
use Rattle.lh_unit.specs.Held.{part_held, nothing_held, with_args}
use Rattle.lh_unit.specs.Hierarchy.{parts_of}
use Rattle.lh_unit.specs.Pass.{Passed, passes}
use Rattle.lh_unit.specs.Arena.{Arena, IsArena, unit_count, kind_at, contents, unit_text_at}
use Rattle.lh_unit.specs.WellFormed.{IsWellFormed}
use Rattle.lh_unit.specs.declared.inst.UnitKind.TheVariants as kind
use Rattle.lh_eval.specs.Fitting.{Fits}
use Rattle.lh_eval.specs.Sound.{InstIsSound}
use Rattle.lh_eval_laws.specs.Ranges.{RangesFit, arg_types, InstanceFits}
use Rattle.lh_eval_laws.specs.Units.{UnitIsSound}

-- each unit that is defined is sound
abbrev pub UnitsAreSound : Type 0
UnitsAreSound = (a : Arena) (u : ℕ) → IsArena a → u < unit_count a → IsSome (kind_at a u) → IsWellFormed (contents a) → UnitIsSound (unit_text_at a u)

-- what a process begins with fits: the parts of its arguments
abbrev pub ProcessesBeginFit : Type 0
ProcessesBeginFit = (a : Arena) (u : ℕ) → IsArena a → u < unit_count a → kind_at a u ≡ Some kind.Proc → IsWellFormed (contents a) → (args : List Range) (width : ℕ) →
    RangesFit width args (arg_types (unit_text_at a u).args) → Fits (unit_text_at a u) width (with_args nothing_held (unit_text_at a u).args (map part_held args))

-- what an entity begins with fits: the parts of its arguments and of its signals
abbrev pub EntitiesBeginFit : Type 0
EntitiesBeginFit = (a : Arena) (u : ℕ) → IsArena a → u < unit_count a → kind_at a u ≡ Some kind.Entity → IsWellFormed (contents a) → (args sigs : List Range) (width : ℕ) →
    InstanceFits (unit_text_at a u) args sigs width → Fits (unit_text_at a u) width (parts_of (unit_text_at a u) args sigs)

-- what is held in a pass still fits after a sound instruction
abbrev pub PassesKeepFit : Type 0
PassesKeepFit = (u : UnitText) (now : List Bool) (memory : Option (List Bool)) (t : Instant) (p : Passed) (l : LineText) → InstIsSound u l →
    Fits u (length now) p.held → Fits u (length now) (passes u now memory t l.inst l.result p).held
