-- The lowered module of a well-formed module: it has the same trace, it can be printed and read again, and it is well formed.
use Rattle.std.specs.Prelude.{◌≤◌, ℕ}
use Rattle.lh_unit.specs.Arena.{Arena, IsArena, contents}
use Rattle.lh_unit.specs.Trace.{max_instructions, SameTrace, SameTraceWithin}
use Rattle.lh_unit.specs.WellFormed.{IsSpelled, IsFaultless, IsWellFormed}
use Rattle.lh_unit.specs.Within.{Each}
use Rattle.lh_text_laws.specs.Printable.{IsPrintableItem}
use Rattle.lh_flat.specs.Flat.{FlatText}
use Rattle.lh_flat.specs.Marks.{UnitsAreNamed}
use Rattle.lh_lower_def.specs.Lowering.{lowered}
use Rattle.lh_entity_laws.specs.Stands.{IsFlattened, IsEnough}

-- a module in order that is well formed, whose values and labels have names
pub record IsSourceModule (a : Arena) : Type 0 where
  pub arena : IsArena a
  pub formed : IsWellFormed (contents a)
  pub named : UnitsAreNamed a

-- An activation may execute as many instructions as the entry and two regions of each process have.
abbrev pub IsEnoughFor : (bound : ℕ) → Arena → Type 0
IsEnoughFor bound a = (u : ℕ) (t : FlatText) → IsFlattened a u t → IsEnough bound t

-- The lowered module has the same trace, for every top and every number of frames.
abbrev pub LoweredSameTrace : Type 0
LoweredSameTrace = (a : Arena) → IsSourceModule a → SameTrace (contents a) (lowered (contents a))

-- So it has under any other bound on the instructions of an activation that is enough.
abbrev pub LoweredSameTraceWithin : Type 0
LoweredSameTraceWithin = (a : Arena) (bound : ℕ) → IsSourceModule a → IsEnoughFor bound a → SameTraceWithin bound (contents a) (lowered (contents a))

-- Every bound from that of the language on is enough.
abbrev pub LargeIsEnough : Type 0
LargeIsEnough = (a : Arena) (bound : ℕ) → max_instructions ≤ bound → IsEnoughFor bound a

-- Each item of it can be printed,
abbrev pub LoweredIsPrintable : Type 0
LoweredIsPrintable = (a : Arena) → IsSourceModule a → Each IsPrintableItem (lowered (contents a))

-- and its canonical text reads as it.
abbrev pub LoweredIsSpelled : Type 0
LoweredIsSpelled = (a : Arena) → IsSourceModule a → IsSpelled (lowered (contents a))

-- No instruction of it has a fault.
abbrev pub LoweredIsFaultless : Type 0
LoweredIsFaultless = (a : Arena) → IsSourceModule a → IsFaultless (lowered (contents a))

-- It is well formed.
abbrev pub LoweredIsWellFormed : Type 0
LoweredIsWellFormed = (a : Arena) → IsSourceModule a → IsWellFormed (lowered (contents a))
