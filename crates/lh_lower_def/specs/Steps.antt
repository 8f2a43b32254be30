-- Lowering as a sequence of single steps.
use Rattle.std.specs.Prelude.{◌≡◌, List, ◌∷◌, ◌++◌, true}
use Rattle.lh_unit.specs.Contents.{UnitText, ItemText, unit_text}
use Rattle.lh_lower_def.specs.Lowering.{becomes, outcome_in, lowered}
use Rattle.lh_lower_def.specs.Kept.{IsEntityFor}
use Rattle.lh_unit.specs.WellFormed.{in_process}
use Rattle.lh_lower_def.specs.declared.report.Kind.{Kind}

-- From one module to another by putting an entity in the place of a process, one after the other. Each is the entity of its process in the
-- module as it then stands.
pub data OneByOne : List ItemText → List ItemText → Type 0 where
  all_done : (m : List ItemText) → OneByOne m m
  one_replaced : (m to : List ItemText) (before after : List ItemText) (u y : UnitText) (k : Kind) → m ≡ (before ++ unit_text u ∷ after) → in_process u.kind ≡ true →
      outcome_in m u ≡ becomes k y → IsEntityFor u y → OneByOne (before ++ unit_text y ∷ after) to → OneByOne m to

-- So a module becomes what it is lowered to: what is kept by each single step is kept by lowering.
abbrev pub LoweredOneByOne : Type 0
LoweredOneByOne = (items : List ItemText) → OneByOne items (lowered items)
