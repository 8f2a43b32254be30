-- The steps of `extf`, `exts`, `insf` and `inss` lead to parts.
use Rattle.std.specs.Prelude.{◌≡◌, ◌≤◌, ◌+◌, List, [], ◌∷◌, true, Some}
use Rattle.lh_types.specs.Types.{TypeTree, signal_type, bit_count}
use Rattle.lh_types.specs.Faults.{is_data}
use Rattle.lh_types.specs.Parts.{Part, step_part, part_range, range_of}
use Rattle.lh_types.specs.declared.part.Step.{Step}
use Rattle.lh_unit.specs.Contents.{OperandText, InstText, pure_text, UnitText}
use Rattle.lh_unit.specs.TypingRows.{OperationRow, takes_part, puts_part, operation_row}
use Rattle.lh_verify_laws.specs.Sites.{AtEachSite}
use Rattle.lh_verify_laws.specs.Operands.{IsOf}

-- a step leads from a data type to a part of it, and from a signal to the signal of a part of what it carries
abbrev pub StepLeadsTo : Step → (whole of : TypeTree) → Type 0
StepLeadsTo s (signal_type t) of = (p : Part) × (step_part t s ≡ Some p) × (of ≡ signal_type p.of)
StepLeadsTo s t of = (p : Part) × (step_part t s ≡ Some p) × (of ≡ p.of)

-- `extf` and `exts`: the one operand has the part, and its type is the one that is written
pub record TakesPart (u : UnitText) (s : Step) (args : List OperandText) : Type 0 where
  pub operand : OperandText
  pub operands : args ≡ operand ∷ []
  pub whole : TypeTree
  pub is : IsOf u whole operand.value
  pub of : TypeTree
  pub written : operand.ty ≡ Some of
  pub leads : StepLeadsTo s whole of

-- `insf` and `inss`: the first operand is data of the type that is written and has the part, and the second is of the part's type
pub record PutsPart (u : UnitText) (s : Step) (args : List OperandText) : Type 0 where
  pub operand : OperandText
  pub new : OperandText
  pub operands : args ≡ operand ∷ new ∷ []
  pub whole : TypeTree
  pub written : operand.ty ≡ Some whole
  pub is : IsOf u whole operand.value
  pub carries : is_data whole ≡ true
  pub part : Part
  pub leads : step_part whole s ≡ Some part
  pub fits : IsOf u part.of new.value

abbrev pub PartIs : UnitText → OperationRow → List OperandText → Type 0
PartIs u (takes_part s) args = TakesPart u s args
PartIs u (puts_part s) args = PutsPart u s args
PartIs u _ args = Unit {0}

abbrev pub HasPart : UnitText → InstText → Type 0
HasPart u (pure_text o args) = PartIs u (operation_row o) args
HasPart u _ = Unit {0}

-- So each of these instructions has its part.
abbrev pub PartsAreThere : Type 0
PartsAreThere = AtEachSite (λ items s. HasPart s.unit s.place.line.inst)

-- Where there is a part, the step leads to its bits.
abbrev pub PartsHaveRanges : Type 0
PartsHaveRanges = (t : TypeTree) (s : Step) (p : Part) → step_part t s ≡ Some p → range_of t (s ∷ []) ≡ Some (part_range p)

-- The bits of a part lie within those of the whole.
abbrev pub PartsLieWithin : Type 0
PartsLieWithin = (t : TypeTree) (s : Step) (p : Part) → step_part t s ≡ Some p → p.lo + bit_count p.of ≤ bit_count t
