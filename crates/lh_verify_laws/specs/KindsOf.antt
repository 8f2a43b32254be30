-- The operands of an instruction have types, of their kinds.
use Rattle.std.specs.Prelude.{◌≡◌, true, Some}
use Rattle.lh_types.specs.Types.{TypeTree}
use Rattle.lh_unit.specs.Contents.{ArgText, UnitText}
use Rattle.lh_unit.specs.Typing.{value_type}
use Rattle.lh_unit.specs.Kinds.{Kind, kind_of, Use, uses, takes}
use Rattle.lh_unit.specs.Within.{Each}
use Rattle.lh_verify_laws.specs.Sites.{AtEachSite}

-- no argument is void
abbrev pub ArgsHaveKinds : UnitText → Type 0
ArgsHaveKinds u = Each (λ (a : ArgText). (k : Kind) × (kind_of a.ty ≡ Some k)) u.args

-- an operand has a type, of a kind that its place takes
abbrev pub HasTypeOfKind : UnitText → Use → Type 0
HasTypeOfKind u x = (t : TypeTree) × (k : Kind) × (value_type u x.value ≡ Some t) × (kind_of t ≡ Some k) × (takes x.need k ≡ true)

-- In a unit of which no argument is void each operand has a type, of a kind that its place takes.
abbrev pub OperandsHaveTypes : Type 0
OperandsHaveTypes = AtEachSite (λ items s. ArgsHaveKinds s.unit → Each (HasTypeOfKind s.unit) (uses s.place.line.inst))
