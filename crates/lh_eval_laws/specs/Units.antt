-- What holds of each unit of a well-formed module.
use Rattle.std.specs.Prelude.{◌≡◌, ℕ, List, Option, Some, IsSome}
use Rattle.lh_types.specs.Types.{TypeTree, signal_type, IsData}
use Rattle.lh_unit.specs.Contents.{InstText, sig_text, LineText, ArgText, UnitText}
use Rattle.lh_unit.specs.Hierarchy.{lines_of}
use Rattle.lh_unit.specs.Typing.{value_type}
use Rattle.lh_unit.specs.Within.{Each}
use Rattle.lh_unit.specs.declared.inst.UnitKind.{UnitKind}
use Rattle.lh_unit.specs.declared.inst.UnitKind.TheVariants as kind
use Rattle.lh_text_laws.specs.Printable.{IsPrintable}
use Rattle.lh_eval.specs.Sound.{InstIsSound}

-- the value of an argument has the type of the argument
abbrev pub HasItsType : UnitText → ArgText → Type 0
HasItsType u a = value_type u a.name ≡ Some a.ty

-- an argument is a signal that carries a data type
abbrev pub IsPort : ArgText → Type 0
IsPort a = (t : TypeTree) × (a.ty ≡ signal_type t) × IsData t

-- a `sig` writes a data type and has a result
abbrev pub SigWritesData : Option (List ℕ) → InstText → Type 0
SigWritesData result (sig_text a) = (t : TypeTree) × (a.ty ≡ Some t) × IsData t × IsSome result
SigWritesData result _ = Unit {0}

-- the same of a line
abbrev pub WritesData : LineText → Type 0
WritesData l = SigWritesData l.result l.inst

-- the arguments of a process or an entity are signals
abbrev pub HasPorts : UnitKind → List ArgText → Type 0
HasPorts kind.Func args = Unit {0}
HasPorts kind.Proc args = Each IsPort args
HasPorts kind.Entity args = Each IsPort args

-- Each instruction of a unit is sound, no name stands twice, so that each argument has its own type, and the unit can be printed so that it reads back.
pub record UnitIsSound (u : UnitText) : Type 0 where
  pub lines : Each (InstIsSound u) (lines_of u.blocks)
  pub args : Each (HasItsType u) u.args
  pub ports : HasPorts u.kind u.args
  pub signals : Each WritesData (lines_of u.blocks)
  pub printable : IsPrintable u
