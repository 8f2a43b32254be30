-- When an entity that is emitted can be printed and read: where the process's header can, and the times of its delays.
use Rattle.std.specs.Prelude.{◌≡◌, ◌<◌, ◌^◌, false, List}
use Rattle.lh_time.specs.declared.Delay.{Delay}
use Rattle.lh_types.specs.Values.{Datum, time_value}
use Rattle.lh_unit.specs.declared.inst.UnitKind.TheVariants as kind
use Rattle.lh_unit.specs.Contents.{UnitText}
use Rattle.lh_unit.specs.Reads.{is_assert}
use Rattle.lh_unit.specs.Spells.{header_item}
use Rattle.lh_unit.specs.Within.{Each}
use Rattle.lh_text_laws.specs.Printable.{HasLine, IsPrintable}
use Rattle.lh_term.specs.Tree.{Tree, constant}
use Rattle.lh_term.specs.declared.part.Part.{Part}
use Rattle.lh_emit_def.specs.Given.{Drive, EdgeRowTree}
use Rattle.lh_emit_def.specs.Emitted.{PartStep, source_of}
use Rattle.lh_emit_def.specs.Entities.{emits, comb_emission, edge_emission, once_emission}
use Rattle.lh_emit_def.specs.Ways.{WaitIsGiven, DriveIsGiven, RowIsGiven}
use Rattle.lh_emit_def.specs.Laws.{HasApartArgs}

-- the header of a process can be printed: its line, a name that is not a builtin's, and few arguments, no two of one name
pub record HasPrintableHeader (u : UnitText) : Type 0 where
  pub is_process : u.kind ≡ kind.Proc
  pub headed : HasLine (header_item u.kind u.name u.args u.result)
  pub no_assert : is_assert u.name ≡ false
  pub arguments : HasApartArgs u

-- a time can be written: its femtoseconds are below 2^63, and its steps below 2^31
abbrev pub IsWritable : Delay → Type 0
IsWritable d = (d.fs < 2 ^ 63) × (d.delta < 2 ^ 31) × (d.eps < 2 ^ 31)

-- the same of a value that is a time
abbrev pub TimeIsWritable : Datum → Type 0
TimeIsWritable (time_value d) = IsWritable d
TimeIsWritable v = Unit {0}

-- the same of a delay that is a constant; an entity with any other delay is not emitted
abbrev pub DelayIsWritable : Tree → Type 0
DelayIsWritable (constant v) = TimeIsWritable v
DelayIsWritable t = Unit {0}

-- the same of the delay of a drive, and of a row of registers
abbrev pub DriveIsWritable : Drive → Type 0
DriveIsWritable d = DelayIsWritable d.delay

abbrev pub RowIsWritable : EdgeRowTree → Type 0
RowIsWritable r = DelayIsWritable r.delay

-- ---- what is emitted can be printed

abbrev pub CombIsPrintable : Type 0
CombIsPrintable = (u y : UnitText) (steps : Part → List PartStep) (waited : List Part) (ds : List Drive) →
    comb_emission u steps waited ds ≡ emits y → HasPrintableHeader u → Each (WaitIsGiven (source_of u steps)) waited → Each (DriveIsGiven (source_of u steps)) ds →
    Each DriveIsWritable ds → IsPrintable y

abbrev pub EdgeIsPrintable : Type 0
EdgeIsPrintable = (u y : UnitText) (steps : Part → List PartStep) (rs : List EdgeRowTree) →
    edge_emission u steps rs ≡ emits y → HasPrintableHeader u → Each (RowIsGiven (source_of u steps)) rs → Each RowIsWritable rs → IsPrintable y

abbrev pub OnceIsPrintable : Type 0
OnceIsPrintable = (u y : UnitText) (steps : Part → List PartStep) (ds : List Drive) →
    once_emission u steps ds ≡ emits y → HasPrintableHeader u → Each (DriveIsGiven (source_of u steps)) ds → Each DriveIsWritable ds → IsPrintable y
