-- What an entity says that was emitted for a shape.
use Rattle.std.specs.Prelude.{◌≡◌, List, [], map, filter, Bool, false, ◌||◌}
use Rattle.lh_unit.specs.Contents.{UnitText}
use Rattle.lh_unit.specs.Hierarchy.{lines_of}
use Rattle.lh_unit.specs.Within.{Each}
use Rattle.lh_term.specs.declared.part.Part.{Part}
use Rattle.lh_edge.specs.Triggers.{EdgeRowTree}
use Rattle.lh_region_def.specs.Rows.{Drive, DriveReads}
use Rattle.lh_region_def.specs.Typed.{Among}
use Rattle.lh_emit_def.specs.Emitted.{PartStep, source_of}
use Rattle.lh_emit_def.specs.Entities.{emits, comb_emission, edge_emission, once_emission}
use Rattle.lh_emit_def.specs.Laws.{HasApartArgs, PartPasses}
use Rattle.lh_emit_def.specs.Ways.{WaitIsGiven, DriveIsGiven, RowIsGiven}
use Rattle.lh_cert_rows.specs.Rows.{TriggerRow, EntityRow, driven_by, registered}
use Rattle.lh_cert_rows.specs.Reading.{EntityText, read}
use Rattle.lh_cert_def.specs.KeptRows.{rebuilt_drive, register_of, has_triggers}
use Rattle.lh_cert_def.specs.Headers.{has_hierarchy, has_drive, has_register}

-- the row of an entity that a drive of a process becomes
abbrev pub drive_said : Drive → EntityRow
drive_said d = driven_by (rebuilt_drive d)

-- the row that a register becomes
abbrev pub register_said : Part × List TriggerRow → EntityRow
register_said r = registered r.0 r.1

-- the rows that registers become: a register without triggers is not emitted
abbrev pub registers_said : List EdgeRowTree → List EntityRow
registers_said rs = map register_said (filter has_triggers (map register_of rs))

-- an entity says that it probes these parts: each of them has this property, and the ones asked for are there
pub record ProbesThese (P : Part → Type 0) (asked : List Part) (e : EntityText) : Type 0 where
  pub all_have : Each P e.probes
  pub all_there : Each (λ p. Among p e.probes) asked

-- what an entity says of drives: it has no `reg`, its rows are these drives, and it probes these parts
pub record SaysDrives (P : Part → Type 0) (waited : List Part) (ds : List Drive) (y : UnitText) : Type 0 where
  pub form : (has_hierarchy (lines_of y.blocks) || has_register (lines_of y.blocks)) ≡ false
  pub rows : (read y).rows ≡ map drive_said ds
  pub probes : ProbesThese P waited (read y)

-- what it says of registers: it has no `drv`, and its rows are these registers
pub record SaysRegisters (rs : List EdgeRowTree) (y : UnitText) : Type 0 where
  pub form : (has_hierarchy (lines_of y.blocks) || has_drive (lines_of y.blocks)) ≡ false
  pub rows : (read y).rows ≡ registers_said rs

abbrev pub CombSaysRows : Type 0
CombSaysRows = (test : Part → Bool) (u y : UnitText) (steps : Part → List PartStep) (waited : List Part) (ds : List Drive) → comb_emission u steps waited ds ≡ emits y → HasApartArgs u →
    Each (WaitIsGiven (source_of u steps)) waited → Each (DriveIsGiven (source_of u steps)) ds → Each (PartPasses test) waited → Each (DriveReads (PartPasses test)) ds →
    SaysDrives (PartPasses test) waited ds y

-- drives that read no part: nothing is probed
abbrev pub OnceSaysRows : Type 0
OnceSaysRows = (u y : UnitText) (steps : Part → List PartStep) (ds : List Drive) → once_emission u steps ds ≡ emits y → HasApartArgs u →
    Each (DriveIsGiven (source_of u steps)) ds → Each (DriveReads (λ p. ⊥)) ds → SaysDrives (λ p. ⊥) [] ds y

abbrev pub EdgeSaysRows : Type 0
EdgeSaysRows = (u y : UnitText) (steps : Part → List PartStep) (rs : List EdgeRowTree) → edge_emission u steps rs ≡ emits y → HasApartArgs u →
    Each (RowIsGiven (source_of u steps)) rs → SaysRegisters rs y
