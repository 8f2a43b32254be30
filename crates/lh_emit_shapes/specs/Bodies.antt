-- The bodies of entities by ids: what `comb_body`, `edge_body` and `once_body` answer.
use Rattle.std.specs.Prelude.{◌≡◌, List, [], false, Result, Ok, Err}
use Rattle.lh_unit.specs.Contents.{LineText, UnitText}
use Rattle.lh_unit.specs.Naming.{Naming}
use Rattle.lh_unit.specs.Reads.{args_repeat}
use Rattle.lh_unit.specs.Within.{Each}
use Rattle.lh_flat.specs.Flat.{flat_unit}
use Rattle.lh_flat.specs.Reads.{flat_text}
use Rattle.lh_term.specs.declared.part.Part.{Part}
use Rattle.lh_term.specs.declared.term.TermNode.{TermNode}
use Rattle.lh_edge.specs.Triggers.{EdgeRowTree}
use Rattle.lh_edge.specs.declared.triggers.EdgeRow.{EdgeRow}
use Rattle.lh_region_def.specs.Rows.{Drive}
use Rattle.lh_region.specs.Stands.{AreDrives}
use Rattle.lh_region.specs.declared.rows.DriveRow.{DriveRow}
use Rattle.lh_shape.specs.Answers.{AreEdgeRows}
use Rattle.lh_emit_def.specs.Emitted.{PartStep}
use Rattle.lh_emit_def.specs.Reached.{steps_in}
use Rattle.lh_emit_def.specs.Entities.{Emission, too_large, emits, entity_with, comb_emission, edge_emission, once_emission}
use Rattle.lh_emit_def.specs.Ways.{WaitIsGiven, DriveIsGiven, RowIsGiven}
use Rattle.lh_emit_source.specs.Origins.{source_by, IsOrigin}
pub use Rattle.lh_emit_body.specs.Bodies.{NamesDiffer, IsBody}
use Rattle.lh_emit_source.specs.declared.origin.Origin.{Origin}
use Rattle.lh_emit_body.specs.declared.body.Body.{Body}
use Rattle.lh_emit_body.specs.declared.lines.EmitFault.{EmitFault}
use Rattle.lh_emit_body.specs.declared.lines.EmitFault.TheVariants as fault

-- The body of the entity; or that this is too large, exactly.
abbrev pub BodyOrTooLarge : UnitText → Emission → Result Body EmitFault → Type 0
BodyOrTooLarge u x (Ok b) = (lines : List LineText) × (x ≡ emits (entity_with u lines)) × IsBody u.args b lines
BodyOrTooLarge u x (Err fault.EntityTooLarge) = x ≡ too_large
BodyOrTooLarge u x (Err fault.OutOfMemory) = Unit {0}

-- a process that has this flat text by some names, with the arguments of the text, no two of one name
pub record IsFlatOf (u : UnitText) (f : Naming) (o : Origin) : Type 0 where
  pub origin : IsOrigin f o
  pub arguments : u.args ≡ (flat_text f o.flat.now).args
  pub once : args_repeat [] u.args ≡ false

abbrev pub steps_of : UnitText → Naming → Origin → Part → List PartStep
steps_of u f o = steps_in (flat_unit u.name (flat_text f o.flat.now))

-- ---- drives

-- drives by ids are these, whose parts are reached and whose terms are typed
pub record DrivesGiven (ns : List TermNode) (u : UnitText) (f : Naming) (o : Origin) (drives : List DriveRow) (ds : List Drive) : Type 0 where
  pub are : AreDrives ns drives ds
  pub given : Each (DriveIsGiven (source_by u.name f o.flat.now)) ds

pub record DrivesCanBeEmitted (ns : List TermNode) (o : Origin) (waited : List Part) (drives : List DriveRow) : Type 0 where
  pub unit : UnitText
  pub naming : Naming
  pub flat : IsFlatOf unit naming o
  pub texts : List Drive
  pub drives_given : DrivesGiven ns unit naming o drives texts
  pub waits_given : Each (WaitIsGiven (source_by unit.name naming o.flat.now)) waited

-- The body is that of the combinational entity.
abbrev pub IsComb : List TermNode → Origin → List Part → List DriveRow → Result Body EmitFault → Type 0
IsComb ns o waited drives answer =
    (u : UnitText) (f : Naming) (ds : List Drive) → IsFlatOf u f o → DrivesGiven ns u f o drives ds → Each (WaitIsGiven (source_by u.name f o.flat.now)) waited
    → BodyOrTooLarge u (comb_emission u (steps_of u f o) waited ds) answer

-- The body is that of the entity that runs once.
abbrev pub IsOnceBody : List TermNode → Origin → List DriveRow → Result Body EmitFault → Type 0
IsOnceBody ns o drives answer = (u : UnitText) (f : Naming) (ds : List Drive) → IsFlatOf u f o → DrivesGiven ns u f o drives ds → BodyOrTooLarge u (once_emission u (steps_of u f o) ds) answer

-- ---- registers

-- rows of registers by ids are these, whose parts are reached and whose terms are typed
pub record RowsGiven (ns : List TermNode) (u : UnitText) (f : Naming) (o : Origin) (rows : List EdgeRow) (rs : List EdgeRowTree) : Type 0 where
  pub are : AreEdgeRows ns rows rs
  pub given : Each (RowIsGiven (source_by u.name f o.flat.now)) rs

pub record CanRegister (ns : List TermNode) (o : Origin) (rows : List EdgeRow) : Type 0 where
  pub unit : UnitText
  pub naming : Naming
  pub flat : IsFlatOf unit naming o
  pub texts : List EdgeRowTree
  pub rows_given : RowsGiven ns unit naming o rows texts

-- The body is that of the entity of registers.
abbrev pub IsRegisterBody : List TermNode → Origin → List EdgeRow → Result Body EmitFault → Type 0
IsRegisterBody ns o rows answer = (u : UnitText) (f : Naming) (rs : List EdgeRowTree) → IsFlatOf u f o → RowsGiven ns u f o rows rs → BodyOrTooLarge u (edge_emission u (steps_of u f o) rs) answer
