-- What the parts of bodies put: conditions, drives, triggers and registers, each beside the definition.
use Rattle.std.specs.Prelude.{◌≡◌, ◌⊎◌, ℕ, ◌<◌, List, [], ◌∷◌, length, fold, true, false, Option, Some, None, Result, Ok, Err}
use Rattle.std.specs.List.{list_all}
use Rattle.lh_unit_names.specs.declared.name.UnitName.{UnitName}
use Rattle.lh_unit.specs.declared.inst.ValueId.{ValueId}
use Rattle.lh_unit.specs.declared.inst.RegTrigger.{RegTrigger}
use Rattle.lh_unit.specs.declared.inst.Inst.{Inst}
use Rattle.lh_unit.specs.Naming.{Naming, value_text, maybe_text, inst_text}
use Rattle.lh_unit.specs.Within.{Each, MaybeWithin}
use Rattle.lh_term.specs.Tree.{Tree, now_of}
use Rattle.lh_term.specs.Make.{is_bit}
use Rattle.lh_term.specs.Arena.{trees, tree_at}
use Rattle.lh_term.specs.declared.part.Part.{Part}
use Rattle.lh_term.specs.declared.term.TermId.{TermId}
use Rattle.lh_term.specs.declared.term.TermNode.{TermNode}
use Rattle.lh_edge.specs.Triggers.{TriggerTree, EdgeRowTree}
use Rattle.lh_edge.specs.Answers.{IsTrigger}
use Rattle.lh_edge.specs.declared.triggers.Trigger.{Trigger}
use Rattle.lh_edge.specs.declared.triggers.EdgeRow.{EdgeRow}
use Rattle.lh_region_def.specs.Rows.{Drive}
use Rattle.lh_region.specs.Stands.{IsDrive, AreDrives}
use Rattle.lh_region.specs.declared.rows.DriveRow.{DriveRow}
use Rattle.lh_shape.specs.Answers.{IsEdgeRow, AreEdgeRows}
use Rattle.lh_emit_def.specs.Emitted.{Source, Emitted, puts, term_name}
use Rattle.lh_emit_def.specs.Entities.{max_lines, need_cond, cond_name, emit_drive, emit_drives, emit_probes, need_trigger, mode_of, emit_register, choices_fit, drive_fits, row_fits}
use Rattle.lh_emit_def.specs.Ways.{TermIsGiven, DriveIsGiven, WaitIsGiven, RowIsGiven, TriggerIsGiven}
use Rattle.lh_emit_body.specs.Lines.{most_lines, naming, values_alone}
use Rattle.lh_emit_source.specs.Origins.{source_by, IsOrigin}
use Rattle.lh_emit.specs.Emitting.{IsEmitted}
pub use Rattle.lh_emit.specs.Emitting.{PutsInst}
use Rattle.lh_emit_source.specs.declared.origin.Origin.{Origin}
use Rattle.lh_emit.specs.declared.emitter.Emitter.{Emitter}
use Rattle.lh_emit_body.specs.declared.lines.EmitFault.{EmitFault}
use Rattle.lh_emit_body.specs.declared.lines.EmitFault.TheVariants as fault

-- ---- conditions

-- the entity after need of a condition, whose value is this; none where it is the constant 1
pub record IsTested (ms : List TermNode) (s : Source) (c : Tree) (e : Emitted) (y : Emitter) (v : Option ValueId) : Type 0 where
  pub is : IsEmitted ms s y (need_cond s c e)
  pub name : maybe_text (naming y.lines.names) v ≡ cond_name (need_cond s c e) c
  pub within : MaybeWithin (values_alone (length y.lines.names)) v
  pub fits : choices_fit c ≡ true

abbrev pub TestsTerm : List TermNode → Origin → Emitter → TermId → List TermNode → Emitter → Option ValueId → Type 0
TestsTerm ns o x t ms y v =
    (name : UnitName) (f : Naming) (e : Emitted) → IsOrigin f o → IsEmitted ns (source_by name f o.flat.now) x e → TermIsGiven (source_by name f o.flat.now) (tree_at (trees ns) t) →
    IsTested ms (source_by name f o.flat.now) (tree_at (trees ns) t) e y v

abbrev pub TestsTermNot : List TermNode → Origin → Emitter → TermId → EmitFault → Type 0
TestsTermNot ns o x t fault.OutOfMemory = Unit {0}
TestsTermNot ns o x t fault.EntityTooLarge =
    (name : UnitName) (f : Naming) (e : Emitted) → IsOrigin f o → IsEmitted ns (source_by name f o.flat.now) x e → TermIsGiven (source_by name f o.flat.now) (tree_at (trees ns) t) →
    (choices_fit (tree_at (trees ns) t) ≡ false) ⊎ (max_lines < length (need_cond (source_by name f o.flat.now) (tree_at (trees ns) t) e).lines)

-- ---- drives

-- some entity under construction, to which a drive is put
pub record CanPutDrive (ns : List TermNode) (o : Origin) (x : Emitter) (row : DriveRow) : Type 0 where
  pub name : UnitName
  pub naming : Naming
  pub emitted : Emitted
  pub drive : Drive
  pub origin : IsOrigin naming o
  pub is : IsEmitted ns (source_by name naming o.flat.now) x emitted
  pub are : IsDrive ns row drive
  pub given : DriveIsGiven (source_by name naming o.flat.now) drive

-- the entity with the drive
pub record DriveIsEmitted (ms : List TermNode) (s : Source) (d : Drive) (e : Emitted) (y : Emitter) : Type 0 where
  pub is : IsEmitted ms s y (emit_drive s e d)
  pub fits : drive_fits d ≡ true

abbrev pub PutsDrive : List TermNode → Origin → Emitter → DriveRow → List TermNode → Emitter → Type 0
PutsDrive ns o x row ms y = (c : CanPutDrive ns o x row) → DriveIsEmitted ms (source_by c.name c.naming o.flat.now) c.drive c.emitted y

-- a choice of the drive has an array that is no type, or the entity would be too long
abbrev pub DriveTooLarge : Source → Drive → Emitted → Type 0
DriveTooLarge s d e = (drive_fits d ≡ false) ⊎ (max_lines < length (emit_drive s e d).lines)

abbrev pub PutsDriveNot : List TermNode → Origin → Emitter → DriveRow → EmitFault → Type 0
PutsDriveNot ns o x row fault.OutOfMemory = Unit {0}
PutsDriveNot ns o x row fault.EntityTooLarge = (c : CanPutDrive ns o x row) → DriveTooLarge (source_by c.name c.naming o.flat.now) c.drive c.emitted

-- so for drives one after the other
pub record CanPutDrives (ns : List TermNode) (o : Origin) (x : Emitter) (rows : List DriveRow) : Type 0 where
  pub name : UnitName
  pub naming : Naming
  pub emitted : Emitted
  pub drives : List Drive
  pub origin : IsOrigin naming o
  pub is : IsEmitted ns (source_by name naming o.flat.now) x emitted
  pub are : AreDrives ns rows drives
  pub given : Each (DriveIsGiven (source_by name naming o.flat.now)) drives

pub record AreDriven (ms : List TermNode) (s : Source) (ds : List Drive) (e : Emitted) (y : Emitter) : Type 0 where
  pub is : IsEmitted ms s y (emit_drives s ds e)
  pub fits : list_all drive_fits ds ≡ true

abbrev pub PutsDrives : List TermNode → Origin → Emitter → List DriveRow → List TermNode → Emitter → Type 0
PutsDrives ns o x rows ms y = (c : CanPutDrives ns o x rows) → AreDriven ms (source_by c.name c.naming o.flat.now) c.drives c.emitted y

abbrev pub PutsDrivesNot : List TermNode → Origin → Emitter → List DriveRow → EmitFault → Type 0
PutsDrivesNot ns o x rows fault.OutOfMemory = Unit {0}
PutsDrivesNot ns o x rows fault.EntityTooLarge =
    (c : CanPutDrives ns o x rows) → (list_all drive_fits c.drives ≡ false) ⊎ (max_lines < length (emit_drives (source_by c.name c.naming o.flat.now) c.drives c.emitted).lines)

-- ---- the present values of parts

pub record CanPutProbes (ns : List TermNode) (o : Origin) (x : Emitter) (ps : List Part) : Type 0 where
  pub name : UnitName
  pub naming : Naming
  pub emitted : Emitted
  pub origin : IsOrigin naming o
  pub is : IsEmitted ns (source_by name naming o.flat.now) x emitted
  pub given : Each (WaitIsGiven (source_by name naming o.flat.now)) ps

abbrev pub PutsProbes : List TermNode → Origin → Emitter → List Part → List TermNode → Emitter → Type 0
PutsProbes ns o x ps ms y =
    (c : CanPutProbes ns o x ps) → IsEmitted ms (source_by c.name c.naming o.flat.now) y (emit_probes (source_by c.name c.naming o.flat.now) ps c.emitted)

abbrev pub PutsProbesNot : List TermNode → Origin → Emitter → List Part → EmitFault → Type 0
PutsProbesNot ns o x ps fault.OutOfMemory = Unit {0}
PutsProbesNot ns o x ps fault.EntityTooLarge =
    (c : CanPutProbes ns o x ps) → max_lines < length (emit_probes (source_by c.name c.naming o.flat.now) ps c.emitted).lines

-- ---- triggers of registers

-- some entity under construction, for which a trigger of a row of registers is needed
pub record CanTrigger (ns : List TermNode) (o : Origin) (x : Emitter) (row : EdgeRow) (g : Trigger) : Type 0 where
  pub name : UnitName
  pub naming : Naming
  pub emitted : Emitted
  pub register : EdgeRowTree
  pub trigger : TriggerTree
  pub origin : IsOrigin naming o
  pub is : IsEmitted ns (source_by name naming o.flat.now) x emitted
  pub are : IsEdgeRow ns row register
  pub given : RowIsGiven (source_by name naming o.flat.now) register
  pub trigger_is : IsTrigger ns g trigger
  pub trigger_given : TriggerIsGiven (source_by name naming o.flat.now) trigger

-- what a row of registers needs besides its triggers
abbrev pub RegisterFits : EdgeRowTree → TriggerTree → Type 0
RegisterFits r g = (choices_fit r.value ≡ true) × (choices_fit r.delay ≡ true) × (choices_fit g.gate ≡ true)

-- some of it does not fit
abbrev pub RegisterFitsNot : EdgeRowTree → TriggerTree → Type 0
RegisterFitsNot r g = (choices_fit r.value ≡ false) ⊎ ((choices_fit r.delay ≡ false) ⊎ (choices_fit g.gate ≡ false))

-- the id is that of a term that has a name
pub record IsIdOfTerm (names : List (List ℕ)) (e : Emitted) (t : Tree) (v : ValueId) : Type 0 where
  pub name : value_text (naming names) v ≡ term_name e t
  pub within : v.0 < length names
  pub named : (n : List ℕ) × (e.terms t ≡ Some n)

-- so for a condition, which has none where it is the constant 1
abbrev pub TellsCond : List (List ℕ) → Emitted → Tree → Option ValueId → Type 0
TellsCond names e c None = is_bit 1 c ≡ true
TellsCond names e c (Some v) = (is_bit 1 c ≡ false) × IsIdOfTerm names e c v

abbrev pub TellsSome : List (List ℕ) → Emitted → Tree → Option ValueId → Type 0
TellsSome names e t None = ⊥
TellsSome names e t (Some v) = IsIdOfTerm names e t v

-- the trigger of a register is that one, by ids of values
pub record TellsTrigger (names : List (List ℕ)) (e : Emitted) (r : EdgeRowTree) (g : TriggerTree) (t : RegTrigger) : Type 0 where
  pub value : IsIdOfTerm names e r.value t.value
  pub mode : t.mode ≡ mode_of g.rise
  pub now : IsIdOfTerm names e (now_of g.part) t.trigger
  pub gate : TellsCond names e g.gate t.gate
  pub after : TellsSome names e r.delay t.after

abbrev pub TellsTriggers : List (List ℕ) → Emitted → EdgeRowTree → List TriggerTree → List RegTrigger → Type 0
TellsTriggers names e r [] [] = Unit {0}
TellsTriggers names e r (g ∷ gs) (t ∷ ts) = TellsTrigger names e r g t × TellsTriggers names e r gs ts
TellsTriggers names e r _ _ = ⊥

-- the entity after need of a trigger, which is this by ids
pub record IsTriggered (ms : List TermNode) (s : Source) (r : EdgeRowTree) (g : TriggerTree) (e : Emitted) (y : Emitter) (t : RegTrigger) : Type 0 where
  pub is : IsEmitted ms s y (need_trigger s r e g)
  pub tells : TellsTrigger y.lines.names (need_trigger s r e g) r g t
  pub fits : RegisterFits r g

abbrev pub NeedsTrigger : List TermNode → Origin → Emitter → EdgeRow → Trigger → List TermNode → Emitter → RegTrigger → Type 0
NeedsTrigger ns o x row g ms y t = (c : CanTrigger ns o x row g) → IsTriggered ms (source_by c.name c.naming o.flat.now) c.register c.trigger c.emitted y t

abbrev pub NeedsTriggerNot : List TermNode → Origin → Emitter → EdgeRow → Trigger → EmitFault → Type 0
NeedsTriggerNot ns o x row g fault.OutOfMemory = Unit {0}
NeedsTriggerNot ns o x row g fault.EntityTooLarge =
    (c : CanTrigger ns o x row g) → RegisterFitsNot c.register c.trigger ⊎ (max_lines < length (need_trigger (source_by c.name c.naming o.flat.now) c.register c.emitted c.trigger).lines)

-- ---- rows of registers

pub record CanPutRegister (ns : List TermNode) (o : Origin) (x : Emitter) (row : EdgeRow) : Type 0 where
  pub name : UnitName
  pub naming : Naming
  pub emitted : Emitted
  pub register : EdgeRowTree
  pub origin : IsOrigin naming o
  pub is : IsEmitted ns (source_by name naming o.flat.now) x emitted
  pub are : IsEdgeRow ns row register
  pub given : RowIsGiven (source_by name naming o.flat.now) register

-- the entity after need of the triggers of a row, which are these by ids
pub record AreTriggered (ms : List TermNode) (s : Source) (r : EdgeRowTree) (e : Emitted) (y : Emitter) (ts : List RegTrigger) : Type 0 where
  pub is : IsEmitted ms s y (fold (need_trigger s r) e r.triggers)
  pub tells : TellsTriggers y.lines.names (fold (need_trigger s r) e r.triggers) r r.triggers ts
  pub fits : Each (RegisterFits r) r.triggers

abbrev pub NeedsTriggers : List TermNode → Origin → Emitter → EdgeRow → List TermNode → Emitter → List RegTrigger → Type 0
NeedsTriggers ns o x row ms y ts = (c : CanPutRegister ns o x row) → AreTriggered ms (source_by c.name c.naming o.flat.now) c.register c.emitted y ts

-- a choice does not fit, or the entity would be too long
abbrev pub NeedsTriggersNot : List TermNode → Origin → Emitter → EdgeRow → EmitFault → Type 0
NeedsTriggersNot ns o x row fault.OutOfMemory = Unit {0}
NeedsTriggersNot ns o x row fault.EntityTooLarge =
    (c : CanPutRegister ns o x row) → (row_fits c.register ≡ false) ⊎ (max_lines < length (fold (need_trigger (source_by c.name c.naming o.flat.now) c.register) c.emitted c.register.triggers).lines)

-- the entity with the register of a row
pub record IsRegistered (ms : List TermNode) (s : Source) (r : EdgeRowTree) (e : Emitted) (y : Emitter) : Type 0 where
  pub is : IsEmitted ms s y (emit_register s e r)
  pub fits : row_fits r ≡ true

abbrev pub PutsRegister : List TermNode → Origin → Emitter → EdgeRow → List TermNode → Emitter → Type 0
PutsRegister ns o x row ms y = (c : CanPutRegister ns o x row) → IsRegistered ms (source_by c.name c.naming o.flat.now) c.register c.emitted y

abbrev pub PutsRegisterNot : List TermNode → Origin → Emitter → EdgeRow → EmitFault → Type 0
PutsRegisterNot ns o x row fault.OutOfMemory = Unit {0}
PutsRegisterNot ns o x row fault.EntityTooLarge =
    (c : CanPutRegister ns o x row) → (row_fits c.register ≡ false) ⊎ (max_lines < length (emit_register (source_by c.name c.naming o.flat.now) c.emitted c.register).lines)

-- so for rows one after the other
pub record CanPutRegisters (ns : List TermNode) (o : Origin) (x : Emitter) (rows : List EdgeRow) : Type 0 where
  pub name : UnitName
  pub naming : Naming
  pub emitted : Emitted
  pub registers : List EdgeRowTree
  pub origin : IsOrigin naming o
  pub is : IsEmitted ns (source_by name naming o.flat.now) x emitted
  pub are : AreEdgeRows ns rows registers
  pub given : Each (RowIsGiven (source_by name naming o.flat.now)) registers

pub record AreRegistered (ms : List TermNode) (s : Source) (rs : List EdgeRowTree) (e : Emitted) (y : Emitter) : Type 0 where
  pub is : IsEmitted ms s y (fold (emit_register s) e rs)
  pub fits : list_all row_fits rs ≡ true

abbrev pub PutsRegisters : List TermNode → Origin → Emitter → List EdgeRow → List TermNode → Emitter → Type 0
PutsRegisters ns o x rows ms y = (c : CanPutRegisters ns o x rows) → AreRegistered ms (source_by c.name c.naming o.flat.now) c.registers c.emitted y

abbrev pub PutsRegistersNot : List TermNode → Origin → Emitter → List EdgeRow → EmitFault → Type 0
PutsRegistersNot ns o x rows fault.OutOfMemory = Unit {0}
PutsRegistersNot ns o x rows fault.EntityTooLarge =
    (c : CanPutRegisters ns o x rows) → (list_all row_fits c.registers ≡ false) ⊎ (max_lines < length (fold (emit_register (source_by c.name c.naming o.flat.now)) c.emitted c.registers).lines)
