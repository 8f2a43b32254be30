-- The rows of an entity by ids, as those that it says.
use Rattle.std.specs.Prelude.{◌≡◌, List, [], ◌∷◌}
use Rattle.lh_term.specs.Arena.{StandsForTree}
use Rattle.lh_term.specs.declared.part.Part.{Part}
use Rattle.lh_term.specs.declared.term.TermNode.{TermNode}
use Rattle.lh_region.specs.Stands.{AreDrives}
use Rattle.lh_cert_rows.specs.Rows.{TriggerRow, drives_in, registers_in}
use Rattle.lh_cert_rows.specs.Reading.{EntityText}
use Rattle.lh_cert_read.specs.declared.rows.EntityRows.{EntityRows}
use Rattle.lh_cert_read.specs.declared.rows.RegisterRow.{RegisterRow}
use Rattle.lh_cert_read.specs.declared.rows.RegisterTrigger.{RegisterTrigger}

-- the trigger is that one
pub record IsTrigger (ns : List TermNode) (g : RegisterTrigger) (x : TriggerRow) : Type 0 where
  pub mode : g.mode ≡ x.mode
  pub operand : StandsForTree ns g.operand x.operand
  pub gate : StandsForTree ns g.gate x.gate
  pub value : StandsForTree ns g.value x.value
  pub delay : StandsForTree ns g.delay x.delay

-- the triggers are those, one by one
abbrev pub AreRegisterTriggers : List TermNode → List RegisterTrigger → List TriggerRow → Type 0
AreRegisterTriggers ns [] [] = Unit {0}
AreRegisterTriggers ns (g ∷ gs) (x ∷ xs) = IsTrigger ns g x × AreRegisterTriggers ns gs xs
AreRegisterTriggers ns _ _ = ⊥

-- the register is that one
pub record IsRegister (ns : List TermNode) (r : RegisterRow) (x : Part × List TriggerRow) : Type 0 where
  pub part : r.part ≡ x.0
  pub triggers : AreRegisterTriggers ns r.triggers x.1

-- the registers are those, one by one
abbrev pub AreRegisters : List TermNode → List RegisterRow → List (Part × List TriggerRow) → Type 0
AreRegisters ns [] [] = Unit {0}
AreRegisters ns (r ∷ rs) (x ∷ xs) = IsRegister ns r x × AreRegisters ns rs xs
AreRegisters ns _ _ = ⊥

-- The rows are those that an entity has said: the parts that it probes, its drives and its registers.
pub record Says (ns : List TermNode) (rows : EntityRows) (e : EntityText) : Type 0 where
  pub probes : rows.probes ≡ e.probes
  pub drives : AreDrives ns rows.drives (drives_in e.rows)
  pub registers : AreRegisters ns rows.registers (registers_in e.rows)
