-- What an entity says: its lines in order give what is known under each name, the parts that are probed, and the rows.
use Rattle.std.specs.Prelude.{ℕ, List, [], ◌∷◌, ◌++◌, true, Option, Some, None}
use Rattle.std.specs.Option.{option_map}
use Rattle.lh_types.specs.Values.{time_value}
use Rattle.lh_types.specs.declared.op.Op.{Op}
use Rattle.lh_unit.specs.declared.inst.Mode.{Mode}
use Rattle.lh_unit.specs.Contents.{OperandText, TriggerText, InstText, const_text, pure_text, prb_text, drv_text, reg_text, LineText, UnitText}
use Rattle.lh_unit.specs.Hierarchy.{lines_of}
use Rattle.lh_unit.specs.Held.{front}
use Rattle.lh_unit.specs.Typing.{or_else}
use Rattle.lh_term.specs.Tree.{Tree, constant, now_of}
use Rattle.lh_term.specs.Make.{bit_of}
use Rattle.lh_term.specs.declared.part.Part.{Part}
use Rattle.lh_region_def.specs.Known.{Known, known_value, Knowledge, nothing_known, with_given, with_arguments, value_known, part_known, values_known}
use Rattle.lh_region_def.specs.Places.{part_stepped}
use Rattle.lh_cert_terms.specs.Rebuilding.{read_operation}
use Rattle.lh_cert_rows.specs.Rows.{TriggerRow, EntityRow, driven_by, registered}

-- what is known after some lines, the parts that they probe, and their rows
pub record EntityText : Type 0 where
  pub known : Knowledge
  pub probes : List Part
  pub rows : List EntityRow

-- something is known of the result
abbrev pub gives : EntityText → Option (List ℕ) → Option Known → EntityText
gives e result x = record e { known = with_given e.known result x }

-- what an operation gives: of values a term, of a signal its part
abbrev pub operated : Knowledge → Op → List OperandText → Option Known
operated k o args = or_else (option_map (λ ts. known_value (read_operation o ts)) (values_known k args)) (part_stepped k o args)

-- a part is probed
abbrev pub probed : EntityText → Option (List ℕ) → Option Part → EntityText
probed e result None = e
probed e result (Some p) = gives (record e { probes = e.probes ++ p ∷ [] }) result (Some (known_value (now_of p)))

-- one more row, if there is one
abbrev pub with_row : EntityText → Option EntityRow → EntityText
with_row e None = e
with_row e (Some r) = record e { rows = e.rows ++ r ∷ [] }

-- the term of a condition: 1 where it is absent
abbrev pub condition_known : Knowledge → Option (List ℕ) → Option Tree
condition_known k None = Some (bit_of true)
condition_known k (Some n) = value_known k n

-- the term of a delay: none where it is absent
abbrev pub delay_known : Knowledge → Option (List ℕ) → Option Tree
delay_known k None = Some (constant (time_value (record { fs = 0; delta = 0; eps = 0 })))
delay_known k (Some n) = value_known k n

abbrev pub drive_row : (cond : Option Tree) → Option Part → (value delay : Option Tree) → Option EntityRow
drive_row (Some c) (Some p) (Some v) (Some d) = Some (driven_by (record { cond = c; part = p; value = v; delay = d }))
drive_row _ _ _ _ = None

abbrev pub trigger_row : Mode → (operand gate value delay : Option Tree) → Option TriggerRow
trigger_row m (Some x) (Some g) (Some v) (Some d) = Some (record { mode = m; operand = x; gate = g; value = v; delay = d })
trigger_row m _ _ _ _ = None

abbrev pub trigger_known : Knowledge → TriggerText → Option TriggerRow
trigger_known k g = trigger_row g.mode (value_known k g.trigger) (condition_known k g.gate) (value_known k g.value) (delay_known k g.after)

abbrev pub triggers_known : Knowledge → List TriggerText → Option (List TriggerRow)
triggers_known k [] = Some []
triggers_known k (g ∷ more) = front (trigger_known k g) (triggers_known k more)

abbrev pub register_row : Option Part → Option (List TriggerRow) → Option EntityRow
register_row (Some p) (Some gs) = Some (registered p gs)
register_row _ _ = None

-- what one line says
abbrev pub reads_line : EntityText → InstText → Option (List ℕ) → EntityText
reads_line e (const_text d) result = gives e result (Some (known_value (constant d)))
reads_line e (pure_text o args) result = gives e result (operated e.known o args)
reads_line e (prb_text s) result = probed e result (part_known e.known s.value)
reads_line e (drv_text to value after cond) result =
    with_row e (drive_row (condition_known e.known cond) (part_known e.known to.value) (value_known e.known value) (value_known e.known after))
reads_line e (reg_text to triggers) result = with_row e (register_row (part_known e.known to.value) (triggers_known e.known triggers))
reads_line e _ result = e

-- lines one after the other
abbrev pub reads_lines : EntityText → List LineText → EntityText
reads_lines e [] = e
reads_lines e (l ∷ more) = reads_lines (reads_line e l.inst l.result) more

-- What an entity says.
unfoldable pub read : UnitText → EntityText
read u = reads_lines (record { known = with_arguments nothing_known 0 u.args; probes = []; rows = [] }) (lines_of u.blocks)
