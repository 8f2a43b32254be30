-- The rows that are compared. What can drive nothing is left out, of a process as of an entity.
use Rattle.std.specs.Prelude.{List, [], ◌∷◌, map, filter, Bool, not}
use Rattle.std.specs.List.{flat_map}
use Rattle.lh_unit.specs.declared.inst.Mode.{Mode}
use Rattle.lh_unit.specs.declared.inst.Mode.TheVariants.{Rise, Fall, Both}
use Rattle.lh_term.specs.Tree.{now_of}
use Rattle.lh_term.specs.Make.{is_bit}
use Rattle.lh_term.specs.declared.part.Part.{Part}
use Rattle.lh_edge.specs.Triggers.{TriggerTree, EdgeRowTree}
use Rattle.lh_region_def.specs.Rows.{Drive}
use Rattle.lh_shape.specs.Merging.{merged_drives}
use Rattle.lh_shape.specs.Reasons.{is_empty}
use Rattle.lh_emit_def.specs.Entities.{mode_of}
use Rattle.lh_cert_terms.specs.Rebuilding.{rebuilt}
use Rattle.lh_cert_rows.specs.Rows.{TriggerRow}

-- ---- drives

-- a drive of a process, its terms read again from their leaves
abbrev pub rebuilt_drive : Drive → Drive
rebuilt_drive d = record { cond = rebuilt d.cond; part = d.part; value = rebuilt d.value; delay = rebuilt d.delay }

-- its condition is not the constant 0
abbrev pub can_drive : Drive → Bool
can_drive d = not (is_bit 0 d.cond)

-- Drives of the constant condition 0 are left out. Then those of one part after one delay that follow each other are merged.
abbrev pub kept_drives : List Drive → List Drive
kept_drives ds = merged_drives (filter can_drive ds)

-- ---- registers

-- a trigger of a process's row, its terms read again from their leaves: all triggers of a row have one value and one delay
abbrev pub trigger_of : EdgeRowTree → TriggerTree → TriggerRow
trigger_of r g = record { mode = mode_of g.rise; operand = now_of g.part; gate = rebuilt g.gate; value = rebuilt r.value; delay = rebuilt r.delay }

-- the register that a process's row is
abbrev pub register_of : EdgeRowTree → Part × List TriggerRow
register_of r = (r.part, map (trigger_of r) r.triggers)

-- `both` is a rise and a fall
abbrev pub singles_by : Mode → TriggerRow → List TriggerRow
singles_by Both g = record g { mode = Rise } ∷ record g { mode = Fall } ∷ []
singles_by m g = g ∷ []

abbrev pub singles : TriggerRow → List TriggerRow
singles g = singles_by g.mode g

-- its gate is not the constant 0
abbrev pub can_fire : TriggerRow → Bool
can_fire g = not (is_bit 0 g.gate)

-- Triggers of the constant gate 0 are left out.
abbrev pub kept_triggers : List TriggerRow → List TriggerRow
kept_triggers gs = filter can_fire (flat_map singles gs)

abbrev pub kept_register : Part × List TriggerRow → Part × List TriggerRow
kept_register r = (r.0, kept_triggers r.1)

abbrev pub has_triggers : Part × List TriggerRow → Bool
has_triggers r = not (is_empty r.1)

-- Then registers without triggers are left out.
abbrev pub kept_registers : List (Part × List TriggerRow) → List (Part × List TriggerRow)
kept_registers rs = filter has_triggers (map kept_register rs)
