-- The entities of the three shapes.
use Rattle.std.specs.Prelude.{ℕ, List, [], ◌∷◌, length, map, fold, Bool, true, false, not, ◌&&◌, ◌||◌, nat_lt, if◌then◌else◌, Option, Some, None}
use Rattle.std.specs.Option.{is_none}
use Rattle.std.specs.List.{list_all}
use Rattle.lh_types.specs.Faults.{array_fault}
use Rattle.lh_unit.specs.declared.inst.UnitKind.TheVariants as kind
use Rattle.lh_unit.specs.declared.inst.Mode.{Mode}
use Rattle.lh_unit.specs.declared.inst.Mode.TheVariants.{Rise, Fall}
use Rattle.lh_unit.specs.Contents.{TriggerText, drv_text, reg_text, LineText, UnitText}
use Rattle.lh_term.specs.Tree.{Tree, TreeRow, constant, past_of, now_of, operation, choice_of, no_trees, more_trees}
use Rattle.lh_term.specs.Types.{type_of}
use Rattle.lh_term.specs.Make.{is_bit}
use Rattle.lh_term.specs.declared.part.Part.{Part}
use Rattle.lh_emit_def.specs.Given.{Drive, TriggerTree, EdgeRowTree}
use Rattle.lh_emit_def.specs.Emitted.{PartStep, Source, source_of, Emitted, nothing_emitted, term_name, signal, puts, need_part}
use Rattle.lh_emit_def.specs.Needs.{need}

-- ---- drives

-- need of a condition; the constant 1 is not needed
abbrev pub need_cond : Source → Tree → Emitted → Emitted
need_cond s c e = if is_bit 1 c then e else need s c e

-- the name of a condition after `if`, where it was needed
abbrev pub cond_name : Emitted → Tree → Option (List ℕ)
cond_name e c = if is_bit 1 c then None else Some (term_name e c)

-- what a drive needs: its value, its delay, its condition, its part
abbrev pub need_drive : Source → Drive → Emitted → Emitted
need_drive s d e = need_part s d.part (need_cond s d.cond (need s d.delay (need s d.value e)))

-- the `drv` of a drive
abbrev pub put_drive : Drive → Emitted → Emitted
put_drive d e = puts (drv_text (signal e d.part) (term_name e d.value) (term_name e d.delay) (cond_name e d.cond)) e

abbrev pub emit_drive : Source → Emitted → Drive → Emitted
emit_drive s e d = put_drive d (need_drive s d e)

abbrev pub emit_drives : Source → List Drive → Emitted → Emitted
emit_drives s ds e = fold (emit_drive s) e ds

-- ---- registers

-- what a trigger of a register needs: the value, the trigger's part now, the gate, the delay
abbrev pub need_trigger : Source → EdgeRowTree → Emitted → TriggerTree → Emitted
need_trigger s r e g = need s r.delay (need_cond s g.gate (need s (now_of g.part) (need s r.value e)))

abbrev pub mode_of : Bool → Mode
mode_of rise = if rise then Rise else Fall

abbrev pub trigger_text : EdgeRowTree → Emitted → TriggerTree → TriggerText
trigger_text r e g = record {
  value = term_name e r.value;
  mode = mode_of g.rise;
  trigger = term_name e (now_of g.part);
  gate = cond_name e g.gate;
  after = Some (term_name e r.delay);
}

-- what a register needs: each trigger in order, and then the part that it drives
abbrev pub need_register : Source → EdgeRowTree → Emitted → Emitted
need_register s r e = need_part s r.part (fold (need_trigger s r) e r.triggers)

-- the `reg` of a row
abbrev pub put_register : EdgeRowTree → Emitted → Emitted
put_register r e = puts (reg_text (signal e r.part) (map (trigger_text r e) r.triggers)) e

-- a row without triggers emits nothing
abbrev pub emit_register_by : Source → EdgeRowTree → List TriggerTree → Emitted → Emitted
emit_register_by s r [] e = e
emit_register_by s r (g ∷ more) e = put_register r (need_register s r e)

abbrev pub emit_register : Source → Emitted → EdgeRowTree → Emitted
emit_register s e r = emit_register_by s r r.triggers e

-- ---- entities

-- the present values of these parts
abbrev pub emit_probes : Source → List Part → Emitted → Emitted
emit_probes s ps e = fold (λ e p. need s (now_of p) e) e ps

-- Reacts to each change of what the process waits on: the waited parts, and then the drives.
abbrev pub comb : Source → (waited : List Part) → List Drive → Emitted
comb s waited ds = emit_drives s ds (emit_probes s waited (nothing_emitted s))

-- Reacts to edges: the registers.
abbrev pub edge : Source → List EdgeRowTree → Emitted
edge s rs = fold (emit_register s) (nothing_emitted s) rs

-- Runs once: the drives.
abbrev pub once : Source → List Drive → Emitted
once s ds = emit_drives s ds (nothing_emitted s)

-- the entity that has a unit's name and arguments, and these instructions
abbrev pub entity_with : UnitText → List LineText → UnitText
entity_with u lines = record { kind = kind.Entity; name = u.name; args = u.args; result = None; blocks = record { label = None; lines = lines } ∷ [] }

-- ---- limits

-- an entity has at most this many instructions
abbrev pub max_lines : ℕ
max_lines = 65536

abbrev mutual
  -- each choice in a term has an array of both its terms
  pub choices_fit : Tree → Bool
  choices_fit (constant v) = true
  choices_fit (past_of p) = true
  choices_fit (now_of p) = true
  choices_fit (operation op ts) = all_choices_fit ts
  choices_fit (choice_of c f t) = is_none (array_fault 2 (type_of f)) && (choices_fit f && (choices_fit t && choices_fit c))

  pub all_choices_fit : TreeRow → Bool
  all_choices_fit no_trees = true
  all_choices_fit (more_trees t ts) = choices_fit t && all_choices_fit ts

abbrev pub drive_fits : Drive → Bool
drive_fits d = choices_fit d.value && (choices_fit d.delay && choices_fit d.cond)

abbrev pub no_triggers : List TriggerTree → Bool
no_triggers [] = true
no_triggers (g ∷ more) = false

abbrev pub row_fits : EdgeRowTree → Bool
row_fits r = no_triggers r.triggers || (choices_fit r.value && (choices_fit r.delay && list_all (λ (g : TriggerTree). choices_fit g.gate) r.triggers))

-- The entity of a process, or none where it would have too many instructions or a choice of it an array that is no type.
pub data Emission : Type 0 where
  too_large : Emission
  emits : UnitText → Emission

abbrev pub within_limits : UnitText → (choices_fit : Bool) → List LineText → Emission
within_limits u fits lines = if fits && not (nat_lt max_lines (length lines)) then emits (entity_with u lines) else too_large

abbrev pub comb_emission : UnitText → (steps : Part → List PartStep) → (waited : List Part) → List Drive → Emission
comb_emission u steps waited ds = within_limits u (list_all drive_fits ds) (comb (source_of u steps) waited ds).lines

abbrev pub edge_emission : UnitText → (steps : Part → List PartStep) → List EdgeRowTree → Emission
edge_emission u steps rs = within_limits u (list_all row_fits rs) (edge (source_of u steps) rs).lines

abbrev pub once_emission : UnitText → (steps : Part → List PartStep) → List Drive → Emission
once_emission u steps ds = within_limits u (list_all drive_fits ds) (once (source_of u steps) ds).lines
