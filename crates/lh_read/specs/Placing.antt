-- Ids in place of names.
use Rattle.std.specs.Prelude.{◌≡◌, ℕ, ◌<◌, List, map, flat_map, Option}
use Rattle.lh_unit.specs.Contents.{OperandText, TriggerText, EdgeText, InstText}
use Rattle.lh_unit.specs.Arena.{Arena, Grows, naming, sizes}
use Rattle.lh_unit.specs.Naming.{Naming, value_text, maybe_text, operand_text, trigger_text, edge_text, inst_text}
use Rattle.lh_unit.specs.Within.{Sizes, Each, ValueWithin, MaybeWithin, OperandWithin, TriggerWithin, EdgeWithin, InstWithin}
use Rattle.lh_unit.specs.declared.inst.UnitId.{UnitId}
use Rattle.lh_unit.specs.declared.inst.BlockId.{BlockId}
use Rattle.lh_unit.specs.declared.inst.ValueId.{ValueId}
use Rattle.lh_unit.specs.declared.inst.Typed.{Typed}
use Rattle.lh_unit.specs.declared.inst.RegTrigger.{RegTrigger}
use Rattle.lh_unit.specs.declared.inst.PhiEdge.{PhiEdge}
use Rattle.lh_unit.specs.declared.inst.Inst.{Inst}
use Rattle.lh_read.specs.Mentions.{Mention, one_value, one_label, maybe_value, operand_mentions, trigger_mentions, edge_mentions, inst_mentions, EntersOnly}

-- The ids in x are entries of the unit u or of the module, and say what was said; the module has nothing new but entries, each of a name in what was said.
pub record Placed {X T : Type 0} (Within : Sizes → X → Type 0) (text : Naming → X → T) (names : T → List Mention) (old new : Arena) (u : UnitId) (x : X) (said : T) : Type 0 where
  pub grows : Grows old new
  pub within : Within (sizes new u.0) x
  pub says : text (naming new u.0) x ≡ said
  pub only : EntersOnly (names said) old new u.0

abbrev pub LabelWithin : Sizes → BlockId → Type 0
LabelWithin s b = b.0 < s.labels

abbrev pub label_said : Naming → BlockId → List ℕ
label_said f b = f.label_name b.0

-- a label, a value, and a value that may be absent
abbrev pub LabelPlaced : Arena → Arena → UnitId → BlockId → List ℕ → Type 0
LabelPlaced = Placed LabelWithin label_said one_label

abbrev pub ValuePlaced : Arena → Arena → UnitId → ValueId → List ℕ → Type 0
ValuePlaced = Placed ValueWithin value_text one_value

abbrev pub MaybePlaced : Arena → Arena → UnitId → Option ValueId → Option (List ℕ) → Type 0
MaybePlaced = Placed MaybeWithin maybe_text maybe_value

-- the parts of an instruction
abbrev pub OperandPlaced : Arena → Arena → UnitId → Typed → OperandText → Type 0
OperandPlaced = Placed OperandWithin operand_text operand_mentions

abbrev pub TriggerPlaced : Arena → Arena → UnitId → RegTrigger → TriggerText → Type 0
TriggerPlaced = Placed TriggerWithin trigger_text trigger_mentions

abbrev pub EdgePlaced : Arena → Arena → UnitId → PhiEdge → EdgeText → Type 0
EdgePlaced = Placed EdgeWithin edge_text edge_mentions

-- each part of a list
abbrev pub AllPlaced : {X T : Type 0} → (Sizes → X → Type 0) → (Naming → X → T) → (T → List Mention) → Arena → Arena → UnitId → List X → List T → Type 0
AllPlaced Within text names = Placed (λ s. Each (Within s)) (λ f. map (text f)) (λ said. flat_map names said)

abbrev pub OperandsPlaced : Arena → Arena → UnitId → List Typed → List OperandText → Type 0
OperandsPlaced = AllPlaced OperandWithin operand_text operand_mentions

abbrev pub TriggersPlaced : Arena → Arena → UnitId → List RegTrigger → List TriggerText → Type 0
TriggersPlaced = AllPlaced TriggerWithin trigger_text trigger_mentions

abbrev pub EdgesPlaced : Arena → Arena → UnitId → List PhiEdge → List EdgeText → Type 0
EdgesPlaced = AllPlaced EdgeWithin edge_text edge_mentions

abbrev pub SignalsPlaced : Arena → Arena → UnitId → List ValueId → List (List ℕ) → Type 0
SignalsPlaced = AllPlaced ValueWithin value_text one_value

-- an instruction
abbrev pub InstPlacedAs : Arena → Arena → UnitId → Inst → InstText → Type 0
InstPlacedAs = Placed InstWithin inst_text inst_mentions
