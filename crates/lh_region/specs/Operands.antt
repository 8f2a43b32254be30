-- The operand of a `phi` for the edge from a block, by ids.
use Rattle.std.specs.Prelude.{◌≡◌, ℕ, ◌<◌, List, [], ◌∷◌, map, nat_eq, if◌then◌else◌, Option, Some, None}
use Rattle.std.specs.Option.{option_map}
use Rattle.lh_unit.specs.Activation.{edge_from}
use Rattle.lh_unit.specs.Naming.{Naming, value_text, edge_text}
use Rattle.lh_unit.specs.Within.{Each}
use Rattle.lh_unit.specs.declared.inst.ValueId.{ValueId}
use Rattle.lh_unit.specs.declared.inst.PhiEdge.{PhiEdge}
use Rattle.lh_region.specs.Heads.{LabelsDiffer}

-- the value that the first edge from this block names
abbrev pub operand_in : (block : ℕ) → List PhiEdge → Option ValueId
operand_in b [] = None
operand_in b (e ∷ more) = if nat_eq b e.block.0 then Some e.value else operand_in b more

-- the edges are from the first n blocks
abbrev pub AreFrom : (n : ℕ) → List PhiEdge → Type 0
AreFrom n es = Each (λ (e : PhiEdge). e.block.0 < n) es

-- The operand by ids is the operand of the text.
abbrev pub OperandsAgree : Type 0
OperandsAgree = (f : Naming) (n block : ℕ) (es : List PhiEdge) → LabelsDiffer f n → block < n → AreFrom n es →
    edge_from (f.label_name block) (map (edge_text f) es) ≡ option_map (value_text f) (operand_in block es)
