-- The operand of a `phi` by ids is that of the text.
use Rattle.std.proofs.Common.{◌≡◌, ℕ, List, [], ◌∷◌, map, Bool, true, false, nat_eq, if◌then◌else◌, Option, Some, refl}
use Rattle.std.specs.Option.{option_map}
use Rattle.lh_unit_names.specs.Names.{same_name}
use Rattle.lh_unit.specs.Activation.{edge_from}
use Rattle.lh_unit.specs.Naming.{Naming, value_text, edge_text}
use Rattle.lh_unit.specs.declared.inst.ValueId.{ValueId}
use Rattle.lh_region.specs.Operands.{operand_in, OperandsAgree}
use Rattle.lh_region.proofs.HeadBlock.{label-same}

first-or : (f : Naming) (a b : Bool) (v : ValueId) (x : Option (List ℕ)) (o : Option ValueId) → a ≡ b → x ≡ option_map (value_text f) o
    → (if a then Some (value_text f v) else x) ≡ option_map (value_text f) (if b then Some v else o)
first-or f true true v x o e h = refl
first-or f false false v x o e h = h
first-or f true false v x o e h = absurd cc
first-or f false true v x o e h = absurd cc

pub operands-agree : OperandsAgree
operands-agree f n b [] d l h = refl
operands-agree f n b (e ∷ es) d l h =
    first-or f (same_name (f.label_name e.block.0) (f.label_name b)) (nat_eq b e.block.0) e.value (edge_from (f.label_name b) (map (edge_text f) es)) (operand_in b es)
    (label-same f n e.block.0 b d h.0 l) (operands-agree f n b es d l h.1)
