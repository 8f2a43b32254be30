-- Operations on terms whose values are there, by ids.
use Rattle.std.specs.Prelude.{◌≡◌, ℕ, ◌<◌, List, [], ◌∷◌, map, true, if◌then◌else◌, Some, None}
use Rattle.std.specs.Option.{is_some}
use Rattle.lh_types.specs.Types.{TypeTree}
use Rattle.lh_types.specs.declared.op.Op.{Op}
use Rattle.lh_term.specs.Arena.{trees, tree_at, trees_at}
use Rattle.lh_term.specs.Types.{type_of, first_of}
use Rattle.lh_term.specs.declared.term.TermId.{TermId}
use Rattle.lh_term.specs.declared.term.TermNode.{TermNode}
use Rattle.lh_unit.specs.Within.{Each}
use Rattle.lh_unit.specs.declared.inst.Typed.{Typed}
use Rattle.lh_unit.specs.declared.inst.ValueId.{ValueId}
use Rattle.lh_emit_def.specs.Needs.{writes_each, writes_result, types_of_all}
use Rattle.lh_emit.specs.Operands.{with_type, first_with_type}
use Rattle.lh_emit.specs.Values.{value_in}
use Rattle.lh_emit.specs.declared.values.Values.{Values}

-- each term has a value
abbrev pub HaveValues : Values → List TermId → Type 0
HaveValues vs xs = Each (λ x. is_some (value_in vs x) ≡ true) xs

-- these are the values of the terms
abbrev pub AreValues : Values → List TermId → List ValueId → Type 0
AreValues vs xs given = map Some given ≡ map (value_in vs) xs

-- each value with the type of its term before it
abbrev pub each_with_type : List TermNode → List TermId → List ValueId → List Typed
each_with_type ns [] vs = []
each_with_type ns (x ∷ xs) [] = []
each_with_type ns (x ∷ xs) (v ∷ vs) = with_type (type_of (tree_at (trees ns) x)) v ∷ each_with_type ns xs vs

-- the operands of an operation that gives a value of type d, on these terms, which have these values
abbrev pub operands_of : List TermNode → Op → List TermId → TypeTree → List ValueId → List Typed
operands_of ns op xs d vs =
    if writes_each op then each_with_type ns xs vs else first_with_type (if writes_result op then d else first_of (types_of_all (trees_at ns xs))) vs

-- these are the operands of an operation that gives a value of type d, on the values that these terms have
pub record IsOperandsOn (vs : Values) (ns : List TermNode) (op : Op) (xs : List TermId) (d : TypeTree) (args : List Typed) : Type 0 where
  pub given : List ValueId
  pub values : AreValues vs xs given
  pub are : args ≡ operands_of ns op xs d given
