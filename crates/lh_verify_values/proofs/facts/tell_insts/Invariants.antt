use Rattle.std.proofs.Common.{[], take}
use Rattle.lh_unit.specs.Arena.{naming, table_at, value_count}
use Rattle.lh_verify_values.specs.FactsOfUnit.{FactsAfter}
use Rattle.lh_verify_values.specs.Numbers.{NumbersGrow}
use Rattle.lh_verify_values.proofs.facts.tell_insts.Given as goal

abbrev pub invariant-loop-i : goal.invariant-loop-i
invariant-loop-i l = record {
  knows : FactsAfter l.types (value_count l.m l.unit.0) (naming l.m l.unit.0) [] (take l.i (table_at l.m l.unit.0).lines) l.facts;
  grows : NumbersGrow l.initial.types l.types;
}
