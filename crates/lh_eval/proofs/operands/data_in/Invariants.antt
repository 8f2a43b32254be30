use Rattle.std.proofs.Common.{◌≡◌, ◌<◌, ◌++◌, drop, length, map}
use Rattle.std.specs.Option.{option_map}
use Rattle.lh_types.specs.ValueOf.{datum_of}
use Rattle.lh_unit.specs.Within.{Each}
use Rattle.lh_unit.specs.declared.inst.Typed.{Typed}
use Rattle.lh_eval.specs.Holding.{data_in}
use Rattle.lh_eval.proofs.operands.data_in.Given as goal

abbrev pub invariant-loop-operand : goal.invariant-loop-operand
invariant-loop-operand l = record {
  same : option_map (λ ds. map datum_of l.values.items ++ ds) (data_in l.slots (drop l.operand-index l.operands)) ≡ data_in l.slots l.operands;
  within : Each (λ (o : Typed). o.value.0 < length l.slots) (drop l.operand-index l.operands);
}
