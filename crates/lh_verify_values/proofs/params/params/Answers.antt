use Rattle.std.proofs.Common.{length, ap}
use Rattle.lh_verify_values.proofs.ParamSteps.{params-none, params-push, params-long}
use Rattle.lh_verify_values.proofs.params.params.Goals as goal

pub loop-unit-init : goal.loop-unit-init
loop-unit-init c = record {
  long = ap length c.in_ok-params.ensures.items;
  numbers = params-none c.args.types.now c.args.m.now c.in_ok-params.params.items c.in_ok-params.ensures.items;
  grows = λ n t g. g;
}

pub loop-unit-preserved : goal.loop-unit-preserved
loop-unit-preserved c = record {
  long = params-long c.loop-unit.params.items c.put_numbers.new.params.items c.in_ok-numbers.numbers c.loop-unit.unit c.loop-unit.invariant.long c.in_ok-put_numbers.ensures;
  numbers = params-push c.loop-unit.types c.arg_numbers.new.types c.args.m.now c.loop-unit.params.items c.put_numbers.new.params.items c.in_ok-numbers.numbers c.loop-unit.unit
      c.loop-unit.invariant.long c.in_ok-put_numbers.ensures c.loop-unit.invariant.numbers c.in_ok-numbers.ensures.grows c.args-own.ensures.args c.in_ok-numbers.ensures.numbers;
  grows = λ n t g. c.in_ok-numbers.ensures.grows n t (c.loop-unit.invariant.grows n t g);
}
