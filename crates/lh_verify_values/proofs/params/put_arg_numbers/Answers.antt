use Rattle.lh_verify_values.proofs.ParamSteps.{numbers-none, numbers-next, numbers-all, long-next, long-none}
use Rattle.lh_verify_values.proofs.params.put_arg_numbers.Goals as goal

pub loop-arg-init : goal.loop-arg-init
loop-arg-init c = record {
  long = long-none c.args.args.now c.args.list.now c.requires.none;
  numbers = numbers-none c.args.types.now c.args.args.now c.args.list.now c.requires.none;
  grows = λ n t g. g;
}

pub loop-arg-preserved : goal.loop-arg-preserved
loop-arg-preserved c =
    let x = c.arg-item.result in
    record {
      long = long-next c.args.args.now c.loop-arg.list c.push.new.self c.loop-arg.arg-index x c.in_ok-place.place c.loop-arg-test.true c.arg-item.is c.loop-arg.invariant.long c.in_ok-push.ensures.ok;
      numbers = numbers-next c.loop-arg.types c.number_like.new.self c.args.args.now c.loop-arg.list c.push.new.self c.loop-arg.arg-index x c.in_ok-place.place c.loop-arg-test.true c.arg-item.is
          c.loop-arg.invariant.long c.loop-arg.invariant.numbers c.in_ok-place.ensures.grows c.in_ok-place.ensures.made c.in_ok-push.ensures.ok;
      grows = λ n t g. c.in_ok-place.ensures.grows n t (c.loop-arg.invariant.grows n t g);
    }

pub returns-clause-numbers : goal.returns-clause-numbers
returns-clause-numbers c = numbers-all c.loop-arg.types c.args.args.now c.loop-arg.list c.loop-arg.arg-index c.loop-arg-test.false c.loop-arg.invariant.numbers
