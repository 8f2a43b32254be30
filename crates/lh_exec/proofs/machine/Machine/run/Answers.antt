use Rattle.std.proofs.Common.{◌≡◌, ◌-◌, ◌+◌, suc, true, false, arith}
use Rattle.lh_unit.specs.Activation.{run}
use Rattle.lh_exec.specs.Standing.{scene_of, goes_on}
use Rattle.lh_exec.proofs.Rights.{functions-right}
use Rattle.lh_exec.proofs.RunSteps.{more-fit, goes-on, ends-here, none-left}
use Rattle.lh_exec.proofs.machine.Machine.run.Goals as goal

pub loop-i-preserved : goal.loop-i-preserved
loop-i-preserved c =
    let fs = functions-right c.args.m.now c.requires.fit.is.arena c.requires.formed in
    let g : goes_on c.in_ok-flow.flow ≡ true = cc in
    let e : c.args.limit - c.loop-i.i ≡ suc (c.args.limit - (c.loop-i.i + 1)) = omega arith in
    record {
      fit = more-fit c.args.m.now c.args.now.now c.args.at fs c.loop-i.self c.step.new.self c.in_ok-flow.flow g c.loop-i.invariant.fit c.in_ok-flow.ensures;
      goes = λ u p st f. goes-on c.args.m.now c.args.now.now c.args.at fs u c.loop-i.self c.step.new.self c.in_ok-flow.flow (c.args.limit - c.loop-i.i) (c.args.limit - (c.loop-i.i + 1))
          (run c.args.limit (scene_of c.args.m.now c.args.now.now c.args.at) p) e g c.in_ok-flow.ensures (c.loop-i.invariant.goes u p st f);
    }

pub returns-then-not-goes : goal.returns-then-not-goes
returns-then-not-goes c = λ u p st f.
    let fs = functions-right c.args.m.now c.requires.fit.is.arena c.requires.formed in
    let g : goes_on c.in_ok-flow.flow ≡ false = cc in
    let e : c.args.limit - c.loop-i.i ≡ suc (c.args.limit - (c.loop-i.i + 1)) = omega arith in
    ends-here c.args.m.now c.args.now.now c.args.at fs u c.loop-i.self c.step.new.self c.in_ok-flow.flow (c.args.limit - c.loop-i.i) (c.args.limit - (c.loop-i.i + 1))
    (run c.args.limit (scene_of c.args.m.now c.args.now.now c.args.at) p) e g c.in_ok-flow.ensures (c.loop-i.invariant.goes u p st f)

pub returns : goal.returns
returns c = λ u p st f.
    let fs = functions-right c.args.m.now c.requires.fit.is.arena c.requires.formed in
    let e : c.args.limit - c.loop-i.i ≡ 0 = omega arith in
    none-left c.args.m.now c.args.now.now c.args.at fs u c.loop-i.self (c.args.limit - c.loop-i.i) (run c.args.limit (scene_of c.args.m.now c.args.now.now c.args.at) p) e
    (c.loop-i.invariant.goes u p st f)
