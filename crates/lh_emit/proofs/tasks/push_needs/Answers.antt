use Rattle.std.proofs.Common.{◌≡◌, ◌-◌, length, refl, arith}
use Rattle.lh_emit.proofs.TaskStacks.{needs-first, needs-next, needs-end}
use Rattle.lh_emit.proofs.tasks.push_needs.Goals as goal

pub loop-k-init : goal.loop-k-init
loop-k-init c = record { within = omega arith; pushed = needs-first c.args.terms.now c.args.tasks.now.items (length c.args.terms.now) refl }

pub loop-k-preserved : goal.loop-k-preserved
loop-k-preserved c = record {
  within = omega arith;
  pushed = needs-next c.args.terms.now c.args.tasks.now.items c.loop-k.tasks.items c.push.new.tasks.items c.loop-k.k (c.loop-k.k - 1) (record { 0 = 0 })
      (omega arith) (omega arith) c.loop-k.invariant.pushed c.in_ok-push.ensures;
}

pub returns : goal.returns
returns c = needs-end c.args.terms.now c.args.tasks.now.items c.loop-k.tasks.items c.loop-k.k (omega arith) c.loop-k.invariant.pushed
