use Rattle.lh_kernel.proofs.ActivationMoves.{move_by}
use Rattle.lh_kernel.proofs.moves.move_of.Goals as goal

pub returns : goal.returns
returns c =
    move_by c.args.design.now.signals.items c.args.probes.now c.args.instance c.args.old.now c.args.new.now c.senses.result.now c.senses-2.result.now
    c.in_ok-came.came c.in_ok-came.gone c.wake.result c.wake-2.result c.wake-3.result c.wake-4.result
    c.unless_same.result c.unless_same-2.result c.senses.ensures c.senses-2.ensures c.in_ok-came.ensures c.wake.ensures c.wake-2.ensures
    c.wake-3.ensures c.wake-4.ensures c.unless_same.ensures c.unless_same-2.ensures
