use Rattle.lh_kernel.proofs.ActivationMoves.{parts_same, between_same, between_are}
use Rattle.lh_kernel.proofs.moves.between.Goals as goal

pub returns-then-eq : goal.returns-then-eq
returns-then-eq c =
    between_same c.args.design.now.signals.items c.args.left.now c.args.entered.now c.new.result c.new-then-eq.result
    (parts_same c.args.left.now c.args.entered.now c.eq.result c.eq.ensures c.if-eq.true) c.new.ensures c.new-then-eq.ensures

pub returns : goal.returns
returns c =
    between_are c.args.design.now.signals.items c.args.left.now c.args.entered.now c.in_ok-before.before c.in_ok-after.after c.in_ok-came.came
    c.in_ok-gone.gone c.in_ok-before.ensures c.in_ok-after.ensures c.in_ok-came.ensures c.in_ok-gone.ensures
