use Rattle.std.proofs.Common.{arith, ◌-◌, drop}
use Rattle.lh_kernel.proofs.NotedMoves.{came_known, drop_back, taken_before, taken_whole, some_entered, back_again}
use Rattle.lh_kernel.proofs.noted.Noted.take_back.Goals as goal

pub forget-requires : goal.forget-requires
forget-requires c = record {
  known = came_known c.requires.known.0 c.args.moves.now (c.loop-number.number - 1) c.index-moves-number.result _ _ (omega arith) c.index-moves-number.is
      c.requires.known.1 c.loop-number.invariant.long c.requires.known.2;
}

pub loop-number-preserved : goal.loop-number-preserved
loop-number-preserved c =
    let ms = c.args.moves.now in let i = c.loop-number.number in let m = c.index-moves-number.result in
    taken_before m (drop i ms) (drop (i - 1) ms) (drop_back ms i m c.loop-number-test.true c.loop-number.auto.number c.index-moves-number.is)
    c.args.self.now c.loop-number.self c.forget.new.self c.loop-number.invariant c.forget.ensures

pub returns-clause-all : goal.returns-clause-all
returns-clause-all c = λ before f h.
    back_again c.args.moves.now before c.args.self.now c.loop-number.self f (some_entered c.args.moves.now before c.args.self.now h)
    (taken_whole c.args.moves.now c.loop-number.number c.args.self.now c.loop-number.self c.loop-number-test.false c.loop-number.invariant)

pub returns-clause-some : goal.returns-clause-some
returns-clause-some c = λ before f h.
    back_again c.args.moves.now before c.args.self.now c.loop-number.self f h
    (taken_whole c.args.moves.now c.loop-number.number c.args.self.now c.loop-number.self c.loop-number-test.false c.loop-number.invariant)
