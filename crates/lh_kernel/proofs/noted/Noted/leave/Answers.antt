use Rattle.std.proofs.Common.{arith, ◌-◌, drop}
use Rattle.lh_kernel.proofs.NotedMoves.{gone_known, drop_back, left_before}
use Rattle.lh_kernel.proofs.noted.Noted.leave.Goals as goal

pub forget-requires : goal.forget-requires
forget-requires c = record {
  known = gone_known c.requires.known.0 c.args.moves.now (c.loop-number.number - 1) c.index-moves-number.result _ _ (omega arith) c.index-moves-number.is
      c.requires.known.1 c.loop-number.invariant.long c.requires.known.2;
}

pub loop-number-preserved : goal.loop-number-preserved
loop-number-preserved c =
    let ms = c.args.moves.now in let i = c.loop-number.number in let m = c.index-moves-number.result in
    left_before m (drop i ms) (drop (i - 1) ms) (drop_back ms i m c.loop-number-test.true c.loop-number.auto.number c.index-moves-number.is)
    c.args.self.now c.loop-number.self c.forget.new.self c.loop-number.invariant c.forget.ensures
