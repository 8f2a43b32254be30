use Rattle.std.proofs.Common.{◌+◌, sym, ◌∙◌}
use Rattle.lh_kernel.proofs.NotedInstances.{at_err, at_ok}
use Rattle.lh_kernel.proofs.NotedMoves.{came_known, known_first, fresh_first, entered_next, entered_some}
use Rattle.lh_kernel.proofs.noted.Noted.enter.Goals as goal

pub note-requires : goal.note-requires
note-requires c = record {
  known = came_known c.requires.known.0 c.args.moves.now c.loop-number.number c.index-moves-number.result _ _ c.loop-number-test.true
      c.index-moves-number.is c.requires.known.1 c.loop-number.invariant.long c.requires.known.2;
}

pub take_back-requires : goal.take_back-requires
take_back-requires c =
    let n = at_err c.note.result (sym c.is_err.ensures.value ∙ c.if-is_err.true) c.note.ensures.err in
    record { known = (c.requires.known.0, n.long ∙ c.loop-number.invariant.long ∙ c.requires.known.1, known_first c.requires.known.0 c.args.moves.now (c.loop-number.number + 1) c.requires.known.2) }

pub returns-then-is_err-clause-err : goal.returns-then-is_err-clause-err
returns-then-is_err-clause-err c =
    c.take_back.ensures.some c.args.self.now (fresh_first c.args.moves.now (c.loop-number.number + 1) c.args.self.now c.requires.fresh)
    (entered_some c.args.moves.now c.loop-number.number c.index-moves-number.result c.loop-number-test.true c.index-moves-number.is c.args.self.now
    c.loop-number.self c.note.new.self c.loop-number.invariant
    (at_err c.note.result (sym c.is_err.ensures.value ∙ c.if-is_err.true) c.note.ensures.err))

pub loop-number-preserved : goal.loop-number-preserved
loop-number-preserved c =
    entered_next c.args.moves.now c.loop-number.number c.index-moves-number.result c.loop-number-test.true c.index-moves-number.is c.args.self.now
    c.loop-number.self c.note.new.self c.loop-number.invariant
    (at_ok c.note.result (sym c.is_err.ensures.value ∙ c.if-is_err.false) c.note.ensures.noted)
