use Rattle.std.proofs.Common.{[], map}
use Rattle.std.proofs.lemmas.Result.{err_from_is_err_and}
use Rattle.lh_wave.specs.Going.{text_left}
use Rattle.lh_wave.proofs.Courses.{none_of, ended_by, ended_short}
use Rattle.lh_wave.proofs.teller.Teller.finish.Goals as goal

pub returns-in_err-end-clause-err : goal.returns-in_err-end-clause-err
returns-in_err-end-clause-err g c =
    let p = err_from_is_err_and c.from_residual.result c.from_residual.ensures.1 in
    rw p.1 (λ before. none_of _ (g.K.Sink.written c.args.out.now) _ p.2)

pub returns-clause-told : goal.returns-clause-told
returns-clause-told g c =
    ended_by c.write_out.result c.args.self.now.text c.end.new.to (λ before. text_left c.args.self.now.scribe before [] (map g.W.Watcher.member c.args.ws.now) c.args.end) (g.K.Sink.written c.args.out.now)
    (g.K.Sink.written c.write_out.new.out) c.in_ok-end.ensures c.write_out.ensures.whole c.write_out.ensures.told

pub returns-clause-err : goal.returns-clause-err
returns-clause-err g c =
    ended_short c.write_out.result c.args.self.now.text c.end.new.to (λ before. text_left c.args.self.now.scribe before [] (map g.W.Watcher.member c.args.ws.now) c.args.end) (g.K.Sink.written c.args.out.now)
    (g.K.Sink.written c.write_out.new.out) c.in_ok-end.ensures c.write_out.ensures.err
