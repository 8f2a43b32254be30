use Rattle.std.proofs.lemmas.Result.{err_from_is_err_and}
use Rattle.lh_types.specs.Pictures.{picture}
use Rattle.lh_wave.proofs.Courses.{none_of, told_by, told_short}
use Rattle.lh_wave.proofs.teller.Teller.tell.Goals as goal

pub returns-in_err-take-clause-err : goal.returns-in_err-take-clause-err
returns-in_err-take-clause-err g c =
    let p = err_from_is_err_and c.from_residual.result c.from_residual.ensures.1 in
    rw p.1 (λ before v more left end n. none_of _ (g.K.Sink.written c.args.out.now) _ p.2)

pub returns-clause-told : goal.returns-clause-told
returns-clause-told g c =
    told_by c.pass_on.result c.args.self.now.scribe c.take.new.self (picture c.args.f.now) c.args.self.now.text c.take.new.to c.pass_on.new.text.items (g.K.Sink.written c.args.out.now)
    (g.K.Sink.written c.pass_on.new.out) c.in_ok-take.ensures.put c.pass_on.ensures.whole c.pass_on.ensures.told

pub returns-clause-err : goal.returns-clause-err
returns-clause-err g c =
    told_short c.pass_on.result c.args.self.now.scribe c.take.new.self (picture c.args.f.now) c.args.self.now.text c.take.new.to (g.K.Sink.written c.args.out.now) (g.K.Sink.written c.pass_on.new.out)
    c.in_ok-take.ensures.put c.pass_on.ensures.err
