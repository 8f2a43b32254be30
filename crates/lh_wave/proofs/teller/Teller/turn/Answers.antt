use Rattle.std.proofs.Common.{suc, map, refl}
use Rattle.std.proofs.lemmas.Result.{err_from_is_err_and}
use Rattle.lh_wave.specs.Going.{going, shown_on, values_of_last}
use Rattle.lh_wave.proofs.Courses.{broke_now, none_failed, failed_so}
use Rattle.lh_wave.proofs.Turns.{turned_end, turned_runaway, turned_quiet, broken_frame, broken_runaway}
use Rattle.lh_wave.proofs.teller.Teller.turn.Goals as goal

pub returns-in_err-step-clause-err : goal.returns-in_err-step-clause-err
returns-in_err-step-clause-err g c =
    let p = err_from_is_err_and c.from_residual.result c.from_residual.ensures.1 in
    let members = map g.W.Watcher.member c.args.ws.now.items in
    rw p.1 (λ n w st b. broke_now (going c.args.self.now (values_of_last c.args.sim.now.arena c.args.sim.now.design w) members
    (shown_on c.args.sim.now.arena c.args.sim.now.design (suc n) w members) (g.K.Sink.written c.args.out.now) c.args.reports.now.items) p.0
    (g.K.Sink.written c.args.out.now) members p.2 refl refl)

pub returns-in_err-shown-in-Frame-clause-err : goal.returns-in_err-shown-in-Frame-clause-err
returns-in_err-shown-in-Frame-clause-err g c =
    let p = err_from_is_err_and c.from_residual-in_err-shown-in-Frame.result c.from_residual-in_err-shown-in-Frame.ensures.1 in
    rw (p.1, p.2) (λ n w st b. broken_frame _ _ w _ c.in-Frame.f n c.args.self.now _ _ _ _ _ _ (c.in_ok-step.ensures.step w st) c.in-Frame.is b c.in_err-shown-in-Frame.ensures.err)

pub returns-in_err-shown-in-Runaway-clause-err : goal.returns-in_err-shown-in-Runaway-clause-err
returns-in_err-shown-in-Runaway-clause-err g c =
    let p = err_from_is_err_and c.from_residual-in_err-shown-in-Runaway.result c.from_residual-in_err-shown-in-Runaway.ensures.1 in
    rw (p.1, p.2) (λ n w st b. broken_runaway _ _ w _ c.in-Runaway.f c.in-Runaway.instance n c.args.self.now _ _ _ _ _ _ (c.in_ok-step.ensures.step w st) c.in-Runaway.is b
    c.in_err-shown-in-Runaway.ensures.err)

pub returns-in-Quiet-clause-ok : goal.returns-in-Quiet-clause-ok
returns-in-Quiet-clause-ok g c = λ n w st b. turned_quiet _ _ w _ n c.args.self.now _ _ _ (c.in_ok-step.ensures.step w st) c.in-Quiet.is b

pub returns-in_ok-shown-in-Frame-clause-ok : goal.returns-in_ok-shown-in-Frame-clause-ok
returns-in_ok-shown-in-Frame-clause-ok g c = λ n w st b.
    turned_end _ _ w _ c.in-Frame.f n _ _ c.args.self.now _ _ _ _ _ _ _ (c.in_ok-step.ensures.step w st) c.in-Frame.is c.stopped.ensures c.in_ok-shown-in-Frame.ensures.members
    c.in_ok-shown-in-Frame.ensures.stop b
    c.in_ok-shown-in-Frame.ensures.behind c.in_ok-shown-in-Frame.ensures.went

pub returns-in_ok-shown-in-Runaway-clause-ok : goal.returns-in_ok-shown-in-Runaway-clause-ok
returns-in_ok-shown-in-Runaway-clause-ok g c = λ n w st b.
    turned_runaway _ _ w _ c.in-Runaway.f c.in-Runaway.instance n c.args.self.now _ _ _ _ _ _ _ (c.in_ok-step.ensures.step w st) c.in-Runaway.is c.in_ok-shown-in-Runaway.ensures.members b
    c.in_ok-shown-in-Runaway.ensures.behind c.in_ok-shown-in-Runaway.ensures.went

pub returns-in_err-step-clause-rose : goal.returns-in_err-step-clause-rose
returns-in_err-step-clause-rose g c =
    let p = err_from_is_err_and c.from_residual.result c.from_residual.ensures.1 in
    none_failed c.from_residual.result p.0 _ _ p.1 p.2

pub returns-in_err-shown-in-Frame-clause-rose : goal.returns-in_err-shown-in-Frame-clause-rose
returns-in_err-shown-in-Frame-clause-rose g c =
    let p = err_from_is_err_and c.from_residual-in_err-shown-in-Frame.result c.from_residual-in_err-shown-in-Frame.ensures.1 in
    λ failed. c.in_err-shown-in-Frame.ensures.rose (failed_so c.from_residual-in_err-shown-in-Frame.result p.0 c.in_err-shown-in-Frame.field-0.0 p.1 p.2 failed)

pub returns-in_err-shown-in-Frame-clause-never_fall : goal.returns-in_err-shown-in-Frame-clause-never_fall
returns-in_err-shown-in-Frame-clause-never_fall g c = c.in_err-shown-in-Frame.ensures.never_fall

pub returns-in_ok-shown-in-Frame-clause-never_fall : goal.returns-in_ok-shown-in-Frame-clause-never_fall
returns-in_ok-shown-in-Frame-clause-never_fall g c = c.in_ok-shown-in-Frame.ensures.never_fall

pub returns-in_err-shown-in-Runaway-clause-rose : goal.returns-in_err-shown-in-Runaway-clause-rose
returns-in_err-shown-in-Runaway-clause-rose g c =
    let p = err_from_is_err_and c.from_residual-in_err-shown-in-Runaway.result c.from_residual-in_err-shown-in-Runaway.ensures.1 in
    λ failed. c.in_err-shown-in-Runaway.ensures.rose (failed_so c.from_residual-in_err-shown-in-Runaway.result p.0 c.in_err-shown-in-Runaway.field-0.0 p.1 p.2 failed)

pub returns-in_err-shown-in-Runaway-clause-never_fall : goal.returns-in_err-shown-in-Runaway-clause-never_fall
returns-in_err-shown-in-Runaway-clause-never_fall g c = c.in_err-shown-in-Runaway.ensures.never_fall

pub returns-in_ok-shown-in-Runaway-clause-never_fall : goal.returns-in_ok-shown-in-Runaway-clause-never_fall
returns-in_ok-shown-in-Runaway-clause-never_fall g c = c.in_ok-shown-in-Runaway.ensures.never_fall
