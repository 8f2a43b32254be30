use Rattle.std.proofs.Common.{[], ◌++◌, map, subst, ap, ◌∙◌, arith}
use Rattle.std.proofs.lemmas.Result.{err_from_is_err_and}
use Rattle.lh_io.specs.Streams.{Appends}
use Rattle.lh_unit.specs.Arena.{contents}
use Rattle.lh_unit.specs.World.{first_world}
use Rattle.lh_design.specs.Texts.{design_text}
use Rattle.lh_wave.specs.BrokenOff.{BreaksOff}
use Rattle.lh_wave.specs.ShownRun.{shown_from_first}
use Rattle.lh_wave.specs.Going.{text_left}
use Rattle.lh_wave.proofs.Runs.{last_broken, all_told, reports_broken, ended_so, failed_so, left_so, reported_so}
use Rattle.lh_wave.proofs.Courses as courses
use Rattle.lh_wave.proofs.Courses.{none_failed}
use Rattle.lh_wave.proofs.run.tell_run.Goals as goal

pub returns-in_err-end-clause-fault : goal.returns-in_err-end-clause-fault
returns-in_err-end-clause-fault g c =
    let p = err_from_is_err_and c.from_residual.result c.from_residual.ensures.1 in
    let first = first_world (contents c.args.sim.now.arena) (design_text c.args.sim.now.arena c.args.sim.now.design) in
    rw (p.1, p.2) (c.in_err-end.ensures.err first c.requires.fresh c.requires.behind)

pub returns-in_err-finish-clause-fault : goal.returns-in_err-finish-clause-fault
returns-in_err-finish-clause-fault g c =
    let p = err_from_is_err_and c.from_residual-in_err-finish.result c.from_residual-in_err-finish.ensures.1 in
    let a = c.args.sim.now.arena in
    let d = design_text a c.args.sim.now.design in
    let over = c.in_ok-end.ensures.ok (first_world (contents a) d) c.requires.fresh c.requires.behind in
    rw (p.1, p.2) (last_broken (shown_from_first (contents a) d c.args.steps (map g.W.Watcher.member c.args.ws.now.items)) c.args.teller.now _ _ _ _ _ _ _ c.in_ok-end.end over
    c.in_err-finish.field-0.0 _
    (λ before. subst (λ xs. BreaksOff c.in_err-finish.field-0.0 (g.K.Sink.written c.show_frames.new.out) (g.K.Sink.written c.finish.new.out)
    (c.show_frames.new.self.text.items ++ text_left c.show_frames.new.self.scribe before [] (map g.W.Watcher.member xs) c.in_ok-end.end)) c.deref.ensures.value (c.in_err-finish.ensures.err before)))

pub returns-in_err-put_reports-clause-fault : goal.returns-in_err-put_reports-clause-fault
returns-in_err-put_reports-clause-fault g c =
    let p = err_from_is_err_and c.from_residual-in_err-put_reports.result c.from_residual-in_err-put_reports.ensures.1 in
    let a = c.args.sim.now.arena in
    let d = design_text a c.args.sim.now.design in
    let over = c.in_ok-end.ensures.ok (first_world (contents a) d) c.requires.fresh c.requires.behind in
    rw p.1 (reports_broken (shown_from_first (contents a) d c.args.steps (map g.W.Watcher.member c.args.ws.now.items)) c.args.teller.now _ _ _ _ _ _ _ c.in_ok-end.end over _ _ p.2
    (λ before. subst (λ xs. Appends (g.K.Sink.written c.show_frames.new.out) (g.K.Sink.written c.finish.new.out)
    (c.show_frames.new.self.text.items ++ text_left c.show_frames.new.self.scribe before [] (map g.W.Watcher.member xs) c.in_ok-end.end)) c.deref.ensures.value (c.in_ok-finish.ensures.told before)))

pub returns-clause-ending : goal.returns-clause-ending
returns-clause-ending g c =
    let a = c.args.sim.now.arena in
    let d = design_text a c.args.sim.now.design in
    let s = shown_from_first (contents a) d c.args.steps (map g.W.Watcher.member c.args.ws.now.items) in
    let over = c.in_ok-end.ensures.ok (first_world (contents a) d) c.requires.fresh c.requires.behind in (
      ended_so s c.args.teller.now _ _ _ _ _ _ _ c.in_ok-end.end over,
      failed_so s c.args.teller.now _ _ _ _ _ _ _ c.in_ok-end.end over c.failed.result (c.failed.ensures ∙ c.in_ok-finish.ensures.failed),
    )

pub returns-clause-text : goal.returns-clause-text
returns-clause-text g c =
    let a = c.args.sim.now.arena in
    let d = design_text a c.args.sim.now.design in
    let over = c.in_ok-end.ensures.ok (first_world (contents a) d) c.requires.fresh c.requires.behind in
    all_told (shown_from_first (contents a) d c.args.steps (map g.W.Watcher.member c.args.ws.now.items)) c.args.teller.now _ _ _ _ _ _ _ c.in_ok-end.end over _
    (λ before. subst (λ xs. Appends (g.K.Sink.written c.show_frames.new.out) (g.K.Sink.written c.finish.new.out)
    (c.show_frames.new.self.text.items ++ text_left c.show_frames.new.self.scribe before [] (map g.W.Watcher.member xs) c.in_ok-end.end)) c.deref.ensures.value (c.in_ok-finish.ensures.told before))

pub returns-clause-members : goal.returns-clause-members
returns-clause-members g c =
    let a = c.args.sim.now.arena in
    let d = design_text a c.args.sim.now.design in
    let over = c.in_ok-end.ensures.ok (first_world (contents a) d) c.requires.fresh c.requires.behind in
    left_so (shown_from_first (contents a) d c.args.steps (map g.W.Watcher.member c.args.ws.now.items)) c.args.teller.now _ _ _ _ _ _ _ c.in_ok-end.end over

pub returns-clause-reports : goal.returns-clause-reports
returns-clause-reports g c =
    let a = c.args.sim.now.arena in
    let d = design_text a c.args.sim.now.design in
    let over = c.in_ok-end.ensures.ok (first_world (contents a) d) c.requires.fresh c.requires.behind in
    reported_so (shown_from_first (contents a) d c.args.steps (map g.W.Watcher.member c.args.ws.now.items)) c.args.teller.now _ _ _ _ _ _ _ c.in_ok-end.end over _ _
    (ap (map g.W.Watcher.member) c.deref-2.ensures.value) c.in_ok-put_reports.ensures

pub returns-in_err-end-clause-rose : goal.returns-in_err-end-clause-rose
returns-in_err-end-clause-rose g c =
    let p = err_from_is_err_and c.from_residual.result c.from_residual.ensures.1 in
    λ failed. c.in_err-end.ensures.rose (courses.failed_so c.from_residual.result p.0 c.in_err-end.field-0.0 p.1 p.2 failed)

pub returns-in_err-finish-clause-rose : goal.returns-in_err-finish-clause-rose
returns-in_err-finish-clause-rose g c =
    let p = err_from_is_err_and c.from_residual-in_err-finish.result c.from_residual-in_err-finish.ensures.1 in
    λ failed below.
    let more = c.in_err-finish.ensures.rose (courses.failed_so c.from_residual-in_err-finish.result p.0 c.in_err-finish.field-0.0 p.1 p.2 failed) below in
    omega (arith, more, c.in_ok-end.ensures.never_fall)

pub returns-in_err-put_reports-clause-rose : goal.returns-in_err-put_reports-clause-rose
returns-in_err-put_reports-clause-rose g c =
    let p = err_from_is_err_and c.from_residual-in_err-put_reports.result c.from_residual-in_err-put_reports.ensures.1 in
    none_failed c.from_residual-in_err-put_reports.result p.0 _ _ p.1 p.2

pub returns-in_err-end-clause-never_fall : goal.returns-in_err-end-clause-never_fall
returns-in_err-end-clause-never_fall g c = c.in_err-end.ensures.never_fall

pub returns-in_err-finish-clause-never_fall : goal.returns-in_err-finish-clause-never_fall
returns-in_err-finish-clause-never_fall g c = omega (arith, c.in_ok-end.ensures.never_fall, c.in_err-finish.ensures.never_fall)

pub returns-in_err-put_reports-clause-never_fall : goal.returns-in_err-put_reports-clause-never_fall
returns-in_err-put_reports-clause-never_fall g c = omega (arith, c.in_ok-end.ensures.never_fall, c.in_ok-finish.ensures.never_fall)

pub returns-clause-never_fall : goal.returns-clause-never_fall
returns-clause-never_fall g c = omega (arith, c.in_ok-end.ensures.never_fall, c.in_ok-finish.ensures.never_fall)
