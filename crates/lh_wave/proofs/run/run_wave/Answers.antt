use Rattle.std.proofs.Common.{◌≡◌, ◌++◌, Bool, ◌||◌, map, ap, sym, subst, IfOk, OnOk, arith}
use Rattle.std.specs.Prelude.{None, IfErr}
use Rattle.std.proofs.lemmas.Result.{err_from_is_err_and}
use Rattle.lh_io.specs.Streams.{Appends}
use Rattle.lh_unit.specs.Paths.{shown_in}
use Rattle.lh_unit.specs.World.{first_world}
use Rattle.lh_design.specs.declared.Design.{Design}
use Rattle.lh_design.specs.Texts.{design_text}
use Rattle.lh_unit.specs.Arena.{Arena, contents}
use Rattle.lh_kernel.specs.Simulation.{StandsFor}
use Rattle.lh_wave.specs.HeadText.{signals_in}
use Rattle.lh_wave.specs.ShownRun.{ShownRun, shown_from_first, any_failed, all_reports}
use Rattle.lh_wave.specs.RunText.{head_in}
use Rattle.lh_wave.specs.BrokenOff.{no_more}
use Rattle.lh_wave.specs.Going.{BrokeOff, going, text_left}
use Rattle.lh_wave.proofs.Runs.{behind_new, head_broken, whole_told, whole_broken}
use Rattle.lh_wave.proofs.run.run_wave.Goals as goal

pub returns-in_err-write_head-clause-fault : goal.returns-in_err-write_head-clause-fault
returns-in_err-write_head-clause-fault g c =
    let p = err_from_is_err_and c.from_residual.result c.from_residual.ensures.1 in
    let eh = ap (λ (x : Design). head_in c.args.mode (shown_in (design_text c.args.m.now x)) (signals_in (design_text c.args.m.now x))) c.design.ensures.same in
    rw (p.1, p.2) (
      head_broken c.args.mode (shown_in (design_text c.args.m.now c.args.sim.now.design)) (signals_in (design_text c.args.m.now c.args.sim.now.design))
          (shown_from_first (contents c.args.m.now) (design_text c.args.m.now c.args.sim.now.design) c.args.steps (map g.W.Watcher.member c.args.ws.now.items)) _ _ _ _ eh c.in_err-write_head.ensures.err,
      no_more _ _,
    )

pub tell_run-requires-clause-behind : goal.tell_run-requires-clause-behind
tell_run-requires-clause-behind g c = behind_new c.args.mode _ c.new-teller.ensures.scribe

pub tell_run-requires-clause-fresh : goal.tell_run-requires-clause-fresh
tell_run-requires-clause-fresh g c =
    subst (λ (x : Arena). StandsFor c.args.sim.now (first_world (contents x) (design_text x c.args.sim.now.design))) (sym c.requires.made_for) c.requires.fresh

pub returns-clause-ending : goal.returns-clause-ending
returns-clause-ending g c =
    let s : Arena → ShownRun = λ x. shown_from_first (contents x) (design_text x c.args.sim.now.design) c.args.steps (map g.W.Watcher.member c.args.ws.now.items) in
    subst (λ (b : Bool). IfOk c.tell_run.result (λ e. (e.end ≡ (s c.args.m.now).end) × (e.failed ≡ (b || any_failed (s c.args.m.now))))) c.new-teller.ensures.failed
    (subst (λ (x : Arena). IfOk c.tell_run.result (λ e. (e.end ≡ (s x).end) × (e.failed ≡ (c.new-teller.result.failed || any_failed (s x))))) c.requires.made_for c.tell_run.ensures.ending)

pub returns-clause-text : goal.returns-clause-text
returns-clause-text g c =
    let eh = ap (λ (x : Design). head_in c.args.mode (shown_in (design_text c.args.m.now x)) (signals_in (design_text c.args.m.now x))) c.design.ensures.same in
    let s : Arena → ShownRun = λ x. shown_from_first (contents x) (design_text x c.args.sim.now.design) c.args.steps (map g.W.Watcher.member c.args.ws.now.items) in
    let t = c.new-teller.result in
    whole_told c.tell_run.result c.args.mode (shown_in (design_text c.args.m.now c.args.sim.now.design)) (signals_in (design_text c.args.m.now c.args.sim.now.design)) (s c.args.m.now) t _ _ _
    c.new-teller.ensures.scribe c.new-teller.ensures.waits eh c.in_ok-write_head.ensures.told _
    (subst (λ (x : Arena). OnOk c.tell_run.result (Appends (g.K.Sink.written c.write_head.new.out) (g.K.Sink.written c.tell_run.new.out)
    (t.text.items ++ text_left t.scribe None (s x).frames (s x).left (s x).end))) c.requires.made_for c.tell_run.ensures.text)

pub returns-clause-members : goal.returns-clause-members
returns-clause-members g c =
    let s : Arena → ShownRun = λ x. shown_from_first (contents x) (design_text x c.args.sim.now.design) c.args.steps (map g.W.Watcher.member c.args.ws.now.items) in
    subst (λ (x : Arena). OnOk c.tell_run.result (map g.W.Watcher.member c.tell_run.new.ws.items ≡ (s x).left)) c.requires.made_for c.tell_run.ensures.members

pub returns-clause-reports : goal.returns-clause-reports
returns-clause-reports g c =
    let s : Arena → ShownRun = λ x. shown_from_first (contents x) (design_text x c.args.sim.now.design) c.args.steps (map g.W.Watcher.member c.args.ws.now.items) in
    subst (λ (x : Arena). OnOk c.tell_run.result (c.tell_run.new.reports.items ≡ c.args.reports.now.items ++ all_reports (s x))) c.requires.made_for c.tell_run.ensures.reports

pub returns-clause-fault : goal.returns-clause-fault
returns-clause-fault g c =
    let eh = ap (λ (x : Design). head_in c.args.mode (shown_in (design_text c.args.m.now x)) (signals_in (design_text c.args.m.now x))) c.design.ensures.same in
    let ms = map g.W.Watcher.member c.args.ws.now.items in
    let s : Arena → ShownRun = λ x. shown_from_first (contents x) (design_text x c.args.sim.now.design) c.args.steps ms in
    let t = c.new-teller.result in
    whole_broken c.tell_run.result c.args.mode (shown_in (design_text c.args.m.now c.args.sim.now.design)) (signals_in (design_text c.args.m.now c.args.sim.now.design)) (s c.args.m.now) t _ _ _
    c.new-teller.ensures.scribe c.new-teller.ensures.waits eh c.in_ok-write_head.ensures.told _ ms _ c.args.reports.now.items
    (subst (λ (x : Arena). IfErr c.tell_run.result (λ f. BrokeOff (going t None ms (s x) (g.K.Sink.written c.write_head.new.out) c.args.reports.now.items) f (g.K.Sink.written c.tell_run.new.out)
    (map g.W.Watcher.member c.tell_run.new.ws.items))) c.requires.made_for c.tell_run.ensures.fault)

pub returns-clause-rose : goal.returns-clause-rose
returns-clause-rose g c = λ e below. (let more = c.tell_run.ensures.rose e below in omega (arith, more, c.in_ok-write_head.ensures.never_fall))
