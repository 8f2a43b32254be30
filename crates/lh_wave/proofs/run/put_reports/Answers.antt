use Rattle.std.proofs.Common.{◌++◌, ap, sym, ◌∙◌}
use Rattle.std.proofs.lemmas.List.Folds.{flat_map-map}
use Rattle.lh_watch.specs.Members.{report_of}
use Rattle.lh_wave.proofs.FrameLemmas.{Reporting-next, Reporting-end}
use Rattle.lh_wave.proofs.run.put_reports.Goals as goal

pub returns : goal.returns
returns g c =
    Reporting-end (λ w. report_of (g.W.Watcher.member w)) _ _ _ _ c.loop-w.invariant c.loop-w-test.false
    ∙ ap (λ l. c.args.to.now.items ++ l) (sym (flat_map-map report_of g.W.Watcher.member c.args.ws.now))

pub loop-w-preserved : goal.loop-w-preserved
loop-w-preserved g c = Reporting-next (λ w. report_of (g.W.Watcher.member w)) _ _ _ _ _ _ c.loop-w.invariant c.loop-w-test.true c.w-item.is c.in_ok-report.ensures
