use Rattle.lh_watch.specs.Members.{report_of}
use Rattle.lh_wave.proofs.FrameLemmas.{Reporting}
use Rattle.lh_wave.proofs.run.put_reports.Given as goal

abbrev pub invariant-loop-w : goal.invariant-loop-w
invariant-loop-w g l = Reporting (λ w. report_of (g.W.Watcher.member w)) l.fn.to.items l.to.items l.ws l.w-index
