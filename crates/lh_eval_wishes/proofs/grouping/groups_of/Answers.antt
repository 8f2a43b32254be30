use Rattle.std.proofs.Common.{◌++◌, ◌∷◌, [], refl, ap, sym, ◌∙◌}
use Rattle.lh_eval_wishes.specs.Runs.{run_wish}
use Rattle.lh_eval_wishes.proofs.RunLemmas.{runs-push}
use Rattle.lh_eval_wishes.proofs.grouping.groups_of.Goals as goal

pub loop-run-preserved : goal.loop-run-preserved
loop-run-preserved c = record {
  same = c.in_ok-add.ensures.wish ∙ ap (λ w. w ++ run_wish c.in-Some.run') c.loop-run.invariant.same
      ∙ sym (runs-push c.loop-run.yielded (c.loop-run.yielded ++ c.in-Some.run' ∷ []) c.in-Some.run' refl);
  apart = c.in_ok-add.ensures.apart c.loop-run.invariant.apart;
}
