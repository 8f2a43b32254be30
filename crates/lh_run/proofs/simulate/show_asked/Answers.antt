use Rattle.std.proofs.Common.{◌∙◌, map, ap}
use Rattle.std.proofs.lemmas.Result.{err_from_is_err_and}
use Rattle.lh_unit.specs.Arena.{contents}
use Rattle.lh_design.specs.Texts.{design_text}
use Rattle.lh_watch.specs.Shown.{kept}
use Rattle.lh_args.specs.Meant.{simulation_of}
use Rattle.lh_result.proofs.Simulations.{Carries-starved, Carries-shown}
use Rattle.lh_run.proofs.simulate.show_asked.Goals as goal

pub returns-in_err-keep_asked-clause-carries : goal.returns-in_err-keep_asked-clause-carries
returns-in_err-keep_asked-clause-carries g c =
    let p = err_from_is_err_and c.from_residual.result c.from_residual.ensures.1 in
    rw (p.1, p.2, c.in_err-keep_asked.ensures.same) (Carries-starved (simulation_of c.args.asked.now) (contents c.args.m.now) _ _ _ _ _)

pub returns-clause-carries : goal.returns-clause-carries
returns-clause-carries g c =
    let chosen = c.in_ok-keep_asked.ensures.kept ∙ ap (λ t. kept t (map g.W.Watcher.member c.args.watchers.now.items)) c.titles.ensures in
    Carries-shown (simulation_of c.args.asked.now) (contents c.args.m.now) _ _ (design_text c.args.m.now c.args.sim.now.design) _ _ _ _ c.requires.built chosen c.show_run.ensures.shows
