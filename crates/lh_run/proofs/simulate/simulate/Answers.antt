use Rattle.std.proofs.lemmas.Result.{err_from_is_err_and}
use Rattle.lh_unit.specs.Arena.{contents}
use Rattle.lh_args.specs.Meant.{simulation_of}
use Rattle.lh_result.proofs.Simulations.{Carries-refused}
use Rattle.lh_run.proofs.simulate.simulate.Goals as goal

pub returns-in_err-sim-clause-carries : goal.returns-in_err-sim-clause-carries
returns-in_err-sim-clause-carries g c =
    let p = err_from_is_err_and c.from_residual.result c.from_residual.ensures.1 in
    let m = c.module-module.ensures.«module» in
    rw (p.1, p.2) (Carries-refused (simulation_of c.args.asked.now) (contents c.args.file.now) _ c.in_err-sim.field-0.0 _ _ _ _ (rw m at c.in_err-sim.ensures.status))

pub returns-clause-carries : goal.returns-clause-carries
returns-clause-carries g c = rw c.module-module.ensures.«module» at c.show_asked-shown.ensures.carries

pub show_asked-shown-requires-clause-arena : goal.show_asked-shown-requires-clause-arena
show_asked-shown-requires-clause-arena g c = c.in_ok-sim.ensures.arena

pub show_asked-shown-requires-clause-first : goal.show_asked-shown-requires-clause-first
show_asked-shown-requires-clause-first g c = c.in_ok-sim.ensures.first

pub show_asked-shown-requires-clause-built : goal.show_asked-shown-requires-clause-built
show_asked-shown-requires-clause-built g c = c.in_ok-sim.ensures.built
