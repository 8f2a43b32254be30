use Rattle.std.proofs.Common.{◌≡◌, ℕ, List, Option, Some, None, length, refl, ap, sym, ◌∙◌}
use Rattle.std.proofs.lemmas.Result.{err_from_is_err_and}
use Rattle.lh_types.specs.Raised.{raised}
use Rattle.lh_unit.specs.Frames.{activated_count}
use Rattle.lh_kernel.specs.Phases.{RisesWithin, woken_in}
use Rattle.lh_kernel.specs.declared.machine.SimState.{SimState}
use Rattle.lh_kernel.specs.Simulation.{Simulation}
use Rattle.lh_kernel.proofs.StepLaws.{steps_frame, steps_runaway, steps_tally, steps_err, next_seen, ended_stands, goes_on_still}
use Rattle.lh_kernel.proofs.Tallies.{raised_none}
use Rattle.lh_kernel.proofs.sim.Sim.step.Goals as goal

pub returns-in_err-frame-clause-tally : goal.returns-in_err-frame-clause-tally
returns-in_err-frame-clause-tally g c = λ w h.
    let p = err_from_is_err_and c.from_residual.result c.from_residual.ensures.1 in
    let a = g.T.Tally.count c.args.tally.now in
    let b = g.T.Tally.count c.frame.new.tally in
    steps_err c.args.self.now w c.from_residual.result p.0 a b p.1
    (steps_tally c.self.inside.machine c.self.inside.ended c.args.self.now c.in-Some.at (λ (ks : List ℕ). RisesWithin ks a b) c.self.view_is
    c.if-self.false c.in-Some.ensures.next c.in_err-frame.ensures.err_tally w h)

pub returns-in-Some-runaway-clause-step : goal.returns-in-Some-runaway-clause-step
returns-in-Some-runaway-clause-step g c =
    steps_runaway c.self.inside.machine c.frame.new.self c.self.inside.ended c.args.self.now c.in-Some.at c.in_ok-frame.frame c.in_ok-frame.runaway
    c.in-Some-runaway.instance c.self.view_is c.if-self.false c.in-Some.ensures.next
    c.in_ok-frame.ensures.frame c.in-Some-runaway.is

pub returns-in-Some-runaway-clause-tally : goal.returns-in-Some-runaway-clause-tally
returns-in-Some-runaway-clause-tally g c =
    let a = g.T.Tally.count c.args.tally.now in
    let b = g.T.Tally.count c.frame.new.tally in
    steps_tally c.self.inside.machine c.self.inside.ended c.args.self.now c.in-Some.at
    (λ (ks : List ℕ). b ≡ raised a (activated_count (Some c.in-Some-runaway.instance) ks)) c.self.view_is c.if-self.false c.in-Some.ensures.next
    (λ w h. c.in_ok-frame.ensures.tally w h ∙ ap (λ (r : Option ℕ). raised a (activated_count r (woken_in c.self.inside.machine w c.in-Some.at))) c.in-Some-runaway.is)

pub returns-in-None-clause-step : goal.returns-in-None-clause-step
returns-in-None-clause-step g c =
    steps_frame c.self.inside.machine c.frame.new.self c.self.inside.ended c.args.self.now c.in-Some.at c.in_ok-frame.frame c.in_ok-frame.runaway c.self.view_is c.if-self.false c.in-Some.ensures.next
    c.in_ok-frame.ensures.frame c.in-None.is

pub returns-in-None-clause-tally : goal.returns-in-None-clause-tally
returns-in-None-clause-tally g c =
    let a = g.T.Tally.count c.args.tally.now in
    let b = g.T.Tally.count c.frame.new.tally in
    steps_tally c.self.inside.machine c.self.inside.ended c.args.self.now c.in-Some.at (λ (ks : List ℕ). b ≡ raised a (length ks)) c.self.view_is c.if-self.false c.in-Some.ensures.next
    (λ w h. c.in_ok-frame.ensures.tally w h ∙ ap (λ (r : Option ℕ). raised a (activated_count r (woken_in c.self.inside.machine w c.in-Some.at))) c.in-None.is)

pub returns-then-self-clause-step : goal.returns-then-self-clause-step
returns-then-self-clause-step g c = λ w h. absurd (ended_stands c.self.inside.machine c.self.inside.ended c.args.self.now w c.self.view_is c.if-self.true h)

pub returns-then-self-clause-tally : goal.returns-then-self-clause-tally
returns-then-self-clause-tally g c = λ w h. raised_none (g.T.Tally.count c.args.tally.now)

pub returns-in_default-clause-step : goal.returns-in_default-clause-step
returns-in_default-clause-step g c = λ w h.
    (sym (next_seen c.self.inside.machine c.self.inside.ended c.args.self.now None c.self.view_is c.if-self.false c.in_default.ensures.next w h), refl)

pub returns-in_default-clause-tally : goal.returns-in_default-clause-tally
returns-in_default-clause-tally g c = λ w h. raised_none (g.T.Tally.count c.args.tally.now)

pub returns-in_default-clause-ended : goal.returns-in_default-clause-ended
returns-in_default-clause-ended g c = λ e. absurd (goes_on_still c.self.inside.machine c.self.inside.ended c.args.self.now c.self.view_is c.if-self.false e)

pub returns-in_default-clause-ended_tally : goal.returns-in_default-clause-ended_tally
returns-in_default-clause-ended_tally g c = λ e. absurd (goes_on_still c.self.inside.machine c.self.inside.ended c.args.self.now c.self.view_is c.if-self.false e)

pub returns-in_err-frame-clause-ended : goal.returns-in_err-frame-clause-ended
returns-in_err-frame-clause-ended g c = λ e. absurd (goes_on_still c.self.inside.machine c.self.inside.ended c.args.self.now c.self.view_is c.if-self.false e)

pub returns-in_err-frame-clause-ended_tally : goal.returns-in_err-frame-clause-ended_tally
returns-in_err-frame-clause-ended_tally g c = λ e. absurd (goes_on_still c.self.inside.machine c.self.inside.ended c.args.self.now c.self.view_is c.if-self.false e)

pub returns-in-Some-runaway-clause-ended : goal.returns-in-Some-runaway-clause-ended
returns-in-Some-runaway-clause-ended g c = λ e. absurd (goes_on_still c.self.inside.machine c.self.inside.ended c.args.self.now c.self.view_is c.if-self.false e)

pub returns-in-Some-runaway-clause-ended_tally : goal.returns-in-Some-runaway-clause-ended_tally
returns-in-Some-runaway-clause-ended_tally g c = λ e. absurd (goes_on_still c.self.inside.machine c.self.inside.ended c.args.self.now c.self.view_is c.if-self.false e)

pub returns-in-None-clause-ended : goal.returns-in-None-clause-ended
returns-in-None-clause-ended g c = λ e. absurd (goes_on_still c.self.inside.machine c.self.inside.ended c.args.self.now c.self.view_is c.if-self.false e)

pub returns-in-None-clause-ended_tally : goal.returns-in-None-clause-ended_tally
returns-in-None-clause-ended_tally g c = λ e. absurd (goes_on_still c.self.inside.machine c.self.inside.ended c.args.self.now c.self.view_is c.if-self.false e)

pub returns-in_err-frame-clause-module : goal.returns-in_err-frame-clause-module
returns-in_err-frame-clause-module g c = ap (λ (m : SimState). m.«module».now) c.frame.ensures.same ∙ ap (λ (z : Simulation). z.arena) c.self.view_is

pub returns-in_err-frame-clause-design : goal.returns-in_err-frame-clause-design
returns-in_err-frame-clause-design g c = ap (λ (m : SimState). m.design) c.frame.ensures.same ∙ ap (λ (z : Simulation). z.design) c.self.view_is

pub returns-in-Some-runaway-clause-module : goal.returns-in-Some-runaway-clause-module
returns-in-Some-runaway-clause-module g c = ap (λ (m : SimState). m.«module».now) c.frame.ensures.same ∙ ap (λ (z : Simulation). z.arena) c.self.view_is

pub returns-in-Some-runaway-clause-design : goal.returns-in-Some-runaway-clause-design
returns-in-Some-runaway-clause-design g c = ap (λ (m : SimState). m.design) c.frame.ensures.same ∙ ap (λ (z : Simulation). z.design) c.self.view_is

pub returns-in-None-clause-module : goal.returns-in-None-clause-module
returns-in-None-clause-module g c = ap (λ (m : SimState). m.«module».now) c.frame.ensures.same ∙ ap (λ (z : Simulation). z.arena) c.self.view_is

pub returns-in-None-clause-design : goal.returns-in-None-clause-design
returns-in-None-clause-design g c = ap (λ (m : SimState). m.design) c.frame.ensures.same ∙ ap (λ (z : Simulation). z.design) c.self.view_is
