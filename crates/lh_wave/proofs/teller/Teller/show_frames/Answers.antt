use Rattle.std.proofs.Common.{◌≡◌, ◌-◌, ◌+◌, suc, refl, ◌∙◌, arith}
use Rattle.std.proofs.lemmas.Result.{err_from_is_err_and}
use Rattle.lh_wave.proofs.Runs.{course_start, course_next, course_over, course_broken, course_end}
use Rattle.lh_wave.proofs.teller.Teller.show_frames.Goals as goal

pub loop-step-init : goal.loop-step-init
loop-step-init g c = record {
  steady = c.requires;
  arena = refl;
  design = refl;
  never_fall = omega arith;
  course = λ w st b. course_start _ _ _ _ w _ c.args.self.now _ _ _ (omega arith) st b;
}

pub loop-step-preserved : goal.loop-step-preserved
loop-step-preserved g c = record {
  steady = c.in_ok-turn.ensures.steady;
  arena = c.in_ok-turn.ensures.arena ∙ c.loop-step.invariant.arena;
  design = c.in_ok-turn.ensures.design ∙ c.loop-step.invariant.design;
  never_fall = omega (arith, c.loop-step.invariant.never_fall, c.in_ok-turn.ensures.never_fall);
  course = λ w st b.
      let one_less : c.args.steps - c.loop-step._step ≡ suc (c.args.steps - (c.loop-step._step + 1)) = omega arith in
      course_next _ _ c.loop-step.sim c.turn.new.sim c.loop-step.self c.turn.new.self _ _ _ _ _ _ _ _ _ c.loop-step.invariant.arena c.loop-step.invariant.design one_less
      (c.loop-step.invariant.course w st b) _ c.in-None.is
      c.in_ok-turn.ensures.ok;
}

pub returns-in_err-turn-clause-err : goal.returns-in_err-turn-clause-err
returns-in_err-turn-clause-err g c =
    let p = err_from_is_err_and c.from_residual.result c.from_residual.ensures.1 in
    let one_less : c.args.steps - c.loop-step._step ≡ suc (c.args.steps - (c.loop-step._step + 1)) = omega arith in
    rw (p.1, p.2)
    (λ w st b. course_broken _ _ c.loop-step.sim c.turn.new.sim c.loop-step.self c.turn.new.self _ _ _ _ _ c.turn.new.reports.items _ _ _ c.loop-step.invariant.arena c.loop-step.invariant.design
    one_less
    (c.loop-step.invariant.course w st b) _ c.in_err-turn.ensures.err)

pub returns-in-Some-clause-ok : goal.returns-in-Some-clause-ok
returns-in-Some-clause-ok g c = λ w st b.
    let one_less : c.args.steps - c.loop-step._step ≡ suc (c.args.steps - (c.loop-step._step + 1)) = omega arith in
    course_over _ _ c.loop-step.sim c.turn.new.sim c.loop-step.self c.turn.new.self _ _ _ _ _ _ _ _ _ c.loop-step.invariant.arena c.loop-step.invariant.design one_less
    (c.loop-step.invariant.course w st b) _ c.in-Some.end
    c.in-Some.is c.in_ok-turn.ensures.ok

pub returns-clause-ok : goal.returns-clause-ok
returns-clause-ok g c = λ w st b.
    let none : c.args.steps - c.loop-step._step ≡ 0 = omega arith in
    course_end _ _ _ _ c.loop-step.self _ _ _ _ _ none c.end_at_bound.ensures (c.loop-step.invariant.course w st b)
