use Rattle.std.proofs.Common.{◌≡◌, ◌-◌, ◌+◌, suc, refl, ◌∙◌, arith}
use Rattle.lh_selftest.proofs.Courses.{going_first, going_on, going_over, going_last}
use Rattle.lh_selftest.proofs.course.run.Goals as goal

pub loop-frame-init : goal.loop-frame-init
loop-frame-init c = record {
  arena = refl;
  design = refl;
  course = λ w st. going_first _ _ _ _ w _ _ (omega arith) st c.new-counts.ensures;
}

pub loop-frame-preserved : goal.loop-frame-preserved
loop-frame-preserved c = record {
  arena = c.in_ok-step.ensures.«module» ∙ c.loop-frame.invariant.arena;
  design = c.in_ok-step.ensures.design ∙ c.loop-frame.invariant.design;
  course = λ w st.
      let one_less : c.args.frames - c.loop-frame._frame ≡ suc (c.args.frames - (c.loop-frame._frame + 1)) = omega arith in
      going_on _ _ _ _ _ _ _ _ _ _ _ _ c.loop-frame.invariant.arena c.loop-frame.invariant.design one_less (c.loop-frame.invariant.course w st) c.in-None.is c.in_ok-step.ensures.comes;
}

pub returns-in-Some : goal.returns-in-Some
returns-in-Some c = λ w st.
    let one_less : c.args.frames - c.loop-frame._frame ≡ suc (c.args.frames - (c.loop-frame._frame + 1)) = omega arith in
    going_over _ _ _ _ _ _ _ _ _ _ _ _ c.in-Some.ending c.loop-frame.invariant.arena c.loop-frame.invariant.design one_less (c.loop-frame.invariant.course w st) c.in-Some.is c.in_ok-step.ensures.comes

pub returns : goal.returns
returns c = λ w st.
    let none : c.args.frames - c.loop-frame._frame ≡ 0 = omega arith in
    going_last _ _ _ _ _ _ _ none (c.loop-frame.invariant.course w st) c.ending_at_bound-ending.ensures
