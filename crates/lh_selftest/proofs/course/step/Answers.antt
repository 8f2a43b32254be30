use Rattle.lh_selftest.proofs.Courses.{comes_quiet, comes_on, comes_runaway}
use Rattle.lh_selftest.proofs.course.step.Goals as goal

pub returns-in-Quiet-clause-comes : goal.returns-in-Quiet-clause-comes
returns-in-Quiet-clause-comes g c = λ n w seen st counted. comes_quiet _ _ w _ n seen _ (c.in_ok-step.ensures.step w st) c.in-Quiet.is counted

pub returns-in-Frame-clause-comes : goal.returns-in-Frame-clause-comes
returns-in-Frame-clause-comes g c = λ n w seen st counted. comes_on _ _ w _ c.in-Frame.frame n seen _ (c.in_ok-step.ensures.step w st) c.in-Frame.is (c.see.ensures seen counted)

pub returns-in-Runaway-clause-comes : goal.returns-in-Runaway-clause-comes
returns-in-Runaway-clause-comes g c = λ n w seen st counted. comes_runaway _ _ w _ c.in-Runaway.frame _ n seen _ (c.in_ok-step.ensures.step w st) c.in-Runaway.is
    (c.see-in-Runaway.ensures seen counted)
