use Rattle.std.proofs.lemmas.Result.{IfOk-weaker}
use Rattle.lh_selftest.proofs.Answer.{course_so}
use Rattle.lh_selftest.proofs.course.course_of.Goals as goal

pub returns : goal.returns
returns c =
    let s = c.in_ok-sim.ensures in
    IfOk-weaker c.run.result _ _
    (λ x h. course_so c.args.file.now c.module.result.now c.in_ok-design.design c.in_ok-sim.sim c.args.frames x c.module.ensures.«module» s.«module» s.design s.stands c.in_ok-design.ensures.built h)
    c.run.ensures
