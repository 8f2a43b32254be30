use Rattle.std.proofs.Common.{length, refl, subst}
use Rattle.lh_unit.specs.Within.{Each}
use Rattle.lh_elab.specs.Answer.{InstanceIs}
use Rattle.lh_eval.specs.declared.instance.Instance.{Instance}
use Rattle.std.proofs.Common.{List, sym}
use Rattle.lh_kernel.proofs.FirstStates.{started_more, started_all}
use Rattle.lh_kernel.proofs.start.starts.Goals as goal

pub loop-instance-preserved : goal.loop-instance-preserved
loop-instance-preserved c =
    let P : List Instance → Type 0 = λ is. Each (InstanceIs c.args.m.now (length c.args.d.now.init)) is in
    started_more c.args.m.now (length c.args.d.now.init) c.instances-instance-items.result.now c.loop-instance.instance-index c.instance-item.result
    c.loop-instance.states.items c.push.new.self.items c.in_ok-start.field-0 c.requires.arena
    (subst P (sym c.instances-instance-items.ensures) c.requires.fits) c.loop-instance-test.true c.instance-item.is c.in_ok-push.ensures.items
    (c.in_ok-start.ensures.stands c.instance-item.result refl)
    (c.in_ok-start.ensures.fits c.instance-item.result (length c.args.d.now.init) refl) c.loop-instance.invariant

pub returns-clause-stand : goal.returns-clause-stand
returns-clause-stand c = (started_all c.args.m.now (length c.args.d.now.init) c.instances-instance-items.result.now c.args.d.now.instances.items c.loop-instance.instance-index
    c.loop-instance.states.items c.instances-instance-items.ensures c.loop-instance-test.false c.loop-instance.invariant).stand

pub returns-clause-fit : goal.returns-clause-fit
returns-clause-fit c = (started_all c.args.m.now (length c.args.d.now.init) c.instances-instance-items.result.now c.args.d.now.instances.items c.loop-instance.instance-index
    c.loop-instance.states.items c.instances-instance-items.ensures c.loop-instance-test.false c.loop-instance.invariant).fit

pub returns-clause-wakes : goal.returns-clause-wakes
returns-clause-wakes c = (started_all c.args.m.now (length c.args.d.now.init) c.instances-instance-items.result.now c.args.d.now.instances.items c.loop-instance.instance-index
    c.loop-instance.states.items c.instances-instance-items.ensures c.loop-instance-test.false c.loop-instance.invariant).wakes
