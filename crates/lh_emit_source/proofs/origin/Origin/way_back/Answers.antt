use Rattle.std.proofs.Common.{ℕ, ◌<◌, subst, sym}
use Rattle.lh_emit_source.proofs.WaysBack.{back-start, back-next, back-end}
use Rattle.lh_emit_source.proofs.origin.Origin.way_back.Goals as goal

pub loop-step-init : goal.loop-step-init
loop-step-init c =
    back-start c.args.self.now.flat.now c.args.self.now.parts.now c.args.from.0 c.new-way.result c.requires.steps c.requires.table c.requires.is_in c.requires.there c.new-way.ensures

pub step-requires : goal.step-requires
step-requires c = subst (λ (n : ℕ). c.loop-step.value.0 < n) (sym c.requires.table.long_steps) c.loop-step.invariant.is_in

pub loop-step-smaller : goal.loop-step-smaller
loop-step-smaller c =
    let x = c.args.self.now in
    (back-next x.flat.now x.parts.now c.args.from.0 c.loop-step.way c.push.new.self c.loop-step.value c.in-Some.step.now c.requires.steps c.requires.table c.loop-step.invariant c.in-Some.ensures
    c.in_ok-push.ensures.ok).fewer

pub loop-step-preserved : goal.loop-step-preserved
loop-step-preserved c =
    let x = c.args.self.now in
    (back-next x.flat.now x.parts.now c.args.from.0 c.loop-step.way c.push.new.self c.loop-step.value c.in-Some.step.now c.requires.steps c.requires.table c.loop-step.invariant c.in-Some.ensures
    c.in_ok-push.ensures.ok).back

pub returns : goal.returns
returns c = back-end c.args.self.now.flat.now c.args.self.now.parts.now c.args.from.0 c.loop-step.way c.loop-step.value.0 c.requires.table c.loop-step.invariant c.in_default.ensures
