use Rattle.std.proofs.Common.{ap, sym, ◌∙◌}
use Rattle.std.specs.Option.{option_copied}
use Rattle.lh_elab_plan.proofs.PlanSteps.{signal-fits}
use Rattle.lh_elab_plan.proofs.plan.signal.Goals as goal

pub returns-clause-fit : goal.returns-clause-fit
returns-clause-fit c =
    let ty = sym c.get.ensures ∙ ap option_copied c.in-Some-Some.is-1 in
    signal-fits c.args.m.now c.args.unit.0 c.args.slots.now c.args.name c.in-Some-Some.value c.args.initial.now c.in-Some-Some.ty.now c.in_ok-copy-2.field-0 c.in_ok-initial_bits.field-0
    c.in-Some-Some.is-0 ty c.requires.line c.in_ok-copy-2.ensures c.in_ok-initial_bits.ensures
