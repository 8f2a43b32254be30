use Rattle.lh_flat_parts.proofs.Resolved.{Made, made-long, made-in_place, made-apart, made-can_step, made-table}
use Rattle.lh_flat_parts.proofs.table.PartTable.new.Goals as goal

pub resolved-requires-clause-all : goal.resolved-requires-clause-all
resolved-requires-clause-all c =
    let m : Made c.args.flat.now c.in_ok-steps.steps.given.items c.in_ok-parts.parts.items = record
    { text = c.requires; given = c.in_ok-steps.ensures.given; args = c.in_ok-parts.ensures.parts; steps_data = c.in_ok-steps.ensures.carried; args_data = c.in_ok-parts.ensures.carried } in
    made-long _ _ _ m

pub resolved-requires-clause-in_place : goal.resolved-requires-clause-in_place
resolved-requires-clause-in_place c =
    let m : Made c.args.flat.now c.in_ok-steps.steps.given.items c.in_ok-parts.parts.items = record
    { text = c.requires; given = c.in_ok-steps.ensures.given; args = c.in_ok-parts.ensures.parts; steps_data = c.in_ok-steps.ensures.carried; args_data = c.in_ok-parts.ensures.carried } in
    made-in_place _ _ _ m

pub resolved-requires-clause-can_step : goal.resolved-requires-clause-can_step
resolved-requires-clause-can_step c =
    let m : Made c.args.flat.now c.in_ok-steps.steps.given.items c.in_ok-parts.parts.items = record
    { text = c.requires; given = c.in_ok-steps.ensures.given; args = c.in_ok-parts.ensures.parts; steps_data = c.in_ok-steps.ensures.carried; args_data = c.in_ok-parts.ensures.carried } in
    made-can_step _ _ _ m

pub resolved-requires-clause-apart : goal.resolved-requires-clause-apart
resolved-requires-clause-apart c =
    let m : Made c.args.flat.now c.in_ok-steps.steps.given.items c.in_ok-parts.parts.items = record
    { text = c.requires; given = c.in_ok-steps.ensures.given; args = c.in_ok-parts.ensures.parts; steps_data = c.in_ok-steps.ensures.carried; args_data = c.in_ok-parts.ensures.carried } in
    made-apart _ _ _ m

pub returns : goal.returns
returns c =
    let m : Made c.args.flat.now c.in_ok-steps.steps.given.items c.in_ok-parts.parts.items = record
    { text = c.requires; given = c.in_ok-steps.ensures.given; args = c.in_ok-parts.ensures.parts; steps_data = c.in_ok-steps.ensures.carried; args_data = c.in_ok-parts.ensures.carried } in
    made-table c.args.flat.now (record { steps = c.in_ok-steps.steps; parts = c.in_ok-parts-2.parts }) _ m c.in_ok-steps.ensures.results c.in_ok-parts-2.ensures
