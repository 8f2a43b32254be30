use Rattle.std.proofs.Common.{Ok, subst}
use Rattle.lh_unit.specs.Arena.{Arena, unit_name_at}
use Rattle.lh_flat.specs.Flat as flat
use Rattle.lh_flat.specs.Marks.{UnitsAreNamed}
use Rattle.lh_flat.specs.Reads.{Flattens}
use Rattle.lh_flat.specs.declared.fault.FlatFault.TheVariants as fault
use Rattle.lh_lower.specs.Outcomes.{IsOutcomeAt, IsOutcomeBy}
use Rattle.lh_lower.proofs.Outcomes.{if-ok}
use Rattle.lh_lower.proofs.OfModule.{has-args, outcome-at, left-as, refused-in}
use Rattle.lh_lower.proofs.outcome.outcome_of.Goals as goal

pub outcome_by-requires : goal.outcome_by-requires
outcome_by-requires c =
    let a = c.args.from.now in let u = c.args.unit.0 in let t = c.in-Ok.flat in let same = c.requires.same in
    has-args a u c.names_of_args.ensures.sound c.requires.formed (subst UnitsAreNamed same c.args.flattener.now.named) c.formed_law.ensures c.requires.within c.requires.process t c.in-Ok.ensures.below
    (subst (λ (z : Arena). Flattens z u (Ok t)) same c.in-Ok.ensures.flat) c.in_ok-names.names c.in_ok-names.ensures.names

pub returns-in-Ok-clause-is : goal.returns-in-Ok-clause-is
returns-in-Ok-clause-is c =
    let a = c.args.from.now in let u = c.args.unit.0 in let t = c.in-Ok.flat in let same = c.requires.same in let ns = c.in_ok-names.names in
    if-ok c.outcome_by.result (IsOutcomeBy ns t) (IsOutcomeAt a u)
    (λ y h. outcome-at a u c.names_of_args.ensures.sound c.requires.formed (subst UnitsAreNamed same c.args.flattener.now.named) c.formed_law.ensures c.requires.within c.requires.process t
    c.in-Ok.ensures.below
    (subst (λ (z : Arena). Flattens z u (Ok t)) same c.in-Ok.ensures.flat) ns y c.in_ok-names.ensures.names h) c.outcome_by.ensures.is

pub returns-in-Err-RecursiveCall-clause-is : goal.returns-in-Err-RecursiveCall-clause-is
returns-in-Err-RecursiveCall-clause-is c =
    let a = c.args.from.now in let r = c.in-Err-RecursiveCall in
    left-as a c.args.unit.0 (flat.recursive_call (unit_name_at a r.field-0-0.0))
    (refused-in a c.args.flattener.now.m.now c.args.unit.0 r.field-0 (fault.RecursiveCall r.field-0-0) c.requires.same r.field-0-is r.ensures.flat)

pub returns-in-Err-CallTooDeep-clause-is : goal.returns-in-Err-CallTooDeep-clause-is
returns-in-Err-CallTooDeep-clause-is c =
    let r = c.in-Err-CallTooDeep in
    left-as c.args.from.now c.args.unit.0 flat.call_too_deep
    (refused-in c.args.from.now c.args.flattener.now.m.now c.args.unit.0 r.field-0 fault.CallTooDeep c.requires.same r.field-0-is r.ensures.flat)

pub returns-in-Err-FlatTooLarge-clause-is : goal.returns-in-Err-FlatTooLarge-clause-is
returns-in-Err-FlatTooLarge-clause-is c =
    let r = c.in-Err-FlatTooLarge in
    left-as c.args.from.now c.args.unit.0 flat.flat_too_large
    (refused-in c.args.from.now c.args.flattener.now.m.now c.args.unit.0 r.field-0 fault.FlatTooLarge c.requires.same r.field-0-is r.ensures.flat)
