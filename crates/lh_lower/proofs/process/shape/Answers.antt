use Rattle.std.proofs.Common.{Ok, subst}
use Rattle.lh_unit.specs.Arena.{Arena, unit_name_at}
use Rattle.lh_flat.specs.Flat as flat
use Rattle.lh_flat.specs.Marks.{UnitsAreNamed}
use Rattle.lh_flat.specs.Reads.{Flattens}
use Rattle.lh_flat.specs.declared.fault.FlatFault.TheVariants as fault
use Rattle.lh_lower.proofs.OfModule.{form-at, shape-at, shape-left, refused-in}
use Rattle.lh_lower.proofs.Outcomes.{if-ok}
use Rattle.lh_lower.proofs.process.shape.Goals as goal

pub shape_of_flat-requires : goal.shape_of_flat-requires
shape_of_flat-requires c =
    let a = c.args.m.now in let u = c.args.unit.0 in let t = c.in-Ok.flat in let same = c.in_ok-flattener.ensures in
    form-at a u c.read_arena.ensures c.requires.formed (subst UnitsAreNamed same c.in_ok-flattener.flattener.named) c.formed_law.ensures c.requires.within c.requires.process t c.in-Ok.ensures.below
    (subst (λ (z : Arena). Flattens z u (Ok t)) same c.in-Ok.ensures.flat)

pub returns-in-Ok-clause-is : goal.returns-in-Ok-clause-is
returns-in-Ok-clause-is c =
    let a = c.args.m.now in let u = c.args.unit.0 in let t = c.in-Ok.flat in let same = c.in_ok-flattener.ensures in
    if-ok c.shape_of_flat.result _ _
    (λ s h. shape-at a u c.read_arena.ensures c.requires.formed (subst UnitsAreNamed same c.in_ok-flattener.flattener.named) c.formed_law.ensures c.requires.within c.requires.process t c.in-Ok.ensures.below
    (subst (λ (z : Arena). Flattens z u (Ok t)) same c.in-Ok.ensures.flat) c.shape_of_flat.new.terms s h) c.shape_of_flat.ensures.is

pub returns-in-Err-RecursiveCall-clause-is : goal.returns-in-Err-RecursiveCall-clause-is
returns-in-Err-RecursiveCall-clause-is c =
    let a = c.args.m.now in let r = c.in-Err-RecursiveCall in
    shape-left a c.args.unit.0 c.args.terms.now (flat.recursive_call (unit_name_at a r.field-0-0.0))
    (refused-in a c.in_ok-flattener.flattener.m.now c.args.unit.0 r.field-0 (fault.RecursiveCall r.field-0-0) c.in_ok-flattener.ensures r.field-0-is r.ensures.flat)

pub returns-in-Err-CallTooDeep-clause-is : goal.returns-in-Err-CallTooDeep-clause-is
returns-in-Err-CallTooDeep-clause-is c =
    let r = c.in-Err-CallTooDeep in
    shape-left c.args.m.now c.args.unit.0 c.args.terms.now flat.call_too_deep
    (refused-in c.args.m.now c.in_ok-flattener.flattener.m.now c.args.unit.0 r.field-0 fault.CallTooDeep c.in_ok-flattener.ensures r.field-0-is r.ensures.flat)

pub returns-in-Err-FlatTooLarge-clause-is : goal.returns-in-Err-FlatTooLarge-clause-is
returns-in-Err-FlatTooLarge-clause-is c =
    let r = c.in-Err-FlatTooLarge in
    shape-left c.args.m.now c.args.unit.0 c.args.terms.now flat.flat_too_large
    (refused-in c.args.m.now c.in_ok-flattener.flattener.m.now c.args.unit.0 r.field-0 fault.FlatTooLarge c.in_ok-flattener.ensures r.field-0-is r.ensures.flat)
