use Rattle.std.proofs.Common.{sym, ap, ◌∙◌, subst, arith}
use Rattle.lh_unit.specs.Arena.{Arena, contents}
use Rattle.lh_unit.specs.WellFormed.{IsWellFormed}
use Rattle.lh_flat.specs.Marks.{UnitsAreNamed}
use Rattle.lh_lower.proofs.Whole.{is-next, one-item-more, is-lowered, lowered-formed, lowered-same}
use Rattle.lh_lower.proofs.lowering.lower.Goals as goal

pub take-requires-clause-formed : goal.take-requires-clause-formed
take-requires-clause-formed c = subst (λ (a : Arena). IsWellFormed (contents a)) (sym c.loop-item.invariant.from) c.module-module.ensures.formed

pub take-requires-clause-next : goal.take-requires-clause-next
take-requires-clause-next c =
    is-next c.args.verified.now c.items-items.result.now (c.items-items.ensures.items ∙ ap (λ (a : Arena). a.items) c.module-module.ensures.«module») c.loop-item.lowering c.loop-item.item-index
    c.loop-item.invariant c.item-item.result c.loop-item-test.true c.item-item.is

pub loop-item-preserved : goal.loop-item-preserved
loop-item-preserved c =
    one-item-more c.args.verified.now c.items-items.result.now (c.items-items.ensures.items ∙ ap (λ (a : Arena). a.items) c.module-module.ensures.«module») c.loop-item.lowering c.loop-item.item-index
    c.loop-item.invariant c.item-item.result c.loop-item-test.true
    c.item-item.is c.take.new.self c.in_ok-take.ensures.lowers

pub of_well_formed-module-requires : goal.of_well_formed-module-requires
of_well_formed-module-requires c =
    lowered-formed c.args.verified.now c.items-items.result.now (c.items-items.ensures.items ∙ ap (λ (a : Arena). a.items) c.module-module.ensures.«module») c.loop-item.lowering c.loop-item.item-index
    c.loop-item.invariant
    (omega (arith, c.loop-item-test.false, c.loop-item.auto.item-index-end)) c.into_module.result c.into_module.ensures
    c.module-module.ensures.formed (subst UnitsAreNamed c.module-module.ensures.«module» c.in_ok-lowering.ensures.named) c.well_formed_law.ensures

pub returns-clause-lowered : goal.returns-clause-lowered
returns-clause-lowered c =
    is-lowered c.args.verified.now c.items-items.result.now (c.items-items.ensures.items ∙ ap (λ (a : Arena). a.items) c.module-module.ensures.«module») c.loop-item.lowering c.loop-item.item-index
    c.loop-item.invariant
    (omega (arith, c.loop-item-test.false, c.loop-item.auto.item-index-end)) c.of_well_formed-module.result
    (c.of_well_formed-module.ensures ∙ c.into_module.ensures)

pub returns-clause-same_trace : goal.returns-clause-same_trace
returns-clause-same_trace c =
    lowered-same c.args.verified.now c.items-items.result.now (c.items-items.ensures.items ∙ ap (λ (a : Arena). a.items) c.module-module.ensures.«module») c.loop-item.lowering c.loop-item.item-index
    c.loop-item.invariant
    (omega (arith, c.loop-item-test.false, c.loop-item.auto.item-index-end)) c.of_well_formed-module.result
    (c.of_well_formed-module.ensures ∙ c.into_module.ensures) c.module-module.ensures.formed (subst UnitsAreNamed c.module-module.ensures.«module» c.in_ok-lowering.ensures.named)
    c.same_trace_law.ensures.same
