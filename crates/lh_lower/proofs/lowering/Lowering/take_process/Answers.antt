use Rattle.std.proofs.Common.{refl, sym, subst}
use Rattle.lh_unit.specs.Arena.{Arena, unit_text_at}
use Rattle.lh_lower_copy.specs.Putting.{CanPut}
use Rattle.lh_lower.specs.Outcomes.{IsOutcomeAt}
use Rattle.lh_lower.proofs.LoweredItems.{unit-within, flattens-same, copies-same, begun-there, can-add, can-put, entity-lowers, left-lowers}
use Rattle.lh_lower.proofs.lowering.Lowering.take_process.Goals as goal

pub put_entity-requires-clause-can : goal.put_entity-requires-clause-can
put_entity-requires-clause-can c = can-add c.args.self.now c.args.unit c.requires.next

pub keep-requires-clause-can : goal.keep-requires-clause-can
keep-requires-clause-can c = can-add c.args.self.now c.args.unit c.requires.next

pub returns-in_ok-put_entity-in-Entity-clause-lowers : goal.returns-in_ok-put_entity-in-Entity-clause-lowers
returns-in_ok-put_entity-in-Entity-clause-lowers c =
    let n = c.requires.next in let put = c.in_ok-put_entity-in-Entity.ensures in
    entity-lowers c.args.self.now _ c.args.unit n.lowering.sound n c.requires.process c.in_ok-kind.field-0 c.in_ok-kind.ensures.is refl c.in_ok-kind.ensures.same put.from c.push.result
    c.in-Entity.kind c.in-Entity.body c.in-Entity.is put.copies c.push.ensures.ok

pub returns-in_ok-keep-in-Left-clause-lowers : goal.returns-in_ok-keep-in-Left-clause-lowers
returns-in_ok-keep-in-Left-clause-lowers c =
    let n = c.requires.next in let kept = c.in_ok-keep-in-Left.ensures in
    left-lowers c.args.self.now _ c.args.unit n.lowering.sound n c.requires.process c.in_ok-kind.field-0 c.in_ok-kind.ensures.is refl c.in_ok-kind.ensures.same kept.from c.push-in-Left.result
    c.in-Left.reason c.in-Left.is kept.copies c.push-in-Left.ensures.ok

pub outcome_of-requires-clause-same : goal.outcome_of-requires-clause-same
outcome_of-requires-clause-same c = flattens-same c.args.self.now c.args.unit c.requires.next

pub outcome_of-requires-clause-within : goal.outcome_of-requires-clause-within
outcome_of-requires-clause-within c = unit-within c.args.self.now c.args.unit c.requires.next

pub put_entity-requires-clause-defined : goal.put_entity-requires-clause-defined
put_entity-requires-clause-defined c = begun-there c.args.self.now c.args.unit c.requires.next

pub put_entity-requires-clause-body : goal.put_entity-requires-clause-body
put_entity-requires-clause-body c =
    let l = c.args.self.now in let u = c.args.unit in let n = c.requires.next in let b = c.in-Entity.body in
    subst (λ (z : Arena). CanPut (unit_text_at z u.0) b) (sym (copies-same l u n))
    (can-put l.from.now u.0 c.in-Entity.kind b (subst (IsOutcomeAt l.from.now u.0) c.in-Entity.is c.in_ok-kind.ensures.is))

pub keep-requires-clause-defined : goal.keep-requires-clause-defined
keep-requires-clause-defined c = begun-there c.args.self.now c.args.unit c.requires.next
