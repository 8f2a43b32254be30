use Rattle.std.proofs.Common.{◌≡◌, ◌++◌, ◌∷◌, [], ◌<◌, ◌≤◌, length, drop, get_or, refl, ap, ◌∙◌, arith}
use Rattle.lh_emit.specs.Operands.{with_type}
use Rattle.lh_emit.specs.Operations.{each_with_type}
use Rattle.lh_emit.proofs.OperationOperands.{each-in, each-next, each-all}
use Rattle.lh_emit.proofs.operations.each_typed.Goals as goal

pub ty-requires : goal.ty-requires
ty-requires c = each-in c.args.terms.now c.args.of.now c.loop-k.k c.requires.within (omega (arith, c.requires.long))

pub loop-k-init : goal.loop-k-init
loop-k-init c = ap (λ ts. ts ++ each_with_type c.args.terms.now c.args.of.now c.args.values.now) c.new-operands.ensures

pub loop-k-preserved : goal.loop-k-preserved
loop-k-preserved c =
    let value = get_or c.args.values.now c.loop-k.k (record { 0 = 0 }) in
    each-next c.args.terms.now c.args.of.now c.args.values.now c.loop-k.k c.loop-k.operands c.push.new.self (each_with_type c.args.terms.now c.args.of.now c.args.values.now) (record { 0 = 0 })
    (record { 0 = 0 })
    c.loop-k-test.true c.requires.long c.loop-k.invariant
    (c.in_ok-push.ensures.ok ∙ ap (λ o. c.loop-k.operands ++ o ∷ []) (c.in_ok-operand.ensures ∙ ap (λ t. with_type t value) c.ty.ensures))

pub returns : goal.returns
returns c = each-all c.args.terms.now c.args.of.now c.args.values.now c.loop-k.k c.loop-k.operands (omega arith) c.loop-k.invariant
