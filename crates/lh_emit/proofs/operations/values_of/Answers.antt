use Rattle.std.proofs.Common.{◌≡◌, ◌++◌, ◌∷◌, [], ◌<◌, ◌≤◌, length, map, drop, Some, refl, ap, ◌∙◌, arith}
use Rattle.lh_emit.specs.Values.{value_in}
use Rattle.lh_emit.proofs.OperationOperands.{has-value, value-next, value-all}
use Rattle.lh_emit.proofs.operations.values_of.Goals as goal

pub value_of-requires : goal.value_of-requires
value_of-requires c = has-value c.args.values.now c.args.of.now c.loop-k.k (record { 0 = 0 }) c.requires (omega arith)

pub loop-k-init : goal.loop-k-init
loop-k-init c = ap (λ ts. map Some ts ++ map (value_in c.args.values.now) c.args.of.now) c.new-list.ensures

pub loop-k-preserved : goal.loop-k-preserved
loop-k-preserved c =
    value-next c.args.values.now c.args.of.now c.loop-k.k c.loop-k.list c.push.new.self c.value_of.result (record { 0 = 0 }) c.loop-k-test.true c.loop-k.invariant c.value_of.ensures
    c.in_ok-push.ensures.ok

pub returns : goal.returns
returns c = value-all c.args.values.now c.args.of.now c.loop-k.k c.loop-k.list (omega arith) c.loop-k.invariant
