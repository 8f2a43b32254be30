use Rattle.std.proofs.Common.{drop, arith}
use Rattle.std.proofs.lemmas.List.{drop_all}
use Rattle.lh_lower_copy.proofs.Bodies.{ports-start, port-within, port-new, ports-next, ports-done}
use Rattle.lh_lower_copy.proofs.entities.put_args.Goals as goal

pub loop-k-init : goal.loop-k-init
loop-k-init c = ports-start c.args.from.now c.args.m.now c.args.unit c.args-arg-items.result.now c.args-arg-items.ensures.args c.requires.named c.requires.opened c.requires.fit

pub put_arg-requires-clause-within : goal.put_arg-requires-clause-within
put_arg-requires-clause-within c =
    port-within c.args.from.now c.args.m.now c.loop-k.m c.args.unit c.args-arg-items.result.now c.loop-k.k c.arg-item.result c.args-arg-items.ensures.args c.loop-k.invariant (omega arith)
    c.arg-item.is

pub put_arg-requires-clause-undefined : goal.put_arg-requires-clause-undefined
put_arg-requires-clause-undefined c =
    port-new c.args.from.now c.args.m.now c.loop-k.m c.args.unit c.args-arg-items.result.now c.loop-k.k c.arg-item.result c.args-arg-items.ensures.args c.loop-k.invariant (omega arith) c.arg-item.is

pub loop-k-preserved : goal.loop-k-preserved
loop-k-preserved c =
    ports-next c.args.from.now c.args.m.now c.loop-k.m c.args.unit c.args-arg-items.result.now c.loop-k.k c.arg-item.result c.args-arg-items.ensures.args c.loop-k.invariant (omega arith) c.arg-item.is
    c.put_arg.new.m c.in_ok-ty.ty c.requires.opened c.in_ok-ty.ensures c.in_ok-put_arg.ensures

pub returns : goal.returns
returns c =
    let xs = c.args-arg-items.result.now in let i = c.loop-k.k in
    ports-done c.args.from.now c.args.m.now c.loop-k.m c.args.unit (drop i xs) (drop_all i xs (omega arith)) c.loop-k.invariant
