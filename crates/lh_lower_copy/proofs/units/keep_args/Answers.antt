use Rattle.std.proofs.Common.{drop, arith}
use Rattle.std.proofs.lemmas.List.{drop_all}
use Rattle.lh_lower_copy.proofs.Rests.{args-start, arg-placed, arg-new, args-next, args-done}
use Rattle.lh_lower_copy.proofs.units.keep_args.Goals as goal

pub loop-arg-init : goal.loop-arg-init
loop-arg-init c = args-start c.args.from.now c.args.m.now c.args.unit c.args-args.result.now c.args-args.ensures.args c.requires.named c.requires.opened c.requires.fit

pub put_arg-requires-clause-within : goal.put_arg-requires-clause-within
put_arg-requires-clause-within c =
    let xs = c.args-args.result.now in let i = c.loop-arg.arg-index in
    arg-placed c.args.from.now c.args.m.now c.loop-arg.m c.args.unit xs (drop i xs) i c.arg-item.result c.args-args.ensures.sound c.requires.there c.args-args.ensures.args c.loop-arg.invariant
    (omega arith) c.arg-item.is

pub put_arg-requires-clause-undefined : goal.put_arg-requires-clause-undefined
put_arg-requires-clause-undefined c =
    arg-new c.args.from.now c.args.m.now c.loop-arg.m c.args.unit c.args-args.result.now c.loop-arg.arg-index c.arg-item.result c.args-args.ensures.sound c.requires.there c.args-args.ensures.args
    c.loop-arg.invariant (omega arith) c.arg-item.is

pub loop-arg-preserved : goal.loop-arg-preserved
loop-arg-preserved c =
    args-next c.args.from.now c.args.m.now c.loop-arg.m c.args.unit c.args-args.result.now c.loop-arg.arg-index c.arg-item.result c.args-args.ensures.sound c.requires.there c.args-args.ensures.args
    c.loop-arg.invariant (omega arith) c.arg-item.is
    c.put_arg.new.m c.in_ok-ty.ty c.requires.opened c.in_ok-ty.ensures c.in_ok-put_arg.ensures

pub returns : goal.returns
returns c =
    let xs = c.args-args.result.now in let i = c.loop-arg.arg-index in
    args-done c.args.from.now c.args.m.now c.loop-arg.m c.args.unit (drop i xs) (drop_all i xs (omega arith)) c.loop-arg.invariant
