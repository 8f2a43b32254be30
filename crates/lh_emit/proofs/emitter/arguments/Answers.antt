use Rattle.lh_emit.proofs.EmptyEntity.{args-first, args-next, args-end}
use Rattle.lh_emit.proofs.emitter.arguments.Goals as goal

pub loop-left-init : goal.loop-left-init
loop-left-init c = args-first c.args.names.now c.new-lines.result c.new-lines.ensures.room c.new-lines.ensures.begins

pub add_arg-requires : goal.add_arg-requires
add_arg-requires c = c.loop-left.invariant.room

pub loop-left-preserved : goal.loop-left-preserved
loop-left-preserved c = args-next c.args.names.now c.loop-left.lines c.add_arg.new.self c.loop-left.left.now c.name-item.result c.loop-left.invariant c.in-len1-up.len_at_least c.name-item.is
    c.in_ok-add_arg.ensures

pub returns : goal.returns
returns c = args-end c.args.names.now c.loop-left.lines c.loop-left.left.now c.loop-left.invariant c.in_default.len_below
