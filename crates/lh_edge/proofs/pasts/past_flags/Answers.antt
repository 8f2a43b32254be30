use Rattle.std.proofs.Common.{nat_eq}
use Rattle.std.specs.HashSet as hash
use Rattle.lh_edge.proofs.Ids.{tells_operands, tell_next}
use Rattle.lh_edge.proofs.pasts.past_flags.Goals as goal

pub note_past-requires-clause-tells : goal.note_past-requires-clause-tells
note_past-requires-clause-tells c =
    tells_operands c.args.terms.now c.loop-i.flags.items (hash.contains nat_eq c.loop-i.pasts) c.loop-i.i _ c.view-term.ensures.term c.view-term.ensures.below c.loop-i.invariant

pub loop-i-preserved : goal.loop-i-preserved
loop-i-preserved c =
    tell_next c.args.terms.now c.loop-i.flags.items c.put.new.items.items (hash.contains nat_eq c.loop-i.pasts) (hash.contains nat_eq c.note_past.new.pasts) c.loop-i.i c.in_ok-has_past.has_past
    c.loop-i.invariant c.in_ok-has_past.ensures.past c.in_ok-put.ensures c.in_ok-has_past.ensures.told
