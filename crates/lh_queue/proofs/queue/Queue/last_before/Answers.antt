use Rattle.std.proofs.Common.{sym, arith}
use Rattle.lh_queue.proofs.WishPlaces.{further, there, goes_after}
use Rattle.lh_queue.proofs.queue.Queue.last_before.Goals as goal

pub next_before-requires : goal.next_before-requires
next_before-requires c = there c.args.self.now.held c.args.w.now c.requires.order c.requires.keys c.requires.apart c.loop-next.to c.loop-next.invariant

pub loop-next-preserved : goal.loop-next-preserved
loop-next-preserved c = (further c.args.self.now.held c.args.w.now c.requires.order c.requires.keys c.requires.apart c.loop-next.to c.in-Some.next c.loop-next.invariant (sym c.in-Some.ensures)).to

pub loop-next-smaller : goal.loop-next-smaller
loop-next-smaller c =
    let f = further c.args.self.now.held c.args.w.now c.requires.order c.requires.keys c.requires.apart c.loop-next.to c.in-Some.next c.loop-next.invariant (sym c.in-Some.ensures) in
    omega (arith, f.less)

pub returns : goal.returns
returns c = goes_after c.args.self.now.held c.args.w.now c.requires.order c.requires.keys c.requires.apart c.loop-next.to c.loop-next.invariant (sym c.in_default.ensures)
