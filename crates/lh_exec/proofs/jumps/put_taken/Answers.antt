use Rattle.std.proofs.Common.{refl}
use Rattle.lh_exec.proofs.Lists.{put-step}
use Rattle.lh_exec.proofs.jumps.put_taken.Goals as goal

pub set-requires : goal.set-requires
set-requires c = (put-step c.loop-last.taken.items c.pop.new.self.items c.in-Some.last c.loop-last.slots _ _ c.in-Some.ensures.items refl c.loop-last.invariant.same c.loop-last.invariant.within).2

pub loop-last-preserved : goal.loop-last-preserved
loop-last-preserved c =
    let r = put-step c.loop-last.taken.items c.pop.new.self.items c.in-Some.last c.loop-last.slots c.set.new.self _ c.in-Some.ensures.items c.set.ensures c.loop-last.invariant.same
    c.loop-last.invariant.within in
    record { same = r.0; within = r.1 }
