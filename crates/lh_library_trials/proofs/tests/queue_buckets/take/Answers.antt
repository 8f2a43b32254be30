use Rattle.std.proofs.Common.{List, sym, subst}
use Rattle.lh_queue.specs.Queued.{QueuedWish, EachWithin}
use Rattle.lh_queue.proofs.KeptWishes.{later_within}
use Rattle.lh_library_trials.proofs.tests.queue_buckets.take.Goals as goal

pub returns-then-len-eq8 : goal.returns-then-len-eq8
returns-then-len-eq8 c =
    let P : List QueuedWish → Type 0 = EachWithin 8 in
    subst P (sym c.take_due.ensures.left) (later_within 8 c.args.queue.now.held c.args.at c.requires)
