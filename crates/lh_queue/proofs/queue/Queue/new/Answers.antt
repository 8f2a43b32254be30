use Rattle.std.proofs.Common.{[]}
use Rattle.lh_queue.specs.Stored.{held_by}
use Rattle.lh_queue.proofs.Storage.{seen, nothing_stored}
use Rattle.lh_queue.proofs.Among.{holds_nothing}
use Rattle.lh_queue.proofs.queue.Queue.new.Goals as goal

pub returns-clause-held : goal.returns-clause-held
returns-clause-held c = seen c.new.result c.new-2.result.items [] (nothing_stored c.new.result c.new-2.result.items c.new.ensures.empty c.new-2.ensures)

pub invariant_of-result : goal.invariant_of-result
invariant_of-result c = ([], nothing_stored c.new.result c.new-2.result.items c.new.ensures.empty c.new-2.ensures)

pub returns-clause-holds : goal.returns-clause-holds
returns-clause-holds c = holds_nothing (held_by c.new.result c.new-2.result.items)
    (seen c.new.result c.new-2.result.items [] (nothing_stored c.new.result c.new-2.result.items c.new.ensures.empty c.new-2.ensures))
