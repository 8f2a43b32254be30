use Rattle.lh_queue.proofs.Storage.{lacks_at}
use Rattle.lh_queue.proofs.Among.{holds_more}
use Rattle.lh_queue.proofs.queue.Queue.put.Goals as goal

pub returns-in-Alone-clause-adds : goal.returns-in-Alone-clause-adds
returns-in-Alone-clause-adds c = let p = c.put_alone.ensures in (p.key, lacks_at c.args.self.now.held p.key p.free, p.held)

pub returns-in-Alone-clause-holds : goal.returns-in-Alone-clause-holds
returns-in-Alone-clause-holds c = let p = c.put_alone.ensures in holds_more c.args.self.now.held c.put_alone.new.self.held (record { key = p.key; wish = c.args.w }) p.held

pub returns-in-First-clause-adds : goal.returns-in-First-clause-adds
returns-in-First-clause-adds c = let p = c.put_first.ensures in (p.key, lacks_at c.args.self.now.held p.key p.free, p.held)

pub returns-in-First-clause-holds : goal.returns-in-First-clause-holds
returns-in-First-clause-holds c = let p = c.put_first.ensures in holds_more c.args.self.now.held c.put_first.new.self.held (record { key = p.key; wish = c.args.w }) p.held

pub returns-in-After-clause-adds : goal.returns-in-After-clause-adds
returns-in-After-clause-adds c = let p = c.put_after.ensures in (p.key, lacks_at c.args.self.now.held p.key p.free, p.held)

pub returns-in-After-clause-holds : goal.returns-in-After-clause-holds
returns-in-After-clause-holds c = let p = c.put_after.ensures in holds_more c.args.self.now.held c.put_after.new.self.held (record { key = p.key; wish = c.args.w }) p.held
