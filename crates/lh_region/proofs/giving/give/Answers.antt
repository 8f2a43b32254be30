use Rattle.lh_region.proofs.TermGiven.{gives-term}
use Rattle.lh_region.proofs.giving.give.Goals as goal

pub returns-clause-gives : goal.returns-clause-gives
returns-clause-gives c = gives-term c.args.places.now.items c.keep.new.self.items c.args.at c.args.value c.args.term c.in_ok-keep.ensures
