use Rattle.std.proofs.Common.{sym, subst}
use Rattle.lh_read.specs.Mentions.{EachNamed}
use Rattle.lh_read.proofs.NamedEntries.{named-none}
use Rattle.lh_read.proofs.reader.Reader.new.Goals as goal

pub returns-clause-order : goal.returns-clause-order
returns-clause-order c = record { place = tt; named = subst EachNamed (sym c.new.ensures.empty) named-none }
