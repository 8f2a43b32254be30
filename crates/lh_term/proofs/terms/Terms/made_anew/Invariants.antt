use Rattle.std.proofs.Common.{◌≤◌, nat_eq, drop, length}
use Rattle.std.specs.HashMap as hash
use Rattle.lh_term.proofs.Swaps.{Making}
use Rattle.lh_term.proofs.terms.Terms.made_anew.Given as goal

abbrev pub invariant-loop-k : goal.invariant-loop-k
invariant-loop-k l = record { within : l.k ≤ length l.made_of; making : Making l.fn.self l.self l.by (hash.get nat_eq l.made) (drop l.k l.made_of) }

abbrev pub decreases-loop-k : goal.decreases-loop-k
decreases-loop-k l = l.k
