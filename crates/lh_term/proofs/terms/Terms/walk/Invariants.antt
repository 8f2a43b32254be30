use Rattle.std.proofs.Common.{◌+◌, ◌*◌, length}
use Rattle.lh_term.proofs.Walks.{Walk, tops, unset, marks}
use Rattle.lh_term.proofs.terms.Terms.walk.Given as goal

abbrev pub invariant-loop-x : goal.invariant-loop-x
invariant-loop-x l = Walk l.self l.fn.t (marks l.seen.keys (l.fn.t.0 + 1)) l.found (tops l.ahead.items)

abbrev pub decreases-loop-x : goal.decreases-loop-x
decreases-loop-x l = 2 * unset (marks l.seen.keys (l.fn.t.0 + 1)) + length l.ahead.items
