use Rattle.std.proofs.Common.{◌≡◌, map, length}
use Rattle.lh_read_phrases.specs.Words.{found}
use Rattle.lh_read_phrases.proofs.words.find.Given as goal

abbrev pub invariant-loop-table : goal.invariant-loop-table
invariant-loop-table g l = found (map (λ r. (r.0.now, r.1)) l.table) l.word ≡ found (map (λ r. (r.0.now, r.1)) l.initial.table) l.word

abbrev pub decreases-loop-table : goal.decreases-loop-table
decreases-loop-table g l = length l.table
