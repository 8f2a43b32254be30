use Rattle.std.proofs.Common.{◌≡◌, length}
use Rattle.lh_lex.specs.Front.{lexemes_to_bad}
use Rattle.lh_lex.proofs.from_token.Given as goal

abbrev pub invariant-loop-b : goal.invariant-loop-b
invariant-loop-b l = lexemes_to_bad l.rest ≡ lexemes_to_bad l.text

abbrev pub decreases-loop-b : goal.decreases-loop-b
decreases-loop-b l = length l.rest
