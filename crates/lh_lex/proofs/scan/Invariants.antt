use Rattle.std.proofs.Common.{◌≡◌, ◌+◌, length}
use Rattle.lh_unit.specs.Tokens.{tokens, tokens_after}
use Rattle.lh_lex.proofs.Joined.{joined}
use Rattle.lh_lex.proofs.scan.Given as goal

abbrev pub invariant-loop-b : goal.invariant-loop-b
invariant-loop-b l = record {
  found_first : joined l.found (tokens_after l.at 0 l.rest) ≡ tokens l.text;
  place : l.at + length l.rest ≡ length l.text;
}

abbrev pub decreases-loop-b : goal.decreases-loop-b
decreases-loop-b l = length l.rest
