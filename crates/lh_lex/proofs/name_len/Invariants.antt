use Rattle.std.proofs.Common.{◌≡◌, ◌+◌, drop}
use Rattle.lh_unit.specs.Lexemes.{run_len}
use Rattle.lh_lex.proofs.name_len.Given as goal

abbrev pub invariant-loop-i : goal.invariant-loop-i
invariant-loop-i l = l.i + run_len (drop l.i l.bytes) ≡ run_len l.bytes
