use Rattle.std.proofs.Common.{◌≡◌, take}
use Rattle.lh_verify_labels.specs.Turns.{with_turns}
use Rattle.lh_verify_labels.proofs.probes.marks_of.Given as goal

abbrev pub invariant-loop-turn : goal.invariant-loop-turn
invariant-loop-turn l = l.marks.items ≡ with_turns (take l.turn-index l.turns)
