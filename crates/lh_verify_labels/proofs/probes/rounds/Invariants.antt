use Rattle.lh_verify_labels.specs.Marking.{Reaches}
use Rattle.lh_verify_labels.proofs.probes.rounds.Given as goal

abbrev pub invariant-loop : goal.invariant-loop
invariant-loop l = Reaches l.m l.unit.0 l.counter l.marks.items
