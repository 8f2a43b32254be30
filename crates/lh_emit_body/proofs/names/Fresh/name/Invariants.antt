use Rattle.std.proofs.Common.{◌≡◌, ◌+◌}
use Rattle.lh_emit_def.specs.Names.{value_name}
use Rattle.lh_emit_body.proofs.TakenNames.{Seeks}
use Rattle.lh_emit_body.proofs.names.Fresh.name.Given as goal

abbrev pub invariant-loop-tries : goal.invariant-loop-tries
invariant-loop-tries l = record {
  name : l.name ≡ value_name l.number;
  sum : l.number + l.tries ≡ l.fn.self.next + l.fn.self.count;
  seeks : Seeks l.fn.self l.tries l.number;
}

abbrev pub decreases-loop-tries : goal.decreases-loop-tries
decreases-loop-tries l = l.tries
