use Rattle.lh_wave.specs.Changed.{present_values}
use Rattle.lh_wave.proofs.ChangedLemmas.{Moving}
use Rattle.lh_wave.proofs.changed.move_new.Given as goal

abbrev pub invariant-loop-k : goal.invariant-loop-k
invariant-loop-k l = Moving l.numbers l.k-index l.values.items l.written.items (present_values l.fn.values.items l.fn.written.items)
