use Rattle.std.proofs.Common.{map}
use Rattle.lh_types.specs.ValueOf.{datum_of}
use Rattle.lh_wave.specs.Changed.{present_values}
use Rattle.lh_wave.specs.WaveText.{differing_lines}
use Rattle.lh_wave.proofs.ChangedLemmas.{Putting}
use Rattle.lh_wave.proofs.changed.put_new.Given as goal

abbrev pub invariant-loop-k : goal.invariant-loop-k
invariant-loop-k l =
    let now = present_values l.fn.values.items l.fn.written.items in
    Putting l.numbers l.k-index l.fn.to l.to (differing_lines 0 (map datum_of l.fn.written.items) now) l.values.items l.written.items now
