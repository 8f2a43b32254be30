use Rattle.std.proofs.Common.{ℕ, ◌<◌, length, map}
use Rattle.std.specs.Prelude.{All}
use Rattle.lh_types.specs.ValueOf.{datum_of}
use Rattle.lh_wave.specs.Changed.{present_values}
use Rattle.lh_wave.proofs.ValueLines.{IsSameAt}
use Rattle.lh_wave.proofs.ChangedLemmas.{DoneBut}
use Rattle.lh_wave.proofs.changed.Changed.differs.Given as goal

abbrev pub invariant-loop-k : goal.invariant-loop-k
invariant-loop-k l = record {
  within : All (λ (k : ℕ). k < length l.written) l.k-items;
  done : DoneBut l.k-items l.k-index 0 (IsSameAt (map datum_of l.written) (present_values l.self.values.items l.written));
}
