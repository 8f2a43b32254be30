use Rattle.std.proofs.Common.{◌≡◌, ℕ, length}
use Rattle.lh_wave.specs.Changed.{HasNone}
use Rattle.lh_wave.proofs.changed.Changed.none.Given as goal

abbrev pub invariant-loop-signal : goal.invariant-loop-signal
invariant-loop-signal l = record { many : length l.values.items ≡ l._signal; none : (k : ℕ) → HasNone l.values.items k }
