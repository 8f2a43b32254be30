use Rattle.std.proofs.Common.{◌≡◌}
use Rattle.lh_wave.specs.Recorded.{ChangesAreOfSignals, values_now}
use Rattle.lh_wave.proofs.ValueLines.{Changing}
use Rattle.lh_wave.proofs.waveform.Waveform.change_values.Given as goal

abbrev pub invariant-loop-c : goal.invariant-loop-c
invariant-loop-c l =
    record {
      kept : ChangesAreOfSignals l.self;
      changing : Changing (values_now l.fn.self) (values_now l.self) l.changes l.c-index;
      fs : l.self.fs ≡ l.fn.self.fs;
      dumped : l.self.dumped ≡ l.fn.self.dumped;
      written : l.self.written ≡ l.fn.self.written;
    }
