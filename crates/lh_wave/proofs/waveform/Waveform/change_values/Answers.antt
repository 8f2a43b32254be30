use Rattle.std.proofs.Common.{◌∙◌}
use Rattle.lh_wave.proofs.ValueLines.{Changing-next, Changing-end}
use Rattle.lh_wave.proofs.waveform.Waveform.change_values.Goals as goal

pub loop-c-preserved : goal.loop-c-preserved
loop-c-preserved c = record {
  kept = c.in_ok-change_value.ensures.kept;
  changing = Changing-next _ _ _ _ _ _ c.loop-c.invariant.changing c.loop-c-test.true c.c-item.is c.in_ok-change_value.ensures.values;
  fs = c.in_ok-change_value.ensures.fs ∙ c.loop-c.invariant.fs;
  dumped = c.in_ok-change_value.ensures.dumped ∙ c.loop-c.invariant.dumped;
  written = c.in_ok-change_value.ensures.written ∙ c.loop-c.invariant.written;
}

pub returns-clause-values : goal.returns-clause-values
returns-clause-values c = Changing-end _ _ _ _ c.loop-c.invariant.changing c.loop-c-test.false
