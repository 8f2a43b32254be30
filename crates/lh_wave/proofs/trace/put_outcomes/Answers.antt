use Rattle.std.proofs.Common.{false, refl}
use Rattle.lh_text_buffer.proofs.Parts.{all-left}
use Rattle.lh_wave.specs.TraceText.{outcome_line}
use Rattle.lh_wave.proofs.FrameLemmas.{Writing-next_at, Writing-end}
use Rattle.lh_wave.proofs.trace.put_outcomes.Goals as goal

pub loop-o-init : goal.loop-o-init
loop-o-init c = all-left _ _ _ refl

pub loop-o-preserved : goal.loop-o-preserved
loop-o-preserved c = Writing-next_at outcome_line _ _ _ _ _ (record { instance = 0; passed = false }) c.loop-o.invariant c.loop-o-test.true c.put_outcome.ensures

pub returns : goal.returns
returns c = Writing-end outcome_line _ _ _ _ c.loop-o.invariant c.loop-o-test.false
