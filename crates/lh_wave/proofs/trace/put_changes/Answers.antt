use Rattle.std.proofs.Common.{refl}
use Rattle.lh_text_buffer.proofs.Parts.{all-left}
use Rattle.lh_types.specs.Pictures.{showing_of}
use Rattle.lh_wave.specs.TraceText.{change_line}
use Rattle.lh_wave.proofs.FrameLemmas.{Writing-next, Writing-end_map}
use Rattle.lh_wave.proofs.trace.put_changes.Goals as goal

pub loop-c-init : goal.loop-c-init
loop-c-init c = all-left _ _ _ refl

pub loop-c-preserved : goal.loop-c-preserved
loop-c-preserved c = Writing-next (λ x. change_line (showing_of x)) _ _ _ _ _ _ c.loop-c.invariant c.loop-c-test.true c.c-item.is c.put_change.ensures

pub returns : goal.returns
returns c = Writing-end_map change_line showing_of _ _ _ _ c.loop-c.invariant c.loop-c-test.false
