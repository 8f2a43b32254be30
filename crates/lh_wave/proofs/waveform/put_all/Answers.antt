use Rattle.std.proofs.Common.{refl}
use Rattle.lh_text_buffer.proofs.Parts.{all-left}
use Rattle.lh_wave.proofs.ValueLines.{AllWriting-next, AllWriting-end}
use Rattle.lh_wave.proofs.waveform.put_all.Goals as goal

pub loop-k-init : goal.loop-k-init
loop-k-init c = all-left _ _ _ refl

pub loop-k-preserved : goal.loop-k-preserved
loop-k-preserved c = AllWriting-next _ _ _ _ _ _ c.loop-k.invariant c.loop-k-test.true c.index-now-k.is c.put_wire.ensures

pub returns : goal.returns
returns c = AllWriting-end _ _ _ _ c.loop-k.invariant c.loop-k-test.false
