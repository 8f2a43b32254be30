use Rattle.std.proofs.Common.{refl}
use Rattle.lh_text_buffer.proofs.Parts.{all-left}
use Rattle.lh_wave.proofs.OwnedLemmas.{variable_next, is_data_in}
use Rattle.lh_wave.proofs.head.Scopes.put_variables.Goals as goal

pub put_variable-requires : goal.put_variable-requires
put_variable-requires c = is_data_in _ _ _ _ _ _ c.requires.design c.requires.known c.loop-k-test.true c.signals.ensures c.index-signals-k.is

pub loop-k-init : goal.loop-k-init
loop-k-init c = all-left _ _ _ refl

pub loop-k-preserved : goal.loop-k-preserved
loop-k-preserved c =
    variable_next c.args.self.now.«module».now c.args.self.now.design.now _ _ _ _ _ _ _ _ c.loop-k.invariant c.loop-k-test.true c.requires.known c.signals.ensures c.index-signals-k.is
    c.as_bytes.ensures.value c.put_variable.ensures
