use Rattle.std.proofs.Common.{refl}
use Rattle.lh_text_buffer.proofs.Parts.{all-left}
use Rattle.lh_wave.proofs.CodeLemmas.{code_more, code_end}
use Rattle.lh_wave.proofs.code.put_code.Goals as goal

pub loop-rest-init : goal.loop-rest-init
loop-rest-init c = all-left _ _ _ refl

pub loop-rest-preserved : goal.loop-rest-preserved
loop-rest-preserved c = code_more _ _ _ c.args.signal c.loop-rest.rest c.loop-rest-test.true c.put_digit.ensures c.loop-rest.invariant

pub returns : goal.returns
returns c = code_end _ _ _ c.args.signal c.loop-rest.rest c.loop-rest-test.false c.put_digit-2.ensures c.loop-rest.invariant
