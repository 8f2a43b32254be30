use Rattle.lh_design.specs.Texts.{design_text}
use Rattle.lh_wave.specs.HeadText.{signals_in}
use Rattle.lh_wave.specs.Owned.{variable_at}
use Rattle.lh_wave.proofs.FrameLemmas.{Writing}
use Rattle.lh_wave.proofs.head.Scopes.put_variables.Given as goal

abbrev pub invariant-loop-k : goal.invariant-loop-k
invariant-loop-k l = Writing (variable_at (signals_in (design_text l.self.«module».now l.self.design.now))) l.fn.to l.to l.numbers l.k-index
