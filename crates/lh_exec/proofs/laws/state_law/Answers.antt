use Rattle.lh_exec.proofs.Begins.{some-state, waits-as-held, waits-within}
use Rattle.lh_exec.proofs.laws.state_law.Goals as goal

pub returns-clause-stands : goal.returns-clause-stands
returns-clause-stands c = λ a u w args s f. some-state a u w args s.stand f

pub returns-clause-waits : goal.returns-clause-waits
returns-clause-waits c = λ a u args s p k. waits-as-held a u args s.stand p k

pub returns-clause-within : goal.returns-clause-within
returns-clause-within c = λ a u w s f. waits-within a u w s.stand f
