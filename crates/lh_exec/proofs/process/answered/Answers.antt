use Rattle.std.proofs.Common.{Option, subst}
use Rattle.lh_exec.specs.declared.process.Act.{Act}
use Rattle.lh_exec.specs.States.{GivesMaybe}
use Rattle.lh_exec.proofs.Begins.{answers-some, answers-none}
use Rattle.lh_exec.proofs.process.answered.Goals as goal

pub returns-in-Some-clause-act : goal.returns-in-Some-clause-act
returns-in-Some-clause-act c = λ a u w args done k. answers-some a u args w c.in-Some.act done (subst (λ (g : Option Act). GivesMaybe a u args w g done) c.in-Some.is k)

pub returns-in-None-clause-act : goal.returns-in-None-clause-act
returns-in-None-clause-act c = λ a u w args done k. answers-none a u args w done (subst (λ (g : Option Act). GivesMaybe a u args w g done) c.in-None.is k)
