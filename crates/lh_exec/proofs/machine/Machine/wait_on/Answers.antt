use Rattle.std.proofs.Common.{◌∙◌, sym}
use Rattle.lh_exec.proofs.WaitSteps.{no-delay, waits-leads}
use Rattle.lh_exec.proofs.machine.Machine.wait_on.Goals as goal

pub returns-in-Some : goal.returns-in-Some
returns-in-Some c = λ a vs l s e p st. waits-leads a c.args.self.now p st c.args.at c.args.to c.args.after vs c.requires.after s c.args.parts c.in-Some.wake l c.requires.calls e
    (sym c.wake.ensures ∙ c.in-Some.is)

pub returns-in-None : goal.returns-in-None
returns-in-None c = λ a vs l s e p st. no-delay a c.args.self.now p st c.args.at c.args.to c.args.after vs c.requires.after s (sym c.wake.ensures ∙ c.in-None.is)
