use Rattle.std.proofs.Common.{◌∙◌, ap, sym}
use Rattle.lh_eval.specs.HeldOf.{held_of, maybe_held}
use Rattle.lh_exec.proofs.Steps.{gives-leads}
use Rattle.lh_exec.proofs.machine.Machine.give.Goals as goal

pub returns-in-Some : goal.returns-in-Some
returns-in-Some c = λ a p h st e. gives-leads a c.args.self.now p st c.args.name (held_of c.in-Some.held) h c.give.new.self (ap maybe_held (sym c.in-Some.is) ∙ e) c.requires c.give.ensures
