use Rattle.std.proofs.Common.{subst}
use Rattle.lh_kernel_wakes.specs.Waking.{NotesOneLess}
use Rattle.lh_kernel_wakes.proofs.WakeOrder.{notes_less}
use Rattle.lh_kernel_wakes.proofs.wakes.Wakes.leave.Goals as goal

pub returns : goal.returns
returns c =
    subst (λ z. NotesOneLess z c.args.at c.args.instance c.remove.new.self.keys) c.self.view_is
    (notes_less _ _ (record { at = c.args.at; instance = c.args.instance }) c.remove.ensures.updates.0)
