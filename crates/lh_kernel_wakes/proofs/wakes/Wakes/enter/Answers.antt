use Rattle.std.proofs.Common.{subst}
use Rattle.lh_kernel_wakes.specs.Waking.{NotesOneMore}
use Rattle.lh_kernel_wakes.proofs.WakeOrder.{notes_more}
use Rattle.lh_kernel_wakes.proofs.wakes.Wakes.enter.Goals as goal

pub returns-clause-notes : goal.returns-clause-notes
returns-clause-notes c =
    subst (λ z. NotesOneMore z c.args.at c.args.instance c.insert.new.self.keys) c.self.view_is
    (notes_more _ _ (record { at = c.args.at; instance = c.args.instance }) c.in_ok-insert.ensures.updates.0)
