use Rattle.std.proofs.Common.{ap, ◌∙◌}
use Rattle.lh_types.specs.Values.{Datum}
use Rattle.lh_kernel_changes.specs.Shown.{shown}
use Rattle.lh_kernel_changes.proofs.Shows.{read_value}
use Rattle.lh_kernel_changes.proofs.changes.change_of.Goals as goal

pub returns : goal.returns
returns c = ap (λ (v : Datum). shown c.args.number c.args.toggled v) (c.in_ok-value.ensures ∙ read_value c.args.signal.now c.args.now.now c.requires.data c.requires.within)
