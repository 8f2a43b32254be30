use Rattle.std.proofs.Common.{◌∙◌}
use Rattle.lh_emit.proofs.TermParts.{made-op}
use Rattle.lh_emit.proofs.making.needs_of.Goals as goal

pub returns-in_ok-from_slice-in-Op : goal.returns-in_ok-from_slice-in-Op
returns-in_ok-from_slice-in-Op c =
    made-op c.args.terms.now c.args.t c.view.result.now c.in-Op.op c.in-Op.args c.in_ok-from_slice-in-Op.field-0 c.in-Op.is c.view.ensures.shown c.view.ensures.below c.requires
    (c.in_ok-from_slice-in-Op.ensures ∙ c.as_slice.ensures)
