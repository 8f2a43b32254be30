use Rattle.std.proofs.Common.{sym, ◌∙◌}
use Rattle.lh_types.specs.ValueOf.{datum_of}
use Rattle.lh_unit.specs.Arena.{naming}
use Rattle.lh_unit.specs.Naming.{operand_text}
use Rattle.lh_eval.proofs.HeldByIds.{same-held}
use Rattle.lh_eval.proofs.PartsRead.{probe-is}
use Rattle.lh_eval.proofs.effects.probe.Goals as goal

pub returns : goal.returns
returns c = λ a u e h.
    probe-is c.args.now.now e (operand_text (naming a u) c.args.signal.now) c.in-Some-part_in.part c.in-Some.ty.now (datum_of c.in_ok-value.value)
    c.in-Some.ensures.carried (c.in-Some-part_in.ensures ∙ (same-held a u c.args.slots.now e h).part c.args.signal.now.value c.requires.within) c.in-Some.ensures.data
    (c.requires.fit c.in-Some-part_in.part c.in-Some.ty.now (sym c.in-Some-part_in.ensures) (sym c.in-Some.ensures.carried)) c.in_ok-value.ensures
