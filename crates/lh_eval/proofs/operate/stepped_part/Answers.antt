use Rattle.std.proofs.Common.{sym}
use Rattle.lh_unit.specs.Arena.{naming, unit_text_at}
use Rattle.lh_unit.specs.Naming.{value_text}
use Rattle.lh_unit.specs.Typing.{value_type}
use Rattle.lh_eval.proofs.PartsRead.{carried-some}
use Rattle.lh_eval.proofs.operate.stepped_part.Goals as goal

pub step_into-requires-clause-within : goal.step_into-requires-clause-within
step_into-requires-clause-within c =
    (c.requires.fit c.in_ok-whole.whole c.in_ok-carried.carried.now (sym c.in_ok-whole.ensures)
    (carried-some (value_type (unit_text_at c.args.m.now c.args.unit.0) (value_text (naming c.args.m.now c.args.unit.0) c.args.arg.now.value)) c.in_ok-carried.carried.now
    (sym c.in_ok-carried.ensures))).1
