use Rattle.std.proofs.Common.{sym, ◌∙◌}
use Rattle.lh_react.proofs.TriggerLists.{adds-none, adds-register}
use Rattle.lh_react.proofs.places.add_triggers.Goals as goal

pub returns-in-Reg : goal.returns-in-Reg
returns-in-Reg c =
    adds-register c.args.m.now c.args.unit.0 c.args.args.now c.add_register.result c.args.inst c.in-Reg.to c.in-Reg.triggers c.as_slice.result.now
    c.args.bits.now c.add_register.new.bits (sym c.inst.ensures.inst ∙ c.in-Reg.is) c.as_slice.ensures c.add_register.ensures

pub returns-in_default : goal.returns-in_default
returns-in_default c = λ t. adds-none c.args.m.now c.args.unit.0 c.args.args.now c.args.inst _ c.args.bits.now
    (sym c.inst.ensures.inst) c.in_default.not-Drv c.in_default.not-Reg
