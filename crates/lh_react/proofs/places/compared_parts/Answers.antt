use Rattle.std.proofs.Common.{sym, ◌∙◌, ap}
use Rattle.lh_types.specs.declared.op.Op.{Op}
use Rattle.lh_unit.specs.declared.inst.Inst.TheVariants as inst
use Rattle.lh_react.proofs.ProbedBits.{same-at-on}
use Rattle.lh_react.proofs.places.compared_parts.Goals as goal

pub returns-else-not-is_eq : goal.returns-else-not-is_eq
returns-else-not-is_eq c =
    same-at-on c.args.m.now c.args.unit.0 c.value_def.ensures.sound c.requires.unit c.requires.entity c.requires.formed c.both_parts.result c.args.args.now
    c.args.value c.in-Inst.inst.0 c.in-Pure.operands c.as_slice.result.now
    c.in-Inst.ensures.definition (sym c.inst.ensures.inst ∙ c.in-Pure.is
    ∙ ap (λ (o : Op). inst.Pure o c.in-Pure.operands) (c.is_eq.ensures c.if-not-is_eq.false)) c.as_slice.ensures c.both_parts.ensures
