use Rattle.std.proofs.Common.{◌<◌, sym, ◌∙◌, subst}
use Rattle.lh_unit.specs.Arena.{InstPlaced, value_count}
use Rattle.lh_react.proofs.ProbedBits.{int-at}
use Rattle.lh_react.proofs.places.probed_part.Goals as goal

pub returns-then-part-width : goal.returns-then-part-width
returns-then-part-width c =
    let placed = subst (InstPlaced c.args.m.now c.args.unit.0) c.in-Prb.is c.inst.ensures.placed in
    let within : c.in-Prb.signal.value.0 < value_count c.args.m.now c.args.unit.0 = placed in
    int-at c.args.m.now c.args.unit.0 c.value_def.ensures.sound c.requires.unit c.requires.entity c.requires.formed c.args.args.now c.args.value
    c.in-Inst.inst.0 c.in-Arg.number c.in-Prb.signal _ c.in-Some.width
    c.in-Inst.ensures.definition (sym c.inst.ensures.inst ∙ c.in-Prb.is) c.in-Arg.ensures.definition within c.if-number-args.false c.in-Some.ensures
    c.if-part-width.true
