use Rattle.std.proofs.Common.{drop, ◌∙◌, arith}
use Rattle.std.proofs.lemmas.List.{drop_all}
use Rattle.lh_lower_copy.proofs.Rests.{lines-start, inst-there, line-new, lines-next, lines-done}
use Rattle.lh_lower_copy.proofs.units.keep_insts.Goals as goal

pub loop-inst-init : goal.loop-inst-init
loop-inst-init c = lines-start c.args.from.now c.args.m.now c.args.unit c.args.block c.insts-insts.result.now c.insts-insts.ensures.insts c.requires.named c.requires.opened c.requires.fit

pub inst-requires-clause-inst : goal.inst-requires-clause-inst
inst-requires-clause-inst c =
    inst-there c.args.from.now c.args.unit.0 c.args.block c.insts-insts.result.now c.loop-inst.inst-index (record { 0 = 0 }) c.insts-insts.ensures.sound c.requires.there c.requires.stands
    c.insts-insts.ensures.insts (omega arith)

pub result_of-requires-clause-inst : goal.result_of-requires-clause-inst
result_of-requires-clause-inst c =
    inst-there c.args.from.now c.args.unit.0 c.args.block c.insts-insts.result.now c.loop-inst.inst-index (record { 0 = 0 }) c.insts-insts.ensures.sound c.requires.there c.requires.stands
    c.insts-insts.ensures.insts (omega arith)

pub put_inst-requires-clause-begun : goal.put_inst-requires-clause-begun
put_inst-requires-clause-begun c =
    (line-new c.args.from.now c.args.m.now c.loop-inst.m c.args.unit c.args.block c.insts-insts.result.now c.loop-inst.inst-index (record { 0 = 0 }) c.insts-insts.ensures.sound c.requires.there
    c.requires.stands c.insts-insts.ensures.insts c.loop-inst.invariant (omega arith)
    c.result_of.result c.in_ok-copy.copy c.result_of.ensures.value (c.in_ok-copy.ensures ∙ c.inst.ensures.inst)).begun

pub put_inst-requires-clause-within : goal.put_inst-requires-clause-within
put_inst-requires-clause-within c =
    (line-new c.args.from.now c.args.m.now c.loop-inst.m c.args.unit c.args.block c.insts-insts.result.now c.loop-inst.inst-index (record { 0 = 0 }) c.insts-insts.ensures.sound c.requires.there
    c.requires.stands c.insts-insts.ensures.insts c.loop-inst.invariant (omega arith)
    c.result_of.result c.in_ok-copy.copy c.result_of.ensures.value (c.in_ok-copy.ensures ∙ c.inst.ensures.inst)).within

pub put_inst-requires-clause-placed : goal.put_inst-requires-clause-placed
put_inst-requires-clause-placed c =
    (line-new c.args.from.now c.args.m.now c.loop-inst.m c.args.unit c.args.block c.insts-insts.result.now c.loop-inst.inst-index (record { 0 = 0 }) c.insts-insts.ensures.sound c.requires.there
    c.requires.stands c.insts-insts.ensures.insts c.loop-inst.invariant (omega arith)
    c.result_of.result c.in_ok-copy.copy c.result_of.ensures.value (c.in_ok-copy.ensures ∙ c.inst.ensures.inst)).placed

pub put_inst-requires-clause-room : goal.put_inst-requires-clause-room
put_inst-requires-clause-room c =
    (line-new c.args.from.now c.args.m.now c.loop-inst.m c.args.unit c.args.block c.insts-insts.result.now c.loop-inst.inst-index (record { 0 = 0 }) c.insts-insts.ensures.sound c.requires.there
    c.requires.stands c.insts-insts.ensures.insts c.loop-inst.invariant (omega arith)
    c.result_of.result c.in_ok-copy.copy c.result_of.ensures.value (c.in_ok-copy.ensures ∙ c.inst.ensures.inst)).room

pub loop-inst-preserved : goal.loop-inst-preserved
loop-inst-preserved c =
    lines-next c.args.from.now c.args.m.now c.loop-inst.m c.args.unit c.args.block c.insts-insts.result.now c.loop-inst.inst-index (record { 0 = 0 }) c.insts-insts.ensures.sound c.requires.there
    c.requires.stands c.insts-insts.ensures.insts c.loop-inst.invariant (omega arith)
    c.put_inst.new.m c.result_of.result c.in_ok-copy.copy c.requires.opened c.result_of.ensures.value (c.in_ok-copy.ensures ∙ c.inst.ensures.inst) c.in_ok-put_inst.ensures

pub returns : goal.returns
returns c =
    let is = c.insts-insts.result.now in let i = c.loop-inst.inst-index in
    lines-done c.args.from.now c.args.m.now c.loop-inst.m c.args.unit c.args.block (drop i is) (drop_all i is (omega arith)) c.loop-inst.invariant
