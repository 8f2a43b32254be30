use Rattle.lh_unit.specs.Arena.{unit_text_at}
use Rattle.lh_unit.proofs.Lists.{Each-at}
use Rattle.lh_react.specs.Standing.{line_in}
use Rattle.lh_react.proofs.TriggerLists.{found-next, found-all}
use Rattle.lh_react.proofs.ProbedBits.{all-within}
use Rattle.lh_react.proofs.places.triggers_of.Goals as goal

pub add_triggers-requires-clause-inst : goal.add_triggers-requires-clause-inst
add_triggers-requires-clause-inst c =
    Each-at _ c.args.insts.now c.loop-inst.inst-index _
    (all-within c.args.m.now c.args.unit.0 c.requires.arena c.requires.unit c.requires.entity c.requires.formed c.args.insts.now c.requires.insts)
    c.loop-inst-test.true

pub loop-inst-preserved : goal.loop-inst-preserved
loop-inst-preserved c =
    found-next (unit_text_at c.args.m.now c.args.unit.0) c.args.args.now
    (line_in c.args.m.now c.args.unit.0) c.args.insts.now c.loop-inst.inst-index _ c.loop-inst.bits c.add_triggers.new.bits c.loop-inst-test.true
    c.loop-inst.invariant (c.in_ok-add_triggers.ensures c.if-not-branch.false)

pub returns : goal.returns
returns c = found-all c.args.m.now c.args.unit.0 c.args.args.now c.requires.arena c.requires.unit c.requires.entity c.args.insts.now c.loop-inst.inst-index
    c.loop-inst.bits c.requires.insts c.loop-inst-test.false c.loop-inst.invariant
