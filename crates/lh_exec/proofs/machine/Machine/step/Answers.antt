use Rattle.std.proofs.Common.{◌<◌, ◌∙◌, List, get_or, length, ap, sym, subst, arith}
use Rattle.lh_unit.specs.Arena.{block_insts_at, inst_count, inst_at, result_at}
use Rattle.lh_unit.specs.Within.{Each}
use Rattle.lh_unit.specs.declared.inst.InstId.{InstId}
use Rattle.lh_unit.proofs.Lists.{Each-at}
use Rattle.lh_exec.specs.Standing.{scene_of}
use Rattle.lh_exec.proofs.NextInstructions.{name-in, past-is, past, insts-here, stepped, line-right, past-fits}
use Rattle.lh_exec.proofs.machine.Machine.step.Goals as goal

pub result_of-name-requires-clause-inst : goal.result_of-name-requires-clause-inst
result_of-name-requires-clause-inst c =
    let d : InstId = record { 0 = 0 } in
    let h : c.args.self.now.frame.next < length c.insts-insts.result.now = omega arith in
    Each-at (λ (i : InstId). i.0 < inst_count c.args.m.now c.args.self.now.frame.unit.0) c.insts-insts.result.now c.args.self.now.frame.next d
    (subst (Each (λ (i : InstId). i.0 < inst_count c.args.m.now c.args.self.now.frame.unit.0)) (sym c.insts-insts.ensures.insts)
    (insts-here c.args.m.now c.args.self.now c.requires.fit.point c.requires.fit.is))
    h

pub inst-requires-clause-inst : goal.inst-requires-clause-inst
inst-requires-clause-inst c =
    let d : InstId = record { 0 = 0 } in
    let h : c.args.self.now.frame.next < length c.insts-insts.result.now = omega arith in
    Each-at (λ (i : InstId). i.0 < inst_count c.args.m.now c.args.self.now.frame.unit.0) c.insts-insts.result.now c.args.self.now.frame.next d
    (subst (Each (λ (i : InstId). i.0 < inst_count c.args.m.now c.args.self.now.frame.unit.0)) (sym c.insts-insts.ensures.insts)
    (insts-here c.args.m.now c.args.self.now c.requires.fit.point c.requires.fit.is))
    h

pub execute-requires-clause-name : goal.execute-requires-clause-name
execute-requires-clause-name c =
    let d : InstId = record { 0 = 0 } in
    name-in c.args.m.now c.args.self.now.frame.unit.0 (get_or c.insts-insts.result.now c.args.self.now.frame.next d).0 c.args.self.now.frame.slots c.result_of-name.result c.requires.fit.is.arena
    c.requires.fit.is.frame.within c.requires.fit.is.frame.held.long c.result_of-name.ensures.value

pub execute-requires-clause-right : goal.execute-requires-clause-right
execute-requires-clause-right c =
    let m = c.args.m.now in
    let u = c.args.self.now.frame.unit.0 in
    let k = c.args.self.now.frame.next in
    let d : InstId = record { 0 = 0 } in
    let e = c.insts-insts.ensures.insts in
    let h : k < length (block_insts_at m u c.args.self.now.frame.block.0) = omega (arith, ap length e) in
    line-right m (length c.args.now.now) c.args.self.now c.requires.fit d h c.inst.result.now c.result_of-name.result
    (c.inst.ensures.inst ∙ ap (λ (l : List InstId). inst_at m u (get_or l k d).0) e) (c.result_of-name.ensures.value ∙ ap (λ (l : List InstId). result_at m u (get_or l k d).0) e)

pub execute-requires-clause-fit : goal.execute-requires-clause-fit
execute-requires-clause-fit c =
    let d : InstId = record { 0 = 0 } in
    let h : c.args.self.now.frame.next < length (block_insts_at c.args.m.now c.args.self.now.frame.unit.0 c.args.self.now.frame.block.0) = omega (arith, ap length c.insts-insts.ensures.insts) in
    past-fits c.args.m.now (length c.args.now.now) c.args.self.now c.requires.fit d h

pub returns : goal.returns
returns c = λ p st.
    let m = c.args.m.now in
    let u = c.args.self.now.frame.unit.0 in
    let k = c.args.self.now.frame.next in
    let d : InstId = record { 0 = 0 } in
    let e = c.insts-insts.ensures.insts in
    let h : k < length (block_insts_at m u c.args.self.now.frame.block.0) = omega (arith, ap length e) in
    stepped m c.args.self.now p st d h (scene_of m c.args.now.now c.args.at) c.execute.new.self c.execute.result c.inst.result.now c.result_of-name.result
    (c.inst.ensures.inst ∙ ap (λ (l : List InstId). inst_at m u (get_or l k d).0) e) (c.result_of-name.ensures.value ∙ ap (λ (l : List InstId). result_at m u (get_or l k d).0) e)
    (c.execute.ensures (past m c.args.self.now p st) (past-is m c.args.self.now p st))
