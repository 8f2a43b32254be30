use Rattle.std.proofs.Common.{◌≡◌, ◌+◌, ◌<◌, true, false, drop, get_or, map, subst}
use Rattle.lh_unit.specs.Arena.{table_at, inst_count}
use Rattle.lh_unit.specs.Table.{line_at}
use Rattle.lh_unit.specs.declared.inst.InstId.{InstId}
use Rattle.lh_unit.proofs.Lists.{Each-next}
use Rattle.lh_exec.specs.Taking.{taken_of, all_taken, one_taken, TakesMore}
use Rattle.lh_exec.proofs.Lists.{take-stops, take-goes}
use Rattle.lh_exec.proofs.jumps.take_phis.Goals as goal

pub returns-then-not-branch : goal.returns-then-not-branch
returns-then-not-branch c =
    let t = table_at c.args.m.now c.args.frame.now.unit.0 in
    let i = c.loop-inst.inst-index in
    let x : InstId = get_or c.args.insts.now i (record { 0 = 0 }) in
    let more = all_taken c.args.frame.now.block c.args.frame.now.slots t (drop (i + 1) c.args.insts.now) in
    let b : c.in_ok-take_phi.field-0 ≡ false = cc in
    let e = subst (λ b. TakesMore b (map taken_of c.loop-inst.taken.items) (map taken_of c.take_phi.new.taken.items) more
    (one_taken c.args.frame.now.block c.args.frame.now.slots (line_at t x.0).inst (line_at t x.0).result more)) b (c.in_ok-take_phi.ensures more) in
    take-stops c.args.frame.now.block c.args.frame.now.slots t c.args.insts.now i c.loop-inst-test.true (map taken_of c.loop-inst.taken.items)
    (all_taken c.args.frame.now.block c.args.frame.now.slots t c.args.insts.now) e c.loop-inst.invariant.same

pub loop-inst-preserved : goal.loop-inst-preserved
loop-inst-preserved c =
    let t = table_at c.args.m.now c.args.frame.now.unit.0 in
    let i = c.loop-inst.inst-index in
    let x : InstId = get_or c.args.insts.now i (record { 0 = 0 }) in
    let more = all_taken c.args.frame.now.block c.args.frame.now.slots t (drop (i + 1) c.args.insts.now) in
    let b : c.in_ok-take_phi.field-0 ≡ true = cc in
    let e = subst (λ b. TakesMore b (map taken_of c.loop-inst.taken.items) (map taken_of c.take_phi.new.taken.items) more
    (one_taken c.args.frame.now.block c.args.frame.now.slots (line_at t x.0).inst (line_at t x.0).result more)) b (c.in_ok-take_phi.ensures more) in
    record {
      same = take-goes c.args.frame.now.block c.args.frame.now.slots t c.args.insts.now i c.loop-inst-test.true (map taken_of c.loop-inst.taken.items) (map taken_of c.take_phi.new.taken.items)
          (all_taken c.args.frame.now.block c.args.frame.now.slots t c.args.insts.now) e c.loop-inst.invariant.same;
      within = Each-next (λ (k : InstId). k.0 < inst_count c.args.m.now c.args.frame.now.unit.0) c.args.insts.now i (record { 0 = 0 }) c.loop-inst-test.true c.loop-inst.invariant.within;
    }
