use Rattle.std.proofs.Common.{◌+◌, ◌<◌, drop, get_or, sym, subst}
use Rattle.std.proofs.lemmas.List.{drop_more, drop_all}
use Rattle.lh_unit.specs.Arena.{inst_count}
use Rattle.lh_unit.specs.Within.{Each}
use Rattle.lh_unit.specs.declared.inst.InstId.{InstId}
use Rattle.lh_term.proofs.Arenas.{grows_none}
use Rattle.lh_term.proofs.Swaps.{grows_on}
use Rattle.lh_verify_laws.proofs.EachItem.{each-rest}
use Rattle.lh_eval.proofs.BeginSteps.{entity-insts}
use Rattle.lh_cert_read.proofs.Lines.{Midway, midway-can, midway-next, midway-ends, midway-begins}
use Rattle.lh_cert_read.proofs.reading.Reading.take_all.Goals as goal

pub loop-inst-init : goal.loop-inst-init
loop-inst-init c =
    let a = c.args.unit.module.now in
    let u = c.args.unit.unit.0 in
    let o = c.insts_of-inst-items.ensures.arena in
    record {
      within = subst (Each (λ (i : InstId). i.0 < inst_count a u)) (sym c.insts_of-inst-items.ensures.insts) (entity-insts a u o c.args.unit.in_place c.requires.entity);
      grows = grows_none c.args.terms.now;
      midway = subst (Midway a u c.args.terms.now c.args.self.now) (sym c.insts_of-inst-items.ensures.insts)
          (midway-begins a u o c.args.unit.in_place c.requires.formed c.requires.entity c.requires.plain c.args.terms.now c.args.self.now c.requires.begins);
    }

pub take-requires-clause-inst : goal.take-requires-clause-inst
take-requires-clause-inst c =
    (each-rest (λ (i : InstId). i.0 < inst_count c.args.unit.module.now c.args.unit.unit.0) c.insts_of-inst-items.result.now c.loop-inst.inst-index (record { 0 = 0 }) c.loop-inst-test.true
    c.loop-inst.invariant.within).0

pub take-requires-clause-can : goal.take-requires-clause-can
take-requires-clause-can c =
    let a = c.args.unit.module.now in
    let u = c.args.unit.unit.0 in
    let xs = c.insts_of-inst-items.result.now in
    let i = c.loop-inst.inst-index in
    let d : InstId = record { 0 = 0 } in
    midway-can a u c.loop-inst.terms c.loop-inst.self (get_or xs i d) (drop (i + 1) xs)
    (subst (Midway a u c.loop-inst.terms c.loop-inst.self) (drop_more xs i d c.loop-inst-test.true) c.loop-inst.invariant.midway)

pub loop-inst-preserved : goal.loop-inst-preserved
loop-inst-preserved c =
    let a = c.args.unit.module.now in
    let u = c.args.unit.unit.0 in
    let xs = c.insts_of-inst-items.result.now in
    let i = c.loop-inst.inst-index in
    let d : InstId = record { 0 = 0 } in
    record {
      within = (each-rest (λ (i : InstId). i.0 < inst_count a u) xs i d c.loop-inst-test.true c.loop-inst.invariant.within).1;
      grows = grows_on c.args.terms.now c.loop-inst.terms c.take.new.terms c.loop-inst.invariant.grows c.in_ok-take.ensures.kept;
      midway = midway-next a u c.loop-inst.terms c.take.new.terms c.loop-inst.self c.take.new.self (get_or xs i d) (drop (i + 1) xs)
          (subst (Midway a u c.loop-inst.terms c.loop-inst.self) (drop_more xs i d c.loop-inst-test.true) c.loop-inst.invariant.midway) c.in_ok-take.ensures.says;
    }

pub returns-clause-says : goal.returns-clause-says
returns-clause-says c =
    let a = c.args.unit.module.now in
    let u = c.args.unit.unit.0 in
    midway-ends a u c.loop-inst.terms c.loop-inst.self
    (subst (Midway a u c.loop-inst.terms c.loop-inst.self) (drop_all c.loop-inst.inst-index c.insts_of-inst-items.result.now c.loop-inst-test.false) c.loop-inst.invariant.midway)
