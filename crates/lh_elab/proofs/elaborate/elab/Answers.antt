use Rattle.std.proofs.Common.{◌≡◌, List, [], ◌∷◌, length, refl, arith}
use Rattle.std.proofs.lemmas.Result.{err_from_is_err_and}
use Rattle.lh_unit.specs.Arena.{contents, unit_text_at}
use Rattle.lh_unit.specs.Hierarchy.{hierarchies}
use Rattle.lh_unit.specs.Within.{Each}
use Rattle.lh_eval_laws.specs.Units.{IsPort}
use Rattle.lh_eval_laws.proofs.FitLaws.{unit-is-sound}
use Rattle.lh_elab.specs.declared.build.Building.{Building}
use Rattle.lh_elab.specs.declared.build.Pending.{Pending}
use Rattle.lh_elab_plan.specs.Plans.{IsPlan}
use Rattle.lh_elab.proofs.ByName.{reads}
use Rattle.lh_elab.proofs.ElaborationEnds.{top-ports, top-fits, starts, ends, built-is, refuses, final}
use Rattle.lh_elab.proofs.Underway.{Popped, next-fits, few-instances, has-room, children-low, falls, goes-on}
use Rattle.lh_elab.proofs.Connected.{starts-connected, still-connected, answers}
use Rattle.lh_elab.proofs.elaborate.elab.Goals as goal

pub started-requires-clause-room : goal.started-requires-clause-room
started-requires-clause-room c =
    let a = c.args.m.now in
    let o = c.new.ensures.sound in
    let q = c.in_ok-bits.ensures.refuses in
    let ports : Each IsPort (unit_text_at a c.args.top.0).args = top-ports a c.args.top.0 q.0 (unit_text_at a c.args.top.0).args
    (unit-is-sound a c.args.top.0 o c.requires.unit c.requires.formed c.requires.begun).ports in
    top-fits a c.args.top o c.requires.unit (reads a o) c.in_ok-bits.bits q ports

pub loop-next-init : goal.loop-next-init
loop-next-init c =
    let a = c.args.m.now in
    let o = c.new.ensures.sound in
    let q = c.in_ok-bits.ensures.refuses in
    let ports : Each IsPort (unit_text_at a c.args.top.0).args = top-ports a c.args.top.0 q.0 (unit_text_at a c.args.top.0).args
    (unit-is-sound a c.args.top.0 o c.requires.unit c.requires.formed c.requires.begun).ports in
    let room = top-fits a c.args.top o c.requires.unit (reads a o) c.in_ok-bits.bits q ports in
    record {
      underway = starts a c.args.top o c.requires.unit (reads a o) c.in_ok-bits.bits q ports c.in_ok-building.building c.in_ok-building.ensures;
      plans = c.in_ok-plans.ensures.plans;
      connected = starts-connected a c.args.top c.in_ok-bits.bits c.in_ok-building.building c.requires.begun q.0 ports room c.in_ok-building.ensures;
    }

pub fill-requires-clause-unit : goal.fill-requires-clause-unit
fill-requires-clause-unit c =
    let a = c.args.m.now in
    let o = c.new.ensures.sound in
    let old = c.loop-next.building in
    let mid : Building = record { instances = old.instances; signals = old.signals; init = old.init; lo = old.lo; pending = c.pop.new.self } in
    let next = c.in-Some.next in
    let w = c.loop-next.invariant.underway in
    let q : Popped old mid next = record { instances = refl; signals = refl; init = refl; lo = refl; pending = c.in-Some.ensures.items } in
    (next-fits a (hierarchies (contents a)) (final a c.args.top.0) (reads a o) old mid next w q).unit

pub visit-requires-clause-few : goal.visit-requires-clause-few
visit-requires-clause-few c =
    let a = c.args.m.now in
    let o = c.new.ensures.sound in
    let old = c.loop-next.building in
    let mid : Building = record { instances = old.instances; signals = old.signals; init = old.init; lo = old.lo; pending = c.pop.new.self } in
    let next = c.in-Some.next in
    let w = c.loop-next.invariant.underway in
    let q : Popped old mid next = record { instances = refl; signals = refl; init = refl; lo = refl; pending = c.in-Some.ensures.items } in
    let plan = c.at.result.now in
    let k : IsPlan a next.unit.0 plan = c.in_ok-fill.ensures.plans.right next.unit.0 plan c.at.ensures in
    few-instances a (hierarchies (contents a)) (final a c.args.top.0) (reads a o) old mid next w q

pub visit-requires-clause-fit : goal.visit-requires-clause-fit
visit-requires-clause-fit c =
    let a = c.args.m.now in
    let o = c.new.ensures.sound in
    let old = c.loop-next.building in
    let mid : Building = record { instances = old.instances; signals = old.signals; init = old.init; lo = old.lo; pending = c.pop.new.self } in
    let next = c.in-Some.next in
    let w = c.loop-next.invariant.underway in
    let q : Popped old mid next = record { instances = refl; signals = refl; init = refl; lo = refl; pending = c.in-Some.ensures.items } in
    let plan = c.at.result.now in
    let k : IsPlan a next.unit.0 plan = c.in_ok-fill.ensures.plans.right next.unit.0 plan c.at.ensures in
    k.fit

pub visit-requires-clause-room : goal.visit-requires-clause-room
visit-requires-clause-room c =
    let a = c.args.m.now in
    let o = c.new.ensures.sound in
    let old = c.loop-next.building in
    let mid : Building = record { instances = old.instances; signals = old.signals; init = old.init; lo = old.lo; pending = c.pop.new.self } in
    let next = c.in-Some.next in
    let w = c.loop-next.invariant.underway in
    let q : Popped old mid next = record { instances = refl; signals = refl; init = refl; lo = refl; pending = c.in-Some.ensures.items } in
    let plan = c.at.result.now in
    let k : IsPlan a next.unit.0 plan = c.in_ok-fill.ensures.plans.right next.unit.0 plan c.at.ensures in
    has-room a (hierarchies (contents a)) (final a c.args.top.0) (reads a o) old mid next w q plan k

pub visit-requires-clause-within : goal.visit-requires-clause-within
visit-requires-clause-within c =
    let a = c.args.m.now in
    let o = c.new.ensures.sound in
    let old = c.loop-next.building in
    let mid : Building = record { instances = old.instances; signals = old.signals; init = old.init; lo = old.lo; pending = c.pop.new.self } in
    let next = c.in-Some.next in
    let w = c.loop-next.invariant.underway in
    let q : Popped old mid next = record { instances = refl; signals = refl; init = refl; lo = refl; pending = c.in-Some.ensures.items } in
    let plan = c.at.result.now in
    let k : IsPlan a next.unit.0 plan = c.in_ok-fill.ensures.plans.right next.unit.0 plan c.at.ensures in
    k.within

pub visit-requires-clause-lows : goal.visit-requires-clause-lows
visit-requires-clause-lows c =
    let a = c.args.m.now in
    let o = c.new.ensures.sound in
    let old = c.loop-next.building in
    let mid : Building = record { instances = old.instances; signals = old.signals; init = old.init; lo = old.lo; pending = c.pop.new.self } in
    let next = c.in-Some.next in
    let w = c.loop-next.invariant.underway in
    let q : Popped old mid next = record { instances = refl; signals = refl; init = refl; lo = refl; pending = c.in-Some.ensures.items } in
    let plan = c.at.result.now in
    let k : IsPlan a next.unit.0 plan = c.in_ok-fill.ensures.plans.right next.unit.0 plan c.at.ensures in
    children-low a (hierarchies (contents a)) (final a c.args.top.0) (reads a o) old mid next w q plan k

pub loop-next-smaller : goal.loop-next-smaller
loop-next-smaller c =
    let a = c.args.m.now in
    let o = c.new.ensures.sound in
    let old = c.loop-next.building in
    let mid : Building = record { instances = old.instances; signals = old.signals; init = old.init; lo = old.lo; pending = c.pop.new.self } in
    let next = c.in-Some.next in
    let w = c.loop-next.invariant.underway in
    let q : Popped old mid next = record { instances = refl; signals = refl; init = refl; lo = refl; pending = c.in-Some.ensures.items } in
    let plan = c.at.result.now in
    let k : IsPlan a next.unit.0 plan = c.in_ok-fill.ensures.plans.right next.unit.0 plan c.at.ensures in
    falls a (hierarchies (contents a)) (final a c.args.top.0) (reads a o) old mid next w q plan k c.visit.new.self c.in_ok-visit.ensures

pub loop-next-preserved : goal.loop-next-preserved
loop-next-preserved c =
    let a = c.args.m.now in
    let o = c.new.ensures.sound in
    let old = c.loop-next.building in
    let mid : Building = record { instances = old.instances; signals = old.signals; init = old.init; lo = old.lo; pending = c.pop.new.self } in
    let next = c.in-Some.next in
    let w = c.loop-next.invariant.underway in
    let q : Popped old mid next = record { instances = refl; signals = refl; init = refl; lo = refl; pending = c.in-Some.ensures.items } in
    let plan = c.at.result.now in
    let k : IsPlan a next.unit.0 plan = c.in_ok-fill.ensures.plans.right next.unit.0 plan c.at.ensures in
    record {
      underway = goes-on a (hierarchies (contents a)) (final a c.args.top.0) (reads a o) old mid next w q plan k c.visit.new.self c.in_ok-visit.ensures;
      plans = c.in_ok-fill.ensures.plans;
      connected = still-connected a o c.requires.formed (hierarchies (contents a)) (final a c.args.top.0) (reads a o) old mid next w q plan k c.visit.new.self c.in_ok-visit.ensures
          c.loop-next.invariant.connected;
    }

pub returns-in_err-bits-clause-elaborates : goal.returns-in_err-bits-clause-elaborates
returns-in_err-bits-clause-elaborates c =
    let p = err_from_is_err_and c.from_residual-in_err-bits.result c.from_residual-in_err-bits.ensures.1 in
    rw (p.1, p.2) (refuses c.args.m.now c.args.top.0 c.new.ensures.sound c.requires.unit c.requires.begun c.in_err-bits.field-0.0 c.in_err-bits.ensures.refuses)

nothing-left : (b : Building) → length b.pending.items ≡ 0 → b.pending.items ≡ []
nothing-left b e = by b.pending.items e
  where
    by : (l : List Pending) → length l ≡ 0 → l ≡ []
    by [] q = refl
    by (x ∷ l) q = absurd (omega arith)

pub returns-clause-elaborates : goal.returns-clause-elaborates
returns-clause-elaborates c =
    let a = c.args.m.now in
    let b = c.loop-next.building in
    let none : b.pending.items ≡ [] = nothing-left b (omega (arith, c.in_default.ensures.cases.0)) in
    let z = ends a c.args.top.0 b c.finish.result c.loop-next.invariant.underway none c.finish.ensures.instances c.finish.ensures.signals c.finish.ensures.init in
    built-is a c.args.top.0 c.new.ensures.sound c.requires.unit c.requires.begun c.in_ok-bits.ensures.refuses.0 c.finish.result z.is

pub returns-clause-design : goal.returns-clause-design
returns-clause-design c =
    let a = c.args.m.now in
    let b = c.loop-next.building in
    let none : b.pending.items ≡ [] = nothing-left b (omega (arith, c.in_default.ensures.cases.0)) in
    let z = ends a c.args.top.0 b c.finish.result c.loop-next.invariant.underway none c.finish.ensures.instances c.finish.ensures.signals c.finish.ensures.init in
    let e = built-is a c.args.top.0 c.new.ensures.sound c.requires.unit c.requires.begun c.in_ok-bits.ensures.refuses.0 c.finish.result z.is in
    answers a c.args.top.0 c.new.ensures.sound c.requires.formed b c.finish.result z e c.loop-next.invariant.connected c.finish.ensures.instances c.finish.ensures.init
