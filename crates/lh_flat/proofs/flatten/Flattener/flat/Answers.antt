use Rattle.std.proofs.Common.{sym, subst, ap}
use Rattle.std.proofs.lemmas.Result.{err_from_is_err_and}
use Rattle.lh_unit.specs.declared.inst.UnitId.{UnitId}
use Rattle.lh_unit_graph.specs.Measures.{NodesWithin}
use Rattle.lh_flat.specs.Measures.{measuring}
use Rattle.lh_flat.proofs.CallGraph.{graph-within}
use Rattle.lh_flat.proofs.FlatTexts.{flat-refused, flat-deep, flat-large, flat-made, flat-below, flat-room}
use Rattle.lh_flat.proofs.flatten.Flattener.flat.Goals as goal

pub measure_of-requires-clause-within : goal.measure_of-requires-clause-within
measure_of-requires-clause-within c =
    subst (NodesWithin measuring) (sym c.as_slice.ensures.value) (graph-within c.args.self.now.m.now c.args.self.now.nodes.items c.units-units.ensures.sound c.args.self.now.graph)

pub returns-in_err-measure-clause-flat : goal.returns-in_err-measure-clause-flat
returns-in_err-measure-clause-flat c =
    let p = err_from_is_err_and c.from_residual.result c.from_residual.ensures.1 in
    rw (p.1, p.2)
    (flat-refused c.args.self.now.m.now c.as_slice.result.now c.args.self.now.nodes.items c.args.unit.0 c.units-units.ensures.sound c.requires.formed.1 c.args.self.now.graph c.as_slice.ensures.value
    c.requires.within c.requires.process
    c.in_err-measure.field-0.0 c.in_err-measure.ensures.measures)

pub returns-then-measure-clause-flat : goal.returns-then-measure-clause-flat
returns-then-measure-clause-flat c =
    flat-deep c.args.self.now.m.now c.as_slice.result.now c.args.self.now.nodes.items c.args.unit.0 c.units-units.ensures.sound c.requires.formed.1 c.args.self.now.graph c.as_slice.ensures.value
    c.requires.within c.requires.process
    c.in_ok-measure.measure c.in_ok-measure.ensures.measures c.if-measure.true

pub returns-then-measure-gt-MAX_INSTS-clause-flat : goal.returns-then-measure-gt-MAX_INSTS-clause-flat
returns-then-measure-gt-MAX_INSTS-clause-flat c =
    flat-large c.args.self.now.m.now c.as_slice.result.now c.args.self.now.nodes.items c.args.unit.0 c.units-units.ensures.sound c.requires.formed.1 c.args.self.now.graph c.as_slice.ensures.value
    c.requires.within c.requires.process
    c.in_ok-measure.measure c.in_ok-measure.ensures.measures c.if-measure.false c.if-measure-gt-MAX_INSTS.true

pub returns-clause-flat : goal.returns-clause-flat
returns-clause-flat c =
    flat-made c.args.self.now.m.now c.as_slice.result.now c.args.self.now.nodes.items c.args.unit.0 c.units-units.ensures.sound c.requires.formed.1 c.args.self.now.graph c.as_slice.ensures.value
    c.requires.within c.requires.process
    c.args.self.now.named c.in_ok-measure.measure c.in_ok-measure.ensures.measures c.if-measure.false c.if-measure-gt-MAX_INSTS.false c.unit-view.result.module.now c.unit-view.result.unit c.in_ok-made.field-0
    c.unit-view.ensures.module (ap (λ (x : UnitId). x.0) c.unit-view.ensures.unit) c.in_ok-made.ensures

pub returns-clause-below : goal.returns-clause-below
returns-clause-below c =
    flat-below c.args.self.now.m.now c.as_slice.result.now c.args.self.now.nodes.items c.args.unit.0 c.units-units.ensures.sound c.requires.formed.1 c.args.self.now.graph c.as_slice.ensures.value
    c.requires.within c.requires.process
    c.args.self.now.named c.in_ok-measure.measure c.in_ok-measure.ensures.measures c.if-measure.false c.unit-view.result.module.now c.unit-view.result.unit c.in_ok-made.field-0 c.unit-view.ensures.module
    (ap (λ (x : UnitId). x.0) c.unit-view.ensures.unit) c.in_ok-made.ensures

pub made-requires : goal.made-requires
made-requires c =
    flat-room c.args.self.now.m.now c.as_slice.result.now c.args.self.now.nodes.items c.args.unit.0 c.units-units.ensures.sound c.requires.formed.1 c.args.self.now.graph c.as_slice.ensures.value
    c.requires.within c.requires.process
    c.requires.formed.0 c.in_ok-measure.measure c.in_ok-measure.ensures.measures c.if-measure.false c.if-measure-gt-MAX_INSTS.false c.unit-view.result.module.now c.unit-view.result.unit c.values.result
    c.unit-view.ensures.module (ap (λ (x : UnitId). x.0) c.unit-view.ensures.unit) c.values.ensures.count c.if-values.false
