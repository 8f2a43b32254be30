use Rattle.std.proofs.Common.{◌+◌, drop}
use Rattle.std.proofs.lemmas.List.{drop_all}
use Rattle.lh_unit.proofs.Lists.{drop-item}
use Rattle.lh_term.proofs.Swaps.{grows_on}
use Rattle.lh_emit_shapes.specs.Putting.{PutsProbesNot}
use Rattle.lh_emit_shapes.proofs.RowGrowth.{grows-same}
use Rattle.lh_emit_shapes.proofs.Drives.{probes-begin, probes-can, probes-next, probes-not, probes-end}
use Rattle.lh_emit_shapes.proofs.bodies.put_probes.Goals as goal
use Rattle.lh_emit.proofs.StepLaws.{err-cause}

pub returns-in_err-now-clause-cause : goal.returns-in_err-now-clause-cause
returns-in_err-now-clause-cause c =
    let o = c.args.origin.now in let ns = c.args.terms.now in let x = c.args.emitter.now in let all = c.args.parts.now in let i = c.loop-part.part-index in
    err-cause c.from_residual.result c.in_err-now.field-0.0 (PutsProbesNot ns o x all) c.from_residual.ensures.1
    (probes-not o all ns x c.loop-part.terms c.loop-part.emitter c.part-item.result (drop (i + 1) all) (drop i all) (drop-item all i c.part-item.result c.loop-part-test.true c.part-item.is)
    c.loop-part.invariant
    c.in_err-now.field-0.0 c.in_err-now.ensures.cause)

pub loop-part-preserved : goal.loop-part-preserved
loop-part-preserved c =
    let o = c.args.origin.now in let ns = c.args.terms.now in let x = c.args.emitter.now in let all = c.args.parts.now in let i = c.loop-part.part-index in
    probes-next o all ns x c.loop-part.terms c.loop-part.emitter c.part-item.result (drop (i + 1) all) (drop i all) (drop-item all i c.part-item.result c.loop-part-test.true c.part-item.is)
    c.loop-part.invariant
    _ _ c.in_ok-now.field-0 c.in_ok-now.ensures.kept c.in_ok-now.ensures.needed

pub returns-in_err-now-clause-kept : goal.returns-in_err-now-clause-kept
returns-in_err-now-clause-kept c = grows_on c.args.terms.now c.loop-part.terms c.now.new.terms c.loop-part.invariant.grows c.in_err-now.ensures.kept

pub returns-clause-kept : goal.returns-clause-kept
returns-clause-kept c = c.loop-part.invariant.grows

pub loop-part-init : goal.loop-part-init
loop-part-init c = probes-begin c.args.origin.now c.args.parts.now c.args.terms.now c.args.emitter.now (grows-same c.args.terms.now) c.requires

pub now-requires : goal.now-requires
now-requires c =
    let all = c.args.parts.now in let i = c.loop-part.part-index in
    probes-can c.args.origin.now all c.args.terms.now c.args.emitter.now c.loop-part.terms c.loop-part.emitter c.part-item.result (drop (i + 1) all) (drop i all) (drop-item all i c.part-item.result c.loop-part-test.true c.part-item.is)
    c.loop-part.invariant

pub returns-clause-put : goal.returns-clause-put
returns-clause-put c =
    let all = c.args.parts.now in let i = c.loop-part.part-index in
    probes-end c.args.origin.now all c.args.terms.now c.args.emitter.now c.loop-part.terms c.loop-part.emitter (drop i all) (drop_all i all c.loop-part-test.false) c.loop-part.invariant
