use Rattle.std.proofs.Common.{ap, sym, ◌∙◌}
use Rattle.lh_unit.specs.Arena.{table_at}
use Rattle.lh_unit.specs.WellFormed.{undefined, no_terminator, phi_edges}
use Rattle.lh_verify.specs.Faults.{has_fault}
use Rattle.lh_verify.specs.PhisById.{phi_is_wrong}
use Rattle.lh_verify.proofs.Places.{hides-parts, middle-holds, last-holds, first-left}
use Rattle.lh_verify.proofs.place.hides_paths.Goals as goal

pub returns-then-wrong_phi : goal.returns-then-wrong_phi
returns-then-wrong_phi c =
    let s = c.args.scope.now in
    last-holds (has_fault s c.args.spot undefined) (has_fault s c.args.spot no_terminator) (has_fault s c.args.spot phi_edges) (sym c.requires.phi ∙ c.if-wrong_phi.true)

pub returns-then-ends_wrong : goal.returns-then-ends_wrong
returns-then-ends_wrong c = middle-holds _ _ _ (sym c.ends_wrong.ensures ∙ c.if-ends_wrong.true)
    ∙ sym (hides-parts c.args.scope.now c.args.spot c.kind.result c.inst-inst.result.now c.kind.ensures c.inst-inst.ensures.inst)

pub returns : goal.returns
returns c =
    let s = c.args.scope.now in
    first-left _ _ _ _ (sym c.ends_wrong.ensures ∙ c.if-ends_wrong.false) (ap (phi_is_wrong (table_at s.module.now s.unit.0) c.args.spot) c.inst-inst.ensures.inst ∙ sym c.requires.phi
    ∙ c.if-wrong_phi.false) c.is_undefined.ensures
    ∙ sym (hides-parts s c.args.spot c.kind.result c.inst-inst.result.now c.kind.ensures c.inst-inst.ensures.inst)
