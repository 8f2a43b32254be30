use Rattle.std.proofs.Common.{◌≡◌, refl, sym, ◌∙◌, subst, None}
use Rattle.lh_unit.specs.Arena.{contents}
use Rattle.lh_unit.specs.Design.{elab, refused, top_missing}
use Rattle.lh_unit_names.specs.declared.name.UnitName.{UnitName}
use Rattle.lh_selftest.proofs.MissingTop.{elab-not_there, elab-not_defined}
use Rattle.lh_run.proofs.Tops.{is_missing}
use Rattle.lh_run.proofs.simulate.design_named.Goals as goal

pub returns-in_default-clause-status : goal.returns-in_default-clause-status
returns-in_default-clause-status c = (top_missing, elab-not_there c.args.m.now _ c.find.ensures.sound c.in_default.ensures.found, refl)

pub returns-then-is_none-clause-status : goal.returns-then-is_none-clause-status
returns-then-is_none-clause-status c =
    let P : UnitName → Type 0 = λ n. elab (contents c.args.m.now) n ≡ refused top_missing in
    let located = c.in-Some.ensures.found in
    let none : c.kind.result ≡ None = is_missing c.kind.result c.is_none.result c.is_none.ensures c.if-is_none.true in
    (top_missing, subst P located.1 (elab-not_defined c.args.m.now c.in-Some.unit.0 c.find.ensures.sound located.0 (sym c.kind.ensures.kind ∙ none)), refl)
