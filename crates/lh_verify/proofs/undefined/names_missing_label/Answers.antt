use Rattle.std.proofs.Common.{◌<◌, map, ap, sym, ◌∙◌, subst}
use Rattle.std.specs.List.{list_any}
use Rattle.lh_unit.specs.Naming.{edge_text, inst_text}
use Rattle.lh_unit.specs.Within.{Each}
use Rattle.lh_unit.specs.declared.inst.BlockId.{BlockId}
use Rattle.lh_verify.specs.OperandTests.{label_is_missing, edge_is_missing, label_is_missing_in}
use Rattle.lh_verify_values.specs.Facts.{naming_in, sizes_in, text_in}
use Rattle.lh_verify.proofs.Named.{edges-named, targets-within, targets-named}
use Rattle.lh_verify.proofs.undefined.names_missing_label.Goals as goal

pub returns-in-Phi : goal.returns-in-Phi
returns-in-Phi c =
    let t = text_in c.args.scope.now in
    let f = naming_in c.args.scope.now in
    c.some_edge_is_missing.ensures
    ∙ ap (λ l. list_any (edge_is_missing t) (map (edge_text f) l)) c.as_slice.ensures
    ∙ edges-named t c.in-Phi.ty (map (edge_text f) c.in-Phi.edges)
    ∙ ap (λ i. label_is_missing_in t (inst_text f i)) (sym c.in-Phi.is)

pub returns-in_default : goal.returns-in_default
returns-in_default c =
    let t = text_in c.args.scope.now in
    let f = naming_in c.args.scope.now in
    c.some_target_is_missing.ensures
    ∙ ap (λ l. list_any (label_is_missing t) (map (λ (b : BlockId). f.label_name b.0) l)) c.successors_of.ensures
    ∙ targets-named t f c.args.inst.now c.in_default.not-Phi

pub some_target_is_missing-requires-clause-within : goal.some_target_is_missing-requires-clause-within
some_target_is_missing-requires-clause-within c =
    subst (Each (λ (b : BlockId). b.0 < (sizes_in c.args.scope.now).labels)) (sym c.successors_of.ensures)
    (targets-within (sizes_in c.args.scope.now) c.args.inst.now c.requires.within)
