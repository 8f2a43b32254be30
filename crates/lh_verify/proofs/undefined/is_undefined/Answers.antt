use Rattle.std.proofs.Common.{sym, ◌∙◌}
use Rattle.lh_verify_values.specs.Facts.{naming_in, text_in, items_in}
use Rattle.lh_verify.proofs.Named.{undefined-parts, three-first, three-second, three-third}
use Rattle.lh_verify.proofs.undefined.is_undefined.Goals as goal

pub returns-then-any_names_nothing : goal.returns-then-any_names_nothing
returns-then-any_names_nothing c = three-first _ _ _ (sym c.any_names_nothing.ensures ∙ c.if-any_names_nothing.true)
    ∙ sym (undefined-parts (items_in c.args.scope.now) (text_in c.args.scope.now) (naming_in c.args.scope.now) c.args.inst.now c.args.operands.now c.requires.operands)

pub returns-then-names_missing_label : goal.returns-then-names_missing_label
returns-then-names_missing_label c = three-second _ _ _ (sym c.any_names_nothing.ensures ∙ c.if-any_names_nothing.false) (sym c.names_missing_label.ensures ∙ c.if-names_missing_label.true)
    ∙ sym (undefined-parts (items_in c.args.scope.now) (text_in c.args.scope.now) (naming_in c.args.scope.now) c.args.inst.now c.args.operands.now c.requires.operands)

pub returns : goal.returns
returns c = three-third _ _ _ _ (sym c.any_names_nothing.ensures ∙ c.if-any_names_nothing.false) (sym c.names_missing_label.ensures ∙ c.if-names_missing_label.false) c.names_missing_unit.ensures
    ∙ sym (undefined-parts (items_in c.args.scope.now) (text_in c.args.scope.now) (naming_in c.args.scope.now) c.args.inst.now c.args.operands.now c.requires.operands)
