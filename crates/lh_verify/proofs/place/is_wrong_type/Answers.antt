use Rattle.std.proofs.Common.{not, ap, sym, ◌∙◌}
use Rattle.lh_verify_values.specs.Facts.{text_in, naming_in, items_in}
use Rattle.lh_verify.proofs.Named.{three-first, three-third}
use Rattle.lh_verify.proofs.OtherUnits.{both-second}
use Rattle.lh_verify.proofs.Places.{type-parts}
use Rattle.lh_verify.proofs.place.is_wrong_type.Goals as goal

pub returns-then-any_has_no_kind : goal.returns-then-any_has_no_kind
returns-then-any_has_no_kind c =
    let s = c.args.scope.now in
    both-second _ _ _ (sym c.is_asked.ensures ∙ c.if-not-is_asked.false) (three-first _ _ _ (sym c.any_has_no_kind.ensures ∙ c.if-any_has_no_kind.true))
    ∙ sym (type-parts (items_in s) (text_in s) (naming_in s) c.args.inst.now c.args.operands.now c.requires.operands)

pub returns : goal.returns
returns c =
    let s = c.args.scope.now in
    both-second _ _ _ (sym c.is_asked.ensures ∙ c.if-not-is_asked.false)
    (three-third _ _ _ _ (sym c.any_has_no_kind.ensures ∙ c.if-any_has_no_kind.false) (ap not (sym c.types_fit.ensures ∙ c.if-not-types_fit.false)) (ap not c.result_fits.ensures))
    ∙ sym (type-parts (items_in s) (text_in s) (naming_in s) c.args.inst.now c.args.operands.now c.requires.operands)
