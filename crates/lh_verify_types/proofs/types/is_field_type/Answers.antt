use Rattle.std.proofs.Common.{ap, sym, ◌∙◌}
use Rattle.lh_types.specs.Types.{same_type}
use Rattle.lh_verify_types.proofs.TypeParts.{field-type, no-field}
use Rattle.lh_verify_types.proofs.types.is_field_type.Goals as goal

pub returns : goal.returns
returns c =
    c.eq.ensures
    ∙ ap (same_type c.args.ty.now) c.index-fields-k.is
    ∙ sym (field-type c.args.fields.now c.args.k c.args.ty.now c.index-fields-k.result c.if-k-fields.false)

pub returns-then-k-fields : goal.returns-then-k-fields
returns-then-k-fields c = sym (no-field c.args.fields.now c.args.k c.args.ty.now c.if-k-fields.true)
