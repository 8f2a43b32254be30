use Rattle.std.proofs.Common.{◌≡◌, ◌++◌, [], ◌∷◌, ap, sym, ◌∙◌, subst, arith, decimal}
use Rattle.lh_unit_names.specs.Names.{IsName}
use Rattle.lh_emit_def.specs.Names.{value_name}
use Rattle.lh_emit_def.proofs.ValueNames.{number-name}
use Rattle.lh_emit_body.proofs.names.number_name.Goals as goal

pub new-requires : goal.new-requires
new-requires c =
    let a : c.put.new.to.items ≡ 118 ∷ [] = c.in_ok-put.ensures ∙ ap (λ z. z ++ 118 ∷ []) c.new-bytes.ensures.items in
    let e : c.as_slice.result.now ≡ value_name c.args.number = c.as_slice.ensures.value ∙ c.in_ok-put_number.ensures ∙ ap (λ z. z ++ decimal c.args.number) a in
    let b = c.ranges.number.fits in
    subst IsName (sym e) (number-name c.args.number (omega (arith, b)))
