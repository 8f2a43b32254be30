use Rattle.std.proofs.Common.{map, ap, sym, ◌∙◌}
use Rattle.std.specs.Option.{option_and_then}
use Rattle.std.proofs.lemmas.List.{length-map}
use Rattle.lh_unit.specs.Naming.{operand_text}
use Rattle.lh_unit.specs.Typing.{array_made, first_type, class_type}
use Rattle.lh_verify_values.proofs.MadeTypes.{given-made}
use Rattle.lh_verify_values.proofs.results.class_type.Goals as goal

pub returns-in-Array : goal.returns-in-Array
returns-in-Array c = λ f.
    let os = map (operand_text f) c.args.args.now in
    given-made c.array_type.result c.given-in-Array.result _ _ c.given-in-Array.ensures (c.array_type.ensures f)
    (ap (λ n. option_and_then (array_made n) (first_type os)) (sym (length-map c.args.args.now (operand_text f))) ∙ ap (λ o. class_type o os) (sym c.in-Array.is))

pub returns-in-Repeat : goal.returns-in-Repeat
returns-in-Repeat c = λ f.
    let os = map (operand_text f) c.args.args.now in
    given-made c.array_type-in-Repeat.result c.given-in-Repeat.result _ _ c.given-in-Repeat.ensures (c.array_type-in-Repeat.ensures f) (ap (λ o. class_type o os) (sym c.in-Repeat.is))

pub returns-in-Tuple : goal.returns-in-Tuple
returns-in-Tuple c = λ f.
    let os = map (operand_text f) c.args.args.now in
    given-made c.struct_of.result c.given-in-Tuple.result _ _ c.given-in-Tuple.ensures (c.struct_of.ensures f) (ap (λ o. class_type o os) (sym c.in-Tuple.is))
