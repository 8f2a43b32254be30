use Rattle.std.proofs.Common.{◌≡◌, List, [], ◌∷◌, ◌++◌, get_or, append_assoc, ap, sym, ◌∙◌}
use Rattle.std.specs.Prelude.{decimal}
use Rattle.lh_unit_names.specs.declared.name.UnitName.{UnitName}
use Rattle.lh_eval.specs.declared.instance.Instance.{Instance}
use Rattle.lh_elab.proofs.Labels.{label-alone, label-numbered}
use Rattle.lh_elab.proofs.paths.put_label.Goals as goal

pub returns-in_ok-put_number : goal.returns-in_ok-put_number
returns-in_ok-put_number c =
    let i = c.index-instances-instance.result in
    let k = c.args.instance in
    let e : i ≡ get_or c.args.d.now.instances.items k i = c.index-instances-instance.is ∙ ap (λ (xs : List Instance). get_or xs k i) c.instances.ensures in
    let name = c.as_bytes.ensures.value ∙ ap (λ (n : UnitName). n.name) c.unit_name.ensures.name in
    let label = label-numbered c.args.m.now c.args.d.now k i c.requires.known e (sym c.is_some.ensures ∙ c.if-is_some.true) in
    c.in_ok-put_number.ensures
    ∙ ap (λ l. l ++ decimal k) (c.in_ok-put-2.ensures ∙ ap (λ l. l ++ 95 ∷ []) c.in_ok-put.ensures)
    ∙ ap (λ l. l ++ decimal k) (append_assoc c.args.to.now.items c.as_bytes.result.now (95 ∷ []))
    ∙ append_assoc c.args.to.now.items (c.as_bytes.result.now ++ 95 ∷ []) (decimal k)
    ∙ ap (λ l. c.args.to.now.items ++ l) (ap (λ l. (l ++ 95 ∷ []) ++ decimal k) name ∙ sym label)

pub returns-else-is_some : goal.returns-else-is_some
returns-else-is_some c =
    let i = c.index-instances-instance.result in
    let k = c.args.instance in
    let e : i ≡ get_or c.args.d.now.instances.items k i = c.index-instances-instance.is ∙ ap (λ (xs : List Instance). get_or xs k i) c.instances.ensures in
    let name = c.as_bytes.ensures.value ∙ ap (λ (n : UnitName). n.name) c.unit_name.ensures.name in
    let label = label-alone c.args.m.now c.args.d.now k i c.requires.known e (sym c.is_some.ensures ∙ c.if-is_some.false) in
    c.in_ok-put.ensures ∙ ap (λ l. c.args.to.now.items ++ l) (name ∙ sym label)
