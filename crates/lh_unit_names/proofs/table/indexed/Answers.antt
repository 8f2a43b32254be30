use Rattle.std.proofs.Common.{rules, ap, get_or, ◌∙◌}
use Rattle.lh_unit_names.proofs.NameLists.{entered-next}
use Rattle.lh_unit_names.proofs.table.indexed.Goals as goal

pub loop-name-preserved : goal.loop-name-preserved
loop-name-preserved c =
    let i = c.loop-name.name-index in let n = c.name-item.result in
    entered-next c.args.names.now.items _ _ i n _ c.requires (search rules) (c.name-item.is ∙ ap (λ ns. get_or ns i n) c.as_slice-name-items.ensures.value) c.loop-name.invariant c.in_ok-name.ensures
    c.in_ok-insert_full.ensures.keys
