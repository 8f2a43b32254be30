use Rattle.std.proofs.Common.{◌≡◌, ◌<◌, List, length, get_or, map, ap, subst, ◌∙◌}
use Rattle.std.proofs.lemmas.List.{at_drop_all}
use Rattle.lh_unit.specs.Arena.{item_text_at}
use Rattle.lh_unit.specs.Canon.{canon, canon_lines, item_lines}
use Rattle.lh_unit.specs.declared.inst.Item.{Item}
use Rattle.lh_unit.proofs.Lists.{drop-item}
use Rattle.lh_unit.proofs.PlacedIds.{item-placed}
use Rattle.lh_text_buffer.proofs.Parts.{none-left}
use Rattle.lh_print.proofs.Joined.{line_step}
use Rattle.lh_print.proofs.units.put_items.Goals as goal

pub put_item-requires : goal.put_item-requires
put_item-requires c =
    let within : c.loop-item.item-index < length c.args.m.now.items = subst (λ (xs : List Item). c.loop-item.item-index < length xs) c.items-item-items.ensures.items c.loop-item-test.true in
    let there : c.item-item.result ≡ get_or c.args.m.now.items c.loop-item.item-index c.item-item.result = c.item-item.is
    ∙ ap (λ xs. get_or xs c.loop-item.item-index c.item-item.result) c.items-item-items.ensures.items in
    item-placed c.args.m.now c.loop-item.item-index c.item-item.result c.items-item-items.ensures.sound within there

pub loop-item-preserved : goal.loop-item-preserved
loop-item-preserved c = (
  line_step _ _ _ _ (item_lines (item_text_at c.args.m.now c.item-item.result)) _ _
      (ap (λ l. canon_lines (map (item_text_at c.args.m.now) l)) (drop-item _ c.loop-item.item-index c.item-item.result c.loop-item-test.true c.item-item.is)) c.put_item.ensures
      c.loop-item.invariant.0,
  c.loop-item.invariant.1,
)

pub returns : goal.returns
returns c = none-left _ _ _ _ (at_drop_all (λ l. canon (map (item_text_at c.args.m.now) l)) c.items-item-items.result.now c.loop-item.item-index c.loop-item-test.false) c.loop-item.invariant.0
