use Rattle.std.proofs.Common.{◌≡◌, drop, map}
use Rattle.lh_text_buffer.specs.Writing.{Leaves}
use Rattle.lh_unit.specs.Arena.{item_text_at, contents}
use Rattle.lh_unit.specs.Canon.{canon}
use Rattle.lh_print.proofs.units.put_items.Given as goal

abbrev pub invariant-loop-item : goal.invariant-loop-item
invariant-loop-item l = (Leaves l.initial.out l.out (canon (map (item_text_at l.m) (drop l.item-index l.item-items))) (canon (contents l.m))) × (l.item-items ≡ l.m.items)
