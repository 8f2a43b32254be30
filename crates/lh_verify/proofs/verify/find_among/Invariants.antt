use Rattle.std.proofs.Common.{◌≡◌, map, take}
use Rattle.lh_unit.specs.WellFormed.{NoneHasFault, sites}
use Rattle.lh_unit.specs.Arena.{contents, item_text_at}
use Rattle.lh_verify_values.specs.Numbers.{NumbersParams}
use Rattle.lh_verify.proofs.verify.find_among.Given as goal

abbrev pub invariant-loop-item : goal.invariant-loop-item
invariant-loop-item l = record {
  items : l.item-items ≡ l.m.items;
  none : NoneHasFault (contents l.m) (sites (map (item_text_at l.m) (take l.item-index l.item-items)));
  params : NumbersParams l.types l.m l.params;
}
