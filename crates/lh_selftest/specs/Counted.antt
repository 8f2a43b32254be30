-- What is counted, by ids.
use Rattle.std.specs.Prelude.{Bool, true, false}
use Rattle.lh_unit.specs.declared.inst.Item.{Item}
use Rattle.lh_unit.specs.declared.inst.Item.TheVariants as item

-- the item defines a unit
abbrev pub is_unit_item : Item → Bool
is_unit_item (item.Unit u) = true
is_unit_item (item.Declare d) = false
