-- How contracts see a list that mostly has one item.
use Rattle.std.specs.Prelude.{List, []}
use Rattle.lh_bits.specs.declared.mostly_one.Items.{Items}
use Rattle.lh_bits.specs.declared.mostly_one.Items.TheVariants.{Empty, One, Many}

-- the items in order
abbrev pub items_in : {T : Type 0} → Items T → List T
items_in Empty = []
items_in (One items) = items
items_in (Many items) = items.items
