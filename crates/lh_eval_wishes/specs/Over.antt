-- One wish over another, as a later drive replaces an earlier one.
use Rattle.std.specs.Prelude.{List, [], ◌∷◌}
use Rattle.std.specs.BTreeMap.{insert_entry}
use Rattle.lh_types.specs.Wish.{Wish, due_bit_cmp}

-- the entries of the second, put into the first one after the other
abbrev pub over : Wish → Wish → Wish
over w [] = w
over w (e ∷ more) = over (insert_entry due_bit_cmp w e.0 e.1) more

-- wishes over one that lies below all of them, the first of them the lowest
abbrev pub stacked_on : Wish → List Wish → Wish
stacked_on w [] = w
stacked_on w (v ∷ more) = stacked_on (over w v) more

-- wishes one over the other, the first the lowest
abbrev pub stacked : List Wish → Wish
stacked ws = stacked_on [] ws
