-- What an item does to a text that is read so far.
use Rattle.std.specs.Prelude.{not, Result, Ok, Err, if◌then◌else◌}
use Rattle.lh_unit.specs.Spells.{LineItem}
use Rattle.lh_unit.specs.Reads.{ReadState, place_of, may_stand, too_large, defines_again, after, BadKind, syntax, unit_too_large, duplicate_name}

-- the state after an item, or its first fault: it may not stand there, its unit has no room for it, or it defines a name that is defined
unfoldable pub step : ReadState → LineItem → Result ReadState BadKind
step s i = if not (may_stand (place_of s) i) then Err syntax
    else if too_large s i then Err unit_too_large
    else if defines_again s i then Err duplicate_name
    else Ok (after s i)
