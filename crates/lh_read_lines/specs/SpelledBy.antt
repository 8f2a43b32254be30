-- What is said of the tokens of a line: the one item that they spell, or that they spell none.
use Rattle.std.specs.Prelude.{◌≡◌, List, Option, Some, None}
use Rattle.lh_unit.specs.Lexemes.{Lexeme}
use Rattle.lh_unit.specs.Spells.{LineItem, Spells}

abbrev pub SpelledBy : List Lexeme → Option LineItem → Type 0
-- they spell this item and no other
SpelledBy ts (Some i) = Spells ts i × ((j : LineItem) → Spells ts j → j ≡ i)
-- they spell nothing
SpelledBy ts None = (j : LineItem) → Spells ts j → ⊥
