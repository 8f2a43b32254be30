-- What holds of the canonical text of what is read.
use Rattle.std.specs.Prelude.{[], ◌∷◌, ◌++◌, Bool, false, ◌||◌, ◌≡◌, ℕ, List, map, Some}
use Rattle.lh_unit.specs.Canon.{canon, canon_lines}
use Rattle.lh_unit.specs.Contents.{ItemText, unit_text, declare_text, defines_unit}
use Rattle.lh_unit.specs.Lexemes.{lexemes}
use Rattle.lh_unit.specs.Lines.{lines_of}
use Rattle.lh_unit.specs.Pieces.{Piece, render, lexemes_in}
use Rattle.lh_unit.specs.Reads.{Reads}
use Rattle.lh_unit.specs.WellFormed.{IsSpelled}
use Rattle.lh_unit.specs.Within.{Each}
use Rattle.lh_text_laws.specs.Printable.{IsPrintableItem}

-- what a text reads as, its canonical text reads as too
abbrev pub EveryReadingIsSpelled : Type 0
EveryReadingIsSpelled = (text : List ℕ) (items : List ItemText) → Reads text items → IsSpelled items

-- the lines of a canonical text are the canonical lines
abbrev pub CanonHasItsLines : Type 0
CanonHasItsLines = (items : List ItemText) → IsSpelled items → lines_of (canon items) ≡ map render (canon_lines items)

-- a line has the tokens of its pieces
abbrev pub HasItsTokens : List Piece → Type 0
HasItsTokens ps = lexemes (render ps) ≡ Some (lexemes_in ps)

-- each canonical line has the tokens of its pieces
abbrev pub CanonHasItsTokens : Type 0
CanonHasItsTokens = (items : List ItemText) → IsSpelled items → Each HasItsTokens (canon_lines items)

-- an item that is spelled as the only one of its module
abbrev pub IsSpelledAlone : ItemText → Type 0
IsSpelledAlone i = IsSpelled (i ∷ [])

-- whether a unit has the name of an earlier one; `seen` are the items before
abbrev pub units_repeat : (seen : List ItemText) → List ItemText → Bool
units_repeat seen [] = false
units_repeat seen (unit_text u ∷ more) = defines_unit u.name seen || units_repeat (seen ++ unit_text u ∷ []) more
units_repeat seen (declare_text d ∷ more) = units_repeat (seen ++ declare_text d ∷ []) more

-- of a module that is spelled each item alone is spelled, and no two units have one name
abbrev pub SpelledApart : Type 0
SpelledApart = (items : List ItemText) → IsSpelled items → Each IsSpelledAlone items × (units_repeat [] items ≡ false)

-- items that are spelled alone, of which no two units have one name, are spelled together
abbrev pub SpelledTogether : Type 0
SpelledTogether = (items : List ItemText) → Each IsSpelledAlone items → units_repeat [] items ≡ false → IsSpelled items

-- an item that can be printed is spelled alone
abbrev pub PrintableIsSpelled : Type 0
PrintableIsSpelled = (i : ItemText) → IsPrintableItem i → IsSpelledAlone i

-- an item that is spelled alone can be printed
abbrev pub SpelledIsPrintable : Type 0
SpelledIsPrintable = (i : ItemText) → IsSpelledAlone i → IsPrintableItem i
