-- What a fault of a line says.
use Rattle.std.specs.Prelude.{◌≡◌, ℕ, List, Some, None}
use Rattle.lh_unit.specs.Lexemes.{lexemes}
use Rattle.lh_unit.specs.Tokens.{first_bad}
use Rattle.lh_lex.specs.declared.LexFault.{LexFault}
use Rattle.lh_lex.specs.declared.LexFault.TheVariants.{BadByte, OutOfMemory}

-- a bad byte is named by its place, and running out of memory says nothing of the line
abbrev pub NamesBadByte : LexFault → List ℕ → Type 0
NamesBadByte (BadByte n) bs = first_bad bs ≡ Some n
NamesBadByte OutOfMemory bs = Unit {0}

-- a line with a bad byte has no tokens
abbrev pub LineIsRefused : LexFault → List ℕ → Type 0
LineIsRefused (BadByte n) bs = lexemes bs ≡ None
LineIsRefused OutOfMemory bs = Unit {0}
