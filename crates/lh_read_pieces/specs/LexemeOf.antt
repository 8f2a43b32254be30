-- What the tokens that the program holds stand for.
use Rattle.lh_unit.specs.Lexemes.{Lexeme, word, global, local, arrow, minus, punct}
use Rattle.lh_lex.specs.Front.{bad_mark}
use Rattle.lh_unit_names.specs.declared.name.UnitName.{UnitName}
use Rattle.lh_read_pieces.specs.declared.tokens.UnitNameText.{UnitNameText}
use Rattle.lh_read_pieces.specs.declared.tokens.Lex.{Lex}
use Rattle.lh_read_pieces.specs.declared.tokens.Lex.TheVariants as lex

-- the name of a unit, in memory of its own
abbrev pub unit_name_of : UnitNameText → UnitName
unit_name_of n = record { sigil = n.sigil; name = n.name }

-- a token with its text
abbrev pub lexeme_of : Lex → Lexeme
lexeme_of (lex.Word w) = word w.now
lexeme_of (lex.Global n) = global n
lexeme_of (lex.Local n) = local n
lexeme_of lex.Arrow = arrow
lexeme_of lex.Minus = minus
lexeme_of (lex.Punct b) = punct b
lexeme_of lex.Bad = bad_mark
