-- The punctuation of the language by name.
use Rattle.lh_unit.specs.Lexemes.{Lexeme, punct}

-- (
abbrev pub open_paren : Lexeme
open_paren = punct 40

-- )
abbrev pub close_paren : Lexeme
close_paren = punct 41

-- {
abbrev pub open_brace : Lexeme
open_brace = punct 123

-- }
abbrev pub close_brace : Lexeme
close_brace = punct 125

-- [
abbrev pub open_bracket : Lexeme
open_bracket = punct 91

-- ]
abbrev pub close_bracket : Lexeme
close_bracket = punct 93

-- ,
abbrev pub comma : Lexeme
comma = punct 44

-- :
abbrev pub colon : Lexeme
colon = punct 58

-- $
abbrev pub dollar : Lexeme
dollar = punct 36

-- *
abbrev pub star : Lexeme
star = punct 42

-- =
abbrev pub equals : Lexeme
equals = punct 61
