-- A line as it is written: tokens, and the single spaces between them.
use Rattle.std.specs.Prelude.{◌≡◌, ℕ, ◌≤◌, Bool, true, false, ◌&&◌, List, [], ◌∷◌, ◌++◌, length, codes, decimal}
use Prim.Native.String.{String}
use Rattle.lh_unit_names.specs.Names.{all_name_bytes, IsName}
use Rattle.lh_unit.specs.Lexemes.{Lexeme, word, global, local, arrow, minus, punct, is_punct}
use Rattle.lh_unit.specs.Marks.{comma, open_paren, close_paren, open_bracket, close_bracket, open_brace, close_brace}

pub data Piece : Type 0 where
  token : Lexeme → Piece
  space : Piece

-- the bytes of a token
abbrev pub lexeme_bytes : Lexeme → List ℕ
lexeme_bytes (word w) = w
lexeme_bytes (global n) = 64 ∷ n
lexeme_bytes (local n) = 37 ∷ n
lexeme_bytes arrow = 45 ∷ 62 ∷ []
lexeme_bytes minus = 45 ∷ []
lexeme_bytes (punct b) = b ∷ []

-- the bytes of a line
abbrev pub render : List Piece → List ℕ
render [] = []
render (token t ∷ ps) = lexeme_bytes t ++ render ps
render (space ∷ ps) = 32 ∷ render ps

-- the tokens of a line
abbrev pub lexemes_in : List Piece → List Lexeme
lexemes_in [] = []
lexemes_in (token t ∷ ps) = t ∷ lexemes_in ps
lexemes_in (space ∷ ps) = lexemes_in ps

-- a token that can be written
abbrev pub IsLexeme : Lexeme → Type 0
IsLexeme (word w) = (1 ≤ length w) × (all_name_bytes w ≡ true)
IsLexeme (global n) = IsName n
IsLexeme (local n) = IsName n
IsLexeme arrow = Unit {0}
IsLexeme minus = Unit {0}
IsLexeme (punct b) = is_punct b ≡ true

-- whether name bytes directly behind the token would be taken as its own
abbrev pub takes_more : Lexeme → Bool
takes_more (word w) = true
takes_more (global n) = true
takes_more (local n) = true
takes_more _ = false

abbrev pub begins_with_word : List Piece → Bool
begins_with_word (token (word w) ∷ ps) = true
begins_with_word _ = false

-- the tokens of a line can be written, and a space stands before a word that an earlier token would take
abbrev pub IsSpaced : List Piece → Type 0
IsSpaced [] = Unit {0}
IsSpaced (token t ∷ ps) = IsLexeme t × (takes_more t && begins_with_word ps ≡ false) × IsSpaced ps
IsSpaced (space ∷ ps) = IsSpaced ps

-- one piece after another, with one space between them
infixr 60 ◌␣◌
abbrev pub ◌␣◌ : List Piece → List Piece → List Piece
a ␣ b = a ++ space ∷ b

-- one piece after another, with a comma and one space between them
infixr 60 ◌⸴◌
abbrev pub ◌⸴◌ : List Piece → List Piece → List Piece
a ⸴ b = a ++ token comma ∷ space ∷ b

-- a comma and one space before each part
abbrev pub behind_commas : List (List Piece) → List Piece
behind_commas [] = []
behind_commas (a ∷ more) = token comma ∷ space ∷ a ++ behind_commas more

-- the parts of a list, with a comma and one space between them
abbrev pub commas : List (List Piece) → List Piece
commas [] = []
commas (a ∷ more) = a ++ behind_commas more

abbrev pub mark : Lexeme → List Piece
mark t = token t ∷ []

abbrev pub keyword : String → List Piece
keyword s = token (word (codes s)) ∷ []

abbrev pub number : ℕ → List Piece
number n = token (word (decimal n)) ∷ []

-- a value or a label by its name
abbrev pub percent : List ℕ → List Piece
percent n = token (local n) ∷ []

abbrev pub in_parens : List Piece → List Piece
in_parens ps = token open_paren ∷ ps ++ token close_paren ∷ []

abbrev pub in_brackets : List Piece → List Piece
in_brackets ps = token open_bracket ∷ ps ++ token close_bracket ∷ []

abbrev pub in_braces : List Piece → List Piece
in_braces ps = token open_brace ∷ ps ++ token close_brace ∷ []
