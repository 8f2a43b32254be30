-- The token in front of bytes.
use Rattle.std.specs.Prelude.{◌≡◌, ℕ, Bool, true, false, ◌&&◌, nat_eq, nat_lt, List, [], ◌∷◌, take, Option, Some, None, Result, Ok, Err, if◌then◌else◌}
use Rattle.std.proofs.Common.{zero, suc}
use Rattle.lh_unit_names.specs.Names.{is_name_byte}
use Rattle.lh_unit.specs.Lexemes.{Lexeme, punct, first_lexeme, run_len, fits_name, is_white, is_comment}
use Rattle.lh_unit.specs.Tokens.{lexeme_of}
use Rattle.lh_unit.specs.declared.token.TokenKind.{TokenKind}

-- the token that begins with b, with its text, and how many of the bytes bs after it it takes
abbrev pub taken : ℕ → List ℕ → Result (TokenKind × ℕ) ℕ → Option (Lexeme × ℕ)
taken b bs (Ok p) = Some (lexeme_of p.0 (b ∷ take p.1 bs), p.1)
taken b bs (Err n) = None

-- whether a word begins with the first byte
abbrev pub begins_word : List ℕ → Bool
begins_word [] = false
begins_word (b ∷ bs) = is_name_byte b

-- whether a name behind `%` begins with the first byte
abbrev pub begins_local : List ℕ → Bool
begins_local [] = false
begins_local (b ∷ bs) = nat_eq b 37 && fits_name (run_len bs)

-- stands in the place of a byte that no token takes, and of a name that is too long: a mark that no byte is
abbrev pub bad_mark : Lexeme
bad_mark = punct 256

-- the tokens behind the first k bytes, which an earlier token took, up to the first byte that no token takes, and that mark in its place
abbrev pub to_bad_after : ℕ → List ℕ → List Lexeme
to_bad_after k [] = []
to_bad_after (suc k) (b ∷ bs) = to_bad_after k bs
to_bad_after zero (b ∷ bs) =
    if is_white b then to_bad_after 0 bs
    else if is_comment b bs then []
    else elim (first_lexeme b bs) [ None ↦ bad_mark ∷ [] | Some p ↦ p.0 ∷ to_bad_after p.1 bs ]

-- the same from the first byte on
abbrev pub lexemes_to_bad : List ℕ → List Lexeme
lexemes_to_bad bs = to_bad_after 0 bs

-- whether it is a token, and not that mark
abbrev pub is_token : Lexeme → Bool
is_token (punct b) = nat_lt b 256
is_token _ = true

abbrev pub all_tokens : List Lexeme → Bool
all_tokens [] = true
all_tokens (t ∷ ts) = is_token t && all_tokens ts

-- there is no byte, or the first begins a token or is bad
abbrev pub IsSettled : List ℕ → Type 0
IsSettled [] = Unit {0}
IsSettled (b ∷ bs) = (is_white b ≡ false) × (is_comment b bs ≡ false)
