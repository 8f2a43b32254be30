-- The tokens of a line with the places where they stand, and the first byte that no token takes.
use Rattle.std.specs.Prelude.{◌≡◌, ℕ, ◌+◌, ◌-◌, ◌<◌, ◌≤◌, Bool, true, false, nat_eq, nat_lt, List, [], ◌∷◌, length, take, drop, map, Option, Some, None, Result, Ok, Err, if◌then◌else◌}
use Rattle.std.proofs.Common.{zero, suc}
use Rattle.lh_unit_names.specs.Names.{is_name_byte, all_name_bytes, IsName}
use Rattle.lh_unit.specs.Lexemes.{Lexeme, word, global, local, arrow, minus, punct, is_white, is_comment, is_punct, begins, run_len}
use Rattle.lh_unit.specs.declared.token.Token.{Token}
use Rattle.lh_unit.specs.declared.token.TokenKind.{TokenKind}
use Rattle.lh_unit.specs.declared.token.TokenKind.TheVariants as kind

-- a sigil before n name bytes: bad where none follows, and bad at the 256th byte of the name
abbrev pub named : TokenKind → ℕ → Result (TokenKind × ℕ) ℕ
named k n = if nat_eq n 0 then Err 0 else if nat_lt n 256 then Ok (k, n) else Err 256

-- the token that begins with b, and how many of the bytes bs after it it takes; or how far behind b the first bad byte stands
unfoldable pub first_token : ℕ → List ℕ → Result (TokenKind × ℕ) ℕ
first_token b bs =
    if is_name_byte b then Ok (kind.Word, run_len bs)
    else if nat_eq b 64 then named kind.Global (run_len bs)
    else if nat_eq b 37 then named kind.Local (run_len bs)
    else if nat_eq b 45 then (if begins 62 bs then Ok (kind.Arrow, 1) else Ok (kind.Minus, 0))
    else if is_punct b then Ok (kind.Punct b, 0) else Err 0

abbrev pub front_token : Token → Result (List Token) ℕ → Result (List Token) ℕ
front_token t (Ok ts) = Ok (t ∷ ts)
front_token t (Err n) = Err n

-- the tokens after the first k of these bytes, which an earlier token took; the first byte stands at a place of the line
abbrev pub tokens_after : (at k : ℕ) → List ℕ → Result (List Token) ℕ
tokens_after at k [] = Ok []
tokens_after at (suc k) (b ∷ bs) = tokens_after (at + 1) k bs
tokens_after at zero (b ∷ bs) =
    if is_white b then tokens_after (at + 1) 0 bs
    else if is_comment b bs then Ok []
    else elim (first_token b bs) [
      | Ok p ↦ front_token (record { kind = p.0; from = at; to = at + 1 + p.1 }) (tokens_after (at + 1) p.1 bs)
      | Err n ↦ Err (at + n)
    ]

-- the tokens of a line, or the place of its first bad byte
abbrev pub tokens : List ℕ → Result (List Token) ℕ
tokens bs = tokens_after 0 0 bs

abbrev pub fault_place : Result (List Token) ℕ → Option ℕ
fault_place (Ok ts) = None
fault_place (Err n) = Some n

-- the place of the first byte that no token takes, or of the 256th byte of a name
abbrev pub first_bad : List ℕ → Option ℕ
first_bad bs = fault_place (tokens bs)

-- the bytes from one place to another
abbrev pub bytes_at : List ℕ → ℕ → ℕ → List ℕ
bytes_at bs from to = take (to - from) (drop from bs)

-- a token of these bytes, a name without its sigil
abbrev pub lexeme_of : TokenKind → List ℕ → Lexeme
lexeme_of kind.Word bs = word bs
lexeme_of kind.Global bs = global (drop 1 bs)
lexeme_of kind.Local bs = local (drop 1 bs)
lexeme_of kind.Arrow bs = arrow
lexeme_of kind.Minus bs = minus
lexeme_of (kind.Punct b) bs = punct b

-- a token of a line with its text
abbrev pub lexeme_at : List ℕ → Token → Lexeme
lexeme_at bs t = lexeme_of t.kind (bytes_at bs t.from t.to)

-- what the bytes of a token are: name bytes, a sigil and a name, or the mark itself
abbrev pub IsSpelling : TokenKind → List ℕ → Type 0
IsSpelling kind.Word bs = (1 ≤ length bs) × (all_name_bytes bs ≡ true)
IsSpelling kind.Global bs = (bs ≡ 64 ∷ drop 1 bs) × IsName (drop 1 bs)
IsSpelling kind.Local bs = (bs ≡ 37 ∷ drop 1 bs) × IsName (drop 1 bs)
IsSpelling kind.Arrow bs = bs ≡ 45 ∷ 62 ∷ []
IsSpelling kind.Minus bs = bs ≡ 45 ∷ []
IsSpelling (kind.Punct b) bs = (bs ≡ b ∷ []) × (is_punct b ≡ true)

-- a token lies within the line, and its bytes are what its kind says
pub record IsTokenOf (bs : List ℕ) (t : Token) : Type 0 where
  pub begins_in : t.from < t.to
  pub ends_in : t.to ≤ length bs
  pub spelling : IsSpelling t.kind (bytes_at bs t.from t.to)

abbrev pub AreTokensOf : List ℕ → List Token → Type 0
AreTokensOf bs [] = Unit {0}
AreTokensOf bs (t ∷ ts) = IsTokenOf bs t × AreTokensOf bs ts

abbrev pub all_white : List ℕ → Bool
all_white [] = true
all_white (b ∷ bs) = if is_white b then all_white bs else false

-- white bytes, and then the end of the line or a comment
abbrev pub ends : List ℕ → Bool
ends [] = true
ends (b ∷ bs) = if is_white b then ends bs else is_comment b bs

-- from a place of the line on, the tokens stand one behind the other, with only white between them, and behind the last only white and a comment
abbrev pub Covers : List ℕ → ℕ → List Token → Type 0
Covers bs at [] = ends (drop at bs) ≡ true
Covers bs at (t ∷ ts) = (at ≤ t.from) × (all_white (bytes_at bs at t.from) ≡ true) × Covers bs t.to ts

-- the lexemes of a line's tokens; none where a byte is bad
abbrev pub lexemes_of : List ℕ → Result (List Token) ℕ → Option (List Lexeme)
lexemes_of bs (Ok ts) = Some (map (lexeme_at bs) ts)
lexemes_of bs (Err n) = None
