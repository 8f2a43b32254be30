-- The tokens of a line, taken longest first, each with its text.
use Rattle.std.specs.Prelude.{ℕ, ◌+◌, Bool, false, ◌&&◌, ◌||◌, nat_eq, nat_lt, List, [], ◌∷◌, take, Option, Some, None, if◌then◌else◌}
use Rattle.std.proofs.Common.{zero, suc}
use Rattle.lh_unit_names.specs.Names.{is_name_byte}

-- a token with its text; the names of globals and locals are without their sigil
pub data Lexeme : Type 0 where
  word : List ℕ → Lexeme
  global : List ℕ → Lexeme
  local : List ℕ → Lexeme
  arrow : Lexeme
  minus : Lexeme
  punct : ℕ → Lexeme

-- space, tab and carriage return
abbrev pub is_white : ℕ → Bool
is_white b = nat_eq b 32 || nat_eq b 9 || nat_eq b 13

abbrev pub begins : ℕ → List ℕ → Bool
begins c [] = false
begins c (b ∷ bs) = nat_eq b c

-- whether a comment begins with b, before bs: `;` or `//`
abbrev pub is_comment : ℕ → List ℕ → Bool
is_comment b bs = nat_eq b 59 || (nat_eq b 47 && begins 47 bs)

-- how many name bytes stand in front
abbrev pub run_len : List ℕ → ℕ
run_len [] = 0
run_len (b ∷ bs) = if is_name_byte b then run_len bs + 1 else 0

-- ( ) { } [ ] , : $ * =
abbrev pub is_punct : ℕ → Bool
is_punct b = nat_eq b 40 || nat_eq b 41 || nat_eq b 123 || nat_eq b 125 || nat_eq b 91 || nat_eq b 93 || nat_eq b 44 || nat_eq b 58 || nat_eq b 36 || nat_eq b 42 || nat_eq b 61

-- a name has 1 to 255 bytes
abbrev pub fits_name : ℕ → Bool
fits_name n = nat_lt 0 n && nat_lt n 256

-- the token that begins with b, and how many of the bytes bs after it it takes
unfoldable pub first_lexeme : ℕ → List ℕ → Option (Lexeme × ℕ)
first_lexeme b bs =
    if is_name_byte b then Some (word (b ∷ take (run_len bs) bs), run_len bs)
    else if nat_eq b 64 then (if fits_name (run_len bs) then Some (global (take (run_len bs) bs), run_len bs) else None)
    else if nat_eq b 37 then (if fits_name (run_len bs) then Some (local (take (run_len bs) bs), run_len bs) else None)
    else if nat_eq b 45 then (if begins 62 bs then Some (arrow, 1) else Some (minus, 0))
    else if is_punct b then Some (punct b, 0) else None

abbrev pub front : Lexeme → Option (List Lexeme) → Option (List Lexeme)
front t None = None
front t (Some ts) = Some (t ∷ ts)

-- the tokens after the first k bytes, which an earlier token took; none where some byte begins no token
abbrev pub lexemes_after : ℕ → List ℕ → Option (List Lexeme)
lexemes_after k [] = Some []
lexemes_after (suc k) (b ∷ bs) = lexemes_after k bs
lexemes_after zero (b ∷ bs) =
    if is_white b then lexemes_after 0 bs
    else if is_comment b bs then Some []
    else elim (first_lexeme b bs) [ None ↦ None | Some p ↦ front p.0 (lexemes_after p.1 bs) ]

-- the tokens of a line
abbrev pub lexemes : List ℕ → Option (List Lexeme)
lexemes bs = lexemes_after 0 bs
