-- Lines with their tokens, computed from the definition.
use Rattle.std.proofs.Common.{◌≡◌, ℕ, zero, suc, List, [], ◌∷◌, Some, Ok, refl}
use Rattle.std.specs.Prelude.{codes}
use Rattle.lh_unit.specs.Lexemes.{word, global, local, arrow, minus, punct, lexemes, first_lexeme}
use Rattle.lh_unit.specs.Tokens.{tokens, first_token, first_bad}
use Rattle.lh_unit.specs.declared.token.TokenKind.TheVariants as kind

constant_line : lexemes (codes "%x = const i8 -128 ; c@#") ≡ Some (local (codes "x") ∷ punct 61 ∷ word (codes "const") ∷ word (codes "i8") ∷ minus ∷ word (codes "128") ∷ [])
unfolding first_lexeme
constant_line = refl

header_line : lexemes (codes "entity@t()->(i1$%q){//")
    ≡ Some (word (codes "entity") ∷ global (codes "t") ∷ punct 40 ∷ punct 41 ∷ arrow ∷ punct 40 ∷ word (codes "i1") ∷ punct 36 ∷ local (codes "q") ∷ punct 41 ∷ punct 123 ∷ [])
unfolding first_lexeme
header_line = refl

arrow_places : tokens (codes " -->a") ≡ Ok (record { kind = kind.Minus; from = 1; to = 2 } ∷ record { kind = kind.Arrow; from = 2; to = 4 } ∷ record { kind = kind.Word; from = 4; to = 5 } ∷ [])
unfolding first_token
arrow_places = refl

local_places : tokens (codes "%a:") ≡ Ok (record { kind = kind.Local; from = 0; to = 2 } ∷ record { kind = kind.Punct 58; from = 2; to = 3 } ∷ [])
unfolding first_token
local_places = refl

comment_has_no_tokens : tokens (codes "; @ / #") ≡ Ok []
unfolding first_token
comment_has_no_tokens = refl

slash_alone : first_bad (codes "a / b") ≡ Some 2
unfolding first_token
slash_alone = refl

sigil_alone : first_bad (codes "%x @") ≡ Some 3
unfolding first_token
sigil_alone = refl

letters : ℕ → List ℕ
letters zero = []
letters (suc n) = 97 ∷ letters n

name_of_255 : tokens (64 ∷ letters 255) ≡ Ok (record { kind = kind.Global; from = 0; to = 256 } ∷ [])
unfolding first_token letters
name_of_255 = refl

name_of_256 : first_bad (64 ∷ letters 256) ≡ Some 256
unfolding first_token letters
name_of_256 = refl

word_of_256 : tokens (letters 256) ≡ Ok (record { kind = kind.Word; from = 0; to = 256 } ∷ [])
unfolding first_token letters
word_of_256 = refl
