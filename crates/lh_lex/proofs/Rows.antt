-- Bytes with what their tokens are up to the first bad byte.
use Rattle.std.proofs.Common.{◌≡◌, ℕ, List, [], ◌∷◌, zero, suc, refl}
use Rattle.std.specs.Prelude.{codes}
use Rattle.lh_unit.specs.Lexemes.{word, local, arrow, first_lexeme}
use Rattle.lh_lex.specs.Front.{bad_mark, lexemes_to_bad}

abbrev letters : ℕ → List ℕ
letters zero = []
letters (suc n) = 97 ∷ letters n

none_is_bad : lexemes_to_bad (codes "%a -> b ; ~") ≡ local (codes "a") ∷ arrow ∷ word (codes "b") ∷ []
unfolding first_lexeme
none_is_bad = refl

slash_alone : lexemes_to_bad (codes "a / b") ≡ word (codes "a") ∷ bad_mark ∷ []
unfolding first_lexeme
slash_alone = refl

sigil_alone : lexemes_to_bad (codes "%x @ y") ≡ local (codes "x") ∷ bad_mark ∷ []
unfolding first_lexeme
sigil_alone = refl

name_of_255 : lexemes_to_bad (37 ∷ letters 255) ≡ local (letters 255) ∷ []
unfolding first_lexeme
name_of_255 = refl

name_of_256 : lexemes_to_bad (37 ∷ letters 256) ≡ bad_mark ∷ []
unfolding first_lexeme
name_of_256 = refl
