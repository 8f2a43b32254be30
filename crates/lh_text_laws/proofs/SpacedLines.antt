-- How spaced lines are joined.
use Rattle.std.proofs.Common.{◌≡◌, ℕ, true, false, ◌&&◌, List, [], ◌∷◌, ◌++◌, length, nat_le, refl, subst, arith}
use Rattle.std.proofs.lemmas.Grind.{common_steps}
use Rattle.std.proofs.Math.Bool.{and-false}
use Rattle.std.proofs.lemmas.Bool.{and_parts}
use Rattle.lh_unit_names.specs.Names.{all_name_bytes}
use Rattle.lh_unit.specs.Lexemes.{Lexeme, word, punct, is_punct}
use Rattle.lh_unit.specs.Marks.{comma}
use Rattle.lh_unit.specs.Pieces.{Piece, token, space, IsLexeme, IsSpaced, takes_more, begins_with_word, ◌␣◌, ◌⸴◌}

first_only : (p : Piece) (a b : List Piece) → begins_with_word (p ∷ a) ≡ begins_with_word (p ∷ b)
first_only space a b = refl
first_only (token (word w)) a b = refl
first_only (token t) a b = refl

junction : (t : Lexeme) (a b : List Piece) → (takes_more t && begins_with_word a) ≡ false → begins_with_word b ≡ false → (takes_more t && begins_with_word (a ++ b)) ≡ false
junction t [] b h w = rw w (and-false (takes_more t))
junction t (p ∷ a) b h w = subst (λ q. (takes_more t && q) ≡ false) (first_only p a (a ++ b)) h

-- a spaced line behind another, where it begins with no word
pub spaced-append : (a b : List Piece) → IsSpaced a → IsSpaced b → begins_with_word b ≡ false → IsSpaced (a ++ b)
spaced-append [] b h k w = k
spaced-append (space ∷ a) b h k w = spaced-append a b h k w
spaced-append (token t ∷ a) b h k w = (h.0, junction t a b h.1 w, spaced-append a b h.2 k w)

pub spaced-space : (a b : List Piece) → IsSpaced a → IsSpaced b → IsSpaced (a ␣ b)
spaced-space a b h k = spaced-append a (space ∷ b) h k refl

pub spaced-comma : (a b : List Piece) → IsSpaced a → IsSpaced b → IsSpaced (a ⸴ b)
spaced-comma a b h k = spaced-append a (token comma ∷ space ∷ b) h (refl, refl, k) refl

pub spaced-enclosed : (before behind : ℕ) (ps : List Piece) → is_punct before ≡ true → is_punct behind ≡ true → IsSpaced ps → IsSpaced (token (punct before) ∷ ps ++ token (punct behind) ∷ [])
spaced-enclosed before behind ps o c h = (o, refl, spaced-append ps (token (punct behind) ∷ []) h (c, refl, tt) refl)

-- a word that the test takes can be written
pub word-lexeme : (w : List ℕ) → (nat_le 1 (length w) && all_name_bytes w) ≡ true → IsLexeme (word w)
word-lexeme w h = let p = and_parts (nat_le 1 (length w)) (all_name_bytes w) h in let e : nat_le 1 (length w) ≡ true = p.0 in (grind (arith, common_steps), p.1)
