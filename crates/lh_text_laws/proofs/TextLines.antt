-- The lines of a text that is made of spaced lines.
use Rattle.std.proofs.Common.{◌≡◌, ℕ, true, false, List, [], ◌∷◌, ◌++◌, map, nat_eq, refl, ap, ◌∙◌, arith}
use Rattle.std.proofs.lemmas.Grind.{common_steps}
use Rattle.std.proofs.lemmas.Bool.{and_parts}
use Rattle.lh_unit_names.specs.Names.{is_name_byte, all_name_bytes}
use Rattle.lh_unit.specs.Lexemes.{Lexeme, word, global, local, arrow, minus, punct, is_punct}
use Rattle.lh_unit.specs.Lines.{lines_of, add_front}
use Rattle.lh_unit.specs.Pieces.{Piece, token, space, lexeme_bytes, render, IsLexeme, IsSpaced}
use Rattle.lh_unit.specs.Canon.{text_of}
use Rattle.lh_unit.specs.Within.{Each}

-- no byte ends the line
abbrev IsOneLine : List ℕ → Type 0
IsOneLine [] = Unit {0}
IsOneLine (b ∷ bs) = (nat_eq b 10 ≡ false) × IsOneLine bs

one_line-append : (a b : List ℕ) → IsOneLine a → IsOneLine b → IsOneLine (a ++ b)
one_line-append [] b h k = k
one_line-append (x ∷ a) b h k = (h.0, one_line-append a b h.1 k)

name_byte : (b : ℕ) → is_name_byte b ≡ true → nat_eq b 10 ≡ false
name_byte b h = grind (arith, common_steps)

mark_byte : (b : ℕ) → is_punct b ≡ true → nat_eq b 10 ≡ false
mark_byte b h = grind (arith, common_steps)

names-one_line : (bs : List ℕ) → all_name_bytes bs ≡ true → IsOneLine bs
names-one_line [] h = tt
names-one_line (b ∷ bs) h = let p = and_parts (is_name_byte b) (all_name_bytes bs) h in (name_byte b p.0, names-one_line bs p.1)

lexeme-one_line : (t : Lexeme) → IsLexeme t → IsOneLine (lexeme_bytes t)
lexeme-one_line (word w) h = names-one_line w h.1
lexeme-one_line (global n) h = (refl, names-one_line n h.2)
lexeme-one_line (local n) h = (refl, names-one_line n h.2)
lexeme-one_line arrow h = (refl, (refl, tt))
lexeme-one_line minus h = (refl, tt)
lexeme-one_line (punct b) h = (mark_byte b h, tt)

render-one_line : (ps : List Piece) → IsSpaced ps → IsOneLine (render ps)
render-one_line [] h = tt
render-one_line (token t ∷ ps) h = one_line-append (lexeme_bytes t) (render ps) (lexeme-one_line t h.0) (render-one_line ps h.2)
render-one_line (space ∷ ps) h = (refl, render-one_line ps h)

-- a line in front
lines_of-line : (l bs : List ℕ) → IsOneLine l → lines_of (l ++ 10 ∷ bs) ≡ l ∷ lines_of bs
lines_of-line [] bs h = refl
lines_of-line (b ∷ l) bs h = let e : nat_eq b 10 ≡ false = h.0 in rw e (ap (add_front b) (lines_of-line l bs h.1))

-- the lines of a text are those that it is made of
pub lines_of-text : (ls : List (List Piece)) → Each IsSpaced ls → lines_of (text_of ls) ≡ map render ls
lines_of-text [] h = refl
lines_of-text (l ∷ ls) h = lines_of-line (render l) (text_of ls) (render-one_line l h.0) ∙ ap (λ q. render l ∷ q) (lines_of-text ls h.1)
