-- Texts written one after another.
use Rattle.std.proofs.Common.{◌≡◌, List, ℕ, [], ◌∷◌, ◌++◌, map, refl, ap, sym, ◌∙◌, append_assoc}
use Rattle.std.proofs.lemmas.List.{append-nil}
use Rattle.lh_types.specs.Types.{TypeTree, row_of}
use Rattle.lh_text_buffer.specs.Writing.{Written, Writes, Leaves}
use Rattle.lh_text_buffer.proofs.Parts.{less-left, still-left}
use Rattle.lh_unit.specs.Marks.{comma}
use Rattle.lh_unit.specs.Canon.{text_of}
use Rattle.lh_unit.specs.Pieces.{Piece, token, space, render, commas, behind_commas}
use Rattle.lh_unit.specs.CanonTypes.{type_pieces, row_pieces, row_behind}
use Rattle.lh_unit.proofs.RenderedPieces.{render-append, text_of-append}

pub ruleset steps = (render-append, text_of-append, append_assoc, append-nil)

-- one more part behind a comma
pub behind_step : (start now next : Written) (all : List ℕ) (part rest whole : List Piece) → whole ≡ token comma ∷ space ∷ part ++ rest → Writes now next (44 ∷ 32 ∷ render part)
    → Leaves start now (render whole) all
    → Leaves start next (render rest) all
behind_step start now next all part rest whole w n a =
    less-left start now next (44 ∷ 32 ∷ render part) (render rest) (render whole) all (ap render w ∙ ap (λ l. 44 ∷ 32 ∷ l) (render-append part rest)) n a

-- more lines
pub line_step : (start now next : Written) (all : List ℕ) (part rest whole : List (List Piece)) → whole ≡ part ++ rest → Writes now next (text_of part) → Leaves start now (text_of whole) all
    → Leaves start next (text_of rest) all
line_step start now next all part rest whole w n a = less-left start now next (text_of part) (text_of rest) (text_of whole) all (ap text_of w ∙ text_of-append part rest) n a

-- parts of which the first stands behind this text, and each other behind a comma and a space
abbrev pub in_row : List ℕ → List (List Piece) → List ℕ
in_row before [] = []
in_row before (p ∷ ps) = before ++ (render p ++ render (behind_commas ps))

pub in_row-first : (ps : List (List Piece)) → in_row [] ps ≡ render (commas ps)
in_row-first [] = refl
in_row-first (p ∷ ps) = sym (render-append p (behind_commas ps))

row_behind-commas : (ts : List TypeTree) → behind_commas (map type_pieces ts) ≡ row_behind (row_of ts)
row_behind-commas [] = refl
row_behind-commas (t ∷ ts) = ap (λ l. token comma ∷ space ∷ type_pieces t ++ l) (row_behind-commas ts)

-- the types of a row
pub in_row-types : (ts : List TypeTree) → in_row [] (map type_pieces ts) ≡ render (row_pieces (row_of ts))
in_row-types [] = refl
in_row-types (t ∷ ts) = in_row-first (map type_pieces (t ∷ ts)) ∙ ap (λ l. render (type_pieces t ++ l)) (row_behind-commas ts)

in_row-more : (ps : List (List Piece)) → in_row (44 ∷ 32 ∷ []) ps ≡ render (behind_commas ps)
in_row-more [] = refl
in_row-more (p ∷ ps) = ap (λ l. 44 ∷ 32 ∷ l) (sym (render-append p (behind_commas ps)))

-- one more part of a row
pub row_step : (start now next : Written) (all before behind : List ℕ) (part : List Piece) (rest whole : List (List Piece)) → whole ≡ part ∷ rest → behind ≡ 44 ∷ 32 ∷ []
    → Writes now next (before ++ render part)
    → Leaves start now (in_row before whole) all
    → Leaves start next (in_row behind rest) all
row_step start now next all before behind part rest whole w m n a =
    less-left start now next (before ++ render part) (in_row behind rest) (in_row before whole) all
    (ap (in_row before) w ∙ sym (append_assoc before (render part) (render (behind_commas rest)))
    ∙ ap (λ l. (before ++ render part) ++ l) (sym (in_row-more rest)) ∙ ap (λ b. (before ++ render part) ++ in_row b rest) (sym m))
    n a

-- a row that stays
pub row_same : (start now next : Written) (all before behind : List ℕ) (rest whole : List (List Piece)) → whole ≡ rest → behind ≡ before → next ≡ now → Leaves start now (in_row before whole) all
    → Leaves start next (in_row behind rest) all
row_same start now next all before behind rest whole w m n a =
    still-left start now next (in_row behind rest) (in_row before whole) all (ap (in_row before) w ∙ ap (λ b. in_row b rest) (sym m)) n a
