-- What is spelled, spelled again by the pieces of a canonical line.
use Rattle.std.proofs.Common.{◌≡◌, ℕ, true, List, [], ◌∷◌, ◌++◌, map, refl, sym, subst, append_assoc}
use Rattle.std.proofs.lemmas.List.{append-nil}
use Rattle.lh_unit.specs.Lexemes.{Lexeme, punct, is_punct}
use Rattle.lh_unit.specs.Marks.{comma}
use Rattle.lh_unit.specs.Pieces.{Piece, token, space, IsLexeme, IsSpaced, lexemes_in, commas, behind_commas}
use Rattle.lh_unit.specs.Within.{Each}
use Rattle.lh_unit.specs.SpellsParts.{SpellsParts, SpellsList, SpellsBehind}
use Rattle.lh_text_laws.proofs.SpacedLines.{spaced-comma, spaced-enclosed}

-- the pieces are spaced and spell what S says, whatever follows them
pub record PiecesSpell (S : List Lexeme → List Lexeme → Type 0) (ps : List Piece) : Type 0 where
  pub spaced : IsSpaced ps
  pub spelled : (rest : List Piece) → S (lexemes_in (ps ++ rest)) (lexemes_in rest)

-- the same, and the tokens that follow can be written
pub record Again (S : List Lexeme → List Lexeme → Type 0) (ps : List Piece) (more : List Lexeme) : Type 0 where
  pub left : Each IsLexeme more
  pub stands : PiecesSpell S ps

-- the tokens of a whole line are spaced and spell what S says
pub record Whole (S : List Lexeme → Type 0) (ps : List Piece) : Type 0 where
  pub spaced : IsSpaced ps
  pub spelled : S (lexemes_in ps)

-- at the end of a line
pub at_end : (S : List Lexeme → List Lexeme → Type 0) (ps : List Piece) → PiecesSpell S ps → S (lexemes_in ps) []
at_end S ps a = subst (λ q. S (lexemes_in q) []) (append-nil ps) (a.spelled [])

-- pieces in two groups, and what follows
pub joined : (S : List Lexeme → List Lexeme → Type 0) (a b rest : List Piece) → S (lexemes_in (a ++ (b ++ rest))) (lexemes_in rest) → S (lexemes_in ((a ++ b) ++ rest)) (lexemes_in rest)
joined S a b rest = subst (λ q. S (lexemes_in q) (lexemes_in rest)) (sym (append_assoc a b rest))

pub stands-map : (S T : List Lexeme → List Lexeme → Type 0) (ps : List Piece) → ((ts us : List Lexeme) → S ts us → T ts us) → PiecesSpell S ps → PiecesSpell T ps
stands-map S T ps f a = record { spaced = a.spaced; spelled = λ rest. f (lexemes_in (ps ++ rest)) (lexemes_in rest) (a.spelled rest) }

pub again-map : (S T : List Lexeme → List Lexeme → Type 0) (ps : List Piece) (more : List Lexeme) → ((ts us : List Lexeme) → S ts us → T ts us) → Again S ps more → Again T ps more
again-map S T ps more f a = record { left = a.left; stands = stands-map S T ps f a.stands }

-- what spells nothing
pub stands-nothing : PiecesSpell (λ ts more. ts ≡ more) []
stands-nothing = record { spaced = tt; spelled = λ rest. refl }

pub again-nothing : (ts more : List Lexeme) → Each IsLexeme ts → ts ≡ more → Again (λ us vs. us ≡ vs) [] more
again-nothing ts more l e = record { left = subst (Each IsLexeme) e l; stands = stands-nothing }

module _ {A : Type 0} (P : A → List Lexeme → List Lexeme → Type 0) (pieces : A → List Piece)
    (part : (a : A) (ts more : List Lexeme) → Each IsLexeme ts → P a ts more → Again (P a) (pieces a) more) where
  two_parts : (a b : A) (xs : List A) (more : List Lexeme) → PiecesSpell (P a) (pieces a) → PiecesSpell (SpellsParts P (b ∷ xs)) (commas (map pieces (b ∷ xs)))
      → PiecesSpell (SpellsParts P (a ∷ b ∷ xs)) (commas (map pieces (a ∷ b ∷ xs)))
  two_parts a b xs more r s =
      record {
        spaced = spaced-comma (pieces a) (commas (map pieces (b ∷ xs))) r.spaced s.spaced;
        spelled = λ rest. joined (SpellsParts P (a ∷ b ∷ xs)) (pieces a) (token comma ∷ space ∷ commas (map pieces (b ∷ xs))) rest
            (lexemes_in (commas (map pieces (b ∷ xs)) ++ rest), r.spelled (token comma ∷ space ∷ (commas (map pieces (b ∷ xs)) ++ rest)), s.spelled rest);
      }

  -- a list of one or more
  pub parts-again : (xs : List A) (ts more : List Lexeme) → Each IsLexeme ts → SpellsParts P xs ts more → Again (SpellsParts P xs) (commas (map pieces xs)) more
  parts-again [] ts more l h = absurd h
  parts-again (a ∷ []) ts more l h = subst (λ q. Again (P a) q more) (sym (append-nil (pieces a))) (part a ts more l h)
  parts-again (a ∷ b ∷ xs) ts more l h =
      let r = part a ts (comma ∷ h.0) l h.1 in
      let s = parts-again (b ∷ xs) h.0 more r.left.1 h.2 in
      record { left = s.left; stands = two_parts a b xs more r.stands s.stands }

  -- a list
  pub list-again : (xs : List A) (ts more : List Lexeme) → Each IsLexeme ts → SpellsList P xs ts more → Again (SpellsList P xs) (commas (map pieces xs)) more
  list-again [] ts more l h = again-nothing ts more l h
  list-again (a ∷ xs) ts more l h = parts-again (a ∷ xs) ts more l h

  behind-stands : (a : A) (xs : List A) → PiecesSpell (SpellsParts P (a ∷ xs)) (commas (map pieces (a ∷ xs))) → PiecesSpell (SpellsBehind P (a ∷ xs)) (behind_commas (map pieces (a ∷ xs)))
  behind-stands a xs s = record { spaced = (refl, refl, s.spaced); spelled = λ rest. (lexemes_in (commas (map pieces (a ∷ xs)) ++ rest), refl, s.spelled rest) }

  -- a comma before each
  pub behind-again : (xs : List A) (ts more : List Lexeme) → Each IsLexeme ts → SpellsBehind P xs ts more → Again (SpellsBehind P xs) (behind_commas (map pieces xs)) more
  behind-again [] ts more l h = again-nothing ts more l h
  behind-again (a ∷ xs) ts more l h =
      let k : Each IsLexeme (comma ∷ h.0) = subst (Each IsLexeme) h.1 l in
      let r = parts-again (a ∷ xs) h.0 more k.1 h.2 in
      record { left = r.left; stands = behind-stands a xs r.stands }

-- what stands between two marks
pub enclosed : (S : List Lexeme → List Lexeme → Type 0) (before behind : ℕ) (ps : List Piece) → is_punct before ≡ true → is_punct behind ≡ true → PiecesSpell S ps
    → PiecesSpell (λ ts more. (us : List Lexeme) × (ts ≡ punct before ∷ us) × S us (punct behind ∷ more)) (token (punct before) ∷ ps ++ token (punct behind) ∷ [])
enclosed S before behind ps o c a =
    record {
      spaced = spaced-enclosed before behind ps o c a.spaced;
      spelled = λ rest. (
        lexemes_in ((ps ++ token (punct behind) ∷ []) ++ rest),
        refl,
        joined (λ ts more. S ts (punct behind ∷ more)) ps (token (punct behind) ∷ []) rest
            (a.spelled (token (punct behind) ∷ rest)),
      );
    }
