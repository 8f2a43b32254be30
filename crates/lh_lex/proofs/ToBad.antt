-- The tokens of bytes, and their tokens up to the first bad byte.
use Rattle.std.proofs.Common.{◌≡◌, ℕ, zero, suc, Bool, true, false, List, [], ◌∷◌, Option, Some, None, if◌then◌else◌, refl, ap, ◌∙◌}
use Rattle.std.proofs.lemmas.Bool.{false≢true}
use Rattle.lh_types.specs.Same.{and_both}
use Rattle.lh_unit.specs.Lexemes.{Lexeme, lexemes, lexemes_after, front, first_lexeme, is_white, is_comment}
use Rattle.lh_lex.specs.Front.{bad_mark, to_bad_after, lexemes_to_bad, is_token, all_tokens}

-- what bytes begin with: white, a comment, a token and how many bytes it takes behind its first, or what is bad
all-step : (white comment : Bool) (o : Option (Lexeme × ℕ)) (bs : List ℕ) → ((k : ℕ) → all_tokens (to_bad_after k bs) ≡ true → lexemes_after k bs ≡ Some (to_bad_after k bs))
    → all_tokens (if white then to_bad_after 0 bs else if comment then [] else elim o [ None ↦ bad_mark ∷ [] | Some p ↦ p.0 ∷ to_bad_after p.1 bs ]) ≡ true
    → (if white then lexemes_after 0 bs else if comment then Some [] else elim o [ None ↦ None | Some p ↦ front p.0 (lexemes_after p.1 bs) ])
    ≡ Some (if white then to_bad_after 0 bs else if comment then [] else elim o [ None ↦ bad_mark ∷ [] | Some p ↦ p.0 ∷ to_bad_after p.1 bs ])
all-step true comment o bs more a = more 0 a
all-step false true o bs more a = refl
all-step false false None bs more a = absurd (false≢true a)
all-step false false (Some p) bs more a = ap (front p.0) (more p.1 (and_both (is_token p.0) (all_tokens (to_bad_after p.1 bs)) a).1)

all-after : (k : ℕ) (bs : List ℕ) → all_tokens (to_bad_after k bs) ≡ true → lexemes_after k bs ≡ Some (to_bad_after k bs)
all-after k [] a = refl
all-after (suc k) (b ∷ bs) a = all-after k bs a
all-after zero (b ∷ bs) a = all-step (is_white b) (is_comment b bs) (first_lexeme b bs) bs (λ k. all-after k bs) a

-- bytes of which none is bad have these tokens
pub lexemes-all : (bs : List ℕ) → all_tokens (lexemes_to_bad bs) ≡ true → lexemes bs ≡ Some (lexemes_to_bad bs)
lexemes-all bs a = all-after 0 bs a

behind : (t : Lexeme) (q : Option (List Lexeme)) (us ts : List Lexeme) → ((vs : List Lexeme) → q ≡ Some vs → us ≡ vs) → front t q ≡ Some ts → t ∷ us ≡ ts
behind t None us ts more e = absurd cc
behind t (Some vs) us ts more e = let g : t ∷ vs ≡ ts = cc in ap (λ l. t ∷ l) (more vs refl) ∙ g

those-step : (white comment : Bool) (o : Option (Lexeme × ℕ)) (bs : List ℕ) (ts : List Lexeme) → ((k : ℕ) (us : List Lexeme) → lexemes_after k bs ≡ Some us → to_bad_after k bs ≡ us)
    → (if white then lexemes_after 0 bs else if comment then Some [] else elim o [ None ↦ None | Some p ↦ front p.0 (lexemes_after p.1 bs) ]) ≡ Some ts
    → (if white then to_bad_after 0 bs else if comment then [] else elim o [ None ↦ bad_mark ∷ [] | Some p ↦ p.0 ∷ to_bad_after p.1 bs ]) ≡ ts
those-step true comment o bs ts more e = more 0 ts e
those-step false true o bs ts more e = cc
those-step false false None bs ts more e = absurd cc
those-step false false (Some p) bs ts more e = behind p.0 (lexemes_after p.1 bs) (to_bad_after p.1 bs) ts (more p.1) e

those-after : (k : ℕ) (bs : List ℕ) (ts : List Lexeme) → lexemes_after k bs ≡ Some ts → to_bad_after k bs ≡ ts
those-after k [] ts e = cc
those-after (suc k) (b ∷ bs) ts e = those-after k bs ts e
those-after zero (b ∷ bs) ts e = those-step (is_white b) (is_comment b bs) (first_lexeme b bs) bs ts (λ k. those-after k bs) e

-- the tokens of bytes, where they have tokens, are those up to the first bad byte
pub those-lexemes : (bs : List ℕ) (ts : List Lexeme) → lexemes bs ≡ Some ts → lexemes_to_bad bs ≡ ts
those-lexemes bs ts e = those-after 0 bs ts e
