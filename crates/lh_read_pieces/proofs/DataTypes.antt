-- Data types, level by level.
use Rattle.std.proofs.Common.{◌≡◌, ◌≢◌, ℕ, ◌-◌, ◌<◌, zero, suc, List, [], ◌∷◌, length, Option, Some, None, refl, ap, ◌∙◌, arith}
use Rattle.lh_types.specs.Types.{TypeTree}
use Rattle.lh_unit.specs.Lexemes.{Lexeme}
use denote.Bor.{Bor}
use Rattle.lh_read_pieces.specs.declared.tokens.Lex.{Lex}
use Rattle.lh_read_pieces.specs.declared.tokens.Lex.TheVariants as lex
use Rattle.lh_read_pieces.specs.LexemeOf.{lexeme_of}
use Rattle.lh_read_pieces.specs.Pieces.{first_at, punct_at}
use Rattle.lh_read_pieces.specs.Types.{data_in, data_at}
use Rattle.lh_read_pieces.specs.Shorter.{data_at-shorter, punct_at-shorter}

pub data_at-none : (k : ℕ) (ts : List Lexeme) → k ≡ 0 → data_at k ts ≡ None
unfolding data_at
data_at-none zero ts e = refl
data_at-none (suc k) ts e = absurd (omega (arith, e))

pub data_at-one : (k : ℕ) (ts : List Lexeme) → k ≢ 0 → data_at k ts ≡ data_in (data_at (k - 1)) ts
unfolding data_at
data_at-one zero ts h = absurd (h refl)
data_at-one (suc k) ts h = let e : suc k - 1 ≡ k = omega arith in rw e refl

first_at-inv : (ts : List Lexeme) (r : Lexeme × List Lexeme) → Some r ≡ first_at ts → ts ≡ r.0 ∷ r.1
first_at-inv [] r p = cc
first_at-inv (t ∷ ts) r p = let e : (t, ts) ≡ r = cc in λ i. (e i).0 ∷ (e i).1

-- what stands in front decides
pub data_at-first : (k : ℕ) (ts us : List Lexeme) (x : Lexeme) → k ≢ 0 → Some (x, us) ≡ first_at ts → data_at k ts ≡ data_in (data_at (k - 1)) (x ∷ us)
data_at-first k ts us x h p = data_at-one k ts h ∙ ap (data_in (data_at (k - 1))) (first_at-inv ts (x, us) p)

pub data_at-empty : (k : ℕ) (ts : List Lexeme) → k ≢ 0 → None ≡ first_at ts → data_at k ts ≡ None
data_at-empty k [] h p = data_at-one k [] h
data_at-empty k (t ∷ ts) h p = cc

-- no other token begins a data type
pub data_in-other : (p : List Lexeme → Option (TypeTree × List Lexeme)) (x : Lex) (us : List Lexeme) → ((w : Bor (List ℕ)) → x ≡ lex.Word w → ⊥) → ((b : ℕ) → x ≡ lex.Punct b → ⊥)
    → data_in p (lexeme_of x ∷ us) ≡ None
data_in-other p (lex.Word w) us f g = absurd (f w refl)
data_in-other p (lex.Punct b) us f g = absurd (g b refl)
data_in-other p (lex.Global n) us f g = refl
data_in-other p (lex.Local n) us f g = refl
data_in-other p lex.Arrow us f g = refl
data_in-other p lex.Minus us f g = refl
data_in-other p lex.Bad us f g = refl

-- past a type and a comma less is left
pub next-shorter : (k : ℕ) (ts more next : List Lexeme) (t : TypeTree) → data_at k ts ≡ Some (t, more) → punct_at 44 more ≡ Some next → length next < length ts
next-shorter k ts more next t e c = omega (arith, data_at-shorter k ts (t, more) e, punct_at-shorter 44 more next c)
