-- The pieces of a line: what is found in front of the tokens stands there.
use Rattle.std.proofs.Common.{◌≡◌, ℕ, ◌<◌, ◌≤◌, true, List, [], ◌∷◌, length, Option, Some, None, nat_eq, nat_lt, nat_le, refl, ap, sym, ◌∙◌, subst, arith, inl, inr}
use Rattle.std.specs.Prelude.{◌^◌}
use Rattle.std.specs.Cmp.Lexicographic.{same_text}
use Rattle.std.proofs.lemmas.Grind.{common_steps}
use Rattle.std.proofs.lemmas.Option.{cond_some}
use lib.Pointwise.{pointwise}
use Rattle.lh_unit.specs.Lexemes.{Lexeme, word, global, local, arrow, minus, punct}
use Rattle.lh_unit.specs.SpellsParts.{SpellsUnitName}
use Rattle.lh_unit_names.specs.declared.name.UnitName.{UnitName}
use Rattle.lh_read_pieces.specs.Shorter.{bind_some}
use Rattle.lh_read_pieces.specs.Pieces.{word_at, any_word_at, local_at, named_in, name_at, unit_name_at, punct_at, arrow_at, minus_at, end_at, below, small}
use Rattle.lh_unit_names.proofs.NameLists.{same_name-refl}

-- the pieces
pub word_at-inv : (w : List ℕ) (ts us : List Lexeme) → word_at w ts ≡ Some us → ts ≡ word w ∷ us
word_at-inv w (word x ∷ ts) us p = let g = cond_some (pointwise nat_eq x w) ts us p in let e : x ≡ w = same_text x w (sym g.0) in λ i. word (e i) ∷ g.1 i
word_at-inv w _ us p = cc

pub word_at-again : (w : List ℕ) (ts : List Lexeme) → word_at w (word w ∷ ts) ≡ Some ts
word_at-again w ts = let e = same_name-refl w in rw e refl

pub any_word_at-inv : (ts : List Lexeme) (r : List ℕ × List Lexeme) → any_word_at ts ≡ Some r → ts ≡ word r.0 ∷ r.1
any_word_at-inv (word x ∷ ts) r p = cc
any_word_at-inv _ r p = cc

pub local_at-inv : (ts : List Lexeme) (r : List ℕ × List Lexeme) → local_at ts ≡ Some r → ts ≡ local r.0 ∷ r.1
local_at-inv (local x ∷ ts) r p = cc
local_at-inv _ r p = cc

pub unit_name_at-sound : (ts : List Lexeme) (r : UnitName × List Lexeme) → unit_name_at ts ≡ Some r → (name : Lexeme) × (ts ≡ name ∷ r.1) × SpellsUnitName r.0 name
unit_name_at-sound (global x ∷ ts) r p =
    let e : record { sigil = 64; name = x } ≡ r.0 = cc in let f : ts ≡ r.1 = cc in
    (global x, ap (λ l. global x ∷ l) f, inl (ap (λ n. n.sigil) (sym e), ap (λ n. global n.name) e))
unit_name_at-sound (local x ∷ ts) r p =
    let e : record { sigil = 37; name = x } ≡ r.0 = cc in let f : ts ≡ r.1 = cc in
    (local x, ap (λ l. local x ∷ l) f, inr (ap (λ n. n.sigil) (sym e), ap (λ n. local n.name) e))
unit_name_at-sound _ r p = cc

pub unit_name_at-again : (n : UnitName) (t : Lexeme) (ts : List Lexeme) → SpellsUnitName n t → unit_name_at (t ∷ ts) ≡ Some (n, ts)
unit_name_at-again n t ts s = elim s [
  | inl h ↦ ap (λ x. unit_name_at (x ∷ ts)) h.1 ∙ (λ i. Some (record { sigil = sym h.0 i; name = n.name }, ts))
  | inr h ↦ ap (λ x. unit_name_at (x ∷ ts)) h.1 ∙ (λ i. Some (record { sigil = sym h.0 i; name = n.name }, ts))
]

pub punct_at-inv : (b : ℕ) (ts us : List Lexeme) → punct_at b ts ≡ Some us → ts ≡ punct b ∷ us
punct_at-inv b (punct c ∷ ts) us p = let g = cond_some (nat_eq c b) ts us p in let h : nat_eq c b ≡ true = g.0 in let e : c ≡ b = grind (arith, common_steps) in λ i. punct (e i) ∷ g.1 i
punct_at-inv b _ us p = cc

pub punct_at-again : (b : ℕ) (ts : List Lexeme) → punct_at b (punct b ∷ ts) ≡ Some ts
punct_at-again b ts = let e : nat_eq b b ≡ true = grind (arith, common_steps) in rw e refl

pub arrow_at-inv : (ts us : List Lexeme) → arrow_at ts ≡ Some us → ts ≡ arrow ∷ us
arrow_at-inv (arrow ∷ ts) us p = cc
arrow_at-inv _ us p = cc

pub end_at-inv : (ts : List Lexeme) (u : Unit {0}) → end_at ts ≡ Some u → ts ≡ []
end_at-inv [] u p = refl
end_at-inv _ u p = cc

pub small-inv : (o : Option ℕ) (n : ℕ) → small o ≡ Some n → o ≡ Some n
small-inv None n p = cc
small-inv (Some m) n p = ap Some (cond_some (nat_lt m (2 ^ 128)) m n p).1

pub small-below : (n : ℕ) → n < 2 ^ 128 → small (Some n) ≡ Some n
small-below n h = let e : nat_lt n (2 ^ 128) ≡ true = grind (arith, common_steps) in rw e refl

pub minus_at-inv : (ts us : List Lexeme) → minus_at ts ≡ Some us → ts ≡ minus ∷ us
minus_at-inv (minus ∷ ts) us p = cc
minus_at-inv _ us p = cc

-- a number below a bound
pub below-inv : (b : ℕ) (o : Option ℕ) (n : ℕ) → below b o ≡ Some n → (o ≡ Some n) × (n < b)
below-inv b None n p = cc
below-inv b (Some m) n p =
    let g = cond_some (nat_lt m b) m n p in let t : nat_lt m b ≡ true = g.0 in let l : m < b = lt m b t in
    (ap Some g.1, subst (λ x. x < b) g.1 l)
  where
    lt : (x y : ℕ) → nat_lt x y ≡ true → x < y
    lt x y t = grind (arith, common_steps)

pub below-again : (b n : ℕ) → n < b → below b (Some n) ≡ Some n
below-again b n h = let e : nat_lt n b ≡ true = grind (arith, common_steps) in rw e refl

-- a word as a name
pub name_at-inv : (ts : List Lexeme) (r : List ℕ × List Lexeme) → name_at ts ≡ Some r → (ts ≡ word r.0 ∷ r.1) × (length r.0 ≤ 255)
unfolding name_at
name_at-inv (word w ∷ ts) r p =
    let a = bind_some (named_in (word w)) _ r p in
    let g = cond_some (nat_le (length w) 255) w a.0 a.1 in
    let t : nat_le (length w) 255 ≡ true = g.0 in
    let l : length w ≤ 255 = grind (arith, common_steps) in
    let e : w ≡ r.0 = g.1 ∙ (cc (a.2)) in
    let f : ts ≡ r.1 = cc (a.2) in
    ((λ i. word (e i) ∷ f i), subst (λ x. length x ≤ 255) e l)
name_at-inv _ r p = cc

pub name_at-again : (w : List ℕ) (ts : List Lexeme) → length w ≤ 255 → name_at (word w ∷ ts) ≡ Some (w, ts)
unfolding name_at
name_at-again w ts h = let e : nat_le (length w) 255 ≡ true = grind (arith, common_steps) in rw e refl
