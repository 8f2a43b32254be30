-- What is found in front of the tokens takes some of them.
use Rattle.std.specs.Prelude.{◌≡◌, ℕ, ◌<◌, Bool, true, false, nat_eq, List, ◌∷◌, length, Option, Some, None, if◌then◌else◌, refl, codes, ◌^◌}
use Rattle.std.proofs.Common.{arith, ap, zero, suc}
use lib.Pointwise.{pointwise}
use Rattle.lh_types.specs.Types.{TypeTree, array_type, tuple_type, row_of}
use Rattle.lh_types.specs.Faults.{array_fault, tuple_fault}
use Rattle.lh_unit.specs.Lexemes.{Lexeme, word, local, punct}
use Rattle.lh_unit.specs.Typing.{if_made}
use Rattle.lh_read_pieces.specs.Pieces.{◌>>=◌, word_at, any_word_at, local_at, punct_at, below, small_number, front_part, comma_or_end, part_then, parts_at}
use Rattle.lh_read_pieces.specs.Numbers.{number_at}
use Rattle.lh_read_pieces.specs.Types.{followed, int_width, int_before, array_in, tuple_in, data_in, data_at, base_or, base_at, suffix_or, suffix_at, type_at}

-- where a chain finds something, so does its first step
pub bind_some : {A B : Type 0} (o : Option A) (f : A → Option B) (y : B) → (o >>= f) ≡ Some y → (x : A) × (o ≡ Some x) × (f x ≡ Some y)
bind_some None f y p = cc
bind_some (Some x) f y p = (x, refl, p)

pub word_at-shorter : (w : List ℕ) (ts us : List Lexeme) → word_at w ts ≡ Some us → length us < length ts
word_at-shorter w (word x ∷ ts) us p = by (pointwise nat_eq x w) p
  where
    by : (t : Bool) → (if t then Some ts else None) ≡ Some us → length us < length (word x ∷ ts)
    by true q = let e : ts ≡ us = cc in omega (arith, ap length e)
    by false q = cc
word_at-shorter w _ us p = cc

pub any_word_at-shorter : (ts : List Lexeme) (r : List ℕ × List Lexeme) → any_word_at ts ≡ Some r → length r.1 < length ts
any_word_at-shorter (word x ∷ ts) r p = let e : ts ≡ r.1 = cc in omega (arith, ap length e)
any_word_at-shorter _ r p = cc

pub local_at-shorter : (ts : List Lexeme) (r : List ℕ × List Lexeme) → local_at ts ≡ Some r → length r.1 < length ts
local_at-shorter (local x ∷ ts) r p = let e : ts ≡ r.1 = cc in omega (arith, ap length e)
local_at-shorter _ r p = cc

pub punct_at-shorter : (b : ℕ) (ts us : List Lexeme) → punct_at b ts ≡ Some us → length us < length ts
punct_at-shorter b (punct c ∷ ts) us p = by (nat_eq c b) p
  where
    by : (t : Bool) → (if t then Some ts else None) ≡ Some us → length us < length (punct c ∷ ts)
    by true q = let e : ts ≡ us = cc in omega (arith, ap length e)
    by false q = cc
punct_at-shorter b _ us p = cc

pub number_at-shorter : (ts : List Lexeme) (r : ℕ × List Lexeme) → number_at ts ≡ Some r → length r.1 < length ts
unfolding number_at
number_at-shorter ts r p =
    let a = bind_some (any_word_at ts) _ r p in
    let b = bind_some (below (2 ^ 32) (small_number a.0.0)) _ r a.2 in
    let e : (b.0, a.0.1) ≡ r = cc in
    omega (arith, any_word_at-shorter ts a.0 a.1, ap (λ x. length x.1) e)

-- parts by comma, where each part takes some tokens
module _ {A : Type 0} (p : List Lexeme → Option (A × List Lexeme)) (shorter : (ts : List Lexeme) (r : A × List Lexeme) → p ts ≡ Some r → length r.1 < length ts) where
  pub parts_at-shorter : (k : ℕ) (ts : List Lexeme) (r : List A × List Lexeme) → parts_at p k ts ≡ Some r → length r.1 < length ts
  parts_at-shorter zero ts r e = cc
  parts_at-shorter (suc k) ts r e = first (p ts) refl e (parts_at-shorter k)
    where
      more : (a : A × List Lexeme) (us : List Lexeme) → length a.1 < length ts → length us < length a.1 → (o : Option (List A × List Lexeme)) → parts_at p k us ≡ o → front_part a.0 o ≡ Some r
          → ((vs : List Lexeme) (q : List A × List Lexeme) → parts_at p k vs ≡ Some q → length q.1 < length vs) → length r.1 < length ts
      more a us f g None h q s = cc
      more a us f g (Some v) h q s = let w : v.1 ≡ r.1 = cc in omega (arith, s us v h, ap length w)

      comma : (a : A × List Lexeme) → length a.1 < length ts → (o : Option (List Lexeme)) → punct_at 44 a.1 ≡ o → comma_or_end (parts_at p k) a.0 a.1 o ≡ Some r
          → ((vs : List Lexeme) (q : List A × List Lexeme) → parts_at p k vs ≡ Some q → length q.1 < length vs) → length r.1 < length ts
      comma a f None g q s = let w : a.1 ≡ r.1 = cc in omega (arith, ap length w)
      comma a f (Some us) g q s = more a us f (punct_at-shorter 44 a.1 us g) (parts_at p k us) refl q s

      first : (o : Option (A × List Lexeme)) → p ts ≡ o → part_then (parts_at p k) o ≡ Some r
          → ((vs : List Lexeme) (q : List A × List Lexeme) → parts_at p k vs ≡ Some q → length q.1 < length vs) → length r.1 < length ts
      first None f q s = cc
      first (Some a) f q s = comma a (shorter ts a f) (punct_at 44 a.1) refl q s

followed-rest : (o : Option TypeTree) (us : List Lexeme) (r : TypeTree × List Lexeme) → followed o us ≡ Some r → us ≡ r.1
followed-rest None us r p = cc
followed-rest (Some t) us r p = cc

int_before-rest : (o : Option ℕ) (us : List Lexeme) (r : TypeTree × List Lexeme) → int_before o us ≡ Some r → us ≡ r.1
int_before-rest None us r p = cc
int_before-rest (Some n) us r p = cc

module _ (p : List Lexeme → Option (TypeTree × List Lexeme)) (shorter : (ts : List Lexeme) (r : TypeTree × List Lexeme) → p ts ≡ Some r → length r.1 < length ts) where
  array_in-shorter : (ts : List Lexeme) (r : TypeTree × List Lexeme) → array_in p ts ≡ Some r → length r.1 < length ts
  unfolding array_in
  array_in-shorter ts r e =
      let a = bind_some (number_at ts) _ r e in
      let b = bind_some (word_at (codes "x") a.0.1) _ r a.2 in
      let c = bind_some (p b.0) _ r b.2 in
      let d = bind_some (punct_at 93 c.0.1) _ r c.2 in
      let f = followed-rest (if_made (array_fault a.0.0 c.0.0) (array_type a.0.0 c.0.0)) d.0 r d.2 in
      omega (arith, number_at-shorter ts a.0 a.1, word_at-shorter (codes "x") a.0.1 b.0 b.1, shorter b.0 c.0 c.1, punct_at-shorter 93 c.0.1 d.0 d.1, ap length f)

  tuple_in-shorter : (ts : List Lexeme) (r : TypeTree × List Lexeme) → tuple_in p ts ≡ Some r → length r.1 < length ts
  unfolding tuple_in
  tuple_in-shorter ts r e =
      let a = bind_some (parts_at p (length ts) ts) _ r e in
      let b = bind_some (punct_at 125 a.0.1) _ r a.2 in
      let f = followed-rest (if_made (tuple_fault (row_of a.0.0)) (tuple_type (row_of a.0.0))) b.0 r b.2 in
      omega (arith, parts_at-shorter p shorter (length ts) ts a.0 a.1, punct_at-shorter 125 a.0.1 b.0 b.1, ap length f)

  data_in-shorter : (ts : List Lexeme) (r : TypeTree × List Lexeme) → data_in p ts ≡ Some r → length r.1 < length ts
  data_in-shorter (word w ∷ ts) r e = omega (arith, ap length (int_before-rest (int_width w) ts r e))
  data_in-shorter (punct b ∷ ts) r e = bracket (nat_eq b 91) (nat_eq b 123) e
    where
      bracket : (c d : Bool) → (if c then array_in p ts else if d then tuple_in p ts else None) ≡ Some r → length r.1 < length (punct b ∷ ts)
      bracket true d q = omega (arith, array_in-shorter ts r q)
      bracket false true q = omega (arith, tuple_in-shorter ts r q)
      bracket false false q = cc
  data_in-shorter _ r e = cc

pub data_at-shorter : (k : ℕ) (ts : List Lexeme) (r : TypeTree × List Lexeme) → data_at k ts ≡ Some r → length r.1 < length ts
unfolding data_at
data_at-shorter zero ts r e = cc
data_at-shorter (suc k) ts r e = data_in-shorter (data_at k) (data_at-shorter k) ts r e

base_at-shorter : (ts : List Lexeme) (r : TypeTree × List Lexeme) → base_at ts ≡ Some r → length r.1 < length ts
unfolding base_at
base_at-shorter ts r e = by (word_at (codes "time") ts) (word_at (codes "void") ts) refl refl e
  where
    by : (o v : Option (List Lexeme)) → word_at (codes "time") ts ≡ o → word_at (codes "void") ts ≡ v → base_or ts o v ≡ Some r → length r.1 < length ts
    by (Some us) v f g q = let w : us ≡ r.1 = cc in omega (arith, word_at-shorter (codes "time") ts us f, ap length w)
    by None (Some us) f g q = let w : us ≡ r.1 = cc in omega (arith, word_at-shorter (codes "void") ts us g, ap length w)
    by None None f g q = data_at-shorter 16 ts r q

pub type_at-shorter : (ts : List Lexeme) (r : TypeTree × List Lexeme) → type_at ts ≡ Some r → length r.1 < length ts
unfolding type_at suffix_at
type_at-shorter ts r e = let a = bind_some (base_at ts) _ r e in by a.0 (base_at-shorter ts a.0 a.1) (punct_at 36 a.0.1) (punct_at 42 a.0.1) refl refl a.2
  where
    by : (t : TypeTree × List Lexeme) → length t.1 < length ts → (o v : Option (List Lexeme)) → punct_at 36 t.1 ≡ o → punct_at 42 t.1 ≡ v → suffix_or t.0 t.1 o v ≡ Some r → length r.1 < length ts
    by t h (Some us) v f g q = omega (arith, punct_at-shorter 36 t.1 us f, ap length (followed-rest _ us r q))
    by t h None (Some us) f g q = omega (arith, punct_at-shorter 42 t.1 us g, ap length (followed-rest _ us r q))
    by t h None None f g q = let w : t.1 ≡ r.1 = cc in omega (arith, ap length w)

-- as parts of lists
pub local_part-shorter : (ts : List Lexeme) (a : List ℕ) (us : List Lexeme) → local_at ts ≡ Some (a, us) → length us < length ts
local_part-shorter ts a us p = local_at-shorter ts (a, us) p

pub type_part-shorter : (ts : List Lexeme) (a : TypeTree) (us : List Lexeme) → type_at ts ≡ Some (a, us) → length us < length ts
type_part-shorter ts a us p = type_at-shorter ts (a, us) p
