-- The value of a bit, by the set of entries.
use Rattle.std.proofs.Common.{◌≡◌, ℕ, zero, suc, ◌+◌, length, List, [], ◌∷◌, Bool, true, false, refl, ap, sym, ◌∙◌, subst, Option, Some, None, arith, inl, inr}
use Rattle.std.specs.Option.{option_map_or}
use Rattle.std.specs.List.{slice_get}
use Rattle.std.proofs.lemmas.Bool.{both_ways}
use Rattle.lh_time.specs.declared.Instant.{Instant}
use Rattle.lh_types.specs.History.{Claim, claims, is_due_by, value_by, values_by, bits_at, IsAmong, HasValue}
use Rattle.lh_history_laws.specs.Greatest.{IsGreatestIfAny}
use Rattle.lh_history_laws.proofs.Claims.{due_bit}
use Rattle.lh_history_laws.proofs.Greatest.{greatest_is_found, greatest_are_level}
use Rattle.lh_trace_laws.specs.Values.{OneEach, SameDueBy, ValueComputes, OneValue, ValueOfDue, BitsOfDue, BitsHaveValues, AsManyBits}

value_from : (cs : List Claim) (init : Bool) (bit : ℕ) (t : Instant) (r : Option Claim) → IsGreatestIfAny bit t cs r → HasValue cs init bit t (option_map_or (λ c. c.value) r init)
value_from cs init bit t None h = inr (h, refl)
value_from cs init bit t (Some c) h = inl (c, h, refl)

pub value_computes : ValueComputes
value_computes cs init bit t = value_from cs init bit t _ (greatest_is_found bit t cs)

-- a set has one value
pub one_value : OneValue
one_value cs init bit t v w o (inl a) (inl b) =
    a.2 ∙ o a.0 b.0 a.1.among b.1.among (due_bit bit t a.0 a.1.is_due ∙ sym (due_bit bit t b.0 b.1.is_due))
    (greatest_are_level bit t cs a.0 b.0 a.1 b.1) ∙ sym b.2
one_value cs init bit t v w o (inl a) (inr b) = absurd (both_ways _ (b.0 a.0 a.1.among) a.1.is_due)
one_value cs init bit t v w o (inr a) (inl b) = absurd (both_ways _ (a.0 b.0 b.1.among) b.1.is_due)
one_value cs init bit t v w o (inr a) (inr b) = a.1 ∙ sym b.1

not_due : (bit : ℕ) (t : Instant) (xs ys : List Claim) → SameDueBy bit t xs ys → ((d : Claim) → IsAmong d ys → is_due_by bit t d ≡ false) → (d : Claim) → IsAmong d xs → is_due_by bit t d ≡ false
not_due bit t xs ys e none d m = at (is_due_by bit t d) refl
  where
    at : (b : Bool) → is_due_by bit t d ≡ b → is_due_by bit t d ≡ false
    at true k = none d ((e d k).0 m)
    at false k = k

moved : (xs ys : List Claim) (init : Bool) (bit : ℕ) (t : Instant) (v : Bool) → SameDueBy bit t xs ys → HasValue ys init bit t v → HasValue xs init bit t v
moved xs ys init bit t v e (inl a) = inl (a.0, record { among = (e a.0 a.1.is_due).1 a.1.among; is_due = a.1.is_due; greatest = λ d m k. a.1.greatest d ((e d k).0 m) k }, a.2)
moved xs ys init bit t v e (inr a) = inr (not_due bit t xs ys e a.0, a.1)

pub value_of_due : ValueOfDue
value_of_due xs ys init bit t o e = one_value xs init bit t _ _ o (value_computes xs init bit t) (moved xs ys init bit t _ e (value_computes ys init bit t))

values_of_due : (xs ys : List Claim) (t : Instant) → OneEach xs → ((bit : ℕ) → SameDueBy bit t xs ys) → (k : ℕ) (init : List Bool) → values_by xs t k init ≡ values_by ys t k init
values_of_due xs ys t o e k [] = refl
values_of_due xs ys t o e k (b ∷ more) =
    let here : value_by xs b k t ≡ value_by ys b k t = value_of_due xs ys b k t o (e k) in
    let rest : values_by xs t (k + 1) more ≡ values_by ys t (k + 1) more = values_of_due xs ys t o e (k + 1) more in
    cc

pub bits_of_due : BitsOfDue
unfolding bits_at
bits_of_due h k init t o e = values_of_due (claims h) (claims k) t o e 0 init

pub as_many : (all : List Claim) (t : Instant) (k : ℕ) (init : List Bool) → length (values_by all t k init) ≡ length init
as_many all t k [] = refl
as_many all t k (b ∷ more) = ap (λ n. suc n) (as_many all t (k + 1) more)

pub as_many_bits : AsManyBits
unfolding bits_at
as_many_bits h init t = as_many (claims h) t 0 init

value_at : (all : List Claim) (t : Instant) (k : ℕ) (init : List Bool) (j : ℕ) (b : Bool) → slice_get init j ≡ Some b → slice_get (values_by all t k init) j ≡ Some (value_by all b (k + j) t)
value_at all t k [] j b h = absurd cc
value_at all t k (c ∷ more) zero b h = let e : c ≡ b = cc in let z : k + 0 ≡ k = omega arith in rw (z, e) refl
value_at all t k (c ∷ more) (suc j) b h = let e : k + 1 + j ≡ k + suc j = omega arith in rw (← e) (value_at all t (k + 1) more j b h)

pub bits_have_values : BitsHaveValues
unfolding bits_at
bits_have_values h init t k b e =
    let P : ℕ → Type 0 = λ j. slice_get (values_by (claims h) t 0 init) k ≡ Some (value_by (claims h) b j t) in
    let z : 0 + k ≡ k = omega arith in
    (value_by (claims h) b k t, subst P z (value_at (claims h) t 0 init k b e), value_computes (claims h) b k t)
