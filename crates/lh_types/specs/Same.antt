-- The test of two types is equality.
use Rattle.std.specs.Prelude.{◌≡◌, ℕ, Bool, true, false, ◌&&◌, nat_eq, refl}
use Rattle.std.specs.Cmp.{IsEquivalence}
use Rattle.std.proofs.Common.{sym, ap, ◌∙◌}
use Rattle.std.proofs.lemmas.Bool.{eq-eqb}
pub use Rattle.std.proofs.lemmas.Bool.{eqb-true as nat_eq-is}
use Rattle.lh_types.specs.Types.{TypeTree, TypeRow, int_type, time_type, void_type, array_type, tuple_type, signal_type, pointer_type, no_types, more_types, same_type, same_row}

pub nat_eq-refl : (n : ℕ) → nat_eq n n ≡ true
nat_eq-refl n = eq-eqb n n refl

pub and_both : (a b : Bool) → a && b ≡ true → (a ≡ true) × (b ≡ true)
and_both true b p = (refl, p)
and_both false b p = (p, cc)

mutual
  pub same-is : (x y : TypeTree) → same_type x y ≡ true → x ≡ y
  same-is (int_type n) (int_type m) p = ap int_type (nat_eq-is n m p)
  same-is time_type time_type p = refl
  same-is void_type void_type p = refl
  same-is (array_type n t) (array_type m u) p = let b = and_both (nat_eq n m) (same_type t u) p in let e : n ≡ m = nat_eq-is n m b.0 in cc (e, same-is t u b.1)
  same-is (tuple_type r) (tuple_type s) p = ap tuple_type (same_row-is r s p)
  same-is (signal_type t) (signal_type u) p = ap signal_type (same-is t u p)
  same-is (pointer_type t) (pointer_type u) p = ap pointer_type (same-is t u p)
  same-is _ _ p = cc

  pub same_row-is : (x y : TypeRow) → same_row x y ≡ true → x ≡ y
  same_row-is no_types no_types p = refl
  same_row-is (more_types t r) (more_types u s) p = let b = and_both (same_type t u) (same_row r s) p in cc (same-is t u b.0, same_row-is r s b.1)
  same_row-is _ _ p = cc

mutual
  pub same-refl : (x : TypeTree) → same_type x x ≡ true
  same-refl (int_type n) = nat_eq-refl n
  same-refl time_type = refl
  same-refl void_type = refl
  same-refl (array_type n t) = rw (nat_eq-refl n) (same-refl t)
  same-refl (tuple_type r) = same_row-refl r
  same-refl (signal_type t) = same-refl t
  same-refl (pointer_type t) = same-refl t

  pub same_row-refl : (r : TypeRow) → same_row r r ≡ true
  same_row-refl no_types = refl
  same_row-refl (more_types t r) = rw (same-refl t) (same_row-refl r)

-- what a test of equality has
module _ {K : Type 0} (E : K → K → Bool) (is : (x y : K) → E x y ≡ true → x ≡ y) (itself : (x : K) → E x x ≡ true) where
  either_way : (x y : K) (b c : Bool) → b ≡ E x y → c ≡ E y x → b ≡ c
  either_way x y true true p q = refl
  either_way x y false false p q = refl
  either_way x y true false p q = let e : x ≡ y = is x y (sym p) in let f : false ≡ E x x = q ∙ ap (λ z. E z x) (sym e) in cc (itself x)
  either_way x y false true p q = let e : y ≡ x = is y x (sym q) in let f : false ≡ E x x = p ∙ ap (λ z. E x z) e in cc (itself x)

  pub test_equiv : IsEquivalence E
  test_equiv = record {
    refl = itself;
    symm = λ x y. either_way x y (E x y) (E y x) refl refl;
    congr = λ x y z p. ap (λ w. E w z) (is x y p);
  }

pub same_type_equiv : IsEquivalence same_type
same_type_equiv = test_equiv same_type same-is same-refl
