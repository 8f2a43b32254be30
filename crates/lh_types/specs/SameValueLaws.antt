-- The test of two values is equality.
use Rattle.std.specs.Prelude.{◌≡◌, ℕ, true, ◌&&◌, nat_eq, refl}
use Rattle.std.specs.Cmp.{IsEquivalence}
use Rattle.std.proofs.Common.{arith, ap}
use Rattle.std.proofs.lemmas.Grind.{common_steps}
use Rattle.std.proofs.lemmas.Cmp.{on_equiv}
use Rattle.lh_types.specs.Values.{Datum, DatumRow, int_value, time_value, array_value, tuple_value, no_values, more_values, same_delay}
use Rattle.lh_types.specs.ValueOf.{datum_of}
use Rattle.lh_types.specs.SameValue.{same_datum, same_parts, same_val}
use Rattle.lh_types.specs.Same.{and_both, test_equiv}

nat_eq-is : (m n : ℕ) → nat_eq m n ≡ true → m ≡ n
nat_eq-is m n p = grind (arith, common_steps)

nat_eq-refl : (n : ℕ) → nat_eq n n ≡ true
nat_eq-refl n = grind (arith, common_steps)

mutual
  pub same_datum-is : (x y : Datum) → same_datum x y ≡ true → x ≡ y
  same_datum-is (int_value n a) (int_value m b) p = let e = and_both (nat_eq n m) (nat_eq a b) p in cc (nat_eq-is n m e.0, nat_eq-is a b e.1)
  same_datum-is (time_value d) (time_value e) p =
      let f = and_both (nat_eq d.fs e.fs) (nat_eq d.delta e.delta && nat_eq d.eps e.eps) p in
      let g = and_both (nat_eq d.delta e.delta) (nat_eq d.eps e.eps) f.1 in
      same_delay d e (nat_eq-is d.fs e.fs f.0) (nat_eq-is d.delta e.delta g.0) (nat_eq-is d.eps e.eps g.1)
  same_datum-is (array_value vs) (array_value ws) p = ap array_value (same_parts-is vs ws p)
  same_datum-is (tuple_value vs) (tuple_value ws) p = ap tuple_value (same_parts-is vs ws p)
  same_datum-is _ _ p = cc

  pub same_parts-is : (x y : DatumRow) → same_parts x y ≡ true → x ≡ y
  same_parts-is no_values no_values p = refl
  same_parts-is (more_values v vs) (more_values w ws) p = let b = and_both (same_datum v w) (same_parts vs ws) p in cc (same_datum-is v w b.0, same_parts-is vs ws b.1)
  same_parts-is _ _ p = cc

mutual
  pub same_datum-refl : (x : Datum) → same_datum x x ≡ true
  same_datum-refl (int_value n a) = rw (nat_eq-refl n, nat_eq-refl a) refl
  same_datum-refl (time_value d) = rw (nat_eq-refl d.fs, nat_eq-refl d.delta, nat_eq-refl d.eps) refl
  same_datum-refl (array_value vs) = same_parts-refl vs
  same_datum-refl (tuple_value vs) = same_parts-refl vs

  pub same_parts-refl : (x : DatumRow) → same_parts x x ≡ true
  same_parts-refl no_values = refl
  same_parts-refl (more_values v vs) = rw (same_datum-refl v) (same_parts-refl vs)

pub same_val_equiv : IsEquivalence same_val
same_val_equiv = on_equiv datum_of (test_equiv same_datum same_datum-is same_datum-refl)
