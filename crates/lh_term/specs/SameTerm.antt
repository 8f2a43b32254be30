-- Whether two terms by ids are one.
use Rattle.std.specs.Prelude.{◌≡◌, Bool, true, false, ◌&&◌, nat_eq, List, [], ◌∷◌, refl}
use Rattle.std.specs.Cmp.{IsEquivalence}
use Rattle.std.proofs.Common.{ap, ◌∙◌}
use Rattle.lh_types.specs.Values.{Datum, data_row}
use Rattle.lh_types.specs.ValueOf.{datum_of}
use Rattle.lh_types.specs.SameValue.{same_val}
use Rattle.lh_types.specs.SameValueLaws.{same_datum-is, same_datum-refl}
use Rattle.lh_types.specs.Same.{and_both, test_equiv, nat_eq-is, nat_eq-refl}
use Rattle.lh_types.specs.declared.val.Val.{Val}
use Rattle.lh_types.specs.declared.val.Val.TheVariants.{Int, Time, Array, Tuple}
use Rattle.lh_term.specs.Same.{same_op, same_op-is, same_op-refl, same_part, same_part-is, same_part-refl}
use Rattle.lh_term.specs.declared.term.TermId.{TermId}
use Rattle.lh_term.specs.declared.term.Term.{Term}
use Rattle.lh_term.specs.declared.term.Term.TheVariants.{Konst, Past, Now, Op as Applied, Choice}

-- each id the same as its partner
abbrev pub same_ids : List TermId → List TermId → Bool
same_ids [] [] = true
same_ids (a ∷ xs) (b ∷ ys) = nat_eq a.0 b.0 && same_ids xs ys
same_ids _ _ = false

-- terms of one form with the same values, parts and ids
abbrev pub same_term : Term → Term → Bool
same_term (Konst v) (Konst w) = same_val v w
same_term (Past p) (Past q) = same_part p q
same_term (Now p) (Now q) = same_part p q
same_term (Applied a xs) (Applied b ys) = same_op a b && same_ids xs ys
same_term (Choice c f t) (Choice d g u) = nat_eq c.0 d.0 && (nat_eq f.0 g.0 && nat_eq t.0 u.0)
same_term _ _ = false

pub same_id : (a b : TermId) → a.0 ≡ b.0 → a ≡ b
same_id a b e = λ i. record { 0 = e i }

pub same_ids-is : (xs ys : List TermId) → same_ids xs ys ≡ true → xs ≡ ys
same_ids-is [] [] e = refl
same_ids-is (a ∷ xs) (b ∷ ys) e = let f = and_both (nat_eq a.0 b.0) (same_ids xs ys) e in cc (same_id a b (nat_eq-is a.0 b.0 f.0), same_ids-is xs ys f.1)
same_ids-is _ _ e = cc

pub same_ids-refl : (xs : List TermId) → same_ids xs xs ≡ true
same_ids-refl [] = refl
same_ids-refl (a ∷ xs) = rw (nat_eq-refl a.0) (same_ids-refl xs)

data_row-is : (vs ws : List Datum) → data_row vs ≡ data_row ws → vs ≡ ws
data_row-is [] [] e = refl
data_row-is (v ∷ vs) (w ∷ ws) e = let f : v ≡ w = cc in let g : data_row vs ≡ data_row ws = cc in cc (f, data_row-is vs ws g)
data_row-is _ _ e = cc

pub datum_of-is : (v w : Val) → datum_of v ≡ datum_of w → v ≡ w
datum_of-is (Int n a) (Int m b) e = cc
datum_of-is (Time d) (Time f) e = cc
datum_of-is (Array vs) (Array ws) e = let f : data_row vs ≡ data_row ws = cc in ap Array (data_row-is vs ws f)
datum_of-is (Tuple vs) (Tuple ws) e = let f : data_row vs ≡ data_row ws = cc in ap Tuple (data_row-is vs ws f)
datum_of-is _ _ e = cc

pub same_val-is : (v w : Val) → same_val v w ≡ true → v ≡ w
same_val-is v w e = datum_of-is v w (same_datum-is (datum_of v) (datum_of w) e)

pub same_term-is : (x y : Term) → same_term x y ≡ true → x ≡ y
same_term-is (Konst v) (Konst w) e = ap Konst (same_val-is v w e)
same_term-is (Past p) (Past q) e = ap Past (same_part-is p q e)
same_term-is (Now p) (Now q) e = ap Now (same_part-is p q e)
same_term-is (Applied a xs) (Applied b ys) e = let f = and_both (same_op a b) (same_ids xs ys) e in cc (same_op-is a b f.0, same_ids-is xs ys f.1)
same_term-is (Choice c f t) (Choice d g u) e =
    let a = and_both (nat_eq c.0 d.0) (nat_eq f.0 g.0 && nat_eq t.0 u.0) e in
    let b = and_both (nat_eq f.0 g.0) (nat_eq t.0 u.0) a.1 in
    cc (same_id c d (nat_eq-is c.0 d.0 a.0), same_id f g (nat_eq-is f.0 g.0 b.0), same_id t u (nat_eq-is t.0 u.0 b.1))
same_term-is _ _ e = cc

pub same_term-refl : (x : Term) → same_term x x ≡ true
same_term-refl (Konst v) = same_datum-refl (datum_of v)
same_term-refl (Past p) = same_part-refl p
same_term-refl (Now p) = same_part-refl p
same_term-refl (Applied a xs) = rw (same_op-refl a) (same_ids-refl xs)
same_term-refl (Choice c f t) = rw (nat_eq-refl c.0, nat_eq-refl f.0, nat_eq-refl t.0) refl

pub same_term_equiv : IsEquivalence same_term
same_term_equiv = test_equiv same_term same_term-is same_term-refl
