-- What the answer of a comparison says.
use Rattle.std.proofs.Common.{◌≡◌, ℕ, true, false, refl, arith}
use Rattle.std.specs.declared.cmp.Ordering.{Ordering}
use Rattle.std.specs.declared.cmp.Ordering.TheVariants.{Less, Equal, Greater}
use Rattle.std.specs.Ordering.{is_le, is_gt, ordering_then, ordering_reverse, nat_cmp}
use Rattle.std.proofs.lemmas.Bool.Decides.{nat_tests}

pub le_of : (o : Ordering) → is_gt o ≡ false → is_le o ≡ true
le_of Less h = refl
le_of Equal h = refl
le_of Greater h = cc

pub le_not_gt : (o : Ordering) → is_le o ≡ true → is_gt o ≡ false
le_not_gt Less h = refl
le_not_gt Equal h = refl
le_not_gt Greater h = cc

pub not_le_back : (o : Ordering) → is_le o ≡ false → is_gt (ordering_reverse o) ≡ false
not_le_back Less h = cc
not_le_back Equal h = cc
not_le_back Greater h = refl

-- of two that are level, each is not above the other
pub level : (o : Ordering) → is_gt o ≡ false → is_gt (ordering_reverse o) ≡ false → o ≡ Equal
level Less h k = cc
level Equal h k = refl
level Greater h k = cc

-- an answer by two orders, one after the other, is equal by each
pub then_equal : (o p : Ordering) → ordering_then o p ≡ Equal → (o ≡ Equal) × (p ≡ Equal)
then_equal Less p h = cc
then_equal Equal p h = (refl, h)
then_equal Greater p h = cc

-- numbers that compare as equal are one
pub nat_one : (a b : ℕ) → nat_cmp a b ≡ Equal → a ≡ b
nat_one a b h = grind (arith, nat_tests)
