-- Laws of tests that std has in another form.
use Rattle.std.proofs.Common.{◌≡◌, ℕ, suc, Bool, true, false, ◌||◌, nat_eq, Option, Some, sym, ◌∙◌, arith}
use Rattle.std.proofs.lemmas.Bool.{both_ways, or_parts}
use Rattle.std.proofs.lemmas.Option.{same_Some}
use Rattle.std.proofs.lemmas.Grind.{common_steps}

pub or_false_left : (a b : Bool) → (a || b) ≡ false → a ≡ false
or_false_left a b h = (or_parts a b h).0

pub or_false_right : (a b : Bool) → (a || b) ≡ false → b ≡ false
or_false_right a b h = (or_parts a b h).1

pub not_both : (b : Bool) → b ≡ true → b ≡ false → ⊥
not_both b e f = both_ways b f e

pub nat_eq-suc : (a b : ℕ) → nat_eq (suc a) (suc b) ≡ nat_eq a b
nat_eq-suc a b = grind (arith, common_steps)

pub nat_eq-suc_zero : (n : ℕ) → nat_eq (suc n) 0 ≡ false
nat_eq-suc_zero n = grind (arith, common_steps)

pub some_once : {A : Type 0} (o : Option A) (x y : A) → o ≡ Some x → o ≡ Some y → x ≡ y
some_once o x y p q = same_Some x y (sym p ∙ q)
