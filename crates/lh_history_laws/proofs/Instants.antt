-- The order of instants.
use Rattle.std.proofs.Common.{◌≡◌, ℕ, true, false, ap, sym, ◌∙◌}
use Rattle.std.specs.Ordering.{is_le, ordering_then, nat_cmp}
use Rattle.std.proofs.lemmas.Cmp.{tied_itself, upto}
use Rattle.std.proofs.lemmas.Bool.{not-true, not-false}
use Rattle.lh_time.specs.declared.Instant.{Instant}
use Rattle.lh_time.specs.Order.{instant_cmp, instant_lt, instant_le}
use Rattle.lh_time.specs.Due.{instant}
use Rattle.lh_time.proofs.OrderLemmas.{instant_cmp_total, instant_lt-not_le}
use Rattle.lh_history_laws.specs.Claims.{EqualInstantsAreOne}
use Rattle.lh_history_laws.proofs.Orders.{le_of, le_not_gt, then_equal, nat_one}

-- instants that compare as equal are one
pub instant_one : EqualInstantsAreOne
instant_one a b h =
    let p = then_equal (nat_cmp a.fs b.fs) (ordering_then (nat_cmp a.delta b.delta) (nat_cmp a.eps b.eps)) h in
    let q = then_equal (nat_cmp a.delta b.delta) (nat_cmp a.eps b.eps) p.1 in
    same a.fs a.delta a.eps b.fs b.delta b.eps (nat_one a.fs b.fs p.0) (nat_one a.delta b.delta q.0) (nat_one a.eps b.eps q.1)
  where
    same : (f d e g i j : ℕ) → f ≡ g → d ≡ i → e ≡ j → instant f d e ≡ instant g i j
    same f d e g i j x y z = cc

pub le_self : (a : Instant) → instant_le a a ≡ true
le_self a = ap is_le (tied_itself instant_cmp_total a)

pub le_trans : (a b c : Instant) → instant_le a b ≡ true → instant_le b c ≡ true → instant_le a c ≡ true
le_trans a b c h k = le_of (instant_cmp a c) (upto instant_cmp_total a b c (le_not_gt (instant_cmp a b) h) (le_not_gt (instant_cmp b c) k))

pub not_lt_le : (a b : Instant) → instant_lt b a ≡ false → instant_le a b ≡ true
not_lt_le a b h = not-false (instant_le a b) (sym (instant_lt-not_le b a) ∙ h)

pub late_not_le : (t d : Instant) → instant_lt t d ≡ true → instant_le d t ≡ false
late_not_le t d h = not-true (instant_le d t) (sym (instant_lt-not_le t d) ∙ h)
