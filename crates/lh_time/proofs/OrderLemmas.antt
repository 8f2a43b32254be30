-- The order of instants is total, and tests of it fit together.
use Rattle.std.proofs.Common.{◌≡◌, true, not, refl, ap, ◌∙◌, ℕ, ◌<◌, nat_cmp, arith}
use Rattle.std.specs.declared.cmp.Ordering.{Ordering}
use Rattle.std.specs.declared.cmp.Ordering.TheVariants.{Less, Equal, Greater}
use Rattle.std.specs.Ordering.{is_lt, is_le, ordering_reverse}
use Rattle.std.specs.Cmp.{IsTotalOrder}
use Rattle.std.proofs.lemmas.Cmp.{then_total, on_total, nat_cmp_total}
use Rattle.std.proofs.lemmas.Bool.Decides.{nat_tests}
use Rattle.lh_time.specs.declared.Instant.{Instant}
use Rattle.lh_time.specs.declared.Delay.{Delay}
use Rattle.lh_time.specs.Order.{instant_cmp, delay_cmp, instant_lt, instant_le}

-- instants are in one total order
pub instant_cmp_total : IsTotalOrder instant_cmp
instant_cmp_total = then_total (on_total (λ (t : Instant). t.fs) nat_cmp_total) (then_total (on_total (λ (t : Instant). t.delta) nat_cmp_total) (on_total (λ (t : Instant). t.eps) nat_cmp_total))

-- delays are in one total order
pub delay_cmp_total : IsTotalOrder delay_cmp
delay_cmp_total = then_total (on_total (λ (d : Delay). d.fs) nat_cmp_total) (then_total (on_total (λ (d : Delay). d.delta) nat_cmp_total) (on_total (λ (d : Delay). d.eps) nat_cmp_total))

pub is_less : (o : Ordering) → is_lt o ≡ true → o ≡ Less
is_less Less h = refl
is_less Equal h = cc
is_less Greater h = cc

-- an earlier instant compares as less
pub instant_cmp-lt : (a b : Instant) → instant_lt a b ≡ true → instant_cmp a b ≡ Less
instant_cmp-lt a b h = is_less (instant_cmp a b) h

-- earlier than what is earlier than c is earlier than c
pub instant_lt-trans : (a b c : Instant) → instant_lt a b ≡ true → instant_lt b c ≡ true → instant_lt a c ≡ true
instant_lt-trans a b c h l = ap is_lt (instant_cmp_total.trans a b c (is_less _ h) (is_less _ l))

le_lt_at : (a b c : Instant) (o : Ordering) → instant_cmp a b ≡ o → is_le o ≡ true → instant_cmp b c ≡ Less → instant_cmp a c ≡ Less
le_lt_at a b c Less e h l = instant_cmp_total.trans a b c e l
le_lt_at a b c Equal e h l = instant_cmp_total.congr a b c e ∙ l
le_lt_at a b c Greater e h l = cc

-- no later than what is earlier than c is earlier than c
pub instant_lt-le_lt : (a b c : Instant) → instant_le a b ≡ true → instant_lt b c ≡ true → instant_lt a c ≡ true
instant_lt-le_lt a b c h l = ap is_lt (le_lt_at a b c (instant_cmp a b) refl h (is_less _ l))

-- earlier is no later
pub instant_le-lt : (a b : Instant) → instant_lt a b ≡ true → instant_le a b ≡ true
instant_le-lt a b h = ap is_le (is_less (instant_cmp a b) h)

reversed : (o : Ordering) → is_lt (ordering_reverse o) ≡ not (is_le o)
reversed Less = refl
reversed Equal = refl
reversed Greater = refl

-- earlier is the same as not: no later the other way round
pub instant_lt-not_le : (a b : Instant) → instant_lt a b ≡ not (instant_le b a)
instant_lt-not_le a b = ap is_lt (instant_cmp_total.antisymm a b) ∙ reversed (instant_cmp b a)

pub nat_less : (a b : ℕ) → a < b → nat_cmp a b ≡ Less
nat_less a b h = grind (arith, nat_tests)

pub nat_is_less : (a b : ℕ) → nat_cmp a b ≡ Less → a < b
nat_is_less a b h = grind (arith, nat_tests)

pub nat_same : (n : ℕ) → nat_cmp n n ≡ Equal
nat_same n = grind arith
