-- The order of the entries of a history, which of them are due, and lists of them.
use Rattle.std.proofs.Common.{◌≡◌, ◌⊎◌, inl, inr, ⊎_elim, ℕ, List, [], ◌∷◌, ◌++◌, true, false, nat_eq, if◌then◌else◌, Option, Some, refl, ap, ◌∙◌}
use Rattle.std.specs.Ordering.{is_gt, ordering_then, nat_cmp}
use Rattle.std.specs.Cmp.{IsTotalOrder}
use Rattle.std.proofs.lemmas.Cmp.{then_total, on_total, nat_cmp_total, tied_itself}
use Rattle.std.proofs.lemmas.Bool.{eqb-true, and_parts, and_right}
use Rattle.lh_time.specs.declared.Instant.{Instant}
use Rattle.lh_time.specs.Order.{instant_cmp, instant_lt, instant_le}
use Rattle.lh_time.proofs.OrderLemmas.{instant_cmp_total}
use Rattle.lh_types.specs.History.{Claim, claim_cmp, is_due_by, greater, greatest_from, IsAmong}
use Rattle.lh_history_laws.specs.Claims.{LevelAreMadeTogether}
use Rattle.lh_history_laws.proofs.Orders.{then_equal, nat_one}
use Rattle.lh_history_laws.proofs.Instants.{instant_one, late_not_le}

pub claim_total : IsTotalOrder claim_cmp
claim_total = then_total (on_total (λ (c : Claim). c.due) instant_cmp_total) (then_total (on_total (λ (c : Claim). c.made) instant_cmp_total) (on_total (λ (c : Claim). c.instance) nat_cmp_total))

pub not_above_self : (c : Claim) → is_gt (claim_cmp c c) ≡ false
not_above_self c = ap is_gt (tied_itself claim_total c)

-- entries that compare as equal were made together
pub made_together : LevelAreMadeTogether
made_together c d h =
    let p = then_equal (instant_cmp c.due d.due) (ordering_then (instant_cmp c.made d.made) (nat_cmp c.instance d.instance)) h in
    let q = then_equal (instant_cmp c.made d.made) (nat_cmp c.instance d.instance) p.1 in
    record { due = instant_one c.due d.due p.0; made = instant_one c.made d.made q.0; instance = nat_one c.instance d.instance q.1 }

-- an entry that is due on a bit is about it, and due by then
pub due_bit : (bit : ℕ) (t : Instant) (c : Claim) → is_due_by bit t c ≡ true → c.bit ≡ bit
due_bit bit t c h = eqb-true c.bit bit (and_parts (nat_eq c.bit bit) (instant_le c.due t) h).0

pub due_time : (bit : ℕ) (t : Instant) (c : Claim) → is_due_by bit t c ≡ true → instant_le c.due t ≡ true
due_time bit t c h = (and_parts (nat_eq c.bit bit) (instant_le c.due t) h).1

pub among_parts : (xs ys : List Claim) (c : Claim) → IsAmong c (xs ++ ys) → IsAmong c xs ⊎ IsAmong c ys
among_parts [] ys c h = inr h
among_parts (x ∷ xs) ys c (inl p) = inl (inl p)
among_parts (x ∷ xs) ys c (inr h) = ⊎_elim (λ k. inl (inr k)) inr (among_parts xs ys c h)

-- each is due later
abbrev pub AllLate : Instant → List Claim → Type 0
AllLate t [] = Unit {0}
AllLate t (c ∷ more) = (instant_lt t c.due ≡ true) × AllLate t more

pub late_not_due : (bit : ℕ) (t : Instant) (c : Claim) → instant_lt t c.due ≡ true → is_due_by bit t c ≡ false
late_not_due bit t c h = and_right (nat_eq c.bit bit) (instant_le c.due t) (late_not_le t c.due h)

-- what is due later is not the greatest
pub greatest_late : (bit : ℕ) (t : Instant) (b : Option Claim) (cs : List Claim) → AllLate t cs → greatest_from bit t b cs ≡ b
greatest_late bit t b [] a = refl
greatest_late bit t b (c ∷ more) a = ap (λ d. greatest_from bit t (if d then Some (greater b c) else b) more) (late_not_due bit t c a.0) ∙ greatest_late bit t b more a.1
