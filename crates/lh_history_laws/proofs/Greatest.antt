-- The greatest entry that is computed is the greatest, and two greatest are level.
use Rattle.std.proofs.Common.{◌≡◌, ◌⊎◌, inl, inr, ⊎_elim, ℕ, List, [], ◌∷◌, Bool, true, false, if◌then◌else◌, refl, ap, sym, ◌∙◌, Option, Some, None}
use Rattle.std.specs.Ordering.{is_le, is_gt}
use Rattle.std.proofs.lemmas.Cmp.{upto}
use Rattle.lh_time.specs.declared.Instant.{Instant}
use Rattle.lh_types.specs.History.{Claim, claim_cmp, is_due_by, greater, greatest_from, IsAmong}
use Rattle.lh_history_laws.specs.Greatest.{IsGreatestIfAny, GreatestIsFound, GreatestAreLevel}
use Rattle.lh_history_laws.proofs.Orders.{le_not_gt, not_le_back, level}
use Rattle.lh_history_laws.proofs.Claims.{claim_total, not_above_self}

module _ (bit : ℕ) (t : Instant) where
  -- what a search from b over cs finds
  record Finds (b : Option Claim) (cs : List Claim) (c : Claim) : Type 0 where
    from : (b ≡ Some c) ⊎ (IsAmong c cs × (is_due_by bit t c ≡ true))
    start : (d : Claim) → b ≡ Some d → is_gt (claim_cmp d c) ≡ false
    rest : (d : Claim) → IsAmong d cs → is_due_by bit t d ≡ true → is_gt (claim_cmp d c) ≡ false

  abbrev Result : Option Claim → List Claim → Option Claim → Type 0
  Result b cs None = (b ≡ None) × ((d : Claim) → IsAmong d cs → is_due_by bit t d ≡ false)
  Result b cs (Some c) = Finds b cs c

  at_first : (b : Option Claim) → Result b [] b
  at_first None = (refl, λ d h. absurd h)
  at_first (Some c) = record { from = inl refl; start = λ d e. same d e; rest = λ d h. absurd h }
    where
      same : (d : Claim) → Some c ≡ Some d → is_gt (claim_cmp d c) ≡ false
      same d e = let p : c ≡ d = cc in ap (λ x. is_gt (claim_cmp x c)) (sym p) ∙ not_above_self c

  -- one that does not count changes nothing
  skipped : (b : Option Claim) (x : Claim) (xs : List Claim) (r : Option Claim) → is_due_by bit t x ≡ false → Result b xs r → Result b (x ∷ xs) r
  skipped b x xs None e h = (h.0, λ d m. ⊎_elim (λ p. ap (is_due_by bit t) (sym p) ∙ e) (λ q. h.1 d q) m)
  skipped b x xs (Some c) e h = record {
    from = ⊎_elim inl (λ q. inr (inr q.0, q.1)) h.from;
    start = h.start;
    rest = λ d m k. ⊎_elim (λ p. absurd (clash (sym k ∙ ap (is_due_by bit t) (sym p) ∙ e)))
        (λ q. h.rest d q k) m;
  }
    where
      clash : true ≡ false → ⊥
      clash z = cc

  -- the greater of b and x is x, with b not above it, or b, with x not above it
  Chosen : Option Claim → Claim → Claim → Type 0
  Chosen b x g = ((x ≡ g) × ((y : Claim) → b ≡ Some y → is_gt (claim_cmp y g) ≡ false)) ⊎ ((b ≡ Some g) × (is_gt (claim_cmp x g) ≡ false))

  chosen : (b : Option Claim) (x : Claim) → Chosen b x (greater b x)
  unfolding Chosen
  chosen None x = inl (refl, λ y e. absurd (clash y e))
    where
      clash : (y : Claim) → None ≡ Some y → ⊥
      clash y z = cc
  chosen (Some b) x = at (is_le (claim_cmp b x)) refl
    where
      at : (k : Bool) → is_le (claim_cmp b x) ≡ k → Chosen (Some b) x (if k then x else b)
      at true e = inl (refl, λ y q. let p : b ≡ y = cc in ap (λ z. is_gt (claim_cmp z x)) (sym p) ∙ le_not_gt (claim_cmp b x) e)
      at false e = inr (refl, ap is_gt (claim_total.antisymm x b) ∙ not_le_back (claim_cmp b x) e)

  taken_at : (b : Option Claim) (x g : Claim) (xs : List Claim) (c : Claim) → is_due_by bit t x ≡ true → Chosen b x g → Finds (Some g) xs c → Finds b (x ∷ xs) c
  unfolding Chosen
  taken_at b x g xs c e (inl k) h = record {
    from = ⊎_elim (λ p. inr (inl (k.0 ∙ one p), ap (is_due_by bit t) (sym (k.0 ∙ one p)) ∙ e)) (λ q. inr (inr q.0, q.1)) h.from;
    start = λ d q. upto claim_total d g c (k.1 d q) (h.start g refl);
    rest = λ d m q. ⊎_elim (λ p. ap (λ z. is_gt (claim_cmp z c)) (sym p ∙ k.0) ∙ h.start g refl) (λ p. h.rest d p q) m;
  }
    where
      one : Some g ≡ Some c → g ≡ c
      one z = cc
  taken_at b x g xs c e (inr k) h = record {
    from = ⊎_elim (λ p. inl (k.0 ∙ p)) (λ q. inr (inr q.0, q.1)) h.from;
    start = λ d q. h.start d (sym k.0 ∙ q);
    rest = λ d m q. ⊎_elim (λ p. ap (λ z. is_gt (claim_cmp z c)) (sym p) ∙ upto claim_total x g c k.1 (h.start g refl)) (λ p. h.rest d p q) m;
  }

  taken : (b : Option Claim) (x : Claim) (xs : List Claim) (r : Option Claim) → is_due_by bit t x ≡ true → Result (Some (greater b x)) xs r → Result b (x ∷ xs) r
  taken b x xs None e h = absurd (clash h.0)
    where
      clash : Some (greater b x) ≡ None → ⊥
      clash z = cc
  taken b x xs (Some c) e h = taken_at b x (greater b x) xs c e (chosen b x) h

  found : (cs : List Claim) (b : Option Claim) → Result b cs (greatest_from bit t b cs)
  found [] b = at_first b
  found (x ∷ xs) b = at (is_due_by bit t x) refl (λ u. found xs u)
    where
      at : (k : Bool) → is_due_by bit t x ≡ k → ((u : Option Claim) → Result u xs (greatest_from bit t u xs)) → Result b (x ∷ xs) (greatest_from bit t (if k then Some (greater b x) else b) xs)
      at true e ih = taken b x xs _ e (ih (Some (greater b x)))
      at false e ih = skipped b x xs _ e (ih b)

greatest_of : (bit : ℕ) (t : Instant) (all : List Claim) (r : Option Claim) → Result bit t None all r → IsGreatestIfAny bit t all r
greatest_of bit t all None h = h.1
greatest_of bit t all (Some c) h = record { among = origin.0; is_due = origin.1; greatest = h.rest }
  where
    clash : None ≡ Some c → ⊥
    clash z = cc

    origin : IsAmong c all × (is_due_by bit t c ≡ true)
    origin = ⊎_elim (λ p. absurd (clash p)) (λ q. q) h.from

pub greatest_is_found : GreatestIsFound
greatest_is_found bit t all = greatest_of bit t all (greatest_from bit t None all) (found bit t all None)

pub greatest_are_level : GreatestAreLevel
greatest_are_level bit t all c d h k = level (claim_cmp c d) (k.greatest c h.among h.is_due) (ap is_gt (sym (claim_total.antisymm d c)) ∙ h.greatest d k.among k.is_due)
