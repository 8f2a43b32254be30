-- The order of bits of the signals at instants.
use Rattle.std.proofs.Common.{◌≡◌, ℕ, ◌+◌, ◌<◌, ◌≤◌, List, [], ◌∷◌, Bool, true, false, refl, ap, ◌∙◌, subst, arith}
use Rattle.std.specs.declared.cmp.Ordering.{Ordering}
use Rattle.std.specs.declared.cmp.Ordering.TheVariants.{Less, Equal, Greater}
use Rattle.std.specs.Ordering.{is_lt, ordering_then, ordering_reverse, nat_cmp, match_ordering}
use Rattle.std.specs.BTreeMap.{insert_entry}
use Rattle.std.specs.Cmp.{IsTotalOrder}
use Rattle.std.proofs.lemmas.Bool.Decides.{nat_tests}
use Rattle.std.proofs.lemmas.Cmp.{then_total, on_total, nat_cmp_total, tied_itself}
use Rattle.lh_time.specs.declared.Instant.{Instant}
use Rattle.lh_time.specs.Order.{instant_cmp}
use Rattle.lh_time.proofs.OrderLemmas.{instant_cmp_total, nat_less, nat_is_less, is_less}
use Rattle.lh_history_laws.proofs.Orders.{then_equal, nat_one}
use Rattle.lh_history_laws.proofs.Instants.{instant_one}
use Rattle.lh_types.specs.Wish.{DueBit, Wish, due_bit, due_bit_cmp, with_bit, with_bits, IsBelow, IsInOrder}

pub due_bit_total : IsTotalOrder due_bit_cmp
due_bit_total = then_total (on_total (λ (k : DueBit). k.due) instant_cmp_total) (on_total (λ (k : DueBit). k.bit) nat_cmp_total)

pub due_bit_self : (k : DueBit) → due_bit_cmp k k ≡ Equal
due_bit_self k = tied_itself due_bit_total k

pub below_trans : (a b : DueBit) (es : Wish) → due_bit_cmp a b ≡ Less → IsBelow b es → IsBelow a es
below_trans a b [] h x = tt
below_trans a b (e ∷ es) h x = (due_bit_total.trans a b e.0 h x.0, below_trans a b es h x.1)

pub below_insert : (a k : DueBit) (v : Bool) (es : Wish) → due_bit_cmp a k ≡ Less → IsBelow a es → IsBelow a (insert_entry due_bit_cmp es k v)
below_insert a k v [] h x = (h, tt)
below_insert a k v (e ∷ es) h x = at (due_bit_cmp k e.0) (below_insert a k v es h x.1)
  where
    at : (o : Ordering) → IsBelow a (insert_entry due_bit_cmp es k v) → IsBelow a (match_ordering o ((k, v) ∷ e ∷ es) ((e.0, v) ∷ es) (e ∷ insert_entry due_bit_cmp es k v))
    at Less ih = (h, x)
    at Equal ih = (x.0, x.1)
    at Greater ih = (x.0, ih)

pub turned : (a b : DueBit) → due_bit_cmp a b ≡ Greater → due_bit_cmp b a ≡ Less
turned a b h = due_bit_total.antisymm b a ∙ ap ordering_reverse h

pub in_order-insert : (k : DueBit) (v : Bool) (es : Wish) → IsInOrder es → IsInOrder (insert_entry due_bit_cmp es k v)
in_order-insert k v [] x = (tt, tt)
in_order-insert k v (e ∷ es) x = at (due_bit_cmp k e.0) refl (in_order-insert k v es x.1)
  where
    at : (o : Ordering) → due_bit_cmp k e.0 ≡ o → IsInOrder (insert_entry due_bit_cmp es k v) → IsInOrder (match_ordering o ((k, v) ∷ e ∷ es) ((e.0, v) ∷ es) (e ∷ insert_entry due_bit_cmp es k v))
    at Less p ih = ((p, below_trans k e.0 es p x.0), x)
    at Equal p ih = (x.0, x.1)
    at Greater p ih = (below_insert e.0 k v es (turned k e.0 p) x.0, ih)

-- one more bit, and a drive, keep the order
pub in_order-bit : (w : Wish) (t : Instant) (i : ℕ) (b : Bool) → IsInOrder w → IsInOrder (with_bit w t i b)
in_order-bit w t i b h = in_order-insert (due_bit t i) b w h

pub in_order-bits : (bs : List Bool) (w : Wish) (t : Instant) (lo : ℕ) → IsInOrder w → IsInOrder (with_bits w t lo bs)
in_order-bits [] w t lo h = h
in_order-bits (b ∷ bs) w t lo h = in_order-bits bs (with_bit w t lo b) t (lo + 1) (in_order-bit w t lo b h)

-- keys that compare as equal are one
pub due_bit_one : (a b : DueBit) → due_bit_cmp a b ≡ Equal → a ≡ b
due_bit_one a b h =
    let p : (instant_cmp a.due b.due ≡ Equal) × (nat_cmp a.bit b.bit ≡ Equal) = then_equal _ _ h in
    same_key a.due b.due a.bit b.bit (instant_one _ _ p.0) (nat_one _ _ p.1)
  where
    same_key : (t u : Instant) (i j : ℕ) → t ≡ u → i ≡ j → due_bit t i ≡ due_bit u j
    same_key t u i j x y = cc

nat_not_less : (a b : ℕ) → b ≤ a → is_lt (nat_cmp a b) ≡ false
nat_not_less a b h = grind (arith, nat_tests)

-- bits of one instant
pub same-less : (t u : Instant) (i j : ℕ) → instant_cmp t u ≡ Equal → i < j → due_bit_cmp (due_bit t i) (due_bit u j) ≡ Less
same-less t u i j e h = ap (λ o. ordering_then o (nat_cmp i j)) e ∙ nat_less i j h

pub same-not_less : (t u : Instant) (i j : ℕ) → instant_cmp t u ≡ Equal → j ≤ i → is_lt (due_bit_cmp (due_bit t i) (due_bit u j)) ≡ false
same-not_less t u i j e h = ap (λ o. is_lt (ordering_then o (nat_cmp i j))) e ∙ nat_not_less i j h

-- what is above bit i is not below bit i + 1
pub next : (t : Instant) (i : ℕ) (k : DueBit) → due_bit_cmp (due_bit t i) k ≡ Less → is_lt (due_bit_cmp k (due_bit t (i + 1))) ≡ false
next t i k h = at (instant_cmp t k.due) (instant_cmp_total.antisymm k.due t) h
  where
    bit : nat_cmp i k.bit ≡ Less → is_lt (nat_cmp k.bit (i + 1)) ≡ false
    bit p = let q : i < k.bit = nat_is_less i k.bit p in nat_not_less k.bit (i + 1) (omega arith)

    at : (o : Ordering) → instant_cmp k.due t ≡ ordering_reverse o → ordering_then o (nat_cmp i k.bit) ≡ Less → is_lt (ordering_then (instant_cmp k.due t) (nat_cmp k.bit (i + 1))) ≡ false
    at Less e p = ap (λ o. is_lt (ordering_then o (nat_cmp k.bit (i + 1)))) e
    at Equal e p = ap (λ o. is_lt (ordering_then o (nat_cmp k.bit (i + 1)))) e ∙ bit p
    at Greater e p = cc

-- below a bit is below a higher one of the instant
pub raised : (t : Instant) (i j : ℕ) (k : DueBit) → i ≤ j → is_lt (due_bit_cmp k (due_bit t i)) ≡ true → is_lt (due_bit_cmp k (due_bit t j)) ≡ true
raised t i j k h p = at (nat_cmp i j) refl
  where
    up : nat_cmp i j ≡ Less → is_lt (due_bit_cmp k (due_bit t j)) ≡ true
    up e = ap is_lt (due_bit_total.trans k (due_bit t i) (due_bit t j) (is_less _ p) (same-less t t i j (tied_itself instant_cmp_total t) (nat_is_less i j e)))

    no : nat_cmp i j ≡ Greater → is_lt (due_bit_cmp k (due_bit t j)) ≡ true
    no e = absurd (gone i j h e)
      where
        gone : (i j : ℕ) → i ≤ j → nat_cmp i j ≡ Greater → ⊥
        gone i j h e = grind (arith, nat_tests)

    at : (o : Ordering) → nat_cmp i j ≡ o → is_lt (due_bit_cmp k (due_bit t j)) ≡ true
    at Less e = up e
    at Equal e = subst (λ (n : ℕ). is_lt (due_bit_cmp k (due_bit t n)) ≡ true) (nat_one i j e) p
    at Greater e = no e

-- not below is not below a lower bit of the instant
pub lowered : (t : Instant) (i j : ℕ) (k : DueBit) → i ≤ j → is_lt (due_bit_cmp k (due_bit t j)) ≡ false → is_lt (due_bit_cmp k (due_bit t i)) ≡ false
lowered t i j k h p = at (is_lt (due_bit_cmp k (due_bit t i))) refl
  where
    at : (b : Bool) → is_lt (due_bit_cmp k (due_bit t i)) ≡ b → is_lt (due_bit_cmp k (due_bit t i)) ≡ false
    at false e = e
    at true e = let q = raised t i j k h e in cc

-- above what is not below is not below
pub risen : (k a b : DueBit) → is_lt (due_bit_cmp a k) ≡ false → due_bit_cmp a b ≡ Less → is_lt (due_bit_cmp b k) ≡ false
risen k a b p h = at (due_bit_cmp b k) refl
  where
    at : (o : Ordering) → due_bit_cmp b k ≡ o → is_lt o ≡ false
    at Less e = let q = due_bit_total.trans a b k h e in cc
    at Equal e = refl
    at Greater e = refl

-- above is not below
pub not_below : (k b : DueBit) → due_bit_cmp k b ≡ Less → is_lt (due_bit_cmp b k) ≡ false
not_below k b h = risen k k b (ap is_lt (due_bit_self k)) h
