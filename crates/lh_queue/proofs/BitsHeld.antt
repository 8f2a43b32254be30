-- The bits at an instant by the held wishes are those by the history, and the soonest held wish is the soonest of all.
use Rattle.std.proofs.Common.{◌≡◌, inl, inr, ⊎_elim, ℕ, ◌+◌, List, [], ◌∷◌, Bool, true, false, not, if◌then◌else◌, Option, Some, None, IfSome, refl, ap, sym, ◌∙◌, subst}
use Rattle.std.specs.declared.cmp.Ordering.{Ordering}
use Rattle.std.specs.declared.cmp.Ordering.TheVariants.{Less, Equal, Greater}
use Rattle.std.specs.Ordering.{is_lt, is_le, is_gt, ordering_then, nat_cmp}
use Rattle.std.specs.Option.{option_map_or}
use Rattle.std.proofs.lemmas.Bool.{eq-eqb, both_ways}
use Rattle.std.specs.Cmp.{both_ways as both_tests}
use Rattle.lh_time.specs.declared.Instant.{Instant}
use Rattle.lh_time.specs.Order.{instant_cmp, instant_lt, instant_le}
use Rattle.lh_time.proofs.OrderLemmas.{instant_lt-not_le}
use Rattle.lh_types.specs.History.{Made, Claim, claims, claim_cmp, is_due_by, greatest_from, greater, value_by, values_by, bits_at, IsAmong, IsGreatest, sooner, soonest_due, entries_of, bits_after}
use Rattle.lh_history_laws.specs.Greatest.{IsGreatestIfAny}
use Rattle.lh_history_laws.proofs.Orders.{le_of, level}
use Rattle.lh_history_laws.proofs.Instants.{instant_one, le_self, le_trans, not_lt_le}
use Rattle.lh_history_laws.proofs.Claims.{claim_total, due_bit, due_time, among_parts}
use Rattle.lh_history_laws.proofs.Greatest.{greatest_is_found}
use Rattle.lh_queue.specs.declared.wish.Wish.{Wish}
use Rattle.lh_queue.specs.Queued.{QueuedWish, AreInOrder, EachNamesOnce, IsBeforeAll, NoneDueBefore, IsLeastDue}
use Rattle.lh_queue.specs.Holds.{wish_entries, entries, IsAfter, IsFrom, HoldsFor, AreBitsAt, IsSoonestDue}
use Rattle.lh_queue.specs.Places.{first_wish}
use Rattle.lh_queue.proofs.Among.{one_each, among_left, origin}
use Rattle.lh_queue.proofs.Entries.{lt_le_trans, due_upto}

-- not above one is no later than it is due
due_of_gt : (o p : Ordering) → is_gt (ordering_then o p) ≡ false → is_gt o ≡ false
due_of_gt Less p h = refl
due_of_gt Equal p h = refl
due_of_gt Greater p h = h

due_upto_gt : (c m : Claim) → is_gt (claim_cmp c m) ≡ false → instant_le c.due m.due ≡ true
due_upto_gt c m h = le_of (instant_cmp c.due m.due) (due_of_gt (instant_cmp c.due m.due) (ordering_then (instant_cmp c.made m.made) (nat_cmp c.instance m.instance)) h)

after_upto : (last : Option Instant) (t u : Instant) → IsAfter last t → instant_le t u ≡ true → IsAfter last u
after_upto None t u a l = tt
after_upto (Some k) t u a l = lt_le_trans k t u a l

due_by : (bit : ℕ) (t : Instant) (c : Claim) → c.bit ≡ bit → instant_le c.due t ≡ true → is_due_by bit t c ≡ true
due_by bit t c b l = rw (eq-eqb c.bit bit b) l

-- where the same entries are due, the greatest is the same
same_due : (bit : ℕ) (t u : Instant) (cs : List Claim) (b : Option Claim) → ((d : Claim) → IsAmong d cs → is_due_by bit t d ≡ is_due_by bit u d) → greatest_from bit t b cs ≡ greatest_from bit u b cs
same_due bit t u [] b h = refl
same_due bit t u (x ∷ xs) b h =
    ap (λ k. greatest_from bit t (if k then Some (greater b x) else b) xs) (h x (inl refl))
    ∙ same_due bit t u xs (if is_due_by bit u x then Some (greater b x) else b) (λ d m. h d (inr m))

none_due : (bit : ℕ) (t : Instant) (cs : List Claim) (b : Option Claim) → ((d : Claim) → IsAmong d cs → is_due_by bit t d ≡ false) → greatest_from bit t b cs ≡ b
none_due bit t [] b h = refl
none_due bit t (x ∷ xs) b h =
    ap (λ k. greatest_from bit t (if k then Some (greater b x) else b) xs) (h x (inl refl))
    ∙ none_due bit t xs b (λ d m. h d (inr m))

-- the value of a bit at the last taking, or its initial value
value_after : List Claim → Bool → ℕ → Option Instant → Bool
value_after cs b bit None = b
value_after cs b bit (Some l) = value_by cs b bit l

module _ (held : List QueuedWish) (cs : List Claim) (last : Option Instant) (t : Instant) (o : AreInOrder held) (n : EachNamesOnce held) (h : HoldsFor held cs last) (f : IsFrom last t) (bit : ℕ)
    (b : Bool) where
  -- one of the held entries is the greatest
  some_value : (c : Claim) (r : Option Claim) → IsGreatest bit t (entries held) c → IsGreatestIfAny bit t cs r → c.value ≡ option_map_or (λ (d : Claim). d.value) r b
  some_value c None k q = absurd (both_ways (is_due_by bit t c) (q c ((h.due c).0 k.among).0) k.is_due)
  some_value c (Some m) k q =
      let in_all = (h.due c).0 k.among in
      let up : is_gt (claim_cmp c m) ≡ false = q.greatest c in_all.0 k.is_due in
      let m_held : IsAmong m (entries held) = (h.due m).1 (q.among, after_upto last c.due m.due in_all.1 (due_upto_gt c m up)) in
      let down : is_gt (claim_cmp m c) ≡ false = k.greatest m m_held q.is_due in
      one_each held o n c m k.among m_held (due_bit bit t c k.is_due ∙ sym (due_bit bit t m q.is_due))
      (level (claim_cmp c m) up (ap is_gt (sym (claim_total.antisymm m c)) ∙ down))
      (level (claim_cmp m c) down (ap is_gt (sym (claim_total.antisymm c m)) ∙ up))

  -- none of them is due on the bit
  none_value : ((d : Claim) → IsAmong d (entries held) → is_due_by bit t d ≡ false) → value_after cs b bit last ≡ value_by cs b bit t
  unfolding value_after
  none_value q = at last h f
    where
      at : (l : Option Instant) → HoldsFor held cs l → IsFrom l t → value_after cs b bit l ≡ value_by cs b bit t
      at None j g = sym (ap (λ r. option_map_or (λ (d : Claim). d.value) r b) (none_due bit t cs None (λ d m. q d ((j.due d).1 (m, tt)))))
      at (Some l) j g = ap (λ r. option_map_or (λ (d : Claim). d.value) r b) (same_due bit l t cs None (λ d m. both_tests (is_due_by bit l d) (is_due_by bit t d)
          (λ p. due_by bit t d (due_bit bit l d p) (le_trans d.due l t (due_time bit l d p) g))
          (λ p. early d m p (instant_lt l d.due) refl)))
        where
          early : (d : Claim) → IsAmong d cs → is_due_by bit t d ≡ true → (x : Bool) → instant_lt l d.due ≡ x → is_due_by bit l d ≡ true
          early d m p true e = absurd (both_ways (is_due_by bit t d) (q d ((j.due d).1 (m, e))) p)
          early d m p false e = due_by bit l d (due_bit bit t d p) (not_lt_le d.due l e)

  value_held : value_by (entries held) (value_after cs b bit last) bit t ≡ value_by cs b bit t
  value_held = at (greatest_from bit t None (entries held)) (greatest_is_found bit t (entries held))
    where
      at : (r : Option Claim) → IsGreatestIfAny bit t (entries held) r → option_map_or (λ (d : Claim). d.value) r (value_after cs b bit last) ≡ value_by cs b bit t
      at None q = none_value q
      at (Some c) q = some_value c (greatest_from bit t None cs) q (greatest_is_found bit t cs)

values_after : List Claim → (last : Option Instant) → ℕ → List Bool → List Bool
values_after cs None k bits = bits
values_after cs (Some l) k bits = values_by cs l k bits

values_after_first : (cs : List Claim) (last : Option Instant) (k : ℕ) (b : Bool) (more : List Bool) → values_after cs last k (b ∷ more) ≡ value_after cs b k last ∷ values_after cs last (k + 1) more
unfolding values_after value_after
values_after_first cs None k b more = refl
values_after_first cs (Some l) k b more = refl

values_after_none : (cs : List Claim) (last : Option Instant) (k : ℕ) → values_after cs last k [] ≡ []
unfolding values_after
values_after_none cs None k = refl
values_after_none cs (Some l) k = refl

values_held : (held : List QueuedWish) (cs : List Claim) (last : Option Instant) (t : Instant) → AreInOrder held → EachNamesOnce held → HoldsFor held cs last → IsFrom last t
    → (k : ℕ) (bits : List Bool) → values_by (entries held) t k (values_after cs last k bits) ≡ values_by cs t k bits
values_held held cs last t o n h f k [] = ap (values_by (entries held) t k) (values_after_none cs last k)
values_held held cs last t o n h f k (b ∷ more) =
    ap (values_by (entries held) t k) (values_after_first cs last k b more)
    ∙ ap (λ v. v ∷ values_by (entries held) t (k + 1) (values_after cs last (k + 1) more)) (value_held held cs last t o n h f k b)
    ∙ ap (λ vs. value_by cs b k t ∷ vs) (values_held held cs last t o n h f (k + 1) more)

bits_after_is : (history : List Made) (initial : List Bool) (last : Option Instant) → bits_after history initial last ≡ values_after (claims history) last 0 initial
unfolding values_after bits_at
bits_after_is history initial None = refl
bits_after_is history initial (Some l) = refl

-- the bits by the held wishes are those by the history
pub bits_held : (held : List QueuedWish) (old : List Bool) (t : Instant) (new : List Bool) → AreInOrder held → EachNamesOnce held → new ≡ values_by (entries held) t 0 old → AreBitsAt held old t new
unfolding bits_at
bits_held held old t new o n e history initial last h f b =
    e ∙ ap (values_by (entries held) t 0) (b ∙ bits_after_is history initial last) ∙ values_held held (claims history) last t o n h f 0 initial

-- the soonest due instant
at_least : (last t : Instant) (all : List Claim) → ((d : Claim) → IsAmong d all → instant_lt last d.due ≡ true → instant_le t d.due ≡ true) → IfSome (soonest_due last all) (λ u. instant_le t u ≡ true)
at_least last t [] h = tt
at_least last t (x ∷ more) h = at (instant_lt last x.due) refl (at_least last t more (λ d m. h d (inr m)))
  where
    both : (s : Option Instant) → instant_le t x.due ≡ true → IfSome s (λ u. instant_le t u ≡ true) → IfSome (sooner (Some x.due) s) (λ u. instant_le t u ≡ true)
    both None p q = p
    both (Some u) p q = elim (instant_lt u x.due) as (λ b. instant_le t (if b then u else x.due) ≡ true) [ true ↦ q | false ↦ p ]

    at : (b : Bool) → instant_lt last x.due ≡ b → IfSome (soonest_due last more) (λ u. instant_le t u ≡ true)
        → IfSome (sooner (if b then Some x.due else None) (soonest_due last more)) (λ u. instant_le t u ≡ true)
    at true e ih = both (soonest_due last more) (h x (inl refl) e) ih
    at false e ih = ih

soonest_none : (last : Instant) (all : List Claim) → ((d : Claim) → IsAmong d all → instant_lt last d.due ≡ true → ⊥) → soonest_due last all ≡ None
soonest_none last [] h = refl
soonest_none last (x ∷ more) h = at (instant_lt last x.due) refl (soonest_none last more (λ d m. h d (inr m)))
  where
    at : (b : Bool) → instant_lt last x.due ≡ b → soonest_due last more ≡ None → sooner (if b then Some x.due else None) (soonest_due last more) ≡ None
    at true e ih = absurd (h x (inl refl) e)
    at false e ih = ih

not_sooner : (t u : Instant) → instant_le t u ≡ true → instant_lt u t ≡ false
not_sooner t u h = instant_lt-not_le u t ∙ ap not h

equal_of : (o : Ordering) → is_le o ≡ true → is_lt o ≡ false → o ≡ Equal
equal_of Less h k = cc
equal_of Equal h k = refl
equal_of Greater h k = cc

soonest_is : (last t : Instant) (all : List Claim) (c : Claim) → IsAmong c all → c.due ≡ t → instant_lt last t ≡ true
    → ((d : Claim) → IsAmong d all → instant_lt last d.due ≡ true → instant_le t d.due ≡ true) → soonest_due last all ≡ Some t
soonest_is last t [] c m e l h = absurd m
soonest_is last t (x ∷ more) c (inl p) e l h = at (instant_lt last x.due) (ap (instant_lt last) here ∙ l) (at_least last t more (λ d m. h d (inr m)))
  where
    here : x.due ≡ t
    here = ap (λ (d : Claim). d.due) p ∙ e

    with_rest : (s : Option Instant) → IfSome s (λ u. instant_le t u ≡ true) → sooner (Some x.due) s ≡ Some t
    with_rest None q = ap Some here
    with_rest (Some u) q = ap (λ b. Some (if b then u else x.due)) (ap (instant_lt u) here ∙ not_sooner t u q) ∙ ap Some here

    at : (b : Bool) → b ≡ true → IfSome (soonest_due last more) (λ u. instant_le t u ≡ true) → sooner (if b then Some x.due else None) (soonest_due last more) ≡ Some t
    at true k q = with_rest (soonest_due last more) q
    at false k q = absurd (both_ways false refl k)
soonest_is last t (x ∷ more) c (inr m) e l h = at (instant_lt last x.due) refl (soonest_is last t more c m e l (λ d n. h d (inr n)))
  where
    beside : (b : Bool) → instant_lt t x.due ≡ b → instant_le t x.due ≡ true → Some (if b then t else x.due) ≡ Some t
    beside true e k = refl
    beside false e k = ap Some (sym (instant_one t x.due (equal_of (instant_cmp t x.due) k e)))

    at : (b : Bool) → instant_lt last x.due ≡ b → soonest_due last more ≡ Some t → sooner (if b then Some x.due else None) (soonest_due last more) ≡ Some t
    at true k ih = ap (sooner (Some x.due)) ih ∙ beside (instant_lt t x.due) refl (h x (inl refl) k)
    at false k ih = ih

-- each entry of wishes in order is due no earlier than the first
due_from_first : (w : Wish) (more : List QueuedWish) (d : Claim) → IsBeforeAll w more → IsAmong d (entries more) → instant_le w.due d.due ≡ true
due_from_first w [] d b m = absurd m
due_from_first w (y ∷ ys) d b m = ⊎_elim
    (λ l. let o = origin y.wish.due y.wish.made y.wish.instance y.wish.bits d l in ap (instant_le w.due) o.when ∙ due_upto w y.wish b.0)
    (λ l. due_from_first w ys d b.1 l) (among_parts (wish_entries y.wish) (entries ys) d m)

pub soonest_first : (held : List QueuedWish) (w : Wish) → AreInOrder held → Some w ≡ first_wish held → IsSoonestDue held (Some w.due)
soonest_first [] w o e all last h n = absurd (clash e)
  where
    clash : Some w ≡ None → ⊥
    clash z = cc
soonest_first (x ∷ more) w o e all last h n = ap (λ (v : Wish). Some v.due) (same w x.wish e) ∙ sym (by x.wish.bits refl)
  where
    same : (a b : Wish) → Some a ≡ Some b → a ≡ b
    same a b z = cc

    upto : (d : Claim) → IsAmong d all → instant_lt last d.due ≡ true → instant_le x.wish.due d.due ≡ true
    upto d m l = ⊎_elim
        (λ k. let q = origin x.wish.due x.wish.made x.wish.instance x.wish.bits d k in ap (instant_le x.wish.due) q.when ∙ le_self x.wish.due)
        (λ k. due_from_first x.wish more d o.0 k)
        (among_parts (wish_entries x.wish) (entries more) d ((h.due d).1 (m, l)))

    by : (es : List (ℕ × Bool)) → x.wish.bits ≡ es → soonest_due last all ≡ Some x.wish.due
    by [] b = absurd (n.0 b)
    by (v ∷ vs) b =
        let c : Claim = record { due = x.wish.due; made = x.wish.made; instance = x.wish.instance; bit = v.0; value = v.1 } in
        let P : List (ℕ × Bool) → Type 0 = λ es. IsAmong c (entries_of x.wish.due x.wish.made x.wish.instance es) in
        let there : IsAmong c (entries (x ∷ more)) = among_left (wish_entries x.wish) (entries more) c (subst P (sym b) (inl refl)) in
        let p = (h.due c).0 there in
        soonest_is last x.wish.due all c p.0 refl p.1 upto

pub soonest_no : (held : List QueuedWish) → None ≡ first_wish held → IsSoonestDue held None
soonest_no [] e all last h n = sym (soonest_none last all (λ d m l. (h.due d).1 (m, l)))
soonest_no (x ∷ more) e all last h n = absurd (clash e)
  where
    clash : None ≡ Some x.wish → ⊥
    clash z = cc

none_before : (w : Wish) (xs : List QueuedWish) → IsBeforeAll w xs → NoneDueBefore w.due xs
none_before w [] b = tt
none_before w (y ∷ ys) b = (due_upto w y.wish b.0, none_before w ys b.1)

pub least_first : (held : List QueuedWish) (w : Wish) → AreInOrder held → Some w ≡ first_wish held → IsLeastDue held (Some w.due)
least_first [] w o e = absurd (clash e)
  where
    clash : Some w ≡ None → ⊥
    clash z = cc
least_first (x ∷ more) w o e =
    let P : Wish → Type 0 = λ v. IsLeastDue (x ∷ more) (Some v.due) in
    subst P (sym (same w x.wish e)) (inl refl, (le_self x.wish.due, none_before x.wish more o.0))
  where
    same : (a b : Wish) → Some a ≡ Some b → a ≡ b
    same a b z = cc
