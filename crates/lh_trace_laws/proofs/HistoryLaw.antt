-- No two entries of a history compete.
use Rattle.std.proofs.Common.{◌≡◌, ◌≤◌, ◌⊎◌, inl, inr, ⊎_elim, ℕ, ◌+◌, List, [], ◌∷◌, ◌++◌, Bool, true, refl, ap, sym, ◌∙◌, subst, Option, Some, None, arith}
use Rattle.std.specs.declared.cmp.Ordering.TheVariants.{Less, Equal}
use Rattle.lh_time.specs.declared.Instant.{Instant}
use Rattle.lh_time.specs.Order.{instant_lt, instant_le}
use Rattle.lh_types.specs.Wish.{DueBit, due_bit_cmp, Wish}
use Rattle.lh_types.specs.History.{Made, Claim, claims, claims_of, claim_cmp, IsAmong}
use Rattle.lh_unit.specs.Contents.{ItemText}
use Rattle.lh_unit.specs.Hierarchy.{Instance}
use Rattle.lh_unit.specs.Design.{Design}
use Rattle.lh_unit.specs.World.{State, Moment, Act, Rules, rules_of, unit_of, World, moment_of, acts_from, acts_at, kept, made_by, next_world, instant_after, next_instant, IsNext}
use Rattle.lh_trace_laws.specs.Wishes.{IsBelow, IsInOrder, ActsInOrder, ReachedFrom, at_start, after_frame, IsMadeByFrame, HistoryIsSound, FirstHistoryIsSound, HistoryStaysSound}
use Rattle.lh_history_laws.specs.Claims.{MadeTogether}
use Rattle.lh_history_laws.proofs.Instants.{le_self}
use Rattle.lh_history_laws.proofs.Claims.{among_parts, made_together}
use Rattle.lh_trace_laws.proofs.Instants.{lt_self}
use Rattle.lh_history_laws.proofs.DueBits.{in_order-insert, due_bit_self}
use Rattle.lh_trace_laws.proofs.WishKept.{WishProperty, act_keeps}
use Rattle.lh_trace_laws.proofs.Late.{act_late}
use Rattle.lh_trace_laws.proofs.Worlds.{claims-append}
use Rattle.lh_trace_laws.proofs.NextLaw.{next_computes}
use Rattle.lh_time.proofs.OrderLemmas.{instant_le-lt, instant_lt-le_lt}

in_order : (t : Instant) → WishProperty t
in_order t = record { holds = IsInOrder; nothing = tt; more = λ w due bit b h a. in_order-insert (record { due = due; bit = bit }) b w a }

pub acts_in_order : ActsInOrder
unfolding in_order
acts_in_order r m u i s = (act_keeps r m (in_order m.at) u i s, act_late r m u i s)

-- an entry of a wish
abbrev IsEntry : Instant → ℕ → Bool → Wish → Type 0
IsEntry due bit v [] = ⊥
IsEntry due bit v (e ∷ more) = ((e.0.due ≡ due) × (e.0.bit ≡ bit) × (e.1 ≡ v)) ⊎ IsEntry due bit v more

due_bit : Instant → ℕ → DueBit
due_bit due bit = record { due = due; bit = bit }

same_due_bit : (t u : Instant) (i j : ℕ) → t ≡ u → i ≡ j → due_bit t i ≡ due_bit u j
same_due_bit t u i j p q = cc

below_entry : (k : DueBit) (due : Instant) (bit : ℕ) (v : Bool) (w : Wish) → IsBelow k w → IsEntry due bit v w → due_bit_cmp k (due_bit due bit) ≡ Less
unfolding due_bit
below_entry k due bit v [] b h = absurd h
below_entry k due bit v (e ∷ more) b (inl h) = ap (due_bit_cmp k) (sym (same_due_bit e.0.due due e.0.bit bit h.0 h.1)) ∙ b.0
below_entry k due bit v (e ∷ more) b (inr h) = below_entry k due bit v more b.1 h

not_less : Less ≡ Equal → ⊥
not_less e = cc

below_none : (e : DueBit) (due : Instant) (bit : ℕ) (v : Bool) (w : Wish) → e.due ≡ due → e.bit ≡ bit → IsBelow e w → IsEntry due bit v w → ⊥
unfolding due_bit
below_none e due bit v w p q b h =
    not_less (sym (below_entry e due bit v w b h) ∙ ap (due_bit_cmp e) (sym (same_due_bit e.due due e.bit bit p q)) ∙ due_bit_self e)

one_entry : (due : Instant) (bit : ℕ) (v v' : Bool) (w : Wish) → IsInOrder w → IsEntry due bit v w → IsEntry due bit v' w → v ≡ v'
one_entry due bit v v' [] o h k = absurd h
one_entry due bit v v' (e ∷ more) o (inl h) (inl k) = sym h.2 ∙ k.2
one_entry due bit v v' (e ∷ more) o (inl h) (inr k) = absurd (below_none e.0 due bit v' more h.0 h.1 o.0 k)
one_entry due bit v v' (e ∷ more) o (inr h) (inl k) = absurd (below_none e.0 due bit v more k.0 k.1 o.0 h)
one_entry due bit v v' (e ∷ more) o (inr h) (inr k) = one_entry due bit v v' more o.1 h k

-- where an entry of a history comes from
record Origin (made : Instant) (i : ℕ) (w : Wish) (c : Claim) : Type 0 where
  when : c.made ≡ made
  who : c.instance ≡ i
  entry : IsEntry c.due c.bit c.value w

origin_of : (made : Instant) (i : ℕ) (w : Wish) (c : Claim) → IsAmong c (claims_of made i w) → Origin made i w c
origin_of made i [] c h = absurd h
origin_of made i (e ∷ more) c (inl p) = record {
  when = ap (λ (d : Claim). d.made) (sym p);
  who = ap (λ (d : Claim). d.instance) (sym p);
  entry = inl (ap (λ (d : Claim). d.due) p, ap (λ (d : Claim). d.bit) p, ap (λ (d : Claim). d.value) p);
}
origin_of made i (e ∷ more) c (inr h) = let o = origin_of made i more c h in record { when = o.when; who = o.who; entry = inr o.entry }

among_made : (xs ys : List Made) (c : Claim) → IsAmong c (claims (xs ++ ys)) → IsAmong c (claims xs) ⊎ IsAmong c (claims ys)
among_made xs ys c h = let P : List Claim → Type 0 = λ cs. IsAmong c cs in among_parts (claims xs) (claims ys) c (subst P (claims-append xs ys) h)

among_kept : (t : Instant) (i : ℕ) (w : Wish) (c : Claim) → IsAmong c (claims (kept t i w)) → Origin t i w c
among_kept t i [] c h = absurd h
among_kept t i (e ∷ more) c h = ⊎_elim (origin_of t i (e ∷ more) c) (λ k. absurd k) (among_parts (claims_of t i (e ∷ more)) [] c h)

-- the new entries were made at t by the k-th instance or a later one
record FromFrame (t : Instant) (k : ℕ) (c : Claim) : Type 0 where
  when : c.made ≡ t
  who : k ≤ c.instance

from_frame : (t : Instant) (k : ℕ) (done : List Act) (c : Claim) → IsAmong c (claims (made_by t k done)) → FromFrame t k c
from_frame t k [] c h = absurd h
from_frame t k (a ∷ more) c h = ⊎_elim
    (λ x. let o = among_kept t k a.wish c x in record { when = o.when; who = omega (arith, o.who) })
    (λ x. let f = from_frame t (k + 1) more c x in record { when = f.when; who = omega (arith, f.who) })
    (among_made (kept t k a.wish) (made_by t (k + 1) more) c h)

abbrev AllInOrder : List Act → Type 0
AllInOrder [] = Unit {0}
AllInOrder (a ∷ more) = IsInOrder a.wish × AllInOrder more

all_in_order : (r : Rules) (items : List ItemText) (m : Moment) (is : List Instance) (ss : List State) → AllInOrder (acts_from r items m is ss)
all_in_order r items m [] ss = tt
all_in_order r items m (i ∷ is) [] = tt
all_in_order r items m (i ∷ is) (s ∷ ss) = ((acts_in_order r m (unit_of items i.unit) i s).0, all_in_order r items m is ss)

one_in_frame : (t : Instant) (k : ℕ) (done : List Act) (c d : Claim) → AllInOrder done → IsAmong c (claims (made_by t k done)) → IsAmong d (claims (made_by t k done))
    → c.bit ≡ d.bit → c.due ≡ d.due → c.instance ≡ d.instance → c.value ≡ d.value
one_in_frame t k [] c d o h j b u i = absurd h
one_in_frame t k (a ∷ more) c d o h j b u i = at (among_made (kept t k a.wish) (made_by t (k + 1) more) c h) (among_made (kept t k a.wish) (made_by t (k + 1) more) d j)
    (λ x y. one_in_frame t (k + 1) more c d o.1 x y b u i)
  where
    moved : IsEntry d.due d.bit d.value a.wish → IsEntry c.due c.bit d.value a.wish
    moved e = rw (b, u) e

    at : IsAmong c (claims (kept t k a.wish)) ⊎ IsAmong c (claims (made_by t (k + 1) more)) → IsAmong d (claims (kept t k a.wish)) ⊎ IsAmong d (claims (made_by t (k + 1) more))
        → (IsAmong c (claims (made_by t (k + 1) more)) → IsAmong d (claims (made_by t (k + 1) more)) → c.value ≡ d.value) → c.value ≡ d.value
    at (inl x) (inl y) ih =
        let p = among_kept t k a.wish c x in let q = among_kept t k a.wish d y in
        one_entry c.due c.bit c.value d.value a.wish o.0 p.entry (moved q.entry)
    at (inl x) (inr y) ih =
        let p = among_kept t k a.wish c x in let q = from_frame t (k + 1) more d y in absurd (omega (arith, p.who, q.who, i))
    at (inr x) (inl y) ih =
        let p = from_frame t (k + 1) more c x in let q = among_kept t k a.wish d y in absurd (omega (arith, p.who, q.who, i))
    at (inr x) (inr y) ih = ih x y

later_than : (w : World) (t : Instant) (o : Option Instant) → w.last ≡ o → next_instant w ≡ Some t → (c : Claim) → IsMadeByFrame o c → instant_lt c.made t ≡ true
later_than w t None e n c m = absurd m
later_than w t (Some l) e n c m = instant_lt-le_lt c.made l t m
    (after (instant_after (Some l) w.history w.states) (next_computes l w.history w.states) (ap (λ x. instant_after x w.history w.states) (sym e) ∙ n))
  where
    same : (u : Instant) → Some u ≡ Some t → u ≡ t
    same u z = cc

    none : None ≡ Some t → ⊥
    none z = cc

    after : (x : Option Instant) → IsNext l w.history w.states x → x ≡ Some t → instant_lt l t ≡ true
    after None i z = absurd (none z)
    after (Some u) i z = ap (instant_lt l) (sym (same u z)) ∙ i.0.0

module _ (bound : ℕ) (items : List ItemText) (d : Design) where
  next_sound : (w : World) (t : Instant) → HistoryIsSound w → next_instant w ≡ Some t → HistoryIsSound (next_world bound items d w t)
  unfolding acts_at
  next_sound w t s n = record {
    one_each = λ c e x y b l. at c e (split c x) (split e y) b (made_together c e l) l;
    made = λ c x. past_at c (split c x);
  }
    where
      split : (c : Claim) → IsAmong c (claims (w.history ++ made_by t 0 (acts_at bound items d w t))) → IsAmong c (claims w.history) ⊎ IsAmong c (claims (made_by t 0 (acts_at bound items d w t)))
      split c x = among_made w.history (made_by t 0 (acts_at bound items d w t)) c x

      before : (c : Claim) → IsAmong c (claims w.history) → instant_lt c.made t ≡ true
      before c x = later_than w t w.last refl n c (s.made c x)

      past_at : (c : Claim) → IsAmong c (claims w.history) ⊎ IsAmong c (claims (made_by t 0 (acts_at bound items d w t))) → instant_le c.made t ≡ true
      past_at c (inl x) = instant_le-lt c.made t (before c x)
      past_at c (inr x) = let f = from_frame t 0 (acts_at bound items d w t) c x in ap (λ m. instant_le m t) f.when ∙ le_self t

      apart : (c e : Claim) → IsAmong c (claims w.history) → IsAmong e (claims (made_by t 0 (acts_at bound items d w t))) → c.made ≡ e.made → ⊥
      apart c e x y m = let f = from_frame t 0 (acts_at bound items d w t) e y in lt_self t (ap (λ u. instant_lt u t) (sym (m ∙ f.when)) ∙ before c x)

      at : (c e : Claim) → IsAmong c (claims w.history) ⊎ IsAmong c (claims (made_by t 0 (acts_at bound items d w t)))
          → IsAmong e (claims w.history) ⊎ IsAmong e (claims (made_by t 0 (acts_at bound items d w t)))
          → c.bit ≡ e.bit → MadeTogether c e → claim_cmp c e ≡ Equal → c.value ≡ e.value
      at c e (inl x) (inl y) b l z = s.one_each c e x y b z
      at c e (inl x) (inr y) b l z = absurd (apart c e x y l.made)
      at c e (inr x) (inl y) b l z = absurd (apart e c y x (sym l.made))
      at c e (inr x) (inr y) b l z =
          one_in_frame t 0 (acts_at bound items d w t) c e (all_in_order (rules_of bound items) items (moment_of w t) d.instances w.states) x y b l.due l.instance

  reached_sound : (from w : World) → HistoryIsSound from → ReachedFrom bound items d from w → HistoryIsSound w
  reached_sound from _ s at_start = s
  reached_sound from _ s (after_frame w t r n) = next_sound w t (reached_sound from w s r) n

pub first_history_is_sound : FirstHistoryIsSound
first_history_is_sound items d = record { one_each = λ c e x y b l. absurd x; made = λ c x. absurd x }

pub history_stays_sound : HistoryStaysSound
history_stays_sound bound items d from w s r = reached_sound bound items d from w s r
