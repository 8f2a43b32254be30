-- The signals that wishes may change, wish by wish.
use Rattle.std.proofs.Common.{◌≡◌, ℕ, ◌<◌, List, [], ◌∷◌, length, Bool, true, false, Option, Some, None, refl, ap, sym, ◌∙◌, subst, inl, inr}
use Rattle.lh_time.specs.declared.Instant.{Instant}
use Rattle.lh_types.specs.History.{values_by}
use Rattle.lh_bits.specs.Writes.{written}
use Rattle.lh_design.specs.declared.Signal.{Signal}
use Rattle.lh_queue.specs.declared.wish.Wish.{Wish}
use Rattle.lh_queue.specs.Queued.{QueuedWish, AreInOrder, KeysDiffer, NoneDueBefore, wish_at}
use Rattle.std.specs.Prelude.{◌↔◌}
use Rattle.lh_time.specs.Order.{instant_eq}
use Rattle.lh_queue.specs.Holds.{entries}
use Rattle.lh_queue.specs.Buckets.{buckets_of, next_in}
use Rattle.lh_queue.specs.Places.{first_key, rest_from}
use Rattle.lh_queue.proofs.TakenWishes.{rest_first, rest_none, looked, looked_end, looked_none}
use Rattle.lh_kernel_wakes.specs.Rising.{IsOneOf}
use Rattle.lh_kernel_changes.specs.Touched.{TouchesMore, AreSignals, bits_named, OthersStay}
use Rattle.lh_kernel_changes.proofs.Filled.{is_below}
use Rattle.lh_kernel_changes.proofs.Same.{only_written_change}
use Rattle.lh_kernel.specs.Touched.{first_in, bits_then, MayChange}

-- from any bits: those after the wishes so far, which differ from these only at the signals so far, and from which the rest leads to the bits then
pub record Seen (signals : List Signal) (held : List QueuedWish) (t : Instant) (touched : List ℕ) (key : Option ℕ) (bits : List Bool) : Type 0 where
  pub seen : List Bool
  pub others : OthersStay signals touched bits seen
  pub rest : values_by (entries (rest_from held key)) t 0 seen ≡ bits_then held t bits

pub record TouchedTo (signals : List Signal) (width : ℕ) (held : List QueuedWish) (t : Instant) (touched : List ℕ) (key : Option ℕ) : Type 0 where
  pub known : AreSignals signals touched
  pub seen : (bits : List Bool) → Seen signals held t touched key bits

module _ (signals : List Signal) (width : ℕ) (held : List QueuedWish) (t : Instant) where
  first_is : first_in (buckets_of held) ≡ first_key held
  first_is = by held
    where
      by : (xs : List QueuedWish) → first_in (buckets_of xs) ≡ first_key xs
      by [] = refl
      by (x ∷ more) = refl

  pub touched_none : (key : Option ℕ) → key ≡ first_in (buckets_of held) → TouchedTo signals width held t [] key
  touched_none key e = record {
    known = λ k h. absurd h;
    seen = λ bits. record {
      seen = bits;
      others = λ k n b h. refl;
      rest = ap (λ (k : Option ℕ). values_by (entries (rest_from held k)) t 0 bits) (e ∙ first_is) ∙ ap (λ (xs : List QueuedWish). values_by (entries xs) t 0 bits) (rest_first held);
    };
  }

  -- the signals that a wish names
  known_more : (w : Wish) (old new : List ℕ) → AreSignals signals old → TouchesMore signals (bits_named w.bits) old new → AreSignals signals new
  known_more w old new known more k h = elim ((more k).0 h) [ inl g ↦ is_below signals k g.bit g.has | inr g ↦ known k g ]

  others_more : (w : Wish) (old new : List ℕ) (bits seen : List Bool) → OthersStay signals old bits seen →
      TouchesMore signals (bits_named w.bits) old new → OthersStay signals new bits (written w.bits seen)
  others_more w old new bits seen others more k n b h =
      others k (λ g. n ((more k).1 (inr g))) b h ∙ only_written_change signals w.bits new seen (λ j g. (more j).1 (inl g)) k n b h

  -- one wish more
  pub touched_more : (k : ℕ) (w : Wish) (key next : Option ℕ) (old new : List ℕ) → AreInOrder held → KeysDiffer held → wish_at held k ≡ Some w →
      instant_eq w.due t ≡ true → key ≡ Some k → next ≡ next_in held k →
      TouchesMore signals (bits_named w.bits) old new → TouchedTo signals width held t old key → TouchedTo signals width held t new next
  touched_more k w key next old new order keys is due at on more s = record {
    known = known_more w old new s.known more;
    seen = λ bits.
        let x = s.seen bits in
        record {
          seen = written w.bits x.seen;
          others = others_more w old new bits x.seen x.others more;
          rest = ap (λ (j : Option ℕ). values_by (entries (rest_from held j)) t 0 (written w.bits x.seen)) on ∙ (looked held k w t x.seen (written w.bits x.seen) order keys is due refl).bits
              ∙ ap (λ (j : Option ℕ). values_by (entries (rest_from held j)) t 0 x.seen) (sym at) ∙ x.rest;
        };
  }

  pub touched_less : (k : ℕ) (w : Wish) (key next : Option ℕ) → AreInOrder held → KeysDiffer held → wish_at held k ≡ Some w → instant_eq w.due t ≡ true → key ≡ Some k → next ≡ next_in held k →
      length (rest_from held next) < length (rest_from held key)
  touched_less k w key next order keys is due at on =
      let l = (looked held k w t [] (written w.bits []) order keys is due refl).less in
      let P : Option ℕ → Type 0 = λ j. length (rest_from held j) < length (rest_from held key) in
      let Q : Option ℕ → Type 0 = λ j. length (rest_from held (next_in held k)) < length (rest_from held j) in
      subst P (sym on) (subst Q (sym at) l)

  -- no further wish is due
  ends : (touched : List ℕ) (key : Option ℕ) → ((seen : List Bool) → seen ≡ values_by (entries (rest_from held key)) t 0 seen) →
      TouchedTo signals width held t touched key → MayChange signals width held t touched
  ends touched key still s = record {
    known = s.known;
    others = λ bits n.
        let x = s.seen bits in
        let P : List Bool → Type 0 = OthersStay signals touched bits in
        subst P (still x.seen ∙ x.rest) x.others;
  }

  pub touched_end : (touched : List ℕ) (key : Option ℕ) → key ≡ None → TouchedTo signals width held t touched key → MayChange signals width held t touched
  touched_end touched key e s = ends touched key (λ seen. looked_none t seen ∙ ap (λ (j : Option ℕ). values_by (entries (rest_from held j)) t 0 seen) (sym e)) s

  pub touched_gone : (touched : List ℕ) (key : Option ℕ) (k : ℕ) → key ≡ Some k → wish_at held k ≡ None → TouchedTo signals width held t touched key → MayChange signals width held t touched
  touched_gone touched key k e n s =
      let gone : rest_from held key ≡ [] = ap (rest_from held) e ∙ rest_none held k n in
      ends touched key (λ seen. looked_none t seen ∙ ap (λ (xs : List QueuedWish). values_by (entries xs) t 0 seen) (sym gone)) s

  pub touched_late : (touched : List ℕ) (key : Option ℕ) (k : ℕ) (w : Wish) → AreInOrder held → KeysDiffer held → NoneDueBefore t held →
      key ≡ Some k → wish_at held k ≡ Some w → instant_eq w.due t ≡ false → TouchedTo signals width held t touched key →
      MayChange signals width held t touched
  touched_late touched key k w order keys due e is late s =
      ends touched key (λ seen. looked_end held k w t seen order keys due is late ∙ ap (λ (j : Option ℕ). values_by (entries (rest_from held j)) t 0 seen) (sym e)) s

  -- other numbers that are the same
  pub again : (xs ys : List ℕ) → MayChange signals width held t xs → ((k : ℕ) → IsOneOf k ys ↔ IsOneOf k xs) → MayChange signals width held t ys
  again xs ys m same = record {
    known = λ k h. m.known k ((same k).0 h);
    others = λ bits n k no b h. m.others bits n k (λ g. no ((same k).1 g)) b h;
  }
