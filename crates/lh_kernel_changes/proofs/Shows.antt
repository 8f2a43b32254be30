-- What changes show: all of them, and those of the signals that are touched.
use Rattle.std.proofs.Common.{arith, ◌≡◌, ℕ, suc, ◌+◌, ◌<◌, ◌≤◌, List, [], ◌∷◌, ◌++◌, append_assoc, length, get_or, map, take, drop, Bool, true, false, nat_eq, if◌then◌else◌, Option, Some, None, refl, ap, sym, ◌∙◌, subst, inl, inr}
use Rattle.std.specs.Prelude.{slice_get}
use Rattle.std.proofs.lemmas.Bool.{cases_eq}
use Rattle.std.proofs.lemmas.Bool.Decides.{nat_tests}
use Rattle.std.proofs.lemmas.List.{drop_more, drop_all, map-append, append-nil, length-drop, length-take-le, take_all}
use Rattle.lh_types.specs.Types.{IsData, bit_count}
use Rattle.lh_types.specs.Values.{Datum}
use Rattle.lh_types.specs.Bits.{value_bits, value_from_bits, differing}
use Rattle.lh_types.specs.Parts.{bits_within}
use Rattle.lh_types.specs.Pictures.{Showing, showing_of}
use Rattle.lh_types.specs.declared.frame.Change.{Change}
use Rattle.lh_bits.proofs.ValueBits.{value_bits-value_from_bits, value_from_bits-take}
use Rattle.lh_unit.specs.Trace.{signal_value}
use Rattle.lh_unit.specs.Frames.{toggled, all_change, change_if, changed_from, signal_values}
use Rattle.lh_kernel_wakes.specs.Rising.{IsOneOf, AreAbove, IsRising}
use Rattle.lh_design.specs.declared.Signal.{Signal}
use Rattle.lh_design.specs.Texts.{signal_text}
use Rattle.lh_design.specs.Filling.{FillFrom}
use Rattle.lh_kernel_changes.specs.Touched.{StaysSame, OthersStay, AreSignals}
use Rattle.lh_kernel_changes.specs.Shown.{shown}
use Rattle.lh_kernel_changes.proofs.Same.{row_by_stays}

-- the value of a signal by the bits
abbrev pub value_of : List Bool → Signal → Datum
value_of bits s = signal_value bits (signal_text s)

-- the values of signals by the bits
abbrev pub values_of : List Signal → List Bool → List Datum
values_of ss bits = signal_values (map signal_text ss) bits

-- a value that is read where a signal begins is the signal's
pub read_value : (s : Signal) (bits : List Bool) → IsData s.ty → s.lo + bit_count s.ty ≤ length bits → value_from_bits s.ty (drop s.lo bits) ≡ value_of bits s
read_value s bits d h = sym (value_from_bits-take s.ty d (drop s.lo bits) (omega (arith, length-drop s.lo bits)))

-- the bits of a signal's value are its bits
value_row : (s : Signal) (bits : List Bool) → IsData s.ty → s.lo + bit_count s.ty ≤ length bits → value_bits (value_of bits s) ≡ bits_within s.lo (bit_count s.ty) bits
value_row s bits d h =
    let left : bit_count s.ty ≤ length (drop s.lo bits) = omega (arith, length-drop s.lo bits) in
    let many : length (take (bit_count s.ty) (drop s.lo bits)) ≡ bit_count s.ty = length-take-le (bit_count s.ty) (drop s.lo bits) left in
    value_bits-value_from_bits s.ty d (take (bit_count s.ty) (drop s.lo bits)) (omega arith) ∙ take_all (bit_count s.ty) (take (bit_count s.ty) (drop s.lo bits)) (omega arith)

-- this many bits toggled
toggled_row : (s : Signal) (old now : List Bool) → IsData s.ty → s.lo + bit_count s.ty ≤ length old → s.lo + bit_count s.ty ≤ length now →
    differing (bits_within s.lo (bit_count s.ty) old) (bits_within s.lo (bit_count s.ty) now) ≡ toggled (value_of old s) (value_of now s)
toggled_row s old now d h l =
    ap (λ (bs : List Bool). differing bs (bits_within s.lo (bit_count s.ty) now)) (sym (value_row s old d h)) ∙ ap (differing (value_bits (value_of old s))) (sym (value_row s now d l))

pub toggled_by_len : (s : Signal) (t n : ℕ) (old now : List Bool) → IsData s.ty → s.lo + bit_count s.ty ≤ length old → s.lo + bit_count s.ty ≤ length now → n ≡ bit_count s.ty →
    t ≡ differing (bits_within s.lo n old) (bits_within s.lo n now) → t ≡ toggled (value_of old s) (value_of now s)
toggled_by_len s t n old now d h l e c = c ∙ ap (λ (m : ℕ). differing (bits_within s.lo m old) (bits_within s.lo m now)) e ∙ toggled_row s old now d h l

-- the changes of signals, the first of which has this number
abbrev pub AllFrom : (changes : List Change) → ℕ → List Signal → List Bool → Type 0
AllFrom changes i ss now = map showing_of changes ++ all_change i (values_of (drop i ss) now) ≡ all_change 0 (values_of ss now)

pub all_start : (changes : List Change) (ss : List Signal) (now : List Bool) → changes ≡ [] → AllFrom changes 0 ss now
all_start changes ss now e = ap (λ (cs : List Change). map showing_of cs ++ all_change 0 (values_of ss now)) e

one_more : (old new : List Change) (c : Change) (x : Showing) (rest : List Showing) → new ≡ old ++ c ∷ [] → showing_of c ≡ x → map showing_of new ++ rest ≡ map showing_of old ++ (x ∷ rest)
one_more old new c x rest e s =
    ap (λ (cs : List Change). map showing_of cs ++ rest) e
    ∙ ap (λ (ys : List Showing). ys ++ rest) (map-append showing_of old (c ∷ []))
    ∙ append_assoc (map showing_of old) (showing_of c ∷ []) rest
    ∙ ap (λ (y : Showing). map showing_of old ++ (y ∷ rest)) s

pub all_next : (old new : List Change) (c : Change) (i : ℕ) (s : Signal) (ss : List Signal) (now : List Bool) → i < length ss → s ≡ get_or ss i s → new ≡ old ++ c ∷ []
    → showing_of c ≡ shown i 0 (value_of now s) →
    AllFrom old i ss now → AllFrom new (i + 1) ss now
all_next old new c i s ss now l e p v a =
    let next : drop i ss ≡ s ∷ drop (i + 1) ss = drop_more ss i s l ∙ ap (λ (x : Signal). x ∷ drop (i + 1) ss) (sym e) in
    one_more old new c (shown i 0 (value_of now s)) (all_change (i + 1) (values_of (drop (i + 1) ss) now)) p v
    ∙ ap (λ (xs : List Signal). map showing_of old ++ all_change i (values_of xs now)) (sym next) ∙ a

pub all_end : (changes : List Change) (i : ℕ) (ss : List Signal) (now : List Bool) → length ss ≤ i → AllFrom changes i ss now → map showing_of changes ≡ all_change 0 (values_of ss now)
all_end changes i ss now l a =
    sym (append-nil (map showing_of changes)) ∙ ap (λ (xs : List Signal). map showing_of changes ++ all_change i (values_of xs now)) (sym (drop_all i ss l)) ∙ a

-- the change of the signal of a number, where its bits differ
abbrev change_of : Option Signal → (old now : List Bool) → ℕ → List Showing → List Showing
change_of None old now k rest = rest
change_of (Some s) old now k rest = change_if k (toggled (value_of old s) (value_of now s)) (value_of now s) rest

-- those of these signals
abbrev pub picked : List Signal → (old now : List Bool) → List ℕ → List Showing
picked ss old now [] = []
picked ss old now (k ∷ ks) = change_of (slice_get ss k) old now k (picked ss old now ks)

change_first : (k n : ℕ) (v : Datum) (rest : List Showing) → change_if k n v [] ++ rest ≡ change_if k n v rest
change_first k n v rest = by (nat_eq n 0)
  where
    by : (b : Bool) → (if b then [] else shown k n v ∷ []) ++ rest ≡ (if b then rest else shown k n v ∷ rest)
    by true = refl
    by false = refl

-- no bit of a list differs from itself
none_differing : (xs : List Bool) → differing xs xs ≡ 0
none_differing [] = refl
none_differing (true ∷ xs) = omega (arith, none_differing xs)
none_differing (false ∷ xs) = omega (arith, none_differing xs)

-- the further signals stand from a number on
abbrev StandsFrom : (n : ℕ) → (all ss : List Signal) → Type 0
StandsFrom n all ss = (j : ℕ) → slice_get all (n + j) ≡ slice_get ss j

stands_first : (n : ℕ) (all : List Signal) (s : Signal) (ss : List Signal) → StandsFrom n all (s ∷ ss) → slice_get all n ≡ Some s
stands_first n all s ss st = let e : n ≡ n + 0 = omega arith in ap (slice_get all) e ∙ st 0

stands_next : (n : ℕ) (all : List Signal) (s : Signal) (ss : List Signal) → StandsFrom n all (s ∷ ss) → StandsFrom (n + 1) all ss
stands_next n all s ss st j = let e : n + 1 + j ≡ n + suc j = omega arith in ap (slice_get all) e ∙ st (suc j)

stands_whole : (all : List Signal) → StandsFrom 0 all all
stands_whole all j = let e : 0 + j ≡ j = omega arith in ap (slice_get all) e

-- each is at least this
abbrev AreFrom : ℕ → List ℕ → Type 0
AreFrom n [] = Unit {0}
AreFrom n (k ∷ ks) = (n ≤ k) × AreFrom n ks

from_above : (n : ℕ) (ks : List ℕ) → AreAbove n ks → AreFrom (n + 1) ks
from_above n [] a = tt
from_above n (k ∷ ks) a = (omega (arith, a.0), from_above n ks a.1)

from_zero : (ks : List ℕ) → AreFrom 0 ks
from_zero [] = tt
from_zero (k ∷ ks) = (omega arith, from_zero ks)

from_less : (m n : ℕ) (ks : List ℕ) → m ≤ n → AreFrom n ks → AreFrom m ks
from_less m n [] l a = tt
from_less m n (k ∷ ks) l a = (omega (arith, a.0), from_less m n ks l a.1)

missing : (n : ℕ) (ks : List ℕ) → AreFrom (n + 1) ks → IsOneOf n ks → ⊥
missing n [] a h = h
missing n (k ∷ ks) a (inl e) = absurd (omega (arith, a.0, e))
missing n (k ∷ ks) a (inr h) = missing n ks a.1 h

module _ (hi : ℕ) (all : List Signal) (old now : List Bool) (f : FillFrom 0 all hi) (p : length old ≡ hi) (q : length now ≡ hi) where
  -- a signal that stays shows no change
  unchanged : (n : ℕ) (s : Signal) (rest : List Showing) → slice_get all n ≡ Some s → StaysSame all old now n → change_if n (toggled (value_of old s) (value_of now s)) (value_of now s) rest ≡ rest
  unchanged n s rest e same =
      let row : bits_within s.lo (bit_count s.ty) old ≡ bits_within s.lo (bit_count s.ty) now = row_by_stays hi all n s old now f e p q same in
      let value : value_of old s ≡ value_of now s = ap (value_from_bits s.ty) row in
      let none : toggled (value_of old s) (value_of now s) ≡ 0 = ap (λ (v : Datum). toggled v (value_of now s)) value ∙ none_differing (value_bits (value_of now s)) in
      ap (λ (m : ℕ). change_if n m (value_of now s) rest) none

  -- the changes of the signals from one on are those of the touched ones
  abbrev PickedFrom : (n : ℕ) → List Signal → Type 0
  PickedFrom n ss = (ks : List ℕ) → IsRising ks → AreFrom n ks → ((k : ℕ) → IsOneOf k ks → k < n + length ss) → ((k : ℕ) → n ≤ k → (IsOneOf k ks → ⊥) → StaysSame all old now k) →
      picked all old now ks ≡ changed_from n (values_of ss old) (values_of ss now)

  picked_end : (n : ℕ) → PickedFrom n []
  picked_end n [] r a b o = refl
  picked_end n (k ∷ ks) r a b o = let l : k < n + 0 = b k (inl refl) in absurd (omega (arith, a.0, l))

  -- a signal that is not among them
  passed : (n : ℕ) (s : Signal) (ss : List Signal) (ks : List ℕ) → slice_get all n ≡ Some s → PickedFrom (n + 1) ss → IsRising ks → AreFrom (n + 1) ks
      → ((k : ℕ) → IsOneOf k ks → k < n + length (s ∷ ss)) →
      ((k : ℕ) → n ≤ k → (IsOneOf k ks → ⊥) → StaysSame all old now k) → picked all old now ks ≡ changed_from n (values_of (s ∷ ss) old) (values_of (s ∷ ss) now)
  passed n s ss ks here more r a b o =
      more ks r a (λ k h. let l : k < n + length (s ∷ ss) = b k h in omega arith) (λ k l h. o k (omega arith) h)
      ∙ sym (unchanged n s (changed_from (n + 1) (values_of ss old) (values_of ss now)) here (o n (omega arith) (missing n ks a)))

  -- the first of them
  taken : (n : ℕ) (s : Signal) (ss : List Signal) (k : ℕ) (ks : List ℕ) → n ≡ k → slice_get all n ≡ Some s → PickedFrom (n + 1) ss → IsRising (k ∷ ks)
      → ((j : ℕ) → IsOneOf j (k ∷ ks) → j < n + length (s ∷ ss)) →
      ((j : ℕ) → n ≤ j → (IsOneOf j (k ∷ ks) → ⊥) → StaysSame all old now j) → picked all old now (k ∷ ks) ≡ changed_from n (values_of (s ∷ ss) old) (values_of (s ∷ ss) now)
  taken n s ss k ks e here more r b o =
      let first : AreFrom (n + 1) ks = subst (λ (x : ℕ). AreFrom (x + 1) ks) (sym e) (from_above k ks r.0) in
      let rest : picked all old now ks ≡ changed_from (n + 1) (values_of ss old) (values_of ss now) =
      more ks r.1 first (λ j h. let l : j < n + length (s ∷ ss) = b j (inr h) in omega arith) (λ j l h. o j (omega arith) (other j l h)) in
      ap (λ (x : ℕ). change_of (slice_get all x) old now x (picked all old now ks)) (sym e)
      ∙ ap (λ (x : Option Signal). change_of x old now n (picked all old now ks)) here
      ∙ ap (λ (ys : List Showing). change_if n (toggled (value_of old s) (value_of now s)) (value_of now s) ys) rest
    where
      other : (j : ℕ) → n + 1 ≤ j → (IsOneOf j ks → ⊥) → IsOneOf j (k ∷ ks) → ⊥
      other j l h (inl g) = absurd (omega (arith, e, g, l))
      other j l h (inr g) = h g

  picked_step : (n : ℕ) (s : Signal) (ss : List Signal) → slice_get all n ≡ Some s → PickedFrom (n + 1) ss → PickedFrom n (s ∷ ss)
  picked_step n s ss here more [] r a b o = passed n s ss [] here more r tt b o
  picked_step n s ss here more (k ∷ ks) r a b o = elim (cases_eq n k) [
    | inl e ↦ taken n s ss k ks e here more r b o
    | inr e ↦
        let l : n + 1 ≤ k = omega (arith, a.0, e) in
        passed n s ss (k ∷ ks) here more r (l, from_less (n + 1) (k + 1) ks (omega arith) (from_above k ks r.0)) b o
  ]

  picked_from : (n : ℕ) (ss : List Signal) → StandsFrom n all ss → PickedFrom n ss
  picked_from n [] st = picked_end n
  picked_from n (s ∷ ss) st = picked_step n s ss (stands_first n all s ss st) (picked_from (n + 1) ss (stands_next n all s ss st))

  picked_all : (ks : List ℕ) → IsRising ks → AreSignals all ks → OthersStay all ks old now → picked all old now ks ≡ changed_from 0 (values_of all old) (values_of all now)
  picked_all ks r b o = picked_from 0 all (stands_whole all) ks r (from_zero ks) (λ k h. let l : k < length all = b k h in omega arith) (λ k l h. o k h)

-- the changes of touched signals so far, before those of the others
abbrev pub PickedTo : (changes : List Change) → ℕ → List ℕ → List Signal → (old now : List Bool) → Type 0
PickedTo changes i ks ss old now = map showing_of changes ++ picked ss old now (drop i ks) ≡ picked ss old now ks

pub picked_start : (changes : List Change) (ks : List ℕ) (ss : List Signal) (old now : List Bool) → changes ≡ [] → PickedTo changes 0 ks ss old now
picked_start changes ks ss old now e = ap (λ (cs : List Change). map showing_of cs ++ picked ss old now ks) e

pub picked_next : (before after : List Change) (i k : ℕ) (s : Signal) (ks : List ℕ) (ss : List Signal) (old now : List Bool) → i < length ks → k ≡ get_or ks i 0 → slice_get ss k ≡ Some s →
    map showing_of after ≡ map showing_of before ++ change_if k (toggled (value_of old s) (value_of now s)) (value_of now s) [] → PickedTo before i ks ss old now → PickedTo after (i + 1) ks ss old now
picked_next before after i k s ks ss old now l e g c t =
    let next : drop i ks ≡ k ∷ drop (i + 1) ks = drop_more ks i 0 l ∙ ap (λ (x : ℕ). x ∷ drop (i + 1) ks) (sym e) in
    let rest : List Showing = picked ss old now (drop (i + 1) ks) in
    ap (λ (ys : List Showing). ys ++ rest) c
    ∙ append_assoc (map showing_of before) (change_if k (toggled (value_of old s) (value_of now s)) (value_of now s) []) rest
    ∙ ap (λ (ys : List Showing). map showing_of before ++ ys) (change_first k (toggled (value_of old s) (value_of now s)) (value_of now s) rest
    ∙ sym (ap (λ (x : Option Signal). change_of x old now k rest) g))
    ∙ ap (λ (xs : List ℕ). map showing_of before ++ picked ss old now xs) (sym next) ∙ t

pub picked_are : (hi : ℕ) (changes : List Change) (i : ℕ) (ks touched : List ℕ) (ss : List Signal) (old now : List Bool) → ks ≡ touched → FillFrom 0 ss hi → length old ≡ hi → length now ≡ hi
    → IsRising touched → AreSignals ss touched → OthersStay ss touched old now →
    length ks ≤ i → PickedTo changes i ks ss old now → map showing_of changes ≡ changed_from 0 (values_of ss old) (values_of ss now)
picked_are hi changes i ks touched ss old now v f p q r b o l t =
    sym (append-nil (map showing_of changes)) ∙ ap (λ (xs : List ℕ). map showing_of changes ++ picked ss old now xs) (sym (drop_all i ks l)) ∙ t
    ∙ ap (picked ss old now) v ∙ picked_all hi ss old now f p q touched r b o

-- one change more, or none where no bit toggled
pub change_added : (before after : List Change) (c : Change) (k n m : ℕ) (v : Datum) → after ≡ before ++ c ∷ [] → showing_of c ≡ shown k n v → n ≡ m → (n ≡ 0 → ⊥)
    → map showing_of after ≡ map showing_of before ++ change_if k m v []
change_added before after c k n m v e s t h =
    let test : nat_eq m 0 ≡ false = not_zero m (λ z. h (t ∙ z)) in
    ap (map showing_of) e ∙ map-append showing_of before (c ∷ [])
    ∙ ap (λ (y : Showing). map showing_of before ++ (y ∷ [])) (s ∙ ap (λ (x : ℕ). shown k x v) t)
    ∙ ap (λ (b : Bool). map showing_of before ++ (if b then [] else shown k m v ∷ [])) (sym test)
  where
    not_zero : (a : ℕ) → (a ≡ 0 → ⊥) → nat_eq a 0 ≡ false
    not_zero a h = grind (arith, nat_tests)

pub no_change : (changes : List Change) (k n m : ℕ) (v : Datum) → n ≡ 0 → n ≡ m → map showing_of changes ≡ map showing_of changes ++ change_if k m v []
no_change changes k n m v z t =
    sym (append-nil (map showing_of changes)) ∙ ap (λ (x : ℕ). map showing_of changes ++ change_if k x v []) (sym z ∙ t)
