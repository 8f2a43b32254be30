-- Steps of noting and forgetting what one instance senses and when it wakes by itself.
use Rattle.std.proofs.Common.{arith, ◌≡◌, ℕ, ◌+◌, ◌<◌, ◌≤◌, List, [], length, get_or, take, refl, ap, sym, ◌∙◌, subst, inl, inr, Option, Some, None}
use Rattle.std.specs.Prelude.{Result, Ok, Err, IfOk, OnErr, true, false}
use Rattle.std.specs.Result.{is_err}
use Rattle.std.proofs.lemmas.List.{take_all}
use Rattle.lh_time.specs.declared.Instant.{Instant}
use Rattle.lh_kernel_wakes.specs.Rising.{IsOneOf}
use Rattle.lh_kernel_wakes.specs.Sensed.{Senses, SensesOneMore, SensesOneLess}
use Rattle.lh_kernel_wakes.specs.Waking.{IsNoted, NotesOneMore, NotesOneLess}
use Rattle.lh_kernel.specs.declared.noted.Noted.{Noted}
use Rattle.lh_kernel.specs.Moves.{IsSameNoted}
use Rattle.lh_kernel.specs.Noting.{HasNoted, HasNotedSome, HasForgotten}
use Rattle.lh_kernel_wakes.specs.declared.wakes.Wake.{Wake}
use Rattle.lh_kernel.proofs.Relations.{With, WithSome, Without, IsEither, with_none, without_none, with_more, without_more, some_of_all, has_next, has_first, has_place}

-- what is said of an instance: of a signal, and of an instant
abbrev pub OfSignal : (k : ℕ) → List ℕ → (s j : ℕ) → Type 0
OfSignal k signals s j = (k ≡ j) × IsOneOf s signals

abbrev pub OfWake : (k : ℕ) → Option Instant → Instant → (j : ℕ) → Type 0
OfWake k wake t j = (k ≡ j) × (wake ≡ Some t)

pub no_wake : (t : Instant) → None ≡ Some t → ⊥
no_wake t e = cc

same_instant : (t u : Instant) → Some t ≡ Some u → t ≡ u
same_instant t u e = cc

pub noted_itself : (n : Noted) → IsSameNoted n n
noted_itself n = record { long = refl; senses = λ s k. (λ h. h, λ h. h); wakes = λ t k. (λ h. h, λ h. h) }

pub noted_none : (k : ℕ) (a : Noted) → HasNoted k [] None a a
noted_none k a = record {
  long = refl;
  senses = with_none (OfSignal k []) (Senses a.index) (λ s j h. h.1);
  wakes = with_none (OfWake k None) (IsNoted a.wakes) (λ t j h. no_wake t h.1);
}

pub forgotten_none : (k : ℕ) (a : Noted) → HasForgotten k [] None a a
forgotten_none k a = record {
  long = refl;
  senses = without_none (OfSignal k []) (Senses a.index) (λ s j h. h.1);
  wakes = without_none (OfWake k None) (IsNoted a.wakes) (λ t j h. no_wake t h.1);
}

-- one signal, as the index says it
abbrev One : (s k : ℕ) → ℕ → ℕ → Type 0
One s k r j = (r ≡ s) × (j ≡ k)

next_signal : (k s : ℕ) (items : List ℕ) (i : ℕ) → i < length items → s ≡ get_or items i 0 → IsEither (OfSignal k (take i items)) (One s k) (OfSignal k (take (i + 1) items))
next_signal k s items i l e r j = (
  λ h. elim ((has_next r items i s l e).0 h.1) [ inl g ↦ inl (h.0, g) | inr q ↦ inr (sym q, sym h.0) ],
  λ h. elim h [ inl g ↦ (g.0, (has_next r items i s l e).1 (inl g.1)) | inr q ↦ (sym q.1, (has_next r items i s l e).1 (inr (sym q.0))) ],
)

-- one instant, as the wakes say it
abbrev OneWake : (t : Instant) → (k : ℕ) → Instant → ℕ → Type 0
OneWake t k u j = (t ≡ u) × (k ≡ j)

next_wake : (k : ℕ) (t : Instant) (wake : Option Instant) → wake ≡ Some t → IsEither (OfWake k None) (OneWake t k) (OfWake k wake)
next_wake k t wake w u j = (
  λ h. inr (same_instant t u (sym w ∙ h.1), h.0),
  λ h. elim h [ inl n ↦ absurd (no_wake u n.1) | inr q ↦ (q.1, w ∙ ap (λ (v : Instant). Some v) q.0) ],
)

-- whatever a call answered, what is said of its failure
pub on_err : {T E P : Type 0} (r : Result T E) → P → OnErr r P
on_err (Ok x) p = tt
on_err (Err e) p = p

abbrev pub noted : List (List ℕ) → List Wake → Noted
noted index wakes = record { index = index; wakes = wakes }

module _ (k : ℕ) (items : List ℕ) (i : ℕ) (a b : Noted) where
  -- one signal more, and one less
  pub note_signal : (s : ℕ) (index : List (List ℕ)) → i < length items → s ≡ get_or items i 0 → HasNoted k (take i items) None a b → SensesOneMore b.index s k index → length index ≡ length b.index →
      HasNoted k (take (i + 1) items) None a (noted index b.wakes)
  note_signal s index l e h m n = record {
    long = n ∙ h.long;
    senses = with_more (OfSignal k (take i items)) (One s k) (OfSignal k (take (i + 1) items)) (Senses a.index) (Senses b.index) (Senses index) (next_signal k s items i l e) h.senses m;
    wakes = h.wakes;
  }

  pub forget_signal : (s : ℕ) (index : List (List ℕ)) → i < length items → s ≡ get_or items i 0 → HasForgotten k (take i items) None a b →
      SensesOneLess b.index s k index → length index ≡ length b.index →
      HasForgotten k (take (i + 1) items) None a (noted index b.wakes)
  forget_signal s index l e h m n = record {
    long = n ∙ h.long;
    senses = without_more (OfSignal k (take i items)) (One s k) (OfSignal k (take (i + 1) items)) (Senses a.index) (Senses b.index) (Senses index) (next_signal k s items i l e) h.senses m;
    wakes = h.wakes;
  }

  -- and then the instant
  module _ (signals : List ℕ) (wake : Option Instant) (e : items ≡ signals) where
    whole : length items ≤ i → take i items ≡ signals
    whole l = take_all i items l ∙ e

    pub note_wake : (t : Instant) (wakes : List Wake) → length items ≤ i → wake ≡ Some t → HasNoted k (take i items) None a b →
        NotesOneMore b.wakes t k wakes → HasNoted k signals wake a (noted b.index wakes)
    note_wake t wakes l w h m =
        let P : List ℕ → Type 0 = λ xs. With (OfSignal k xs) (Senses a.index) (Senses b.index) in
        record {
          long = h.long;
          senses = subst P (whole l) h.senses;
          wakes = with_more (OfWake k None) (OneWake t k) (OfWake k wake) (IsNoted a.wakes) (IsNoted b.wakes) (IsNoted wakes) (next_wake k t wake w) h.wakes m;
        }

    pub note_no_wake : length items ≤ i → wake ≡ None → HasNoted k (take i items) None a b → HasNoted k signals wake a b
    note_no_wake l w h =
        let P : List ℕ → Type 0 = λ xs. With (OfSignal k xs) (Senses a.index) (Senses b.index) in
        let Q : Option Instant → Type 0 = λ o. With (OfWake k o) (IsNoted a.wakes) (IsNoted b.wakes) in
        record { long = h.long; senses = subst P (whole l) h.senses; wakes = subst Q (sym w) h.wakes }

    pub forget_wake : (t : Instant) (wakes : List Wake) → length items ≤ i → wake ≡ Some t → HasForgotten k (take i items) None a b →
        NotesOneLess b.wakes t k wakes → HasForgotten k signals wake a (noted b.index wakes)
    forget_wake t wakes l w h m =
        let P : List ℕ → Type 0 = λ xs. Without (OfSignal k xs) (Senses a.index) (Senses b.index) in
        record {
          long = h.long;
          senses = subst P (whole l) h.senses;
          wakes = without_more (OfWake k None) (OneWake t k) (OfWake k wake) (IsNoted a.wakes) (IsNoted b.wakes) (IsNoted wakes) (next_wake k t wake w) h.wakes m;
        }

    pub forget_no_wake : length items ≤ i → wake ≡ None → HasForgotten k (take i items) None a b → HasForgotten k signals wake a b
    forget_no_wake l w h =
        let P : List ℕ → Type 0 = λ xs. Without (OfSignal k xs) (Senses a.index) (Senses b.index) in
        let Q : Option Instant → Type 0 = λ o. Without (OfWake k o) (IsNoted a.wakes) (IsNoted b.wakes) in
        record { long = h.long; senses = subst P (whole l) h.senses; wakes = subst Q (sym w) h.wakes }

    -- where memory ran out, some of it is noted
    pub noted_some : (index : List (List ℕ)) (wakes : List Wake) → HasNoted k (take i items) None a b → index ≡ b.index → wakes ≡ b.wakes → HasNotedSome k signals wake a (noted index wakes)
    noted_some index wakes h p q =
        let first : (s j : ℕ) → OfSignal k (take i items) s j → OfSignal k signals s j = λ s j g. (g.0, let R : List ℕ → Type 0 = IsOneOf s in subst R e (has_first s items i g.1)) in
        let S : List (List ℕ) → Type 0 = λ x. WithSome (OfSignal k signals) (Senses a.index) (Senses x) in
        let W : List Wake → Type 0 = λ x. WithSome (OfWake k wake) (IsNoted a.wakes) (IsNoted x) in
        record {
          long = ap length p ∙ h.long;
          senses = subst S (sym p) (some_of_all (OfSignal k (take i items)) (OfSignal k signals) (Senses a.index) (Senses b.index) first h.senses);
          wakes = subst W (sym q) (some_of_all (OfWake k None) (OfWake k wake) (IsNoted a.wakes) (IsNoted b.wakes) (λ t j g. absurd (no_wake t g.1)) h.wakes);
        }

-- the signals that are noted are those of the index
pub known_next : (items signals : List ℕ) (n m i : ℕ) → items ≡ signals → ((s : ℕ) → IsOneOf s signals → s < n) → m ≡ n → i < length items → get_or items i 0 < m
known_next items signals n m i e known q l =
    let h : IsOneOf (get_or items i 0) items = has_place items i (get_or items i 0) l refl in
    let R : List ℕ → Type 0 = IsOneOf (get_or items i 0) in
    let b : get_or items i 0 < n = known (get_or items i 0) (subst R e h) in
    omega arith

-- what is said of a call, where it failed and where it did not
pub at_err : {T E P : Type 0} (r : Result T E) → is_err r ≡ true → OnErr r P → P
at_err (Ok x) e p = absurd (clash e)
  where
    clash : false ≡ true → ⊥
    clash q = cc
at_err (Err x) e p = p

pub at_ok : {T E P : Type 0} (r : Result T E) → is_err r ≡ false → IfOk r (λ x. P) → P
at_ok (Ok x) e p = p
at_ok (Err x) e p = absurd (clash e)
  where
    clash : true ≡ false → ⊥
    clash q = cc
