-- Steps of entering and leaving what instances come to and go from, move by move.
use Rattle.std.proofs.Common.{arith, ◌≡◌, ℕ, zero, suc, ◌+◌, ◌-◌, ◌<◌, ◌≤◌, List, [], ◌∷◌, ◌++◌, length, get_or, take, drop, refl, ap, sym, ◌∙◌, subst, ◌⊎◌, inl, inr, Some}
use Rattle.std.specs.Prelude.{◌↔◌}
use Rattle.std.proofs.lemmas.List.{take_more, take_all, drop_more}
use Rattle.lh_kernel_wakes.specs.Rising.{IsOneOf}
use Rattle.lh_kernel_wakes.specs.Sensed.{Senses}
use Rattle.lh_kernel_wakes.specs.Waking.{IsNoted}
use Rattle.lh_design.specs.declared.Signal.{Signal}
use Rattle.lh_kernel_changes.specs.Touched.{AreSignals}
use Rattle.lh_kernel.specs.declared.noted.Noted.{Noted}
use Rattle.lh_kernel.specs.declared.noted.Move.{Move}
use Rattle.lh_kernel.specs.Noting.{HasNoted, HasNotedSome, HasForgotten}
use Rattle.lh_kernel.specs.Moves.{OneMove, ComesTo, GoesFrom, WakeComes, WakeGoes, MovesKnown, AreFresh, HasEntered, HasEnteredSome, HasLeft, IsSameNoted}
use Rattle.lh_kernel.proofs.Relations.{Without, IsEither, with_none, without_none, with_more, without_more, with_some, some_of_all, taken_back}
use Rattle.lh_kernel.proofs.NotedInstances.{OfSignal, OfWake}

-- one of the moves, or of one more
pub one_push : (P : Move → Type 0) (ms : List Move) (m : Move) → OneMove P (ms ++ m ∷ []) ↔ (OneMove P ms ⊎ P m)
one_push P ms m = (there ms, back ms)
  where
    there : (ms : List Move) → OneMove P (ms ++ m ∷ []) → OneMove P ms ⊎ P m
    there [] (inl p) = inr p
    there [] (inr h) = absurd h
    there (x ∷ ms) (inl p) = inl (inl p)
    there (x ∷ ms) (inr h) = elim (there ms h) [ inl g ↦ inl (inr g) | inr q ↦ inr q ]

    back : (ms : List Move) → OneMove P ms ⊎ P m → OneMove P (ms ++ m ∷ [])
    back [] (inl h) = absurd h
    back [] (inr q) = inl q
    back (x ∷ ms) (inl (inl p)) = inl p
    back (x ∷ ms) (inl (inr h)) = inr (back ms (inl h))
    back (x ∷ ms) (inr q) = inr (back ms (inr q))

pub one_first : (P : Move → Type 0) (ms : List Move) (i : ℕ) → OneMove P (take i ms) → OneMove P ms
one_first P [] zero h = h
one_first P [] (suc i) h = h
one_first P (m ∷ ms) zero h = absurd h
one_first P (m ∷ ms) (suc i) (inl p) = inl p
one_first P (m ∷ ms) (suc i) (inr h) = inr (one_first P ms i h)

pub known_at : (ss : List Signal) (ms : List Move) (i : ℕ) (m : Move) → i < length ms → m ≡ get_or ms i m → MovesKnown ss ms → AreSignals ss m.came × AreSignals ss m.gone
known_at ss [] i m l e k = absurd (omega arith)
known_at ss (x ∷ ms) zero m l e k = let P : Move → Type 0 = λ y. AreSignals ss y.came × AreSignals ss y.gone in subst P (sym e) (k.0, k.1)
known_at ss (x ∷ ms) (suc i) m l e k = known_at ss ms i m (omega arith) e k.2

pub known_first : (ss : List Signal) (ms : List Move) (i : ℕ) → MovesKnown ss ms → MovesKnown ss (take i ms)
known_first ss [] zero k = tt
known_first ss [] (suc i) k = tt
known_first ss (m ∷ ms) zero k = tt
known_first ss (m ∷ ms) (suc i) k = (k.0, k.1, known_first ss ms i k.2)

pub fresh_first : (ms : List Move) (i : ℕ) (n : Noted) → AreFresh ms n → AreFresh (take i ms) n
fresh_first ms i n f = record {
  senses = λ s k h. f.senses s k (one_first (λ (m : Move). (m.instance ≡ k) × IsOneOf s m.came) ms i h);
  wakes = λ t k h. f.wakes t k (one_first (λ (m : Move). (m.instance ≡ k) × (m.wake_came ≡ Some t)) ms i h);
}

-- all is as it was, but for what moves came to
pub record HasTakenBack (moves : List Move) (old new : Noted) : Type 0 where
  pub long : length new.index ≡ length old.index
  pub senses : Without (ComesTo moves) (Senses old.index) (Senses new.index)
  pub wakes : Without (WakeComes moves) (IsNoted old.wakes) (IsNoted new.wakes)

pub entered_none : (a : Noted) → HasEntered [] a a
entered_none a = record { long = refl; senses = with_none (ComesTo []) (Senses a.index) (λ s k h. h); wakes = with_none (WakeComes []) (IsNoted a.wakes) (λ t k h. h) }

left_none : (a : Noted) → HasLeft [] a a
left_none a = record { long = refl; senses = without_none (GoesFrom []) (Senses a.index) (λ s k h. h); wakes = without_none (WakeGoes []) (IsNoted a.wakes) (λ t k h. h) }

taken_none : (a : Noted) → HasTakenBack [] a a
taken_none a = record { long = refl; senses = without_none (ComesTo []) (Senses a.index) (λ s k h. h); wakes = without_none (WakeComes []) (IsNoted a.wakes) (λ t k h. h) }

-- one move more
module _ (ms : List Move) (i : ℕ) (m : Move) (l : i < length ms) (e : m ≡ get_or ms i m) where
  one_next : (P : Move → Type 0) → OneMove P (take (i + 1) ms) ↔ (OneMove P (take i ms) ⊎ P m)
  one_next P =
      let s : take (i + 1) ms ≡ take i ms ++ m ∷ [] = take_more ms i m l ∙ ap (λ (y : Move). take i ms ++ y ∷ []) (sym e) in
      let Q : List Move → Type 0 = λ ys. OneMove P ys ↔ (OneMove P (take i ms) ⊎ P m) in
      subst Q (sym s) (one_push P (take i ms) m)

  comes : IsEither (ComesTo (take i ms)) (OfSignal m.instance m.came) (ComesTo (take (i + 1) ms))
  comes s k = one_next (λ (y : Move). (y.instance ≡ k) × IsOneOf s y.came)

  wake_comes : IsEither (WakeComes (take i ms)) (OfWake m.instance m.wake_came) (WakeComes (take (i + 1) ms))
  wake_comes t k = one_next (λ (y : Move). (y.instance ≡ k) × (y.wake_came ≡ Some t))

  pub entered_next : (a b c : Noted) → HasEntered (take i ms) a b → HasNoted m.instance m.came m.wake_came b c → HasEntered (take (i + 1) ms) a c
  entered_next a b c h n = record {
    long = n.long ∙ h.long;
    senses = with_more (ComesTo (take i ms)) (OfSignal m.instance m.came) (ComesTo (take (i + 1) ms)) (Senses a.index) (Senses b.index) (Senses c.index) comes h.senses n.senses;
    wakes = with_more (WakeComes (take i ms)) (OfWake m.instance m.wake_came) (WakeComes (take (i + 1) ms)) (IsNoted a.wakes) (IsNoted b.wakes) (IsNoted c.wakes) wake_comes h.wakes n.wakes;
  }

  pub entered_some : (a b c : Noted) → HasEntered (take i ms) a b → HasNotedSome m.instance m.came m.wake_came b c → HasEnteredSome (take (i + 1) ms) a c
  entered_some a b c h n = record {
    long = n.long ∙ h.long;
    senses = with_some (ComesTo (take i ms)) (OfSignal m.instance m.came) (ComesTo (take (i + 1) ms)) (Senses a.index) (Senses b.index)
        (Senses c.index) (λ s k p. (comes s k).1 (inl p)) (λ s k q. (comes s k).1 (inr q)) h.senses n.senses;
    wakes = with_some (WakeComes (take i ms)) (OfWake m.instance m.wake_came) (WakeComes (take (i + 1) ms)) (IsNoted a.wakes) (IsNoted b.wakes)
        (IsNoted c.wakes) (λ t k p. (wake_comes t k).1 (inl p)) (λ t k q. (wake_comes t k).1 (inr q)) h.wakes n.wakes;
  }

-- all moves
module _ (ms : List Move) (i : ℕ) (a b : Noted) (l : length ms ≤ i) where
  all : take i ms ≡ ms
  all = take_all i ms l

  pub entered_all : HasEntered (take i ms) a b → HasEntered ms a b
  entered_all h = let P : List Move → Type 0 = λ xs. HasEntered xs a b in subst P all h

-- none of the moves yet, from the last one on
pub left_begin : (a : Noted) (seen : List Move) → seen ≡ [] → HasLeft seen a a
left_begin a seen e = let P : List Move → Type 0 = λ xs. HasLeft xs a a in subst P (sym e) (left_none a)

pub taken_begin : (a : Noted) (seen : List Move) → seen ≡ [] → HasTakenBack seen a a
taken_begin a seen e = let P : List Move → Type 0 = λ xs. HasTakenBack xs a a in subst P (sym e) (taken_none a)

pub drop_back : (ms : List Move) (i : ℕ) (m : Move) → 0 < i → i ≤ length ms → m ≡ get_or ms (i - 1) m → drop (i - 1) ms ≡ m ∷ drop i ms
drop_back ms i m p l e =
    let q : i - 1 + 1 ≡ i = omega arith in
    drop_more ms (i - 1) m (omega arith) ∙ ap (λ (y : Move). y ∷ drop (i - 1 + 1) ms) (sym e) ∙ ap (λ (j : ℕ). m ∷ drop j ms) q

-- the move before them
module _ (m : Move) (seen after : List Move) (e : after ≡ m ∷ seen) where
  one_before : (P : Move → Type 0) → OneMove P after ↔ (OneMove P seen ⊎ P m)
  one_before P =
      let Q : List Move → Type 0 = λ ys. OneMove P ys ↔ (OneMove P seen ⊎ P m) in
      subst Q (sym e) (λ h. elim h [ inl p ↦ inr p | inr o ↦ inl o ], λ h. elim h [ inl o ↦ inr o | inr p ↦ inl p ])

  comes_before : IsEither (ComesTo seen) (OfSignal m.instance m.came) (ComesTo after)
  comes_before s k = one_before (λ (y : Move). (y.instance ≡ k) × IsOneOf s y.came)

  wake_comes_before : IsEither (WakeComes seen) (OfWake m.instance m.wake_came) (WakeComes after)
  wake_comes_before t k = one_before (λ (y : Move). (y.instance ≡ k) × (y.wake_came ≡ Some t))

  goes_before : IsEither (GoesFrom seen) (OfSignal m.instance m.gone) (GoesFrom after)
  goes_before s k = one_before (λ (y : Move). (y.instance ≡ k) × IsOneOf s y.gone)

  wake_goes_before : IsEither (WakeGoes seen) (OfWake m.instance m.wake_gone) (WakeGoes after)
  wake_goes_before t k = one_before (λ (y : Move). (y.instance ≡ k) × (y.wake_gone ≡ Some t))

  pub left_before : (a b c : Noted) → HasLeft seen a b → HasForgotten m.instance m.gone m.wake_gone b c → HasLeft after a c
  left_before a b c h n = record {
    long = n.long ∙ h.long;
    senses = without_more (GoesFrom seen) (OfSignal m.instance m.gone) (GoesFrom after) (Senses a.index) (Senses b.index) (Senses c.index) goes_before h.senses n.senses;
    wakes = without_more (WakeGoes seen) (OfWake m.instance m.wake_gone) (WakeGoes after) (IsNoted a.wakes) (IsNoted b.wakes) (IsNoted c.wakes) wake_goes_before h.wakes n.wakes;
  }

  pub taken_before : (a b c : Noted) → HasTakenBack seen a b → HasForgotten m.instance m.came m.wake_came b c → HasTakenBack after a c
  taken_before a b c h n = record {
    long = n.long ∙ h.long;
    senses = without_more (ComesTo seen) (OfSignal m.instance m.came) (ComesTo after) (Senses a.index) (Senses b.index) (Senses c.index) comes_before h.senses n.senses;
    wakes = without_more (WakeComes seen) (OfWake m.instance m.wake_came) (WakeComes after) (IsNoted a.wakes) (IsNoted b.wakes) (IsNoted c.wakes) wake_comes_before h.wakes n.wakes;
  }

-- all of them
module _ (ms : List Move) (i : ℕ) (a b : Noted) (l : i ≤ 0) where
  whole : drop i ms ≡ ms
  whole = let e : i ≡ 0 = omega (arith, l) in ap (λ (j : ℕ). drop j ms) e

  pub left_whole : HasLeft (drop i ms) a b → HasLeft ms a b
  left_whole h = let P : List Move → Type 0 = λ xs. HasLeft xs a b in subst P whole h

  pub taken_whole : HasTakenBack (drop i ms) a b → HasTakenBack ms a b
  taken_whole h = let P : List Move → Type 0 = λ xs. HasTakenBack xs a b in subst P whole h

-- what was entered and is taken back
pub some_entered : (ms : List Move) (a b : Noted) → HasEntered ms a b → HasEnteredSome ms a b
some_entered ms a b h = record {
  long = h.long;
  senses = some_of_all (ComesTo ms) (ComesTo ms) (Senses a.index) (Senses b.index) (λ s k p. p) h.senses;
  wakes = some_of_all (WakeComes ms) (WakeComes ms) (IsNoted a.wakes) (IsNoted b.wakes) (λ t k p. p) h.wakes;
}

pub back_again : (ms : List Move) (before a b : Noted) → AreFresh ms before → HasEnteredSome ms before a → HasTakenBack ms a b → IsSameNoted before b
back_again ms before a b f h t = record {
  long = t.long ∙ h.long;
  senses = taken_back (ComesTo ms) (Senses before.index) (Senses a.index) (Senses b.index) f.senses h.senses t.senses;
  wakes = taken_back (WakeComes ms) (IsNoted before.wakes) (IsNoted a.wakes) (IsNoted b.wakes) f.wakes h.wakes t.wakes;
}

-- the signals of a move are those of the index
pub came_known : (ss : List Signal) (ms : List Move) (i : ℕ) (m : Move) (n w : ℕ) → i < length ms → m ≡ get_or ms i m → n ≡ length ss → w ≡ n → MovesKnown ss ms → (s : ℕ) → IsOneOf s m.came → s < w
came_known ss ms i m n w l e p q k s h = let b : s < length ss = (known_at ss ms i m l e k).0 s h in omega arith

pub gone_known : (ss : List Signal) (ms : List Move) (i : ℕ) (m : Move) (n w : ℕ) → i < length ms → m ≡ get_or ms i m → n ≡ length ss → w ≡ n → MovesKnown ss ms → (s : ℕ) → IsOneOf s m.gone → s < w
gone_known ss ms i m n w l e p q k s h = let b : s < length ss = (known_at ss ms i m l e k).1 s h in omega arith
