-- What is noted stays exact: what activations come to is entered, what they go from is left, and then it is that of the states after them.
use Rattle.std.proofs.Common.{arith, ◌≡◌, ℕ, zero, suc, ◌+◌, ◌<◌, ◌≤◌, List, [], ◌∷◌, length, map, Option, Some, None, refl, ap, sym, ◌∙◌, subst, ◌⊎◌, inl, inr, true≢false}
use Rattle.std.specs.Prelude.{◌↔◌, slice_get, slice_set}
use Rattle.std.specs.Ordering.{is_eq}
use Rattle.std.proofs.lemmas.Bool.{cases_lt, cases_eq, cases_Bool}
use Rattle.std.proofs.lemmas.Cmp.{tied_itself}
use Rattle.std.proofs.lemmas.Option.{slice_get_within}
use Rattle.lh_time.specs.declared.Instant.{Instant}
use Rattle.lh_time.proofs.OrderLemmas.{instant_cmp_total}
use Rattle.lh_types.specs.Types.{bit_count}
use Rattle.lh_types.specs.declared.part.Range.{Range}
use Rattle.lh_unit.specs.Arena.{Arena}
use Rattle.lh_unit.specs.World.{bit_numbers}
use Rattle.lh_time.specs.Order.{instant_eq}
use Rattle.lh_unit.specs.Within.{Each}
use Rattle.lh_unit.proofs.Lists.{Each-get}
use Rattle.lh_eval.specs.declared.instance.Instance.{Instance}
use Rattle.lh_kernel_wakes.specs.Rising.{IsOneOf, AreAbove, IsRising}
use Rattle.lh_kernel_wakes.specs.Sensed.{Senses}
use Rattle.lh_kernel_wakes.specs.Waking.{IsNoted}
use Rattle.lh_design.specs.declared.Signal.{Signal}
use Rattle.lh_queue.proofs.Entries.{at_one}
use Rattle.lh_kernel_changes.specs.Touched.{Touches, SignalHasBit}
use Rattle.lh_elab.specs.Probed.{probed_by, AreProbes}
use Rattle.lh_kernel_states.specs.declared.state.InstState.{InstState}
use Rattle.lh_kernel_states.specs.States.{parts_sensed, wake_kept}
use Rattle.lh_kernel_states.proofs.InstanceStates.{senses-within}
use Rattle.lh_kernel.specs.declared.noted.Noted.{Noted}
use Rattle.lh_kernel.specs.declared.noted.Move.{Move}
use Rattle.lh_kernel.specs.declared.run.Activation.{Activation}
use Rattle.lh_kernel.specs.States.{StatesFit, SensesSignal, WakesItself}
use Rattle.lh_kernel.specs.Noted.{IsNotedFor}
use Rattle.lh_kernel.specs.Ran.{ActOfOne, states_after}
use Rattle.lh_kernel.specs.Moves.{IsMoveOf, EachMoves, AreMoves, OneMove, ComesTo, GoesFrom, WakeComes, WakeGoes, SensesFit, AreFresh, HasEntered, HasLeft}
use Rattle.lh_kernel.proofs.Places.{are_within, fit_at, probed_at}
use Rattle.lh_kernel.proofs.Relations.{with_same, without_same}

-- what is known or is not
instant_or : (t u : Instant) → (t ≡ u) ⊎ (t ≡ u → ⊥)
instant_or t u = elim (cases_Bool (instant_eq t u)) [
  | inl e ↦ inl (at_one t u e)
  | inr e ↦ inr (λ q. true≢false (sym (ap is_eq (tied_itself instant_cmp_total t)) ∙ ap (λ (x : Instant). instant_eq t x) q ∙ e))
]

wake_or : (o : Option Instant) (t : Instant) → (o ≡ Some t) ⊎ (o ≡ Some t → ⊥)
wake_or None t = inr none
  where
    none : None ≡ Some t → ⊥
    none e = cc
wake_or (Some u) t = elim (instant_or u t) [ inl e ↦ inl (ap (λ (x : Instant). Some x) e) | inr d ↦ inr (λ e. d (same e)) ]
  where
    same : Some u ≡ Some t → u ≡ t
    same e = cc

bit_or_not : (ss : List Signal) (k b : ℕ) → SignalHasBit ss k b ⊎ (SignalHasBit ss k b → ⊥)
bit_or_not [] zero b = inr (λ h. h)
bit_or_not [] (suc k) b = inr (λ h. h)
bit_or_not (s ∷ ss) zero b = elim (cases_lt b s.lo) [
  | inl l ↦ inr (λ h. omega (arith, h.0))
  | inr l ↦ elim (cases_lt b (s.lo + bit_count s.ty)) [ inl m ↦ inl (l, m) | inr m ↦ inr (λ h. omega (arith, h.1)) ]
]
bit_or_not (s ∷ ss) (suc k) b = bit_or_not ss k b

touches_or : (ss : List Signal) (bits : List ℕ) (k : ℕ) → Touches ss bits k ⊎ (Touches ss bits k → ⊥)
touches_or ss [] k = inr (λ t. t.among)
touches_or ss (b ∷ bits) k = elim (bit_or_not ss k b) [
  | inl h ↦ inl (record { bit = b; among = inl refl; has = h })
  | inr n ↦ elim (touches_or ss bits k) [
    | inl t ↦ inl (record { bit = t.bit; among = inr t.among; has = t.has })
    | inr m ↦ inr (λ t. neither n m t.bit t.among t.has)
  ]
]
  where
    neither : (SignalHasBit ss k b → ⊥) → (Touches ss bits k → ⊥) → (x : ℕ) → IsOneOf x (b ∷ bits) → SignalHasBit ss k x → ⊥
    neither n m x (inl p) h = n (let P : ℕ → Type 0 = SignalHasBit ss k in subst P (sym p) h)
    neither n m x (inr g) h = m (record { bit = x; among = g; has = h })

flip : {P Q : Type 0} → (P ↔ Q) → (Q ↔ P)
flip e = (e.1, e.0)

-- what came beside what was, and without what went
exact : {New Old Came Gone N N1 N2 : Type 0} → (Came ↔ (New × ¬ Old)) → (Gone ↔ (Old × ¬ New)) → (N ↔ Old) → (N1 ↔ (Came ⊎ N)) → (N2 ↔ (N1 × ¬ Gone)) → New ⊎ ¬ New → Old ⊎ ¬ Old → N2 ↔ New
exact {New} {Old} {Came} {Gone} {N} {N1} {N2} c g n n1 n2 new old = (there, back)
  where
    there : N2 → New
    there h = elim (n1.0 (n2.0 h).0) [
      | inl q ↦ (c.0 q).0
      | inr q ↦ elim new [ inl w ↦ w | inr d ↦ absurd ((n2.0 h).1 (g.1 (n.0 q, d))) ]
    ]

    back : New → N2
    back w = elim old [
      | inl o ↦ n2.1 (n1.1 (inr (n.1 o)), λ q. (g.0 q).1 w)
      | inr d ↦ n2.1 (n1.1 (inl (c.1 (w, d))), λ q. (g.0 q).1 w)
    ]

-- a list with one item set
get_same : (ss : List InstState) (k : ℕ) (s : InstState) → k < length ss → slice_get (slice_set ss k s) k ≡ Some s
get_same [] k s l = absurd (omega arith)
get_same (x ∷ ss) zero s l = refl
get_same (x ∷ ss) (suc k) s l = get_same ss k s (omega arith)

get_other : (ss : List InstState) (j k : ℕ) (s : InstState) → (j ≡ k → ⊥) → slice_get (slice_set ss j s) k ≡ slice_get ss k
get_other [] j k s n = refl
get_other (x ∷ ss) zero zero s n = absurd (n refl)
get_other (x ∷ ss) zero (suc k) s n = refl
get_other (x ∷ ss) (suc j) zero s n = refl
get_other (x ∷ ss) (suc j) (suc k) s n = get_other ss j k s (λ e. n (ap suc e))

set_long : (ss : List InstState) (k : ℕ) (s : InstState) → length (slice_set ss k s) ≡ length ss
set_long [] k s = refl
set_long (x ∷ ss) zero s = refl
set_long (x ∷ ss) (suc k) s = ap suc (set_long ss k s)

abbrev number_of : Activation → ℕ
number_of x = x.instance

after_else : (k : ℕ) (ss : List InstState) (xs : List Activation) → AreAbove k (map number_of xs) → slice_get (states_after ss xs) k ≡ slice_get ss k
after_else k ss [] a = refl
after_else k ss (x ∷ xs) a = let l : k < x.instance = a.0 in after_else k (slice_set ss x.instance x.act.next) xs a.1 ∙ get_other ss x.instance k x.act.next (λ e. omega arith)

one_of : (P Q : Move → Type 0) (ms : List Move) → ((m : Move) → P m → Q m) → OneMove P ms → OneMove Q ms
one_of P Q [] f h = h
one_of P Q (m ∷ ms) f (inl p) = inl (f m p)
one_of P Q (m ∷ ms) f (inr h) = inr (one_of P Q ms f h)

-- of an instance: it was activated, and moved so
pub record Acted (signals : List Signal) (probes : List (List Range)) (states from : List InstState) (acts : List Activation) (ms : List Move) (k : ℕ) : Type 0 where
  pub act : Activation
  pub move : Move
  pub at : act.instance ≡ k
  pub moved : IsMoveOf signals probes states act move
  pub after : slice_get (states_after from acts) k ≡ Some act.act.next
  pub comes : (s : ℕ) → ComesTo ms s k ↔ IsOneOf s move.came
  pub goes : (s : ℕ) → GoesFrom ms s k ↔ IsOneOf s move.gone
  pub wake_comes : (t : Instant) → WakeComes ms t k ↔ (move.wake_came ≡ Some t)
  pub wake_goes : (t : Instant) → WakeGoes ms t k ↔ (move.wake_gone ≡ Some t)

-- or it was not
pub record Rested (from : List InstState) (acts : List Activation) (ms : List Move) (k : ℕ) : Type 0 where
  pub after : slice_get (states_after from acts) k ≡ slice_get from k
  pub none : OneMove (λ (m : Move). m.instance ≡ k) ms → ⊥

module _ (signals : List Signal) (probes : List (List Range)) (states : List InstState) where
  later_none : (j : ℕ) (xs : List Activation) (ms : List Move) → EachMoves signals probes states xs ms → AreAbove j (map number_of xs) → OneMove (λ (m : Move). m.instance ≡ j) ms → ⊥
  later_none j [] [] h a o = o
  later_none j [] (m ∷ ms) h a o = h
  later_none j (x ∷ xs) [] h a o = h
  later_none j (x ∷ xs) (m ∷ ms) h a (inl p) = let l : j < x.instance = a.0 in omega (arith, p, h.0.moves.instance)
  later_none j (x ∷ xs) (m ∷ ms) h a (inr o) = later_none j xs ms h.1 a.1 o

  -- the first move alone, and all but the first
  first_only : (Q : Move → Type 0) (j : ℕ) (m : Move) (ms : List Move) → m.instance ≡ j → (OneMove (λ (x : Move). x.instance ≡ j) ms → ⊥) →
      OneMove (λ (x : Move). (x.instance ≡ j) × Q x) (m ∷ ms) ↔ Q m
  first_only Q j m ms e n = (there, λ q. inl (e, q))
    where
      there : OneMove (λ (x : Move). (x.instance ≡ j) × Q x) (m ∷ ms) → Q m
      there (inl p) = p.1
      there (inr o) = absurd (n (one_of (λ (x : Move). (x.instance ≡ j) × Q x) (λ (x : Move). x.instance ≡ j) ms (λ x p. p.0) o))

  others_only : (Q : Move → Type 0) (j : ℕ) (m : Move) (ms : List Move) (R : Type 0) → (m.instance ≡ j → ⊥) →
      (OneMove (λ (x : Move). (x.instance ≡ j) × Q x) ms ↔ R) → OneMove (λ (x : Move). (x.instance ≡ j) × Q x) (m ∷ ms) ↔ R
  others_only Q j m ms R d r = (there, λ q. inr (r.1 q))
    where
      there : OneMove (λ (x : Move). (x.instance ≡ j) × Q x) (m ∷ ms) → R
      there (inl p) = absurd (d p.0)
      there (inr o) = r.0 o

  pub acted_or : (from : List InstState) (xs : List Activation) (ms : List Move) (k : ℕ) → length from ≡ length states →
      EachMoves signals probes states xs ms → IsRising (map number_of xs) → Acted signals probes states from xs ms k ⊎ Rested from xs ms k
  acted_or from [] [] k l h r = inr (record { after = refl; none = λ o. o })
  acted_or from [] (m ∷ ms) k l h r = absurd h
  acted_or from (x ∷ xs) [] k l h r = absurd h
  acted_or from (x ∷ xs) (m ∷ ms) k l h r = elim (cases_eq x.instance k) [
    | inl e ↦ inl (here e)
    | inr d ↦ elim (acted_or (slice_set from x.instance x.act.next) xs ms k (set_long from x.instance x.act.next ∙ l) h.1 r.1) [ inl a ↦ inl (on a d) | inr a ↦ inr (past a d) ]
  ]
    where
      below : x.instance < length from
      below = let w : x.instance < length states = slice_get_within states x.instance h.0.state h.0.is_kept in omega arith

      here : x.instance ≡ k → Acted signals probes states from (x ∷ xs) (m ∷ ms) k
      here e =
          let i : m.instance ≡ k = h.0.moves.instance ∙ e in
          let P : ℕ → Type 0 = λ j. AreAbove j (map number_of xs) in
          let n : OneMove (λ (y : Move). y.instance ≡ k) ms → ⊥ = later_none k xs ms h.1 (subst P e r.0) in
          let Q : ℕ → Type 0 = λ j. slice_get (states_after (slice_set from x.instance x.act.next) xs) j ≡ Some x.act.next in
          record {
            act = x;
            move = m;
            at = e;
            moved = h.0;
            after = subst Q e (after_else x.instance (slice_set from x.instance x.act.next) xs r.0 ∙ get_same from x.instance x.act.next below);
            comes = λ s. first_only (λ (y : Move). IsOneOf s y.came) k m ms i n;
            goes = λ s. first_only (λ (y : Move). IsOneOf s y.gone) k m ms i n;
            wake_comes = λ t. first_only (λ (y : Move). y.wake_came ≡ Some t) k m ms i n;
            wake_goes = λ t. first_only (λ (y : Move). y.wake_gone ≡ Some t) k m ms i n;
          }

      on : Acted signals probes states (slice_set from x.instance x.act.next) xs ms k → (x.instance ≡ k → ⊥) → Acted signals probes states from (x ∷ xs) (m ∷ ms) k
      on a d =
          let n : m.instance ≡ k → ⊥ = λ e. d (sym h.0.moves.instance ∙ e) in
          record {
            act = a.act;
            move = a.move;
            at = a.at;
            moved = a.moved;
            after = a.after;
            comes = λ s. others_only (λ (y : Move). IsOneOf s y.came) k m ms (IsOneOf s a.move.came) n (a.comes s);
            goes = λ s. others_only (λ (y : Move). IsOneOf s y.gone) k m ms (IsOneOf s a.move.gone) n (a.goes s);
            wake_comes = λ t. others_only (λ (y : Move). y.wake_came ≡ Some t) k m ms (a.move.wake_came ≡ Some t) n (a.wake_comes t);
            wake_goes = λ t. others_only (λ (y : Move). y.wake_gone ≡ Some t) k m ms (a.move.wake_gone ≡ Some t) n (a.wake_goes t);
          }

      past : Rested (slice_set from x.instance x.act.next) xs ms k → (x.instance ≡ k → ⊥) → Rested from (x ∷ xs) (m ∷ ms) k
      past a d = record { after = a.after ∙ get_other from x.instance k x.act.next d; none = never }
        where
          never : OneMove (λ (y : Move). y.instance ≡ k) (m ∷ ms) → ⊥
          never (inl p) = d (sym h.0.moves.instance ∙ p)
          never (inr o) = a.none o

-- an instance that probes this
pub record Probes (a : Arena) (is : List Instance) (k : ℕ) (rs : List Range) : Type 0 where
  pub instance : Instance
  pub is_one : slice_get is k ≡ Some instance
  pub probed : rs ≡ probed_by a instance

pub map_back : (a : Arena) (is : List Instance) (k : ℕ) (rs : List Range) → slice_get (map (probed_by a) is) k ≡ Some rs → Probes a is k rs
map_back a [] k rs e = absurd (none e)
  where
    none : None ≡ Some rs → ⊥
    none q = cc
map_back a (i ∷ is) zero rs e = let p : rs ≡ probed_by a i = cc in record { instance = i; is_one = refl; probed = p }
map_back a (i ∷ is) (suc k) rs e = let r = map_back a is k rs e in record { instance = r.instance; is_one = r.is_one; probed = r.probed }

module _ (a : Arena) (is : List Instance) (signals : List Signal) (ss : List InstState) (ps : List (List Range)) where
  probes_back : AreProbes a is ps → (k : ℕ) (rs : List Range) → slice_get ps k ≡ Some rs → Probes a is k rs
  probes_back p k rs e = map_back a is k rs (sym (ap (λ (xs : List (List Range)). slice_get xs k) p) ∙ e)

  -- what a state senses, and when it wakes
  senses_by : (xs : List InstState) (k s : ℕ) (st : InstState) (rs : List Range) → Probes a is k rs → slice_get xs k ≡ Some st →
      SensesSignal a is signals xs s k ↔ Touches signals (bit_numbers (parts_sensed st rs)) s
  senses_by xs k s st rs p e = (there, back)
    where
      there : SensesSignal a is signals xs s k → Touches signals (bit_numbers (parts_sensed st rs)) s
      there w =
          let f : Some w.instance ≡ Some p.instance = sym w.is ∙ p.is_one in
          let g : Some w.state ≡ Some st = sym w.stands ∙ e in
          let u : w.instance ≡ p.instance = cc in
          let v : w.state ≡ st = cc in
          let P : Instance → Type 0 = λ i. Touches signals (bit_numbers (parts_sensed w.state (probed_by a i))) s in
          let Q : InstState → Type 0 = λ x. Touches signals (bit_numbers (parts_sensed x (probed_by a p.instance))) s in
          let R : List Range → Type 0 = λ x. Touches signals (bit_numbers (parts_sensed st x)) s in
          subst R (sym p.probed) (subst Q v (subst P u w.touches))

      back : Touches signals (bit_numbers (parts_sensed st rs)) s → SensesSignal a is signals xs s k
      back t = let R : List Range → Type 0 = λ x. Touches signals (bit_numbers (parts_sensed st x)) s in
          record { instance = p.instance; state = st; is = p.is_one; stands = e; touches = subst R p.probed t }

  wakes_by : (xs : List InstState) (k : ℕ) (t : Instant) (st : InstState) → slice_get xs k ≡ Some st → WakesItself xs t k ↔ (wake_kept st ≡ Some t)
  wakes_by xs k t st e = (there, λ w. record { state = st; stands = e; wakes = w })
    where
      there : WakesItself xs t k → wake_kept st ≡ Some t
      there w = let g : Some w.state ≡ Some st = sym w.stands ∙ e in let v : w.state ≡ st = cc in sym (ap wake_kept v) ∙ w.wakes

  -- where the states of an instance are the same
  senses_same : (xs ys : List InstState) (k s : ℕ) → slice_get xs k ≡ slice_get ys k → SensesSignal a is signals xs s k → SensesSignal a is signals ys s k
  senses_same xs ys k s e w = record { instance = w.instance; state = w.state; is = w.is; stands = sym e ∙ w.stands; touches = w.touches }

  wakes_same : (xs ys : List InstState) (k : ℕ) (t : Instant) → slice_get xs k ≡ slice_get ys k → WakesItself xs t k → WakesItself ys t k
  wakes_same xs ys k t e w = record { state = w.state; stands = sym e ∙ w.stands; wakes = w.wakes }

  -- what moves come to was not noted
  fresh_each : (n : Noted) (acts : List Activation) (ms : List Move) → IsNotedFor a is signals ss n → AreProbes a is ps → EachMoves signals ps ss acts ms → AreFresh ms n
  fresh_each n acts ms noted probed moves = record { senses = λ s k h g. apart acts ms moves s k h ((noted.senses s k).0 g); wakes = λ t k h g. awake acts ms moves t k h ((noted.wakes t k).0 g) }
    where
      apart : (xs : List Activation) (ns : List Move) → EachMoves signals ps ss xs ns → (s k : ℕ) → ComesTo ns s k → SensesSignal a is signals ss s k → ⊥
      apart [] [] h s k o w = o
      apart [] (m ∷ ns) h s k o w = h
      apart (x ∷ xs) [] h s k o w = h
      apart (x ∷ xs) (m ∷ ns) h s k (inl p) w =
          let e : x.instance ≡ k = sym h.0.moves.instance ∙ p.0 in
          let P : ℕ → Type 0 = λ j. SensesSignal a is signals ss s j in
          let b = probes_back probed x.instance h.0.probed h.0.is_probed in
          ((h.0.moves.came s).0 p.1).1 ((senses_by ss x.instance s h.0.state h.0.probed b h.0.is_kept).0 (subst P (sym e) w))
      apart (x ∷ xs) (m ∷ ns) h s k (inr o) w = apart xs ns h.1 s k o w

      awake : (xs : List Activation) (ns : List Move) → EachMoves signals ps ss xs ns → (t : Instant) (k : ℕ) → WakeComes ns t k → WakesItself ss t k → ⊥
      awake [] [] h t k o w = o
      awake [] (m ∷ ns) h t k o w = h
      awake (x ∷ xs) [] h t k o w = h
      awake (x ∷ xs) (m ∷ ns) h t k (inl p) w =
          let e : x.instance ≡ k = sym h.0.moves.instance ∙ p.0 in
          let P : ℕ → Type 0 = λ j. WakesItself ss t j in
          ((h.0.moves.wake_came t).0 p.1).1 ((wakes_by ss x.instance t h.0.state h.0.is_kept).0 (subst P (sym e) w))
      awake (x ∷ xs) (m ∷ ns) h t k (inr o) w = awake xs ns h.1 t k o w

  module _ (n n1 n2 : Noted) (acts : List Activation) (ms : List Move) (noted : IsNotedFor a is signals ss n) (probed : AreProbes a is ps)
      (moves : EachMoves signals ps ss acts ms) (entered : HasEntered ms n n1) (left : HasLeft ms n1 n2) where
    -- of an instance that was activated
    acted_senses : (s k : ℕ) → Acted signals ps ss ss acts ms k → Senses n2.index s k ↔ SensesSignal a is signals (states_after ss acts) s k
    acted_senses s k d =
        let g = d.moved in
        let P : ℕ → Type 0 = λ j. slice_get ps j ≡ Some g.probed in
        let Q : ℕ → Type 0 = λ j. slice_get ss j ≡ Some g.state in
        let b = probes_back probed k g.probed (subst P d.at g.is_probed) in
        let old = senses_by ss k s g.state g.probed b (subst Q d.at g.is_kept) in
        let new = senses_by (states_after ss acts) k s d.act.act.next g.probed b d.after in
        let e = exact {New = Touches signals (bit_numbers (parts_sensed d.act.act.next g.probed)) s}
        {Old = Touches signals (bit_numbers (parts_sensed g.state g.probed)) s} {Came = ComesTo ms s k} {Gone = GoesFrom ms s k}
        {N = Senses n.index s k} {N1 = Senses n1.index s k} {N2 = Senses n2.index s k}
        (λ h. (g.moves.came s).0 ((d.comes s).0 h), λ h. (d.comes s).1 ((g.moves.came s).1 h)) (λ h. (g.moves.gone s).0 ((d.goes s).0 h), λ h. (d.goes s).1 ((g.moves.gone s).1 h))
        (λ h. old.0 ((noted.senses s k).0 h), λ h. (noted.senses s k).1 (old.1 h)) (entered.senses s k) (left.senses s k)
        (touches_or signals (bit_numbers (parts_sensed d.act.act.next g.probed)) s) (touches_or signals (bit_numbers (parts_sensed g.state g.probed)) s) in
        (λ h. new.1 (e.0 h), λ h. e.1 (new.0 h))

    acted_wakes : (t : Instant) (k : ℕ) → Acted signals ps ss ss acts ms k → IsNoted n2.wakes t k ↔ WakesItself (states_after ss acts) t k
    acted_wakes t k d =
        let g = d.moved in
        let Q : ℕ → Type 0 = λ j. slice_get ss j ≡ Some g.state in
        let old = wakes_by ss k t g.state (subst Q d.at g.is_kept) in
        let new = wakes_by (states_after ss acts) k t d.act.act.next d.after in
        let e = exact {New = wake_kept d.act.act.next ≡ Some t} {Old = wake_kept g.state ≡ Some t} {Came = WakeComes ms t k} {Gone = WakeGoes ms t k}
        {N = IsNoted n.wakes t k} {N1 = IsNoted n1.wakes t k} {N2 = IsNoted n2.wakes t k}
        (λ h. (g.moves.wake_came t).0 ((d.wake_comes t).0 h), λ h. (d.wake_comes t).1 ((g.moves.wake_came t).1 h))
        (λ h. (g.moves.wake_gone t).0 ((d.wake_goes t).0 h), λ h. (d.wake_goes t).1 ((g.moves.wake_gone t).1 h))
        (λ h. old.0 ((noted.wakes t k).0 h), λ h. (noted.wakes t k).1 (old.1 h)) (entered.wakes t k) (left.wakes t k) (wake_or (wake_kept d.act.act.next) t) (wake_or (wake_kept g.state) t) in
        (λ h. new.1 (e.0 h), λ h. e.1 (new.0 h))

    -- of one that was not
    rested_senses : (s k : ℕ) → Rested ss acts ms k → Senses n2.index s k ↔ SensesSignal a is signals (states_after ss acts) s k
    rested_senses s k r =
        let no_came : ComesTo ms s k → ⊥ = λ h. r.none (one_of (λ (m : Move). (m.instance ≡ k) × IsOneOf s m.came) (λ (m : Move). m.instance ≡ k) ms (λ m p. p.0) h) in
        let no_gone : GoesFrom ms s k → ⊥ = λ h. r.none (one_of (λ (m : Move). (m.instance ≡ k) × IsOneOf s m.gone) (λ (m : Move). m.instance ≡ k) ms (λ m p. p.0) h) in (
          λ h. elim ((entered.senses s k).0 ((left.senses s k).0 h).0) [ inl c ↦ absurd (no_came c) | inr o ↦ senses_same ss (states_after ss acts) k s (sym r.after) ((noted.senses s k).0 o) ],
          λ h. (left.senses s k).1 ((entered.senses s k).1 (inr ((noted.senses s k).1 (senses_same (states_after ss acts) ss k s r.after h))), no_gone),
        )

    rested_wakes : (t : Instant) (k : ℕ) → Rested ss acts ms k → IsNoted n2.wakes t k ↔ WakesItself (states_after ss acts) t k
    rested_wakes t k r =
        let no_came : WakeComes ms t k → ⊥ = λ h. r.none (one_of (λ (m : Move). (m.instance ≡ k) × (m.wake_came ≡ Some t)) (λ (m : Move). m.instance ≡ k) ms (λ m p. p.0) h) in
        let no_gone : WakeGoes ms t k → ⊥ = λ h. r.none (one_of (λ (m : Move). (m.instance ≡ k) × (m.wake_gone ≡ Some t)) (λ (m : Move). m.instance ≡ k) ms (λ m p. p.0) h) in (
          λ h. elim ((entered.wakes t k).0 ((left.wakes t k).0 h).0) [ inl c ↦ absurd (no_came c) | inr o ↦ wakes_same ss (states_after ss acts) k t (sym r.after) ((noted.wakes t k).0 o) ],
          λ h. (left.wakes t k).1 ((entered.wakes t k).1 (inr ((noted.wakes t k).1 (wakes_same (states_after ss acts) ss k t r.after h))), no_gone),
        )

    -- what is noted then is exactly that of the states after the activations
    noted_each : IsRising (map (λ (x : Activation). x.instance) acts) → IsNotedFor a is signals (states_after ss acts) n2
    noted_each rising = record {
      long = left.long ∙ entered.long ∙ noted.long;
      senses = λ s k. elim (acted_or signals ps ss ss acts ms k refl moves rising) [ inl d ↦ acted_senses s k d | inr r ↦ rested_senses s k r ];
      wakes = λ t k. elim (acted_or signals ps ss ss acts ms k refl moves rising) [ inl d ↦ acted_wakes t k d | inr r ↦ rested_wakes t k r ];
    }

-- the same where some by which nothing comes or goes are left out
pub fresh_moves : (a : Arena) (is : List Instance) (signals : List Signal) (ss : List InstState) (ps : List (List Range)) (n : Noted)
    (acts : List Activation) (ms : List Move) → IsNotedFor a is signals ss n → AreProbes a is ps → AreMoves signals ps ss acts ms → AreFresh ms n
fresh_moves a is signals ss ps n acts ms noted probed moves =
    let f = fresh_each a is signals ss ps n acts moves.all noted probed moves.each in
    record { senses = λ s k h. f.senses s k ((moves.same.comes s k).1 h); wakes = λ t k h. f.wakes t k ((moves.same.wake_comes t k).1 h) }

pub noted_after : (a : Arena) (is : List Instance) (signals : List Signal) (ss : List InstState) (ps : List (List Range)) (n n1 n2 : Noted)
    (acts : List Activation) (ms : List Move) → IsNotedFor a is signals ss n → AreProbes a is ps → AreMoves signals ps ss acts ms →
    HasEntered ms n n1 → HasLeft ms n1 n2 → IsRising (map (λ (x : Activation). x.instance) acts) → IsNotedFor a is signals (states_after ss acts) n2
noted_after a is signals ss ps n n1 n2 acts ms noted probed moves entered left rising =
    let all = moves.all in
    let entered_all : HasEntered all n n1 = record {
      long = entered.long;
      senses = with_same (ComesTo ms) (ComesTo all) (Senses n.index) (Senses n1.index) (λ s k. flip (moves.same.comes s k)) entered.senses;
      wakes = with_same (WakeComes ms) (WakeComes all) (IsNoted n.wakes) (IsNoted n1.wakes) (λ t k. flip (moves.same.wake_comes t k)) entered.wakes;
    } in
    let left_all : HasLeft all n1 n2 = record {
      long = left.long;
      senses = without_same (GoesFrom ms) (GoesFrom all) (Senses n1.index) (Senses n2.index) (λ s k. flip (moves.same.goes s k)) left.senses;
      wakes = without_same (WakeGoes ms) (WakeGoes all) (IsNoted n1.wakes) (IsNoted n2.wakes) (λ t k. flip (moves.same.wake_goes t k)) left.wakes;
    } in
    noted_each a is signals ss ps n n1 n2 acts all noted probed moves.each entered_all left_all rising

-- what activations sensed and will sense lies within the signals
pub senses_fit : (a : Arena) (width : ℕ) (t : Instant) (is : List Instance) (ss : List InstState) (ps : List (List Range)) (acts : List Activation) →
    StatesFit a width is ss → AreProbes a is ps → Each (λ (rs : List Range). Each (λ (r : Range). r.lo + r.len ≤ width) rs) ps →
    Each (ActOfOne a width t is) acts → Each (SensesFit width ps ss) acts
senses_fit a width t is ss ps [] fit probed within sound = tt
senses_fit a width t is ss ps (x ∷ acts) fit probed within sound =
    let i = sound.0.instance in
    let s = state_at is ss x.instance i fit sound.0.is in
    let p : slice_get ps x.instance ≡ Some (probed_by a i) = probed_at a is ps x.instance i probed sound.0.is in
    let w : Each (λ (r : Range). r.lo + r.len ≤ width) (probed_by a i) = Each-get (λ (rs : List Range). Each (λ (r : Range). r.lo + r.len ≤ width) rs) ps x.instance (probed_by a i) within p in (
      record {
        probed = probed_by a i;
        state = s.0;
        is_probed = p;
        is_kept = s.1;
        left = are_within width (parts_sensed s.0 (probed_by a i)) (senses-within a width i s.0 (probed_by a i) (fit_at a width is ss x.instance i s.0 fit sound.0.is s.1) w);
        entered = are_within width (parts_sensed x.act.next (probed_by a i)) (senses-within a width i x.act.next (probed_by a i) sound.0.sound.fits w);
      },
      senses_fit a width t is ss ps acts fit probed within sound.1,
    )
  where
    state_at : (js : List Instance) (xs : List InstState) (k : ℕ) (j : Instance) → StatesFit a width js xs → slice_get js k ≡ Some j → (s : InstState) × (slice_get xs k ≡ Some s)
    state_at [] xs k j f e = absurd (none e)
      where
        none : None ≡ Some j → ⊥
        none q = cc
    state_at (y ∷ js) [] k j f e = absurd f
    state_at (y ∷ js) (s ∷ xs) zero j f e = (s, refl)
    state_at (y ∷ js) (s ∷ xs) (suc k) j f e = state_at js xs k j f.1 e
