-- The moves of activations, one by one.
use Rattle.std.proofs.Common.{◌≡◌, ◌≢◌, ℕ, ◌+◌, ◌<◌, ◌≤◌, List, [], ◌∷◌, ◌++◌, length, get_or, take, Bool, true, false, Option, Some, None, refl, ap, sym, ◌∙◌, subst, inl, inr}
use Rattle.std.specs.Prelude.{◌↔◌, slice_get, nat_eq, ◌&&◌}
use Rattle.std.specs.Bool.{Decides}
use Rattle.std.specs.Cmp.Lexicographic.{pointwise}
use Rattle.std.proofs.lemmas.Slice.Eq.{slice_eq-Decides}
use Rattle.std.proofs.lemmas.Bool.{eq-eqb, eqb-true}
use Rattle.std.proofs.lemmas.List.{take_more, take_all}
use Rattle.std.proofs.lemmas.Option.{slice_get_within, slice_get-get_or}
use Rattle.lh_time.specs.declared.Instant.{Instant}
use Rattle.lh_types.specs.declared.part.Range.{Range}
use Rattle.lh_unit.specs.World.{bit_numbers}
use Rattle.lh_unit.specs.Within.{Each}
use Rattle.lh_unit.proofs.Lists.{Each-item}
use Rattle.lh_kernel_wakes.specs.Rising.{IsOneOf, HasOneMore}
use Rattle.lh_design.specs.declared.Signal.{Signal}
use Rattle.lh_kernel_changes.specs.Touched.{Touches, AreSignals, AreTouched, AreWithin}
use Rattle.lh_kernel_changes.proofs.Filled.{is_below}
use Rattle.lh_kernel_states.specs.declared.state.InstState.{InstState}
use Rattle.lh_kernel_states.specs.States.{parts_sensed, wake_kept}
use Rattle.lh_kernel.specs.declared.noted.Move.{Move}
use Rattle.lh_kernel.specs.declared.run.Activation.{Activation}
use Rattle.lh_kernel.specs.Moves.{IsMove, IsMoveOf, EachMoves, AreMoves, MoveTheSame, OneMove, AreBetween, SensesFit, SensesAsBefore, MovesKnown}
use Rattle.lh_kernel.proofs.NotedMoves.{one_push}
use Rattle.lh_kernel.proofs.Relations.{has_next}
use Rattle.lh_kernel.proofs.NotedInstances.{no_wake}

-- those of the first numbers of a list that are not in the other
abbrev pub LeftOver : (items those : List ℕ) → ℕ → (rest : List ℕ) → Type 0
LeftOver items those i rest = (k : ℕ) → IsOneOf k rest ↔ (IsOneOf k (take i items) × ¬ IsOneOf k those)

pub over_none : (items those rest : List ℕ) → rest ≡ [] → LeftOver items those 0 rest
over_none items those rest e k = let P : List ℕ → Type 0 = λ xs. IsOneOf k xs ↔ (IsOneOf k [] × ¬ IsOneOf k those) in subst P (sym e) (λ h. absurd h, λ h. h.0)

module _ (items those : List ℕ) (i y : ℕ) (l : i < length items) (e : y ≡ get_or items i 0) where
  pub over_more : (rest new : List ℕ) → ¬ IsOneOf y those → LeftOver items those i rest → HasOneMore rest y new → LeftOver items those (i + 1) new
  over_more rest new no_more h m k = (
    λ g. elim ((m k).0 g) [
      | inl p ↦ ((has_next k items i y l e).1 (inr (sym p)), λ q. no_more (let P : ℕ → Type 0 = λ j. IsOneOf j those in subst P p q))
      | inr o ↦ ((has_next k items i y l e).1 (inl ((h k).0 o).0), ((h k).0 o).1)
    ],
    λ g. elim ((has_next k items i y l e).0 g.0) [ inl o ↦ (m k).1 (inr ((h k).1 (o, g.1))) | inr p ↦ (m k).1 (inl (sym p)) ],
  )

  pub over_same : (rest : List ℕ) → IsOneOf y those → LeftOver items those i rest → LeftOver items those (i + 1) rest
  over_same rest there h k = (
    λ g. ((has_next k items i y l e).1 (inl ((h k).0 g).0), ((h k).0 g).1),
    λ g. elim ((has_next k items i y l e).0 g.0) [ inl o ↦ (h k).1 (o, g.1) | inr p ↦ absurd (g.1 (let P : ℕ → Type 0 = λ j. IsOneOf j those in subst P p there)) ],
  )

pub over_all : (items these those : List ℕ) (i : ℕ) (rest : List ℕ) → items ≡ these → length items ≤ i → LeftOver items those i rest → (k : ℕ) → IsOneOf k rest ↔ (IsOneOf k these × ¬ IsOneOf k those)
over_all items these those i rest e l h =
    let s : take i items ≡ these = take_all i items l ∙ e in
    let P : List ℕ → Type 0 = λ xs. (k : ℕ) → IsOneOf k rest ↔ (IsOneOf k xs × ¬ IsOneOf k those) in
    subst P s h

-- between the same parts nothing comes or goes
pub between_same : (signals : List Signal) (left entered : List Range) (came gone : List ℕ) → left ≡ entered → came ≡ [] → gone ≡ [] → AreBetween signals left entered came gone
between_same signals left entered came gone e c g =
    let P : List Range → Type 0 = λ xs. (s : ℕ) → Touches signals (bit_numbers entered) s → Touches signals (bit_numbers xs) s in
    let Q : List Range → Type 0 = λ xs. (s : ℕ) → Touches signals (bit_numbers xs) s → Touches signals (bit_numbers entered) s in
    let into : P left = subst P (sym e) (λ s t. t) in
    let out : Q left = subst Q (sym e) (λ s t. t) in
    record {
      enters = λ s. (λ h. let R : List ℕ → Type 0 = IsOneOf s in absurd (subst R c h), λ h. absurd (h.1 (into s h.0)));
      leaves = λ s. (λ h. let R : List ℕ → Type 0 = IsOneOf s in absurd (subst R g h), λ h. absurd (h.1 (out s h.0)));
    }

pub between_are : (signals : List Signal) (left entered : List Range) (before after came gone : List ℕ) →
    AreTouched signals (bit_numbers left) before → AreTouched signals (bit_numbers entered) after →
    ((k : ℕ) → IsOneOf k came ↔ (IsOneOf k after × ¬ IsOneOf k before)) → ((k : ℕ) → IsOneOf k gone ↔ (IsOneOf k before × ¬ IsOneOf k after)) → AreBetween signals left entered came gone
between_are signals left entered before after came gone b a c g = record {
  enters = λ s. (λ h. ((a s).0 ((c s).0 h).0, λ t. ((c s).0 h).1 ((b s).1 t)), λ h. (c s).1 ((a s).1 h.0, λ t. h.1 ((b s).0 t)));
  leaves = λ s. (λ h. ((b s).0 ((g s).0 h).0, λ t. ((g s).0 h).1 ((a s).1 t)), λ h. (g s).1 ((b s).1 h.0, λ t. h.1 ((a s).0 t)));
}

-- of one more in both lists, and in the first alone where it is none of these
both_push : (P : Move → Type 0) (all ms : List Move) (m : Move) → (OneMove P all ↔ OneMove P ms) → OneMove P (all ++ m ∷ []) ↔ OneMove P (ms ++ m ∷ [])
both_push P all ms m e = (
  λ h. (one_push P ms m).1 (elim ((one_push P all m).0 h) [ inl o ↦ inl (e.0 o) | inr p ↦ inr p ]),
  λ h. (one_push P all m).1 (elim ((one_push P ms m).0 h) [ inl o ↦ inl (e.1 o) | inr p ↦ inr p ]),
)

none_push : (P : Move → Type 0) (all ms : List Move) (m : Move) → ¬ P m → (OneMove P all ↔ OneMove P ms) → OneMove P (all ++ m ∷ []) ↔ OneMove P ms
none_push P all ms m n e = (λ h. elim ((one_push P all m).0 h) [ inl o ↦ e.0 o | inr p ↦ absurd (n p) ], λ h. (one_push P all m).1 (inl (e.1 h)))

same_push : (all ms : List Move) (m : Move) → MoveTheSame all ms → MoveTheSame (all ++ m ∷ []) (ms ++ m ∷ [])
same_push all ms m e = record {
  comes = λ s k. both_push (λ (n : Move). (n.instance ≡ k) × IsOneOf s n.came) all ms m (e.comes s k);
  goes = λ s k. both_push (λ (n : Move). (n.instance ≡ k) × IsOneOf s n.gone) all ms m (e.goes s k);
  wake_comes = λ t k. both_push (λ (n : Move). (n.instance ≡ k) × (n.wake_came ≡ Some t)) all ms m (e.wake_comes t k);
  wake_goes = λ t k. both_push (λ (n : Move). (n.instance ≡ k) × (n.wake_gone ≡ Some t)) all ms m (e.wake_goes t k);
}

-- the move of an instance by which nothing comes or goes
abbrev still : ℕ → Move
still k = record { instance = k; came = []; gone = []; wake_came = None; wake_gone = None }

same_still : (all ms : List Move) (j : ℕ) → MoveTheSame all ms → MoveTheSame (all ++ still j ∷ []) ms
same_still all ms j e = record {
  comes = λ s k. none_push (λ (n : Move). (n.instance ≡ k) × IsOneOf s n.came) all ms (still j) (λ h. h.1) (e.comes s k);
  goes = λ s k. none_push (λ (n : Move). (n.instance ≡ k) × IsOneOf s n.gone) all ms (still j) (λ h. h.1) (e.goes s k);
  wake_comes = λ t k. none_push (λ (n : Move). (n.instance ≡ k) × (n.wake_came ≡ Some t)) all ms (still j) (λ h. no_wake t h.1) (e.wake_comes t k);
  wake_goes = λ t k. none_push (λ (n : Move). (n.instance ≡ k) × (n.wake_gone ≡ Some t)) all ms (still j) (λ h. no_wake t h.1) (e.wake_goes t k);
}

-- so it moves where it senses and wakes as before
still_moves : (signals : List Signal) (probes : List Range) (k : ℕ) (old new : InstState) → SensesAsBefore old new → IsMove signals probes k old new (still k)
still_moves signals probes k old new e =
    let P : List Range → Type 0 = λ rs. (s : ℕ) → Touches signals (bit_numbers rs) s → Touches signals (bit_numbers (parts_sensed old probes)) s in
    let Q : List Range → Type 0 = λ rs. (s : ℕ) → Touches signals (bit_numbers (parts_sensed old probes)) s → Touches signals (bit_numbers rs) s in
    let back : P (parts_sensed new probes) = subst P (sym (e.parts probes)) (λ s t. t) in
    let on : Q (parts_sensed new probes) = subst Q (sym (e.parts probes)) (λ s t. t) in
    record {
      instance = refl;
      came = λ s. (λ h. absurd h, λ h. h.1 (back s h.0));
      gone = λ s. (λ h. absurd h, λ h. h.1 (on s h.0));
      wake_came = λ t. (λ h. absurd (no_wake t h), λ h. absurd (h.1 (sym e.wake ∙ h.0)));
      wake_gone = λ t. (λ h. absurd (no_wake t h), λ h. absurd (h.1 (e.wake ∙ h.0)));
    }

-- moves whose signals are known, and one more
known_push : (signals : List Signal) (ms : List Move) (m : Move) → MovesKnown signals ms → AreSignals signals m.came → AreSignals signals m.gone → MovesKnown signals (ms ++ m ∷ [])
known_push signals [] m k c g = (c, g, tt)
known_push signals (n ∷ ms) m k c g = (k.0, k.1, known_push signals ms m k.2 c g)

-- activation by activation
module _ (signals : List Signal) (probes : List (List Range)) (states : List InstState) where
  -- the moves of some activations, with known signals
  abbrev pub AreKnownMoves : List Activation → List Move → Type 0
  AreKnownMoves acts ms = AreMoves signals probes states acts ms × MovesKnown signals ms

  moves_push : (xs : List Activation) (ms : List Move) (x : Activation) (m : Move) → EachMoves signals probes states xs ms →
      IsMoveOf signals probes states x m → EachMoves signals probes states (xs ++ x ∷ []) (ms ++ m ∷ [])
  moves_push [] [] x m h g = (g, tt)
  moves_push [] (n ∷ ms) x m h g = absurd h
  moves_push (y ∷ xs) [] x m h g = absurd h
  moves_push (y ∷ xs) (n ∷ ms) x m h g = (h.0, moves_push xs ms x m h.1 g)

  pub moves_none : (ms : List Move) → ms ≡ [] → AreKnownMoves [] ms
  moves_none ms e =
      let none : AreKnownMoves [] [] = (
        record {
          all = [];
          each = tt;
          same =
              record {
                comes = λ s k. (λ h. h, λ h. h);
                goes = λ s k. (λ h. h, λ h. h);
                wake_comes = λ t k. (λ h. h, λ h. h);
                wake_goes = λ t k.
                    (λ h. h, λ h. h);
              };
        },
        tt,
      ) in
      subst (AreKnownMoves []) (sym e) none

  pub moves_next : (acts : List Activation) (i : ℕ) (x : Activation) (ms new : List Move) (m : Move) → i < length acts → x ≡ get_or acts i x →
      AreKnownMoves (take i acts) ms → IsMoveOf signals probes states x m → new ≡ ms ++ m ∷ [] →
      AreKnownMoves (take (i + 1) acts) new
  moves_next acts i x ms new m l e h g n =
      let s : take (i + 1) acts ≡ take i acts ++ x ∷ [] = take_more acts i x l ∙ ap (λ (y : Activation). take i acts ++ y ∷ []) (sym e) in
      let P : List Activation → Type 0 = λ xs. AreKnownMoves xs new in
      let Q : List Move → Type 0 = λ ns. AreKnownMoves (take i acts ++ x ∷ []) ns in
      let c : AreSignals signals m.came = λ k o. let t = ((g.moves.came k).0 o).0 in is_below signals k t.bit t.has in
      let d : AreSignals signals m.gone = λ k o. let t = ((g.moves.gone k).0 o).0 in is_below signals k t.bit t.has in
      subst P (sym s) (subst Q (sym n) (
        record {
          all = h.0.all ++ m ∷ [];
          each = moves_push (take i acts) h.0.all x m h.0.each g;
          same =
              same_push h.0.all ms m h.0.same;
        },
        known_push signals ms m h.1 c d,
      ))

  -- where nothing moves by the next one
  pub moves_still : (acts : List Activation) (i : ℕ) (x : Activation) (ms : List Move) (probed : List Range) (state : InstState) → i < length acts →
      x ≡ get_or acts i x → AreKnownMoves (take i acts) ms →
      slice_get probes x.instance ≡ Some probed → slice_get states x.instance ≡ Some state → SensesAsBefore state x.act.next → AreKnownMoves (take (i + 1) acts) ms
  moves_still acts i x ms probed state l e h p q b =
      let s : take (i + 1) acts ≡ take i acts ++ x ∷ [] = take_more acts i x l ∙ ap (λ (y : Activation). take i acts ++ y ∷ []) (sym e) in
      let P : List Activation → Type 0 = λ xs. AreKnownMoves xs ms in
      let g : IsMoveOf signals probes states x (still x.instance) =
      record { probed = probed; state = state; is_probed = p; is_kept = q; moves = still_moves signals probed x.instance state x.act.next b } in
      subst P (sym s) (
        record {
          all = h.0.all ++ still x.instance ∷ [];
          each = moves_push (take i acts) h.0.all x (still x.instance) h.0.each g;
          same = same_still h.0.all ms x.instance h.0.same;
        },
        h.1,
      )

  pub moves_all : (acts : List Activation) (i : ℕ) (ms : List Move) → length acts ≤ i → AreKnownMoves (take i acts) ms → AreKnownMoves acts ms
  moves_all acts i ms l h = let P : List Activation → Type 0 = λ xs. AreKnownMoves xs ms in subst P (take_all i acts l) h

  -- what is read of the instance of an activation
  pub record ReadAt (width : ℕ) (x : Activation) (dp : List Range) (ds : InstState) : Type 0 where
    pub in_probes : x.instance < length probes
    pub in_states : x.instance < length states
    pub is_probed : slice_get probes x.instance ≡ Some (get_or probes x.instance dp)
    pub is_kept : slice_get states x.instance ≡ Some (get_or states x.instance ds)
    pub left : AreWithin width (parts_sensed (get_or states x.instance ds) (get_or probes x.instance dp))
    pub entered : AreWithin width (parts_sensed x.act.next (get_or probes x.instance dp))

  pub read_at : (width : ℕ) (x : Activation) (dp : List Range) (ds : InstState) → SensesFit width probes states x → ReadAt width x dp ds
  read_at width x dp ds f =
      let p : x.instance < length probes = slice_get_within probes x.instance f.probed f.is_probed in
      let q : x.instance < length states = slice_get_within states x.instance f.state f.is_kept in
      let u : slice_get probes x.instance ≡ Some (get_or probes x.instance dp) = slice_get-get_or probes x.instance dp p in
      let v : slice_get states x.instance ≡ Some (get_or states x.instance ds) = slice_get-get_or states x.instance ds q in
      let a : Some f.probed ≡ Some (get_or probes x.instance dp) = sym f.is_probed ∙ u in
      let b : Some f.state ≡ Some (get_or states x.instance ds) = sym f.is_kept ∙ v in
      let c : f.probed ≡ get_or probes x.instance dp = cc in
      let d : f.state ≡ get_or states x.instance ds = cc in
      let P : InstState → Type 0 = λ s. AreWithin width (parts_sensed s f.probed) in
      let Q : List Range → Type 0 = λ rs. AreWithin width (parts_sensed (get_or states x.instance ds) rs) in
      let R : List Range → Type 0 = λ rs. AreWithin width (parts_sensed x.act.next rs) in
      record { in_probes = p; in_states = q; is_probed = u; is_kept = v; left = subst Q c (subst P d f.left); entered = subst R c f.entered }

  pub read_item : (width : ℕ) (acts : List Activation) (i : ℕ) (x : Activation) (dp : List Range) (ds : InstState) → i < length acts →
      x ≡ get_or acts i x → Each (SensesFit width probes states) acts → ReadAt width x dp ds
  read_item width acts i x dp ds l e f = read_at width x dp ds (Each-item (SensesFit width probes states) acts i x f l e)

  -- and it senses what lies within the bits, before and after
  pub left_read : (width : ℕ) (x : Activation) (rs : List Range) (s : InstState) → ReadAt width x rs s → rs ≡ get_or probes x.instance rs →
      s ≡ get_or states x.instance s → AreWithin width (parts_sensed s rs)
  left_read width x rs s r p q =
      subst (λ (z : InstState). AreWithin width (parts_sensed z rs)) (sym q)
      (subst (λ (zs : List Range). AreWithin width (parts_sensed (get_or states x.instance s) zs)) (sym p) r.left)

  pub entered_read : (width : ℕ) (x : Activation) (rs : List Range) (s new : InstState) → ReadAt width x rs s → rs ≡ get_or probes x.instance rs →
      new ≡ x.act.next → AreWithin width (parts_sensed new rs)
  entered_read width x rs s new r p q =
      subst (λ (z : InstState). AreWithin width (parts_sensed z rs)) (sym q)
      (subst (λ (zs : List Range). AreWithin width (parts_sensed x.act.next zs)) (sym p) r.entered)

-- whether two lists of parts are the same
part_same : (x y : Range) → Decides (nat_eq x.lo y.lo && nat_eq x.len y.len) (x ≡ y)
part_same x y = (there, λ e. ap (λ (z : Range). nat_eq x.lo z.lo && nat_eq x.len z.len) (sym e) ∙ itself)
  where
    itself : nat_eq x.lo x.lo && nat_eq x.len x.len ≡ true
    itself = rw (eq-eqb x.lo x.lo refl, eq-eqb x.len x.len refl) refl

    there : nat_eq x.lo y.lo && nat_eq x.len y.len ≡ true → x ≡ y
    there e = at (nat_eq x.lo y.lo) (nat_eq x.len y.len) refl refl e
      where
        at : (b c : Bool) → nat_eq x.lo y.lo ≡ b → nat_eq x.len y.len ≡ c → b && c ≡ true → x ≡ y
        at true true p q h =
            let u : x.lo ≡ y.lo = eqb-true x.lo y.lo p in
            let v : x.len ≡ y.len = eqb-true x.len y.len q in
            let part : ℕ → ℕ → Range = λ lo len. record { lo = lo; len = len } in
            ap (λ (n : ℕ). part n x.len) u ∙ ap (part y.lo) v
        at true false p q h = cc
        at false c p q h = cc

pub parts_same : (xs ys : List Range) (r : Bool) → r ≡ pointwise (λ (x y : Range). nat_eq x.lo y.lo && nat_eq x.len y.len) xs ys → r ≡ true → xs ≡ ys
parts_same xs ys r e = (slice_eq-Decides {E = λ (x y : Range). nat_eq x.lo y.lo && nat_eq x.len y.len} part_same xs ys r e).0

-- the same under other names
unless_by : (x p q u v : Option Instant) → p ≡ u → q ≡ v → ((t : Instant) → (x ≡ Some t) ↔ ((p ≡ Some t) × (q ≢ Some t))) → (t : Instant) → (x ≡ Some t) ↔ ((u ≡ Some t) × (v ≢ Some t))
unless_by x p q u v e f h =
    let P : Option Instant → Type 0 = λ o. (t : Instant) → (x ≡ Some t) ↔ ((o ≡ Some t) × (q ≢ Some t)) in
    let Q : Option Instant → Type 0 = λ o. (t : Instant) → (x ≡ Some t) ↔ ((u ≡ Some t) × (o ≢ Some t)) in
    subst Q f (subst P e h)

-- a move, by what was worked out
pub move_by : (signals : List Signal) (probes : List Range) (k : ℕ) (old new : InstState) (left entered : List Range) (came gone : List ℕ)
    (a b c d x y : Option Instant) → left ≡ parts_sensed old probes → entered ≡ parts_sensed new probes →
    AreBetween signals left entered came gone → a ≡ wake_kept new → b ≡ wake_kept old → c ≡ wake_kept old → d ≡ wake_kept new →
    ((t : Instant) → (x ≡ Some t) ↔ ((a ≡ Some t) × (b ≢ Some t))) → ((t : Instant) → (y ≡ Some t) ↔ ((c ≡ Some t) × (d ≢ Some t))) →
    IsMove signals probes k old new (record { instance = k; came = came; gone = gone; wake_came = x; wake_gone = y })
move_by signals probes k old new left entered came gone a b c d x y l e between p q r s f g =
    let P : List Range → Type 0 = λ rs. AreBetween signals rs entered came gone in
    let Q : List Range → Type 0 = λ rs. AreBetween signals (parts_sensed old probes) rs came gone in
    let w : AreBetween signals (parts_sensed old probes) (parts_sensed new probes) came gone = subst Q e (subst P l between) in
    record {
      instance = refl;
      came = w.enters;
      gone = w.leaves;
      wake_came = unless_by x a b (wake_kept new) (wake_kept old) p q f;
      wake_gone = unless_by y c d (wake_kept old) (wake_kept new) r s g;
    }
