-- Who is woken: by wake times, and by signals that have changed.
use Rattle.std.proofs.Common.{arith, ◌≡◌, ℕ, zero, suc, ◌+◌, ◌<◌, ◌≤◌, List, [], ◌∷◌, ◌++◌, length, get_or, take, Bool, true, false, ◌||◌, Option, Some, None, refl, ap, sym, ◌∙◌, subst, ◌⊎◌, inl, inr}
use Rattle.std.specs.Prelude.{◌↔◌, slice_get}
use Rattle.std.specs.Option.{option_map_or}
use Rattle.std.specs.List.{list_any, range_with_len}
use Rattle.std.specs.Ordering.{is_eq}
use Rattle.std.proofs.lemmas.List.{take_all}
use Rattle.std.proofs.lemmas.Cmp.{tied_itself}
use Rattle.std.proofs.lemmas.Bool.{false≢true, or_cases}
use Rattle.std.proofs.Math.Bool.{or-true}
use Rattle.lh_time.specs.declared.Instant.{Instant}
use Rattle.lh_time.proofs.OrderLemmas.{instant_cmp_total}
use Rattle.lh_types.specs.declared.part.Range.{Range}
use Rattle.lh_unit.specs.Arena.{Arena}
use Rattle.lh_unit.specs.World.{bit_numbers, bit_differs, Moment}
use Rattle.lh_time.specs.Order.{instant_eq}
use Rattle.lh_unit.specs.Within.{Each}
use Rattle.lh_unit.proofs.Lists.{Each-get}
use Rattle.lh_eval.specs.declared.instance.Instance.{Instance}
use Rattle.lh_kernel_wakes.specs.Rising.{IsOneOf, IsRising, HasOneMore}
use Rattle.lh_kernel_wakes.specs.Sensed.{sensed_by, Senses}
use Rattle.lh_kernel_wakes.specs.Waking.{IsNoted}
use Rattle.lh_design.specs.declared.Signal.{Signal}
use Rattle.lh_design.specs.declared.Design.{Design}
use Rattle.lh_kernel_changes.specs.Touched.{Touches, AreWithin, StaysSame, OthersStay}
use Rattle.lh_kernel_changes.proofs.Same.{has_or, parts_stay}
use Rattle.lh_queue.proofs.Entries.{at_one}
use Rattle.lh_elab.specs.Probed.{probed_by}
use Rattle.lh_kernel_states.specs.declared.state.InstState.{InstState}
use Rattle.lh_kernel_states.specs.States.{parts_sensed, wake_kept}
use Rattle.lh_kernel_states.proofs.InstanceStates.{senses-within}
use Rattle.lh_kernel.specs.declared.noted.Noted.{Noted}
use Rattle.lh_kernel.specs.Woken.{awake_from, AreAsleep, IsRoused, HasRoused}
use Rattle.lh_kernel.proofs.Relations.{has_next, has_first}
use Rattle.lh_kernel.proofs.Awake.{AwakeAt, has_awake, awake_has, awake_rises, rising_same}
use Rattle.lh_kernel.proofs.Places.{are_within, fit_at, instance_at, probed_at, as_probed}

-- all instances
pub range_push : (k n : ℕ) → range_with_len k (n + 1) ≡ range_with_len k n ++ (k + n) ∷ []
range_push k zero = let e : k ≡ k + 0 = omega arith in ap (λ (j : ℕ). j ∷ []) e
range_push k (suc n) =
    let p : suc n + 1 ≡ suc (n + 1) = omega arith in
    let q : k + 1 + n ≡ k + suc n = omega arith in
    ap (λ (m : ℕ). range_with_len k m) p ∙ ap (λ (xs : List ℕ). k ∷ xs) (range_push (k + 1) n) ∙ ap (λ (j : ℕ). k ∷ (range_with_len (k + 1) n ++ j ∷ [])) q

pub awake_all : (a : Arena) (now : List Bool) (t : Instant) (is : List Instance) (ss : List InstState) (k : ℕ) → length ss ≡ length is →
    range_with_len k (length is) ≡ awake_from k a (record { before = None; now = now; at = t }) is ss
awake_all a now t [] ss k e = refl
awake_all a now t (i ∷ is) [] k e = absurd (omega (arith, e))
awake_all a now t (i ∷ is) (s ∷ ss) k e = ap (λ (xs : List ℕ). k ∷ xs) (awake_all a now t is ss (k + 1) (omega (arith, e)))

-- the numbers of a list, put one by one
abbrev pub HasFirst : (items : List ℕ) → ℕ → List ℕ → Type 0
HasFirst items i xs = (k : ℕ) → IsOneOf k xs ↔ IsOneOf k (take i items)

pub first_none : (items : List ℕ) → HasFirst items 0 []
first_none items k = (λ h. h, λ h. h)

pub first_more : (items : List ℕ) (i y : ℕ) (old new : List ℕ) → i < length items → y ≡ get_or items i 0 → HasFirst items i old → HasOneMore old y new → HasFirst items (i + 1) new
first_more items i y old new l e h m k = (
  λ g. elim ((m k).0 g) [ inl p ↦ (has_next k items i y l e).1 (inr (sym p)) | inr o ↦ (has_next k items i y l e).1 (inl ((h k).0 o)) ],
  λ g. elim ((has_next k items i y l e).0 g) [ inl o ↦ (m k).1 (inr ((h k).1 o)) | inr p ↦ (m k).1 (inl (sym p)) ],
)

pub first_due : (ws : List ℕ) (items : List ℕ) (i : ℕ) (xs : List ℕ) (P : ℕ → Type 0) → items ≡ ws → length items ≤ i → HasFirst items i xs →
    ((k : ℕ) → IsOneOf k ws ↔ P k) → (k : ℕ) → IsOneOf k xs ↔ P k
first_due ws items i xs P e l h d k =
    let s : take i items ≡ ws = take_all i items l ∙ e in
    let Q : List ℕ → Type 0 = λ zs. IsOneOf k xs ↔ IsOneOf k zs in
    let g : IsOneOf k xs ↔ IsOneOf k ws = subst Q s (h k) in
    (λ p. (d k).0 (g.0 p), λ p. g.1 ((d k).1 p))

-- those who sense a signal, one by one
pub record RousedTo (states : List InstState) (probes : List (List Range)) (old now : List Bool) (items : List ℕ) (i : ℕ) (before after : List ℕ) : Type 0 where
  pub keeps : (k : ℕ) → IsOneOf k before → IsOneOf k after
  pub sound : (k : ℕ) → IsOneOf k after → IsOneOf k before ⊎ IsRoused states probes old now k
  pub all : (k : ℕ) → IsOneOf k (take i items) → IsRoused states probes old now k → IsOneOf k after

module _ (states : List InstState) (probes : List (List Range)) (old now : List Bool) (items : List ℕ) where
  pub roused_none : (before : List ℕ) → RousedTo states probes old now items 0 before before
  roused_none before = record { keeps = λ k h. h; sound = λ k h. inl h; all = λ k h r. absurd h }

  -- one that senses a bit that differs
  pub roused_more : (i y : ℕ) (s : InstState) (rs : List Range) (before mid after : List ℕ) → i < length items → y ≡ get_or items i 0 → slice_get states y ≡ Some s → slice_get probes y ≡ Some rs →
      list_any (bit_differs old now) (bit_numbers (parts_sensed s rs)) ≡ true → RousedTo states probes old now items i before mid →
      HasOneMore mid y after → RousedTo states probes old now items (i + 1) before after
  roused_more i y s rs before mid after l e p q d r m = record {
    keeps = λ k h. (m k).1 (inr (r.keeps k h));
    sound = λ k h. elim ((m k).0 h) [
      | inl o ↦ inr (let P : ℕ → Type 0 = IsRoused states probes old now in subst P (sym o) (record { state = s; probed = rs; is_kept = p; is_probed = q; differs = d }))
      | inr g ↦ r.sound k g
    ];
    all = λ k h w. elim ((has_next k items i y l e).0 h) [ inl g ↦ (m k).1 (inr (r.all k g w)) | inr o ↦ (m k).1 (inl (sym o)) ];
  }

  -- one that is there already
  pub roused_there : (i y : ℕ) (before after : List ℕ) → i < length items → y ≡ get_or items i 0 → IsOneOf y after → RousedTo states probes old now items i before after →
      RousedTo states probes old now items (i + 1) before after
  roused_there i y before after l e h r = record {
    keeps = r.keeps;
    sound = r.sound;
    all = λ k g w. elim ((has_next k items i y l e).0 g) [ inl f ↦ r.all k f w | inr o ↦ (let P : ℕ → Type 0 = λ j. IsOneOf j after in subst P o h) ];
  }

  -- one that does not
  calm : (y k : ℕ) (s : InstState) (rs : List Range) → slice_get states y ≡ Some s → slice_get probes y ≡ Some rs →
      list_any (bit_differs old now) (bit_numbers (parts_sensed s rs)) ≡ false → y ≡ k → IsRoused states probes old now k → ⊥
  calm y k s rs p q d o w =
      let f : Some s ≡ Some w.state = sym p ∙ ap (λ (j : ℕ). slice_get states j) o ∙ w.is_kept in
      let g : Some rs ≡ Some w.probed = sym q ∙ ap (λ (j : ℕ). slice_get probes j) o ∙ w.is_probed in
      let u : s ≡ w.state = cc in
      let v : rs ≡ w.probed = cc in
      false≢true (sym d ∙ ap (λ (x : InstState). list_any (bit_differs old now) (bit_numbers (parts_sensed x rs))) u ∙
      ap (λ (x : List Range). list_any (bit_differs old now) (bit_numbers (parts_sensed w.state x))) v ∙ w.differs)

  pub roused_not : (i y : ℕ) (s : InstState) (rs : List Range) (before after : List ℕ) → i < length items → y ≡ get_or items i 0 → slice_get states y ≡ Some s → slice_get probes y ≡ Some rs →
      list_any (bit_differs old now) (bit_numbers (parts_sensed s rs)) ≡ false → RousedTo states probes old now items i before after → RousedTo states probes old now items (i + 1) before after
  roused_not i y s rs before after l e p q d r = record {
    keeps = r.keeps;
    sound = r.sound;
    all = λ k h w. elim ((has_next k items i y l e).0 h) [ inl g ↦ r.all k g w | inr o ↦ absurd (calm y k s rs p q d o w) ];
  }

-- a signal that stays rouses none
pub roused_stays : (signals : List Signal) (states : List InstState) (probes : List (List Range)) (n : Noted) (old now : List Bool) (signal : ℕ) (before : List ℕ) → StaysSame signals old now signal →
    HasRoused signals states probes n old now signal before before
roused_stays signals states probes n old now signal before s = record { keeps = λ k h. h; sound = λ k h. inl h; all = inl s }

pub roused_all : (signals : List Signal) (states : List InstState) (probes : List (List Range)) (n : Noted) (old now : List Bool) (signal : ℕ)
    (items : List ℕ) (i : ℕ) (before after : List ℕ) → items ≡ sensed_by n.index signal → length items ≤ i →
    RousedTo states probes old now items i before after → HasRoused signals states probes n old now signal before after
roused_all signals states probes n old now signal items i before after e l r =
    let s : take i items ≡ sensed_by n.index signal = take_all i items l ∙ e in
    let Q : List ℕ → Type 0 = λ zs. (k : ℕ) → IsOneOf k zs → IsRoused states probes old now k → IsOneOf k after in
    record { keeps = r.keeps; sound = r.sound; all = inr (subst Q s r.all) }

-- what is kept of one that senses a signal
pub record SensedAt (d : Design) (states : List InstState) (probes : List (List Range)) (k : ℕ) : Type 0 where
  pub state : InstState
  pub probed : List Range
  pub is_kept : slice_get states k ≡ Some state
  pub is_probed : slice_get probes k ≡ Some probed
  pub within : AreWithin (length d.init) (parts_sensed state probed)

module _ (a : Arena) (d : Design) (states : List InstState) (probes : List (List Range)) (n : Noted) (t : Instant) (asleep : AreAsleep a d states probes n t) where
  kept_at : (k : ℕ) (i : Instance) (s : InstState) → slice_get d.instances.items k ≡ Some i → slice_get states k ≡ Some s → SensedAt d states probes k
  kept_at k i s p q =
      let r : slice_get probes k ≡ Some (probed_by a i) = probed_at a d.instances.items probes k i asleep.probed p in
      record {
        state = s;
        probed = probed_by a i;
        is_kept = q;
        is_probed = r;
        within = are_within (length d.init) (parts_sensed s (probed_by a i))
            (senses-within a (length d.init) i s (probed_by a i) (fit_at a (length d.init) d.instances.items states k i s asleep.fit p q)
            (Each-get (λ (rs : List Range). Each (λ (x : Range). x.lo + x.len ≤ length d.init) rs) probes k (probed_by a i) asleep.probed_within r));
      }

  pub sensed_at : (signal k : ℕ) → Senses n.index signal k → SensedAt d states probes k
  sensed_at signal k h = let w = (asleep.noted.senses signal k).0 h in kept_at k w.instance w.state w.is w.stands

  -- the same, of one in the list of a signal
  pub sensed_item : (signal : ℕ) (items : List ℕ) (i y : ℕ) → items ≡ sensed_by n.index signal → i < length items → y ≡ get_or items i 0 → SensedAt d states probes y
  sensed_item signal items i y e l q =
      let h : IsOneOf y items = has_first y items (i + 1) ((has_next y items i y l q).1 (inr refl)) in
      let P : List ℕ → Type 0 = IsOneOf y in
      sensed_at signal y (subst P e h)

-- the state and what is probed as they are read
pub read_within : (d : Design) (states : List InstState) (probes : List (List Range)) (k : ℕ) (s : InstState) (rs parts : List Range)
    (bits : List Bool) → SensedAt d states probes k → slice_get states k ≡ Some s → slice_get probes k ≡ Some rs →
    parts ≡ parts_sensed s rs → length bits ≡ length d.init → AreWithin (length bits) parts
read_within d states probes k s rs parts bits w p q e m =
    let f : Some w.state ≡ Some s = sym w.is_kept ∙ p in
    let g : Some w.probed ≡ Some rs = sym w.is_probed ∙ q in
    let u : w.state ≡ s = cc in
    let v : w.probed ≡ rs = cc in
    let x : parts_sensed w.state w.probed ≡ parts = ap (λ (z : InstState). parts_sensed z w.probed) u ∙ ap (λ (z : List Range). parts_sensed s z) v ∙ sym e in
    subst (λ (j : ℕ). AreWithin j parts) (sym m) (subst (λ (z : List Range). AreWithin (length d.init) z) x w.within)

-- the signals that are touched, one by one
pub record WokenTo (signals : List Signal) (states : List InstState) (probes : List (List Range)) (n : Noted) (old now : List Bool) (touched : List ℕ) (i : ℕ) (due woken : List ℕ) : Type 0 where
  pub keeps : (k : ℕ) → IsOneOf k due → IsOneOf k woken
  pub sound : (k : ℕ) → IsOneOf k woken → IsOneOf k due ⊎ IsRoused states probes old now k
  pub all : (j : ℕ) → IsOneOf j (take i touched) → StaysSame signals old now j ⊎ ((k : ℕ) → Senses n.index j k → IsRoused states probes old now k → IsOneOf k woken)

module _ (signals : List Signal) (states : List InstState) (probes : List (List Range)) (n : Noted) (old now : List Bool) (touched : List ℕ) where
  pub woken_none : (due : List ℕ) → WokenTo signals states probes n old now touched 0 due due
  woken_none due = record { keeps = λ k h. h; sound = λ k h. inl h; all = λ j h. absurd h }

  pub woken_more : (i signal : ℕ) (due mid woken : List ℕ) → i < length touched → signal ≡ get_or touched i 0 →
      WokenTo signals states probes n old now touched i due mid → HasRoused signals states probes n old now signal mid woken →
      WokenTo signals states probes n old now touched (i + 1) due woken
  woken_more i signal due mid woken l e w r = record {
    keeps = λ k h. r.keeps k (w.keeps k h);
    sound = λ k h. elim (r.sound k h) [ inl g ↦ w.sound k g | inr g ↦ inr g ];
    all = λ j h. elim ((has_next j touched i signal l e).0 h) [
      | inl g ↦ elim (w.all j g) [ inl s ↦ inl s | inr f ↦ inr (λ k p q. r.keeps k (f k p q)) ]
      | inr o ↦ elim r.all [
        | inl s ↦ inl (let P : ℕ → Type 0 = StaysSame signals old now in subst P o s)
        | inr f ↦ inr (let P : ℕ → Type 0 = λ m. (k : ℕ) → Senses n.index m k → IsRoused states probes old now k → IsOneOf k woken in subst P o f)
      ]
    ];
  }

pub woken_end : (signals : List Signal) (states : List InstState) (probes : List (List Range)) (n : Noted) (old now : List Bool)
    (items touched : List ℕ) (i : ℕ) (due woken : List ℕ) → items ≡ touched → length items ≤ i →
    WokenTo signals states probes n old now items i due woken → WokenTo signals states probes n old now touched (length touched) due woken
woken_end signals states probes n old now items touched i due woken e l w =
    let s : take i items ≡ take (length touched) touched = take_all i items l ∙ e ∙ sym (take_all (length touched) touched (omega arith)) in
    let P : List ℕ → Type 0 = λ xs. (j : ℕ) → IsOneOf j xs → StaysSame signals old now j ⊎ ((k : ℕ) → Senses n.index j k → IsRoused states probes old now k → IsOneOf k woken) in
    record { keeps = w.keeps; sound = w.sound; all = subst P s w.all }

at_itself : (t : Instant) → instant_eq t t ≡ true
at_itself t = ap is_eq (tied_itself instant_cmp_total t)

at_some : (t : Instant) (o : Option Instant) → option_map_or (instant_eq t) o false ≡ true → o ≡ Some t
at_some t None e = absurd (false≢true e)
at_some t (Some u) e = ap (λ (x : Instant). Some x) (sym (at_one t u e))

-- exactly those that wake
module _ (a : Arena) (d : Design) (states : List InstState) (probes : List (List Range)) (n : Noted) (t : Instant) (old now : List Bool)
    (touched due woken : List ℕ) (asleep : AreAsleep a d states probes n t) where
  -- the moment of a later frame
  abbrev later : Moment
  later = record { before = Some old; now = now; at = t }

  by_due : (k : ℕ) → IsNoted n.wakes t k → AwakeAt a later d.instances.items states k
  by_due k h =
      let w = (asleep.noted.wakes t k).0 h in
      let i = instance_at a (length d.init) d.instances.items states k w.state asleep.fit w.stands in
      record {
        instance = i.0;
        state = w.state;
        is_one = i.1;
        is_kept = w.stands;
        awakes = ap (λ (o : Option Instant). list_any (bit_differs old now) (bit_numbers (parts_sensed w.state (probed_by a i.0))) || option_map_or (instant_eq t) o false) w.wakes
            ∙ ap (λ (b : Bool). list_any (bit_differs old now) (bit_numbers (parts_sensed w.state (probed_by a i.0))) || b) (at_itself t)
            ∙ or-true (list_any (bit_differs old now) (bit_numbers (parts_sensed w.state (probed_by a i.0))));
      }

  by_bits : (k : ℕ) → IsRoused states probes old now k → AwakeAt a later d.instances.items states k
  by_bits k r =
      let i = instance_at a (length d.init) d.instances.items states k r.state asleep.fit r.is_kept in
      let e : r.probed ≡ probed_by a i.0 = as_probed a d.instances.items probes k i.0 r.probed asleep.probed i.1 r.is_probed in
      let f : list_any (bit_differs old now) (bit_numbers (parts_sensed r.state (probed_by a i.0))) ≡ true =
      ap (λ (z : List Range). list_any (bit_differs old now) (bit_numbers (parts_sensed r.state z))) (sym e) ∙ r.differs in
      record {
        instance = i.0;
        state = r.state;
        is_one = i.1;
        is_kept = r.is_kept;
        awakes = ap (λ (b : Bool). b || option_map_or (instant_eq t) (wake_kept r.state) false) f;
      }

  -- one that senses a bit that differs is among the woken
  roused_is : (k : ℕ) (i : Instance) (s : InstState) → slice_get d.instances.items k ≡ Some i → slice_get states k ≡ Some s →
      list_any (bit_differs old now) (bit_numbers (parts_sensed s (probed_by a i))) ≡ true →
      OthersStay d.signals.items touched old now → WokenTo d.signals.items states probes n old now touched (length touched) due woken → IsOneOf k woken
  roused_is k i s p q e others w = elim (has_or k woken) [
    | inl h ↦ h
    | inr m ↦ absurd (false≢true (sym (parts_stay d.signals.items (length d.init) (parts_sensed s (probed_by a i)) old now asleep.fill within (λ j g. stays m j g)) ∙ e))
  ]
    where
      probed : slice_get probes k ≡ Some (probed_by a i)
      probed = probed_at a d.instances.items probes k i asleep.probed p

      within : AreWithin (length d.init) (parts_sensed s (probed_by a i))
      within = are_within (length d.init) (parts_sensed s (probed_by a i)) (senses-within a (length d.init) i s (probed_by a i) (fit_at a (length d.init) d.instances.items states k i s asleep.fit p q)
          (Each-get (λ (rs : List Range). Each (λ (x : Range). x.lo + x.len ≤ length d.init) rs) probes k (probed_by a i) asleep.probed_within probed))

      stays : (IsOneOf k woken → ⊥) → (j : ℕ) → Touches d.signals.items (bit_numbers (parts_sensed s (probed_by a i))) j → StaysSame d.signals.items old now j
      stays m j g = elim (has_or j touched) [
        | inr o ↦ others j o
        | inl h ↦
            let P : List ℕ → Type 0 = IsOneOf j in
            elim (w.all j (subst P (sym (take_all (length touched) touched (omega arith))) h)) [
              | inl same ↦ same
              | inr f ↦ absurd (m (f k ((asleep.noted.senses j k).1 (record { instance = i; state = s; is = p; stands = q; touches = g }))
                  (record { state = s; probed = probed_by a i; is_kept = q; is_probed = probed; differs = e })))
            ]
      ]

  pub woken_are : ((k : ℕ) → IsOneOf k due ↔ IsNoted n.wakes t k) → OthersStay d.signals.items touched old now →
      WokenTo d.signals.items states probes n old now touched (length touched) due woken → IsRising woken →
      woken ≡ awake_from 0 a later d.instances.items states
  woken_are times others w rising = rising_same woken (awake_from 0 a later d.instances.items states) rising (awake_rises a later d.instances.items states 0) (λ k. (there k, back k))
    where
      first : (k : ℕ) → AwakeAt a later d.instances.items states k → IsOneOf k (awake_from 0 a later d.instances.items states)
      first k g =
          let e : 0 + k ≡ k = omega arith in
          let P : ℕ → Type 0 = λ j. IsOneOf j (awake_from 0 a later d.instances.items states) in
          subst P e (awake_has a later d.instances.items states 0 k g)

      there : (k : ℕ) → IsOneOf k woken → IsOneOf k (awake_from 0 a later d.instances.items states)
      there k h = elim (w.sound k h) [ inl g ↦ first k (by_due k ((times k).0 g)) | inr r ↦ first k (by_bits k r) ]

      one : (k : ℕ) → AwakeAt a later d.instances.items states k → IsOneOf k woken
      one k g = elim (or_cases (list_any (bit_differs old now) (bit_numbers (parts_sensed g.state (probed_by a g.instance)))) (option_map_or (instant_eq t) (wake_kept g.state) false) g.awakes) [
        | inl e ↦ roused_is k g.instance g.state g.is_one g.is_kept e others w
        | inr e ↦ w.keeps k ((times k).1 ((asleep.noted.wakes t k).1 (record { state = g.state; stands = g.is_kept; wakes = at_some t (wake_kept g.state) e })))
      ]

      back : (k : ℕ) → IsOneOf k (awake_from 0 a later d.instances.items states) → IsOneOf k woken
      back k h =
          let l = has_awake a later d.instances.items states 0 k h in
          let e : l.place ≡ k = omega (arith, l.number) in
          let P : ℕ → Type 0 = λ j. IsOneOf j woken in
          subst P e (one l.place l.awake)

-- other numbers that are the same
pub woken_again : (signals : List Signal) (states : List InstState) (probes : List (List Range)) (n : Noted) (old now : List Bool)
    (touched : List ℕ) (i : ℕ) (due woken other : List ℕ) → ((k : ℕ) → IsOneOf k other ↔ IsOneOf k woken) →
    WokenTo signals states probes n old now touched i due woken → WokenTo signals states probes n old now touched i due other
woken_again signals states probes n old now touched i due woken other same w = record {
  keeps = λ k h. (same k).1 (w.keeps k h);
  sound = λ k h. w.sound k ((same k).0 h);
  all = λ j h. elim (w.all j h) [ inl s ↦ inl s | inr f ↦ inr (λ k p q. (same k).1 (f k p q)) ];
}
