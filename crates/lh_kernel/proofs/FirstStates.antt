-- What is kept and noted of instances as they begin.
use Rattle.std.proofs.Common.{arith, ◌≡◌, ℕ, zero, suc, ◌+◌, ◌<◌, ◌≤◌, List, [], ◌∷◌, ◌++◌, length, map, get_or, take, Option, Some, None, refl, ap, sym, ◌∙◌, subst, inl, inr}
use Rattle.std.specs.Prelude.{◌↔◌, slice_get}
use Rattle.std.proofs.lemmas.List.{take_more, take_all}
use Rattle.std.proofs.lemmas.Bool.{cases_lt}
use Rattle.std.proofs.lemmas.Option.{slice_get_within, slice_get_read}
use Rattle.lh_kernel_wakes.specs.declared.wakes.Wake.{Wake}
use Rattle.lh_time.specs.declared.Instant.{Instant}
use Rattle.lh_types.specs.declared.part.Range.{Range}
use Rattle.lh_unit.specs.declared.inst.UnitKind.{UnitKind}
use Rattle.lh_unit.specs.declared.inst.UnitKind.TheVariants as kind
use Rattle.lh_unit.specs.Arena.{Arena, IsArena, contents, unit_name_at, unit_text_at}
use Rattle.lh_unit.specs.Contents.{UnitText}
use Rattle.lh_unit.specs.Hierarchy as hierarchy
use Rattle.lh_unit.specs.World.{unit_of, start_by, start, starts, wake_of, bit_numbers}
use Rattle.lh_unit.specs.Within.{Each}
use Rattle.lh_unit.proofs.Lists.{Each-item}
use Rattle.lh_eval.specs.declared.instance.Instance.{Instance}
use Rattle.lh_kernel_wakes.specs.Rising.{IsOneOf}
use Rattle.lh_kernel_wakes.specs.Sensed.{Senses}
use Rattle.lh_kernel_wakes.specs.Waking.{IsNoted}
use Rattle.lh_design.specs.declared.Signal.{Signal}
use Rattle.lh_design.specs.Texts.{instance_text}
use Rattle.lh_kernel_changes.specs.Touched.{Touches, AreTouched, AreWithin}
use Rattle.lh_kernel_changes.proofs.Filled.{is_below}
use Rattle.lh_elab.specs.Answer.{InstanceIs}
use Rattle.lh_elab.specs.Probed.{probed_by, AreProbes}
use Rattle.lh_kernel_states.specs.declared.state.InstState.{InstState}
use Rattle.lh_kernel_states.specs.States.{StateIs, StateFits, parts_sensed, wake_kept}
use Rattle.lh_kernel_states.proofs.InstanceStates.{senses-within, wakes-alike}
use Rattle.lh_kernel.specs.States.{StatesStand, StatesFit, SensesSignal, WakesItself}
use Rattle.lh_kernel.specs.Noted.{IsNotedFor, SensedWithin}
use Rattle.lh_kernel.specs.Noting.{HasNoted}
use Rattle.lh_kernel.specs.Kept.{WakesAfter}
use Rattle.lh_kernel.specs.declared.noted.Noted.{Noted}
use Rattle.lh_kernel.proofs.Acts.{is-named}
use Rattle.lh_kernel.proofs.Places.{are_within, probed_at}
use Rattle.lh_kernel.proofs.Exact.{map_back}

-- as it begins, no instance wakes by itself
none_wakes : (k : UnitKind) (u : UnitText) (i : hierarchy.Instance) → wake_of (start_by k u i) ≡ None
none_wakes kind.Func u i = refl
none_wakes kind.Proc u i = refl
none_wakes kind.Entity u i = refl

pub first_wakes : (a : Arena) (i : Instance) (s : InstState) (u : UnitText) (j : hierarchy.Instance) → StateIs a i s (start u j) → WakesAfter None s
first_wakes a i s u j h = wakes-alike a i s (start u j) h ∙ none_wakes u.kind u j

-- the states of the first instances
pub record Started (a : Arena) (width : ℕ) (is : List Instance) (ss : List InstState) : Type 0 where
  pub stand : StatesStand a is ss (starts (contents a) (map (instance_text a) is))
  pub fit : StatesFit a width is ss
  pub wakes : Each (WakesAfter None) ss

stand_push : (a : Arena) (is : List Instance) (ss : List InstState) (i : Instance) (s : InstState) → StatesStand a is ss (starts (contents a) (map (instance_text a) is)) →
    StateIs a i s (start (unit_of (contents a) (unit_name_at a i.unit.0)) (instance_text a i)) →
    StatesStand a (is ++ i ∷ []) (ss ++ s ∷ []) (starts (contents a) (map (instance_text a) (is ++ i ∷ [])))
stand_push a [] [] i s h g = (g, tt)
stand_push a [] (y ∷ ss) i s h g = absurd h
stand_push a (x ∷ is) [] i s h g = absurd h
stand_push a (x ∷ is) (y ∷ ss) i s h g = (h.0, stand_push a is ss i s h.1 g)

fit_push : (a : Arena) (width : ℕ) (is : List Instance) (ss : List InstState) (i : Instance) (s : InstState) → StatesFit a width is ss →
    StateFits a width i s → StatesFit a width (is ++ i ∷ []) (ss ++ s ∷ [])
fit_push a width [] [] i s h g = (g, tt)
fit_push a width [] (y ∷ ss) i s h g = absurd h
fit_push a width (x ∷ is) [] i s h g = absurd h
fit_push a width (x ∷ is) (y ∷ ss) i s h g = (h.0, fit_push a width is ss i s h.1 g)

wakes_push : (ss : List InstState) (s : InstState) → Each (WakesAfter None) ss → WakesAfter None s → Each (WakesAfter None) (ss ++ s ∷ [])
wakes_push [] s h g = (g, tt)
wakes_push (y ∷ ss) s h g = (h.0, wakes_push ss s h.1 g)

pub started_none : (a : Arena) (width : ℕ) (ss : List InstState) → ss ≡ [] → Started a width [] ss
started_none a width ss e = let P : List InstState → Type 0 = Started a width [] in subst P (sym e) (record { stand = tt; fit = tt; wakes = tt })

pub started_more : (a : Arena) (width : ℕ) (is : List Instance) (k : ℕ) (i : Instance) (ss new : List InstState) (s : InstState) → IsArena a →
    Each (InstanceIs a width) is → k < length is → i ≡ get_or is k i → new ≡ ss ++ s ∷ [] →
    StateIs a i s (start (unit_text_at a i.unit.0) (instance_text a i)) → StateFits a width i s → Started a width (take k is) ss → Started a width (take (k + 1) is) new
started_more a width is k i ss new s m is_are l e n stands fits h =
    let t : take (k + 1) is ≡ take k is ++ i ∷ [] = take_more is k i l ∙ ap (λ (j : Instance). take k is ++ j ∷ []) (sym e) in
    let u = is-named a width i m (Each-item (InstanceIs a width) is k i is_are l e) in
    let Q : UnitText → Type 0 = λ v. StateIs a i s (start v (instance_text a i)) in
    let g : Started a width (take k is ++ i ∷ []) (ss ++ s ∷ []) = record {
      stand = stand_push a (take k is) ss i s h.stand (subst Q (sym u) stands);
      fit = fit_push a width (take k is) ss i s h.fit fits;
      wakes = wakes_push ss s h.wakes (first_wakes a i s (unit_text_at a i.unit.0) (instance_text a i) stands);
    } in
    let P : List Instance → Type 0 = λ js. Started a width js new in
    let R : List InstState → Type 0 = λ xs. Started a width (take k is ++ i ∷ []) xs in
    subst P (sym t) (subst R (sym n) g)

pub started_all : (a : Arena) (width : ℕ) (items is : List Instance) (k : ℕ) (ss : List InstState) → items ≡ is → length items ≤ k → Started a width (take k items) ss → Started a width is ss
started_all a width items is k ss e l h = let P : List Instance → Type 0 = λ js. Started a width js ss in subst P (take_all k items l ∙ e) h

-- what each senses lies within the signals
pub sensed_within : (a : Arena) (width : ℕ) (is : List Instance) (ss : List InstState) (ps : List (List Range)) → StatesFit a width is ss →
    AreProbes a is ps → Each (λ (rs : List Range). Each (λ (r : Range). r.lo + r.len ≤ width) rs) ps → SensedWithin width ss ps
sensed_within a width is ss ps f p w =
    let P : List (List Range) → Type 0 = λ xs. Each (λ (rs : List Range). Each (λ (r : Range). r.lo + r.len ≤ width) rs) xs in
    let Q : List (List Range) → Type 0 = SensedWithin width ss in
    subst Q (sym p) (by is ss f (subst P p w))
  where
    by : (js : List Instance) (xs : List InstState) → StatesFit a width js xs →
        Each (λ (rs : List Range). Each (λ (r : Range). r.lo + r.len ≤ width) rs) (map (probed_by a) js) → SensedWithin width xs (map (probed_by a) js)
    by [] [] g h = tt
    by [] (x ∷ xs) g h = absurd g
    by (j ∷ js) [] g h = absurd g
    by (j ∷ js) (x ∷ xs) g h = (are_within width (parts_sensed x (probed_by a j)) (senses-within a width j x (probed_by a j) g.0 h.0), by js xs g.1 h.1)

pub within_at : (width : ℕ) (ss : List InstState) (ps : List (List Range)) (k : ℕ) (s : InstState) (rs : List Range) → SensedWithin width ss ps →
    slice_get ss k ≡ Some s → slice_get ps k ≡ Some rs → AreWithin width (parts_sensed s rs)
within_at width [] [] k s rs w p q = absurd (none p)
  where
    none : None ≡ Some s → ⊥
    none e = cc
within_at width [] (r ∷ ps) k s rs w p q = absurd w
within_at width (x ∷ ss) [] k s rs w p q = absurd w
within_at width (x ∷ ss) (r ∷ ps) zero s rs w p q =
    let u : x ≡ s = cc in
    let v : r ≡ rs = cc in
    let P : InstState → Type 0 = λ y. AreWithin width (parts_sensed y r) in
    let Q : List Range → Type 0 = λ y. AreWithin width (parts_sensed s y) in
    subst Q v (subst P u w.0)
within_at width (x ∷ ss) (r ∷ ps) (suc k) s rs w p q = within_at width ss ps k s rs w.1 p q

pub as_long : (width : ℕ) (ss : List InstState) (ps : List (List Range)) → SensedWithin width ss ps → length ps ≡ length ss
as_long width [] [] w = refl
as_long width [] (r ∷ ps) w = absurd w
as_long width (x ∷ ss) [] w = absurd w
as_long width (x ∷ ss) (r ∷ ps) w = ap suc (as_long width ss ps w.1)

-- what the instance of a number senses, with what it probes
pub record SensesBy (signals : List Signal) (ss : List InstState) (ps : List (List Range)) (s k : ℕ) : Type 0 where
  pub state : InstState
  pub probed : List Range
  pub is_kept : slice_get ss k ≡ Some state
  pub is_probed : slice_get ps k ≡ Some probed
  pub touches : Touches signals (bit_numbers (parts_sensed state probed)) s

-- what is noted of the first instances
pub record NotedTo (signals : List Signal) (ss : List InstState) (ps : List (List Range)) (i : ℕ) (n : Noted) : Type 0 where
  pub long : length n.index ≡ length signals
  pub senses : (s k : ℕ) → Senses n.index s k ↔ ((k < i) × SensesBy signals ss ps s k)
  pub wakes : (t : Instant) (k : ℕ) → IsNoted n.wakes t k ↔ ((k < i) × WakesItself ss t k)

module _ (signals : List Signal) (ss : List InstState) (ps : List (List Range)) where
  pub noted_none : (n : Noted) → length n.index ≡ length signals → ((s k : ℕ) → ¬ Senses n.index s k) → n.wakes ≡ [] → NotedTo signals ss ps 0 n
  noted_none n l h e = record {
    long = l;
    senses = λ s k. (λ g. absurd (h s k g), λ g. absurd (omega (arith, g.0)));
    wakes = λ t k. (λ g. let P : List Wake → Type 0 = λ xs. IsNoted xs t k in absurd (subst P e g), λ g. absurd (omega (arith, g.0)));
  }

  -- one instance more
  pub noted_more : (i : ℕ) (st : InstState) (rs : List Range) (touched : List ℕ) (wake : Option Instant) (n m : Noted) → slice_get ss i ≡ Some st →
      slice_get ps i ≡ Some rs → AreTouched signals (bit_numbers (parts_sensed st rs)) touched → wake ≡ wake_kept st →
      NotedTo signals ss ps i n → HasNoted i touched wake n m → NotedTo signals ss ps (i + 1) m
  noted_more i st rs touched wake n m p q touch w h g = record { long = g.long ∙ h.long; senses = λ s k. (there s k, back s k); wakes = λ t k. (awakes t k, noted t k) }
    where
      there : (s k : ℕ) → Senses m.index s k → (k < i + 1) × SensesBy signals ss ps s k
      there s k x = elim ((g.senses s k).0 x) [
        | inl y ↦
            let P : ℕ → Type 0 = λ j. SensesBy signals ss ps s j in
            (omega (arith, y.0), subst P y.0 (record { state = st; probed = rs; is_kept = p; is_probed = q; touches = (touch s).0 y.1 }))
        | inr y ↦ let z = (h.senses s k).0 y in (omega (arith, z.0), z.1)
      ]

      back : (s k : ℕ) → (k < i + 1) × SensesBy signals ss ps s k → Senses m.index s k
      back s k x = elim (cases_lt k i) [
        | inl l ↦ (g.senses s k).1 (inr ((h.senses s k).1 (l, x.1)))
        | inr l ↦
            let e : i ≡ k = omega (arith, x.0) in
            let u : Some x.1.state ≡ Some st = sym x.1.is_kept ∙ ap (slice_get ss) (sym e) ∙ p in
            let v : Some x.1.probed ≡ Some rs = sym x.1.is_probed ∙ ap (slice_get ps) (sym e) ∙ q in
            let a : x.1.state ≡ st = cc in
            let b : x.1.probed ≡ rs = cc in
            let P : InstState → Type 0 = λ y. Touches signals (bit_numbers (parts_sensed y x.1.probed)) s in
            let Q : List Range → Type 0 = λ y. Touches signals (bit_numbers (parts_sensed st y)) s in
            (g.senses s k).1 (inl (e, (touch s).1 (subst Q b (subst P a x.1.touches))))
      ]

      awakes : (t : Instant) (k : ℕ) → IsNoted m.wakes t k → (k < i + 1) × WakesItself ss t k
      awakes t k x = elim ((g.wakes t k).0 x) [
        | inl y ↦
            let P : ℕ → Type 0 = λ j. WakesItself ss t j in
            (omega (arith, y.0), subst P y.0 (record { state = st; stands = p; wakes = sym w ∙ y.1 }))
        | inr y ↦ let z = (h.wakes t k).0 y in (omega (arith, z.0), z.1)
      ]

      noted : (t : Instant) (k : ℕ) → (k < i + 1) × WakesItself ss t k → IsNoted m.wakes t k
      noted t k x = elim (cases_lt k i) [
        | inl l ↦ (g.wakes t k).1 (inr ((h.wakes t k).1 (l, x.1)))
        | inr l ↦
            let e : i ≡ k = omega (arith, x.0) in
            let u : Some x.1.state ≡ Some st = sym x.1.stands ∙ ap (slice_get ss) (sym e) ∙ p in
            let a : x.1.state ≡ st = cc in
            (g.wakes t k).1 (inl (e, w ∙ ap wake_kept (sym a) ∙ x.1.wakes))
      ]

  -- all instances
  pub noted_all : (a : Arena) (is : List Instance) (i : ℕ) (n : Noted) → length ss ≤ i → NotedTo signals ss ps i n → AreProbes a is ps → IsNotedFor a is signals ss n
  noted_all a is i n l h p = record {
    long = h.long;
    senses = λ s k. (λ x. there s k ((h.senses s k).0 x).1, λ x. (h.senses s k).1 (back s k x));
    wakes = λ t k. (λ x. ((h.wakes t k).0 x).1, λ x. (h.wakes t k).1 (below k x.state x.stands, x));
  }
    where
      below : (k : ℕ) (st : InstState) → slice_get ss k ≡ Some st → k < i
      below k st e = let b : k < length ss = slice_get_within ss k st e in omega arith

      there : (s k : ℕ) → SensesBy signals ss ps s k → SensesSignal a is signals ss s k
      there s k x =
          let b = map_back a is k x.probed (sym (ap (λ (xs : List (List Range)). slice_get xs k) p) ∙ x.is_probed) in
          let P : List Range → Type 0 = λ y. Touches signals (bit_numbers (parts_sensed x.state y)) s in
          record { instance = b.instance; state = x.state; is = b.is_one; stands = x.is_kept; touches = subst P b.probed x.touches }

      back : (s k : ℕ) → SensesSignal a is signals ss s k → (k < i) × SensesBy signals ss ps s k
      back s k x = (below k x.state x.stands, record { state = x.state; probed = probed_by a x.instance; is_kept = x.stands; is_probed = probed_at a is ps k x.instance p x.is; touches = x.touches })

-- the signals of parts are signals
pub touched_known : (signals : List Signal) (bits touched : List ℕ) (n : ℕ) → n ≡ length signals → AreTouched signals bits touched → (s : ℕ) → IsOneOf s touched → s < n
touched_known signals bits touched n e t s h = let w = (t s).0 h in let b : s < length signals = is_below signals s w.bit w.has in omega arith

-- a state and what is probed, as they are read
pub within_read : (width : ℕ) (ss : List InstState) (ps : List (List Range)) (k : ℕ) (s : InstState) (rs : List Range) → SensedWithin width ss ps →
    k < length ss → s ≡ get_or ss k s → rs ≡ get_or ps k rs → AreWithin width (parts_sensed s rs)
within_read width ss ps k s rs w l p q =
    let m : length ps ≡ length ss = as_long width ss ps w in
    within_at width ss ps k s rs w (slice_get_read ss (length ss) k s refl l p) (slice_get_read ps (length ps) k rs refl (omega arith) q)
