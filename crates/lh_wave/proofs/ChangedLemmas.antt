-- Numbers of signals, gone through one after the other, and the values of those that have changed.
use Rattle.std.proofs.Common.{◌≡◌, ℕ, zero, suc, ◌+◌, ◌-◌, ◌<◌, ◌≤◌, ◌⊎◌, ◌≢◌, inl, inr, true, false, not, List, [], ◌∷◌, ◌++◌, length, get_or, set, drop, map, refl, ap, sym, ◌∙◌, subst, cond, Option, Some, None, arith}
use Rattle.std.specs.Prelude.{All, Contains}
use Rattle.std.specs.List.Sorted.{IsNonDecreasing}
use Rattle.std.proofs.Math.ListN.{length-set}
use Rattle.std.proofs.lemmas.Bool.{cases_eq}
use Rattle.std.proofs.lemmas.List.{append-nil, drop-set-lt, drop_more, get_or_default, get_or-set_same, get_or-set_other, get_or-map, map-set, set-get_or, length-map, same_lists}
use Rattle.std.proofs.lemmas.List.Elements.{All-push, Contains-append_left, Contains-push}
use Rattle.lh_text_buffer.specs.Writing.{Written, Writes, Leaves}
use Rattle.lh_text_buffer.proofs.Parts.{all-left, less-left, none-left}
use Rattle.lh_types.specs.Values.{Datum}
use Rattle.lh_types.specs.ValueOf.{datum_of}
use Rattle.lh_types.specs.SameValue.{same_datum}
use Rattle.lh_types.specs.SameValueLaws.{same_datum-refl, same_datum-is}
use Rattle.lh_types.specs.declared.val.Val.{Val}
use Rattle.lh_wave.specs.WaveText.{value_line, differing_lines, any_differs}
use Rattle.lh_wave.specs.declared.changed.Changed.{Changed}
use Rattle.lh_wave.specs.Changed.{HasNone, ChangesAreListed, with_number, present_value, present_values}
use Rattle.lh_wave.proofs.ValueLines.{IsSameAt, values_drop, passed_over, differs_at, same_differ, from_not}

-- the number stands in the list from this place on
abbrev pub IsAhead : (numbers : List ℕ) → (i : ℕ) → ℕ → Type 0
IsAhead ks i k = (m : ℕ) × (i ≤ m) × (m < length ks) × (get_or ks m 0 ≡ k)

-- each number from `low` on stands ahead or is done
abbrev pub DoneBut : (numbers : List ℕ) → (i low : ℕ) → (ℕ → Type 0) → Type 0
DoneBut ks i low P = (k : ℕ) → low ≤ k → IsAhead ks i k ⊎ P k

ahead_from : (ks : List ℕ) (k : ℕ) → Contains ks k → IsAhead ks 0 k
ahead_from ks k h = (h.0, omega arith, h.1, get_or_default ks h.0 0 k h.1 ∙ h.2)

pub DoneBut-start : (ks : List ℕ) (low : ℕ) (P : ℕ → Type 0) → ((k : ℕ) → Contains ks k ⊎ P k) → DoneBut ks 0 low P
DoneBut-start ks low P h = λ k l. elim (h k) [ inl c ↦ inl (ahead_from ks k c) | inr p ↦ inr p ]

pub DoneBut-next : (ks : List ℕ) (i low next : ℕ) (P : ℕ → Type 0) → DoneBut ks i low P → low ≤ next → (next ≤ get_or ks i 0 → P (get_or ks i 0)) → DoneBut ks (i + 1) next P
DoneBut-next ks i low next P h l done = λ k lk. elim (h k (omega arith)) [
  | inl a ↦ elim (cases_eq a.0 i) [
    | inl e ↦ let here : get_or ks i 0 ≡ k = ap (λ m. get_or ks m 0) (sym e) ∙ a.3 in inr (subst P here (done (subst (λ n. next ≤ n) (sym here) lk)))
    | inr other ↦ inl (a.0, omega arith, a.2, a.3)
  ]
  | inr p ↦ inr p
]

pub DoneBut-end : (ks : List ℕ) (i low : ℕ) (P : ℕ → Type 0) → DoneBut ks i low P → length ks ≤ i → (k : ℕ) → low ≤ k → P k
DoneBut-end ks i low P h past k l = elim (h k l) [ inl a ↦ absurd (omega (arith, a.1, a.2)) | inr p ↦ p ]

pub DoneBut-map : (ks : List ℕ) (i low : ℕ) (P Q : ℕ → Type 0) → ((k : ℕ) → P k → Q k) → DoneBut ks i low P → DoneBut ks i low Q
DoneBut-map ks i low P Q f h = λ k l. elim (h k l) [ inl a ↦ inl a | inr p ↦ inr (f k p) ]

-- in a list that rises, all below the number at a place are done
pub DoneBut-below : (ks : List ℕ) (i low : ℕ) (P : ℕ → Type 0) → DoneBut ks i low P → IsNonDecreasing ks → (k : ℕ) → low ≤ k → k < get_or ks i 0 → P k
DoneBut-below ks i low P h up k l below = elim (h k l) [ inl a ↦ (let no : get_or ks i 0 ≤ k = subst (λ n. get_or ks i 0 ≤ n) a.3 (up i a.0 0 a.1 a.2) in absurd (omega arith)) | inr p ↦ p ]

le_or_lt : (m n : ℕ) → (m ≤ n) ⊎ (n < m)
le_or_lt m n = grind arith

-- the same values everywhere
pub all_same : (old now : List Datum) → length old ≡ length now → ((k : ℕ) → IsSameAt old now k) → old ≡ now
all_same old now l h = same_lists old now l (λ k d in'. h k d)

-- the new values, signal by signal
pub length_present : (ns : List (Option Val)) (ws : List Val) → length ns ≡ length ws → length (present_values ns ws) ≡ length ws
length_present [] [] e = refl
length_present [] (w ∷ ws) e = absurd (omega arith)
length_present (n ∷ ns) [] e = absurd (omega arith)
length_present (n ∷ ns) (w ∷ ws) e = let h = length_present ns ws (omega arith) in omega (arith, h)

pub present_at : (ns : List (Option Val)) (ws : List Val) (k : ℕ) (d : Datum) (w : Val) → length ns ≡ length ws → k < length ws → get_or (present_values ns ws) k d ≡ present_value (get_or ns k None) (get_or ws k w)
present_at [] [] k d w e h = absurd (omega arith)
present_at [] (x ∷ ws) k d w e h = absurd (omega arith)
present_at (n ∷ ns) [] k d w e h = absurd (omega arith)
present_at (n ∷ ns) (x ∷ ws) zero d w e h = refl
present_at (n ∷ ns) (x ∷ ws) (suc k) d w e h = present_at ns ws k d w (omega arith) (omega arith)

pub present_set : (ns : List (Option Val)) (ws : List Val) (k : ℕ) (v : Val) → length ns ≡ length ws → present_values (set ns k (Some v)) ws ≡ set (present_values ns ws) k (datum_of v)
present_set [] [] k v e = refl
present_set [] (w ∷ ws) k v e = absurd (omega arith)
present_set (n ∷ ns) [] k v e = absurd (omega arith)
present_set (n ∷ ns) (w ∷ ws) zero v e = refl
present_set (n ∷ ns) (w ∷ ws) (suc k) v e = ap (λ vs. present_value n w ∷ vs) (present_set ns ws k v (omega arith))

-- a new value is written
present_moved : (ns : List (Option Val)) (ws : List Val) (k : ℕ) (v : Val) → length ns ≡ length ws → get_or ns k None ≡ Some v → present_values (set ns k None) (set ws k v) ≡ present_values ns ws
present_moved [] [] k v e h = refl
present_moved [] (w ∷ ws) k v e h = absurd (omega arith)
present_moved (n ∷ ns) [] k v e h = absurd (omega arith)
present_moved (n ∷ ns) (w ∷ ws) zero v e h = ap (λ o. present_value o w ∷ present_values ns ws) (sym h)
present_moved (n ∷ ns) (w ∷ ws) (suc k) v e h = ap (λ vs. present_value n w ∷ vs) (present_moved ns ws k v (omega arith) h)

-- where no signal has a new value, all are as they were written
pub none_present : (ns : List (Option Val)) (ws : List Val) → length ns ≡ length ws → ((k : ℕ) → HasNone ns k) → present_values ns ws ≡ map datum_of ws
none_present [] [] e h = refl
none_present [] (w ∷ ws) e h = absurd (omega arith)
none_present (n ∷ ns) [] e h = absurd (omega arith)
none_present (n ∷ ns) (w ∷ ws) e h = ap (λ o. present_value o w ∷ present_values ns ws) (h 0) ∙ ap (λ vs. datum_of w ∷ vs) (none_present ns ws (omega arith) (λ k. h (suc k)))

same_unchanged : (ns : List (Option Val)) (ws : List Val) (k : ℕ) → length ns ≡ length ws → HasNone ns k → IsSameAt (map datum_of ws) (present_values ns ws) k
same_unchanged [] [] k e h = λ d. refl
same_unchanged [] (w ∷ ws) k e h = absurd (omega arith)
same_unchanged (n ∷ ns) [] k e h = absurd (omega arith)
same_unchanged (n ∷ ns) (w ∷ ws) zero e h = λ d. ap (λ o. present_value o w) (sym h)
same_unchanged (n ∷ ns) (w ∷ ws) (suc k) e h = same_unchanged ns ws k (omega arith) h

-- one more signal without a new value
pub none_more : (ns : List (Option Val)) → ((k : ℕ) → HasNone ns k) → (k : ℕ) → HasNone (ns ++ None ∷ []) k
none_more [] h zero = refl
none_more [] h (suc k) = refl
none_more (n ∷ ns) h zero = h 0
none_more (n ∷ ns) h (suc k) = none_more ns (λ j. h (suc j)) k

none_cleared : (ns : List (Option Val)) (k : ℕ) → k < length ns → (j : ℕ) → HasNone ns j → HasNone (set ns k None) j
none_cleared ns k l j h = elim (cases_eq j k) [
  | inl s ↦ ap (λ n. get_or (set ns k None) n None) s ∙ get_or-set_same ns k None None l
  | inr other ↦ get_or-set_other ns k j None None other ∙ h
]

-- New values on their way: those that are not ahead any more are written, and the signals show what they showed.
pub record Moving (ks : List ℕ) (i : ℕ) (ns : List (Option Val)) (ws : List Val) (now : List Datum) : Type 0 where
  pub done : DoneBut ks i 0 (HasNone ns)
  pub level : length ns ≡ length ws
  pub values : present_values ns ws ≡ now

pub moving_start : (ks : List ℕ) (ns : List (Option Val)) (ws : List Val) → ((k : ℕ) → Contains ks k ⊎ HasNone ns k) → length ns ≡ length ws → Moving ks 0 ns ws (present_values ns ws)
moving_start ks ns ws h e = record { done = DoneBut-start ks 0 (HasNone ns) h; level = e; values = refl }

-- what is taken is the signal's new value
pub taken : (ns : List (Option Val)) (k : ℕ) (n t : Option Val) → k < length ns → n ≡ get_or ns k n → t ≡ n → get_or ns k None ≡ t
taken ns k n t l e s = get_or_default ns k None n l ∙ sym e ∙ sym s

as_it_was : (ns : List (Option Val)) (k : ℕ) (o : Option Val) → get_or ns k None ≡ None → o ≡ None → set ns k o ≡ ns
as_it_was ns k o h e = ap (set ns k) (e ∙ sym h) ∙ set-get_or ns k None

-- a signal without a new value is passed over
pub moving_over : (ks : List ℕ) (i : ℕ) (ns : List (Option Val)) (ws : List Val) (now : List Datum) (o : Option Val) → Moving ks i ns ws now → get_or ns (get_or ks i 0) None ≡ None → o ≡ None
    → Moving ks (i + 1) (set ns (get_or ks i 0) o) ws now
moving_over ks i ns ws now o m h e =
    subst (λ l. Moving ks (i + 1) l ws now) (sym (as_it_was ns (get_or ks i 0) o h e))
    (record { done = DoneBut-next ks i 0 0 (HasNone ns) m.done (omega arith) (λ _. h); level = m.level; values = m.values })

-- a new value is written
pub moving_on : (ks : List ℕ) (i : ℕ) (ns : List (Option Val)) (ws : List Val) (now : List Datum) (o : Option Val) (v : Val) → Moving ks i ns ws now → get_or ks i 0 < length ws
    → get_or ns (get_or ks i 0) None ≡ Some v → o ≡ None → Moving ks (i + 1) (set ns (get_or ks i 0) o) (set ws (get_or ks i 0) v) now
moving_on ks i ns ws now o v m l h e =
    let k = get_or ks i 0 in
    let inside : k < length ns = omega (arith, m.level) in
    subst (λ x. Moving ks (i + 1) (set ns k x) (set ws k v) now) (sym e)
    (record {
      done = DoneBut-next ks i 0 0 (HasNone (set ns k None)) (DoneBut-map ks i 0 (HasNone ns) (HasNone (set ns k None)) (none_cleared ns k inside) m.done) (omega arith)
          (λ _. get_or-set_same ns k None None inside);
      level = length-set ns k None ∙ m.level ∙ sym (length-set ws k v);
      values = present_moved ns ws k v m.level h ∙ m.values;
    })

pub moving_none : (ks : List ℕ) (i : ℕ) (ns : List (Option Val)) (ws : List Val) (now : List Datum) → Moving ks i ns ws now → length ks ≤ i → (k : ℕ) → HasNone ns k
moving_none ks i ns ws now m past k = DoneBut-end ks i 0 (HasNone ns) m.done past k (omega arith)

pub moving_end : (ks : List ℕ) (i : ℕ) (ns : List (Option Val)) (ws : List Val) (now : List Datum) → Moving ks i ns ws now → length ks ≤ i → map datum_of ws ≡ now
moving_end ks i ns ws now m past = sym (none_present ns ws m.level (moving_none ks i ns ws now m past)) ∙ m.values

pub moving_many : (ks : List ℕ) (i : ℕ) (ns first : List (Option Val)) (ws start : List Val) → Moving ks i ns ws (present_values first start) → length first ≡ length start → length ws ≡ length start
moving_many ks i ns first ws start m e = sym (length_present ns ws m.level) ∙ ap length m.values ∙ length_present first start e

-- The same while the lines of those that differ are put: those of the signals below `low` are.
pub record Putting (ks : List ℕ) (i : ℕ) (start to : Written) (whole : List ℕ) (ns : List (Option Val)) (ws : List Val) (now : List Datum) : Type 0 where
  pub moving : Moving ks i ns ws now
  pub low : ℕ
  pub below : (k : ℕ) → k < low → HasNone ns k
  pub within : low ≤ length ws
  pub text : Leaves start to (differing_lines low (drop low (map datum_of ws)) (drop low now)) whole

pub putting_start : (ks : List ℕ) (to : Written) (ns : List (Option Val)) (ws : List Val) → ((k : ℕ) → Contains ks k ⊎ HasNone ns k) → length ns ≡ length ws
    → Putting ks 0 to to (differing_lines 0 (map datum_of ws) (present_values ns ws)) ns ws (present_values ns ws)
putting_start ks to ns ws h e = record {
  moving = moving_start ks ns ws h e;
  low = 0;
  below = λ k l. absurd (omega arith);
  within = omega arith;
  text = all-left to (differing_lines 0 (map datum_of ws) (present_values ns ws)) (differing_lines 0 (map datum_of ws) (present_values ns ws)) refl;
}

pub putting_over : (ks : List ℕ) (i : ℕ) (start to : Written) (whole : List ℕ) (ns : List (Option Val)) (ws : List Val) (now : List Datum) (o : Option Val) → Putting ks i start to whole ns ws now
    → get_or ns (get_or ks i 0) None ≡ None → o ≡ None → Putting ks (i + 1) start to whole (set ns (get_or ks i 0) o) ws now
putting_over ks i start to whole ns ws now o p h e = record {
  moving = moving_over ks i ns ws now o p.moving h e;
  low = p.low;
  below = subst (λ l. (j : ℕ) → j < p.low → HasNone l j) (sym (as_it_was ns (get_or ks i 0) o h e)) p.below;
  within = p.within;
  text = p.text;
}

-- the line of a signal, if its values differ
abbrev pub line_if_differs : ℕ → Datum → Datum → List ℕ
line_if_differs k w v = cond (same_datum w v) [] (value_line k v)

pub putting_on : (ks : List ℕ) (i : ℕ) (start to after : Written) (whole : List ℕ) (ns : List (Option Val)) (ws : List Val) (now : List Datum) (o : Option Val) (w v : Val) → Putting ks i start to whole ns ws now → IsNonDecreasing ks
    → get_or ks i 0 < length ws → get_or ns (get_or ks i 0) None ≡ Some v → o ≡ None → w ≡ get_or ws (get_or ks i 0) w → Writes to after (line_if_differs (get_or ks i 0) (datum_of w) (datum_of v))
    → Putting ks (i + 1) start after whole (set ns (get_or ks i 0) o) (set ws (get_or ks i 0) v) now
putting_on ks i start to after whole ns ws now o w v p up l h none is g =
    let k = get_or ks i 0 in
    let old = map datum_of ws in
    let inside : k < length ns = omega (arith, p.moving.level) in
    let many : length now ≡ length ws = ap length (sym p.moving.values) ∙ length_present ns ws p.moving.level in
    let in_now : k < length now = omega (arith, many) in
    let in_old : k ≤ length old = omega (arith, length-map ws datum_of) in
    let low_first : p.low ≤ k = elim (le_or_lt p.low k) [
      | inl few ↦ few
      | inr more ↦ absurd (let no : None ≡ Some v = sym (p.below k more) ∙ h in cc)
    ] in
    let unchanged : (j : ℕ) → p.low ≤ j → j < k → IsSameAt old now j = λ j a b.
    subst (λ vs. IsSameAt old vs j) p.moving.values (same_unchanged ns ws j p.moving.level (DoneBut-below ks i 0 (HasNone ns) p.moving.done up j (omega arith) b)) in
    let at : get_or now k (datum_of v) ≡ datum_of v = ap (λ vs. get_or vs k (datum_of v)) (sym p.moving.values) ∙ present_at ns ws k (datum_of v) v p.moving.level l ∙ ap (λ o. present_value o (get_or ws k v)) h in
    let from_here : drop k now ≡ datum_of v ∷ drop (k + 1) now = drop_more now k (datum_of v) in_now ∙ ap (λ d. d ∷ drop (k + 1) now) at in
    let line : List ℕ = line_if_differs k (datum_of w) (datum_of v) in
    let rest : List ℕ = differing_lines (k + 1) (drop (k + 1) old) (drop (k + 1) now) in
    let lines : line ++ rest ≡ differing_lines p.low (drop p.low old) (drop p.low now) =
    ap (λ ds. differing_lines k ds (datum_of v ∷ drop (k + 1) now)) (sym (values_drop ws k w l is)) ∙ ap (differing_lines k (drop k old)) (sym from_here)
    ∙ passed_over (k - p.low) old now p.low k (omega arith) in_old (omega arith) unchanged in
    let cleared : (j : ℕ) → j < k + 1 → HasNone (set ns k None) j = λ j b. elim (cases_eq j k) [
      | inl s ↦ ap (λ n. get_or (set ns k None) n None) s ∙ get_or-set_same ns k None None inside
      | inr other ↦ none_cleared ns k inside j (DoneBut-below ks i 0 (HasNone ns) p.moving.done up j (omega arith) (omega arith))
    ] in
    record {
      moving = moving_on ks i ns ws now o v p.moving l h none;
      low = k + 1;
      below = subst (λ x. (j : ℕ) → j < k + 1 → HasNone (set ns k x) j) (sym none) cleared;
      within = omega (arith, length-set ws k v);
      text = less-left start to after line (differing_lines (k + 1) (drop (k + 1) (map datum_of (set ws k v))) (drop (k + 1) now))
          (differing_lines p.low (drop p.low old) (drop p.low now)) whole
          (sym lines ∙ ap (λ ds. line ++ differing_lines (k + 1) ds (drop (k + 1) now))
          (sym (ap (drop (k + 1)) (map-set datum_of ws k v) ∙ drop-set-lt (k + 1) old k (datum_of v) (omega arith)))) g p.text;
    }

no_lines : (k : ℕ) (vs : List Datum) → differing_lines k vs vs ≡ []
no_lines k [] = refl
no_lines k (v ∷ vs) = ap (λ b. cond b [] (value_line k v) ++ differing_lines (k + 1) vs vs) (same_datum-refl v) ∙ no_lines (k + 1) vs

pub putting_end : (ks : List ℕ) (i : ℕ) (start to : Written) (whole : List ℕ) (ns : List (Option Val)) (ws : List Val) (now : List Datum) → Putting ks i start to whole ns ws now → length ks ≤ i
    → Writes start to whole
putting_end ks i start to whole ns ws now p past =
    let same : drop p.low (map datum_of ws) ≡ drop p.low now = ap (drop p.low) (moving_end ks i ns ws now p.moving past) in
    none-left start to (differing_lines p.low (drop p.low (map datum_of ws)) (drop p.low now)) whole
    (ap (λ ds. differing_lines p.low ds (drop p.low now)) same ∙ no_lines p.low (drop p.low now)) p.text

-- the line of a signal, by the test that its values differ
pub other_line : (k : ℕ) (w v : Datum) (to after : Written) → true ≡ not (same_datum w v) → Writes to after (value_line k v) → Writes to after (line_if_differs k w v)
other_line k w v to after other g = subst (λ b. Writes to after (cond b [] (value_line k v))) (sym (from_not (same_datum w v) true other)) g

pub same_line : (k : ℕ) (w v : Datum) (to : Written) → false ≡ not (same_datum w v) → Writes to to (line_if_differs k w v)
same_line k w v to same = subst (λ b. Writes to to (cond b [] (value_line k v))) (sym (from_not (same_datum w v) false same)) (λ whole. (whole, sym (append-nil to.items)))

-- a signal has a new value, and is listed
listed_more : (ns : List (Option Val)) (ks : List ℕ) (k : ℕ) (n : Option Val) (v : Val) → ((j : ℕ) → Contains ks j ⊎ HasNone ns j) → k < length ns → get_or ns k None ≡ n
    → (j : ℕ) → Contains (with_number n k ks) j ⊎ HasNone (set ns k (Some v)) j
listed_more ns ks k n v h l e j = elim (cases_eq j k) [ inl s ↦ inl (subst (Contains (with_number n k ks)) (sym s) (here n e)) | inr other ↦ there n (h j) other ]
  where
    here : (m : Option Val) → get_or ns k None ≡ m → Contains (with_number m k ks) k
    here None is = Contains-push ks k
    here (Some x) is = elim (h k) [ inl c ↦ c | inr none ↦ absurd (let no : None ≡ Some x = sym none ∙ is in cc) ]

    there : (m : Option Val) → Contains ks j ⊎ HasNone ns j → j ≢ k → Contains (with_number m k ks) j ⊎ HasNone (set ns k (Some v)) j
    there None (inl c) other = inl (Contains-append_left ks (k ∷ []) j c)
    there (Some x) (inl c) other = inl c
    there m (inr none) other = inr (get_or-set_other ns k j (Some v) None other ∙ none)

within_more : (ks : List ℕ) (k count : ℕ) (n : Option Val) → All (λ (j : ℕ). j < count) ks → k < count → All (λ (j : ℕ). j < count) (with_number n k ks)
within_more ks k count None h l = All-push (λ (j : ℕ). j < count) ks k h l
within_more ks k count (Some x) h l = h

pub noted_more : (c next : Changed) (count k : ℕ) (n : Option Val) (v : Val) → ChangesAreListed c count → k < length c.values.items → n ≡ get_or c.values.items k n
    → next.numbers.items ≡ with_number n k c.numbers.items → next.values.items ≡ set c.values.items k (Some v) → ChangesAreListed next count
noted_more c next count k n v is l e numbers values = record {
  level = ap length values ∙ length-set c.values.items k (Some v) ∙ is.level;
  within = subst (All (λ (j : ℕ). j < count)) (sym numbers) (within_more c.numbers.items k count n is.within (omega (arith, is.level)));
  listed = λ j.
      subst (λ ks. Contains ks j ⊎ HasNone next.values.items j) (sym numbers)
      (subst (λ ns. Contains (with_number n k c.numbers.items) j ⊎ HasNone ns j) (sym values)
      (listed_more c.values.items c.numbers.items k n v is.listed l (get_or_default c.values.items k None n l ∙ sym e) j));
}

pub none_other : (n : Option Val) (w : Val) → n ≡ None → false ≡ not (same_datum (datum_of w) (present_value n w))
none_other n w e = ap not (sym (same_datum-refl (datum_of w))) ∙ ap (λ x. not (same_datum (datum_of w) (present_value x w))) (sym e)

-- a signal of which the values do not differ
pub same_here : (ns : List (Option Val)) (ws : List Val) (k : ℕ) (n : Option Val) (w : Val) → length ns ≡ length ws → k < length ws → n ≡ get_or ns k n → w ≡ get_or ws k w
    → false ≡ not (same_datum (datum_of w) (present_value n w)) → IsSameAt (map datum_of ws) (present_values ns ws) k
same_here ns ws k n w e l en ew same = λ d.
    let inside : k < length ns = omega (arith, e) in
    let is : datum_of w ≡ present_value n w = same_datum-is (datum_of w) (present_value n w) (from_not (same_datum (datum_of w) (present_value n w)) false same) in
    get_or-map datum_of ws k w d l ∙ ap datum_of (sym ew) ∙ is ∙ ap (λ o. present_value o w) (en ∙ get_or_default ns k n None inside) ∙ ap (present_value (get_or ns k None)) ew ∙ sym (present_at ns ws k d w e l)

-- a signal of which they do
pub differs_here : (ns : List (Option Val)) (ws : List Val) (k : ℕ) (n : Option Val) (w : Val) → length ns ≡ length ws → k < length ws → n ≡ get_or ns k n → w ≡ get_or ws k w
    → true ≡ not (same_datum (datum_of w) (present_value n w)) → true ≡ any_differs (map datum_of ws) (present_values ns ws)
differs_here ns ws k n w e l en ew other =
    let inside : k < length ns = omega (arith, e) in
    let in_old : k < length (map datum_of ws) = omega (arith, length-map ws datum_of) in
    let in_now : k < length (present_values ns ws) = omega (arith, length_present ns ws e) in
    differs_at (map datum_of ws) (present_values ns ws) k (datum_of w) (present_value n w) in_old in_now (get_or-map datum_of ws k w (datum_of w) l ∙ ap datum_of (sym ew))
    (present_at ns ws k (present_value n w) w e l ∙ ap (λ o. present_value o (get_or ws k w)) (sym (en ∙ get_or_default ns k n None inside)) ∙ ap (present_value n) (sym ew))
    (from_not (same_datum (datum_of w) (present_value n w)) true other)

-- all signals are the same, those that have changed being looked at
pub none_differs : (ks : List ℕ) (i : ℕ) (ns : List (Option Val)) (ws : List Val) → DoneBut ks i 0 (IsSameAt (map datum_of ws) (present_values ns ws)) → length ns ≡ length ws → length ks ≤ i
    → false ≡ any_differs (map datum_of ws) (present_values ns ws)
none_differs ks i ns ws h e past =
    let same : map datum_of ws ≡ present_values ns ws =
    all_same (map datum_of ws) (present_values ns ws) (length-map ws datum_of ∙ sym (length_present ns ws e)) (λ k. DoneBut-end ks i 0 (IsSameAt (map datum_of ws) (present_values ns ws)) h past k (omega arith)) in
    same_differ (present_values ns ws) ∙ ap (λ l. any_differs l (present_values ns ws)) (sym same)

pub unchanged_but : (ks : List ℕ) (ns : List (Option Val)) (ws : List Val) → ((k : ℕ) → Contains ks k ⊎ HasNone ns k) → length ns ≡ length ws → DoneBut ks 0 0 (IsSameAt (map datum_of ws) (present_values ns ws))
unchanged_but ks ns ws h e = DoneBut-start ks 0 _ (λ k. elim (h k) [ inl c ↦ inl c | inr n ↦ inr (same_unchanged ns ws k e n) ])
