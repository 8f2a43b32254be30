-- Values of the program written one behind the other, and the text that is left.
use Rattle.std.proofs.Common.{◌≡◌, ℕ, zero, suc, ◌+◌, ◌<◌, ◌≤◌, Bool, true, false, not, List, [], ◌∷◌, ◌++◌, length, get_or, set, drop, take, map, refl, ap, sym, ◌∙◌, cond, eq-eqb, subst, arith}
use Rattle.std.specs.Prelude.{nat_eq, ◌||◌, Result, Ok, Err, OnOk}
use Rattle.std.proofs.lemmas.Bool.Decides.{nat_tests}
use Rattle.std.proofs.lemmas.List.{append-nil, drop_all, drop_more, take_more, map-append, length-map, get_or-map}
use Rattle.std.proofs.Math.Bool.{or-true}
use Rattle.lh_text_buffer.specs.Writing.{Written, Writes, Leaves}
use Rattle.lh_text_buffer.proofs.Parts.{less-left, none-left, two-written}
use Rattle.lh_wave.proofs.Joined.{first_left}
use Rattle.lh_types.specs.Values.{Datum, int_value}
use Rattle.lh_types.specs.ValueOf.{datum_of}
use Rattle.lh_types.specs.SameValue.{same_datum}
use Rattle.lh_types.specs.SameValueLaws.{same_datum-refl}
use Rattle.lh_types.specs.Pictures.{showing_of}
use Rattle.lh_types.specs.declared.val.Val.{Val}
use Rattle.lh_types.specs.declared.frame.Change.{Change}
use Rattle.lh_wave.specs.WaveText.{WaveMoment, value_line, all_lines, differing_lines, time_line, any_differs, changes_at, dump_at, changes_text, dump_text, lasts_from}
use Rattle.lh_wave.specs.Recorded.{changed_values}

-- the values from a place on
pub values_drop : (vs : List Val) (i : ℕ) (v : Val) → i < length vs → v ≡ get_or vs i v → drop i (map datum_of vs) ≡ datum_of v ∷ drop (i + 1) (map datum_of vs)
values_drop vs i v h e =
    let l : i < length (map datum_of vs) = omega (arith, length-map vs datum_of) in
    let at : get_or (map datum_of vs) i (datum_of v) ≡ datum_of v = get_or-map datum_of vs i v (datum_of v) h ∙ ap datum_of (sym e) in
    drop_more (map datum_of vs) i (datum_of v) l ∙ ap (λ d. d ∷ drop (i + 1) (map datum_of vs)) at

values_end : (vs : List Val) (i : ℕ) → length vs ≤ i → drop i (map datum_of vs) ≡ []
values_end vs i h = let l : length (map datum_of vs) ≤ i = omega (arith, length-map vs datum_of) in drop_all i (map datum_of vs) l

-- the lines of all signals, written from the first on
abbrev pub AllWriting : (start to : Written) → List Val → ℕ → Type 0
AllWriting start to vs i = Leaves start to (all_lines i (drop i (map datum_of vs))) (all_lines 0 (map datum_of vs))

pub AllWriting-next : (start to next : Written) (vs : List Val) (i : ℕ) (v : Val) → AllWriting start to vs i → i < length vs → v ≡ get_or vs i v → Writes to next (value_line i (datum_of v))
    → AllWriting start next vs (i + 1)
AllWriting-next start to next vs i v w h e g =
    less-left start to next (value_line i (datum_of v)) (all_lines (i + 1) (drop (i + 1) (map datum_of vs))) (all_lines i (drop i (map datum_of vs))) (all_lines 0 (map datum_of vs))
    (ap (all_lines i) (values_drop vs i v h e)) g w

pub AllWriting-end : (start to : Written) (vs : List Val) (i : ℕ) → AllWriting start to vs i → length vs ≤ i → Writes start to (all_lines 0 (map datum_of vs))
AllWriting-end start to vs i w h = none-left start to (all_lines i (drop i (map datum_of vs))) (all_lines 0 (map datum_of vs)) (ap (all_lines i) (values_end vs i h)) w

-- the values of some changes, and of one more
pub values_more : (vs more : List Val) (cs : List Change) (i : ℕ) (c : Change) (v : Val) → map datum_of vs ≡ map (λ x. datum_of x.value) (take i cs) → i < length cs → c ≡ get_or cs i c → v ≡ c.value
    → more ≡ vs ++ v ∷ [] → map datum_of more ≡ map (λ x. datum_of x.value) (take (i + 1) cs)
values_more vs more cs i c v w h e s g =
    let value : Change → Datum = λ x. datum_of x.value in
    ap (map datum_of) g ∙ map-append datum_of vs (v ∷ []) ∙ ap (λ l. l ++ datum_of v ∷ []) w ∙ ap (λ x. map value (take i cs) ++ datum_of x ∷ []) s
    ∙ ap (λ x. map value (take i cs) ++ value x ∷ []) e ∙ sym (map-append value (take i cs) (get_or cs i c ∷ [])) ∙ ap (map value) (sym (take_more cs i c h))

pub differs_at : (old now : List Datum) (k : ℕ) (w v : Datum) → k < length old → k < length now → get_or old k w ≡ w → get_or now k v ≡ v → same_datum w v ≡ false → true ≡ any_differs old now
differs_at [] now k w v lw lv ew ev e = absurd (omega arith)
differs_at (x ∷ old) [] k w v lw lv ew ev e = absurd (omega arith)
differs_at (x ∷ old) (y ∷ now) zero w v lw lv ew ev e = let d : same_datum x y ≡ false = ap (λ z. same_datum z y) ew ∙ ap (same_datum w) ev ∙ e in ap (λ b. not b || any_differs old now) (sym d)
differs_at (x ∷ old) (y ∷ now) (suc k) w v lw lv ew ev e = sym (or-true (not (same_datum x y))) ∙ ap (λ b. not (same_datum x y) || b) (differs_at old now k w v (omega arith) (omega arith) ew ev e)

pub same_differ : (vs : List Datum) → false ≡ any_differs vs vs
same_differ [] = refl
same_differ (v ∷ vs) = same_differ vs ∙ ap (λ b. not b || any_differs vs vs) (sym (same_datum-refl v))

-- a signal has the same value in two lists
abbrev pub IsSameAt : (old now : List Datum) → ℕ → Type 0
IsSameAt old now k = (v : Datum) → get_or old k v ≡ get_or now k v

-- values that are the same in both lists have no lines
pub passed_over : (n : ℕ) (old now : List Datum) (low k : ℕ) → low + n ≡ k → k ≤ length old → k ≤ length now → ((j : ℕ) → low ≤ j → j < k → IsSameAt old now j)
    → differing_lines k (drop k old) (drop k now) ≡ differing_lines low (drop low old) (drop low now)
passed_over zero old now low k e lo ln h = let s : k ≡ low = omega arith in ap (λ m. differing_lines m (drop m old) (drop m now)) s
passed_over (suc n) old now low k e lo ln h =
    let in_old : low < length old = omega arith in
    let in_now : low < length now = omega arith in
    let d = get_or old low (int_value 0 0) in
    let same : same_datum d (get_or now low (int_value 0 0)) ≡ true = ap (same_datum d) (sym (h low (omega arith) (omega arith) (int_value 0 0))) ∙ same_datum-refl d in
    passed_over n old now (low + 1) k (omega arith) lo ln (λ j l m. h j (omega arith) m)
    ∙ ap (λ b. cond b [] (value_line low (get_or now low (int_value 0 0))) ++ differing_lines (low + 1) (drop (low + 1) old) (drop (low + 1) now)) (sym same)
    ∙ ap (λ ds. differing_lines low (d ∷ drop (low + 1) old) ds) (sym (drop_more now low (int_value 0 0) in_now))
    ∙ ap (λ ds. differing_lines low ds (drop low now)) (sym (drop_more old low (int_value 0 0) in_old))

-- the values after some of the changes
abbrev pub Changing : (start now : List Datum) → List Change → ℕ → Type 0
Changing start now cs i = changed_values now (map showing_of (drop i cs)) ≡ changed_values start (map showing_of cs)

pub Changing-next : (start now next : List Datum) (cs : List Change) (i : ℕ) (c : Change) → Changing start now cs i → i < length cs → c ≡ get_or cs i c → next ≡ set now c.signal (datum_of c.value)
    → Changing start next cs (i + 1)
Changing-next start now next cs i c p h e g =
    ap (λ l. changed_values l (map showing_of (drop (i + 1) cs))) g
    ∙ ap (λ l. changed_values now (map showing_of l)) (sym (drop_more cs i c h ∙ ap (λ x. x ∷ drop (i + 1) cs) (sym e))) ∙ p

pub Changing-end : (start now : List Datum) (cs : List Change) (i : ℕ) → Changing start now cs i → length cs ≤ i → now ≡ changed_values start (map showing_of cs)
Changing-end start now cs i p h = ap (λ l. changed_values now (map showing_of l)) (sym (drop_all i cs h)) ∙ p

-- what is left to be written, by whether the first time is written
abbrev pub left_by : (dumped : Bool) → (written : List Datum) → WaveMoment → List WaveMoment → List ℕ
left_by dumped written m ms = cond dumped (changes_text written (lasts_from m ms)) (dump_text (lasts_from m ms))

-- a frame of the same time takes the place of the one before
pub same_time : (dumped : Bool) (written : List Datum) (fs at : ℕ) (now next changed : List Datum) (ms : List WaveMoment) → at ≡ fs → next ≡ changed
    → left_by dumped written (record { fs = fs; values = next }) ms ≡ left_by dumped written (record { fs = fs; values = now }) (record { fs = at; values = changed } ∷ ms)
same_time dumped written fs at now next changed ms e g =
    ap (λ n. left_by dumped written (record { fs = fs; values = n }) ms) g
    ∙ ap (λ f. left_by dumped written (record { fs = f; values = changed }) ms) (sym e)
    ∙ ap (λ b. cond dumped (changes_text written
    (cond b (lasts_from (record { fs = at; values = changed }) ms) (record { fs = fs; values = now } ∷ lasts_from (record { fs = at; values = changed }) ms)))
    (dump_text (cond b (lasts_from (record { fs = at; values = changed }) ms) (record { fs = fs; values = now } ∷ lasts_from (record { fs = at; values = changed }) ms))))
    (sym (eq-eqb fs at (sym e)))

left_over : (dumped : Bool) (written : List Datum) (m : WaveMoment) (more : List WaveMoment) → cond dumped (changes_text written (m ∷ more)) (dump_text (m ∷ more)) ≡ left_by dumped written m []
    ++ changes_text m.values more
left_over true written m more = ap (λ l. l ++ changes_text m.values more) (sym (append-nil (changes_at written m)))
left_over false written m more = ap (λ l. l ++ changes_text m.values more) (sym (append-nil (dump_at m)))

-- at a later time what was left is written
pub later_time : (dumped : Bool) (written : List Datum) (fs at : ℕ) (now next changed : List Datum) (start to : Written) (ms : List WaveMoment) → nat_eq fs at ≡ false → next ≡ changed
    → Writes start to (left_by dumped written (record { fs = fs; values = now }) [])
    → Leaves start to (left_by true now (record { fs = at; values = next }) ms) (left_by dumped written (record { fs = fs; values = now }) (record { fs = at; values = changed } ∷ ms))
later_time dumped written fs at now next changed start to ms e g t =
    let m : WaveMoment = record { fs = fs; values = now } in
    let n : WaveMoment = record { fs = at; values = changed } in
    first_left start to (left_by dumped written m []) (left_by true now (record { fs = at; values = next }) ms) (left_by dumped written m (n ∷ ms))
    (ap (λ b. cond dumped (changes_text written (cond b (lasts_from n ms) (m ∷ lasts_from n ms))) (dump_text (cond b (lasts_from n ms) (m ∷ lasts_from n ms)))) e
    ∙ left_over dumped written m (lasts_from n ms)
    ∙ ap (λ vs. left_by dumped written m [] ++ left_by true now (record { fs = at; values = vs }) ms) (sym g))
    t

pub shown_values : (cs : List Change) → map (λ c. datum_of c.value) cs ≡ map (λ s. s.value) (map showing_of cs)
shown_values [] = refl
shown_values (c ∷ cs) = ap (λ l. datum_of c.value ∷ l) (shown_values cs)

pub from_not : (b t : Bool) → t ≡ not b → b ≡ not t
from_not true t e = ap not (sym e)
from_not false t e = ap not (sym e)

pub other_number : (m n : ℕ) → (n ≡ m → ⊥) → nat_eq m n ≡ false
other_number m n h = grind (arith, nat_tests)

pub values_on : {T E : Type 0} (r : Result T E) (now now' next : List Datum) (shown all : List Change) → now' ≡ now → shown ≡ all → OnOk r (next ≡ changed_values now' (map showing_of shown))
    → OnOk r (next ≡ changed_values now (map showing_of all))
values_on (Ok x) now now' next shown all n e g = g ∙ ap (λ l. changed_values l (map showing_of shown)) n ∙ ap (λ l. changed_values now (map showing_of l)) e
values_on (Err x) now now' next shown all n e g = tt

pub left_first : (dumped : Bool) (written : List Datum) (m : WaveMoment) (to next : Written) → dumped ≡ false → Writes to next (dump_at m) → Writes to next (left_by dumped written m [])
left_first dumped written m to next d g = subst (Writes to next) (sym (append-nil (dump_at m)) ∙ ap (λ b. left_by b written m []) (sym d)) g

-- no value differs, so there is no line
none_differ : (k : ℕ) (old now : List Datum) → any_differs old now ≡ false → differing_lines k old now ≡ []
none_differ k [] now e = refl
none_differ k (x ∷ old) [] e = refl
none_differ k (x ∷ old) (y ∷ now) e = by (same_datum x y) refl (none_differ (k + 1) old now)
  where
    by : (b : Bool) → same_datum x y ≡ b → (any_differs old now ≡ false → differing_lines (k + 1) old now ≡ []) → differing_lines k (x ∷ old) (y ∷ now) ≡ []
    by true s h = ap (λ b. cond b [] (value_line k y) ++ differing_lines (k + 1) old now) s ∙ h (ap (λ b. not b || any_differs old now) (sym s) ∙ e)
    by false s h = absurd (let no : true ≡ false = ap (λ b. not b || any_differs old now) (sym s) ∙ e in cc)

changed_lines : (b : Bool) (written : List Datum) (m : WaveMoment) → b ≡ any_differs written m.values → cond b (time_line m.fs) [] ++ differing_lines 0 written m.values ≡ changes_at written m
changed_lines true written m e = ap (λ t. cond t (time_line m.fs ++ differing_lines 0 written m.values) []) e
changed_lines false written m e =
    none_differ 0 written m.values (sym e) ∙ ap (λ t. cond t (time_line m.fs ++ differing_lines 0 written m.values) []) e

-- a later time is written, with its lines
pub left_changed : {T E : Type 0} (r : Result T E) (dumped b : Bool) (written : List Datum) (m : WaveMoment) (to timed next : Written) → dumped ≡ true → b ≡ any_differs written m.values
    → Writes to timed (cond b (time_line m.fs) []) → OnOk r (Writes timed next (differing_lines 0 written m.values)) → OnOk r (Writes to next (left_by dumped written m []))
left_changed (Ok x) dumped b written m to timed next d e t g =
    subst (Writes to next) (changed_lines b written m e ∙ sym (append-nil (changes_at written m)) ∙ ap (λ f. left_by f written m []) (sym d))
    (two-written to timed next (cond b (time_line m.fs) []) (differing_lines 0 written m.values) t g)
left_changed (Err x) dumped b written m to timed next d e t g = tt
