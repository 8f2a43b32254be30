-- What a waveform has still to write, after a frame more.
use Rattle.std.proofs.Common.{◌≡◌, ℕ, ◌≤◌, Bool, true, List, [], ◌∷◌, length, set, map, ap, sym, ◌∙◌, Option, Some, subst, arith}
use Rattle.std.specs.Prelude.{Result, Ok, Err, OnOk}
use Rattle.std.proofs.lemmas.List.{set_past}
use Rattle.std.specs.declared.vec.Vec.{Vec}
use Rattle.std.specs.Global.{Global}
use Rattle.lh_text_buffer.specs.Writing.{Written, Writes, Leaves}
use Rattle.lh_text_buffer.proofs.Parts.{all-left}
use Rattle.lh_types.specs.Values.{Datum}
use Rattle.lh_types.specs.ValueOf.{datum_of}
use Rattle.lh_types.specs.Pictures.{showing_of}
use Rattle.lh_types.specs.declared.frame.Change.{Change}
use Rattle.lh_types.specs.declared.val.Val.{Val}
use Rattle.lh_wave.specs.declared.waveform.Waveform.{Waveform}
use Rattle.lh_wave.specs.declared.changed.Changed.{Changed}
use Rattle.lh_wave.specs.Changed.{ChangesAreListed, HasNone, present_values}
use Rattle.lh_wave.specs.WaveText.{WaveMoment}
use Rattle.lh_wave.specs.Recorded.{values_now, left_text, changed_values}
use Rattle.lh_wave.proofs.ChangedLemmas.{length_present, present_set, none_present}
use Rattle.lh_wave.proofs.ValueLines.{left_by, same_time, later_time, other_number}

abbrev pub moment_at : (fs : ℕ) → List Datum → WaveMoment
moment_at fs vs = record { fs = fs; values = vs }

-- a signal has a new value
pub set_on : {T E : Type 0} (r : Result T E) (ns next : List (Option Val)) (ws : List Val) (k : ℕ) (v x : Val) → length ns ≡ length ws → v ≡ x → OnOk r (next ≡ set ns k (Some v))
    → OnOk r (present_values next ws ≡ set (present_values ns ws) k (datum_of x))
set_on (Ok y) ns next ws k v x e c g = ap (λ l. present_values l ws) g ∙ present_set ns ws k v e ∙ ap (λ n. set (present_values ns ws) k (datum_of n)) c
set_on (Err y) ns next ws k v x e c g = tt

-- a change of no signal changes nothing
pub set_none : (ns : List (Option Val)) (ws : List Val) (k : ℕ) (v : Datum) → length ns ≡ length ws → length ns ≤ k → present_values ns ws ≡ set (present_values ns ws) k v
set_none ns ws k v e past =
    let few : length (present_values ns ws) ≤ k = omega (arith, length_present ns ws e) in
    sym (set_past (present_values ns ws) k v few)

-- the values are those that they were, all being written
pub same_moment : (c : Changed) (ws : List Val) (fs : ℕ) (now : List Datum) → ChangesAreListed c (length ws) → ((k : ℕ) → HasNone c.values.items k) → map datum_of ws ≡ now
    → moment_at fs (present_values c.values.items ws) ≡ moment_at fs now
same_moment c ws fs now noted none written = ap (moment_at fs) (none_present c.values.items ws noted.level none ∙ written)

pub same_moment_on : {T E : Type 0} (r : Result T E) (c : Changed) (ws : List Val) (fs : ℕ) (now : List Datum) → OnOk r (ChangesAreListed c (length ws)) → OnOk r ((k : ℕ) → HasNone c.values.items k)
    → OnOk r (map datum_of ws ≡ now) → OnOk r (moment_at fs (present_values c.values.items ws) ≡ moment_at fs now)
same_moment_on (Ok x) c ws fs now noted none written = same_moment c ws fs now noted none written
same_moment_on (Err x) c ws fs now noted none written = tt

-- what is left to be written, by what a waveform keeps
left_is : (n : Waveform) (fs : ℕ) (dumped : Bool) (written : Vec Val Global) → n.fs ≡ fs → n.dumped ≡ dumped → n.written ≡ written → (ms : List WaveMoment)
    → left_text n ms ≡ left_by dumped (map datum_of written.items) (record { fs = fs; values = values_now n }) ms
left_is n fs dumped written e d g ms =
    ap (λ (f : ℕ). left_by n.dumped (map datum_of n.written.items) (record { fs = f; values = values_now n }) ms) e
    ∙ ap (λ (b : Bool). left_by b (map datum_of n.written.items) (record { fs = fs; values = values_now n }) ms) d
    ∙ ap (λ (v : Vec Val Global). left_by dumped (map datum_of v.items) (record { fs = fs; values = values_now n }) ms) g

pub same_time_left : {T E : Type 0} (r : Result T E) (w n : Waveform) (at : ℕ) (to : Written) (shown all : List Change) → at ≡ w.fs → shown ≡ all
    → OnOk r (n.fs ≡ w.fs) → OnOk r (n.dumped ≡ w.dumped) → OnOk r (n.written ≡ w.written) → OnOk r (values_now n ≡ changed_values (values_now w) (map showing_of shown))
    → OnOk r ((ms : List WaveMoment) → Leaves to to (left_text n ms) (left_text w (record { fs = at; values = changed_values (values_now w) (map showing_of all) } ∷ ms)))
same_time_left (Ok x) w n at to shown all e s f d g v = λ ms.
    all-left to (left_text n ms) (left_text w (record { fs = at; values = changed_values (values_now w) (map showing_of all) } ∷ ms))
    (left_is n w.fs w.dumped w.written f d g ms
    ∙ same_time w.dumped (map datum_of w.written.items) w.fs at (values_now w) (values_now n) (changed_values (values_now w) (map showing_of all)) ms e (v
    ∙ ap (λ l. changed_values (values_now w) (map showing_of l)) s))
same_time_left (Err x) w n at to shown all e s f d g v = tt

pub later_time_left : {T E : Type 0} (r : Result T E) (w m n : Waveform) (at : ℕ) (start to : Written) (shown all : List Change) → (at ≡ w.fs → ⊥) → m.dumped ≡ true
    → map datum_of m.written.items ≡ values_now w
    → values_now m ≡ values_now w → Writes start to (left_text w []) → shown ≡ all
    → OnOk r (n.fs ≡ at) → OnOk r (n.dumped ≡ m.dumped) → OnOk r (n.written ≡ m.written) → OnOk r (values_now n ≡ changed_values (values_now m) (map showing_of shown))
    → OnOk r ((ms : List WaveMoment) → Leaves start to (left_text n ms) (left_text w (record { fs = at; values = changed_values (values_now w) (map showing_of all) } ∷ ms)))
later_time_left (Ok x) w m n at start to shown all other d g v t s f d' g' v' = λ ms.
    subst (λ (rest : List ℕ). Leaves start to rest (left_text w (record { fs = at; values = changed_values (values_now w) (map showing_of all) } ∷ ms)))
    (sym (left_is n at true m.written f (d' ∙ d) g' ms ∙ ap (λ (vs : List Datum). left_by true vs (record { fs = at; values = values_now n }) ms) g))
    (later_time w.dumped (map datum_of w.written.items) w.fs at (values_now w) (values_now n) (changed_values (values_now w) (map showing_of all)) start to ms (other_number w.fs at other)
    (v' ∙ ap (λ l. changed_values l (map showing_of shown)) v ∙ ap (λ l. changed_values (values_now w) (map showing_of l)) s) t)
later_time_left (Err x) w m n at start to shown all other d g v t s f d' g' v' = tt
