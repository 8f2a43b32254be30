-- A whole run: turn after turn, and what stands of it at its end.
use Rattle.std.proofs.Common.{◌≡◌, ℕ, suc, Bool, ◌||◌, List, [], ◌++◌, refl, ap, sym, ◌∙◌, append_assoc, subst, Option, Some, None}
use Rattle.std.specs.Prelude.{Result, Ok, Err, OnOk, IfErr}
use Rattle.std.specs.List.{list_any, flat_map}
use Rattle.std.proofs.lemmas.List.{append-nil}
use Rattle.lh_time.specs.declared.Instant.{Instant}
use Rattle.lh_types.specs.Values.{Datum}
use Rattle.lh_io.specs.Streams.{Appends}
use Rattle.lh_unit.specs.Arena.{Arena}
use Rattle.lh_unit.specs.World.{World, next_instant}
use Rattle.lh_unit.specs.Trace.{Shown, ShownSignal, Frame, at_bound}
use Rattle.lh_unit.specs.Frames.{pictures}
use Rattle.lh_design.specs.declared.Design.{Design}
use Rattle.lh_kernel.specs.Simulation.{Simulation, StandsFor}
use Rattle.lh_watch.specs.Members.{Member, report_of}
use Rattle.lh_watch.specs.Builtin.{has_failed}
use Rattle.lh_wave.specs.declared.scribe.Scribe.{Scribe}
use Rattle.lh_wave.specs.declared.teller.Teller.{Teller}
use Rattle.lh_wave.specs.declared.ending.End.{End}
use Rattle.lh_wave.specs.declared.run.WaveMode.{WaveMode}
use Rattle.lh_wave.specs.declared.run.WaveMode.TheVariants as mode
use Rattle.lh_wave.specs.declared.run.WaveFault.{WaveFault}
use Rattle.lh_wave.specs.declared.run.WaveFault.TheVariants.{OutOfMemory}
use Rattle.lh_wave.specs.ShownRun.{ShownRun, shown_behind, shows_none, end_of, any_failed, all_reports}
use Rattle.lh_wave.specs.RunText.{head_in, text_in}
use Rattle.lh_wave.specs.BrokenOff.{HaveSeen, no_more, BreaksOff}
use Rattle.lh_wave.specs.Going.{Going, Went, BrokeOff, GoesOn, TellingIsOver, Turned, going, shown_on, values_of_last, HasWrittenUpTo, scribe_in, text_left}
use Rattle.lh_wave.proofs.Courses.{went_on, stays_put, broke_on, told_both, behind_piece, broken_in_front, all_of}

-- what a turn comes to from every world that the simulation stands for
abbrev TurnsTo : Option End → Arena → Design → (s s' : Simulation) → (t t' : Teller) → (ms ms' : List Member) → (wr wr' : Option (List ℕ)) → (rp rp' : List ℕ) → Type 0
TurnsTo e a d s s' t t' ms ms' wr wr' rp rp' = (n : ℕ) (w : World) → StandsFor s w → HasWrittenUpTo t.scribe (values_of_last a d w)
    → Turned e a d n s' t' (going t (values_of_last a d w) ms (shown_on a d (suc n) w ms) wr rp) ms' wr' rp'

-- how a turn breaks off from every world that the simulation stands for
abbrev BreaksAt : WaveFault → Arena → Design → Simulation → Teller → (ms now : List Member) → (wr wr' : Option (List ℕ)) → (rp : List ℕ) → Type 0
BreaksAt f a d s t ms now wr wr' rp = (n : ℕ) (w : World) → StandsFor s w → HasWrittenUpTo t.scribe (values_of_last a d w)
    → BrokeOff (going t (values_of_last a d w) ms (shown_on a d (suc n) w ms) wr rp) f wr' now

pub course_start : (a : Arena) (d : Design) (m n : ℕ) (w : World) (s : Simulation) (t : Teller) (ms : List Member) (wr : Option (List ℕ)) (rp : List ℕ) → m ≡ n → StandsFor s w
    → HasWrittenUpTo t.scribe (values_of_last a d w)
    → GoesOn a d m s t (going t (values_of_last a d w) ms (shown_on a d n w ms) wr rp) ms wr rp
course_start a d m n w s t ms wr rp e st b = record {
  world = w;
  stands = st;
  behind = b;
  went = subst (λ (k : ℕ). Went (going t (values_of_last a d w) ms (shown_on a d n w ms) wr rp) (going t (values_of_last a d w) ms (shown_on a d k w ms) wr rp)) (sym e)
      (stays_put (going t (values_of_last a d w) ms (shown_on a d n w ms) wr rp));
}

module _ (a : Arena) (d : Design) (s s' : Simulation) (t t' : Teller) (ms ms' : List Member) (wr wr' : Option (List ℕ)) (rp rp' : List ℕ) (m n : ℕ) (start : Going) (ea : s.arena ≡ a)
    (ed : s.design ≡ d) (em : m ≡ suc n)
    (course : GoesOn a d m s t start ms wr rp) where
  to_here : Went start (going t (values_of_last a d course.world) ms (shown_on a d (suc n) course.world ms) wr rp)
  to_here = subst (λ (k : ℕ). Went start (going t (values_of_last a d course.world) ms (shown_on a d k course.world ms) wr rp)) em course.went

  turned : (e o : Option End) → e ≡ o → TurnsTo e s.arena s.design s s' t t' ms ms' wr wr' rp rp'
      → Turned o a d n s' t' (going t (values_of_last a d course.world) ms (shown_on a d (suc n) course.world ms) wr rp) ms' wr' rp'
  turned e o eo h =
      let one : TurnsTo e a s.design s s' t t' ms ms' wr wr' rp rp' = subst (λ (x : Arena). TurnsTo e x s.design s s' t t' ms ms' wr wr' rp rp') ea h in
      let two : TurnsTo e a d s s' t t' ms ms' wr wr' rp rp' = subst (λ (x : Design). TurnsTo e a x s s' t t' ms ms' wr wr' rp rp') ed one in
      let three : TurnsTo o a d s s' t t' ms ms' wr wr' rp rp' = subst (λ (x : Option End). TurnsTo x a d s s' t t' ms ms' wr wr' rp rp') eo two in
      three n course.world course.stands course.behind

  pub course_next : (e : Option End) → e ≡ None → TurnsTo e s.arena s.design s s' t t' ms ms' wr wr' rp rp' → GoesOn a d n s' t' start ms' wr' rp'
  course_next e eo h =
      let y = turned e None eo h in
      record {
        world = y.world;
        stands = y.stands;
        behind = y.behind;
        went = went_on start (going t (values_of_last a d course.world) ms (shown_on a d (suc n) course.world ms) wr rp)
            (going t' (values_of_last a d y.world) ms' (shown_on a d n y.world ms') wr' rp') to_here y.went;
      }

  pub course_over : (e : Option End) (end : End) → e ≡ Some end → TurnsTo e s.arena s.design s s' t t' ms ms' wr wr' rp rp' → TellingIsOver t' start end ms' wr' rp'
  course_over e end eo h =
      let y = turned e (Some end) eo h in
      record {
        before = y.before;
        behind = y.behind;
        went = went_on start (going t (values_of_last a d course.world) ms (shown_on a d (suc n) course.world ms) wr rp) (going t' y.before ms' (shows_none ms' end) wr' rp') to_here y.went;
      }

  pub course_broken : (f : WaveFault) → BreaksAt f s.arena s.design s t ms ms' wr wr' rp → BrokeOff start f wr' ms'
  course_broken f h =
      let one : BreaksAt f a s.design s t ms ms' wr wr' rp = subst (λ (x : Arena). BreaksAt f x s.design s t ms ms' wr wr' rp) ea h in
      let two : BreaksAt f a d s t ms ms' wr wr' rp = subst (λ (x : Design). BreaksAt f a x s t ms ms' wr wr' rp) ed one in
      broke_on start (going t (values_of_last a d course.world) ms (shown_on a d (suc n) course.world ms) wr rp) f wr' ms' to_here (two n course.world course.stands course.behind)

-- at the bound nothing more is shown
at_the_bound : (vals : Option (List Datum)) (ms : List Member) (o : Option Instant) → shown_behind vals (at_bound o).frames (at_bound o).end ms ≡ shows_none ms (end_of (at_bound o).end)
at_the_bound vals ms None = refl
at_the_bound vals ms (Some t) = refl

pub course_end : (a : Arena) (d : Design) (m : ℕ) (s : Simulation) (t : Teller) (start : Going) (ms : List Member) (wr : Option (List ℕ)) (rp : List ℕ) (end : End) → m ≡ 0
    → ((w : World) → StandsFor s w → end ≡ end_of (at_bound (next_instant w)).end) → GoesOn a d m s t start ms wr rp → TellingIsOver t start end ms wr rp
course_end a d m s t start ms wr rp end em h course =
    let here : Went start (going t (values_of_last a d course.world) ms (shown_on a d 0 course.world ms) wr rp) =
    subst (λ (k : ℕ). Went start (going t (values_of_last a d course.world) ms (shown_on a d k course.world ms) wr rp)) em course.went in
    let none : shown_on a d 0 course.world ms ≡ shows_none ms end =
    at_the_bound (values_of_last a d course.world) ms (next_instant course.world) ∙ ap (shows_none ms) (sym (h course.world course.stands)) in
    record {
      before = values_of_last a d course.world;
      behind = course.behind;
      went = subst (λ (r : ShownRun). Went start (going t (values_of_last a d course.world) ms r wr rp)) none here;
    }

pub behind_new : (m : WaveMode) (s : Scribe) → s ≡ scribe_in m → HasWrittenUpTo s None
behind_new mode.Trace s e = subst (λ (x : Scribe). HasWrittenUpTo x None) (sym e) tt
behind_new mode.Vcd s e = subst (λ (x : Scribe). HasWrittenUpTo x None) (sym e) refl

-- the head, and what follows it
parts : (m : WaveMode) (is : List Shown) (ss : List ShownSignal) (r : ShownRun) → head_in m is ss ++ text_left (scribe_in m) None r.frames r.left r.end ≡ text_in m is ss r
parts mode.Trace is ss r = sym (append_assoc (head_in mode.Trace is ss) _ _)
parts mode.Vcd is ss r = refl

whole : (m : WaveMode) (s : Scribe) (waits : List ℕ) (is : List Shown) (ss : List ShownSignal) (r : ShownRun) → s ≡ scribe_in m → waits ≡ []
    → head_in m is ss ++ (waits ++ text_left s None r.frames r.left r.end) ≡ text_in m is ss r
whole m s waits is ss r e z =
    ap (λ (l : List ℕ). head_in m is ss ++ (l ++ text_left s None r.frames r.left r.end)) z ∙ ap (λ (x : Scribe). head_in m is ss ++ text_left x None r.frames r.left r.end) e ∙ parts m is ss r

-- the head was not written whole
pub head_broken : (m : WaveMode) (is : List Shown) (ss : List ShownSignal) (r : ShownRun) (head : List ℕ) (f : WaveFault) (a b : Option (List ℕ)) → head ≡ head_in m is ss → BreaksOff f a b head
    → BreaksOff f a b (text_in m is ss r)
head_broken m is ss r head f a b e h =
    let one : BreaksOff f a b (head_in m is ss) = subst (BreaksOff f a b) e h in
    subst (BreaksOff f a b) (parts m is ss r) (broken_in_front f a b (head_in m is ss) (text_left (scribe_in m) None r.frames r.left r.end) one)

module _ {T : Type 0} (res : Result T WaveFault) (m : WaveMode) (is : List Shown) (ss : List ShownSignal) (r : ShownRun) (t : Teller) (a b : Option (List ℕ)) (head : List ℕ)
    (sc : t.scribe ≡ scribe_in m) (te : t.text.items ≡ []) (eh : head ≡ head_in m is ss) (h : Appends a b head) where
  head_told : Appends a b (head_in m is ss)
  head_told = subst (Appends a b) eh h

  abbrev behind_head : List ℕ
  behind_head = t.text.items ++ text_left t.scribe None r.frames r.left r.end

  -- behind the head the rest was written, or broke off
  pub whole_told : (c : Option (List ℕ)) → OnOk res (Appends b c behind_head) → OnOk res (Appends a c (text_in m is ss r))
  whole_told c k = at res k
    where
      at : (x : Result T WaveFault) → OnOk x (Appends b c behind_head) → OnOk x (Appends a c (text_in m is ss r))
      at (Ok _) k = subst (Appends a c) (whole m t.scribe t.text.items is ss r sc te) (told_both a b c (head_in m is ss) behind_head head_told k)
      at (Err _) k = tt

  pub whole_broken : (c : Option (List ℕ)) (ms now : List Member) (rp : List ℕ) → IfErr res (λ f. BrokeOff (going t None ms r b rp) f c now)
      → IfErr res (λ f. BreaksOff f a c (text_in m is ss r) × HaveSeen (pictures None r.frames) ms now)
  whole_broken c ms now rp k = at res k
    where
      at : (x : Result T WaveFault) → IfErr x (λ f. BrokeOff (going t None ms r b rp) f c now) → IfErr x (λ f. BreaksOff f a c (text_in m is ss r) × HaveSeen (pictures None r.frames) ms now)
      at (Ok _) k = tt
      at (Err f) k = (subst (BreaksOff f a c) (whole m t.scribe t.text.items is ss r sc te) (behind_piece f a b c (head_in m is ss) behind_head head_told k.text), k.seen)

module _ (r : ShownRun) (t : Teller) (ms : List Member) (b : Option (List ℕ)) (rp : List ℕ) (t' : Teller) (ms' : List Member) (b' : Option (List ℕ)) (rp' : List ℕ) (end : End)
    (over : TellingIsOver t' (going t None ms r b rp) end ms' b' rp') where
  abbrev all_of_it : List ℕ
  all_of_it = t.text.items ++ text_left t.scribe None r.frames r.left r.end

  abbrev last : List ℕ
  last = t'.text.items ++ text_left t'.scribe over.before [] ms' end

  all_seen : HaveSeen (pictures None r.frames) ms ms'
  all_seen = over.went.seen ms' (no_more [] ms')

  pub last_broken : (f : WaveFault) (c : Option (List ℕ)) → ((before : Option (List Datum)) → BreaksOff f b' c (t'.text.items ++ text_left t'.scribe before [] ms' end))
      → BrokeOff (going t None ms r b rp) f c ms'
  last_broken f c k = record { text = subst (BreaksOff f b c) (sym over.went.text) (behind_piece f b b' c over.went.piece last over.went.told (k over.before)); seen = all_seen }

  pub all_told : (c : Option (List ℕ)) → ((before : Option (List Datum)) → Appends b' c (t'.text.items ++ text_left t'.scribe before [] ms' end)) → Appends b c all_of_it
  all_told c k = subst (Appends b c) (sym over.went.text) (told_both b b' c over.went.piece last over.went.told (k over.before))

  -- memory ran out behind the whole text
  pub reports_broken : (f : WaveFault) (c : Option (List ℕ)) → f ≡ OutOfMemory → ((before : Option (List Datum)) → Appends b' c (t'.text.items ++ text_left t'.scribe before [] ms' end))
      → BrokeOff (going t None ms r b rp) f c ms'
  reports_broken f c o k = record { text = subst (BreaksOff f b c) (append-nil all_of_it) (all_of f b c all_of_it [] o (all_told c k)); seen = all_seen }

  since_all : over.went.since ≡ r.frames
  since_all = sym (append-nil over.went.since) ∙ sym over.went.frames

  pub ended_so : end ≡ r.end
  ended_so = sym over.went.end

  pub failed_so : (now : Bool) → now ≡ t'.failed → now ≡ (t.failed || any_failed r)
  failed_so now e = e ∙ over.went.failed ∙ ap (λ (fs : List Frame). t.failed || list_any (λ (x : Frame). has_failed x.outcomes) fs) since_all

  pub left_so : ms' ≡ r.left
  left_so = sym over.went.left

  pub reported_so : (rp'' : List ℕ) (xs : List Member) → xs ≡ ms' → rp'' ≡ rp' ++ flat_map report_of xs → rp'' ≡ rp ++ all_reports r
  reported_so rp'' xs x e =
      let done : over.went.done ≡ r.done = sym (append-nil over.went.done) ∙ sym over.went.reported in
      e ∙ ap (λ l. l ++ flat_map report_of xs) (over.went.reports ∙ ap (λ l. rp ++ l) done) ∙ append_assoc rp r.done (flat_map report_of xs)
      ∙ ap (λ (ys : List Member). rp ++ (r.done ++ flat_map report_of ys)) (x ∙ left_so)
