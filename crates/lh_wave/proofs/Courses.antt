-- A run from one of its points to a later one, and where it broke off.
use Rattle.std.proofs.Common.{◌≡◌, ℕ, ◌+◌, ◌≤◌, Bool, true, ◌||◌, List, [], ◌∷◌, ◌++◌, length, take, drop, refl, ap, sym, ◌∙◌, append_assoc, subst, Option, Some, None, arith}
use Rattle.std.specs.Prelude.{Result, Ok, Err, OnOk, IfErr, IsErrOf}
use Rattle.std.specs.List.{list_any}
use Rattle.std.proofs.lemmas.List.{append-nil, length-append, take-append-drop, take-append-le}
use Rattle.std.proofs.Math.Seq.{take-append-add, take-append_seam}
use Rattle.std.proofs.lemmas.List.Folds.{list_any-append}
use Rattle.std.proofs.Math.Bool.{or_assoc, or-false}
use Rattle.lh_text_buffer.specs.Writing.{Written, Writes, Leaves}
use Rattle.lh_types.specs.declared.frame.Outcome.{Outcome}
use Rattle.lh_types.specs.declared.frame.Frame as frames
use Rattle.lh_types.specs.Values.{Datum}
use Rattle.lh_types.specs.Pictures.{Picture, picture}
use Rattle.lh_io.specs.Streams.{Rose, Appends, AppendsProperPrefix}
use Rattle.lh_unit.specs.Trace.{Frame}
use Rattle.lh_unit.specs.Frames.{pictures, picture_by}
use Rattle.lh_watch.specs.Members.{Member}
use Rattle.lh_watch.specs.Builtin.{has_failed}
use Rattle.lh_watch.specs.Shown.{shown, reports_of, IsPartlyShown}
use Rattle.lh_wave.proofs.Joined.{first_left}
use Rattle.lh_wave.specs.declared.scribe.Scribe.{Scribe}
use Rattle.lh_wave.specs.declared.teller.Teller.{Teller}
use Rattle.lh_wave.specs.declared.run.WaveFault.{WaveFault}
use Rattle.lh_wave.specs.declared.run.WaveFault.TheVariants.{WriteFault, OutOfMemory}
use Rattle.lh_wave.specs.declared.ending.End.{End}
use Rattle.lh_wave.specs.ShownRun.{ShownRun}
use Rattle.lh_wave.specs.BrokenOff.{HaveSeen, no_more, in_part, one_more, AppendsPrefix, BreaksOff}
use Rattle.lh_wave.specs.Going.{Going, Went, BrokeOff, IsNextToWrite, FrameIsPut, IsPassedOn, FrameIsTold, StopsShort, going, shows_one, text_left, text_ahead, pictures_ahead}

-- two pieces that were appended are one
pub told_both : (a b c : Option (List ℕ)) (x y : List ℕ) → Appends a b x → Appends b c y → Appends a c (x ++ y)
told_both None b c x y h k = tt
told_both (Some p) b c x y h k =
    let next : Appends (Some (p ++ x)) c y = subst (λ (o : Option (List ℕ)). Appends o c y) h k in
    next ∙ ap Some (append_assoc p x y)

pub told_none : (a : Option (List ℕ)) → Appends a a []
told_none None = tt
told_none (Some p) = ap Some (sym (append-nil p))

-- what broke off behind a piece that was written
pub behind_piece : (e : WaveFault) (a b c : Option (List ℕ)) (p t : List ℕ) → Appends a b p → BreaksOff e b c t → BreaksOff e a c (p ++ t)
behind_piece WriteFault a b c p t h k = record {
  count = length p + k.count;
  is_proper = omega (arith, length-append p t, k.is_proper);
  told = subst (Appends a c) (sym (take-append-add p t k.count)) (told_both a b c p (take k.count t) h k.told);
}
behind_piece OutOfMemory a b c p t h k = record {
  count = length p + k.count;
  told = subst (Appends a c) (sym (take-append-add p t k.count)) (told_both a b c p (take k.count t) h k.told);
}

-- a piece in front was not written whole
pub in_front_of : (a b : Option (List ℕ)) (p t : List ℕ) → AppendsProperPrefix a b p → AppendsProperPrefix a b (p ++ t)
in_front_of a b p t h =
    let few : h.count ≤ length p = omega (arith, h.is_proper) in
    record {
      count = h.count;
      is_proper = omega (arith, length-append p t, h.is_proper);
      told = subst (Appends a b) (sym (take-append-le h.count p t few)) h.told;
    }

some_of : (a b : Option (List ℕ)) (p t : List ℕ) → AppendsPrefix a b p → AppendsPrefix a b (p ++ t)
some_of a b p t h =
    let front : List ℕ = take h.count p in
    let rest : List ℕ = drop h.count p in
    let parts : front ++ (rest ++ t) ≡ p ++ t = sym (append_assoc front rest t) ∙ ap (λ l. l ++ t) (take-append-drop h.count p) in
    record { count = length front; told = subst (Appends a b) (sym (ap (take (length front)) (sym parts) ∙ take-append_seam front (rest ++ t))) h.told }

pub broken_in_front : (e : WaveFault) (a b : Option (List ℕ)) (p t : List ℕ) → BreaksOff e a b p → BreaksOff e a b (p ++ t)
broken_in_front WriteFault a b p t h = in_front_of a b p t h
broken_in_front OutOfMemory a b p t h = some_of a b p t h

-- nothing of a text was written, or all of a piece in front
pub none_of : (e : WaveFault) (a : Option (List ℕ)) (t : List ℕ) → e ≡ OutOfMemory → BreaksOff e a a t
none_of e a t o = subst (λ (f : WaveFault). BreaksOff f a a t) (sym o) (at)
  where
    at : AppendsPrefix a a t
    at = record { count = 0; told = told_none a }

-- where memory ran out, no write has failed
pub none_failed : {T : Type 0} (r : Result T WaveFault) (e : WaveFault) (a b : ℕ) → r ≡ Err e → e ≡ OutOfMemory → IsErrOf r WriteFault → Rose a b
none_failed r e a b is out failed = absurd (let no : r ≡ Err OutOfMemory = is ∙ ap Err out in cc)

-- a fault that is passed on says that a write failed where the one before says so
pub failed_so : {T U : Type 0} (r : Result T WaveFault) (e f : WaveFault) → r ≡ Err e → e ≡ f → IsErrOf r WriteFault → IsErrOf {T = U} (Err f) WriteFault
failed_so r e f is same failed = let one : e ≡ WriteFault = cc in ap Err (sym same ∙ one)

-- a write failed, and a proper prefix was written
pub failed_short : {T : Type 0} (r : Result T WaveFault) (e : WaveFault) (a b : Option (List ℕ)) (t : List ℕ)
    → r ≡ Err e → e ≡ WriteFault → AppendsProperPrefix a b t → IfErr r (λ f. BreaksOff f a b t)
failed_short r e a b t is same h = rw (is, same) h

pub all_of : (e : WaveFault) (a b : Option (List ℕ)) (p t : List ℕ) → e ≡ OutOfMemory → Appends a b p → BreaksOff e a b (p ++ t)
all_of e a b p t o h = behind_piece e a b b p t h (none_of e b t o)

-- what was put behind what waited is told, and a piece of it is passed on
pub told_on : (old new : Scribe) (before : Option (List Datum)) (f : Frame) (was now : Written) (rest : List ℕ) (a b : Option (List ℕ)) → FrameIsPut old new before f was now → now.is_whole ≡ true
    → IsPassedOn now.items rest a b → FrameIsTold old new before f was.items rest a b
told_on old new before f was now rest a b p w o = record {
  piece = o.piece;
  behind = p.behind;
  text = λ more left end. sym ((p.text more left end).left w).1 ∙ ap (λ l. l ++ text_left new (Some f.values) more left end) o.text
      ∙ append_assoc o.piece rest (text_left new (Some f.values) more left end);
  told = o.told;
}

-- what waited, of a text of which the rest is left, was not written
pub stopped_short : (e : WaveFault) (start waits : Written) (rest whole : List ℕ) (a b : Option (List ℕ)) → Leaves start waits rest whole → StopsShort e waits a b → BreaksOff e a b (start.items ++ whole)
stopped_short WriteFault start waits rest whole a b l h = subst (AppendsProperPrefix a b) (l.left h.0).1 (in_front_of a b waits.items rest h.1)
stopped_short OutOfMemory start waits rest whole a b l h = subst (λ (o : Option (List ℕ)). BreaksOff OutOfMemory a o (start.items ++ whole)) (sym h) (none_of OutOfMemory a (start.items ++ whole) refl)

-- the same by what passing it on came to
pub told_by : {T : Type 0} (r : Result T WaveFault) (old new : Scribe) (shows : Picture) (was now : Written) (rest : List ℕ) (a b : Option (List ℕ))
    → ((before : Option (List Datum)) (v : Frame) → IsNextToWrite old before v shows → FrameIsPut old new before v was now)
    → OnOk r (now.is_whole ≡ true) → OnOk r (IsPassedOn now.items rest a b)
    → OnOk r ((before : Option (List Datum)) (v : Frame) → IsNextToWrite old before v shows → FrameIsTold old new before v was.items rest a b)
told_by (Ok x) old new shows was now rest a b p w o = λ before v n. told_on old new before v was now rest a b (p before v n) w o
told_by (Err x) old new shows was now rest a b p w o = tt

pub told_short : {T : Type 0} (r : Result T WaveFault) (old new : Scribe) (shows : Picture) (was now : Written) (a b : Option (List ℕ))
    → ((before : Option (List Datum)) (v : Frame) → IsNextToWrite old before v shows → FrameIsPut old new before v was now) → IfErr r (λ e. StopsShort e now a b)
    → IfErr r (λ e. (before : Option (List Datum)) (v : Frame) (more : List Frame) (left : List Member) (end : End) → IsNextToWrite old before v shows
    → BreaksOff e a b (was.items ++ text_left old before (v ∷ more) left end))
told_short (Ok x) old new shows was now a b p h = tt
told_short (Err e) old new shows was now a b p h = λ before v more left end n.
    stopped_short e was now (text_left new (Some v.values) more left end) (text_left old before (v ∷ more) left end) a b ((p before v n).text more left end) h

-- the last text was put behind what waited, and all was written, or was not
pub ended_by : {T : Type 0} (r : Result T WaveFault) (was now : Written) (text : Option (List Datum) → List ℕ) (a b : Option (List ℕ)) → ((before : Option (List Datum)) → Writes was now (text before))
    → OnOk r (now.is_whole ≡ true) → OnOk r (Appends a b now.items) → OnOk r ((before : Option (List Datum)) → Appends a b (was.items ++ text before))
ended_by (Ok x) was now text a b p w t = λ before. subst (Appends a b) (p before w).1 t
ended_by (Err x) was now text a b p w t = tt

pub ended_short : {T : Type 0} (r : Result T WaveFault) (was now : Written) (text : Option (List Datum) → List ℕ) (a b : Option (List ℕ)) → ((before : Option (List Datum)) → Writes was now (text before))
    → IfErr r (λ e. StopsShort e now a b) → IfErr r (λ e. (before : Option (List Datum)) → BreaksOff e a b (was.items ++ text before))
ended_short (Ok x) was now text a b p h = tt
ended_short (Err e) was now text a b p h = λ before.
    stopped_short e was now [] (text before) a b (first_left was now (text before) [] (text before) (sym (append-nil (text before))) (p before)) h

pub went_on : (a b c : Going) → Went a b → Went b c → Went a c
went_on a b c g h = record {
  since = g.since ++ h.since;
  piece = g.piece ++ h.piece;
  done = g.done ++ h.done;
  frames = g.frames ∙ ap (λ l. g.since ++ l) h.frames ∙ sym (append_assoc g.since h.since c.rest.frames);
  left = g.left ∙ h.left;
  end = g.end ∙ h.end;
  reported = g.reported ∙ ap (λ l. g.done ++ l) h.reported ∙ sym (append_assoc g.done h.done c.rest.done);
  reports = h.reports ∙ ap (λ l. l ++ h.done) g.reports ∙ append_assoc a.reports g.done h.done;
  failed = h.failed ∙ ap (λ f. f || list_any (λ (x : Frame). has_failed x.outcomes) h.since) g.failed
      ∙ or_assoc a.failed (list_any (λ (x : Frame). has_failed x.outcomes) g.since) (list_any (λ (x : Frame). has_failed x.outcomes) h.since)
      ∙ ap (λ f. a.failed || f) (sym (list_any-append (λ (x : Frame). has_failed x.outcomes) g.since h.since));
  text = g.text ∙ ap (λ l. g.piece ++ l) h.text ∙ sym (append_assoc g.piece h.piece (text_ahead c));
  told = told_both a.written b.written c.written g.piece h.piece g.told h.told;
  seen = λ now s. g.seen now (h.seen now s);
}

pub stays_put : (a : Going) → Went a a
stays_put a = record {
  since = [];
  piece = [];
  done = [];
  frames = refl;
  left = refl;
  end = refl;
  reported = refl;
  reports = sym (append-nil a.reports);
  failed = sym (or-false a.failed);
  text = refl;
  told = told_none a.written;
  seen = λ now s. s;
}

pub broke_on : (a b : Going) (e : WaveFault) (written : Option (List ℕ)) (now : List Member) → Went a b → BrokeOff b e written now → BrokeOff a e written now
broke_on a b e written now g h = record {
  text = subst (BreaksOff e a.written written) (sym g.text) (behind_piece e a.written b.written written g.piece (text_ahead b) g.told h.text);
  seen = g.seen now h.seen;
}

-- memory ran out before anything was done
pub broke_now : (a : Going) (e : WaveFault) (written : Option (List ℕ)) (now : List Member) → e ≡ OutOfMemory → written ≡ a.written → now ≡ a.members → BrokeOff a e written now
broke_now a e written now o w m = record {
  text = subst (λ (x : Option (List ℕ)). BreaksOff e a.written x (text_ahead a)) (sym w) (none_of e a.written (text_ahead a) o);
  seen = subst (HaveSeen (pictures_ahead a) a.members) (sym m) (no_more (pictures_ahead a) a.members);
}

-- a frame was told and shown
pub frame_went : (t : Teller) (s' : Scribe) (waits : List ℕ) (before : Option (List Datum)) (v : Frame) (p : Picture) (ms ms' : List Member) (rest : ShownRun) (wr wr' : Option (List ℕ)) (rp rp' : List ℕ)
    (failed : Bool) → IsNextToWrite t.scribe before v p
    → FrameIsTold t.scribe s' before v t.text.items waits wr wr' → ms' ≡ shown p ms → rp' ≡ rp ++ reports_of p ms → failed ≡ (t.failed || has_failed v.outcomes)
    → Went (going t before ms (shows_one p ms v rest) wr rp) (record { scribe = s'; waits = waits; before = Some v.values; members = ms'; rest = rest; written = wr'; reports = rp'; failed = failed })
frame_went t s' waits before v p ms ms' rest wr wr' rp rp' failed n told m r f = record {
  since = v ∷ [];
  piece = told.piece;
  done = reports_of p ms;
  frames = refl;
  left = refl;
  end = refl;
  reported = refl;
  reports = r;
  failed = f ∙ ap (λ b. t.failed || b) (sym (or-false (has_failed v.outcomes)));
  text = told.text rest.frames rest.left rest.end;
  told = told.told;
  seen = λ now s. one_more (picture_by before v) (pictures (Some v.values) rest.frames) ms now
      (subst (λ (xs : List Member). HaveSeen (pictures (Some v.values) rest.frames) xs now) (m ∙ ap (λ (q : Picture). shown q ms) n.is) s);
}

-- whether an assertion has failed, with the outcomes of one more frame
pub failed_next : (b was t : Bool) (os : List Outcome) (f : frames.Frame) (before : Option (List Datum)) (v : Frame) → b ≡ (was || has_failed os) → was ≡ t → os ≡ f.outcomes
    → picture f ≡ picture_by before v → b ≡ (t || has_failed v.outcomes)
failed_next b was t os f before v e w o p =
    e ∙ ap (λ x. x || has_failed os) w ∙ ap (λ (xs : List Outcome). t || has_failed xs) (o ∙ ap (λ (q : Picture). q.outcomes) p)

-- a frame was told, and memory ran out while it was shown
pub frame_broke : (t : Teller) (s' : Scribe) (waits : List ℕ) (before : Option (List Datum)) (v : Frame) (p : Picture) (ms now : List Member) (rest : ShownRun) (e : WaveFault) (wr wr' : Option (List ℕ)) (rp : List ℕ)
    → IsNextToWrite t.scribe before v p
    → FrameIsTold t.scribe s' before v t.text.items waits wr wr' → IsPartlyShown p ms now → e ≡ OutOfMemory → BrokeOff (going t before ms (shows_one p ms v rest) wr rp) e wr' now
frame_broke t s' waits before v p ms now rest e wr wr' rp n told part o = record {
  text = subst (BreaksOff e wr wr') (sym (told.text rest.frames rest.left rest.end)) (all_of e wr wr' told.piece (waits ++ text_left s' (Some v.values) rest.frames rest.left rest.end) o told.told);
  seen = in_part (picture_by before v) (pictures (Some v.values) rest.frames) ms now (subst (λ (q : Picture). IsPartlyShown q ms now) n.is part);
}

-- a frame was not told whole
pub tell_broke : (t : Teller) (before : Option (List Datum)) (v : Frame) (p : Picture) (ms now : List Member) (rest : ShownRun) (e : WaveFault) (wr wr' : Option (List ℕ)) (rp : List ℕ)
    → BreaksOff e wr wr' (t.text.items ++ text_left t.scribe before (v ∷ rest.frames) rest.left rest.end) → now ≡ ms → BrokeOff (going t before ms (shows_one p ms v rest) wr rp) e wr' now
tell_broke t before v p ms now rest e wr wr' rp b m = record {
  text = b;
  seen = subst (HaveSeen (picture_by before v ∷ pictures (Some v.values) rest.frames) ms) (sym m) (no_more (picture_by before v ∷ pictures (Some v.values) rest.frames) ms);
}
