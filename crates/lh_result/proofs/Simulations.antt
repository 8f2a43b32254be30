-- What carrying out a command leaves, from what its steps leave.
use Rattle.std.proofs.Common.{◌≡◌, ℕ, ◌-◌, ◌<◌, ◌⊎◌, inl, inr, List, [], ◌∷◌, length, take, drop, map, refl, sym, ap, subst, Bool, true, false, Option, Some, None, Err, arith}
use Rattle.std.proofs.lemmas.List.{append-nil, take-append-drop, length-drop}
use Rattle.std.specs.Prelude.{IsErrOf}
use Rattle.lh_types.specs.Values.{Datum}
use Rattle.lh_io.specs.Streams.{Rose, AppendsProperPrefix}
use Rattle.lh_unit.specs.Canon.{canon}
use Rattle.lh_unit.specs.Contents.{ItemText}
use Rattle.lh_unit.specs.Design.{Design, Refusal, Elaborated, elab, built, refused}
use Rattle.lh_unit.specs.Frames.{picture_by, pictures}
use Rattle.lh_unit.specs.Paths.{shown_in}
use Rattle.lh_unit.specs.Trace as trace
use Rattle.lh_unit.specs.Trace.{Frame, Trace, refuses, ran, trace, trace_by, run_from, shown_signal, max_instructions}
use Rattle.lh_unit.specs.World.{first_world}
use Rattle.lh_watch.specs.Members.{Member}
use Rattle.lh_watch.specs.Shown.{shown, first_stop, kept}
use Rattle.lh_wave.specs.declared.ending.End.{End}
use Rattle.lh_wave.specs.declared.ending.End.TheVariants as end
use Rattle.lh_wave.specs.declared.ending.Ending.{Ending}
use Rattle.lh_wave.specs.declared.run.WaveFault.{WaveFault}
use Rattle.lh_wave.specs.declared.run.WaveFault.TheVariants as wave
use Rattle.lh_wave.specs.BrokenOff.{HaveSeen, no_more, one_more, AppendsPrefix, BreaksOff}
use Rattle.lh_wave.specs.ShownRun.{shown_from_first, ShownRun, ran_away, unless_stopped, shown_behind, shown_run, all_reports, any_failed}
use Rattle.lh_args.specs.Forms.{SimulateRequest, check, simulate}
use Rattle.lh_result.specs.Simulated.{fault_of, status_by, ResultOfRun, MayBeLeft}
use Rattle.lh_result.specs.Account.{SinkUse, use_of, Gained, IsPrefix, IsProperPrefix, IsStatusFor}
use Rattle.lh_result.specs.Steps.{AreLeftBy, Carries, WritesCanon, ShowsRun, text_of, wave_status, IsTopStatus}
use Rattle.lh_result.specs.declared.status.Status.{Status}
use Rattle.lh_result.specs.declared.status.Status.TheVariants.{Usage, ReadFault, SourceTooLong, Refused, Top, OutputTooLong, WriteFault, Runaway, AssertFailed, Done, OutOfMemory}
use Rattle.lh_result.proofs.Performances.{unused, silent, Appends_nothing}
use Rattle.lh_result.proofs.Results.{made_of}

-- a prefix of a text, and a proper one
prefix_of : (n : ℕ) (text : List ℕ) → IsPrefix (take n text) text
prefix_of n text = (drop n text, sym (take-append-drop n text))

proper_prefix_of : (n : ℕ) (text : List ℕ) → n < length text → IsProperPrefix (take n text) text
proper_prefix_of n text lt = record {
  rest = drop n text;
  split = sym (take-append-drop n text);
  proper = (let len : length (drop n text) ≡ length text - n = length-drop n text in omega arith);
}

pub whole_prefix : (text : List ℕ) → IsPrefix text text
whole_prefix text = ([], sym (append-nil text))

-- the members that are left have seen the frames that are shown
stopped_seen : (b : Option (List Datum)) (stop : Option ℕ) (r : Bool) (ms : List Member) (rest : ShownRun) → HaveSeen (pictures b rest.frames) ms rest.left
    → HaveSeen (pictures b (unless_stopped stop r ms rest).frames) ms (unless_stopped stop r ms rest).left
stopped_seen b None r ms rest seen = seen
stopped_seen b (Some place) true ms rest seen = seen
stopped_seen b (Some place) false ms rest seen = no_more [] ms

seen_behind : (b : Option (List Datum)) (fs : List Frame) (e : trace.End) (ms : List Member) → HaveSeen (pictures b (shown_behind b fs e ms).frames) ms (shown_behind b fs e ms).left
seen_behind b [] e ms = no_more [] ms
seen_behind b (f ∷ more) e ms =
    let p = picture_by b f in
    let rest = shown_behind (Some f.values) more e (shown p ms) in
    let next = unless_stopped (first_stop p ms) (ran_away more e) (shown p ms) rest in
    one_more p (pictures (Some f.values) next.frames) ms next.left
    (stopped_seen (Some f.values) (first_stop p ms) (ran_away more e) (shown p ms) rest (seen_behind (Some f.values) more e (shown p ms)))

pub left_seen : (r : trace.Run) (ms : List Member) → HaveSeen (pictures None (shown_run r ms).frames) ms (shown_run r ms).left
left_seen r ms = seen_behind None r.frames r.end ms

-- the output broke off
pub ShowsRun-failed : (vcd : Bool) (d : Design) (s : ShownRun) (asked now : List Member) (ow on lw : Option (List ℕ)) (of ofn lf : ℕ) → AppendsProperPrefix ow on (text_of vcd d s) → Rose of ofn
    → HaveSeen (pictures None s.frames) asked now → ShowsRun vcd d s asked WriteFault (use_of ow on of ofn) (unused lw lf) now
ShowsRun-failed vcd d s asked now ow on lw of ofn lf cut rose seen =
    let text = text_of vcd d s in
    record {
      sinks = record {
        out_part = take cut.count text;
        log_part = [];
        by_status = inl (proper_prefix_of cut.count text cut.is_proper, rose);
        out_prefix = prefix_of cut.count text;
        log_prefix = (all_reports s, refl);
        in_order = inr refl;
        out_gained = cut.told;
        log_gained = Appends_nothing lw;
      };
      members = seen;
    }

-- memory ran out
pub ShowsRun-starved : (vcd : Bool) (d : Design) (s : ShownRun) (asked now : List Member) (ow on lw : Option (List ℕ)) (of ofn lf : ℕ) → AppendsPrefix ow on (text_of vcd d s)
    → HaveSeen (pictures None s.frames) asked now → ShowsRun vcd d s asked OutOfMemory (use_of ow on of ofn) (unused lw lf) now
ShowsRun-starved vcd d s asked now ow on lw of ofn lf cut seen =
    let text = text_of vcd d s in
    record {
      sinks = record {
        out_part = take cut.count text;
        log_part = [];
        by_status = tt;
        out_prefix = prefix_of cut.count text;
        log_prefix = (all_reports s, refl);
        in_order = inr refl;
        out_gained = cut.told;
        log_gained = Appends_nothing lw;
      };
      members = seen;
    }

-- the showing broke off by this fault
pub ShowsRun-broken : (fault : WaveFault) (vcd : Bool) (d : Design) (s : ShownRun) (asked now : List Member) (ow on lw : Option (List ℕ)) (of ofn lf : ℕ) → BreaksOff fault ow on (text_of vcd d s)
    → (IsErrOf {T = Ending} (Err fault) wave.WriteFault → Rose of ofn) → HaveSeen (pictures None s.frames) asked now
    → ShowsRun vcd d s asked (wave_status fault) (use_of ow on of ofn) (unused lw lf) now
ShowsRun-broken wave.WriteFault vcd d s asked now ow on lw of ofn lf cut rose seen = ShowsRun-failed vcd d s asked now ow on lw of ofn lf cut (rose refl) seen
ShowsRun-broken wave.OutOfMemory vcd d s asked now ow on lw of ofn lf part rose seen = ShowsRun-starved vcd d s asked now ow on lw of ofn lf part seen

-- the log broke off
pub ShowsRun-unreported : (vcd : Bool) (d : Design) (r : trace.Run) (asked now : List Member) (out : SinkUse) (lw ln : Option (List ℕ)) (lf lfn : ℕ) → Gained out (text_of vcd d (shown_run r asked))
    → now ≡ (shown_run r asked).left → AppendsProperPrefix lw ln (all_reports (shown_run r asked)) → Rose lf lfn → ShowsRun vcd d (shown_run r asked) asked WriteFault out (use_of lw ln lf lfn) now
ShowsRun-unreported vcd d r asked now out lw ln lf lfn gained left cut rose =
    let s = shown_run r asked in
    record {
      sinks = record {
        out_part = text_of vcd d s;
        log_part = take cut.count (all_reports s);
        by_status = inr (proper_prefix_of cut.count (all_reports s) cut.is_proper, rose);
        out_prefix = whole_prefix (text_of vcd d s);
        log_prefix = prefix_of cut.count (all_reports s);
        in_order = inl refl;
        out_gained = gained;
        log_gained = cut.told;
      };
      members = let P : List Member → Type 0 = λ x. HaveSeen (pictures None s.frames) asked x in subst P (sym left) (left_seen r asked);
    }

-- the status of a whole run is that of the result
status_for : (e : End) (failed : Bool) (text reports : List ℕ) (out log : SinkUse) → IsStatusFor (status_by e failed) (status_by e failed) text reports out log text reports
status_for (end.Runaway i) failed text reports out log = (refl, refl, refl)
status_for end.Quiet true text reports out log = (refl, refl, refl)
status_for end.Quiet false text reports out log = (refl, refl, refl)
status_for end.Steps true text reports out log = (refl, refl, refl)
status_for end.Steps false text reports out log = (refl, refl, refl)
status_for (end.Stop place) true text reports out log = (refl, refl, refl)
status_for (end.Stop place) false text reports out log = (refl, refl, refl)

left_for : (e : End) (failed : Bool) (R C : Type 0) → R → AreLeftBy (status_by e failed) R C
left_for (end.Runaway i) failed R C r = r
left_for end.Quiet true R C r = r
left_for end.Quiet false R C r = r
left_for end.Steps true R C r = r
left_for end.Steps false R C r = r
left_for (end.Stop place) true R C r = r
left_for (end.Stop place) false R C r = r

-- the run was shown, and reported
pub ShowsRun-whole : (vcd : Bool) (d : Design) (s : ShownRun) (asked now : List Member) (out log : SinkUse) (e : End) (failed : Bool) → e ≡ s.end → failed ≡ any_failed s → Gained out (text_of vcd d s)
    → Gained log (all_reports s) → now ≡ s.left → ShowsRun vcd d s asked (status_by e failed) out log now
ShowsRun-whole vcd d s asked now out log e failed ends fails text reports left =
    let P : End → Type 0 = λ x. ShowsRun vcd d s asked (status_by x failed) out log now in
    let Q : Bool → Type 0 = λ x. ShowsRun vcd d s asked (status_by s.end x) out log now in
    let whole : ShowsRun vcd d s asked (status_by s.end (any_failed s)) out log now =
    record {
      sinks = record {
        out_part = text_of vcd d s;
        log_part = all_reports s;
        by_status = status_for s.end (any_failed s) (text_of vcd d s) (all_reports s) out log;
        out_prefix = whole_prefix (text_of vcd d s);
        log_prefix = whole_prefix (all_reports s);
        in_order = inl refl;
        out_gained = text;
        log_gained = reports;
      };
      members = left_for s.end (any_failed s) (now ≡ s.left) (HaveSeen (pictures None s.frames) asked now) left;
    } in
    subst P (sym ends) (subst Q (sym fails) whole)

-- a simulation whose top elaborates
pub Carries-shown : (s : SimulateRequest) (file : List ItemText) (ms asked : List Member) (d : Design) (ended : Status) (out log : SinkUse) (now : List Member) → elab file s.top ≡ built d
    → asked ≡ kept s.titles ms → ShowsRun s.vcd d (shown_from_first file d s.steps asked) asked ended out log now → Carries (simulate s) file ms ended out log now
Carries-shown s file ms asked d ended out log now elaborates chosen shows =
    let run = run_from max_instructions file d s.steps (first_world file d) in
    let is : trace file s.top s.steps ≡ ran (shown_in d) (map shown_signal d.signals) run = ap (λ (x : Elaborated). trace_by max_instructions file s.steps x) elaborates in
    let A : List Member → Type 0 = λ x. ShowsRun s.vcd d (shown_run run x) x ended out log now in
    let here : ShowsRun s.vcd d (shown_run run (kept s.titles ms)) (kept s.titles ms) ended out log now = subst A chosen shows in
    let sr = shown_run run (kept s.titles ms) in
    let P : Trace → Type 0 = λ t. ResultOfRun s ms t (status_by sr.end (any_failed sr)) (text_of s.vcd d sr) (all_reports sr) sr.left in
    let Q : Trace → Type 0 = λ t. AreLeftBy ended (now ≡ sr.left) (MayBeLeft s ms t now) in
    record {
      status = status_by sr.end (any_failed sr);
      out_text = text_of s.vcd d sr;
      log_text = all_reports sr;
      left = sr.left;
      makes = subst P (sym is) (refl, refl, refl, refl);
      sinks = here.sinks;
      members = subst Q (sym is) (by_end ended (now ≡ sr.left) (HaveSeen (pictures None sr.frames) (kept s.titles ms) now) ((now ≡ ms) ⊎ HaveSeen (pictures None sr.frames) (kept s.titles ms) now)
          (λ h. inr h) here.members);
    }
  where
    by_end : (ended : Status) (R C D : Type 0) → (C → D) → AreLeftBy ended R C → AreLeftBy ended R D
    by_end Usage R C D f h = h
    by_end ReadFault R C D f h = h
    by_end SourceTooLong R C D f h = h
    by_end (Refused why) R C D f h = h
    by_end (Top why) R C D f h = h
    by_end OutputTooLong R C D f h = h
    by_end WriteFault R C D f h = f h
    by_end (Runaway i) R C D f h = h
    by_end AssertFailed R C D f h = h
    by_end Done R C D f h = h
    by_end OutOfMemory R C D f h = f h

as_before : (s : SimulateRequest) (ms : List Member) (t : Trace) → MayBeLeft s ms t ms
as_before s ms (refuses why) = refl
as_before s ms (ran instances signals run) = inl refl

-- a simulation for which there is no memory
pub Carries-starved : (s : SimulateRequest) (file : List ItemText) (ms : List Member) (ow lw : Option (List ℕ)) (of lf : ℕ) → Carries (simulate s) file ms OutOfMemory (unused ow of) (unused lw lf) ms
Carries-starved s file ms ow lw of lf =
    let m = made_of (simulate s) file ms in
    record {
      status = m.status;
      out_text = m.out;
      log_text = m.log;
      left = m.left;
      makes = m.makes;
      sinks = silent OutOfMemory m.status m.out m.log ow lw of lf tt;
      members = as_before s ms (trace file s.top s.steps);
    }

-- a simulation whose top does not elaborate
refused_top : (s : SimulateRequest) (file : List ItemText) (ms : List Member) (why : Refusal) (ow lw : Option (List ℕ)) (of lf : ℕ) → elab file s.top ≡ refused why
    → Carries (simulate s) file ms (Top (fault_of why)) (unused ow of) (unused lw lf) ms
refused_top s file ms why ow lw of lf refuses_it =
    let is : trace file s.top s.steps ≡ refuses why = ap (λ (x : Elaborated). trace_by max_instructions file s.steps x) refuses_it in
    let P : Trace → Type 0 = λ t. ResultOfRun s ms t (Top (fault_of why)) [] [] ms in
    record {
      status = Top (fault_of why);
      out_text = [];
      log_text = [];
      left = ms;
      makes = subst P (sym is) (refl, refl, refl, refl);
      sinks = silent (Top (fault_of why)) (Top (fault_of why)) [] [] ow lw of lf (refl, refl, refl);
      members = refl;
    }

pub Carries-refused : (s : SimulateRequest) (file : List ItemText) (ms : List Member) (ended : Status) (ow lw : Option (List ℕ)) (of lf : ℕ) → IsTopStatus ended file s.top
    → Carries (simulate s) file ms ended (unused ow of) (unused lw lf) ms
Carries-refused s file ms (Top why) ow lw of lf (r, refuses_it, is) =
    let P : Status → Type 0 = λ x. Carries (simulate s) file ms x (unused ow of) (unused lw lf) ms in
    subst P (sym (ap Top is)) (refused_top s file ms r ow lw of lf refuses_it)
Carries-refused s file ms OutOfMemory ow lw of lf is = Carries-starved s file ms ow lw of lf
Carries-refused s file ms Usage ow lw of lf is = absurd is
Carries-refused s file ms ReadFault ow lw of lf is = absurd is
Carries-refused s file ms SourceTooLong ow lw of lf is = absurd is
Carries-refused s file ms (Refused why) ow lw of lf is = absurd is
Carries-refused s file ms OutputTooLong ow lw of lf is = absurd is
Carries-refused s file ms WriteFault ow lw of lf is = absurd is
Carries-refused s file ms (Runaway i) ow lw of lf is = absurd is
Carries-refused s file ms AssertFailed ow lw of lf is = absurd is
Carries-refused s file ms Done ow lw of lf is = absurd is

-- the canonical text, or a part of it
pub Carries-canon : (file : List ItemText) (ms : List Member) (ended : Status) (out : SinkUse) (lw : Option (List ℕ)) (lf : ℕ) → WritesCanon file ended out
    → Carries check file ms ended out (unused lw lf) ms
Carries-canon file ms Done out lw lf gained = record {
  status = Done;
  out_text = canon file;
  log_text = [];
  left = ms;
  makes = (refl, refl, refl, refl);
  sinks = record {
    out_part = canon file;
    log_part = [];
    by_status = (refl, refl, refl);
    out_prefix = whole_prefix (canon file);
    log_prefix = ([], refl);
    in_order = inl refl;
    out_gained = gained;
    log_gained = Appends_nothing lw;
  };
  members = refl;
}
Carries-canon file ms WriteFault out lw lf off = record {
  status = Done;
  out_text = canon file;
  log_text = [];
  left = ms;
  makes = (refl, refl, refl, refl);
  sinks = record {
    out_part = off.part;
    log_part = [];
    by_status = inl (off.is_prefix, off.rose);
    out_prefix = (off.is_prefix.rest, off.is_prefix.split);
    log_prefix = ([], refl);
    in_order = inr refl;
    out_gained = off.gained;
    log_gained = Appends_nothing lw;
  };
  members = refl;
}
Carries-canon file ms OutOfMemory out lw lf gained = record {
  status = Done;
  out_text = canon file;
  log_text = [];
  left = ms;
  makes = (refl, refl, refl, refl);
  sinks = record {
    out_part = [];
    log_part = [];
    by_status = tt;
    out_prefix = (canon file, refl);
    log_prefix = ([], refl);
    in_order = inr refl;
    out_gained = gained;
    log_gained = Appends_nothing lw;
  };
  members = refl;
}
Carries-canon file ms Usage out lw lf h = absurd h
Carries-canon file ms ReadFault out lw lf h = absurd h
Carries-canon file ms SourceTooLong out lw lf h = absurd h
Carries-canon file ms (Refused why) out lw lf h = absurd h
Carries-canon file ms (Top why) out lw lf h = absurd h
Carries-canon file ms OutputTooLong out lw lf h = absurd h
Carries-canon file ms (Runaway i) out lw lf h = absurd h
Carries-canon file ms AssertFailed out lw lf h = absurd h
