-- What a run does up to its status line, from what its steps leave.
use Rattle.std.proofs.Common.{arith, ◌≡◌, ℕ, ◌≤◌, inl, inr, List, [], refl, sym, ap, subst, Bool, true, false, Option, Some, None, IfSome, Err}
use Rattle.std.proofs.lemmas.List.{append-nil}
use Rattle.lh_io.specs.Streams.{Appends}
use Rattle.lh_io.specs.Whole.{TakesBytes}
use Rattle.lh_unit.specs.Contents.{ItemText}
use Rattle.lh_unit.specs.Reads.{Reads}
use Rattle.lh_unit.specs.Trace.{Trace, refuses, ran, trace}
use Rattle.lh_wave.specs.ShownRun.{shown_run, any_failed}
use Rattle.lh_wave.specs.declared.ending.End.{End}
use Rattle.lh_wave.specs.declared.ending.End.TheVariants as end
use Rattle.lh_watch.specs.Members.{Member}
use Rattle.lh_watch.specs.Shown.{kept}
use Rattle.lh_args.specs.Forms.{SimulateRequest, FileRequest, check, lower, simulate, WordsAskForSelfTest}
use Rattle.lh_selftest_laws.specs.Laws.{GeneratedReads}
use Rattle.lh_selftest.specs.Answer.{answer_of}
use Rattle.lh_result.specs.Called.{Calls, IsMisuse}
use Rattle.lh_result.specs.Simulated.{status_by, fault_of, ResultOfRun}
use Rattle.lh_result.specs.Result.{source_limit, is_too_long, ResultOfLowering, ResultOfCommand, MayLeave, usage, tested, source_too_long, refused, made}
use Rattle.lh_result.specs.Account.{SinkUse, use_of, IsStatusFor, SinksAreLeft, AreLeft, Performs, OfSource, IsCountFor, IsReadToEnd}
use Rattle.lh_result.specs.Steps.{IsLoaded, Loads, AreLeftBy, Carries, WritesSelfTest}
use Rattle.lh_result.specs.declared.status.Status.{Status}
use Rattle.lh_result.specs.declared.status.Status.TheVariants.{Usage, ReadFault, SourceTooLong, Refused, Top, OutputTooLong, WriteFault, Runaway, AssertFailed, Done, OutOfMemory}
use Rattle.lh_result.proofs.Results.{HasOneResult-called, HasOneResult-tested}
use Rattle.lh_kernel.proofs.Tallies.{raised_none}

pub Appends_nothing : (was : Option (List ℕ)) → Appends was was []
Appends_nothing None = tt
Appends_nothing (Some written) = ap Some (sym (append-nil written))

-- a sink that nothing was written to
abbrev pub unused : Option (List ℕ) → ℕ → SinkUse
unused written faults = use_of written written faults faults

-- nothing came to the sinks, and the result has no texts
quiet : (ended status : Status) (ow lw : Option (List ℕ)) (of lf : ℕ) → IsStatusFor ended status [] [] (unused ow of) (unused lw lf) [] [] → SinksAreLeft ended status [] [] (unused ow of) (unused lw lf)
quiet ended status ow lw of lf by_status = record {
  out_part = [];
  log_part = [];
  by_status = by_status;
  out_prefix = ([], refl);
  log_prefix = ([], refl);
  in_order = inl refl;
  out_gained = Appends_nothing ow;
  log_gained = Appends_nothing lw;
}

-- nothing came to the sinks, whatever the texts of the result
pub silent : (ended status : Status) (out_text log_text : List ℕ) (ow lw : Option (List ℕ)) (of lf : ℕ) → IsStatusFor ended status out_text log_text (unused ow of) (unused lw lf) [] []
    → SinksAreLeft ended status out_text log_text (unused ow of) (unused lw lf)
silent ended status out_text log_text ow lw of lf by_status = record {
  out_part = [];
  log_part = [];
  by_status = by_status;
  out_prefix = (out_text, refl);
  log_prefix = (log_text, refl);
  in_order = inr refl;
  out_gained = Appends_nothing ow;
  log_gained = Appends_nothing lw;
}

-- words of no use
pub Performs-misuse : (words : List (List ℕ)) (bytes : List ℕ) (ms : List Member) (ow lw : Option (List ℕ)) (of lf : ℕ) → IsMisuse words ms
    → Performs words bytes ms Usage (unused ow of) (unused lw lf) ms
Performs-misuse words bytes ms ow lw of lf none = record {
  status = Usage;
  out_text = [];
  log_text = [];
  left = ms;
  result = usage none;
  sinks = quiet Usage Usage ow lw of lf (refl, refl, refl);
  members = refl;
}

-- a file that was not loaded
pub Performs-unloaded : (words : List (List ℕ)) (bytes : List ℕ) (ms : List Member) (a : FileRequest) (ended : Status) (ow lw : Option (List ℕ)) (of lf : ℕ) → Calls words ms a
    → Loads bytes (Err ended) → Performs words bytes ms ended (unused ow of) (unused lw lf) ms
Performs-unloaded words bytes ms a Usage ow lw of lf calls loads = absurd loads
Performs-unloaded words bytes ms a ReadFault ow lw of lf calls loads =
    let one = HasOneResult-called words bytes ms a calls in
    record {
      status = one.status;
      out_text = one.out;
      log_text = one.log;
      left = one.left;
      result = one.result;
      sinks = silent ReadFault one.status one.out one.log ow lw of lf (refl, refl);
      members = refl;
    }
Performs-unloaded words bytes ms a SourceTooLong ow lw of lf calls loads = record {
  status = SourceTooLong;
  out_text = [];
  log_text = [];
  left = ms;
  result = source_too_long a calls loads;
  sinks = quiet SourceTooLong SourceTooLong ow lw of lf (refl, refl, refl);
  members = refl;
}
Performs-unloaded words bytes ms a (Refused why) ow lw of lf calls loads = record {
  status = Refused why;
  out_text = [];
  log_text = [];
  left = ms;
  result = refused a why calls loads.0 loads.1;
  sinks = quiet (Refused why) (Refused why) ow lw of lf (refl, refl, refl);
  members = refl;
}
Performs-unloaded words bytes ms a (Top why) ow lw of lf calls loads = absurd loads
Performs-unloaded words bytes ms a OutputTooLong ow lw of lf calls loads = absurd loads
Performs-unloaded words bytes ms a WriteFault ow lw of lf calls loads = absurd loads
Performs-unloaded words bytes ms a (Runaway i) ow lw of lf calls loads = absurd loads
Performs-unloaded words bytes ms a AssertFailed ow lw of lf calls loads = absurd loads
Performs-unloaded words bytes ms a Done ow lw of lf calls loads = absurd loads
Performs-unloaded words bytes ms a OutOfMemory ow lw of lf calls loads =
    let one = HasOneResult-called words bytes ms a calls in
    record {
      status = one.status;
      out_text = one.out;
      log_text = one.log;
      left = one.left;
      result = one.result;
      sinks = silent OutOfMemory one.status one.out one.log ow lw of lf tt;
      members = inl refl;
    }

-- the members that are left of a file are left of the bytes
AreLeft_of : (words : List (List ℕ)) (bytes : List ℕ) (ms left now : List Member) (a : FileRequest) (file : List ItemText) (ended : Status) → Calls words ms a → Reads bytes file
    → AreLeftBy ended (now ≡ left) (MayLeave a file ms now) → AreLeft ended words bytes ms left now
AreLeft_of words bytes ms left now a file Usage calls reads p = p
AreLeft_of words bytes ms left now a file ReadFault calls reads p = absurd p
AreLeft_of words bytes ms left now a file SourceTooLong calls reads p = p
AreLeft_of words bytes ms left now a file (Refused why) calls reads p = p
AreLeft_of words bytes ms left now a file (Top why) calls reads p = p
AreLeft_of words bytes ms left now a file OutputTooLong calls reads p = p
AreLeft_of words bytes ms left now a file WriteFault calls reads p = inr (a, file, calls, reads, p)
AreLeft_of words bytes ms left now a file (Runaway i) calls reads p = p
AreLeft_of words bytes ms left now a file AssertFailed calls reads p = p
AreLeft_of words bytes ms left now a file Done calls reads p = p
AreLeft_of words bytes ms left now a file OutOfMemory calls reads p = inr (a, file, calls, reads, p)

-- a command that was carried out on the file
pub Performs-carried : (words : List (List ℕ)) (bytes : List ℕ) (ms : List Member) (a : FileRequest) (file : List ItemText) (ended : Status) (out log : SinkUse) (now : List Member) → Calls words ms a
    → IsLoaded bytes file → Carries a file ms ended out log now → Performs words bytes ms ended out log now
Performs-carried words bytes ms a file ended out log now calls loaded c = record {
  status = c.status;
  out_text = c.out_text;
  log_text = c.log_text;
  left = c.left;
  result = made a file c.status c.out_text c.log_text c.left calls loaded.few loaded.reads loaded.faultless c.makes;
  sinks = c.sinks;
  members = AreLeft_of words bytes ms c.left now a file ended calls loaded.reads c.members;
}

-- a self-test
pub Performs-tested : GeneratedReads → (words : List (List ℕ)) (bytes : List ℕ) (ms : List Member) (links : ℕ) (ended : Status) (out : SinkUse) (lw : Option (List ℕ)) (lf : ℕ)
    → WordsAskForSelfTest words links → WritesSelfTest links ended out → Performs words bytes ms ended out (unused lw lf) ms
Performs-tested law words bytes ms links Done out lw lf test (file, reads, gained) = record {
  status = Done;
  out_text = answer_of file;
  log_text = [];
  left = ms;
  result = tested links file test reads;
  sinks = record {
    out_part = answer_of file;
    log_part = [];
    by_status = (refl, refl, refl);
    out_prefix = ([], sym (append-nil (answer_of file)));
    log_prefix = ([], refl);
    in_order = inl refl;
    out_gained = gained;
    log_gained = Appends_nothing lw;
  };
  members = refl;
}
Performs-tested law words bytes ms links WriteFault out lw lf test (file, reads, off) = record {
  status = Done;
  out_text = answer_of file;
  log_text = [];
  left = ms;
  result = tested links file test reads;
  sinks = record {
    out_part = off.part;
    log_part = [];
    by_status = inl (off.is_prefix, off.rose);
    out_prefix = (off.is_prefix.rest, off.is_prefix.split);
    log_prefix = ([], refl);
    in_order = inr refl;
    out_gained = off.gained;
    log_gained = Appends_nothing lw;
  };
  members = inl refl;
}
Performs-tested law words bytes ms links OutOfMemory out lw lf test gained =
    let one = HasOneResult-tested law words bytes ms links test in
    record {
      status = one.status;
      out_text = one.out;
      log_text = one.log;
      left = one.left;
      result = one.result;
      sinks = record {
        out_part = [];
        log_part = [];
        by_status = tt;
        out_prefix = (one.out, refl);
        log_prefix = (one.log, refl);
        in_order = inr refl;
        out_gained = gained;
        log_gained = Appends_nothing lw;
      };
      members = inl refl;
    }
Performs-tested law words bytes ms links Usage out lw lf test h = absurd h
Performs-tested law words bytes ms links ReadFault out lw lf test h = absurd h
Performs-tested law words bytes ms links SourceTooLong out lw lf test h = absurd h
Performs-tested law words bytes ms links (Refused why) out lw lf test h = absurd h
Performs-tested law words bytes ms links (Top why) out lw lf test h = absurd h
Performs-tested law words bytes ms links OutputTooLong out lw lf test h = absurd h
Performs-tested law words bytes ms links (Runaway i) out lw lf test h = absurd h
Performs-tested law words bytes ms links AssertFailed out lw lf test h = absurd h

-- the statuses that a command on a file has as its result
abbrev IsMadeStatus : Status → Type 0
IsMadeStatus (Top why) = Unit {0}
IsMadeStatus OutputTooLong = Unit {0}
IsMadeStatus (Runaway i) = Unit {0}
IsMadeStatus AssertFailed = Unit {0}
IsMadeStatus Done = Unit {0}
IsMadeStatus _ = ⊥

status_by-made : (e : End) (failed : Bool) → IsMadeStatus (status_by e failed)
status_by-made (end.Runaway i) failed = tt
status_by-made end.Quiet true = tt
status_by-made end.Quiet false = tt
status_by-made end.Steps true = tt
status_by-made end.Steps false = tt
status_by-made (end.Stop place) true = tt
status_by-made (end.Stop place) false = tt

is_made : (s t : Status) → s ≡ t → IsMadeStatus t → IsMadeStatus s
is_made s t same p = let P : Status → Type 0 = λ x. IsMadeStatus x in subst P (sym same) p

ResultOfRun-status : (s : SimulateRequest) (ms : List Member) (t : Trace) (status : Status) (out log : List ℕ) (left : List Member) → ResultOfRun s ms t status out log left → IsMadeStatus status
ResultOfRun-status s ms (refuses why) status out log left p = is_made status (Top (fault_of why)) p.0 tt
ResultOfRun-status s ms (ran instances signals run) status out log left p =
    let shown = shown_run run (kept s.titles ms) in
    is_made status (status_by shown.end (any_failed shown)) p.0 (status_by-made shown.end (any_failed shown))

ResultOfLowering-status : (long : Bool) (file : List ItemText) (ms : List Member) (status : Status) (out log : List ℕ) (left : List Member) → ResultOfLowering long file ms status out log left
    → IsMadeStatus status
ResultOfLowering-status true file ms status out log left p = is_made status OutputTooLong p.0 tt
ResultOfLowering-status false file ms status out log left p = is_made status Done p.0 tt

ResultOfCommand-status : (a : FileRequest) (file : List ItemText) (ms : List Member) (status : Status) (out log : List ℕ) (left : List Member) → ResultOfCommand a file ms status out log left
    → IsMadeStatus status
ResultOfCommand-status check file ms status out log left p = is_made status Done p.0 tt
ResultOfCommand-status lower file ms status out log left p = ResultOfLowering-status (is_too_long file) file ms status out log left p
ResultOfCommand-status (simulate s) file ms status out log left p = ResultOfRun-status s ms (trace file s.top s.steps) status out log left p

-- the statuses with which a command on a file ends
abbrev pub IsCarriedStatus : Status → Type 0
IsCarriedStatus Usage = ⊥
IsCarriedStatus ReadFault = ⊥
IsCarriedStatus SourceTooLong = ⊥
IsCarriedStatus (Refused why) = ⊥
IsCarriedStatus _ = Unit {0}

pub Carries-status : (a : FileRequest) (file : List ItemText) (ms : List Member) (ended : Status) (out log : SinkUse) (now : List Member) → Carries a file ms ended out log now → IsCarriedStatus ended
Carries-status a file ms Usage out log now c = is_made Usage c.status c.sinks.by_status.0 (ResultOfCommand-status a file ms c.status c.out_text c.log_text c.left c.makes)
Carries-status a file ms ReadFault out log now c = c.members
Carries-status a file ms SourceTooLong out log now c = is_made SourceTooLong c.status c.sinks.by_status.0 (ResultOfCommand-status a file ms c.status c.out_text c.log_text c.left c.makes)
Carries-status a file ms (Refused why) out log now c = is_made (Refused why) c.status c.sinks.by_status.0 (ResultOfCommand-status a file ms c.status c.out_text c.log_text c.left c.makes)
Carries-status a file ms (Top why) out log now c = tt
Carries-status a file ms OutputTooLong out log now c = tt
Carries-status a file ms WriteFault out log now c = tt
Carries-status a file ms (Runaway i) out log now c = tt
Carries-status a file ms AssertFailed out log now c = tt
Carries-status a file ms Done out log now c = tt
Carries-status a file ms OutOfMemory out log now c = tt

-- it ends with a file that was read to its end, of so many bytes
pub IsCountFor-carried : (ended : Status) (n : ℕ) → IsCarriedStatus ended → n ≤ source_limit → IsCountFor ended n
IsCountFor-carried Usage n p few = absurd p
IsCountFor-carried ReadFault n p few = absurd p
IsCountFor-carried SourceTooLong n p few = absurd p
IsCountFor-carried (Refused why) n p few = absurd p
IsCountFor-carried (Top why) n p few = few
IsCountFor-carried OutputTooLong n p few = few
IsCountFor-carried WriteFault n p few = few
IsCountFor-carried (Runaway i) n p few = few
IsCountFor-carried AssertFailed n p few = few
IsCountFor-carried Done n p few = few
IsCountFor-carried OutOfMemory n p few = few

pub IsReadToEnd-carried : (ended : Status) (was_left left : Option (List ℕ)) → IsCarriedStatus ended → IfSome was_left (λ _. left ≡ Some []) → IsReadToEnd ended was_left left
IsReadToEnd-carried Usage was_left left p read = tt
IsReadToEnd-carried ReadFault was_left left p read = tt
IsReadToEnd-carried SourceTooLong was_left left p read = tt
IsReadToEnd-carried (Refused why) was_left left p read = absurd p
IsReadToEnd-carried (Top why) was_left left p read = read
IsReadToEnd-carried OutputTooLong was_left left p read = read
IsReadToEnd-carried WriteFault was_left left p read = read
IsReadToEnd-carried (Runaway i) was_left left p read = read
IsReadToEnd-carried AssertFailed was_left left p read = read
IsReadToEnd-carried Done was_left left p read = read
IsReadToEnd-carried OutOfMemory was_left left p read = tt

-- a run never ends as a read fault by carrying out a command
pub never_reads : (ended : Status) (R : Type 0) → IsCarriedStatus ended → ended ≡ ReadFault → R
never_reads ended R p is = let P : Status → Type 0 = λ x. IsCarriedStatus x in absurd (subst P is p)

-- nor as a misuse
pub never_usage : (ended : Status) (R : Type 0) → IsCarriedStatus ended → ended ≡ Usage → R
never_usage ended R p is = let P : Status → Type 0 = λ x. IsCarriedStatus x in absurd (subst P is p)

-- the statuses with which a self-test ends
abbrev pub IsTestStatus : Status → Type 0
IsTestStatus WriteFault = Unit {0}
IsTestStatus Done = Unit {0}
IsTestStatus OutOfMemory = Unit {0}
IsTestStatus _ = ⊥

pub WritesSelfTest-status : (links : ℕ) (ended : Status) (out : SinkUse) → WritesSelfTest links ended out → IsTestStatus ended
WritesSelfTest-status links Done out h = tt
WritesSelfTest-status links WriteFault out h = tt
WritesSelfTest-status links OutOfMemory out h = tt
WritesSelfTest-status links Usage out h = h
WritesSelfTest-status links ReadFault out h = h
WritesSelfTest-status links SourceTooLong out h = h
WritesSelfTest-status links (Refused why) out h = h
WritesSelfTest-status links (Top why) out h = h
WritesSelfTest-status links OutputTooLong out h = h
WritesSelfTest-status links (Runaway i) out h = h
WritesSelfTest-status links AssertFailed out h = h

-- a status with which a self-test ends is one with which a command on a file may end
pub IsTestStatus-carried : (ended : Status) → IsTestStatus ended → IsCarriedStatus ended
IsTestStatus-carried Done h = tt
IsTestStatus-carried WriteFault h = tt
IsTestStatus-carried OutOfMemory h = tt
IsTestStatus-carried Usage h = absurd h
IsTestStatus-carried ReadFault h = absurd h
IsTestStatus-carried SourceTooLong h = absurd h
IsTestStatus-carried (Refused why) h = absurd h
IsTestStatus-carried (Top why) h = absurd h
IsTestStatus-carried OutputTooLong h = absurd h
IsTestStatus-carried (Runaway i) h = absurd h
IsTestStatus-carried AssertFailed h = absurd h

pub takes_none : (left : Option (List ℕ)) (taken : ℕ) → TakesBytes left left taken taken 0
takes_none None taken = record { counted = raised_none taken; told = tt }
takes_none (Some bytes) taken = record { counted = raised_none taken; told = (omega arith, refl) }

-- what holds of all bytes holds of those of a source
pub of_any : (source : Option (List ℕ)) (P : List ℕ → Type 0) → ((bytes : List ℕ) → P bytes) → OfSource source P
of_any None P all = ([], all [])
of_any (Some bytes) P all = all bytes

-- a file is never refused as a misuse
pub unloaded_not_usage : (source : Option (List ℕ)) (ended : Status) (R : Type 0) → OfSource source (λ bytes. Loads bytes (Err ended)) → ended ≡ Usage → R
unloaded_not_usage None ended R (bytes, loads) is = let P : Status → Type 0 = λ x. Loads bytes (Err x) in absurd (subst P is loads)
unloaded_not_usage (Some bytes) ended R loads is = let P : Status → Type 0 = λ x. Loads bytes (Err x) in absurd (subst P is loads)
