-- Words, bytes and members have exactly one result.
use Rattle.std.proofs.Common.{◌≡◌, ℕ, ◌<◌, ◌≤◌, ◌⊎◌, inl, inr, List, [], length, Bool, true, false, refl, ap, sym, ◌∙◌, subst, arith}
use Rattle.std.proofs.lemmas.Bool.{cases_lt}
use Rattle.lh_unit.specs.Contents.{ItemText}
use Rattle.lh_unit.specs.Reads.{BadKind, syntax, unit_too_large, duplicate_name, Reads, FirstBad}
use Rattle.lh_unit.specs.Canon.{canon}
use Rattle.lh_unit.specs.Trace.{Trace, refuses, ran, trace}
use Rattle.lh_unit.specs.WellFormed.{FaultKind, number_of, IsFirstFault, IsFaultless}
use Rattle.lh_unit_names.specs.declared.name.UnitName.{UnitName}
use Rattle.lh_trace_laws.proofs.FirstFaultLaw.{one_first_fault, faultless_has_none}
use Rattle.lh_trace_laws.proofs.FirstFaultFound.{faultless_or_faulty}
use Rattle.lh_watch.specs.Members.{Member}
use Rattle.lh_watch.specs.Shown.{kept}
use Rattle.lh_wave.specs.ShownRun.{shown_run, all_reports, any_failed}
use Rattle.lh_wave.specs.RunText.{text_in}
use Rattle.lh_args.specs.Forms.{SimulateRequest, FileRequest, check, lower, simulate, WordsAskForSelfTest}
use Rattle.lh_args.proofs.Forms.{one_form, one_self_test, no_file}
use Rattle.lh_lower_def.specs.Lowering.{lowered, report}
use Rattle.lh_lower_def.specs.Report.{report_text}
use Rattle.lh_selftest_design.specs.Generated.{generated}
use Rattle.lh_selftest_laws.specs.Chain.{chain_file}
use Rattle.lh_selftest_laws.specs.Laws.{GeneratedReads}
use Rattle.lh_selftest.specs.Answer.{answer_of}
use Rattle.lh_result.proofs.Readings.{FirstBad-or-Reads, Reads-unique, FirstBad-unique}
use Rattle.lh_result.specs.Called.{Calls, IsMisuse}
use Rattle.lh_result.specs.Simulated.{fault_of, status_by, mode_of, ResultOfRun}
use Rattle.lh_result.specs.Result.{source_limit, HasFirstFault, IsRefusedFor, is_too_long, ResultOfLowering, ResultOfCommand, IsResult, usage, tested, source_too_long, refused, made}
use Rattle.lh_result.specs.Account.{HasOneResult}
use Rattle.lh_result.specs.declared.status.Refusal.{Refusal}
use Rattle.lh_result.specs.declared.status.Refusal.TheVariants.{Syntax, UnitTooLarge, DuplicateName, Invalid}
use Rattle.lh_result.specs.declared.status.Status.{Status}
use Rattle.lh_result.specs.declared.status.Status.TheVariants.{Usage, SourceTooLong, Refused, Top, OutputTooLong, Done}
use Rattle.lh_read.proofs.Texts.{reads-bad}

-- the first fault of the bytes is what refuses them
IsRefusedFor-at : (bytes : List ℕ) (line : ℕ) (kind : BadKind) → FirstBad bytes line kind → (why : Refusal) × IsRefusedFor bytes why
IsRefusedFor-at bytes line syntax bad = (Syntax line, bad)
IsRefusedFor-at bytes line unit_too_large bad = (UnitTooLarge line, bad)
IsRefusedFor-at bytes line duplicate_name bad = (DuplicateName line, bad)

-- the bytes do not read, or have a faulty instruction
abbrev IsBadBy : List ℕ → Refusal → Type 0
IsBadBy bytes why = ((line : ℕ) × (kind : BadKind) × FirstBad bytes line kind) ⊎ ((file : List ItemText) × Reads bytes file × ¬ IsFaultless file)

not_faultless : (file : List ItemText) (unit : UnitName) (inst number : ℕ) → HasFirstFault file unit inst number → ¬ IsFaultless file
not_faultless file unit inst number h f = faultless_has_none file unit inst h.0 f h.2

IsRefusedFor-bad : (bytes : List ℕ) (why : Refusal) → IsRefusedFor bytes why → IsBadBy bytes why
IsRefusedFor-bad bytes (Syntax line) bad = inl (line, syntax, bad)
IsRefusedFor-bad bytes (UnitTooLarge line) bad = inl (line, unit_too_large, bad)
IsRefusedFor-bad bytes (DuplicateName line) bad = inl (line, duplicate_name, bad)
IsRefusedFor-bad bytes (Invalid unit inst number) bad = inr (bad.0, bad.1, not_faultless bad.0 unit inst number bad.2)

-- the faults of instructions are one
invalid-unique : (bytes : List ℕ) (u v : UnitName) (i j m n : ℕ) → IsRefusedFor bytes (Invalid u i m) → IsRefusedFor bytes (Invalid v j n) → Invalid u i m ≡ Invalid v j n
invalid-unique bytes u v i j m n f g =
    let P : List ItemText → Type 0 = λ x. IsFirstFault x v j g.2.0 in
    let again : IsFirstFault f.0 v j g.2.0 = subst P (Reads-unique bytes g.0 f.0 g.1 f.1) g.2.2 in
    let e = one_first_fault f.0 u v i j f.2.0 g.2.0 f.2.2 again in
    let number : m ≡ n = sym f.2.1 ∙ ap number_of e.2 ∙ g.2.1 in
    λ k. Invalid (e.0 k) (e.1 k) (number k)

reads_badly : (bytes : List ℕ) (line : ℕ) (kind : BadKind) (unit : UnitName) (inst number : ℕ) → FirstBad bytes line kind → IsRefusedFor bytes (Invalid unit inst number) → ⊥
reads_badly bytes line kind unit inst number bad f = reads-bad bytes f.0 line kind f.1 bad

IsRefusedFor-unique : (bytes : List ℕ) (v w : Refusal) → IsRefusedFor bytes v → IsRefusedFor bytes w → v ≡ w
IsRefusedFor-unique bytes (Syntax m) (Syntax n) f g = ap Syntax (FirstBad-unique bytes m n syntax syntax f g).0
IsRefusedFor-unique bytes (UnitTooLarge m) (UnitTooLarge n) f g = ap UnitTooLarge (FirstBad-unique bytes m n unit_too_large unit_too_large f g).0
IsRefusedFor-unique bytes (DuplicateName m) (DuplicateName n) f g = ap DuplicateName (FirstBad-unique bytes m n duplicate_name duplicate_name f g).0
IsRefusedFor-unique bytes (Invalid u i m) (Invalid v j n) f g = invalid-unique bytes u v i j m n f g
IsRefusedFor-unique bytes (Syntax m) (UnitTooLarge n) f g = let e = (FirstBad-unique bytes m n syntax unit_too_large f g).1 in cc
IsRefusedFor-unique bytes (Syntax m) (DuplicateName n) f g = let e = (FirstBad-unique bytes m n syntax duplicate_name f g).1 in cc
IsRefusedFor-unique bytes (Syntax m) (Invalid u i n) f g = absurd (reads_badly bytes m syntax u i n f g)
IsRefusedFor-unique bytes (UnitTooLarge m) (Syntax n) f g = let e = (FirstBad-unique bytes m n unit_too_large syntax f g).1 in cc
IsRefusedFor-unique bytes (UnitTooLarge m) (DuplicateName n) f g = let e = (FirstBad-unique bytes m n unit_too_large duplicate_name f g).1 in cc
IsRefusedFor-unique bytes (UnitTooLarge m) (Invalid u i n) f g = absurd (reads_badly bytes m unit_too_large u i n f g)
IsRefusedFor-unique bytes (DuplicateName m) (Syntax n) f g = let e = (FirstBad-unique bytes m n duplicate_name syntax f g).1 in cc
IsRefusedFor-unique bytes (DuplicateName m) (UnitTooLarge n) f g = let e = (FirstBad-unique bytes m n duplicate_name unit_too_large f g).1 in cc
IsRefusedFor-unique bytes (DuplicateName m) (Invalid u i n) f g = absurd (reads_badly bytes m duplicate_name u i n f g)
IsRefusedFor-unique bytes (Invalid u i m) (Syntax n) f g = absurd (reads_badly bytes n syntax u i m g f)
IsRefusedFor-unique bytes (Invalid u i m) (UnitTooLarge n) f g = absurd (reads_badly bytes n unit_too_large u i m g f)
IsRefusedFor-unique bytes (Invalid u i m) (DuplicateName n) f g = absurd (reads_badly bytes n duplicate_name u i m g f)

-- a well-formed file that reads is not refused
Reads-not-refused : (bytes : List ℕ) (file : List ItemText) (why : Refusal) → Reads bytes file → IsFaultless file → IsRefusedFor bytes why → ⊥
Reads-not-refused bytes file why reads sound bad = at (IsRefusedFor-bad bytes why bad)
  where
    at : IsBadBy bytes why → ⊥
    at (inl f) = reads-bad bytes file f.0 f.1 reads f.2
    at (inr f) = f.2 (let P : List ItemText → Type 0 = λ x. IsFaultless x in subst P (Reads-unique bytes file f.0 reads f.1) sound)

-- the status, the texts and the members of a result
abbrev Same : (status s : Status) → (out o log l : List ℕ) → (left now : List Member) → Type 0
Same status s out o log l left now = (s ≡ status) × (o ≡ out) × (l ≡ log) × (now ≡ left)

ResultOfRun-one : (s : SimulateRequest) (ms : List Member) (t : Trace) (status again : Status) (out o log l : List ℕ) (left now : List Member) → ResultOfRun s ms t status out log left
    → ResultOfRun s ms t again o l now → Same status again out o log l left now
ResultOfRun-one s ms (refuses why) status again out o log l left now p q = (q.0 ∙ sym p.0, q.1 ∙ sym p.1, q.2 ∙ sym p.2, q.3 ∙ sym p.3)
ResultOfRun-one s ms (ran instances signals run) status again out o log l left now p q = (q.0 ∙ sym p.0, q.1 ∙ sym p.1, q.2 ∙ sym p.2, q.3 ∙ sym p.3)

ResultOfLowering-one : (long : Bool) (file : List ItemText) (ms : List Member) (status again : Status) (out o log l : List ℕ) (left now : List Member)
    → ResultOfLowering long file ms status out log left → ResultOfLowering long file ms again o l now → Same status again out o log l left now
ResultOfLowering-one true file ms status again out o log l left now p q = (q.0 ∙ sym p.0, q.1 ∙ sym p.1, q.2 ∙ sym p.2, q.3 ∙ sym p.3)
ResultOfLowering-one false file ms status again out o log l left now p q = (q.0 ∙ sym p.0, q.1 ∙ sym p.1, q.2 ∙ sym p.2, q.3 ∙ sym p.3)

ResultOfCommand-one : (a : FileRequest) (file : List ItemText) (ms : List Member) (status again : Status) (out o log l : List ℕ) (left now : List Member)
    → ResultOfCommand a file ms status out log left → ResultOfCommand a file ms again o l now → Same status again out o log l left now
ResultOfCommand-one check file ms status again out o log l left now p q = (q.0 ∙ sym p.0, q.1 ∙ sym p.1, q.2 ∙ sym p.2, q.3 ∙ sym p.3)
ResultOfCommand-one lower file ms status again out o log l left now p q = ResultOfLowering-one (is_too_long file) file ms status again out o log l left now p q
ResultOfCommand-one (simulate s) file ms status again out o log l left now p q = ResultOfRun-one s ms (trace file s.top s.steps) status again out o log l left now p q

-- what two calls make of two readings is one
ResultOfCommand-unique : (a b : FileRequest) (file again : List ItemText) (ms : List Member) (status s : Status) (out o log l : List ℕ) (left now : List Member) → b ≡ a → again ≡ file
    → ResultOfCommand a file ms status out log left → ResultOfCommand b again ms s o l now → Same status s out o log l left now
ResultOfCommand-unique a b file again ms status s out o log l left now one same p q =
    let P : FileRequest → Type 0 = λ x. ResultOfCommand x again ms s o l now in
    let R : List ItemText → Type 0 = λ x. ResultOfCommand a x ms s o l now in
    ResultOfCommand-one a file ms status s out o log l left now p (subst R same (subst P one q))

Calls-unique : (words : List (List ℕ)) (ms : List Member) (a b : FileRequest) → Calls words ms a → Calls words ms b → b ≡ a
Calls-unique words ms a b p q = one_form words b a q.asks p.asks

-- one self-test has one answer
same_answer : (words : List (List ℕ)) (n m : ℕ) (file again : List ItemText) → WordsAskForSelfTest words n → WordsAskForSelfTest words m → Reads (generated n) file → Reads (generated m) again
    → answer_of again ≡ answer_of file
same_answer words n m file again p q a b =
    let b' : Reads (generated n) again = subst (λ (k : ℕ). Reads (generated k) again) (one_self_test words m n q p) b in
    ap answer_of (Reads-unique (generated n) again file b' a)

pub IsResult-unique : (words : List (List ℕ)) (bytes : List ℕ) (ms : List Member) (status s : Status) (out log o l : List ℕ) (left now : List Member) → IsResult words bytes ms status out log left
    → IsResult words bytes ms s o l now → Same status s out o log l left now
IsResult-unique words bytes ms _ _ _ _ _ _ _ _ (usage none) (usage none') = (refl, refl, refl, refl)
IsResult-unique words bytes ms _ _ _ _ _ _ _ _ (usage none) (source_too_long b calls long) = absurd (none.on_file b calls)
IsResult-unique words bytes ms _ _ _ _ _ _ _ _ (usage none) (refused b why calls few bad) = absurd (none.on_file b calls)
IsResult-unique words bytes ms _ _ _ _ _ _ _ _ (usage none) (made b file s o l now calls few reads sound makes) = absurd (none.on_file b calls)
IsResult-unique words bytes ms _ _ _ _ _ _ _ _ (usage none) (tested n own test read) = absurd (none.self_test n test)
IsResult-unique words bytes ms _ _ _ _ _ _ _ _ (tested n own test read) (usage none) = absurd (none.self_test n test)
IsResult-unique words bytes ms _ _ _ _ _ _ _ _ (tested n own test read) (source_too_long b calls long) = absurd (no_file words n b test calls.asks)
IsResult-unique words bytes ms _ _ _ _ _ _ _ _ (tested n own test read) (refused b why calls few bad) = absurd (no_file words n b test calls.asks)
IsResult-unique words bytes ms _ _ _ _ _ _ _ _ (tested n own test read) (made b file s o l now calls few reads sound makes) = absurd (no_file words n b test calls.asks)
IsResult-unique words bytes ms _ _ _ _ _ _ _ _ (tested n file test reads) (tested m again test' reads') = (refl, same_answer words n m file again test test' reads reads', refl, refl)
IsResult-unique words bytes ms _ _ _ _ _ _ _ _ (source_too_long a calls long) (tested n own test read) = absurd (no_file words n a test calls.asks)
IsResult-unique words bytes ms _ _ _ _ _ _ _ _ (refused a why calls few bad) (tested n own test read) = absurd (no_file words n a test calls.asks)
IsResult-unique words bytes ms _ _ _ _ _ _ _ _ (made a file status out log left calls few reads sound makes) (tested n own test read) = absurd (no_file words n a test calls.asks)
IsResult-unique words bytes ms _ _ _ _ _ _ _ _ (source_too_long a calls long) (usage none) = absurd (none.on_file a calls)
IsResult-unique words bytes ms _ _ _ _ _ _ _ _ (source_too_long a calls long) (source_too_long b calls' long') = (refl, refl, refl, refl)
IsResult-unique words bytes ms _ _ _ _ _ _ _ _ (source_too_long a calls long) (refused b why calls' few bad) = absurd (omega arith)
IsResult-unique words bytes ms _ _ _ _ _ _ _ _ (source_too_long a calls long) (made b file s o l now calls' few reads sound makes) = absurd (omega arith)
IsResult-unique words bytes ms _ _ _ _ _ _ _ _ (refused a why calls few bad) (usage none) = absurd (none.on_file a calls)
IsResult-unique words bytes ms _ _ _ _ _ _ _ _ (refused a why calls few bad) (source_too_long b calls' long) = absurd (omega arith)
IsResult-unique words bytes ms _ _ _ _ _ _ _ _ (refused a why calls few bad) (refused b again calls' few' bad') = (ap Refused (IsRefusedFor-unique bytes again why bad' bad), refl, refl, refl)
IsResult-unique words bytes ms _ _ _ _ _ _ _ _ (refused a why calls few bad) (made b file s o l now calls' few' reads sound makes) = absurd (Reads-not-refused bytes file why reads sound bad)
IsResult-unique words bytes ms _ _ _ _ _ _ _ _ (made a file status out log left calls few reads sound makes) (usage none) = absurd (none.on_file a calls)
IsResult-unique words bytes ms _ _ _ _ _ _ _ _ (made a file status out log left calls few reads sound makes) (source_too_long b calls' long) = absurd (omega arith)
IsResult-unique words bytes ms _ _ _ _ _ _ _ _ (made a file status out log left calls few reads sound makes) (refused b why calls' few' bad) = absurd (Reads-not-refused bytes file why reads sound bad)
IsResult-unique words bytes ms _ _ _ _ _ _ _ _ (made a file status out log left calls few reads sound makes) (made b again s o l now calls' few' reads' sound' makes') =
    ResultOfCommand-unique a b file again ms status s out o log l left now (Calls-unique words ms a b calls calls') (Reads-unique bytes again file reads' reads) makes makes'

one_result : (words : List (List ℕ)) (bytes : List ℕ) (ms : List Member) (status : Status) (out log : List ℕ) (left : List Member) → IsResult words bytes ms status out log left
    → HasOneResult words bytes ms
one_result words bytes ms status out log left result = record {
  status = status;
  out = out;
  log = log;
  left = left;
  result = result;
  only = λ s o l now other. IsResult-unique words bytes ms status s out log o l left now result other;
}

-- words of no use have one result
pub HasOneResult-misuse : (words : List (List ℕ)) (bytes : List ℕ) (ms : List Member) → IsMisuse words ms → HasOneResult words bytes ms
HasOneResult-misuse words bytes ms none = one_result words bytes ms Usage [] [] ms (usage none)

-- a self-test has one result
pub HasOneResult-tested : GeneratedReads → (words : List (List ℕ)) (bytes : List ℕ) (ms : List Member) (links : ℕ) → WordsAskForSelfTest words links → HasOneResult words bytes ms
HasOneResult-tested reads words bytes ms links test =
    let file = chain_file links in
    one_result words bytes ms Done (answer_of file) [] ms (tested links file test (reads links test.links_said.at_most))

-- what a command makes of a file
pub record Made (a : FileRequest) (file : List ItemText) (ms : List Member) : Type 0 where
  pub status : Status
  pub out : List ℕ
  pub log : List ℕ
  pub left : List Member
  pub makes : ResultOfCommand a file ms status out log left

-- what is shown of a trace
pub record Showed (s : SimulateRequest) (ms : List Member) (t : Trace) : Type 0 where
  pub status : Status
  pub out : List ℕ
  pub log : List ℕ
  pub left : List Member
  pub shows : ResultOfRun s ms t status out log left

pub showed : (s : SimulateRequest) (ms : List Member) (t : Trace) → Showed s ms t
showed s ms (refuses why) = record { status = Top (fault_of why); out = []; log = []; left = ms; shows = (refl, refl, refl, refl) }
showed s ms (ran instances signals run) =
    let shown = shown_run run (kept s.titles ms) in
    record {
      status = status_by shown.end (any_failed shown);
      out = text_in (mode_of s.vcd) instances signals shown;
      log = all_reports shown;
      left = shown.left;
      shows = (refl, refl, refl, refl);
    }

-- what is made of a file that is lowered
pub record Lowered (long : Bool) (file : List ItemText) (ms : List Member) : Type 0 where
  pub status : Status
  pub out : List ℕ
  pub log : List ℕ
  pub left : List Member
  pub lowers : ResultOfLowering long file ms status out log left

lowered_of : (long : Bool) (file : List ItemText) (ms : List Member) → Lowered long file ms
lowered_of true file ms = record { status = OutputTooLong; out = []; log = []; left = ms; lowers = (refl, refl, refl, refl) }
lowered_of false file ms = record { status = Done; out = canon (lowered file); log = report_text (report file); left = ms; lowers = (refl, refl, refl, refl) }

pub made_of : (a : FileRequest) (file : List ItemText) (ms : List Member) → Made a file ms
made_of check file ms = record { status = Done; out = canon file; log = []; left = ms; makes = (refl, refl, refl, refl) }
made_of lower file ms = let x = lowered_of (is_too_long file) file ms in record { status = x.status; out = x.out; log = x.log; left = x.left; makes = x.lowers }
made_of (simulate s) file ms =
    let x = showed s ms (trace file s.top s.steps) in
    record { status = x.status; out = x.out; log = x.log; left = x.left; makes = x.shows }

by_made : (words : List (List ℕ)) (bytes : List ℕ) (ms : List Member) (a : FileRequest) (file : List ItemText) → Calls words ms a → length bytes ≤ source_limit → Reads bytes file → IsFaultless file
    → Made a file ms → HasOneResult words bytes ms
by_made words bytes ms a file calls few reads sound m = one_result words bytes ms m.status m.out m.log m.left (made a file m.status m.out m.log m.left calls few reads sound m.makes)

by_fault : (words : List (List ℕ)) (bytes : List ℕ) (ms : List Member) (a : FileRequest) (file : List ItemText) → Calls words ms a → length bytes ≤ source_limit → Reads bytes file
    → IsFaultless file ⊎ ((u : UnitName) × (i : ℕ) × (k : FaultKind) × IsFirstFault file u i k) → HasOneResult words bytes ms
by_fault words bytes ms a file calls few reads (inl sound) = by_made words bytes ms a file calls few reads sound (made_of a file ms)
by_fault words bytes ms a file calls few reads (inr (u, i, k, first)) =
    let why : Refusal = Invalid u i (number_of k) in
    let bad : IsRefusedFor bytes why = (file, reads, (k, refl, first)) in
    one_result words bytes ms (Refused why) [] [] ms (refused a why calls few bad)

by_reading : (words : List (List ℕ)) (bytes : List ℕ) (ms : List Member) (a : FileRequest) → Calls words ms a → length bytes ≤ source_limit
    → ((line : ℕ) × (kind : BadKind) × FirstBad bytes line kind) ⊎ ((file : List ItemText) × Reads bytes file) → HasOneResult words bytes ms
by_reading words bytes ms a calls few (inl (line, kind, bad)) =
    let why = IsRefusedFor-at bytes line kind bad in
    one_result words bytes ms (Refused why.0) [] [] ms (refused a why.0 calls few why.1)
by_reading words bytes ms a calls few (inr (file, reads)) = by_fault words bytes ms a file calls few reads (faultless_or_faulty bytes file reads)

by_length : (words : List (List ℕ)) (bytes : List ℕ) (ms : List Member) (a : FileRequest) → Calls words ms a → (source_limit < length bytes) ⊎ (length bytes ≤ source_limit)
    → HasOneResult words bytes ms
by_length words bytes ms a calls (inl long) = one_result words bytes ms SourceTooLong [] [] ms (source_too_long a calls long)
by_length words bytes ms a calls (inr few) = by_reading words bytes ms a calls few (FirstBad-or-Reads bytes)

-- words that call for something have one result
pub HasOneResult-called : (words : List (List ℕ)) (bytes : List ℕ) (ms : List Member) (a : FileRequest) → Calls words ms a → HasOneResult words bytes ms
HasOneResult-called words bytes ms a calls = by_length words bytes ms a calls (cases_lt source_limit (length bytes))
