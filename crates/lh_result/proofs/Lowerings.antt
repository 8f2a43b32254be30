-- What carrying out `lower` leaves, from what its writes leave.
use Rattle.std.proofs.Common.{◌≡◌, ℕ, ◌<◌, ◌⊎◌, inl, inr, List, [], length, Bool, true, false, nat_lt, refl, sym, ◌∙◌, ap, subst, Option, arith}
use Rattle.std.proofs.lemmas.Bool.Decides.{nat_tests}
use Rattle.lh_io.specs.Streams.{Rose, Appends, AppendsProperPrefix}
use Rattle.lh_unit.specs.Canon.{canon}
use Rattle.lh_unit.specs.Contents.{ItemText}
use Rattle.lh_watch.specs.Members.{Member}
use Rattle.lh_args.specs.Forms.{lower}
use Rattle.lh_lower_def.specs.Lowering.{lowered, report}
use Rattle.lh_lower_def.specs.Report.{report_text}
use Rattle.lh_result.specs.Result.{source_limit, is_too_long, ResultOfLowering}
use Rattle.lh_result.specs.Account.{SinkUse, use_of, Gained, WriteBreaksOff}
use Rattle.lh_result.specs.Steps.{Carries}
use Rattle.lh_result.specs.Written.{WritesLowered, IsTexts}
use Rattle.lh_result.specs.declared.texts.Texts.{Texts}
use Rattle.lh_result.specs.declared.status.Status.{Status}
use Rattle.lh_result.specs.declared.status.Status.TheVariants.{Usage, ReadFault, SourceTooLong, Refused, Top, OutputTooLong, WriteFault, Runaway, AssertFailed, Done, OutOfMemory}
use Rattle.lh_result.proofs.Performances.{unused, Appends_nothing}
use Rattle.lh_result.proofs.Results.{made_of}
use Rattle.lh_result.proofs.Simulations.{whole_prefix}
use Rattle.lh_result.proofs.Writes.{BreaksOff_of}

-- ---- what is made

makes-text : (file : List ItemText) (ms : List Member) → is_too_long file ≡ false → ResultOfLowering (is_too_long file) file ms Done (canon (lowered file)) (report_text (report file)) ms
makes-text file ms e = subst (λ (b : Bool). ResultOfLowering b file ms Done (canon (lowered file)) (report_text (report file)) ms) (sym e) (refl, refl, refl, refl)

makes-none : (file : List ItemText) (ms : List Member) → is_too_long file ≡ true → ResultOfLowering (is_too_long file) file ms OutputTooLong [] [] ms
makes-none file ms e = subst (λ (b : Bool). ResultOfLowering b file ms OutputTooLong [] [] ms) (sym e) (refl, refl, refl, refl)

-- ---- what is left

pub Carries-lowered : (file : List ItemText) (ms : List Member) (ended : Status) (out log : SinkUse) → WritesLowered file ended out log → Carries lower file ms ended out log ms
Carries-lowered file ms Done out log w = record {
  status = Done;
  out_text = canon (lowered file);
  log_text = report_text (report file);
  left = ms;
  makes = makes-text file ms w.0;
  sinks = record {
    out_part = canon (lowered file);
    log_part = report_text (report file);
    by_status = (refl, refl, refl);
    out_prefix = whole_prefix (canon (lowered file));
    log_prefix = whole_prefix (report_text (report file));
    in_order = inl refl;
    out_gained = w.1;
    log_gained = w.2;
  };
  members = refl;
}
Carries-lowered file ms OutputTooLong out log w = record {
  status = OutputTooLong;
  out_text = [];
  log_text = [];
  left = ms;
  makes = makes-none file ms w.0;
  sinks = record {
    out_part = [];
    log_part = [];
    by_status = (refl, refl, refl);
    out_prefix = ([], refl);
    log_prefix = ([], refl);
    in_order = inl refl;
    out_gained = w.1;
    log_gained = w.2;
  };
  members = refl;
}
Carries-lowered file ms WriteFault out log w = by w.1
  where
    by : (WriteBreaksOff out (canon (lowered file)) × Gained log []) ⊎ (Gained out (canon (lowered file)) × WriteBreaksOff log (report_text (report file))) → Carries lower file ms WriteFault out log ms
    by (inl (off, none)) = record {
      status = Done;
      out_text = canon (lowered file);
      log_text = report_text (report file);
      left = ms;
      makes = makes-text file ms w.0;
      sinks = record {
        out_part = off.part;
        log_part = [];
        by_status = inl (off.is_prefix, off.rose);
        out_prefix = (off.is_prefix.rest, off.is_prefix.split);
        log_prefix = (report_text (report file), refl);
        in_order = inr refl;
        out_gained = off.gained;
        log_gained = none;
      };
      members = refl;
    }
    by (inr (all, off)) = record {
      status = Done;
      out_text = canon (lowered file);
      log_text = report_text (report file);
      left = ms;
      makes = makes-text file ms w.0;
      sinks = record {
        out_part = canon (lowered file);
        log_part = off.part;
        by_status = inr (off.is_prefix, off.rose);
        out_prefix = whole_prefix (canon (lowered file));
        log_prefix = (off.is_prefix.rest, off.is_prefix.split);
        in_order = inl refl;
        out_gained = all;
        log_gained = off.gained;
      };
      members = refl;
    }
Carries-lowered file ms OutOfMemory out log w =
    let m = made_of lower file ms in
    record {
      status = m.status;
      out_text = m.out;
      log_text = m.log;
      left = m.left;
      makes = m.makes;
      sinks = record {
        out_part = [];
        log_part = [];
        by_status = tt;
        out_prefix = (m.out, refl);
        log_prefix = (m.log, refl);
        in_order = inr refl;
        out_gained = w.0;
        log_gained = w.1;
      };
      members = refl;
    }
Carries-lowered file ms Usage out log w = absurd w
Carries-lowered file ms ReadFault out log w = absurd w
Carries-lowered file ms SourceTooLong out log w = absurd w
Carries-lowered file ms (Refused why) out log w = absurd w
Carries-lowered file ms (Top why) out log w = absurd w
Carries-lowered file ms (Runaway i) out log w = absurd w
Carries-lowered file ms AssertFailed out log w = absurd w

-- ---- the writes

-- whether the text is too long, by its length
pub long-text : (file : List ItemText) (t : Texts) → IsTexts file t → source_limit < length t.«module».items → is_too_long file ≡ true
long-text file t is l = ap (λ (x : List ℕ). nat_lt source_limit (length x)) (sym is.«module») ∙ grind (arith, nat_tests)

pub short-text : (file : List ItemText) (t : Texts) → IsTexts file t → (source_limit < length t.«module».items → ⊥) → is_too_long file ≡ false
short-text file t is l = ap (λ (x : List ℕ). nat_lt source_limit (length x)) (sym is.«module») ∙ grind (arith, nat_tests, l)

-- the output broke off
pub out-broke : (file : List ItemText) (t : Texts) (ow on lw : Option (List ℕ)) (of ofn lf : ℕ) (text : List ℕ) → IsTexts file t → is_too_long file ≡ false → text ≡ t.«module».items
    → AppendsProperPrefix ow on text → Rose of ofn → WritesLowered file WriteFault (use_of ow on of ofn) (unused lw lf)
out-broke file t ow on lw of ofn lf text is short e cut rose =
    (short, inl (BreaksOff_of ow on of ofn (canon (lowered file)) (subst (λ (x : List ℕ). AppendsProperPrefix ow on x) (e ∙ is.«module») cut) rose, Appends_nothing lw))

-- the log broke off
pub log-broke : (file : List ItemText) (t : Texts) (ow on lw ln : Option (List ℕ)) (of ofn lf lfn : ℕ) (text line : List ℕ) → IsTexts file t → is_too_long file ≡ false → text ≡ t.«module».items
    → Appends ow on text → line ≡ t.report.items → AppendsProperPrefix lw ln line → Rose lf lfn → WritesLowered file WriteFault (use_of ow on of ofn) (use_of lw ln lf lfn)
log-broke file t ow on lw ln of ofn lf lfn text line is short e all f cut rose = (
  short,
  inr (
    subst (λ (x : List ℕ). Appends ow on x) (e ∙ is.«module») all,
    BreaksOff_of lw ln lf lfn (report_text (report file))
        (subst (λ (x : List ℕ). AppendsProperPrefix lw ln x) (f ∙ is.report) cut) rose,
  ),
)

-- both were written
pub both-written : (file : List ItemText) (t : Texts) (ow on lw ln : Option (List ℕ)) (text line : List ℕ) → IsTexts file t → is_too_long file ≡ false → text ≡ t.«module».items
    → Appends ow on text → line ≡ t.report.items → Appends lw ln line → (is_too_long file ≡ false) × Appends ow on (canon (lowered file)) × Appends lw ln (report_text (report file))
both-written file t ow on lw ln text line is short e all f report =
    (short, subst (λ (x : List ℕ). Appends ow on x) (e ∙ is.«module») all, subst (λ (x : List ℕ). Appends lw ln x) (f ∙ is.report) report)
