-- A run of `lower` that is done wrote the same design.
use Rattle.std.proofs.Common.{◌≡◌, ℕ, ◌<◌, List, [], ◌∷◌, ◌++◌, length, refl, ap, subst, Option, Result, Ok, Err, arith}
use Rattle.std.proofs.lemmas.List.{append-nil}
use Rattle.lh_io.specs.Streams.{Appends}
use Rattle.lh_io.specs.declared.stream.Failed.{Failed}
use Rattle.lh_unit.specs.Canon.{canon}
use Rattle.lh_unit.specs.Contents.{ItemText}
use Rattle.lh_unit.specs.Reads.{Reads}
use Rattle.lh_watch.specs.Members.{Member}
use Rattle.lh_args.specs.Forms.{FileRequest, lower, WordsAskForSelfTest}
use Rattle.lh_args.proofs.Forms.{one_form, no_file}
use Rattle.lh_lower_def.specs.Lowering.{lowered, report}
use Rattle.lh_lower_def.specs.Report.{report_text}
use Rattle.lh_result.specs.Account.{SinkUse, use_of, Puts, OfSource}
use Rattle.lh_result.specs.Called.{Calls}
use Rattle.lh_run.specs.Faithful.{IsSameDesign, LowersFaithfully, KeepsTrace, LowersFile}
use Rattle.lh_result.specs.Steps.{IsLoaded, Loads}
use Rattle.lh_result.specs.StatusLines.{status_line}
use Rattle.lh_result.specs.declared.status.Status.{Status}
use Rattle.lh_result.specs.declared.status.Status.TheVariants.{Usage, Done}
use Rattle.lh_result.proofs.Accounts.{OfSource-weaker}
use Rattle.lh_result.proofs.Writes.{Appends_more}

same-design : (bytes : List ℕ) (file : List ItemText) → Reads bytes file → KeepsTrace file → IsSameDesign bytes (canon (lowered file)) (report_text (report file))
same-design bytes file reads k = record {
  file = file;
  reads = reads;
  formed = k.formed;
  written = lowered file;
  reads_back = k.well_formed.0;
  well_formed = k.well_formed;
  rows = report file;
  kept = k.kept;
  reported = refl;
  same_trace = k.same;
}

-- by what a command did on the file that was loaded
pub faithful : (words : List (List ℕ)) (bytes : List ℕ) (ms : List Member) (a : FileRequest) (file : List ItemText) (ended : Status) (out log : SinkUse) → Calls words ms a → IsLoaded bytes file
    → LowersFile a ended file out log → LowersFaithfully words bytes ended out log
faithful words bytes ms a file ended out log calls loaded lowers = record {
  where_done = λ said done. (let wrote = lowers.where_done (one_form words a lower calls.asks said) done in
      (canon (lowered file), report_text (report file), wrote.1, wrote.2, same-design bytes file loaded.reads wrote.0));
}

-- what was not loaded is not done
pub unloaded : (words : List (List ℕ)) (bytes : List ℕ) (ended : Status) (out log : SinkUse) → Loads bytes (Err ended) → LowersFaithfully words bytes ended out log
unloaded words bytes ended out log loads = record { where_done = λ said done. absurd (subst (λ (s : Status). Loads bytes (Err s)) done loads) }

-- misuse is not done
pub misused : (words : List (List ℕ)) (bytes : List ℕ) (out log : SinkUse) → LowersFaithfully words bytes Usage out log
misused words bytes out log = record { where_done = λ said done. absurd cc }

-- a self-test is no `lower`
pub no_lowering : (words : List (List ℕ)) (bytes : List ℕ) (links : ℕ) (ended : Status) (out log : SinkUse) → WordsAskForSelfTest words links → LowersFaithfully words bytes ended out log
no_lowering words bytes links ended out log test = record { where_done = λ said done. absurd (no_file words links lower test said) }

-- no line is written of what is done
no-line : (r : Result (Unit {0}) Failed) (held now : Option (List ℕ)) (was_faults faults : ℕ) → Puts r (use_of held now was_faults faults) [] → Appends held now []
no-line (Ok _) held now was_faults faults puts = puts
no-line (Err _) held now was_faults faults off = absurd (no-part off.part off.is_prefix.rest off.is_prefix.split off.is_prefix.proper)
  where
    no-part : (part rest : List ℕ) → [] ≡ part ++ rest → 0 < length rest → ⊥
    no-part [] [] e h = omega (arith, h)
    no-part [] (x ∷ rest) e h = absurd cc
    no-part (x ∷ part) rest e h = absurd cc

-- with the status line
pub faithful-run : (r : Result (Unit {0}) Failed) (words : List (List ℕ)) (source : Option (List ℕ)) (ended : Status) (out : SinkUse) (was held now : Option (List ℕ)) (was_faults held_faults faults : ℕ)
    → OfSource source (λ bytes. LowersFaithfully words bytes ended out (use_of was held was_faults held_faults)) → Puts r (use_of held now held_faults faults) (status_line ended)
    → OfSource source (λ bytes. LowersFaithfully words bytes ended out (use_of was now was_faults faults))
faithful-run r words source ended out was held now was_faults held_faults faults before puts =
    OfSource-weaker source (λ bytes. LowersFaithfully words bytes ended out (use_of was held was_faults held_faults))
    (λ bytes. LowersFaithfully words bytes ended out (use_of was now was_faults faults)) more before
  where
    line : ended ≡ Done → Appends held now []
    line e = no-line r held now held_faults faults (subst (λ (t : List ℕ). Puts r (use_of held now held_faults faults) t) (ap status_line e) puts)

    more : (bytes : List ℕ) → LowersFaithfully words bytes ended out (use_of was held was_faults held_faults) → LowersFaithfully words bytes ended out (use_of was now was_faults faults)
    more bytes f = record {
      where_done = λ said done. (let w = f.where_done said done in (w.0, w.1, w.2, subst (λ (t : List ℕ). Appends was now t) (append-nil w.1) (Appends_more was held now w.1 [] w.3 (line done)), w.4));
    }
