-- What `lower` promises of the bytes that it writes, by the bytes that it read.
use Rattle.std.specs.Prelude.{◌≡◌, ℕ, List, [], ◌∷◌, codes}
use Rattle.lh_unit.specs.Canon.{canon}
use Rattle.lh_unit.specs.Contents.{ItemText}
use Rattle.lh_unit.specs.Reads.{Reads}
use Rattle.lh_unit.specs.Trace.{SameTrace}
use Rattle.lh_unit.specs.WellFormed.{IsWellFormed}
use Rattle.lh_args.specs.Forms.{FileRequest, lower}
use Rattle.lh_lower_def.specs.Kept.{Kept}
use Rattle.lh_lower_def.specs.Lowering.{lowered, report}
use Rattle.lh_lower_def.specs.Report.{RowText, report_text}
use Rattle.lh_result.specs.Account.{SinkUse, Gained}
use Rattle.lh_result.specs.declared.status.Status.{Status}
use Rattle.lh_result.specs.declared.status.Status.TheVariants.{Done}

-- The bytes `after` are the same design as the bytes `before`, and these lines tell what became of its processes. Both read as well-formed
-- files; in the second an entity stands for each process that has a shape, in its place, and everything else is as it was; and for every
-- top and every number of frames both have one trace: the same instants, values of all signals, outcomes of assertions, and end.
pub record IsSameDesign (before after lines : List ℕ) : Type 0 where
  pub file : List ItemText
  pub reads : Reads before file
  pub formed : IsWellFormed file
  pub written : List ItemText
  pub reads_back : Reads after written
  pub well_formed : IsWellFormed written
  pub rows : List RowText
  pub kept : Kept file written rows
  pub reported : lines ≡ report_text rows
  pub same_trace : SameTrace file written

-- Where the words are `lower` and the run is done, the output gained the same design, and the log a line for each process.
pub record LowersFaithfully (words : List (List ℕ)) (bytes : List ℕ) (ended : Status) (out log : SinkUse) : Type 0 where
  pub where_done : words ≡ codes "lower" ∷ [] → ended ≡ Done → (text : List ℕ) × (lines : List ℕ) × Gained out text × Gained log lines × IsSameDesign bytes text lines

-- ---- the steps to it

-- the lowered file is well formed, keeps what is not lowered, and has the trace of the file
pub record KeepsTrace (file : List ItemText) : Type 0 where
  pub formed : IsWellFormed file
  pub well_formed : IsWellFormed (lowered file)
  pub kept : Kept file (lowered file) (report file)
  pub same : SameTrace file (lowered file)

-- where a command on a file is `lower` and is done, it wrote the lowered file and the report
pub record LowersFile (a : FileRequest) (ended : Status) (file : List ItemText) (out log : SinkUse) : Type 0 where
  pub where_done : a ≡ lower → ended ≡ Done → KeepsTrace file × Gained out (canon (lowered file)) × Gained log (report_text (report file))
