-- What the program's test of itself answers: the summary of the runs of a chain and of the chain lowered.
use Rattle.std.specs.Prelude.{◌≡◌, ◌≤◌, ℕ, List, count_by, length, Bool, true, false, not}
use Rattle.lh_unit.specs.Contents.{ItemText, unit_text, declare_text}
use Rattle.lh_unit.specs.Design.{Design, elab, built}
use Rattle.lh_unit.specs.Reads.{Reads}
use Rattle.lh_unit.specs.WellFormed.{IsFaultless}
use Rattle.lh_lower_def.specs.declared.report.Verdict.{Verdict}
use Rattle.lh_lower_def.specs.declared.report.Verdict.TheVariants as verdict
use Rattle.lh_lower_def.specs.Lowering.{lowered, report}
use Rattle.lh_lower_def.specs.Report.{RowText}
use Rattle.lh_selftest_design.specs.Generated.{generated}
use Rattle.lh_selftest_design.specs.Summary.{chain_name, IsSummaryOf}
use Rattle.lh_selftest_design.specs.declared.summary.Units.{Units}

-- the item defines a unit
abbrev pub is_unit : ItemText → Bool
is_unit (unit_text u) = true
is_unit (declare_text d) = false

-- the process became an entity; or else it was left
abbrev pub is_lowered : Verdict → Bool
is_lowered (verdict.Lowered k) = true
is_lowered (verdict.Left r) = false

-- how many units a file has, how many of its processes become entities, and how many are left
abbrev pub units_of : List ItemText → Units
units_of file =
    record {
      all = count_by is_unit file;
      lowered = count_by (λ (r : RowText). is_lowered r.verdict) (report file);
      left = count_by (λ (r : RowText). not (is_lowered r.verdict)) (report file);
    }

-- The text of a chain of this many links reads as a file, and the answer is the summary of the run of the file and of the run of what the
-- file is lowered to.
unfoldable pub IsSelfTest : (links : ℕ) → (answer : List ℕ) → Type 0
IsSelfTest links answer = (file : List ItemText) × Reads (generated links) file × IsSummaryOf file (lowered file) (units_of file) answer

-- ---- on the way to it

-- the text is that of a chain of this many links
unfoldable pub IsTextOf : (links : ℕ) → (text : List ℕ) → Type 0
IsTextOf links text = text ≡ generated links

-- the file has a design from `@chain` down
pub record HasDesign (file : List ItemText) : Type 0 where
  pub design : Design
  pub is : elab file chain_name ≡ built design

-- the text is short, and reads as a file without fault that has a design
pub record CanRun (text : List ℕ) : Type 0 where
  pub short : length text ≤ 67108864
  pub file : List ItemText
  pub reads : Reads text file
  pub faultless : IsFaultless file
  pub has_design : HasDesign file

-- the text reads as the file, which has a design
pub record RunsAs (text : List ℕ) (file : List ItemText) : Type 0 where
  pub reads : Reads text file
  pub has_design : HasDesign file

-- so does the text of a chain of this many links
pub record IsChain (links : ℕ) (file : List ItemText) : Type 0 where
  pub text : List ℕ
  pub is : IsTextOf links text
  pub runs : RunsAs text file
