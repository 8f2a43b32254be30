-- What `selftest` writes: how many units there are and what became of them, and how the runs of the module and of the lowered
-- module went.
use Rattle.std.specs.Prelude.{◌≡◌, ℕ, List, [], ◌∷◌, ◌++◌, length, not, sum_by, count_by, None, codes, decimal}
use Rattle.lh_types.specs.Pictures.{Picture}
use Rattle.lh_types.specs.Raised.{raised}
use Rattle.lh_unit_names.specs.declared.name.UnitName.{UnitName}
use Rattle.lh_unit.specs.Contents.{ItemText}
use Rattle.lh_unit.specs.Frames.{pictures}
use Rattle.lh_unit.specs.Trace.{End, quiet, steps, runaway, Run, Trace, refuses, ran, trace}
use Rattle.lh_selftest_design.specs.declared.summary.RunEnd.{RunEnd}
use Rattle.lh_selftest_design.specs.declared.summary.RunEnd.TheVariants.{Quiet, Steps, Runaway}
use Rattle.lh_selftest_design.specs.declared.summary.Counts.{Counts}
use Rattle.lh_selftest_design.specs.declared.summary.RunSummary.{RunSummary}
use Rattle.lh_selftest_design.specs.declared.summary.Units.{Units}

-- how a run ended, without the instance that ran away
abbrev pub ending_of : End → RunEnd
ending_of quiet = Quiet
ending_of steps = Steps
ending_of (runaway instance) = Runaway

-- the changes of signals in what the frames show, from the second frame on
abbrev pub changes_after_first : List Picture → ℕ
changes_after_first [] = 0
changes_after_first (first ∷ more) = sum_by (λ (p : Picture). length p.changes) more

-- the assertions that passed, and those that failed
abbrev pub all_passed : List Picture → ℕ
all_passed shown = sum_by (λ (p : Picture). count_by (λ o. o.passed) p.outcomes) shown

abbrev pub all_failed : List Picture → ℕ
all_failed shown = sum_by (λ (p : Picture). count_by (λ o. not o.passed) p.outcomes) shown

-- what the frames show, in numbers that stay at 2^64 - 1
abbrev pub counts_of : List Picture → Counts
counts_of shown =
    record {
      frames = raised 0 (length shown);
      changes = raised 0 (changes_after_first shown);
      passed = raised 0 (all_passed shown);
      failed = raised 0 (all_failed shown);
    }

-- how a run went
abbrev pub course_of : Run → RunSummary
course_of r = record { counts = counts_of (pictures None r.frames); ending = ending_of r.end }

-- the trace is of a module that elaborates, and its run went so
abbrev pub WentSo : Trace → RunSummary → Type 0
WentSo (refuses why) course = ⊥
WentSo (ran instances signals run) course = course ≡ course_of run

-- the word of an ending
abbrev pub ending_word : RunEnd → List ℕ
ending_word Quiet = codes "quiet"
ending_word Steps = codes "steps"
ending_word Runaway = codes "runaway"

-- the line of units: all, those that became entities, and those that are left as they were
abbrev pub units_line : Units → List ℕ
units_line u = codes "units " ++ decimal u.all ++ codes " lowered " ++ decimal u.lowered ++ codes " left " ++ decimal u.left ++ codes "\n"

-- the line of a run, under a name
abbrev pub course_line : (name : List ℕ) → RunSummary → List ℕ
course_line name c =
    name ++ codes " frames " ++ decimal c.counts.frames ++ codes " changes " ++ decimal c.counts.changes
    ++ codes " ok " ++ decimal c.counts.passed ++ codes " failed " ++ decimal c.counts.failed ++ codes " " ++ ending_word c.ending ++ codes "\n"

-- The summary: the units, the run of the module, and the run of the lowered module.
abbrev pub summary : Units → (original lowered : RunSummary) → List ℕ
summary u c c' = units_line u ++ course_line (codes "original") c ++ course_line (codes "lowered") c'

-- the top of the design
abbrev pub chain_name : UnitName
chain_name = record { sigil = 64; name = codes "chain" }

-- how many frames a run has at most
abbrev pub max_frames : ℕ
max_frames = 1000000

-- The text is the summary of the traces of a module and of the lowered module, each from `@chain` down.
abbrev pub IsSummaryOf : (original lowered : List ItemText) → Units → (text : List ℕ) → Type 0
IsSummaryOf m m' units text =
    (c : RunSummary) × (c' : RunSummary) × WentSo (trace m chain_name max_frames) c × WentSo (trace m' chain_name max_frames) c' × (text ≡ summary units c c')
