-- How a run goes whose frames come one after the other.
use Rattle.std.specs.Prelude.{◌≡◌, ℕ, List, ◌++◌, Option, Some, None}
use Rattle.lh_types.specs.Pictures.{Picture}
use Rattle.lh_types.specs.Values.{Datum}
use Rattle.lh_unit.specs.Arena.{Arena, contents}
use Rattle.lh_unit.specs.World.{World}
use Rattle.lh_unit.specs.Trace.{Run, max_instructions, run_from}
use Rattle.lh_unit.specs.Frames.{pictures, values_before}
use Rattle.lh_design.specs.declared.Design.{Design}
use Rattle.lh_design.specs.Texts.{design_text}
use Rattle.lh_kernel.specs.Simulation.{Simulation, StandsFor}
use Rattle.lh_selftest_design.specs.Summary.{counts_of, ending_of}
use Rattle.lh_selftest_design.specs.declared.summary.Counts.{Counts}
use Rattle.lh_selftest_design.specs.declared.summary.RunSummary.{RunSummary}
use Rattle.lh_selftest_design.specs.declared.summary.RunEnd.{RunEnd}

-- how frames that were seen and then a run go, where the last frame that was seen has these values
abbrev pub course_behind : (seen : List Picture) → (before : Option (List Datum)) → Run → RunSummary
course_behind seen before r = record { counts = counts_of (seen ++ pictures before r.frames); ending = ending_of r.end }

-- the same where the run is that of a design from a world on, at most n frames
unfoldable pub course_on : Arena → Design → (seen : List Picture) → (n : ℕ) → World → RunSummary
course_on a d seen n w =
    course_behind seen (values_before (design_text a d) w) (run_from max_instructions (contents a) (design_text a d) n w)

-- A run goes on: some frames were seen and counted, and the simulation stands for the world from which the rest of the run goes, in at
-- most n frames.
pub record CourseGoesOn (a : Arena) (d : Design) (n : ℕ) (whole : RunSummary) (s : Simulation) (counts : Counts) : Type 0 where
  pub world : World
  pub stands : StandsFor s world
  pub seen : List Picture
  pub counted : counts ≡ counts_of seen
  pub course : whole ≡ course_on a d seen n world

-- what a step comes to: the run goes on, in at most n frames more, or it has ended
abbrev pub StepComesTo : Option RunEnd → Arena → Design → (n : ℕ) → (whole : RunSummary) → Simulation → Counts → Type 0
StepComesTo None a d n whole s counts = CourseGoesOn a d n whole s counts
StepComesTo (Some ending) a d n whole s counts = whole ≡ record { counts = counts; ending = ending }
