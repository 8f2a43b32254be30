-- The answer, from the runs of the file and of what it is lowered to.
use Rattle.std.proofs.Common.{◌≡◌, ℕ, List, [], refl, ap, sym, ◌∙◌, subst, Err}
use Rattle.lh_unit.specs.Arena.{Arena, contents}
use Rattle.lh_unit.specs.Contents.{ItemText}
use Rattle.lh_unit.specs.Design.{Design, Elaborated, refused, built, Refusal, elab}
use Rattle.lh_unit.specs.Reads.{Reads}
use Rattle.lh_unit.specs.Trace.{Trace, refuses, SameTrace, trace, trace_by, max_instructions}
use Rattle.lh_unit.specs.World.{World, first_world}
use Rattle.lh_design.specs.declared.Design.{Design as ByIds}
use Rattle.lh_design.specs.Texts.{design_text}
use Rattle.lh_kernel.specs.Simulation.{Simulation, StandsFor}
use Rattle.lh_read.specs.Reading.{ModuleOrNoMemory}
use Rattle.lh_read.specs.declared.TextFault.{TextFault}
use Rattle.lh_read.specs.declared.TextFault.TheVariants.{Syntax, UnitTooLarge, DuplicateName, OutOfMemory}
use Rattle.lh_lower_def.specs.Lowering.{lowered}
use Rattle.lh_selftest_design.specs.Summary.{chain_name, max_frames, WentSo, IsSummaryOf, summary}
use Rattle.lh_selftest_design.specs.declared.summary.RunSummary.{RunSummary}
use Rattle.lh_selftest_design.specs.declared.summary.Units.{Units}
use Rattle.lh_selftest.specs.SelfTest.{HasDesign, IsChain, IsTextOf, IsSelfTest, units_of}
use Rattle.lh_selftest.specs.Courses.{course_on}

-- a text that reads was not read when memory runs out alone
pub reads-starved : (f : TextFault) (file : List ItemText) → ModuleOrNoMemory (Err f) file → f ≡ OutOfMemory
reads-starved (Syntax n) file g = absurd g
reads-starved (UnitTooLarge n) file g = absurd g
reads-starved (DuplicateName n) file g = absurd g
reads-starved OutOfMemory file g = refl

-- a module with the same trace has a design too
design_of_trace : (file : List ItemText) (x : Elaborated) (r : Trace) (d : Design) → trace_by max_instructions file 0 x ≡ r → ((why : Refusal) → r ≡ refuses why → ⊥) → (e : Design) × (x ≡ built e)
design_of_trace file (refused why) r d is ran_so = absurd (ran_so why (sym is))
design_of_trace file (built e) r d is ran_so = (e, refl)

pub same-has_design : (file other : List ItemText) → SameTrace file other → HasDesign file → HasDesign other
same-has_design file other same h =
    let is : trace file chain_name 0 ≡ trace_by max_instructions file 0 (built h.design) = ap (trace_by max_instructions file 0) h.is in
    let too = design_of_trace other (elab other chain_name) (trace_by max_instructions file 0 (built h.design)) h.design (sym (same chain_name 0) ∙ is) (λ why e. cc) in
    record { design = too.0; is = too.1 }

-- how the run of a design goes is how its trace goes
pub went_so : (a : Arena) (d : ByIds) (n : ℕ) (c : RunSummary) → elab (contents a) chain_name ≡ built (design_text a d) → c ≡ course_on a d [] n (first_world (contents a) (design_text a d))
    → WentSo (trace (contents a) chain_name n) c
unfolding course_on
went_so a d n c e h = subst (λ (x : Elaborated). WentSo (trace_by max_instructions (contents a) n x) c) (sym e) h

-- the summary of the runs of a file and of what it is lowered to
pub is_summary : (file other : List ItemText) (units : Units) (c c' : RunSummary) (text : List ℕ) → other ≡ lowered file → units ≡ units_of file → WentSo (trace file chain_name max_frames) c
    → WentSo (trace other chain_name max_frames) c' → text ≡ summary units c c' → IsSummaryOf file (lowered file) (units_of file) text
is_summary file other units c c' text e u w w' s = (c, c', w, subst (λ (x : List ItemText). WentSo (trace x chain_name max_frames) c') e w', s ∙ ap (λ (x : Units). summary x c c') u)

-- is the answer, where the file is that of the chain
pub is_self_test : (links : ℕ) (file : List ItemText) (text : List ℕ) → IsChain links file → IsSummaryOf file (lowered file) (units_of file) text → IsSelfTest links text
unfolding IsSelfTest IsTextOf
is_self_test links file text h s = (file, subst (λ (t : List ℕ). Reads t file) h.is h.runs.reads, s)

-- the same of a simulation that begins
pub course_so : (a m : Arena) (d : ByIds) (s : Simulation) (n : ℕ) (c : RunSummary) → m ≡ a → s.arena ≡ m → s.design ≡ d → StandsFor s (first_world (contents m) (design_text m d))
    → elab (contents a) chain_name ≡ built (design_text a d)
    → ((w : World) → StandsFor s w → c ≡ course_on s.arena s.design [] n w) → WentSo (trace (contents a) chain_name n) c
course_so a m d s n c em ea ed st e h =
    let first = first_world (contents a) (design_text a d) in
    let stands = subst (λ (x : Arena). StandsFor s (first_world (contents x) (design_text x d))) em st in
    went_so a d n c e
    (h first stands
    ∙ ap (λ (x : Arena). course_on x s.design [] n first) (ea ∙ em)
    ∙ ap (λ (x : ByIds). course_on a x [] n first) ed)
