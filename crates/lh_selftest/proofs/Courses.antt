-- One step of a run: how it goes from a world on, by its next frame.
use Rattle.std.proofs.Common.{◌≡◌, ℕ, suc, List, [], ◌∷◌, ◌++◌, ap, sym, ◌∙◌, subst, append_assoc, Bool, Option, Some, None}
use Rattle.std.proofs.lemmas.List.{append-nil}
use Rattle.lh_time.specs.declared.Instant.{Instant}
use Rattle.lh_types.specs.Values.{Datum}
use Rattle.lh_types.specs.Pictures.{Picture, picture}
use Rattle.lh_types.specs.History.{bits_at}
use Rattle.lh_types.specs.declared.frame.Frame as frames
use Rattle.lh_unit.specs.Arena.{Arena, contents}
use Rattle.lh_unit.specs.World.{World, Act, acts_at, world_after, next_instant}
use Rattle.lh_unit.specs.Trace.{Frame, Run, max_instructions, least_runaway, frame_of, goes_on, at_bound, run_at, run_from}
use Rattle.lh_unit.specs.Frames.{pictures, picture_by, values_before, signal_values}
use Rattle.lh_design.specs.declared.Design.{Design}
use Rattle.lh_design.specs.Texts.{design_text}
use Rattle.lh_kernel.specs.Simulation.{Simulation, StandsFor}
use Rattle.lh_kernel.specs.declared.sim.SimStep.{SimStep}
use Rattle.lh_kernel.specs.declared.sim.SimStep.TheVariants as sim_step
use Rattle.lh_kernel.specs.Stepped.{Stepped, IsNextFrame, world_then}
use Rattle.lh_trace_laws.proofs.TraceLaw.{bits_stay_law}
use Rattle.lh_selftest_design.specs.Summary.{counts_of, ending_of}
use Rattle.lh_selftest_design.specs.declared.summary.Counts.{Counts}
use Rattle.lh_selftest_design.specs.declared.summary.RunSummary.{RunSummary}
use Rattle.lh_selftest_design.specs.declared.summary.RunEnd.{RunEnd}
use Rattle.lh_selftest_design.specs.declared.summary.RunEnd.TheVariants.{Quiet, Runaway}
use Rattle.lh_selftest.specs.Courses.{course_behind, course_on, CourseGoesOn, StepComesTo}

-- a run of which some frames were counted, and which has ended
abbrev over : Counts → RunEnd → RunSummary
over counts ending = record { counts = counts; ending = ending }

-- ---- from a world on

-- no frame is seen any more
none_more : (seen : List Picture) (before : Option (List Datum)) (o : Option Instant) → course_behind seen before (at_bound o) ≡ over (counts_of seen) (ending_of (at_bound o).end)
none_more seen before None = ap (λ (xs : List Picture). over (counts_of xs) Quiet) (append-nil seen)
none_more seen before (Some t) = ap (λ (xs : List Picture). over (counts_of xs) (ending_of (at_bound (Some t)).end)) (append-nil seen)

pub at_its_bound : (a : Arena) (d : Design) (seen : List Picture) (w : World) → course_on a d seen 0 w ≡ over (counts_of seen) (ending_of (at_bound (next_instant w)).end)
unfolding course_on
at_its_bound a d seen w = none_more seen (values_before (design_text a d) w) (next_instant w)

module _ (a : Arena) (d : Design) (seen : List Picture) (n : ℕ) (w : World) where
  -- how the run goes, by the next instant
  abbrev by_next : Option Instant → RunSummary
  by_next o =
      course_behind seen (values_before (design_text a d) w) (run_at max_instructions (contents a) (design_text a d) w o (run_from max_instructions (contents a) (design_text a d) n))

  is_by_next : (o : Option Instant) → next_instant w ≡ o → course_on a d seen (suc n) w ≡ by_next o
  unfolding course_on
  is_by_next o e = ap by_next e

  quiet_then : next_instant w ≡ None → course_on a d seen (suc n) w ≡ over (counts_of seen) Quiet
  quiet_then e = is_by_next None e ∙ ap (λ (xs : List Picture). over (counts_of xs) Quiet) (append-nil seen)

  module _ (t : Instant) where
    abbrev acts : List Act
    acts = acts_at max_instructions (contents a) (design_text a d) w t

    abbrev frame : Frame
    frame = frame_of (design_text a d).signals t (bits_at w.history w.init t) acts

    abbrev shown : Picture
    shown = picture_by (values_before (design_text a d) w) frame

    abbrev then : World
    then = world_after w t acts

    -- by who ran away
    by_frame : (q : Option ℕ) → next_instant w ≡ Some t → least_runaway 0 acts ≡ q
        → course_on a d seen (suc n) w ≡ course_behind seen (values_before (design_text a d) w) (goes_on frame q (run_from max_instructions (contents a) (design_text a d) n then))
    by_frame q e r =
        is_by_next (Some t) e
        ∙ ap (λ (p : Option ℕ). course_behind seen (values_before (design_text a d) w) (goes_on frame p (run_from max_instructions (contents a) (design_text a d) n then))) r

    runaway_then : (i : ℕ) (p : Picture) → next_instant w ≡ Some t → least_runaway 0 acts ≡ Some i → p ≡ shown → course_on a d seen (suc n) w ≡ over (counts_of (seen ++ p ∷ [])) Runaway
    runaway_then i p e r s = by_frame (Some i) e r ∙ ap (λ (x : Picture). over (counts_of (seen ++ x ∷ [])) Runaway) (sym s)

    -- the values of the frame are those of the last frame then
    values_then : values_before (design_text a d) then ≡ Some frame.values
    values_then = ap (λ (bits : List Bool). Some (signal_values (design_text a d).signals bits)) (bits_stay_law max_instructions (contents a) (design_text a d) w t)

    one_more : (p : Picture) (before : Option (List Datum)) (r : Run) → over (counts_of (seen ++ p ∷ pictures before r.frames)) (ending_of r.end) ≡ course_behind (seen ++ p ∷ []) before r
    one_more p before r = ap (λ (xs : List Picture). over (counts_of xs) (ending_of r.end)) (sym (append_assoc seen (p ∷ []) (pictures before r.frames)))

    behind_frame : (p : Picture) → p ≡ shown → course_behind seen (values_before (design_text a d) w) (goes_on frame None (run_from max_instructions (contents a) (design_text a d) n then))
        ≡ course_on a d (seen ++ p ∷ []) n then
    unfolding course_on
    behind_frame p s =
        one_more shown (Some frame.values) (run_from max_instructions (contents a) (design_text a d) n then)
        ∙ ap (λ (before : Option (List Datum)). course_behind (seen ++ shown ∷ []) before (run_from max_instructions (contents a) (design_text a d) n then)) (sym values_then)
        ∙ ap (λ (x : Picture). course_behind (seen ++ x ∷ []) (values_before (design_text a d) then) (run_from max_instructions (contents a) (design_text a d) n then)) (sym s)

    frame_then : (p : Picture) → next_instant w ≡ Some t → least_runaway 0 acts ≡ None → p ≡ shown → course_on a d seen (suc n) w ≡ course_on a d (seen ++ p ∷ []) n then
    frame_then p e r s = by_frame None e r ∙ behind_frame p s

-- ---- what a step comes to

-- the step gave nothing
pub comes_quiet : (s s' : Simulation) (w : World) (x : SimStep) (n : ℕ) (seen : List Picture) (old : Counts) → Stepped s w s' x → x ≡ sim_step.Quiet → old ≡ counts_of seen
    → StepComesTo (Some Quiet) s.arena s.design n (course_on s.arena s.design seen (suc n) w) s' old
comes_quiet s s' w x n seen old st e c =
    quiet_then s.arena s.design seen n w (subst (Stepped s w s') e st).0 ∙ ap (λ (k : Counts). over k Quiet) (sym c)

-- it gave a frame
pub comes_on : (s s' : Simulation) (w : World) (x : SimStep) (f : frames.Frame) (n : ℕ) (seen : List Picture) (new : Counts) → Stepped s w s' x → x ≡ sim_step.Frame f
    → new ≡ counts_of (seen ++ picture f ∷ [])
    → StepComesTo None s.arena s.design n (course_on s.arena s.design seen (suc n) w) s' new
comes_on s s' w x f n seen new st e c =
    let y : IsNextFrame s w f None × StandsFor s' (world_then s w f.at) = subst (Stepped s w s') e st in
    let at : f.at ≡ y.0.at = ap (λ (p : Picture). p.at) y.0.shows in
    record {
      world = world_then s w y.0.at;
      stands = subst (λ (t : Instant). StandsFor s' (world_then s w t)) at y.1;
      seen = seen ++ picture f ∷ [];
      counted = c;
      course = frame_then s.arena s.design seen n w y.0.at (picture f) y.0.comes y.0.ends y.0.shows;
    }

-- it gave a frame in which an instance ran away
pub comes_runaway : (s s' : Simulation) (w : World) (x : SimStep) (f : frames.Frame) (i n : ℕ) (seen : List Picture) (new : Counts) → Stepped s w s' x → x ≡ sim_step.Runaway f i
    → new ≡ counts_of (seen ++ picture f ∷ [])
    → StepComesTo (Some Runaway) s.arena s.design n (course_on s.arena s.design seen (suc n) w) s' new
comes_runaway s s' w x f i n seen new st e c =
    let y = (subst (Stepped s w s') e st).0 in
    runaway_then s.arena s.design seen n w y.at i (picture f) y.comes y.ends y.shows ∙ ap (λ (k : Counts). over k Runaway) (sym c)

-- ---- step after step

-- before the first step
pub going_first : (a : Arena) (d : Design) (n m : ℕ) (w : World) (s : Simulation) (counts : Counts) → m ≡ n → StandsFor s w → counts ≡ counts_of [] → CourseGoesOn a d m (course_on a d [] n w) s counts
going_first a d n m w s counts e st c = record {
  world = w;
  stands = st;
  seen = [];
  counted = c;
  course = ap (λ (k : ℕ). course_on a d [] k w) (sym e);
}

-- after one more, by what it came to
going_next : (a a' : Arena) (d d' : Design) (n m : ℕ) (whole : RunSummary) (s s' : Simulation) (old new : Counts) (o : Option RunEnd) → a' ≡ a → d' ≡ d → m ≡ suc n → CourseGoesOn a d m whole s old
    → ((k : ℕ) (w : World) (seen : List Picture) → StandsFor s w → old ≡ counts_of seen → StepComesTo o a' d' k (course_on a' d' seen (suc k) w) s' new) → StepComesTo o a d n whole s' new
going_next a a' d d' n m whole s s' old new o ea ed em g h =
    let here = h n g.world g.seen g.stands g.counted in
    let in_a = subst (λ (x : Arena). StepComesTo o x d' n (course_on x d' g.seen (suc n) g.world) s' new) ea here in
    let in_d = subst (λ (x : Design). StepComesTo o a x n (course_on a x g.seen (suc n) g.world) s' new) ed in_a in
    subst (λ (c : RunSummary). StepComesTo o a d n c s' new) (sym (g.course ∙ ap (λ (k : ℕ). course_on a d g.seen k g.world) em)) in_d

-- a step after which the run goes on
pub going_on : (a a' : Arena) (d d' : Design) (n m : ℕ) (whole : RunSummary) (s s' : Simulation) (old new : Counts) (o : Option RunEnd) → a' ≡ a → d' ≡ d → m ≡ suc n → CourseGoesOn a d m whole s old
    → o ≡ None
    → ((k : ℕ) (w : World) (seen : List Picture) → StandsFor s w → old ≡ counts_of seen → StepComesTo o a' d' k (course_on a' d' seen (suc k) w) s' new) → CourseGoesOn a d n whole s' new
going_on a a' d d' n m whole s s' old new o ea ed em g e h =
    subst (λ (x : Option RunEnd). StepComesTo x a d n whole s' new) e (going_next a a' d d' n m whole s s' old new o ea ed em g h)

-- a step at which the run ended
pub going_over : (a a' : Arena) (d d' : Design) (n m : ℕ) (whole : RunSummary) (s s' : Simulation) (old new : Counts) (o : Option RunEnd) (ending : RunEnd) → a' ≡ a → d' ≡ d → m ≡ suc n
    → CourseGoesOn a d m whole s old → o ≡ Some ending
    → ((k : ℕ) (w : World) (seen : List Picture) → StandsFor s w → old ≡ counts_of seen → StepComesTo o a' d' k (course_on a' d' seen (suc k) w) s' new) → over new ending ≡ whole
going_over a a' d d' n m whole s s' old new o ending ea ed em g e h =
    sym (subst (λ (x : Option RunEnd). StepComesTo x a d n whole s' new) e (going_next a a' d d' n m whole s s' old new o ea ed em g h))

-- the bound is reached
pub going_last : (a : Arena) (d : Design) (m : ℕ) (whole : RunSummary) (s : Simulation) (counts : Counts) (ending : RunEnd) → m ≡ 0 → CourseGoesOn a d m whole s counts
    → ((w : World) → StandsFor s w → ending ≡ ending_of (at_bound (next_instant w)).end) → over counts ending ≡ whole
going_last a d m whole s counts ending em g h =
    let at_end = at_its_bound a d g.seen g.world in
    ap (λ (k : Counts). over k ending) g.counted
    ∙ ap (λ (e : RunEnd). over (counts_of g.seen) e) (h g.world g.stands)
    ∙ sym (g.course ∙ ap (λ (k : ℕ). course_on a d g.seen k g.world) em ∙ at_end)
