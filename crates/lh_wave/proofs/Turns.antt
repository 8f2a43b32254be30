-- One turn of a run: what is shown from a world on, by its next frame.
use Rattle.std.proofs.Common.{◌≡◌, ℕ, zero, suc, Bool, true, false, List, refl, ap, sym, ◌∙◌, subst, Option, Some, None}
use Rattle.std.specs.Prelude.{option_map}
use Rattle.lh_time.specs.declared.Instant.{Instant}
use Rattle.lh_types.specs.Values.{Datum}
use Rattle.lh_types.specs.Pictures.{Picture, picture}
use Rattle.lh_types.specs.History.{bits_at}
use Rattle.lh_types.specs.declared.frame.Frame as frames
use Rattle.lh_unit.specs.Contents.{ItemText}
use Rattle.lh_unit.specs.Arena.{Arena, contents}
use Rattle.lh_unit.specs.Design as text
use Rattle.lh_unit.specs.World.{World, Act, acts_at, world_after, next_instant, bits_of}
use Rattle.lh_unit.specs.Trace.{Frame, Run, max_instructions, least_runaway, frame_of, goes_on, at_bound, run_at, run_from}
use Rattle.lh_unit.specs.Frames.{picture_by, signal_values}
use Rattle.lh_design.specs.declared.Design.{Design}
use Rattle.lh_design.specs.Texts.{design_text}
use Rattle.lh_watch.specs.Members.{Member}
use Rattle.lh_watch.specs.Shown.{shown, first_stop}
use Rattle.lh_kernel.specs.Simulation.{Simulation, StandsFor}
use Rattle.lh_kernel.specs.declared.sim.SimStep.{SimStep}
use Rattle.lh_kernel.specs.declared.sim.SimStep.TheVariants as sim_step
use Rattle.lh_kernel.specs.Stepped.{Stepped, IsNextFrame, world_then}
use Rattle.lh_wave.specs.declared.scribe.Scribe.{Scribe}
use Rattle.lh_wave.specs.declared.teller.Teller.{Teller}
use Rattle.lh_wave.specs.declared.run.WaveFault.{WaveFault}
use Rattle.lh_wave.specs.declared.ending.End.{End}
use Rattle.lh_wave.specs.declared.ending.End.TheVariants.{Quiet, Runaway, Stop}
use Rattle.lh_wave.specs.ShownRun.{ShownRun, ran_away, unless_stopped, shows_none, shown_behind, stop_at}
use Rattle.lh_wave.specs.Going.{Going, Went, BrokeOff, HasWrittenUpTo, ValuesAreReached, IsNextToWrite, going, shows_one, shown_on, run_on, values_of_last, TellingIsOver, Turned}
use Rattle.lh_trace_laws.proofs.TraceLaw.{bits_stay_law}
use Rattle.lh_wave.proofs.SameValues.{changes_reach}
use Rattle.lh_wave.proofs.Courses.{stays_put}

-- what is shown of a run behind these values
abbrev shown_of : Option (List Datum) → List Member → Run → ShownRun
shown_of vals ms r = shown_behind vals r.frames r.end ms

-- a run that does not begin with a frame ends with no runaway
no_runaway : (o : Option Instant) → ran_away (at_bound o).frames (at_bound o).end ≡ false
no_runaway None = refl
no_runaway (Some t) = refl

first_frame : (f : Frame) (q : Option ℕ) (r : Run) → ran_away (goes_on f q r).frames (goes_on f q r).end ≡ false
first_frame f None r = refl
first_frame f (Some i) r = refl

begins : (d : text.Design) (items : List ItemText) (w : World) (o : Option Instant) (more : World → Run)
    → ran_away (run_at max_instructions items d w o more).frames (run_at max_instructions items d w o more).end ≡ false
begins d items w None more = refl
begins d items w (Some t) more =
    first_frame (frame_of d.signals t (bits_at w.history w.init t) (acts_at max_instructions items d w t)) (least_runaway 0 (acts_at max_instructions items d w t))
    (more (world_after w t (acts_at max_instructions items d w t)))

begins_anew : (a : Arena) (d : Design) (n : ℕ) (w : World) → ran_away (run_on a d n w).frames (run_on a d n w).end ≡ false
begins_anew a d zero w = no_runaway (next_instant w)
begins_anew a d (suc n) w = begins (design_text a d) (contents a) w (next_instant w) (run_from max_instructions (contents a) (design_text a d) n)

module _ (a : Arena) (d : Design) (n : ℕ) (w : World) (ms : List Member) where
  -- the run from the world on, by the next instant
  abbrev from : Option Instant → Run
  from o = run_at max_instructions (contents a) (design_text a d) w o (run_from max_instructions (contents a) (design_text a d) n)

  pub quiet_shown : next_instant w ≡ None → shown_on a d (suc n) w ms ≡ shows_none ms Quiet
  quiet_shown e = ap (λ (o : Option Instant). shown_of (values_of_last a d w) ms (from o)) e

  module _ (t : Instant) where
    abbrev acts : List Act
    acts = acts_at max_instructions (contents a) (design_text a d) w t

    abbrev frame : Frame
    frame = frame_of (design_text a d).signals t (bits_at w.history w.init t) acts

    abbrev seen : Picture
    seen = picture_by (values_of_last a d w) frame

    abbrev then : World
    then = world_after w t acts

    -- what is shown, by who ran away
    by_frame : (q : Option ℕ) → next_instant w ≡ Some t → least_runaway 0 acts ≡ q → shown_on a d (suc n) w ms ≡ shown_of (values_of_last a d w) ms (goes_on frame q (run_on a d n then))
    by_frame q e r = ap (λ (o : Option Instant). shown_of (values_of_last a d w) ms (from o)) e ∙ ap (λ (p : Option ℕ). shown_of (values_of_last a d w) ms (goes_on frame p (run_on a d n then))) r

    -- the values of the frame are those of the last frame then
    values_then : values_of_last a d then ≡ Some frame.values
    values_then = ap (λ (bits : List Bool). Some (signal_values (design_text a d).signals bits)) (bits_stay_law max_instructions (contents a) (design_text a d) w t)

    -- what is shown behind the frame
    abbrev behind_it : (q : Option ℕ) → Picture → ShownRun
    behind_it None p = unless_stopped (first_stop p ms) false (shown p ms) (shown_on a d n then (shown p ms))
    behind_it (Some i) p = shows_none (shown p ms) (Runaway i)

    at_runaway : (stop : Option ℕ) (xs : List Member) (s : ShownRun) → unless_stopped stop true xs s ≡ s
    at_runaway None xs s = refl
    at_runaway (Some k) xs s = refl

    split : (q : Option ℕ) → shown_of (values_of_last a d w) ms (goes_on frame q (run_on a d n then)) ≡ shows_one seen ms frame (behind_it q seen)
    split None =
        ap (λ (b : Bool). shows_one seen ms frame (unless_stopped (first_stop seen ms) b (shown seen ms) (shown_of (Some frame.values) (shown seen ms) (run_on a d n then)))) (begins_anew a d n then)
        ∙ ap (λ (vals : Option (List Datum)). shows_one seen ms frame (unless_stopped (first_stop seen ms) false (shown seen ms) (shown_of vals (shown seen ms) (run_on a d n then)))) (sym values_then)
    split (Some i) = ap (shows_one seen ms frame) (at_runaway (first_stop seen ms) (shown seen ms) (shows_none (shown seen ms) (Runaway i)))

    -- the frame is shown, and then what is behind it
    shown_next : (p : Picture) (q : Option ℕ) → next_instant w ≡ Some t → p ≡ seen → least_runaway 0 acts ≡ q → shown_on a d (suc n) w ms ≡ shows_one p ms frame (behind_it q p)
    shown_next p q e s r = by_frame q e r ∙ split q ∙ ap (λ (x : Picture). shows_one x ms frame (behind_it q x)) (sym s)

    reached_by : (last : Option Instant) (old : List Bool) → ValuesAreReached (option_map (λ (x : Instant). signal_values (design_text a d).signals old) last) frame
    reached_by None old = tt
    reached_by (Some l) old = changes_reach (design_text a d).signals old (bits_at w.history w.init t)

    is_next : (s : Scribe) (p : Picture) → HasWrittenUpTo s (values_of_last a d w) → p ≡ seen → IsNextToWrite s (values_of_last a d w) frame p
    is_next s p b e = record { behind = b; is = e; reached = reached_by w.last (bits_of w) }

    -- a turn that showed the frame, and ended with it or went on
    module _ (s' : Simulation) (t0 t1 : Teller) (p : Picture) (ms' : List Member) (wr wr' : Option (List ℕ)) (rp rp' : List ℕ) (e : next_instant w ≡ Some t) (is : p ≡ seen) (m : ms' ≡ shown p ms)
        (b : HasWrittenUpTo t0.scribe (values_of_last a d w)) (behind : (vals : Option (List Datum)) (v : Frame) → IsNextToWrite t0.scribe vals v p → HasWrittenUpTo t1.scribe (Some v.values))
        (went : (vals : Option (List Datum)) (v : Frame) (rest : ShownRun) → IsNextToWrite t0.scribe vals v p
        → Went (going t0 vals ms (shows_one p ms v rest) wr rp) (going t1 (Some v.values) ms' rest wr' rp')) where
      abbrev was : Going
      was = going t0 (values_of_last a d w) ms (shown_on a d (suc n) w ms) wr rp

      to_rest : (q : Option ℕ) (rest : ShownRun) → least_runaway 0 acts ≡ q → behind_it q p ≡ rest → Went was (going t1 (Some frame.values) ms' rest wr' rp')
      to_rest q rest r f =
          subst (λ (x : ShownRun). Went (going t0 (values_of_last a d w) ms x wr rp) (going t1 (Some frame.values) ms' rest wr' rp')) (sym (shown_next p q e is r))
          (subst (λ (x : ShownRun). Went (going t0 (values_of_last a d w) ms (shows_one p ms frame x) wr rp) (going t1 (Some frame.values) ms' rest wr' rp')) (sym f)
          (went (values_of_last a d w) frame rest (is_next t0.scribe p b is)))

      over : (q : Option ℕ) (end : End) → least_runaway 0 acts ≡ q → behind_it q p ≡ shows_none ms' end → TellingIsOver t1 was end ms' wr' rp'
      over q end r f = record { before = Some frame.values; behind = behind (values_of_last a d w) frame (is_next t0.scribe p b is); went = to_rest q (shows_none ms' end) r f }

      ran_over : (i : ℕ) → least_runaway 0 acts ≡ Some i → TellingIsOver t1 was (Runaway i) ms' wr' rp'
      ran_over i r = over (Some i) (Runaway i) r (ap (λ (xs : List Member). shows_none xs (Runaway i)) (sym m))

      by_stop : (stop : Option ℕ) → first_stop p ms ≡ stop → least_runaway 0 acts ≡ None → StandsFor s' then → Turned (stop_at stop) a d n s' t1 was ms' wr' rp'
      by_stop None f r st = record {
        world = then;
        stands = st;
        behind = subst (HasWrittenUpTo t1.scribe) (sym values_then) (behind (values_of_last a d w) frame (is_next t0.scribe p b is));
        went = subst (λ (vals : Option (List Datum)). Went was (going t1 vals ms' (shown_on a d n then ms') wr' rp')) (sym values_then)
            (to_rest None (shown_on a d n then ms') r
            (ap (λ (o : Option ℕ). unless_stopped o false (shown p ms) (shown_on a d n then (shown p ms))) f ∙ ap (shown_on a d n then) (sym m)));
      }
      by_stop (Some k) f r st =
          over None (Stop k) r (ap (λ (o : Option ℕ). unless_stopped o false (shown p ms) (shown_on a d n then (shown p ms))) f ∙ ap (λ (xs : List Member). shows_none xs (Stop k)) (sym m))

    -- a turn that broke off at the frame
    frame_broken : (t0 : Teller) (p : Picture) (q : Option ℕ) (now : List Member) (f : WaveFault) (wr wr' : Option (List ℕ)) (rp : List ℕ) → next_instant w ≡ Some t → p ≡ seen
        → least_runaway 0 acts ≡ q
        → HasWrittenUpTo t0.scribe (values_of_last a d w)
        → ((vals : Option (List Datum)) (v : Frame) (rest : ShownRun) → IsNextToWrite t0.scribe vals v p → BrokeOff (going t0 vals ms (shows_one p ms v rest) wr rp) f wr' now)
        → BrokeOff (going t0 (values_of_last a d w) ms (shown_on a d (suc n) w ms) wr rp) f wr' now
    frame_broken t0 p q now f wr wr' rp e is r b h =
        subst (λ (x : ShownRun). BrokeOff (going t0 (values_of_last a d w) ms x wr rp) f wr' now) (sym (shown_next p q e is r))
        (h (values_of_last a d w) frame (behind_it q p) (is_next t0.scribe p b is))

-- the step gave a frame
module _ (s s' : Simulation) (w : World) (x : SimStep) (f : frames.Frame) (stepped : Stepped s w s' x) where
  next_frame : x ≡ sim_step.Frame f → IsNextFrame s w f None × StandsFor s' (world_then s w f.at)
  next_frame e = subst (Stepped s w s') e stepped

  ran_frame : (i : ℕ) → x ≡ sim_step.Runaway f i → IsNextFrame s w f (Some i)
  ran_frame i e = (subst (Stepped s w s') e stepped).0

turned_frame : (s s' : Simulation) (w : World) (x : SimStep) (f : frames.Frame) (n : ℕ) (stop : Option ℕ) (t0 t1 : Teller) (ms ms' : List Member) (wr wr' : Option (List ℕ)) (rp rp' : List ℕ)
    → Stepped s w s' x → x ≡ sim_step.Frame f
    → ms' ≡ shown (picture f) ms → stop ≡ first_stop (picture f) ms → HasWrittenUpTo t0.scribe (values_of_last s.arena s.design w)
    → ((vals : Option (List Datum)) (v : Frame) → IsNextToWrite t0.scribe vals v (picture f) → HasWrittenUpTo t1.scribe (Some v.values))
    → ((vals : Option (List Datum)) (v : Frame) (rest : ShownRun) → IsNextToWrite t0.scribe vals v (picture f)
    → Went (going t0 vals ms (shows_one (picture f) ms v rest) wr rp) (going t1 (Some v.values) ms' rest wr' rp'))
    → Turned (stop_at stop) s.arena s.design n s' t1 (going t0 (values_of_last s.arena s.design w) ms (shown_on s.arena s.design (suc n) w ms) wr rp) ms' wr' rp'
turned_frame s s' w x f n stop t0 t1 ms ms' wr wr' rp rp' st e m k b behind went =
    let y = next_frame s s' w x f st e in
    let at : f.at ≡ y.0.at = ap (λ (p : Picture). p.at) y.0.shows in
    by_stop s.arena s.design n w ms y.0.at s' t0 t1 (picture f) ms' wr wr' rp rp' y.0.comes y.0.shows m b behind went stop (sym k) y.0.ends
    (subst (λ (u : Instant). StandsFor s' (world_then s w u)) at y.1)

pub turned_end : (s s' : Simulation) (w : World) (x : SimStep) (f : frames.Frame) (n : ℕ) (stop : Option ℕ) (end : Option End) (t0 t1 : Teller) (ms ms' : List Member) (wr wr' : Option (List ℕ)) (rp
    rp' : List ℕ) → Stepped s w s' x → x ≡ sim_step.Frame f
    → end ≡ stop_at stop → ms' ≡ shown (picture f) ms → stop ≡ first_stop (picture f) ms → HasWrittenUpTo t0.scribe (values_of_last s.arena s.design w)
    → ((vals : Option (List Datum)) (v : Frame) → IsNextToWrite t0.scribe vals v (picture f) → HasWrittenUpTo t1.scribe (Some v.values))
    → ((vals : Option (List Datum)) (v : Frame) (rest : ShownRun) → IsNextToWrite t0.scribe vals v (picture f)
    → Went (going t0 vals ms (shows_one (picture f) ms v rest) wr rp) (going t1 (Some v.values) ms' rest wr' rp'))
    → Turned end s.arena s.design n s' t1 (going t0 (values_of_last s.arena s.design w) ms (shown_on s.arena s.design (suc n) w ms) wr rp) ms' wr' rp'
turned_end s s' w x f n stop end t0 t1 ms ms' wr wr' rp rp' st e z m k b behind went =
    subst (λ (o : Option End). Turned o s.arena s.design n s' t1 (going t0 (values_of_last s.arena s.design w) ms (shown_on s.arena s.design (suc n) w ms) wr rp) ms' wr' rp') (sym z)
    (turned_frame s s' w x f n stop t0 t1 ms ms' wr wr' rp rp' st e m k b behind went)

pub turned_runaway : (s s' : Simulation) (w : World) (x : SimStep) (f : frames.Frame) (i n : ℕ) (t0 t1 : Teller) (ms ms' : List Member) (wr wr' : Option (List ℕ)) (rp rp' : List ℕ) → Stepped s w s' x
    → x ≡ sim_step.Runaway f i
    → ms' ≡ shown (picture f) ms → HasWrittenUpTo t0.scribe (values_of_last s.arena s.design w)
    → ((vals : Option (List Datum)) (v : Frame) → IsNextToWrite t0.scribe vals v (picture f) → HasWrittenUpTo t1.scribe (Some v.values))
    → ((vals : Option (List Datum)) (v : Frame) (rest : ShownRun) → IsNextToWrite t0.scribe vals v (picture f)
    → Went (going t0 vals ms (shows_one (picture f) ms v rest) wr rp) (going t1 (Some v.values) ms' rest wr' rp'))
    → TellingIsOver t1 (going t0 (values_of_last s.arena s.design w) ms (shown_on s.arena s.design (suc n) w ms) wr rp) (Runaway i) ms' wr' rp'
turned_runaway s s' w x f i n t0 t1 ms ms' wr wr' rp rp' st e m b behind went =
    let y = ran_frame s s' w x f st i e in
    ran_over s.arena s.design n w ms y.at s' t0 t1 (picture f) ms' wr wr' rp rp' y.comes y.shows m b behind went i y.ends

pub turned_quiet : (s s' : Simulation) (w : World) (x : SimStep) (n : ℕ) (t : Teller) (ms : List Member) (wr : Option (List ℕ)) (rp : List ℕ) → Stepped s w s' x → x ≡ sim_step.Quiet
    → HasWrittenUpTo t.scribe (values_of_last s.arena s.design w)
    → TellingIsOver t (going t (values_of_last s.arena s.design w) ms (shown_on s.arena s.design (suc n) w ms) wr rp) Quiet ms wr rp
turned_quiet s s' w x n t ms wr rp st e b = record {
  before = values_of_last s.arena s.design w;
  behind = b;
  went = subst (λ (r : ShownRun). Went (going t (values_of_last s.arena s.design w) ms r wr rp) (going t (values_of_last s.arena s.design w) ms (shows_none ms Quiet) wr rp))
      (sym (quiet_shown s.arena s.design n w ms (subst (Stepped s w s') e st).0)) (stays_put (going t (values_of_last s.arena s.design w) ms (shows_none ms Quiet) wr rp));
}

pub broken_frame : (s s' : Simulation) (w : World) (x : SimStep) (f : frames.Frame) (n : ℕ) (t0 : Teller) (ms now : List Member) (fault : WaveFault) (wr wr' : Option (List ℕ)) (rp : List ℕ)
    → Stepped s w s' x → x ≡ sim_step.Frame f
    → HasWrittenUpTo t0.scribe (values_of_last s.arena s.design w)
    → ((vals : Option (List Datum)) (v : Frame) (rest : ShownRun) → IsNextToWrite t0.scribe vals v (picture f) → BrokeOff (going t0 vals ms (shows_one (picture f) ms v rest) wr rp) fault wr' now)
    → BrokeOff (going t0 (values_of_last s.arena s.design w) ms (shown_on s.arena s.design (suc n) w ms) wr rp) fault wr' now
broken_frame s s' w x f n t0 ms now fault wr wr' rp st e b h =
    let y = next_frame s s' w x f st e in
    frame_broken s.arena s.design n w ms y.0.at t0 (picture f) None now fault wr wr' rp y.0.comes y.0.shows y.0.ends b h

pub broken_runaway : (s s' : Simulation) (w : World) (x : SimStep) (f : frames.Frame) (i n : ℕ) (t0 : Teller) (ms now : List Member) (fault : WaveFault) (wr wr' : Option (List ℕ)) (rp : List ℕ)
    → Stepped s w s' x → x ≡ sim_step.Runaway f i
    → HasWrittenUpTo t0.scribe (values_of_last s.arena s.design w)
    → ((vals : Option (List Datum)) (v : Frame) (rest : ShownRun) → IsNextToWrite t0.scribe vals v (picture f) → BrokeOff (going t0 vals ms (shows_one (picture f) ms v rest) wr rp) fault wr' now)
    → BrokeOff (going t0 (values_of_last s.arena s.design w) ms (shown_on s.arena s.design (suc n) w ms) wr rp) fault wr' now
broken_runaway s s' w x f i n t0 ms now fault wr wr' rp st e b h =
    let y = ran_frame s s' w x f st i e in
    frame_broken s.arena s.design n w ms y.at t0 (picture f) (Some i) now fault wr wr' rp y.comes y.shows y.ends b h
