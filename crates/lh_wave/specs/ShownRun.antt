-- What is shown of a run: its frames are shown to watchers one after the other, and a watcher may say stop.
use Rattle.std.specs.Prelude.{ℕ, List, [], ◌∷◌, ◌++◌, Bool, true, false, Option, Some, None}
use Rattle.std.specs.List.{flat_map, list_any}
use Rattle.lh_types.specs.Values.{Datum}
use Rattle.lh_unit.specs.Contents.{ItemText}
use Rattle.lh_unit.specs.Design.{Design}
use Rattle.lh_unit.specs.World.{first_world}
use Rattle.lh_unit.specs.Trace as trace
use Rattle.lh_unit.specs.Trace.{Frame, Run, quiet, steps, runaway, max_instructions, run_from}
use Rattle.lh_unit.specs.Frames.{picture_by}
use Rattle.lh_watch.specs.Members.{Member, report_of}
use Rattle.lh_watch.specs.Shown.{shown, reports_of, first_stop}
use Rattle.lh_watch.specs.Builtin.{has_failed}
use Rattle.lh_wave.specs.declared.ending.End.{End}
use Rattle.lh_wave.specs.declared.ending.End.TheVariants.{Quiet, Steps, Runaway, Stop}

-- the frames that are shown, the members that are left after the last of them, the reports of those that were done, and the end
pub record ShownRun : Type 0 where
  pub frames : List Frame
  pub left : List Member
  pub done : List ℕ
  pub end : End

-- how it ends where no member says stop
abbrev pub end_of : trace.End → End
end_of quiet = Quiet
end_of steps = Steps
end_of (runaway i) = Runaway i

-- how it ends behind a frame at which the member at this place says stop, if one does
abbrev pub stop_at : Option ℕ → Option End
stop_at None = None
stop_at (Some place) = Some (Stop place)

-- no frame is shown any more
abbrev pub shows_none : List Member → End → ShownRun
shows_none ms e = record { frames = []; left = ms; done = []; end = e }

-- a frame is shown, at which some members are done with these reports, and then the others
abbrev pub shows : Frame → (reports : List ℕ) → ShownRun → ShownRun
shows f reports rest = record { frames = f ∷ rest.frames; left = rest.left; done = reports ++ rest.done; end = rest.end }

-- an instance ran away in the frame before these
abbrev pub ran_away : List Frame → trace.End → Bool
ran_away [] (runaway i) = true
ran_away _ _ = false

-- Behind a frame at which a member says stop nothing is shown, and the run ends with its place; not so where an instance ran away in that frame.
abbrev pub unless_stopped : (stop : Option ℕ) → (is_runaway : Bool) → List Member → ShownRun → ShownRun
unless_stopped None is_runaway ms rest = rest
unless_stopped (Some place) true ms rest = rest
unless_stopped (Some place) false ms rest = shows_none ms (Stop place)

-- the frames of a run shown to members, where the frame before them has these values
abbrev pub shown_behind : (before : Option (List Datum)) → List Frame → trace.End → List Member → ShownRun
shown_behind before [] end ms = shows_none ms (end_of end)
shown_behind before (f ∷ more) end ms =
    let p = picture_by before f in
    shows f (reports_of p ms) (unless_stopped (first_stop p ms) (ran_away more end) (shown p ms) (shown_behind (Some f.values) more end (shown p ms)))

-- A run shown to members: its frames up to the first at which one of them says stop.
abbrev pub shown_run : Run → List Member → ShownRun
shown_run r ms = shown_behind None r.frames r.end ms

-- The reports: of the members that were done, in the order in which they were, and then of those that are left.
abbrev pub all_reports : ShownRun → List ℕ
all_reports s = s.done ++ flat_map report_of s.left

-- an assertion failed in some frame that is shown
abbrev pub any_failed : ShownRun → Bool
any_failed s = list_any (λ (f : Frame). has_failed f.outcomes) s.frames

-- The run of a design of a module from its first frame on, at most n frames, shown to members.
abbrev pub shown_from_first : List ItemText → Design → (n : ℕ) → List Member → ShownRun
shown_from_first items d n ms = shown_run (run_from max_instructions items d n (first_world items d)) ms
