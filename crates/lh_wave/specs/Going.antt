-- A run while its frames come.
use Rattle.std.specs.Prelude.{◌≡◌, ◌||◌, ℕ, List, ◌∷◌, ◌++◌, Bool, true, Option, Some, None, map}
use Rattle.std.specs.List.{flat_map, list_any}
use Rattle.lh_text_buffer.specs.Writing.{Written, Leaves}
use Rattle.lh_types.specs.Values.{Datum}
use Rattle.lh_types.specs.Pictures.{Picture}
use Rattle.lh_io.specs.Streams.{Appends, AppendsProperPrefix}
use Rattle.lh_unit.specs.Arena.{Arena, contents}
use Rattle.lh_unit.specs.World.{World}
use Rattle.lh_unit.specs.Trace.{Frame, Run, max_instructions, run_from}
use Rattle.lh_unit.specs.Frames.{pictures, picture_by, changed_from, values_before}
use Rattle.lh_design.specs.declared.Design.{Design}
use Rattle.lh_design.specs.Texts.{design_text}
use Rattle.lh_kernel.specs.Simulation.{Simulation, StandsFor}
use Rattle.lh_watch.specs.Members.{Member}
use Rattle.lh_watch.specs.Shown.{reports_of}
use Rattle.lh_watch.specs.Builtin.{has_failed}
use Rattle.lh_wave.specs.declared.scribe.Scribe.{Scribe}
use Rattle.lh_wave.specs.declared.scribe.Scribe.TheVariants as scribe
use Rattle.lh_wave.specs.declared.teller.Teller.{Teller}
use Rattle.lh_wave.specs.declared.ending.End.{End}
use Rattle.lh_wave.specs.declared.run.WaveMode.{WaveMode}
use Rattle.lh_wave.specs.declared.run.WaveMode.TheVariants as mode
use Rattle.lh_wave.specs.declared.run.WaveFault.{WaveFault}
use Rattle.lh_wave.specs.declared.run.WaveFault.TheVariants.{WriteFault, OutOfMemory}
use Rattle.lh_wave.specs.TraceText.{frame_text}
use Rattle.lh_wave.specs.WaveText.{waveform_text}
use Rattle.lh_wave.specs.Recorded.{ChangesAreOfSignals, values_now, left_text, changed_values}
use Rattle.lh_wave.specs.EndText.{end_line}
use Rattle.lh_wave.specs.RunText.{moment_of}
use Rattle.lh_wave.specs.ShownRun.{ShownRun, shows_none, shows, shown_behind}
use Rattle.lh_wave.specs.BrokenOff.{HaveSeen, BreaksOff}

-- before the first frame
abbrev pub scribe_in : WaveMode → Scribe
scribe_in mode.Trace = scribe.Trace
scribe_in mode.Vcd = scribe.Vcd None

-- what is still to be written where these frames are still shown
abbrev pub text_left : Scribe → (before : Option (List Datum)) → List Frame → List Member → End → List ℕ
text_left scribe.Trace before frames left end = flat_map frame_text (pictures before frames) ++ end_line left end
text_left (scribe.Vcd None) before frames left end = waveform_text (map moment_of frames)
text_left (scribe.Vcd (Some w)) before frames left end = left_text w (map moment_of frames)

-- a waveform that has begun keeps its signals
abbrev pub KeepsSignals : Scribe → Type 0
KeepsSignals scribe.Trace = Unit {0}
KeepsSignals (scribe.Vcd None) = Unit {0}
KeepsSignals (scribe.Vcd (Some w)) = ChangesAreOfSignals w

-- it has written the frames up to one with these values: a waveform has begun exactly where there is one
abbrev pub HasWrittenUpTo : Scribe → (before : Option (List Datum)) → Type 0
HasWrittenUpTo scribe.Trace before = Unit {0}
HasWrittenUpTo (scribe.Vcd None) before = before ≡ None
HasWrittenUpTo (scribe.Vcd (Some w)) before = before ≡ Some (values_now w)

-- the changes against the values before lead to the values of the frame
abbrev pub ValuesAreReached : (before : Option (List Datum)) → Frame → Type 0
ValuesAreReached None f = Unit {0}
ValuesAreReached (Some old) f = changed_values old (changed_from 0 old f.values) ≡ f.values

-- A run at one of its points: the values of the last frame, the members, what is still shown, how far the text is made and what of it waits to be written, what was written and reported, and whether an assertion has failed.
pub record Going : Type 0 where
  pub scribe : Scribe
  pub waits : List ℕ
  pub before : Option (List Datum)
  pub members : List Member
  pub rest : ShownRun
  pub written : Option (List ℕ)
  pub reports : List ℕ
  pub failed : Bool

abbrev pub text_ahead : Going → List ℕ
text_ahead g = g.waits ++ text_left g.scribe g.before g.rest.frames g.rest.left g.rest.end

abbrev pub pictures_ahead : Going → List Picture
pictures_ahead g = pictures g.before g.rest.frames

-- From one point of a run to a later one: the frames since then were shown, their text was written, and the members that were done have reported.
pub record Went (a b : Going) : Type 0 where
  pub since : List Frame
  pub piece : List ℕ
  pub done : List ℕ
  pub frames : a.rest.frames ≡ since ++ b.rest.frames
  pub left : a.rest.left ≡ b.rest.left
  pub end : a.rest.end ≡ b.rest.end
  pub reported : a.rest.done ≡ done ++ b.rest.done
  pub reports : b.reports ≡ a.reports ++ done
  pub failed : b.failed ≡ (a.failed || list_any (λ (f : Frame). has_failed f.outcomes) since)
  pub text : text_ahead a ≡ piece ++ text_ahead b
  pub told : Appends a.written b.written piece
  pub seen : (now : List Member) → HaveSeen (pictures_ahead b) b.members now → HaveSeen (pictures_ahead a) a.members now

-- The run broke off after this point: a prefix of the text was written, and the members have seen some of the frames.
pub record BrokeOff (a : Going) (fault : WaveFault) (written : Option (List ℕ)) (now : List Member) : Type 0 where
  pub text : BreaksOff fault a.written written (text_ahead a)
  pub seen : HaveSeen (pictures_ahead a) a.members now

-- the run of a design from a world on, at most n frames
abbrev pub run_on : Arena → Design → (n : ℕ) → World → Run
run_on a d n w = run_from max_instructions (contents a) (design_text a d) n w

-- the values of the last frame of a world
abbrev pub values_of_last : Arena → Design → World → Option (List Datum)
values_of_last a d w = values_before (design_text a d) w

-- what is shown to members from a world on
abbrev pub shown_on : Arena → Design → (n : ℕ) → World → List Member → ShownRun
shown_on a d n w ms = shown_behind (values_of_last a d w) (run_on a d n w).frames (run_on a d n w).end ms

-- a run at a point that the teller has come to
abbrev pub going : Teller → (before : Option (List Datum)) → List Member → ShownRun → (written : Option (List ℕ)) → (reports : List ℕ) → Going
going t before ms rest written reports =
    record { scribe = t.scribe; waits = t.text.items; before = before; members = ms; rest = rest; written = written; reports = reports; failed = t.failed }

-- the text of a frame was put behind a text
pub record FrameIsPut (old new : Scribe) (before : Option (List Datum)) (f : Frame) (was now : Written) : Type 0 where
  pub behind : HasWrittenUpTo new (Some f.values)
  pub text : (more : List Frame) (left : List Member) (end : End) → Leaves was now (text_left new (Some f.values) more left end) (text_left old before (f ∷ more) left end)

-- the text of a frame was put behind what waited, and a piece in front was written
pub record FrameIsTold (old new : Scribe) (before : Option (List Datum)) (f : Frame) (waited waits : List ℕ) (was_written written : Option (List ℕ)) : Type 0 where
  pub piece : List ℕ
  pub behind : HasWrittenUpTo new (Some f.values)
  pub text : (more : List Frame) (left : List Member) (end : End) →
      waited ++ text_left old before (f ∷ more) left end ≡ piece ++ (waits ++ text_left new (Some f.values) more left end)
  pub told : Appends was_written written piece

-- of what waited a piece in front was written, and the rest still waits
pub record IsPassedOn (waited waits : List ℕ) (was_written written : Option (List ℕ)) : Type 0 where
  pub piece : List ℕ
  pub text : waited ≡ piece ++ waits
  pub told : Appends was_written written piece

-- Of what waited nothing was written, because it is not whole, or a write failed and only a piece in front was written.
abbrev pub StopsShort : WaveFault → (waits : Written) → (was_written written : Option (List ℕ)) → Type 0
StopsShort WriteFault waits was_written written = waits.is_whole ≡ true × AppendsProperPrefix was_written written waits.items
StopsShort OutOfMemory waits was_written written = written ≡ was_written

-- A frame is the next one that a scribe is to write, and it shows this.
pub record IsNextToWrite (s : Scribe) (before : Option (List Datum)) (f : Frame) (shows : Picture) : Type 0 where
  pub behind : HasWrittenUpTo s before
  pub is : shows ≡ picture_by before f
  pub reached : ValuesAreReached before f

-- the frame is shown, and then the rest
abbrev pub shows_one : Picture → List Member → Frame → ShownRun → ShownRun
shows_one p ms f rest = shows f (reports_of p ms) rest

-- after a turn that goes on, the simulation stands for the world from which the rest is shown
pub record GoesOn (a : Arena) (d : Design) (n : ℕ) (sim : Simulation) (t : Teller) (was : Going) (ms : List Member) (written : Option (List ℕ)) (reports : List ℕ) : Type 0 where
  pub world : World
  pub stands : StandsFor sim world
  pub behind : HasWrittenUpTo t.scribe (values_of_last a d world)
  pub went : Went was (going t (values_of_last a d world) ms (shown_on a d n world ms) written reports)

-- after the last turn nothing more is shown
pub record TellingIsOver (t : Teller) (was : Going) (end : End) (ms : List Member) (written : Option (List ℕ)) (reports : List ℕ) : Type 0 where
  pub before : Option (List Datum)
  pub behind : HasWrittenUpTo t.scribe before
  pub went : Went was (going t before ms (shows_none ms end) written reports)

-- what a turn came to, at most n frames being left after it
abbrev pub Turned : Option End → Arena → Design → (n : ℕ) → Simulation → Teller → Going → List Member → (written : Option (List ℕ)) → (reports : List ℕ) → Type 0
Turned None a d n sim t was ms written reports = GoesOn a d n sim t was ms written reports
Turned (Some end) a d n sim t was ms written reports = TellingIsOver t was end ms written reports
