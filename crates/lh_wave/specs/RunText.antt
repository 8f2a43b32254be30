-- The whole texts of a run that is shown: its trace, and its waveform.
use Rattle.std.specs.Prelude.{ℕ, List, ◌++◌, map, None}
use Rattle.std.specs.List.{flat_map}
use Rattle.lh_unit.specs.Trace.{Shown, ShownSignal, Frame}
use Rattle.lh_unit.specs.Frames.{pictures}
use Rattle.lh_watch.specs.Members.{Member}
use Rattle.lh_wave.specs.declared.ending.End.{End}
use Rattle.lh_wave.specs.declared.run.WaveMode.{WaveMode}
use Rattle.lh_wave.specs.declared.run.WaveMode.TheVariants.{Trace, Vcd}
use Rattle.lh_wave.specs.TraceText.{frame_text}
use Rattle.lh_wave.specs.WaveText.{WaveMoment, waveform_text}
use Rattle.lh_wave.specs.EndText.{end_line}
use Rattle.lh_wave.specs.HeadText.{trace_head, waveform_head}
use Rattle.lh_wave.specs.ShownRun.{ShownRun}

-- The text of a trace: the signals, the frames, each with what changed since the one before, and how it ended, with the members that are left then.
abbrev pub trace_text : List Shown → List ShownSignal → List Frame → List Member → End → List ℕ
trace_text instances signals frames left end =
    trace_head instances signals ++ flat_map frame_text (pictures None frames) ++ end_line left end

-- the physical time of a frame, and its values
abbrev pub moment_of : Frame → WaveMoment
moment_of f = record { fs = f.at.fs; values = f.values }

-- The text of a waveform: the instances and signals, and the last values at each physical time. The end is not written.
abbrev pub vcd_text : List Shown → List ShownSignal → List Frame → List ℕ
vcd_text instances signals frames = waveform_head instances signals ++ waveform_text (map moment_of frames)

-- the head of the text, in either mode
abbrev pub head_in : WaveMode → List Shown → List ShownSignal → List ℕ
head_in Trace instances signals = trace_head instances signals
head_in Vcd instances signals = waveform_head instances signals

-- the text of a run that is shown, in either mode
abbrev pub text_in : WaveMode → List Shown → List ShownSignal → ShownRun → List ℕ
text_in Trace instances signals s = trace_text instances signals s.frames s.left s.end
text_in Vcd instances signals s = vcd_text instances signals s.frames
