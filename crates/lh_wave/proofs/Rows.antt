-- The texts of small runs, computed.
use Rattle.std.specs.Prelude.{◌≡◌, ℕ, List, [], ◌∷◌, false, Some, None, codes, refl}
use Rattle.std.specs.Fmt.{digits}
use Rattle.lh_time.specs.Due.{instant}
use Rattle.lh_types.specs.Types.{int_type}
use Rattle.lh_types.specs.Values.{int_value}
use Rattle.lh_unit.specs.Trace.{Frame, Run, quiet, steps, runaway, Shown, ShownSignal}
use Rattle.lh_unit.specs.Paths.{path_at}
use Rattle.lh_watch.specs.declared.watcher.Next.TheVariants.{Go, Done}
use Rattle.lh_watch.specs.Members.{Member, member}
use Rattle.lh_watch.specs.Builtin.{until_fail, asserts}
use Rattle.lh_watch.specs.Scripted.{scripted}
use Rattle.lh_wave.specs.declared.run.WaveMode.TheVariants.{Trace, Vcd}
use Rattle.lh_wave.specs.HeadText.{trace_head, waveform_head}
use Rattle.lh_wave.specs.ShownRun.{shown_run, all_reports}
use Rattle.lh_wave.specs.RunText.{text_in}

-- an entity `@t` with a signal of one bit that becomes 1 after a nanosecond
abbrev top_only : List Shown
top_only = record { label = codes "t"; parent = None } ∷ []

abbrev one_bit : List ShownSignal
one_bit = record { instance = 0; name = codes "a"; ty = int_type 1 } ∷ []

abbrev frame_at : (fs bit : ℕ) → Frame
frame_at fs bit = record { at = instant fs 0 0; values = int_value 1 bit ∷ []; outcomes = [] }

abbrev one_rise : Run
one_rise = record { frames = frame_at 0 0 ∷ frame_at 1000000 1 ∷ []; end = quiet }

pub one_rise_as_trace : text_in Trace top_only one_bit (shown_run one_rise []) ≡ codes "sig 0 i1 t.a\n@ 0fs 0d 0e\n0 = 0\n@ 1000000fs 0d 0e\n0 = 1\nend quiet\n"
unfolding digits path_at
one_rise_as_trace = refl

pub one_rise_as_waveform : text_in Vcd top_only one_bit (shown_run one_rise []) ≡
    codes "$timescale 1 fs $end\n$scope module t $end\n$var wire 1 ! a $end\n$upscope $end\n$enddefinitions $end\n#0\n$dumpvars\n0!\n$end\n#1000000\n1!\n"
unfolding digits
one_rise_as_waveform = refl

pub cut_at_one : text_in Trace top_only one_bit (shown_run (record { frames = frame_at 0 0 ∷ []; end = steps }) []) ≡ codes "sig 0 i1 t.a\n@ 0fs 0d 0e\n0 = 0\nend steps\n"
unfolding digits path_at
cut_at_one = refl

-- a frame of no signals in which an assertion fails, and one in which an instance runs away
abbrev failing : Frame
failing = record { at = instant 0 0 0; values = []; outcomes = record { instance = 0; passed = false } ∷ [] }

-- a member says stop at the frame, and what it saw is reported
pub stopped_text : text_in Trace [] [] (shown_run (record { frames = failing ∷ failing ∷ []; end = quiet }) (member until_fail (0 ∷ []) ∷ []))
    ≡ codes "@ 0fs 0d 0e\nassert 0 failed\nend stop untilfail\n"
unfolding digits
stopped_text = refl

pub stopped_reports : all_reports (shown_run (record { frames = failing ∷ failing ∷ []; end = quiet }) (member asserts (0 ∷ 0 ∷ []) ∷ member until_fail (0 ∷ []) ∷ []))
    ≡ codes "asserts 0 ok 1 failed\nuntilfail 1\n"
unfolding digits
stopped_reports = refl

-- no stop takes the place of a runaway
pub ran_away_text : text_in Trace [] [] (shown_run (record { frames = failing ∷ []; end = runaway 0 }) (member until_fail (0 ∷ []) ∷ [])) ≡ codes "@ 0fs 0d 0e\nassert 0 failed\nend runaway 0\n"
unfolding digits
ran_away_text = refl

-- of three members the second is done at the second frame: its report stands first, and the others have seen both
abbrev three : List Member
three = member (scripted 97 9 Go) (0 ∷ []) ∷ member (scripted 98 2 Done) (0 ∷ []) ∷ member (scripted 99 9 Go) (0 ∷ []) ∷ []

pub one_is_done : all_reports (shown_run one_rise three) ≡ codes "b2a2c2"
unfolding digits
one_is_done = refl

-- an instance within an instance, with signals in either, and a second child
abbrev nested : List Shown
nested = record { label = codes "top"; parent = None } ∷ record { label = codes "u_1"; parent = Some 0 } ∷ record { label = codes "v_2"; parent = Some 1 }
    ∷ record { label = codes "u_3"; parent = Some 0 } ∷ []

abbrev wires : List ShownSignal
wires = record { instance = 0; name = codes "clk"; ty = int_type 1 } ∷ record { instance = 1; name = codes "q"; ty = int_type 32 } ∷ record { instance = 3; name = codes "q"; ty = int_type 8 } ∷ []

pub nested_as_trace : trace_head nested wires ≡ codes "sig 0 i1 top.clk\nsig 1 i32 top.u_1.q\nsig 2 i8 top.u_3.q\n"
unfolding digits path_at
nested_as_trace = refl

pub nested_as_waveform : waveform_head nested wires ≡
    codes "$timescale 1 fs $end\n$scope module top $end\n$var wire 1 ! clk $end\n$scope module u_1 $end\n$var wire 32 \" q $end\n$scope module v_2 $end\n$upscope $end\n$upscope $end\n$scope module u_3 $end\n$var wire 8 # q $end\n$upscope $end\n$upscope $end\n$enddefinitions $end\n"
unfolding digits
nested_as_waveform = refl
