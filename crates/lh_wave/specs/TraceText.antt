-- The text of the frames of a trace.
use Rattle.std.specs.Prelude.{ℕ, List, ◌++◌, if◌then◌else◌, codes, decimal}
use Rattle.std.specs.List.{flat_map}
use Rattle.lh_time.specs.declared.Instant.{Instant}
use Rattle.lh_types.specs.declared.frame.Outcome.{Outcome}
use Rattle.lh_types.specs.Pictures.{Showing, Picture}
use Rattle.lh_wave.specs.ValueText.{moment_text, value_text}

-- `@ 1000000fs 0d 0e`
abbrev pub instant_line : Instant → List ℕ
instant_line t = codes "@ " ++ moment_text t.fs t.delta t.eps ++ codes "\n"

-- `3 = 255`: the number of a signal, and its value
abbrev pub change_line : Showing → List ℕ
change_line c = decimal c.signal ++ codes " = " ++ value_text c.value ++ codes "\n"

-- `assert 4 ok` or `assert 4 failed`: the number of an instance, and what its assertion came to
abbrev pub outcome_line : Outcome → List ℕ
outcome_line o = codes "assert " ++ decimal o.instance ++ (if o.passed then codes " ok\n" else codes " failed\n")

-- a frame: its instant, the signals that it shows, and the outcomes
abbrev pub frame_text : Picture → List ℕ
frame_text f = instant_line f.at ++ flat_map change_line f.changes ++ flat_map outcome_line f.outcomes
