-- A waveform while its frames come: what of its text is still to be written.
use Rattle.std.specs.Prelude.{ℕ, List, [], ◌∷◌, length, map, slice_set, if◌then◌else◌}
use Rattle.lh_types.specs.Values.{Datum}
use Rattle.lh_types.specs.ValueOf.{datum_of}
use Rattle.lh_types.specs.Pictures.{Showing, Picture}
use Rattle.lh_wave.specs.declared.waveform.Waveform.{Waveform}
use Rattle.lh_wave.specs.Changed.{ChangesAreListed, present_values}
use Rattle.lh_wave.specs.WaveText.{WaveMoment, lasts_from, dump_text, changes_text}

-- values after some of them changed
abbrev pub changed_values : List Datum → List Showing → List Datum
changed_values vs [] = vs
changed_values vs (c ∷ cs) = changed_values (slice_set vs c.signal c.value) cs

-- the values of all signals in the last frame
abbrev pub values_now : Waveform → List Datum
values_now w = present_values w.changed.values.items w.written.items

-- the moment that is not written yet
abbrev pub moment_now : Waveform → WaveMoment
moment_now w = record { fs = w.fs; values = values_now w }

-- the first moment, by a frame that shows all signals in order
abbrev pub first_moment : Picture → WaveMoment
first_moment f = record { fs = f.at.fs; values = map (λ c. c.value) f.changes }

-- the moment after a frame that shows what changed
abbrev pub next_moment : List Datum → Picture → WaveMoment
next_moment vs f = record { fs = f.at.fs; values = changed_values vs f.changes }

-- what is still to be written where these moments follow
abbrev pub left_text : Waveform → List WaveMoment → List ℕ
left_text w ms =
    if w.dumped then changes_text (map datum_of w.written.items) (lasts_from (moment_now w) ms) else dump_text (lasts_from (moment_now w) ms)

-- the new values are of the signals that were written
abbrev pub ChangesAreOfSignals : Waveform → Type 0
ChangesAreOfSignals w = ChangesAreListed w.changed (length w.written.items)
