-- The text of a run behind its head, one more frame having come.
use Rattle.std.proofs.Common.{◌≡◌, ℕ, ◌+◌, List, [], ◌∷◌, ◌++◌, map, refl, ap, sym, ◌∙◌, append_assoc, subst, Option, Some, None}
use Rattle.std.specs.List.{flat_map}
use Rattle.lh_text_buffer.specs.Writing.{Written, Writes}
use Rattle.lh_text_buffer.proofs.Parts.{all-left}
use Rattle.lh_types.specs.Values.{Datum}
use Rattle.lh_types.specs.Pictures.{Showing, Picture}
use Rattle.lh_unit.specs.Trace.{Frame}
use Rattle.lh_unit.specs.Frames.{pictures, picture_by, all_change}
use Rattle.lh_wave.proofs.Joined.{first_left}
use Rattle.lh_wave.specs.declared.waveform.Waveform.{Waveform}
use Rattle.lh_wave.specs.declared.scribe.Scribe.{Scribe}
use Rattle.lh_wave.specs.declared.scribe.Scribe.TheVariants as scribe
use Rattle.lh_wave.specs.TraceText.{frame_text}
use Rattle.lh_wave.specs.WaveText.{WaveMoment, waveform_text}
use Rattle.lh_wave.specs.Recorded.{values_now, first_moment, left_text}
use Rattle.lh_wave.specs.EndText.{end_line}
use Rattle.lh_wave.specs.RunText.{moment_of}
use Rattle.lh_wave.specs.Going.{IsNextToWrite, FrameIsPut, HasWrittenUpTo}

-- a frame of a trace
pub trace_put : (s : Scribe) (p : Picture) (was now : Written) → s ≡ scribe.Trace → Writes was now (frame_text p) → (before : Option (List Datum)) (v : Frame) → IsNextToWrite s before v p
    → FrameIsPut s s before v was now
trace_put s p was now e g before v n = subst (λ (x : Scribe). FrameIsPut x x before v was now) (sym e) (record {
  behind = tt;
  text = λ more left end.
      let rest : List ℕ = flat_map frame_text (pictures (Some v.values) more) in
      let line : List ℕ = frame_text (picture_by before v) in
      first_left was now (frame_text p) (rest ++ end_line left end) ((line ++ rest) ++ end_line left end)
      (append_assoc line rest (end_line left end) ∙ ap (λ (q : Picture). frame_text q ++ (rest ++ end_line left end)) (sym n.is)) g;
})

all_values : (k : ℕ) (vs : List Datum) → map (λ (c : Showing). c.value) (all_change k vs) ≡ vs
all_values k [] = refl
all_values k (v ∷ vs) = ap (λ l. v ∷ l) (all_values (k + 1) vs)

first_is : (before : Option (List Datum)) (v : Frame) (p : Picture) → before ≡ None → p ≡ picture_by before v → first_moment p ≡ moment_of v
first_is before v p b e =
    ap first_moment (e ∙ ap (λ (o : Option (List Datum)). picture_by o v) b) ∙ ap (λ (vs : List Datum). record { fs = v.at.fs; values = vs }) (all_values 0 v.values)

-- a waveform begins with the first frame
pub begun : (s : Scribe) (o : Option Waveform) (w : Waveform) (p : Picture) (to : Written) → s ≡ scribe.Vcd o → o ≡ None → values_now w ≡ (first_moment p).values
    → ((ms : List WaveMoment) → left_text w ms ≡ waveform_text (first_moment p ∷ ms)) → (before : Option (List Datum)) (v : Frame) → IsNextToWrite s before v p → FrameIsPut s (scribe.Vcd (Some w)) before v to to
begun s o w p to e z vals left before v n =
    let is : s ≡ scribe.Vcd None = e ∙ ap scribe.Vcd z in
    let none : before ≡ None = subst (λ (x : Scribe). HasWrittenUpTo x before) is n.behind in
    let first : first_moment p ≡ moment_of v = first_is before v p none n.is in
    subst (λ (x : Scribe). FrameIsPut x (scribe.Vcd (Some w)) before v to to) (sym is)
    (record {
      behind = ap Some (sym (vals ∙ ap (λ (m : WaveMoment). m.values) first));
      text = λ more left' end.
          all-left to (left_text w (map moment_of more)) (waveform_text (moment_of v ∷ map moment_of more))
          (left (map moment_of more) ∙ ap (λ (m : WaveMoment). waveform_text (m ∷ map moment_of more)) first);
    })
