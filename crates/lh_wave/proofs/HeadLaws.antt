-- The head of a trace while its lines are written, and where that broke off.
use Rattle.std.proofs.Common.{◌≡◌, ℕ, ◌+◌, ◌<◌, ◌≤◌, List, [], ◌++◌, length, get_or, refl, ap, sym, ◌∙◌, append_assoc, subst, Option}
use Rattle.std.specs.Prelude.{true, Result, Ok, Err, OnOk, IfErr}
use Rattle.lh_text_buffer.specs.Writing.{Written, Writes}
use Rattle.lh_io.specs.Streams.{Appends, AppendsProperPrefix}
use Rattle.lh_unit.specs.Trace.{Shown, ShownSignal}
use Rattle.lh_unit.specs.Arena.{Arena}
use Rattle.lh_unit.specs.Pieces.{render}
use Rattle.lh_unit.specs.CanonTypes.{type_pieces}
use Rattle.lh_unit.specs.Paths.{shown_in, path_at}
use Rattle.lh_design.specs.declared.Design.{Design}
use Rattle.lh_design.specs.declared.Signal.{Signal}
use Rattle.lh_design.specs.Texts.{design_text}
use Rattle.lh_wave.specs.declared.run.WaveMode.{WaveMode}
use Rattle.lh_wave.specs.declared.run.WaveMode.TheVariants as mode
use Rattle.lh_wave.specs.declared.run.WaveFault.{WaveFault}
use Rattle.lh_wave.specs.declared.run.WaveFault.TheVariants.{WriteFault, OutOfMemory}
use Rattle.lh_wave.specs.HeadText.{signal_line, signal_lines, trace_head, waveform_head, signals_in}
use Rattle.lh_wave.specs.RunText.{head_in}
use Rattle.lh_wave.specs.BrokenOff.{BreaksOff}
use Rattle.lh_wave.specs.Going.{IsPassedOn, StopsShort}
use Rattle.lh_wave.proofs.Courses.{told_both, told_none, behind_piece, in_front_of, all_of}
use Rattle.lh_wave.proofs.HeadLines.{SignalsWriting, shown_past, signals_start, signals_next, signals_end}

-- the whole head
abbrev pub head_text : Arena → Design → List ℕ
head_text a d = trace_head (shown_in (design_text a d)) (signals_in (design_text a d))

-- Of the lines of the signals before this one a piece was written, and the rest waits.
pub record HeadGoing (a : Arena) (d : Design) (was written : Option (List ℕ)) (waits : List ℕ) (k : ℕ) : Type 0 where
  pub piece : List ℕ
  pub told : Appends was written piece
  pub text : SignalsWriting a d (piece ++ waits) k

pub head_start : (a : Arena) (d : Design) (was : Option (List ℕ)) (waits : List ℕ) → waits ≡ [] → HeadGoing a d was was waits 0
head_start a d was waits e = record {
  piece = [];
  told = told_none was;
  text = signals_start a d waits e;
}

-- the line of a signal was put behind what waits
pub head_put : (a : Arena) (d : Design) (was written : Option (List ℕ)) (xs : List Signal) (waits next : Written) (path name : List ℕ) (k : ℕ) (s : Signal) → xs ≡ d.signals.items
    → HeadGoing a d was written waits.items k → k < length xs → s ≡ get_or xs k s → path ≡ path_at (shown_in (design_text a d)) s.instance → name ≡ s.name
    → Writes waits next (signal_line k (render (type_pieces s.ty)) path name) → next.is_whole ≡ true → HeadGoing a d was written next.items (k + 1)
head_put a d was written xs waits next path name k s whole h l is p n g w = record {
  piece = h.piece;
  told = h.told;
  text = signals_next a d xs (h.piece ++ waits.items) (h.piece ++ next.items) path name k s whole h.text l is p n
      (ap (λ t. h.piece ++ t) (g w).1 ∙ sym (append_assoc h.piece waits.items (signal_line k (render (type_pieces s.ty)) path name)));
}

-- and what waited was passed on
pub head_passed : (a : Arena) (d : Design) (was written then : Option (List ℕ)) (waited waits : List ℕ) (k : ℕ) → HeadGoing a d was written waited k → IsPassedOn waited waits written then
    → HeadGoing a d was then waits k
head_passed a d was written then waited waits k h p = record {
  piece = h.piece ++ p.piece;
  told = told_both was written then h.piece p.piece h.told p.told;
  text = ap (λ t. t ++ signal_lines (shown_in (design_text a d)) k (shown_past d k)) (append_assoc h.piece p.piece waits ∙ ap (λ t. h.piece ++ t) (sym p.text)) ∙ h.text;
}

-- what was written, what waits and the lines that are left
in_parts : (a : Arena) (d : Design) (was written : Option (List ℕ)) (waits : List ℕ) (k : ℕ) (h : HeadGoing a d was written waits k)
    → h.piece ++ (waits ++ signal_lines (shown_in (design_text a d)) k (shown_past d k)) ≡ head_text a d
in_parts a d was written waits k h = sym (append_assoc h.piece waits (signal_lines (shown_in (design_text a d)) k (shown_past d k))) ∙ h.text

-- memory ran out
pub head_short : (a : Arena) (d : Design) (was written : Option (List ℕ)) (waits : List ℕ) (k : ℕ) (e : WaveFault) → HeadGoing a d was written waits k → e ≡ OutOfMemory
    → BreaksOff e was written (head_text a d)
head_short a d was written waits k e h o =
    subst (BreaksOff e was written) (in_parts a d was written waits k h)
    (all_of e was written h.piece (waits ++ signal_lines (shown_in (design_text a d)) k (shown_past d k)) o h.told)

-- a write of what waited failed
head_failed : (a : Arena) (d : Design) (was written then : Option (List ℕ)) (waits : List ℕ) (k : ℕ) → HeadGoing a d was written waits k → AppendsProperPrefix written then waits
    → BreaksOff WriteFault was then (head_text a d)
head_failed a d was written then waits k h part =
    let left : List ℕ = signal_lines (shown_in (design_text a d)) k (shown_past d k) in
    subst (BreaksOff WriteFault was then) (in_parts a d was written waits k h)
    (behind_piece WriteFault was written then h.piece (waits ++ left) h.told (in_front_of written then waits left part))

-- more was put behind what waited, and it was not written
pub head_stopped : (e : WaveFault) (a : Arena) (d : Design) (was written then : Option (List ℕ)) (before : List ℕ) (waits : Written) (j k : ℕ) → HeadGoing a d was written before j
    → (waits.is_whole ≡ true → HeadGoing a d was written waits.items k) → StopsShort e waits written then → BreaksOff e was then (head_text a d)
head_stopped WriteFault a d was written then before waits j k h put s = head_failed a d was written then waits.items k (put s.0) s.1
head_stopped OutOfMemory a d was written then before waits j k h put s =
    subst (λ (o : Option (List ℕ)). BreaksOff OutOfMemory was o (head_text a d)) (sym s) (head_short a d was written before j OutOfMemory h refl)

pub head_short_by : {T : Type 0} (r : Result T WaveFault) (a : Arena) (d : Design) (was written then : Option (List ℕ)) (waits : Written) (k : ℕ) → HeadGoing a d was written waits.items k
    → IfErr r (λ e. StopsShort e waits written then) → IfErr r (λ e. BreaksOff e was then (head_text a d))
head_short_by (Ok x) a d was written then waits k h s = tt
head_short_by (Err e) a d was written then waits k h s = head_stopped e a d was written then waits.items waits k k h (λ w. h) s

-- all that waited behind the last signal was written
pub head_told : {T E : Type 0} (r : Result T E) (a : Arena) (d : Design) (was written then : Option (List ℕ)) (xs : List Signal) (waits : List ℕ) (k : ℕ) → xs ≡ d.signals.items
    → HeadGoing a d was written waits k → length xs ≤ k → OnOk r (Appends written then waits) → OnOk r (Appends was then (head_text a d))
head_told (Ok x) a d was written then xs waits k whole h past t =
    subst (Appends was then) (signals_end a d xs (h.piece ++ waits) k whole h.text past) (told_both was written then h.piece waits h.told t)
head_told (Err x) a d was written then xs waits k whole h past t = tt

-- what holds of the head of a waveform holds of the head of the text
pub head_by_vcd : (P : List ℕ → Type 0) (m : WaveMode) (is : List Shown) (ss : List ShownSignal) (bytes head : List ℕ)
    → m ≡ mode.Vcd → bytes ≡ head → head ≡ waveform_head is ss → P bytes → P (head_in m is ss)
head_by_vcd P m is ss bytes head v e h p = subst (λ (x : WaveMode). P (head_in x is ss)) (sym v) (subst P (e ∙ h) p)
