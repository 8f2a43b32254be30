-- The lines of the signals of a trace, written from the first on.
use Rattle.std.proofs.Common.{◌≡◌, ℕ, ◌+◌, ◌<◌, ◌≤◌, List, [], ◌∷◌, ◌++◌, length, map, drop, get_or, ap, sym, ◌∙◌, append_assoc, arith}
use Rattle.std.proofs.lemmas.List.{append-nil, drop_all, drop_more}
use Rattle.lh_unit.specs.Arena.{Arena}
use Rattle.lh_unit.specs.Pieces.{render}
use Rattle.lh_unit.specs.CanonTypes.{type_pieces}
use Rattle.lh_unit.specs.Trace.{ShownSignal, shown_signal}
use Rattle.lh_unit.specs.Paths.{shown_in, path_at}
use Rattle.lh_design.specs.declared.Design.{Design}
use Rattle.lh_design.specs.declared.Signal.{Signal}
use Rattle.lh_design.specs.Texts.{design_text, signal_text}
use Rattle.lh_wave.specs.HeadText.{signal_line, signal_lines, trace_head, signals_in}

-- the signals from a place on
abbrev pub shown_past : Design → ℕ → List ShownSignal
shown_past d k = map shown_signal (map signal_text (drop k d.signals.items))

-- what is written, and the lines of the signals from this one on, are all
abbrev pub SignalsWriting : Arena → Design → (to : List ℕ) → ℕ → Type 0
SignalsWriting a d to k = to ++ signal_lines (shown_in (design_text a d)) k (shown_past d k) ≡ trace_head (shown_in (design_text a d)) (signals_in (design_text a d))

pub signals_start : (a : Arena) (d : Design) (to : List ℕ) → to ≡ [] → SignalsWriting a d to 0
signals_start a d to e = ap (λ l. l ++ trace_head (shown_in (design_text a d)) (signals_in (design_text a d))) e

pub signals_next : (a : Arena) (d : Design) (xs : List Signal) (to next path name : List ℕ) (k : ℕ) (s : Signal) → xs ≡ d.signals.items → SignalsWriting a d to k → k < length xs → s ≡ get_or xs k s
    → path ≡ path_at (shown_in (design_text a d)) s.instance → name ≡ s.name → next ≡ to ++ signal_line k (render (type_pieces s.ty)) path name → SignalsWriting a d next (k + 1)
signals_next a d xs to next path name k s whole w h e p n g =
    let all = shown_in (design_text a d) in
    let line : List ℕ = signal_line k (render (type_pieces s.ty)) (path_at all s.instance) s.name in
    let same : length xs ≡ length d.signals.items = ap length whole in
    let here : k < length d.signals.items = omega arith in
    let is : get_or d.signals.items k s ≡ s = ap (λ (l : List Signal). get_or l k s) (sym whole) ∙ sym e in
    ap (λ l. l ++ signal_lines all (k + 1) (shown_past d (k + 1)))
    (g ∙ ap (λ x. to ++ signal_line k (render (type_pieces s.ty)) x name) p ∙ ap (λ x. to ++ signal_line k (render (type_pieces s.ty)) (path_at all s.instance) x) n)
    ∙ append_assoc to line (signal_lines all (k + 1) (shown_past d (k + 1)))
    ∙ ap (λ (ys : List Signal). to ++ signal_lines all k (map shown_signal (map signal_text ys))) (sym (drop_more d.signals.items k s here ∙ ap (λ (x : Signal). x ∷ drop (k + 1) d.signals.items) is))
    ∙ w

pub signals_end : (a : Arena) (d : Design) (xs : List Signal) (to : List ℕ) (k : ℕ) → xs ≡ d.signals.items → SignalsWriting a d to k → length xs ≤ k
    → to ≡ trace_head (shown_in (design_text a d)) (signals_in (design_text a d))
signals_end a d xs to k whole w h =
    let same : length xs ≡ length d.signals.items = ap length whole in
    let past : length d.signals.items ≤ k = omega arith in
    sym (append-nil to) ∙ ap (λ (ys : List Signal). to ++ signal_lines (shown_in (design_text a d)) k (map shown_signal (map signal_text ys))) (sym (drop_all k d.signals.items past)) ∙ w
