-- The text of a report, row by row.
use Rattle.std.proofs.Common.{◌≡◌, ℕ, ◌+◌, ◌<◌, List, [], ◌∷◌, ◌++◌, length, map, take, get_or, ap, sym, ◌∙◌, add-one}
use Rattle.std.proofs.Math.Seq.{take-suc}
use Rattle.std.proofs.lemmas.List.{map-append, append-nil}
use Rattle.std.proofs.lemmas.Grind.{flat_map-append}
use Rattle.lh_unit.specs.Arena.{Arena}
use Rattle.lh_unit.specs.Within.{Each}
use Rattle.lh_unit.proofs.Lists.{Each-item}
use Rattle.lh_lower_def.specs.Report.{RowText, row_text, row_line, report_text}
use Rattle.lh_lower_def.specs.declared.report.ReportRow.{ReportRow}
use Rattle.lh_term.proofs.Swaps.{take_whole}

-- the lines of the first i rows
abbrev pub text_to : Arena → List ReportRow → (i : ℕ) → List ℕ
text_to a rows i = report_text (map (row_text a) (take i rows))

pub text-next : (a : Arena) (rows : List ReportRow) (i : ℕ) (r : ReportRow) → i < length rows → r ≡ get_or rows i r → text_to a rows (i + 1) ≡ text_to a rows i ++ row_line (row_text a r)
text-next a rows i r h e =
    let f : ReportRow → RowText = row_text a in
    let x : ReportRow = get_or rows i r in
    ap (λ (n : ℕ). report_text (map f (take n rows))) (add-one i) ∙ ap (λ (xs : List ReportRow). report_text (map f xs)) (take-suc rows i r h) ∙ ap report_text (map-append f (take i rows) (x ∷ []))
    ∙ flat_map-append row_line (map f (take i rows)) (f x ∷ []) ∙ ap (λ (xs : List ℕ). text_to a rows i ++ xs) (append-nil (row_line (f x)))
    ∙ ap (λ (y : ReportRow). text_to a rows i ++ row_line (f y)) (sym e)

pub text-all : (a : Arena) (rows : List ReportRow) (i : ℕ) → i ≡ length rows → text_to a rows i ≡ report_text (map (row_text a) rows)
text-all a rows i e = ap (λ (n : ℕ). report_text (map (row_text a) (take n rows))) e ∙ ap (λ (xs : List ReportRow). report_text (map (row_text a) xs)) (take_whole rows)

pub row-within : (n : ℕ) (rows : List ReportRow) (i : ℕ) (r : ReportRow) → i < length rows → r ≡ get_or rows i r → Each (λ (x : ReportRow). x.unit.0 < n) rows → r.unit.0 < n
row-within n rows i r h e w = Each-item (λ (x : ReportRow). x.unit.0 < n) rows i r w h e
