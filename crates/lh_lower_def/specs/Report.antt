-- What a report says: a line for each process.
use Rattle.std.specs.Prelude.{ℕ, List, [], ◌∷◌, ◌++◌, codes}
use Rattle.std.specs.List.{flat_map}
use Rattle.lh_unit.specs.Arena.{Arena, unit_name_at}
use Rattle.lh_unit_names.specs.declared.name.UnitName.{UnitName}
use Rattle.lh_shape.specs.Names.{reason_word}
use Rattle.lh_lower_def.specs.declared.report.Kind.{Kind}
use Rattle.lh_lower_def.specs.declared.report.Kind.TheVariants as kind
use Rattle.lh_lower_def.specs.declared.report.Verdict.{Verdict}
use Rattle.lh_lower_def.specs.declared.report.Verdict.TheVariants as verdict
use Rattle.lh_lower_def.specs.declared.report.ReportRow.{ReportRow}

-- a row of a report: the name of a process, and what becomes of it
pub record RowText : Type 0 where
  pub unit : UnitName
  pub verdict : Verdict

-- a row with the name of its unit
abbrev pub row_text : Arena → ReportRow → RowText
row_text a r = record { unit = unit_name_at a r.unit.0; verdict = r.verdict }

-- the word of a shape
abbrev pub kind_word : Kind → List ℕ
kind_word kind.Comb = codes "comb"
kind_word kind.Edge = codes "edge"
kind_word kind.Once = codes "once"

-- the first word of a line
abbrev pub verdict_word : Verdict → List ℕ
verdict_word (verdict.Lowered k) = codes "lowered"
verdict_word (verdict.Left r) = codes "left"

-- the last word of a line: that of the shape, or of the reason
abbrev pub verdict_name : Verdict → List ℕ
verdict_name (verdict.Lowered k) = kind_word k
verdict_name (verdict.Left r) = reason_word r

-- the line of a row: `lowered`, the unit with its sigil and the shape; or `left`, the unit and the reason
abbrev pub row_line : RowText → List ℕ
row_line r = verdict_word r.verdict ++ (codes " " ++ ((r.unit.sigil ∷ r.unit.name) ++ (codes " " ++ (verdict_name r.verdict ++ 10 ∷ []))))

-- The text of a report.
abbrev pub report_text : List RowText → List ℕ
report_text rows = flat_map row_line rows
