-- The one block for which all ends of a region wait, by the ways in which they end.
use Rattle.std.specs.Prelude.{◌≡◌, ℕ, List, [], map, true, Option}
use Rattle.lh_term.specs.Make.{bit_of}
use Rattle.lh_region_def.specs.Known.{nothing_known}
use Rattle.lh_region_def.specs.Rows as text
use Rattle.lh_region_def.specs.Regions as texts
use Rattle.lh_region.specs.declared.rows.EndRow.{EndRow}
use Rattle.lh_region.specs.Stands.{way_text}

-- how each end ends
abbrev pub ways_of : List EndRow → List text.Way
ways_of es = map (λ (e : EndRow). way_text e.way) es

-- an end of which the way alone is told
abbrev pub end_by : text.Way → text.RegionEnd
end_by w = record { cond = bit_of true; way = w; from = []; known = nothing_known }

-- the one block for which ends of these ways wait
abbrev pub target_by : List text.Way → Option ℕ
target_by ws = texts.one_target (map end_by ws)

-- The block depends on the ways alone.
abbrev pub TargetByWays : Type 0
TargetByWays = (es : List text.RegionEnd) → texts.one_target es ≡ target_by (map (λ (x : text.RegionEnd). x.way) es)
