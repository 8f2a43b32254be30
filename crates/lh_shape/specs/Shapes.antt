-- The shape of a process, or the first reason why it has none.
use Rattle.std.specs.Prelude.{List, map, if◌then◌else◌, Option, Some, None}
use Rattle.lh_unit.specs.Contents.{UnitText, ItemText}
use Rattle.lh_term.specs.declared.part.Part.{Part}
use Rattle.lh_edge.specs.Triggers.{EdgeRowTree, triggers_of}
use Rattle.lh_flat.specs.Flat.{FlatText, Flattened, refused, flattened, flat_of}
use Rattle.lh_region_def.specs.Rows.{Drive}
use Rattle.lh_region_def.specs.Regions.{Regions, Regioned, no_regions, has_regions, regions_of}
use Rattle.lh_shape.specs.Merging.{merged_drives}
use Rattle.lh_shape.specs.Reasons.{is_once, waits_for_head, parts_waited, second_drives, reasons, first_holding, flat_reason, region_reason}
use Rattle.lh_shape.specs.declared.reason.Reason.{Reason}

-- Combinational: the parts that are waited on, and the drives on all values. Edge: drives at the edges of triggers. Once: the drives of the one
-- activation. Or the process stays, for a reason.
pub data ShapeText : Type 0 where
  comb : (waited : List Part) → (drives : List Drive) → ShapeText
  edge : List EdgeRowTree → ShapeText
  once : List Drive → ShapeText
  left : Reason → ShapeText

abbrev pub edge_row : (waited : List Part) → Drive → EdgeRowTree
edge_row waited d = record { part = d.part; value = d.value; delay = d.delay; triggers = triggers_of waited d.cond }

-- without a reason: combinational where the head is waited for
abbrev pub shaped : Regions → ShapeText
shaped r =
    if waits_for_head r.first.ends then comb (parts_waited r.first.ends) (merged_drives r.first.drives)
    else edge (map (edge_row (parts_waited r.first.ends)) (second_drives r))

abbrev pub unless_left : Option Reason → ShapeText → ShapeText
unless_left (Some x) s = left x
unless_left None s = s

abbrev pub shape_by_rows : Regions → ShapeText
shape_by_rows r = if is_once r.first then once r.first.drives else unless_left (first_holding (reasons r)) (shaped r)

abbrev pub shape_by_regions : Regioned → ShapeText
shape_by_regions (no_regions x) = left (region_reason x)
shape_by_regions (has_regions r) = shape_by_rows r

-- the shape of a flat text
abbrev pub shape_of_text : FlatText → ShapeText
shape_of_text t = shape_by_regions (regions_of t)

abbrev pub shape_by_text : Flattened → ShapeText
shape_by_text (refused x) = left (flat_reason x)
shape_by_text (flattened t) = shape_of_text t

-- The shape of a process of a module.
abbrev pub shape_in : List ItemText → UnitText → ShapeText
shape_in items u = shape_by_text (flat_of items u)
