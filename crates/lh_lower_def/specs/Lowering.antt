-- What lowering makes of a module, item by item, and what it reports.
use Rattle.std.specs.Prelude.{List, [], ◌∷◌, map}
use Rattle.std.specs.List.{flat_map}
use Rattle.lh_unit.specs.declared.inst.UnitKind.{UnitKind}
use Rattle.lh_unit.specs.declared.inst.UnitKind.TheVariants as unit_kind
use Rattle.lh_unit.specs.Contents.{UnitText, ItemText, unit_text, declare_text}
use Rattle.lh_term.specs.declared.part.Part.{Part}
use Rattle.lh_flat.specs.Flat.{Flattened, refused, flattened, flat_of, flat_unit}
use Rattle.lh_shape.specs.declared.reason.Reason.{Reason}
use Rattle.lh_shape.specs.declared.reason.Reason.TheVariants as reason
use Rattle.lh_shape.specs.Reasons.{flat_reason}
use Rattle.lh_shape.specs.Shapes.{ShapeText, comb, edge, once, left, shape_of_text}
use Rattle.lh_emit_def.specs.Emitted.{PartStep}
use Rattle.lh_emit_def.specs.Reached.{steps_in}
use Rattle.lh_emit_def.specs.Entities.{Emission, too_large, emits, comb_emission, edge_emission, once_emission}
use Rattle.lh_lower_def.specs.Report.{RowText}
use Rattle.lh_lower_def.specs.declared.report.Kind.{Kind}
use Rattle.lh_lower_def.specs.declared.report.Kind.TheVariants as kind
use Rattle.lh_lower_def.specs.declared.report.Verdict.{Verdict}
use Rattle.lh_lower_def.specs.declared.report.Verdict.TheVariants as verdict

-- ---- one process

-- a process becomes the entity of its shape, or it stays for a reason
pub data Outcome : Type 0 where
  becomes : Kind → UnitText → Outcome
  stays : Reason → Outcome

-- an entity within the limits is there; a process whose entity is too large stays
abbrev pub outcome_of_emission : Kind → Emission → Outcome
outcome_of_emission k (emits y) = becomes k y
outcome_of_emission k too_large = stays reason.EntityTooLarge

-- by the shape, where these steps lead to the parts of the process
abbrev pub outcome_of_shape : UnitText → (steps : Part → List PartStep) → ShapeText → Outcome
outcome_of_shape u steps (comb waited ds) = outcome_of_emission kind.Comb (comb_emission u steps waited ds)
outcome_of_shape u steps (edge rs) = outcome_of_emission kind.Edge (edge_emission u steps rs)
outcome_of_shape u steps (once ds) = outcome_of_emission kind.Once (once_emission u steps ds)
outcome_of_shape u steps (left r) = stays r

-- by the flat text: its shape, and the steps that lead to parts in it
abbrev pub outcome_of_text : UnitText → Flattened → Outcome
outcome_of_text u (refused x) = stays (flat_reason x)
outcome_of_text u (flattened t) = outcome_of_shape u (steps_in (flat_unit u.name t)) (shape_of_text t)

-- What becomes of a process of a module.
abbrev pub outcome_in : List ItemText → UnitText → Outcome
outcome_in items u = outcome_of_text u (flat_of items u)

-- ---- the module

-- what stands in the place of a process
abbrev pub in_place : UnitText → Outcome → UnitText
in_place u (becomes k y) = y
in_place u (stays r) = u

-- a process is lowered or left; a function and an entity stay as they are
abbrev pub lowered_as : UnitKind → List ItemText → UnitText → UnitText
lowered_as unit_kind.Proc items u = in_place u (outcome_in items u)
lowered_as unit_kind.Func items u = u
lowered_as unit_kind.Entity items u = u

-- so does a declaration
abbrev pub lowered_item : List ItemText → ItemText → ItemText
lowered_item items (unit_text u) = unit_text (lowered_as u.kind items u)
lowered_item items (declare_text d) = declare_text d

-- The lowered module: the same items, each in its place.
abbrev pub lowered : List ItemText → List ItemText
lowered items = map (lowered_item items) items

-- ---- the report

abbrev pub verdict_of : Outcome → Verdict
verdict_of (becomes k y) = verdict.Lowered k
verdict_of (stays r) = verdict.Left r

-- a row for a process, and none for other units
abbrev pub row_as : UnitKind → List ItemText → UnitText → List RowText
row_as unit_kind.Proc items u = record { unit = u.name; verdict = verdict_of (outcome_in items u) } ∷ []
row_as unit_kind.Func items u = []
row_as unit_kind.Entity items u = []

abbrev pub item_row : List ItemText → ItemText → List RowText
item_row items (unit_text u) = row_as u.kind items u
item_row items (declare_text d) = []

-- The report: a row for each process, in file order.
abbrev pub report : List ItemText → List RowText
report items = flat_map (item_row items) items
