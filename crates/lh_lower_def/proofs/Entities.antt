-- What a process becomes is an entity of its name and arguments.
use Rattle.std.proofs.Common.{◌≡◌, Bool, List, refl}
use Rattle.std.specs.List.{list_all}
use Rattle.lh_unit.specs.Contents.{LineText, UnitText, ItemText}
use Rattle.lh_unit.specs.Within.{Each}
use Rattle.lh_term.specs.declared.part.Part.{Part}
use Rattle.lh_flat.specs.Flat.{Flattened, refused, flattened, flat_of, flat_unit}
use Rattle.lh_shape.specs.Shapes.{ShapeText, comb, edge, once, left, shape_of_text}
use Rattle.lh_emit_def.specs.Emitted.{PartStep, source_of}
use Rattle.lh_emit_def.specs.Reached.{steps_in}
use Rattle.lh_emit_def.specs.Entities as made
use Rattle.lh_emit_def.specs.Entities.{Emission, too_large, emits, comb_emission, edge_emission, once_emission, entity_with, within_limits, drive_fits, row_fits}
use Rattle.lh_emit_def.specs.Laws.{IsEmittedKind}
use Rattle.lh_emit_def.proofs.Whole.{within}
use Rattle.lh_lower_def.specs.Lowering.{becomes, outcome_of_emission, outcome_of_shape, outcome_of_text, outcome_in}
use Rattle.lh_lower_def.specs.Kept.{IsEntityFor}
use Rattle.lh_lower_def.specs.declared.report.Kind.{Kind}
use Rattle.lh_lower_def.specs.declared.report.Kind.TheVariants as kind
use Rattle.lh_lower_def.proofs.Plain.{comb-plain, edge-plain, once-plain}

module _ (u y : UnitText) (k : Kind) where
  -- what is emitted within the limits
  of-emission : (own : Kind) (e : Emission) → outcome_of_emission own e ≡ becomes k y → e ≡ emits y
  of-emission own (emits x) h = cc h
  of-emission own too_large h = absurd cc

  of-lines : (fits : Bool) (lines : List LineText) → Each (λ (l : LineText). IsEmittedKind l.inst) lines → within_limits u fits lines ≡ emits y → IsEntityFor u y
  of-lines fits lines p h =
      let w = within u y fits lines h in
      let e : y ≡ entity_with u lines = w.is in
      record { kind = rw e refl; name = rw e refl; args = rw e refl; result = rw e refl; lines = lines; one_block = rw e refl; short = w.short; emitted = p }

  of-shape : (steps : Part → List PartStep) (x : ShapeText) → outcome_of_shape u steps x ≡ becomes k y → IsEntityFor u y
  of-shape steps (comb waited ds) h =
      of-lines (list_all drive_fits ds) (made.comb (source_of u steps) waited ds).lines (comb-plain (source_of u steps) waited ds)
      (of-emission kind.Comb (comb_emission u steps waited ds) h)
  of-shape steps (edge rs) h =
      of-lines (list_all row_fits rs) (made.edge (source_of u steps) rs).lines (edge-plain (source_of u steps) rs) (of-emission kind.Edge (edge_emission u steps rs) h)
  of-shape steps (once ds) h =
      of-lines (list_all drive_fits ds) (made.once (source_of u steps) ds).lines (once-plain (source_of u steps) ds) (of-emission kind.Once (once_emission u steps ds) h)
  of-shape steps (left r) h = absurd cc

  of-text : (f : Flattened) → outcome_of_text u f ≡ becomes k y → IsEntityFor u y
  of-text (refused x) h = absurd cc
  of-text (flattened t) h = of-shape (steps_in (flat_unit u.name t)) (shape_of_text t) h

pub entity-for : (items : List ItemText) (u : UnitText) (k : Kind) (y : UnitText) → outcome_in items u ≡ becomes k y → IsEntityFor u y
entity-for items u k y h = of-text u y k (flat_of items u) h
