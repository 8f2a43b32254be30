-- The units of a module by their places, and what is emitted for a process.
use Rattle.std.proofs.Common.{◌≡◌, ℕ, ◌<◌, List, Option, Some, None, slice_get, refl, ap}
use Rattle.lh_unit.specs.declared.inst.Item.{Item}
use Rattle.lh_unit.specs.declared.inst.Item.TheVariants as item
use Rattle.lh_unit.specs.declared.inst.UnitKind.{UnitKind}
use Rattle.lh_unit.specs.declared.inst.UnitKind.TheVariants as unit_kind
use Rattle.lh_unit.specs.Arena.{Arena, IsArena, unit_count}
use Rattle.lh_unit.specs.Contents.{UnitText, ItemText}
use Rattle.lh_unit.specs.Naming.{kind_text}
use Rattle.lh_unit.specs.Within.{Each}
use Rattle.lh_unit.proofs.Lists.{Each-from}
use Rattle.lh_flat.specs.Flat.{FlatText, Flattened, refused, flattened, flat_of, flat_unit}
use Rattle.lh_shape.specs.Shapes.{ShapeText, comb, edge, once, left, shape_of_text}
use Rattle.lh_emit_def.specs.Entities.{Emission, too_large, emits, comb_emission, edge_emission, once_emission}
use Rattle.lh_emit_def.specs.Reached.{steps_in}
use Rattle.lh_lower_def.specs.Lowering.{becomes, outcome_of_emission, outcome_of_shape, outcome_of_text, outcome_in}
use Rattle.lh_lower_def.specs.declared.report.Kind.{Kind}
use Rattle.lh_lower_def.specs.declared.report.Kind.TheVariants as kind
use Rattle.lh_entity_laws.specs.Stands.{IsEmittedFor}

-- ---- units by their places

-- the unit of an item is there
abbrev pub ItemPlaced : Arena → Item → Type 0
ItemPlaced a (item.Unit u) = u.0 < unit_count a
ItemPlaced a (item.Declare d) = Unit {0}

pub items-placed : (a : Arena) → IsArena a → Each (ItemPlaced a) a.items
items-placed a o = Each-from (ItemPlaced a) a.items by
  where
    by : (i : ℕ) (x : Item) → slice_get a.items i ≡ Some x → ItemPlaced a x
    by i (item.Unit u) e = o.items_within i u e
    by i (item.Declare d) e = tt

pub process-kind : (k : Option UnitKind) → kind_text k ≡ unit_kind.Proc → k ≡ Some unit_kind.Proc
process-kind None e = absurd cc
process-kind (Some k) e = ap Some e

-- ---- what is emitted

of-emission : (y : UnitText) (k own : Kind) (e : Emission) → outcome_of_emission own e ≡ becomes k y → e ≡ emits y
of-emission y k own (emits x) h = cc h
of-emission y k own too_large h = absurd cc

of-shape : (u y : UnitText) (t : FlatText) (k : Kind) (x : ShapeText) → outcome_of_shape u (steps_in (flat_unit u.name t)) x ≡ becomes k y → IsEmittedFor u t x y
of-shape u y t k (comb waited ds) h = of-emission y k kind.Comb (comb_emission u (steps_in (flat_unit u.name t)) waited ds) h
of-shape u y t k (edge rs) h = of-emission y k kind.Edge (edge_emission u (steps_in (flat_unit u.name t)) rs) h
of-shape u y t k (once ds) h = of-emission y k kind.Once (once_emission u (steps_in (flat_unit u.name t)) ds) h
of-shape u y t k (left r) h = absurd cc

-- a process that becomes an entity has a flat text, and the entity is that of its shape
pub record Emitting (items : List ItemText) (u y : UnitText) : Type 0 where
  pub text : FlatText
  pub flat : flat_of items u ≡ flattened text
  pub emitted : IsEmittedFor u text (shape_of_text text) y

pub emitting : (items : List ItemText) (u y : UnitText) (k : Kind) → outcome_in items u ≡ becomes k y → Emitting items u y
emitting items u y k h = by (flat_of items u) refl h
  where
    by : (f : Flattened) → flat_of items u ≡ f → outcome_of_text u f ≡ becomes k y → Emitting items u y
    by (refused x) e g = absurd cc
    by (flattened t) e g = record { text = t; flat = e; emitted = of-shape u y t k (shape_of_text t) g }
