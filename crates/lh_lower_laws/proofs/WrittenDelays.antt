-- The delays of the shapes of a module's processes can be written.
use Rattle.std.proofs.Common.{◌≡◌, ℕ, zero, suc, List, [], ◌∷◌, map, Some, slice_get, refl, sym, subst}
use Rattle.std.proofs.lemmas.Option.{same_Some, none-some}
use Rattle.std.specs.Prelude.{IsSome}
use Rattle.lh_unit.specs.declared.inst.Item.{Item}
use Rattle.lh_unit.specs.declared.inst.Item.TheVariants as item
use Rattle.lh_unit.specs.declared.inst.UnitId.{UnitId}
use Rattle.lh_unit.specs.Arena.{Arena, contents, kind_at, unit_text_at, item_text_at}
use Rattle.lh_unit.specs.Contents.{UnitText}
use Rattle.lh_unit.specs.Within.{Each}
use Rattle.lh_text_laws.specs.Laws.{SpelledApart, SpelledIsPrintable}
use Rattle.lh_text_laws.specs.Printable.{IsPrintable, IsPrintableItem}
use Rattle.lh_flat_laws.specs.Formed.{IsFormed}
use Rattle.lh_flat_state_laws.specs.Formed.{FlatTextsAreFormed}
use Rattle.lh_flat.specs.Flat.{flat_unit}
use Rattle.lh_shape.specs.Shapes.{shape_of_text}
use Rattle.lh_lower_laws.specs.Delays.{DelaysAreWritable}
use Rattle.lh_lower_laws.proofs.LoweredForm.{source-printable}
use Rattle.lh_lower_laws.proofs.Flats.{flat-fine}
use Rattle.lh_lower_laws.proofs.ShapeDelays.{shape-written}

item-at : (a : Arena) (xs : List Item) (i : ℕ) (x : Item) → Each IsPrintableItem (map (item_text_at a) xs) → slice_get xs i ≡ Some x → IsPrintableItem (item_text_at a x)
item-at a [] i x h q = absurd (none-some x q)
item-at a (y ∷ xs) zero x h q = subst (λ (z : Item). IsPrintableItem (item_text_at a z)) (same_Some y x q) h.0
item-at a (y ∷ xs) (suc i) x h q = item-at a xs i x h.1 q

pub delays-written : SpelledApart → SpelledIsPrintable → FlatTextsAreFormed → DelaysAreWritable
delays-written apart printable flat-formed a u t fl =
    let x : UnitText = unit_text_at a u in
    let id : UnitId = record { 0 = u } in
    let all : Each IsPrintableItem (contents a) = source-printable apart printable (contents a) fl.formed.0 in
    let begun : IsSome (kind_at a u) = subst IsSome (sym fl.process) refl in
    let place = fl.arena.items_defined id fl.within begun in
    let p : IsPrintable x = item-at a a.items place.0 (item.Unit id) all place.1 in
    let f : IsFormed (flat_unit x.name t) = flat-formed a u x.name t fl.arena fl.formed fl.named fl.within fl.process fl.flat in
    shape-written x.name t f (flat-fine (contents a) x t all p fl.flat) (shape_of_text t) refl
