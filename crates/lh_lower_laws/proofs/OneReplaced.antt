-- One process replaced by its entity: the units beside it are the same, and the entity may stand for the process.
use Rattle.std.proofs.Common.{◌≡◌, ◌⊎◌, inl, inr, ℕ, ◌<◌, List, [], ◌∷◌, ◌++◌, map, Some, refl, sym, ap, ◌∙◌, subst}
use Rattle.lh_unit.specs.declared.inst.Item.{Item}
use Rattle.lh_unit.specs.declared.inst.Item.TheVariants as item
use Rattle.lh_unit.specs.declared.inst.UnitKind.{UnitKind}
use Rattle.lh_unit.specs.declared.inst.UnitKind.TheVariants as unit_kind
use Rattle.lh_unit.specs.Arena.{Arena, contents, unit_count, kind_at, unit_text_at, item_text_at}
use Rattle.lh_unit.specs.Contents.{UnitText, ItemText, unit_text, declare_text}
use Rattle.lh_unit.specs.Trace.{max_instructions}
use Rattle.lh_unit.specs.Within.{Each}
use Rattle.lh_unit.specs.World.{Rules, rules_of}
use Rattle.lh_trace_laws.specs.Replacing.{MayStand, AllStand, units_defined, ReplacedSameTrace}
use Rattle.lh_flat.specs.Flat.{FlatText, flattened, flat_of}
use Rattle.lh_shape.specs.Shapes.{shape_of_text}
use Rattle.lh_entity_laws.specs.Stands.{IsEmittedFor, IsFlattened, LoweredStands, MaxIsEnough}
use Rattle.lh_lower_laws.specs.One.{IsOneReplaced, OneReplacedSameTrace}
use Rattle.lh_lower_laws.specs.Same.{IsSourceModule}
use Rattle.lh_lower_laws.proofs.Outcomes.{ItemPlaced, items-placed, process-kind}

-- a unit that a module has stands there under a number
record HasNumber (a : Arena) (x : UnitText) : Type 0 where
  number : ℕ
  within : number < unit_count a
  is : unit_text_at a number ≡ x

first-item : (x y : ItemText) (xs ys : List ItemText) → x ∷ xs ≡ y ∷ ys → x ≡ y
first-item x y xs ys e = cc

other-items : (x y : ItemText) (xs ys : List ItemText) → x ∷ xs ≡ y ∷ ys → xs ≡ ys
other-items x y xs ys e = cc

same-unit : (u v : UnitText) → unit_text u ≡ unit_text v → u ≡ v
same-unit u v e = cc

number-of : (a : Arena) (is : List Item) (before after : List ItemText) (x : UnitText) → Each (ItemPlaced a) is → map (item_text_at a) is ≡ before ++ unit_text x ∷ after → HasNumber a x
number-of a [] [] after x h e = absurd cc
number-of a [] (b ∷ before) after x h e = absurd cc
number-of a (item.Unit u ∷ is) [] after x h e = record { number = u.0; within = h.0; is = same-unit (unit_text_at a u.0) x (first-item _ _ _ _ e) }
number-of a (item.Declare d ∷ is) [] after x h e = absurd cc
number-of a (i ∷ is) (b ∷ before) after x h e = number-of a is before after x h.1 (other-items _ _ _ _ e)

module _ (r : Rules) (x y : UnitText) (may : MayStand r x y) where
  same-units : (xs : List ItemText) → AllStand r (units_defined xs) (units_defined xs)
  same-units [] = tt
  same-units (unit_text u ∷ xs) = (inl refl, same-units xs)
  same-units (declare_text d ∷ xs) = same-units xs

  one-stands : (before after : List ItemText) → AllStand r (units_defined (before ++ unit_text x ∷ after)) (units_defined (before ++ unit_text y ∷ after))
  one-stands [] after = (inr may, same-units after)
  one-stands (unit_text u ∷ before) after = (inl refl, one-stands before after)
  one-stands (declare_text d ∷ before) after = one-stands before after

module _ (stands : LoweredStands) (most : MaxIsEnough) (replaced : ReplacedSameTrace) where
  entity-stands : (a : Arena) (x y : UnitText) (t : FlatText) → IsSourceModule a → HasNumber a x → x.kind ≡ unit_kind.Proc → flat_of (contents a) x ≡ flattened t
      → IsEmittedFor x t (shape_of_text t) y → MayStand (rules_of max_instructions (contents a)) x y
  entity-stands a x y t s n p f e =
      let u = n.number in
      let here : IsFlattened a u t = record {
        arena = s.arena;
        formed = s.formed;
        named = s.named;
        within = n.within;
        process = process-kind (kind_at a u) (ap (λ (z : UnitText). z.kind) n.is ∙ p);
        flat = ap (flat_of (contents a)) n.is ∙ f;
      } in
      subst (λ (z : UnitText). MayStand (rules_of max_instructions (contents a)) z y) n.is
      (stands a u t y max_instructions here (subst (λ (z : UnitText). IsEmittedFor z t (shape_of_text t) y) (sym n.is) e) (most a u t here))

  pub one-same-trace : OneReplacedSameTrace
  one-same-trace a m' s o =
      let r = rules_of max_instructions (contents a) in
      let may = entity-stands a o.process o.entity o.text s (number-of a a.items o.before o.after o.process (items-placed a s.arena) o.first) o.is_process o.flat o.emitted in
      replaced max_instructions (contents a) m'
      (subst (λ (xs : List ItemText). AllStand r (units_defined xs) (units_defined m')) (sym o.first)
      (subst (λ (xs : List ItemText). AllStand r (units_defined (o.before ++ unit_text o.process ∷ o.after)) (units_defined xs)) (sym o.second) (one-stands r o.process o.entity may o.before o.after)))
