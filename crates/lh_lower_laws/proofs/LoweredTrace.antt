-- The lowered module has the same trace: item by item its units are the module's, or may stand for them.
use Rattle.std.proofs.Common.{◌≡◌, ◌⊎◌, inl, inr, ℕ, ◌<◌, List, [], ◌∷◌, map, Some, refl, le_trans}
use Rattle.lh_unit.specs.declared.inst.Item.{Item}
use Rattle.lh_unit.specs.declared.inst.Item.TheVariants as item
use Rattle.lh_unit.specs.declared.inst.UnitKind.{UnitKind}
use Rattle.lh_unit.specs.declared.inst.UnitKind.TheVariants as unit_kind
use Rattle.lh_unit.specs.Arena.{Arena, contents, unit_count, kind_at, unit_text_at, item_text_at}
use Rattle.lh_unit.specs.Contents.{UnitText, ItemText}
use Rattle.lh_unit.specs.Trace.{max_instructions}
use Rattle.lh_unit.specs.Within.{Each}
use Rattle.lh_unit.specs.World.{Rules, rules_of}
use Rattle.lh_trace_laws.specs.Replacing.{MayStand, AllStand, units_defined, ReplacedSameTrace}
use Rattle.lh_lower_def.specs.Lowering.{Outcome, becomes, stays, outcome_in, in_place, lowered_as, lowered_item, lowered}
use Rattle.lh_lower_def.specs.declared.report.Kind.{Kind}
use Rattle.lh_entity_laws.specs.Stands.{IsFlattened, LoweredStands, MaxIsEnough}
use Rattle.lh_lower_laws.specs.Same.{IsSourceModule, IsEnoughFor, LoweredSameTrace, LoweredSameTraceWithin, LargeIsEnough}
use Rattle.lh_lower_laws.proofs.Outcomes.{ItemPlaced, items-placed, process-kind, Emitting, emitting}

-- the entity of each process may stand for it
abbrev EntitiesStand : Arena → List ItemText → Rules → Type 0
EntitiesStand a items r = (u : ℕ) (k : Kind) (y : UnitText) → u < unit_count a → kind_at a u ≡ Some unit_kind.Proc → outcome_in items (unit_text_at a u) ≡ becomes k y → MayStand r (unit_text_at a u) y

module _ (a : Arena) (items : List ItemText) (r : Rules) (stands : EntitiesStand a items r) where
  abbrev Stays : UnitText → UnitText → Type 0
  Stays x y = (x ≡ y) ⊎ MayStand r x y

  process-stands : (u : ℕ) → u < unit_count a → kind_at a u ≡ Some unit_kind.Proc → (o : Outcome) → outcome_in items (unit_text_at a u) ≡ o → Stays (unit_text_at a u) (in_place (unit_text_at a u) o)
  process-stands u w p (stays x) e = inl refl
  process-stands u w p (becomes k y) e = inr (stands u k y w p e)

  unit-stands : (u : ℕ) → u < unit_count a → (k : UnitKind) → (unit_text_at a u).kind ≡ k → Stays (unit_text_at a u) (lowered_as k items (unit_text_at a u))
  unit-stands u w unit_kind.Func e = inl refl
  unit-stands u w unit_kind.Entity e = inl refl
  unit-stands u w unit_kind.Proc e = process-stands u w (process-kind (kind_at a u) e) (outcome_in items (unit_text_at a u)) refl

  all-stand : (xs : List Item) → Each (ItemPlaced a) xs → AllStand r (units_defined (map (item_text_at a) xs)) (units_defined (map (lowered_item items) (map (item_text_at a) xs)))
  all-stand [] h = tt
  all-stand (item.Declare d ∷ xs) h = all-stand xs h.1
  all-stand (item.Unit u ∷ xs) h = (unit-stands u.0 h.0 (unit_text_at a u.0).kind refl, all-stand xs h.1)

module _ (stands : LoweredStands) (replaced : ReplacedSameTrace) where
  entities-stand : (a : Arena) (bound : ℕ) → IsSourceModule a → IsEnoughFor bound a → EntitiesStand a (contents a) (rules_of bound (contents a))
  entities-stand a bound s enough u k y w p e =
      let m : Emitting (contents a) (unit_text_at a u) y = emitting (contents a) (unit_text_at a u) y k e in
      let f : IsFlattened a u m.text = record { arena = s.arena; formed = s.formed; named = s.named; within = w; process = p; flat = m.flat } in
      stands a u m.text y bound f m.emitted (enough u m.text f)

  pub same-trace-within : LoweredSameTraceWithin
  same-trace-within a bound s enough =
      replaced bound (contents a) (lowered (contents a))
      (all-stand a (contents a) (rules_of bound (contents a)) (entities-stand a bound s enough) a.items (items-placed a s.arena))

  pub same-trace : MaxIsEnough → LoweredSameTrace
  same-trace most a s = same-trace-within a max_instructions s (λ u t f. most a u t f)

pub large-is-enough : MaxIsEnough → LargeIsEnough
large-is-enough most a bound h u t f = le_trans (most a u t f) h
