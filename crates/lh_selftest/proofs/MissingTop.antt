-- A top that no unit defines.
use Rattle.std.proofs.Common.{◌≡◌, ℕ, suc, ◌<◌, List, [], ◌∷◌, map, refl, ap, ◌∙◌, Bool, true, false, Option, Some, None}
use Rattle.std.specs.Prelude.{slice_get, is_some, if◌then◌else◌}
use Rattle.std.specs.Option.{option_map}
use Rattle.lh_unit.specs.Arena.{Arena, IsArena, unit_count, unit_name_at, unit_text_at, kind_at, item_text_at, contents}
use Rattle.lh_unit.specs.Builders.{Locates}
use Rattle.lh_unit.specs.Contents.{UnitText}
use Rattle.lh_unit.specs.Design.{elab_named, elab, refused, top_missing}
use Rattle.lh_unit.specs.Hierarchy.{hierarchies, hierarchy_of, hierarchy_named}
use Rattle.lh_unit_names.specs.UnitNames.{same_unit_name}
use Rattle.lh_unit_names.specs.declared.name.UnitName.{UnitName}
use Rattle.lh_unit.specs.declared.inst.UnitId.{UnitId}
use Rattle.lh_unit.specs.declared.inst.UnitKind.{UnitKind}
use Rattle.lh_unit.specs.declared.inst.Item.{Item}
use Rattle.lh_unit.specs.declared.inst.Item.TheVariants as item
use Rattle.lh_unit.proofs.Arenas.{same_unit_name-is}
use Rattle.lh_elab.proofs.Names.{hierarchy-by_id}

-- other names are told apart
other_name : (x n : UnitName) → (x ≡ n → ⊥) → same_unit_name x n ≡ false
other_name x n ne = by (same_unit_name x n) (λ e. ne (same_unit_name-is x n e))
  where
    by : (b : Bool) → (b ≡ true → ⊥) → b ≡ false
    by true differ = absurd (differ refl)
    by false differ = refl

-- none of the items defines a unit of the name
none_named : (a : Arena) (n : UnitName) (items : List Item) → ((i : ℕ) (u : UnitId) → slice_get items i ≡ Some (item.Unit u) → same_unit_name (unit_name_at a u.0) n ≡ false)
    → hierarchy_named n (hierarchies (map (item_text_at a) items)) ≡ None
none_named a n [] h = refl
none_named a n (item.Unit u ∷ more) h = rw (h 0 u refl) (none_named a n more (λ i v e. h (suc i) v e))
none_named a n (item.Declare d ∷ more) h = none_named a n more (λ i v e. h (suc i) v e)

-- no unit has an entry of the name
pub elab-not_there : (a : Arena) (n : UnitName) → IsArena a → Locates None a n → elab (contents a) n ≡ refused top_missing
elab-not_there a n o none =
    ap (elab_named (hierarchies (contents a)) n) (none_named a n a.items (λ i u e. other_name (unit_name_at a u.0) n (none u.0 (o.items_within i u e))))

no_kind : (k : Option UnitKind) (x : UnitText) → k ≡ None → option_map hierarchy_of (if is_some k then Some x else None) ≡ None
no_kind None x e = refl
no_kind (Some k) x e = absurd cc

-- the unit of the name is not defined
pub elab-not_defined : (a : Arena) (u : ℕ) → IsArena a → u < unit_count a → kind_at a u ≡ None → elab (contents a) (unit_name_at a u) ≡ refused top_missing
elab-not_defined a u o l none =
    ap (elab_named (hierarchies (contents a)) (unit_name_at a u)) (hierarchy-by_id a u o l ∙ no_kind (kind_at a u) (unit_text_at a u) none)
