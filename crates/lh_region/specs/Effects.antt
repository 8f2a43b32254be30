-- What instructions do besides giving values, as the definition's rows get more.
use Rattle.std.specs.Prelude.{◌≡◌, ℕ, List, ◌++◌, map, Bool, true, false, Option, Some}
use Rattle.std.specs.Option.{is_some}
use Rattle.lh_unit.specs.declared.inst.Typed.{Typed}
use Rattle.lh_term.specs.Tree.{Tree, past_of, now_of}
use Rattle.lh_term.specs.Arena.{trees, tree_at, StandsForTree}
use Rattle.lh_term.specs.declared.part.Part.{Part}
use Rattle.lh_term.specs.declared.term.TermId.{TermId}
use Rattle.lh_term.specs.declared.term.TermNode.{TermNode}
use Rattle.lh_region_def.specs.Places.{Region, Here, Midst, probes, drives, asserts, ends}
use Rattle.lh_region_places.specs.declared.state.PlaceState.{PlaceState}
use Rattle.lh_region.specs.declared.rows.Rows.{Rows}
use Rattle.lh_region.specs.declared.rows.Way.{Way}
use Rattle.lh_region.specs.declared.effects.DriveAt.{DriveAt}
use Rattle.lh_region_places.specs.Asked.{KnownTerms, Tells}
use Rattle.lh_region.specs.Taken.{told_of, asks_at}
use Rattle.lh_region.specs.Stands.{AreRows, way_text}

-- what a probe of a part gives: its value at the activation before, or now
abbrev pub probed : (is_past : Bool) → Part → Tree
probed true p = past_of p
probed false p = now_of p

-- The rows are those after a probe of the part.
abbrev pub IsProbed : List TermNode → Rows → List TermNode → Rows → Part → Type 0
IsProbed ns r ms q p = (g : Region) (result : Option (List ℕ)) (m : Midst) → AreRows ns r m.rows → AreRows ms q (probes g m result (Some p)).rows

-- something is told of the value that is driven, and of the delay
pub record CanDrive (ns : List TermNode) (ps : List PlaceState) (d : DriveAt) : Type 0 where
  pub told : KnownTerms
  pub tells : Tells ns ps told
  pub value : is_some (told d.place d.value) ≡ true
  pub delay : is_some (told d.place d.after) ≡ true

-- What was told before, of the value and of the delay too, is so still.
abbrev pub StillDriven : List TermNode → List PlaceState → List TermNode → List PlaceState → DriveAt → Type 0
StillDriven ns ps ms qs d = (told : KnownTerms) → Tells ns ps told → is_some (told d.place d.value) ≡ true → is_some (told d.place d.after) ≡ true → Tells ms qs told

-- The rows are those after a drive of the part: with what is told of the value and of the delay, on a condition.
abbrev pub IsDriven : List TermNode → List PlaceState → Rows → List TermNode → Rows → DriveAt → Part → Type 0
IsDriven ns ps r ms q d p =
    (told : KnownTerms) (x y : Tree) (m : Midst) → Tells ns ps told → told d.place d.value ≡ Some x → told d.place d.after ≡ Some y → AreRows ns r m.rows →
    AreRows ms q (drives m (Some (tree_at (trees ns) d.cond)) (Some p) (Some x) (Some y)).rows

-- The rows are those after an assertion of what is told of the operands at a place.
abbrev pub AreAsserted : List TermNode → List PlaceState → Rows → List TermNode → Rows → ℕ → List Typed → Type 0
AreAsserted ns ps r ms q i xs = (told : KnownTerms) (ys : List Tree) (m : Midst) → Tells ns ps told → map (told_of told) (asks_at i xs) ≡ map Some ys → AreRows ns r m.rows
    → AreRows ms q (asserts m (Some ys)).rows

-- The rows are those after an end of this way on a condition.
abbrev pub IsEnded : Rows → Rows → TermId → Way → Type 0
IsEnded r q cond way = (ns : List TermNode) (h : Here) (c : Tree) (m : Midst) → StandsForTree ns cond c → AreRows ns r m.rows → AreRows ns q (ends h c m (way_text way)).rows

-- the rows with these assertions behind the others
pub record IsWithAsserts (r : Rows) (ts : List TermId) (q : Rows) : Type 0 where
  pub probes_stay : q.probes ≡ r.probes
  pub drives_stay : q.drives ≡ r.drives
  pub ends_stay : q.ends ≡ r.ends
  pub more : q.asserts ≡ r.asserts ++ ts
