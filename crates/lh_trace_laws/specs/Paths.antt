-- What holds of the paths of instances.
use Rattle.std.specs.Prelude.{◌≡◌, ◌↔◌, ◌<◌, ℕ, List, ◌∷◌, ◌++◌, length, slice_get, Some, None}
use Rattle.lh_unit_names.specs.declared.name.UnitName.{UnitName}
use Rattle.lh_unit.specs.Contents.{ItemText}
use Rattle.lh_unit.specs.Design.{Design, built, elab}
use Rattle.lh_unit.specs.Trace.{Shown}
use Rattle.lh_unit.specs.Paths.{shown_in, IsPathTo, path_at, ParentsComeBefore}

-- Where each parent comes before, an instance has one path, and it is the computed one.
abbrev pub PathComputes : Type 0
PathComputes = (all : List Shown) (k : ℕ) (path : List ℕ) → ParentsComeBefore all → k < length all → IsPathTo all k path ↔ (path_at all k ≡ path)

-- The path of the top is its label.
abbrev pub TopPath : Type 0
TopPath = (all : List Shown) (k : ℕ) (s : Shown) → slice_get all k ≡ Some s → s.parent ≡ None → path_at all k ≡ s.label

-- The path of any other instance is its parent's, a dot and its label.
abbrev pub ChildPath : Type 0
ChildPath = (all : List Shown) (k parent : ℕ) (s : Shown) → ParentsComeBefore all → slice_get all k ≡ Some s → s.parent ≡ Some parent →
    path_at all k ≡ path_at all parent ++ 46 ∷ s.label

-- In a design each parent comes before.
abbrev pub DesignsHaveParentsBefore : Type 0
DesignsHaveParentsBefore = (items : List ItemText) (top : UnitName) (d : Design) → elab items top ≡ built d → ParentsComeBefore (shown_in d)
