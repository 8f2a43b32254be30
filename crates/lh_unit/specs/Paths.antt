-- The label and the path of an instance, as a trace shows its instances.
use Rattle.std.specs.Prelude.{◌≡◌, ◌<◌, ℕ, zero, suc, List, [], ◌∷◌, ◌++◌, slice_get, Option, Some, None}
use Rattle.std.specs.Option.{option_map_or}
use Rattle.std.specs.List.{join_with_byte}
use Rattle.lh_unit.specs.Design.{Design}
use Rattle.lh_unit.specs.Trace.{Shown, shown_from}

-- the instances of a design, with their labels and parents
abbrev pub shown_in : Design → List Shown
shown_in d = shown_from 0 d.instances

-- the label of the instance of a number
abbrev pub label_at : List Shown → ℕ → List ℕ
label_at all k = option_map_or (λ (s : Shown). s.label) (slice_get all k) []

-- The labels from the top down to the instance of a number: the top's is its own; any other's follows those to its parent.
pub data LabelsTo (all : List Shown) : ℕ → List (List ℕ) → Type 0 where
  of_top : (k : ℕ) (s : Shown) → slice_get all k ≡ Some s → s.parent ≡ None → LabelsTo all k (s.label ∷ [])
  of_child : (k : ℕ) (s : Shown) (parent : ℕ) (above : List (List ℕ)) → slice_get all k ≡ Some s → s.parent ≡ Some parent → LabelsTo all parent above → LabelsTo all k (above ++ s.label ∷ [])

-- The path of the instance of a number: the labels from the top, with a dot between each two.
pub record IsPathTo (all : List Shown) (k : ℕ) (path : List ℕ) : Type 0 where
  pub labels : List (List ℕ)
  pub leads : LabelsTo all k labels
  pub joined : path ≡ join_with_byte 46 labels

-- the labels above an instance, and its own
abbrev pub labels_by : (above : ℕ → List (List ℕ)) → Option Shown → List (List ℕ)
labels_by above None = []
labels_by above (Some s) = option_map_or above s.parent [] ++ s.label ∷ []

-- the labels from the top down, at most `steps` of them
abbrev pub labels_to : (steps : ℕ) → List Shown → ℕ → List (List ℕ)
labels_to zero all k = []
labels_to (suc n) all k = labels_by (labels_to n all) (slice_get all k)

-- The path, computed. The parent of an instance has a lower number, so no more labels stand above it than its number.
unfoldable pub path_at : List Shown → ℕ → List ℕ
path_at all k = join_with_byte 46 (labels_to (suc k) all k)

-- the parent of an instance, if it has one, has a lower number than this one
abbrev pub IsParentBelow : ℕ → Option ℕ → Type 0
IsParentBelow k None = Unit {0}
IsParentBelow k (Some parent) = parent < k

-- each instance has a parent of a lower number than its own, or none
abbrev pub ParentsComeBefore : List Shown → Type 0
ParentsComeBefore all = (k : ℕ) (s : Shown) → slice_get all k ≡ Some s → IsParentBelow k s.parent
