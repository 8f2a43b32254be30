-- The path of an instance, from its own label up.
use Rattle.std.specs.Prelude.{ℕ, List, [], ◌∷◌, ◌++◌, Option, slice_get}
use Rattle.std.specs.Option.{option_and_then}
use Rattle.lh_unit.specs.Paths.{label_at}
use Rattle.lh_unit.specs.Trace.{Shown}
use Rattle.lh_eval.specs.declared.instance.Instance.{Instance}

-- the parent of the instance of a number
abbrev pub parent_at : List Instance → ℕ → Option ℕ
parent_at is k = option_and_then (λ (i : Instance). i.parent) (slice_get is k)

-- the labels of instances, the last of them first, with a dot before each
abbrev pub dotted : List Shown → List ℕ → List ℕ
dotted all [] = []
dotted all (k ∷ more) = dotted all more ++ 46 ∷ label_at all k
