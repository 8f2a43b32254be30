-- Lists in which nothing stands twice.
use Rattle.std.specs.Prelude.{◌≡◌, ℕ, Bool, List, Some, slice_get, nat_eq}
use Rattle.std.specs.List.{list_any}
use lib.Pointwise.{pointwise}

-- no key stands twice
abbrev pub AllDistinct : {K : Type 0} → List K → Type 0
AllDistinct {K} ks = (i j : ℕ) (k : K) → slice_get ks i ≡ Some k → slice_get ks j ≡ Some k → i ≡ j

-- whether the name stands among these
abbrev pub has_name : List (List ℕ) → List ℕ → Bool
has_name names n = list_any (pointwise nat_eq n) names
