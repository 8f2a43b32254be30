-- The edges that lead to places which are still to be treated.
use Rattle.std.specs.Prelude.{◌≡◌, ℕ, List, [], ◌∷◌, ◌++◌, length, Bool, true, false, ◌&&◌, nat_eq, if◌then◌else◌, slice_get}
use Rattle.std.specs.Option.{option_map_or}
use Rattle.lh_region_joins.specs.declared.edge.Edge.{Edge}

-- the edges that lead to the block of this number
abbrev pub led_to : List (List Edge) → ℕ → List Edge
led_to led b = option_map_or (λ (es : List Edge). es) (slice_get led b) []

-- there are this many blocks, and no edge leads to one of them
pub record LeadsNowhere (blocks : ℕ) (led : List (List Edge)) : Type 0 where
  pub long : length led ≡ blocks
  pub none : (b : ℕ) → led_to led b ≡ []

-- one more edge leads to this block
pub record IsLedAlso (old : List (List Edge)) (block : ℕ) (e : Edge) (new : List (List Edge)) : Type 0 where
  pub long : length new ≡ length old
  pub led : (b : ℕ) → led_to new b ≡ (if nat_eq block b then led_to old b ++ e ∷ [] else led_to old b)

-- no edge leads to this block any more
pub record BlockIsReached (old : List (List Edge)) (block : ℕ) (new : List (List Edge)) : Type 0 where
  pub long : length new ≡ length old
  pub led : (b : ℕ) → led_to new b ≡ (if nat_eq block b then [] else led_to old b)

abbrev pub is_no_edge : List Edge → Bool
is_no_edge [] = true
is_no_edge (e ∷ more) = false

-- no edge leads to one of the blocks
abbrev pub none_led : List (List Edge) → Bool
none_led [] = true
none_led (es ∷ more) = is_no_edge es && none_led more
