-- Numbers in lists by their owners.
use Rattle.std.specs.Prelude.{◌≡◌, ◌<◌, ◌+◌, ◌++◌, ◌∷◌, [], ℕ, List, map, Option, Some, slice_get, if◌then◌else◌, vec_len}
use Rattle.std.specs.Option.{option_map_or}
use Rattle.std.specs.declared.vec.Vec.{Vec}
use Rattle.std.specs.Global.{Global}
use Rattle.lh_design.specs.declared.Design.{Design}
use Rattle.lh_types.specs.Types.{bit_count}
use Rattle.lh_unit.specs.Trace.{ShownSignal}
use Rattle.lh_wave.specs.HeadText.{is_parent, variable_line}

-- the owner of each instance: its parent
abbrev pub parents : Design → List (Option ℕ)
parents d = map (λ i. i.parent) d.instances.items

-- the owner of each signal: its instance
abbrev pub owners : Design → List (Option ℕ)
owners d = map (λ s. Some s.instance) d.signals.items

-- the numbers of those that this one owns, the first having this number
abbrev pub owned_by : (owner : ℕ) → ℕ → List (Option ℕ) → List ℕ
owned_by o k [] = []
owned_by o k (x ∷ more) = if is_parent o x then k ∷ owned_by o (k + 1) more else owned_by o (k + 1) more

-- the list at a place, none where there is no such place
abbrev pub numbers_of : Vec (Vec ℕ Global) Global → ℕ → List ℕ
numbers_of lists k = option_map_or (λ (list : Vec ℕ Global). list.items) (slice_get lists.items k) []

-- the list of this owner with a number more, where the number is its own
abbrev pub with_number : (owner : Option ℕ) → (number : ℕ) → ℕ → List ℕ → List ℕ
with_number owner number k list = if is_parent k owner then list ++ number ∷ [] else list

-- so many lists, each of what its owner owns
pub record AreOwned (lists : Vec (Vec ℕ Global) Global) (count : ℕ) (of : List (Option ℕ)) : Type 0 where
  pub level : vec_len lists ≡ count
  pub each : (k : ℕ) → k < count → numbers_of lists k ≡ owned_by k 0 of

-- the line of the signal of this number in a waveform, nothing where there is no such signal
abbrev pub variable_at : List ShownSignal → (signal : ℕ) → List ℕ
variable_at signals k = option_map_or (λ (s : ShownSignal). variable_line (bit_count s.ty) k s.name) (slice_get signals k) []
