-- The values of the signals that have changed since they were written.
use Rattle.std.specs.Prelude.{◌≡◌, ◌<◌, ◌⊎◌, ◌++◌, ℕ, List, [], ◌∷◌, length, Option, Some, None, slice_index_or, All, Contains}
use Rattle.lh_types.specs.Values.{Datum}
use Rattle.lh_types.specs.ValueOf.{datum_of}
use Rattle.lh_types.specs.declared.val.Val.{Val}
use Rattle.lh_wave.specs.declared.changed.Changed.{Changed}

-- a signal has no new value
abbrev pub HasNone : List (Option Val) → ℕ → Type 0
HasNone new k = slice_index_or new k None ≡ None

-- There is room for a new value of each of so many signals, and those that have one are listed.
pub record ChangesAreListed (c : Changed) (count : ℕ) : Type 0 where
  pub level : length c.values.items ≡ count
  pub within : All (λ (k : ℕ). k < count) c.numbers.items
  pub listed : (k : ℕ) → Contains c.numbers.items k ⊎ HasNone c.values.items k

-- the numbers with one more, if that signal had no new value yet
abbrev pub with_number : Option Val → ℕ → List ℕ → List ℕ
with_number None k numbers = numbers ++ k ∷ []
with_number (Some v) k numbers = numbers

-- a signal's value: the new one, or the one that was written last
abbrev pub present_value : Option Val → Val → Datum
present_value None written = datum_of written
present_value (Some v) written = datum_of v

-- the values of all signals
abbrev pub present_values : List (Option Val) → List Val → List Datum
present_values (n ∷ new) (w ∷ written) = present_value n w ∷ present_values new written
present_values _ _ = []
