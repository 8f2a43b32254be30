-- Which instances sense a bit of which signal.
use Rattle.std.specs.Prelude.{ℕ, List, [], unwrap_or, slice_get, ◌≡◌, ◌⊎◌, ◌↔◌}
use Rattle.lh_kernel_wakes.specs.Rising.{IsOneOf}

-- the instances that are noted under a signal
abbrev pub sensed_by : List (List ℕ) → (signal : ℕ) → List ℕ
sensed_by lists signal = unwrap_or (slice_get lists signal) []

-- it is noted that the instance senses the signal
abbrev pub Senses : List (List ℕ) → (signal instance : ℕ) → Type 0
Senses lists signal instance = IsOneOf instance (sensed_by lists signal)

-- the new index has this, and what the old one has
abbrev pub SensesOneMore : (old : List (List ℕ)) → (signal instance : ℕ) → (new : List (List ℕ)) → Type 0
SensesOneMore old signal instance new = (s k : ℕ) → Senses new s k ↔ (((s ≡ signal) × (k ≡ instance)) ⊎ Senses old s k)

-- the new index has what the old one has, but for this
abbrev pub SensesOneLess : (old : List (List ℕ)) → (signal instance : ℕ) → (new : List (List ℕ)) → Type 0
SensesOneLess old signal instance new = (s k : ℕ) → Senses new s k ↔ (Senses old s k × ¬ ((s ≡ signal) × (k ≡ instance)))
