-- Units of two modules that have the same names under the same ids.
use Rattle.std.specs.Prelude.{◌≡◌, ◌≢◌, ℕ, ◌<◌, List, []}
use Rattle.lh_unit.specs.Arena.{Arena, KeepsEntries, contents, unit_count, value_count, label_count, unit_name_at, value_name_at, label_name_at}

-- the units of both modules have the same names
pub record SameUnits (a b : Arena) : Type 0 where
  pub units : unit_count b ≡ unit_count a
  pub names : (u : ℕ) → u < unit_count a → unit_name_at b u ≡ unit_name_at a u

-- the unit u has n values, whose names these are
pub record HasValues (b : Arena) (u n : ℕ) (f : ℕ → List ℕ) : Type 0 where
  pub count : value_count b u ≡ n
  pub names : (v : ℕ) → v < n → value_name_at b u v ≡ f v

-- the unit u has n labels, whose names these are
pub record HasLabelsOf (b : Arena) (u n : ℕ) (f : ℕ → List ℕ) : Type 0 where
  pub count : label_count b u ≡ n
  pub names : (v : ℕ) → v < n → label_name_at b u v ≡ f v

-- the unit u has the same names in both modules, and so have the units
pub record SameNames (a b : Arena) (u : ℕ) : Type 0 where
  pub units : SameUnits a b
  pub values : HasValues b u (value_count a u) (value_name_at a u)
  pub labels : HasLabelsOf b u (label_count a u) (label_name_at a u)

-- there may be more entries in the unit u, and nothing else changes
pub record NamesIn (old new : Arena) (u : ℕ) : Type 0 where
  pub says : contents new ≡ contents old
  pub entries : KeepsEntries old new
  pub units : unit_count new ≡ unit_count old
  pub values : (w : ℕ) → w ≢ u → value_count new w ≡ value_count old w
  pub labels : (w : ℕ) → w ≢ u → label_count new w ≡ label_count old w

-- values of the unit u have entries from now on
pub record NamesValues (old new : Arena) (u n : ℕ) (f : ℕ → List ℕ) : Type 0 where
  pub only : NamesIn old new u
  pub labels_stay : label_count new u ≡ label_count old u
  pub named : HasValues new u n f

-- labels of the unit u have entries from now on
pub record NamesLabels (old new : Arena) (u n : ℕ) (f : ℕ → List ℕ) : Type 0 where
  pub only : NamesIn old new u
  pub values_stay : value_count new u ≡ value_count old u
  pub named : HasLabelsOf new u n f

-- n units have the names that they have in the other module, and there is nothing else
pub record NamesUnits (a b : Arena) (n : ℕ) : Type 0 where
  pub empty : contents b ≡ []
  pub count : unit_count b ≡ n
  pub names : (u : ℕ) → u < n → unit_name_at b u ≡ unit_name_at a u
  pub values : (u : ℕ) → value_count b u ≡ 0
  pub labels : (u : ℕ) → label_count b u ≡ 0
