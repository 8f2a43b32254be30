-- A module under construction that copies another one, item by item.
use Rattle.std.specs.Prelude.{◌≡◌, ◌≢◌, ℕ, ◌<◌, ◌≤◌, false, List, [], ◌∷◌, ◌++◌}
use Rattle.lh_unit.specs.Contents.{ItemText, UnitText, unit_text, new_unit, line_count, defines_unit}
use Rattle.lh_unit.specs.Reads.{args_repeat}
use Rattle.lh_unit.specs.Arena.{Arena, KeepsEntries, contents, unit_count, value_count, label_count, unit_name_at}
use Rattle.lh_unit.specs.Hierarchy.{lines_of}
use Rattle.lh_text_laws.specs.Printable.{results_repeat, labels_repeat}

-- A module under construction that says these items, with the units of another under the same ids; those that are not yet defined have no entries.
pub record IsCopying (a b : Arena) (items : List ItemText) : Type 0 where
  pub units : unit_count b ≡ unit_count a
  pub names : (u : ℕ) → u < unit_count a → unit_name_at b u ≡ unit_name_at a u
  pub says : contents b ≡ items
  pub unopened : (u : ℕ) → u < unit_count a → defines_unit (unit_name_at a u) items ≡ false → (value_count b u ≡ 0) × (label_count b u ≡ 0)

-- Items are copied, and none of them defines the unit u.
pub record CanAdd (a b : Arena) (u : ℕ) : Type 0 where
  pub items : List ItemText
  pub copying : IsCopying a b items
  pub undefined : defines_unit (unit_name_at a u) items ≡ false

-- the items are copied, and then this one too
abbrev pub CopiesMore : (a old new : Arena) → ItemText → Type 0
CopiesMore a old new i = (items : List ItemText) → IsCopying a old items → IsCopying a new (items ++ i ∷ [])

-- the same for a unit that none of the items defines
abbrev pub CopiesUnit : (a old new : Arena) → ℕ → UnitText → Type 0
CopiesUnit a old new u t = (items : List ItemText) → IsCopying a old items → defines_unit (unit_name_at a u) items ≡ false → IsCopying a new (items ++ unit_text t ∷ [])

-- no value and no label is defined twice, and there are not too many instructions
pub record IsOnce (t : UnitText) : Type 0 where
  pub args : args_repeat [] t.args ≡ false
  pub results : results_repeat t.args [] (lines_of t.blocks) ≡ false
  pub labels : labels_repeat [] t.blocks ≡ false
  pub few : line_count t.blocks ≤ 65536

-- the unit u is added with the text t, and the other units keep their entries
pub record AddsUnit (old new : Arena) (u : ℕ) (t : UnitText) : Type 0 where
  pub says : contents new ≡ contents old ++ unit_text t ∷ []
  pub entries : KeepsEntries old new
  pub units : unit_count new ≡ unit_count old
  pub values : (w : ℕ) → w ≢ u → value_count new w ≡ value_count old w
  pub labels : (w : ℕ) → w ≢ u → label_count new w ≡ label_count old w

-- a unit as its header leaves it
abbrev pub headed : UnitText → UnitText
headed t = record t { blocks = (new_unit t.name t.kind).blocks }
