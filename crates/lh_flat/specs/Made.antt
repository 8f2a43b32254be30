-- What `flat` makes for a process, by ids.
use Rattle.std.specs.Prelude.{◌≡◌, ℕ}
use Rattle.lh_unit.specs.Arena.{Arena, args_at, value_count}
use Rattle.lh_flat.specs.declared.flat.Flat.{Flat}
use Rattle.lh_flat.specs.declared.rename.Renaming.{Renaming}
use Rattle.lh_flat.specs.declared.build.FlatBuilder.{FlatBuilder}
use Rattle.lh_flat.specs.Building.{unit_room, call_room, own_ids, ids_for, no_text, unit_added}
use Rattle.lh_flat.specs.Room.{inner_values, call_values, HasRoom}
use Rattle.lh_flat.specs.Flat.{max_nested}

-- The ids of the process u itself: its values keep theirs, and its first block stands at place 0.
abbrev pub top_ids : Arena → (u : ℕ) → Renaming
top_ids a u = ids_for (call_room max_nested a) a u (own_ids (value_count a u)) 0 0

-- all that is built for it
abbrev pub top_text : Arena → (u : ℕ) → FlatBuilder
top_text a u = unit_added max_nested a u (top_ids a u) (no_text (value_count a u))

-- all that is built has numbers of 32 bits
abbrev pub TopHasRoom : Arena → (u : ℕ) → Type 0
TopHasRoom a u = HasRoom (no_text (value_count a u)) (unit_room (call_room max_nested a) a u) (inner_values (call_values max_nested a) a u)

-- the flat text that is made
pub record IsMade (a : Arena) (u : ℕ) (t : Flat) : Type 0 where
  pub args : t.args ≡ args_at a u
  pub blocks : t.blocks ≡ (top_text a u).blocks
  pub values : t.values ≡ (top_text a u).values
