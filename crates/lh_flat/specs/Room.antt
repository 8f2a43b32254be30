-- How many ids of values copies take, and room for what is to come.
use Rattle.std.specs.Prelude.{ℕ, zero, suc, ◌+◌, ◌^◌, ◌<◌, List, [], ◌∷◌, length, Option, Some, None}
use Rattle.lh_unit.specs.Table.{insts_at}
use Rattle.lh_unit.specs.Arena.{Arena, table_at, blocks_at, inst_count}
use Rattle.lh_unit.specs.declared.inst.UnitId.{UnitId}
use Rattle.lh_unit.specs.declared.inst.BlockId.{BlockId}
use Rattle.lh_flat.specs.declared.build.FlatBuilder.{FlatBuilder}
use Rattle.lh_flat.specs.Building.{insts_room}

-- how many ids the calls of blocks take
abbrev pub blocks_values : (values : Option UnitId → ℕ) → Arena → (u : ℕ) → List BlockId → ℕ
blocks_values values a u [] = 0
blocks_values values a u (b ∷ more) = insts_room values a u (insts_at (table_at a u) b.0) + blocks_values values a u more

-- how many the calls of a unit take
abbrev pub inner_values : (values : Option UnitId → ℕ) → Arena → (u : ℕ) → ℕ
inner_values values a u = blocks_values values a u (blocks_at a u)

-- how many a call takes: one for each instruction of the copy, and those of the calls in it; at most `depth` calls nest
unfoldable pub call_values : (depth : ℕ) → Arena → Option UnitId → ℕ
call_values depth a None = 0
call_values zero a (Some f) = 0
call_values (suc k) a (Some f) = inst_count a f.0 + inner_values (call_values k a) a f.0

-- so many more blocks, and so many more ids of values, have numbers of 32 bits
pub record HasRoom (t : FlatBuilder) (more ids : ℕ) : Type 0 where
  pub blocks : length t.blocks + more < 2 ^ 32
  pub values : t.values + ids < 2 ^ 32
