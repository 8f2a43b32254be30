-- The blocks of a unit and their instructions are in place.
use Rattle.std.proofs.Common.{ℕ, ◌<◌, length, get_or}
use Rattle.std.proofs.lemmas.Option.{slice_get-get_or}
use Rattle.lh_unit.specs.Within.{Each}
use Rattle.lh_unit.specs.Arena.{Arena, IsArena, table_at, blocks_at, block_insts_at, unit_count, inst_count}
use Rattle.lh_unit.specs.declared.inst.BlockId.{BlockId}
use Rattle.lh_unit.specs.declared.inst.InstId.{InstId}
use Rattle.lh_unit.proofs.Texts.{insts-within}

module _ (a : Arena) (u : ℕ) (o : IsArena a) (h : u < unit_count a) where
  -- the instructions of a block of the unit are of the unit
  pub block-insts : (j : ℕ) (d : BlockId) → j < length (blocks_at a u) → Each (λ (i : InstId). i.0 < inst_count a u) (block_insts_at a u (get_or (blocks_at a u) j d).0)
  block-insts j d w = insts-within (table_at a u) (o.tables u h) j (get_or (blocks_at a u) j d) (slice_get-get_or (blocks_at a u) j d w)
