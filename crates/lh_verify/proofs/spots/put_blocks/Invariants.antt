use Rattle.std.proofs.Common.{◌≡◌, ◌++◌, true, drop}
use Rattle.lh_unit.specs.Arena.{table_at}
use Rattle.lh_verify.specs.Spots.{spots_from}
use Rattle.lh_verify.proofs.spots.put_blocks.Given as goal

abbrev pub invariant-loop-block : goal.invariant-loop-block
invariant-loop-block l = l.list ++ spots_from (table_at l.m l.unit.0) l.in_entry (drop l.block-index l.blocks) ≡ l.initial.list ++ spots_from (table_at l.m l.unit.0) true l.blocks
