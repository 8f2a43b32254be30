use Rattle.std.proofs.Common.{◌≡◌, drop}
use Rattle.lh_region.specs.Heads.{is_named}
use Rattle.lh_region.proofs.head.is_named.Given as goal

abbrev pub invariant-loop-from : goal.invariant-loop-from
invariant-loop-from l = is_named l.block (drop l.from-index l.blocks) ≡ is_named l.block l.blocks
