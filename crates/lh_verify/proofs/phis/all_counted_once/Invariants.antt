use Rattle.std.proofs.Common.{◌≡◌, drop}
use Rattle.lh_verify.specs.Counting.{all_named_once}
use Rattle.lh_verify.proofs.phis.all_counted_once.Given as goal

abbrev pub invariant-loop-block : goal.invariant-loop-block
invariant-loop-block l = all_named_once l.edges (drop l.block-index l.blocks) ≡ all_named_once l.edges l.blocks
