use Rattle.std.proofs.Common.{◌≡◌, drop}
use Rattle.lh_region.specs.Heads.{names}
use Rattle.lh_region.proofs.head.names.Given as goal

abbrev pub invariant-loop-line : goal.invariant-loop-line
invariant-loop-line l = names l.block (drop l.line-index l.lines) ≡ names l.block l.lines
