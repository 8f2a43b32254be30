use Rattle.std.proofs.Common.{◌≡◌, drop}
use Rattle.lh_region.specs.Heads.{leads_on}
use Rattle.lh_region.proofs.head.leads_on.Given as goal

abbrev pub invariant-loop-line : goal.invariant-loop-line
invariant-loop-line l = leads_on (drop l.line-index l.line-items) ≡ leads_on l.line-items
