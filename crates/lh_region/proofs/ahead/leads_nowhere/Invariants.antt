use Rattle.std.proofs.Common.{◌≡◌, drop}
use Rattle.lh_region.specs.Ahead.{none_led}
use Rattle.lh_region.proofs.ahead.leads_nowhere.Given as goal

abbrev pub invariant-loop-edges : goal.invariant-loop-edges
invariant-loop-edges l = none_led (drop l.edges-index l.led) ≡ none_led l.led
