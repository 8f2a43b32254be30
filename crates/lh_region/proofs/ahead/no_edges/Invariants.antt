use Rattle.lh_region.specs.Ahead.{LeadsNowhere}
use Rattle.lh_region.proofs.ahead.no_edges.Given as goal

abbrev pub invariant-loop : goal.invariant-loop
invariant-loop l = LeadsNowhere l.counter l.led.items
