use Rattle.std.proofs.Common.{take}
use Rattle.lh_region.proofs.AskedValues.{AskSoFar}
use Rattle.lh_region.proofs.taking.ask_all.Given as goal

abbrev pub invariant-loop-ask : goal.invariant-loop-ask
invariant-loop-ask l = AskSoFar l.fn.terms l.fn.places.items l.terms l.places.items l.asks (take l.ask-index l.asks) l.values
