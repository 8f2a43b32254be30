use Rattle.lh_kernel.proofs.Seen.{seen_fits, seen_value}
use Rattle.lh_kernel.proofs.sim.Sim.value.Goals as goal

pub from_bits-requires-clause-data : goal.from_bits-requires-clause-data
from_bits-requires-clause-data c =
    (seen_fits c.self.inside.machine c.self.inside.ended c.args.self.now c.args.signal c.signals.result.now c.index-signals-signal.result
    c.self.view_is c.self.invariant c.requires.known c.signals.ensures c.index-signals-signal.is).0

pub from_bits-requires-clause-within : goal.from_bits-requires-clause-within
from_bits-requires-clause-within c =
    (seen_fits c.self.inside.machine c.self.inside.ended c.args.self.now c.args.signal c.signals.result.now c.index-signals-signal.result
    c.self.view_is c.self.invariant c.requires.known c.signals.ensures c.index-signals-signal.is).1

pub returns : goal.returns
returns c =
    seen_value c.self.inside.machine c.self.inside.ended c.args.self.now c.args.signal c.signals.result.now c.index-signals-signal.result
    c.from_bits.result c.self.view_is c.self.invariant c.requires.known c.signals.ensures c.index-signals-signal.is c.from_bits.ensures
