use Rattle.lh_bits.proofs.FlagRuns.{length_view}
use Rattle.lh_bits.proofs.bits.Bits.words.Goals as goal

pub returns-clause-packed : goal.returns-clause-packed
returns-clause-packed c = rw (c.as_slice.ensures, length_view c.self.inside.len 0 c.self.inside.words.items c.args.self.now c.self.view_is) c.self.invariant

pub returns-clause-bits : goal.returns-clause-bits
returns-clause-bits c = rw (c.as_slice.ensures, length_view c.self.inside.len 0 c.self.inside.words.items c.args.self.now c.self.view_is) c.self.view_is
