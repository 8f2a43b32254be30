use Rattle.std.proofs.Common.{sym}
use Rattle.lh_bits.proofs.FlagRuns.{length_view}
use Rattle.lh_bits.proofs.bits.Bits.len.Goals as goal

pub returns : goal.returns
returns c = sym (length_view c.self.inside.len 0 c.self.inside.words.items c.args.self.now c.self.view_is)
