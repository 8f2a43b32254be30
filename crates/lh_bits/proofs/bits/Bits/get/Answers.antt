use Rattle.std.proofs.Common.{arith}
use Rattle.lh_bits.proofs.PackedParts.{part_in_words, bit_got}
use Rattle.lh_bits.proofs.bits.Bits.get.Goals as goal

pub window-requires-clause-within : goal.window-requires-clause-within
window-requires-clause-within c = part_in_words c.self.inside.len c.args.i 1 c.as_slice.result.now c.self.inside.words.items c.args.self.now c.as_slice.ensures c.self.invariant c.self.view_is
    (omega arith)

pub returns : goal.returns
returns c = bit_got c.self.inside.len c.args.i c.window.result c.as_slice.result.now c.self.inside.words.items c.args.self.now c.as_slice.ensures c.self.view_is c.requires c.window.ensures.small
    c.window.ensures.each
