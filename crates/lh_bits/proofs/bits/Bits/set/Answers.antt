use Rattle.std.proofs.Common.{◌+◌, arith}
use Rattle.lh_bits.proofs.PackedParts.{part_in_words, packed_kept, bit_put, flag-lt, flag_is}
use Rattle.lh_bits.proofs.bits.Bits.set.Goals as goal

pub put_window-requires-clause-within : goal.put_window-requires-clause-within
put_window-requires-clause-within c = part_in_words c.self.inside.len c.args.i 1 c.as_mut_slice.result.now c.self.inside.words.items c.args.self.now c.as_mut_slice.ensures.value c.self.invariant
    c.self.view_is (omega arith)

pub invariant_of-self : goal.invariant_of-self
invariant_of-self c = packed_kept c.self.inside.words c.self.inside.len (c.args.i + 1) c.as_mut_slice.result.now c.put_window.new.words c.args.self.now c.as_mut_slice.ensures.value c.self.invariant
    c.self.view_is (omega arith) c.put_window.auto.words c.put_window.ensures.after

pub returns : goal.returns
returns c = bit_put c.self.inside.words c.self.inside.len c.args.i c.from.result c.args.b c.as_mut_slice.result.now c.put_window.new.words c.args.self.now c.as_mut_slice.ensures.value c.self.view_is
    c.requires c.put_window.auto.words (rw c.from.ensures (flag-lt c.args.b)) (rw c.from.ensures (flag_is c.args.b)) c.put_window.ensures.before c.put_window.ensures.each c.put_window.ensures.after
