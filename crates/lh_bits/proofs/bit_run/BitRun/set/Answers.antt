use Rattle.std.proofs.Common.{length, arith}
use Rattle.lh_bits.proofs.WrittenBits.{row-within, part-written}
use Rattle.lh_bits.proofs.bit_run.BitRun.set.Goals as goal

pub put_part-requires-clause-within : goal.put_part-requires-clause-within
put_part-requires-clause-within c =
    let w = row-within (length c.args.now.now) c.args.self.now.lo c.args.self.now.bits c.args.self.now.filled c.requires in
    omega arith

pub returns : goal.returns
returns c =
    part-written c.args.self.now.bits c.args.self.now.lo c.len.result c.args.now.now c.put_part.new.self c.len.ensures
    (row-within (length c.args.now.now) c.args.self.now.lo c.args.self.now.bits c.args.self.now.filled c.requires) c.put_part.ensures
