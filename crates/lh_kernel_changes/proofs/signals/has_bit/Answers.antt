use Rattle.std.proofs.Common.{◌<◌, ◌+◌, ◌-◌, length, arith, rules}
use Rattle.lh_types.specs.Types.{bit_count}
use Rattle.lh_kernel_changes.proofs.Filled.{at_signal, looked_up, has_of}
use Rattle.lh_kernel_changes.proofs.signals.has_bit.Goals as goal

pub bits-requires : goal.bits-requires
bits-requires c =
    let g = c.in-Some.ensures.lookup in
    let e = looked_up c.args.design.now.signals.items c.signals.result.now c.args.number c.in-Some.signal.now c.signals.ensures g.1 g.3.0 in
    (at_signal 0 (length c.args.design.now.init) c.args.design.now.signals.items c.args.number c.in-Some.signal.now c.requires e).0

pub returns-then-signal-bit : goal.returns-then-signal-bit
returns-then-signal-bit c h =
    let g = c.in-Some.ensures.lookup in
    let e = looked_up c.args.design.now.signals.items c.signals.result.now c.args.number c.in-Some.signal.now c.signals.ensures g.1 g.3.0 in
    let less : c.args.bit - c.in-Some.signal.now.lo < c.bits.result = search (rules, h) in
    let below : c.args.bit < c.in-Some.signal.now.lo + bit_count c.in-Some.signal.now.ty = omega (arith, less, c.if-signal-bit.true, c.bits.ensures) in
    has_of c.args.design.now.signals.items c.args.number c.in-Some.signal.now c.args.bit e (c.if-signal-bit.true, below)
