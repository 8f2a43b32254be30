use Rattle.std.proofs.Common.{arith, length, nat_le, rules, of_calls}
use Rattle.std.proofs.lemmas.Fn.{always_returns_same}
use Rattle.lh_kernel_changes.proofs.Filled.{FoundAt, parted, found_point, found_number}
use Rattle.lh_kernel_changes.proofs.signals.signal_at.Goals as goal

found : (c : goal.After-partition_point-after) → FoundAt 0 c.args.design.now.signals.items c.args.bit c.partition_point-after.result
found c =
    found_point (length c.args.design.now.init) c.args.bit c.partition_point-after.result c.args.design.now.signals.items c.signals.result.now c.signals.ensures c.requires.fill c.requires.within
    c.partition_point-after.ensures.bound
    (c.partition_point-after.ensures.partitioned (λ s. nat_le s.lo c.args.bit) (always_returns_same _ _ _ (λ a r f k. search (rules, of_calls)))
    (parted (length c.args.design.now.init) c.args.bit c.args.design.now.signals.items c.signals.result.now c.signals.ensures c.requires.fill))

pub overflow_sub-result : goal.overflow_sub-result
overflow_sub-result c = let f = found c in omega (arith, f.before)

pub overflow_cast-result : goal.overflow_cast-result
overflow_cast-result c = let f = found c in omega (arith, f.before, f.low)

pub returns : goal.returns
returns c = found_number 0 c.args.design.now.signals.items c.args.bit c.partition_point-after.result (found c)
