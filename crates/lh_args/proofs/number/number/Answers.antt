use Rattle.std.proofs.Common.{◌+◌, ◌*◌, ◌-◌, ◌<◌, ◌≤◌, slice_index_or, arith}
use Rattle.lh_args.proofs.Digits.{few_digits}
use Rattle.lh_args.proofs.number.number.Goals as goal

pub overflow_mul-n : goal.overflow_mul-n
overflow_mul-n c = let few : c.loop-b.n * 10 + 0 < 4294967296 = few_digits c.loop-b.n c.loop-b.b-index 0 c.loop-b.invariant.small (omega arith) (omega arith) in omega arith

pub overflow_add-n : goal.overflow_add-n
overflow_add-n c =
    let d : slice_index_or c.args.word.now c.loop-b.b-index 0 - 48 ≤ 9 = omega arith in
    let few : c.loop-b.n * 10 + (slice_index_or c.args.word.now c.loop-b.b-index 0 - 48) < 4294967296 = few_digits c.loop-b.n c.loop-b.b-index _ c.loop-b.invariant.small (omega arith) d in
    omega arith
