use Rattle.std.proofs.Common.{◌≡◌, ◌<◌, ◌≤◌, ◌-◌, ◌*◌, arith}
use Rattle.std.specs.Prelude.{◌^◌, ◌%◌}
use Rattle.std.proofs.Math.Nat.{mod-eq_of_lt}
use Rattle.std.proofs.Math.Pow.{pow_mono}
use Rattle.lh_read_pieces.proofs.numbers.half_of.Goals as goal

pub returns-clause-few : goal.returns-clause-few
returns-clause-few c =
    let m : 2 ^ (c.args.width - 1) ≤ 2 ^ 127 = pow_mono {i = c.args.width - 1} {j = 127} (omega arith) in
    let l : 1 * 2 ^ (c.args.width - 1) < 2 ^ 128 = omega arith in
    let e : 1 * 2 ^ (c.args.width - 1) % (2 ^ 128) ≡ 1 * 2 ^ (c.args.width - 1) = mod-eq_of_lt l in
    rw e (omega arith)
