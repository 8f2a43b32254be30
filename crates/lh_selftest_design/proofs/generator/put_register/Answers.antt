use Rattle.std.proofs.Common.{◌+◌, codes, decimal}
use Rattle.lh_selftest_design.proofs.Pieces.{two-numbers}
use Rattle.lh_selftest_design.proofs.generator.put_register.Goals as goal

pub returns : goal.returns
returns c =
    two-numbers c.put.result _ _ _ _ (codes "    inst @ff (i1$ %clk, i32$ %d") (decimal c.args.i) (codes ") -> (i32$ %x") (decimal (c.args.i + 1)) (codes ")\n")
    c.in_ok-put_numbered.ensures c.in_ok-put_numbered-2.ensures c.put.ensures
