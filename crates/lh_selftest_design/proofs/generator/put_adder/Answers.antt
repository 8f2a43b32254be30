use Rattle.std.proofs.Common.{◌+◌, codes, decimal}
use Rattle.lh_selftest_design.proofs.Pieces.{three-numbers}
use Rattle.lh_selftest_design.proofs.generator.put_adder.Goals as goal

pub returns : goal.returns
returns c =
    three-numbers c.put.result _ _ _ _ _ (codes "    inst @comb (i32$ %x") (decimal (c.args.i + 1)) (codes ", i32$ %x") (decimal c.args.i) (codes ") -> (i32$ %d") (decimal c.args.i) (codes ")\n")
    c.in_ok-put_numbered.ensures c.in_ok-put_numbered-2.ensures c.in_ok-put_numbered-3.ensures c.put.ensures
