use Rattle.std.proofs.Common.{◌≤◌, length, arith}
use Rattle.lh_edge.proofs.Ids.{op_below}
use Rattle.lh_edge.proofs.atoms.is_atom.Goals as goal

pub are_one_bit-requires : goal.are_one_bit-requires
are_one_bit-requires c =
    let l : c.args.x.0 ≤ length c.args.terms.now = omega (arith, c.requires) in
    op_below _ _ _ c.in-Op.op c.in-Op.args _ c.in-Op.is c.as_slice.ensures c.view.ensures.below l
