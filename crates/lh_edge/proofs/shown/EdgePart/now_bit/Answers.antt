use Rattle.std.proofs.Common.{◌-◌, ◌<◌, length, arith}
use Rattle.lh_term.specs.Tree.{now_of}
use Rattle.lh_edge.proofs.Found.{id_get}
use Rattle.lh_edge.proofs.Sights.{bit_fits}
use Rattle.lh_edge.proofs.shown.EdgePart.now_bit.Goals as goal

pub is_now-requires : goal.is_now-requires
is_now-requires c =
    let l : c.loop-k.k - 1 < length c.args.self.now.atoms.now = omega (arith, c.loop-k-test.true, c.loop-k.invariant.within) in
    id_get (length c.args.self.now.terms.now) c.args.self.now.atoms.now (c.loop-k.k - 1) (record { 0 = 0 }) l c.requires.known.are_in

pub first_or-bit-requires : goal.first_or-bit-requires
first_or-bit-requires c = bit_fits c.args.self.now.terms.now c.args.self.now.atoms.now c.loop-k.k (now_of c.args.part.now) c.loop-k.bit c.requires.few c.loop-k.invariant.so_far
