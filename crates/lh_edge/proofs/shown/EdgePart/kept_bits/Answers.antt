use Rattle.std.proofs.Common.{◌-◌, ◌<◌, nat_eq, length, arith}
use Rattle.std.specs.HashSet as hash
use Rattle.lh_term.specs.Tree.{past_of}
use Rattle.lh_edge.specs.Atoms.{contains_past}
use Rattle.lh_edge.proofs.Found.{id_get}
use Rattle.lh_edge.proofs.Sights.{kept_fits}
use Rattle.lh_edge.proofs.Told.{tells_at}
use Rattle.lh_edge.proofs.shown.EdgePart.kept_bits.Goals as goal

pub is_other-requires-clause-atom_in : goal.is_other-requires-clause-atom_in
is_other-requires-clause-atom_in c =
    let l : c.loop-k.k - 1 < length c.args.self.now.atoms.now = omega (arith, c.loop-k-test.true, c.loop-k.invariant.within) in
    id_get (length c.args.self.now.terms.now) c.args.self.now.atoms.now (c.loop-k.k - 1) (record { 0 = 0 }) l c.requires.known.are_in

pub is_other-requires-clause-told : goal.is_other-requires-clause-told
is_other-requires-clause-told c =
    let l : c.loop-k.k - 1 < length c.args.self.now.atoms.now = omega (arith, c.loop-k-test.true, c.loop-k.invariant.within) in
    tells_at c.args.self.now.terms.now contains_past (hash.contains nat_eq c.args.self.now.pasts.now) c.args.self.now.atoms.now (c.loop-k.k - 1) (record { 0 = 0 }) l c.requires.known.tells

pub kept_or-kept-requires : goal.kept_or-kept-requires
kept_or-kept-requires c = kept_fits c.args.self.now.terms.now c.args.self.now.atoms.now c.loop-k.k (past_of c.args.part.now) c.loop-k.kept c.requires.few c.loop-k.invariant.so_far
