use Rattle.lh_edge.proofs.Found.{ids_grown, id_read}
use Rattle.lh_edge.proofs.atoms.add_present.Goals as goal

pub present_of-requires : goal.present_of-requires
present_of-requires c = id_read _ c.args.atoms.now.items c.args.k _ c.index.ensures c.requires.within c.requires.are_in

pub add_missing-requires-clause-are_in : goal.add_missing-requires-clause-are_in
add_missing-requires-clause-are_in c = ids_grown _ _ c.in_ok-now.ensures.kept _ c.requires.are_in
