use Rattle.std.proofs.Common.{◌∙◌, nat_eq}
use Rattle.std.specs.HashSet as hash
use Rattle.lh_edge.specs.Atoms.{contains_past}
use Rattle.lh_edge.proofs.Ids.{op_past}
use Rattle.lh_edge.proofs.Told.{tells_op, tells_choice}
use Rattle.lh_edge.proofs.pasts.contains_past.Goals as goal

pub some_past-requires : goal.some_past-requires
some_past-requires c = tells_op c.args.terms.now contains_past (hash.contains nat_eq c.args.pasts.now) _ c.in-Op.op c.in-Op.args _ c.in-Op.is c.as_slice.ensures (c.requires.tells _ c.view.ensures.term)

pub some_past-requires-in-Choice : goal.some_past-requires-in-Choice
some_past-requires-in-Choice c = tells_choice c.args.terms.now contains_past (hash.contains nat_eq c.args.pasts.now) _ _ _ _ c.in-Choice.is (c.requires.tells _ c.view.ensures.term)

pub returns-in-Op : goal.returns-in-Op
returns-in-Op c = c.some_past.ensures ∙ op_past c.args.terms.now c.args.x _ c.in-Op.op c.in-Op.args _ c.in-Op.is c.as_slice.ensures c.view.ensures.shown
