use Rattle.std.proofs.Common.{sym, ap, ◌∙◌}
use Rattle.lh_types.specs.Types.{array_type}
use Rattle.lh_term.specs.Tree.{tree_row}
use Rattle.lh_term.specs.Types.{type_by_first, type_of, types_of}
use Rattle.lh_term.specs.Arena.{trees, tree_at, trees_at}
use Rattle.lh_term.proofs.Values.{if_ok_eq, types_length}
use Rattle.lh_term.proofs.terms.Terms.type_by_first.Goals as goal

pub returns-in-Array : goal.returns-in-Array
returns-in-Array c =
    let n = sym (types_length c.args.self.now c.args.args.now) in
    let t = c.ty-of.ensures in
    if_ok_eq _ _ _ ((λ i. array_type (n i) (t i))
    ∙ sym (ap (λ o. type_by_first o (type_of (tree_at (trees c.args.self.now) c.args.first)) (types_of (tree_row (trees_at c.args.self.now c.args.args.now)))) c.in-Array.is)) c.array_of.ensures
