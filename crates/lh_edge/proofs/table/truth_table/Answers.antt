use Rattle.std.proofs.Common.{List, [], ◌∷◌, sym, subst}
use Rattle.lh_term.specs.declared.term.TermId.{TermId}
use Rattle.lh_term.specs.Arena.{tree_at, trees, trees_at}
use Rattle.lh_term.specs.Reach.{AreReached}
use Rattle.lh_edge.specs.Reached.{joined_by}
use Rattle.lh_edge.proofs.TermValues.{table_next}
use Rattle.lh_edge.proofs.table.truth_table.Goals as goal

pub holds_at-requires-clause-joined : goal.holds_at-requires-clause-joined
holds_at-requires-clause-joined c =
    subst (λ (ids : List TermId). AreReached (joined_by (trees c.args.terms.now)) c.args.terms.now (c.args.edge ∷ []) ids) (sym c.deref.ensures.value) c.in_ok-joined.ensures

pub loop-valuation-preserved : goal.loop-valuation-preserved
loop-valuation-preserved c =
    table_next (trees_at c.args.terms.now c.args.atoms.now) (tree_at (trees c.args.terms.now) c.args.edge) c.loop-valuation.table.items c.put.new.items.items c.loop-valuation.valuation
    c.in_ok-holds.holds c.loop-valuation.invariant c.in_ok-holds.ensures c.in_ok-put.ensures
