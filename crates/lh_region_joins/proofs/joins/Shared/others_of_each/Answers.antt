use Rattle.std.proofs.Common.{List, [], get_or, sym, subst}
use Rattle.std.proofs.lemmas.List.{take_more, take_all}
use Rattle.lh_term.specs.declared.term.TermId.{TermId}
use Rattle.lh_region_joins.specs.declared.edge.Edge.{Edge}
use Rattle.lh_region_joins.proofs.EdgeJoins.{no_edge}
use Rattle.lh_region_joins.proofs.Selectors.{EachSoFar, EachSoFar-none, EachSoFar-next, conditions-at}
use Rattle.lh_region_joins.proofs.joins.Shared.others_of_each.Goals as goal

pub loop-edge-init : goal.loop-edge-init
loop-edge-init c = subst (λ (x : List (List TermId)). EachSoFar c.args.terms.now c.args.self.now [] x) (sym c.new-others.ensures) (EachSoFar-none c.args.terms.now c.args.self.now)

pub others-requires : goal.others-requires
others-requires c = conditions-at c.args.terms.now c.args.edges.now c.loop-edge.edge-index no_edge c.requires c.loop-edge-test.true

pub loop-edge-preserved : goal.loop-edge-preserved
loop-edge-preserved c =
    let all = c.args.edges.now in let i = c.loop-edge.edge-index in
    EachSoFar-next _ _ _ _ _ _ (get_or all i no_edge) _ (take_more all i no_edge c.loop-edge-test.true) c.in_ok-push.ensures.ok c.in_ok-others.ensures.within c.in_ok-others.ensures.others
    c.loop-edge.invariant

pub returns : goal.returns
returns c =
    (subst (λ (x : List Edge). EachSoFar c.args.terms.now c.args.self.now x c.loop-edge.others) (take_all c.loop-edge.edge-index c.args.edges.now c.loop-edge-test.false) c.loop-edge.invariant).each
