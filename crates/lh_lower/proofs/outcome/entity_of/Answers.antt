use Rattle.std.proofs.Common.{sym, subst}
use Rattle.lh_shape.specs.declared.kinds.Shape.{Shape}
use Rattle.lh_lower_def.specs.declared.report.Kind.TheVariants as kind
use Rattle.lh_lower.specs.Outcomes.{IsOutcomeOf, IsOutcomeWith}
use Rattle.lh_lower.proofs.Outcomes.{if-ok, comb-of, edge-of, once-of}
use Rattle.lh_lower.proofs.outcome.entity_of.Goals as goal

pub returns-in-Comb : goal.returns-in-Comb
returns-in-Comb c =
    let ns = c.args.terms.now in let o = c.args.origin.now in let r = c.comb_body-body.result in
    record {
      is = if-ok c.outcome_with.result (IsOutcomeWith kind.Comb r) (IsOutcomeOf ns o c.args.shape)
          (λ y w. subst (λ (z : Shape). IsOutcomeOf ns o z y) (sym c.in-Comb.is)
          (comb-of ns o c.in-Comb.waited c.in-Comb.drives r y c.comb_law.ensures.entity c.comb_law.ensures.right c.comb_body-body.ensures.is w)) c.outcome_with.ensures;
    }

pub returns-in-Edge : goal.returns-in-Edge
returns-in-Edge c =
    let ns = c.args.terms.now in let o = c.args.origin.now in let r = c.edge_body-body.result in
    record {
      is = if-ok c.outcome_with-in-Edge.result (IsOutcomeWith kind.Edge r) (IsOutcomeOf ns o c.args.shape)
          (λ y w. subst (λ (z : Shape). IsOutcomeOf ns o z y) (sym c.in-Edge.is) (edge-of ns o c.in-Edge.rows r y c.edge_law.ensures.entity c.edge_law.ensures.right c.edge_body-body.ensures.is w))
          c.outcome_with-in-Edge.ensures;
    }

pub returns-in-Once : goal.returns-in-Once
returns-in-Once c =
    let ns = c.args.terms.now in let o = c.args.origin.now in let r = c.once_body-body.result in
    record {
      is = if-ok c.outcome_with-in-Once.result (IsOutcomeWith kind.Once r) (IsOutcomeOf ns o c.args.shape)
          (λ y w. subst (λ (z : Shape). IsOutcomeOf ns o z y) (sym c.in-Once.is) (once-of ns o c.in-Once.drives r y c.once_law.ensures.entity c.once_law.ensures.right c.once_body-body.ensures.is w))
          c.outcome_with-in-Once.ensures;
    }
