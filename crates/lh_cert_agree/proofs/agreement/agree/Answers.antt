use Rattle.std.proofs.Common.{sym, ◌∙◌}
use Rattle.lh_term.specs.Arena.{tree_at, trees}
use Rattle.lh_edge.proofs.Walks.{if_ok}
use Rattle.lh_cert_agree.proofs.Agreed.{agree_same, agree_bits, agree_wide}
use Rattle.lh_cert_agree.proofs.agreement.agree.Goals as goal

pub returns-then-same : goal.returns-then-same
returns-then-same c = agree_same (tree_at (trees c.args.terms.now) c.args.a) (tree_at (trees c.args.terms.now) c.args.b) (sym c.same.ensures ∙ c.if-same.true)

pub returns-then-are_one_bit : goal.returns-then-are_one_bit
returns-then-are_one_bit c =
    if_ok c.agree_by_atoms.result (λ x e. agree_bits (tree_at (trees c.args.terms.now) c.args.a) (tree_at (trees c.args.terms.now) c.args.b) x (sym c.same.ensures ∙ c.if-same.false)
    (sym c.are_one_bit.ensures ∙ c.if-are_one_bit.true) e) c.agree_by_atoms.ensures

pub returns : goal.returns
returns c =
    agree_wide (tree_at (trees c.args.terms.now) c.args.a) (tree_at (trees c.args.terms.now) c.args.b) (sym c.same.ensures ∙ c.if-same.false) (sym c.are_one_bit.ensures ∙ c.if-are_one_bit.false)
