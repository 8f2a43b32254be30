use Rattle.std.specs.Ordering.{nat_cmp}
use Rattle.std.specs.BTreeSet as sorted
use Rattle.std.proofs.Common.{refl, sym, ◌∙◌}
use Rattle.lh_edge.proofs.Walks.{leaves_all, leaves_none, on_ok}
use Rattle.lh_edge.proofs.reach.leave_joined.Goals as goal

pub returns : goal.returns
returns c =
    on_ok c.leave_operands.result (leaves_all c.args.terms.now c.args.x (sorted.contains nat_cmp c.args.left.now) (sorted.contains nat_cmp c.leave_operands.new.left) c.view-term.result.now
    c.view-term.ensures.term c.view-term.ensures.shown (sym c.is_atom.ensures ∙ c.if-is_atom.false)) c.leave_operands.ensures

pub returns-then-is_atom : goal.returns-then-is_atom
returns-then-is_atom c =
    leaves_none c.args.terms.now c.args.x (sorted.contains nat_cmp c.args.left.now) (sorted.contains nat_cmp c.args.left.now) c.view-term.result.now c.view-term.ensures.term
    c.view-term.ensures.shown (sym c.is_atom.ensures ∙ c.if-is_atom.true) (λ q. refl)
