use Rattle.std.proofs.Common.{ap, sym, ◌∙◌}
use Rattle.lh_term.specs.Make.{is_bit}
use Rattle.lh_term.specs.Arena.{tree_at, trees}
use Rattle.lh_edge.proofs.Made.{adds_none, adds_one_ok}
use Rattle.lh_edge.proofs.triggers.add_trigger.Goals as goal

pub returns-then-is_never-clause-added : goal.returns-then-is_never-clause-added
returns-then-is_never-clause-added c =
    let s = c.in_ok-gate.ensures.made in
    adds_none c.gate_at.new.terms (tree_at (trees c.args.terms.now) c.args.cond) c.args.part.now c.args.rise c.args.triggers.now (ap (is_bit 0) (sym s.tree) ∙ sym c.is_never.ensures ∙ c.if-is_never.true)

pub returns-clause-added : goal.returns-clause-added
returns-clause-added c =
    let s = c.in_ok-gate.ensures.made in
    adds_one_ok c.push.result c.gate_at.new.terms (tree_at (trees c.args.terms.now) c.args.cond) c.args.part.now c.in_ok-part.part c.args.rise c.in_ok-gate.gate c.args.triggers.now c.push.new.self
    c.in_ok-part.ensures
    (ap (is_bit 0) (sym s.tree) ∙ sym c.is_never.ensures ∙ c.if-is_never.false) s c.push.ensures.ok
