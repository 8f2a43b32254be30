use Rattle.std.proofs.Common.{sym, ap, ◌∙◌}
use Rattle.std.specs.Option.{is_none}
use Rattle.lh_types.specs.Faults.{array_fault}
use Rattle.lh_term.specs.Arena.{trees, tree_at}
use Rattle.lh_emit.proofs.TermParts.{chosen-made}
use Rattle.lh_emit.proofs.making.chosen.Goals as goal
use Rattle.lh_emit_def.proofs.Pairs.{pair-typed}

pub op-requires-clause-fits : goal.op-requires-clause-fits
op-requires-clause-fits c =
    (pair-typed (tree_at (trees c.args.terms.now) c.args.c) (tree_at (trees c.args.terms.now) c.args.f) (tree_at (trees c.args.terms.now) c.args.t) c.requires.typed
    (sym (ap (λ t. is_none (array_fault 2 t)) c.ty.ensures) ∙ c.in_ok-has_pair.ensures.pair)).1

pub returns-clause-made : goal.returns-clause-made
returns-clause-made c =
    chosen-made c.args.terms.now c.op.new.self c.args.c c.args.f c.args.t c.in_ok-pair.pair c.in_ok-from_slice.field-0 c.op.ensures.kept c.requires.c_in c.in_ok-pair.ensures.made
    c.in_ok-from_slice.ensures
    (sym (ap (λ t. is_none (array_fault 2 t)) c.ty.ensures) ∙ c.in_ok-has_pair.ensures.pair)
