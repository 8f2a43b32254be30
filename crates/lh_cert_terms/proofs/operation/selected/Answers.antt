use Rattle.std.proofs.Common.{sym, ◌∙◌}
use Rattle.lh_term.specs.Arena.{tree_at, trees}
use Rattle.lh_cert_terms.specs.Rebuilding.{pair_in}
use Rattle.lh_cert_terms.proofs.Pairs.{pair_chooses, pair_selected, none_takes, none_selected, found_at}
use Rattle.lh_cert_terms.proofs.Remaking.{if_ok_stands}
use Rattle.lh_cert_terms.proofs.operation.selected.Goals as goal

pub choice-requires-clause-fits : goal.choice-requires-clause-fits
choice-requires-clause-fits c =
    pair_chooses c.args.terms.now c.pair_in.new.terms c.in_ok-f.ensures.kept c.args.x c.args.s c.requires.x_in c.requires.s_in c.view-array.ensures.typed (sym c.is_one_bit.ensures ∙ c.if-not-is_one_bit.false) (c.in-Some.f, c.in-Some.t)
    (found_at c.pair_in.new.terms c.in_ok-f.field-0 _ (pair_in (tree_at (trees c.args.terms.now) c.args.x)) c.in-Some.is c.in_ok-f.ensures.found)

pub op-requires-in-None-clause-fits : goal.op-requires-in-None-clause-fits
op-requires-in-None-clause-fits c =
    none_takes c.args.terms.now c.pair_in.new.terms c.in_ok-f.ensures.kept c.args.x c.args.s c.requires.x_in c.requires.s_in c.view-array.ensures.typed (sym c.is_one_bit.ensures ∙ c.if-not-is_one_bit.false) c.requires.fits

pub returns-in-Some-clause-made : goal.returns-in-Some-clause-made
returns-in-Some-clause-made c =
    if_ok_stands c.choice.result _ _ _ (pair_selected c.args.terms.now c.pair_in.new.terms c.in_ok-f.ensures.kept c.args.x c.args.s c.requires.x_in c.requires.s_in c.view-array.ensures.typed (sym c.is_one_bit.ensures ∙ c.if-not-is_one_bit.false) (c.in-Some.f, c.in-Some.t)
    (found_at c.pair_in.new.terms c.in_ok-f.field-0 _ (pair_in (tree_at (trees c.args.terms.now) c.args.x)) c.in-Some.is c.in_ok-f.ensures.found))
    c.choice.ensures.made

pub returns-in-None-clause-made : goal.returns-in-None-clause-made
returns-in-None-clause-made c =
    if_ok_stands c.op-in-None.result _ _ _ (none_selected c.args.terms.now c.pair_in.new.terms c.in_ok-f.ensures.kept c.args.x c.args.s c.requires.x_in c.requires.s_in c.view-array.ensures.typed (sym c.is_one_bit.ensures ∙ c.if-not-is_one_bit.false)
    (found_at c.pair_in.new.terms c.in_ok-f.field-0 _ (pair_in (tree_at (trees c.args.terms.now) c.args.x)) c.in-None.is c.in_ok-f.ensures.found))
    c.op-in-None.ensures.made
