use Rattle.std.proofs.Common.{◌≡◌, ◌≤◌, true, nat_eq, length, ap, sym, ◌∙◌, arith}
use Rattle.std.proofs.lemmas.Bool.{and_from}
use Rattle.std.specs.HashSet as hash
use Rattle.lh_term.specs.Tree.{tree_row}
use Rattle.lh_term.specs.Arena.{trees_at}
use Rattle.lh_edge.specs.Atoms.{is_connective, are_one_bit}
use Rattle.lh_edge.specs.Valuations.{connected}
use Rattle.lh_edge.specs.Steps.{values_at}
use Rattle.lh_edge.proofs.Ids.{op_below}
use Rattle.lh_edge.proofs.TermValues.{joined_value, chosen_value}
use Rattle.lh_edge.proofs.table.value_of.Goals as goal

pub are_one_bit-requires : goal.are_one_bit-requires
are_one_bit-requires c =
    let l : c.args.x.0 ≤ length c.args.terms.now = omega (arith, c.requires.is_in) in
    op_below _ _ _ c.in-Op.op c.in-Op.args _ c.in-Op.is c.as_slice.ensures c.view.ensures.below l

pub returns-then-are_one_bit : goal.returns-then-are_one_bit
returns-then-are_one_bit c =
    let o : is_connective c.in-Op.op (tree_row (trees_at c.args.terms.now c.in-Op.args)) ≡ true =
    and_from _ _ (sym c.connects.ensures ∙ c.if-connects.true) (ap (λ xs. are_one_bit (tree_row (trees_at c.args.terms.now xs))) (sym c.as_slice.ensures) ∙ sym c.are_one_bit.ensures
    ∙ c.if-are_one_bit.true) in
    c.connected.ensures ∙ ap (λ xs. connected c.in-Op.op (values_at (hash.contains nat_eq c.args.values.now) xs)) c.as_slice-then-are_one_bit.ensures
    ∙ joined_value _ _ c.args.x _ c.view.ensures.shown c.in-Op.op c.in-Op.args (hash.contains nat_eq c.args.values.now) c.in-Op.is o c.view.ensures.term c.requires.tells

pub returns-then-is_one_bit-2 : goal.returns-then-is_one_bit-2
returns-then-is_one_bit-2 c =
    c.chosen.ensures ∙ chosen_value _ _ c.args.x _ c.view.ensures.shown c.in-Choice.c c.in-Choice.f c.in-Choice.t (hash.contains nat_eq c.args.values.now) c.in-Choice.is
    (sym c.is_one_bit-in-Choice.ensures ∙ c.if-is_one_bit-2.true) c.view.ensures.term c.requires.tells
