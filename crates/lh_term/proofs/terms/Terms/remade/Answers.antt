use Rattle.std.proofs.Common.{nat_eq}
use Rattle.std.specs.HashMap as hash
use Rattle.lh_term.proofs.Swaps.{seconds_typed, op_names, op_facts, choice_names, choice_facts, if_ok_along}
use Rattle.lh_term.proofs.terms.Terms.remade.Goals as goal

pub renamed-requires : goal.renamed-requires
renamed-requires c = op_names _ _ c.args.x _ (hash.get nat_eq c.args.made.now) c.view.ensures.term c.requires.operands c.in-Op.op c.in-Op.args _ c.in-Op.is c.as_slice.ensures

pub op-requires-clause-within : goal.op-requires-clause-within
op-requires-clause-within c =
    let f = op_facts _ _ c.args.x _ (hash.get nat_eq c.args.made.now) c.view.ensures.term c.requires.operands c.requires.swaps (seconds_typed _ c.are_all_typed.ensures c.args.by.now c.requires.pairs_in) c.in-Op.op
    c.in-Op.args c.in-Op.is c.view.ensures.shown c.view.ensures.typed _ _ _ c.as_slice.ensures c.in_ok-args-in-Op.ensures c.as_slice-in-Op.ensures in
    f.within

pub op-requires-clause-fits : goal.op-requires-clause-fits
op-requires-clause-fits c =
    let f = op_facts _ _ c.args.x _ (hash.get nat_eq c.args.made.now) c.view.ensures.term c.requires.operands c.requires.swaps (seconds_typed _ c.are_all_typed.ensures c.args.by.now c.requires.pairs_in) c.in-Op.op
    c.in-Op.args c.in-Op.is c.view.ensures.shown c.view.ensures.typed _ _ _ c.as_slice.ensures c.in_ok-args-in-Op.ensures c.as_slice-in-Op.ensures in
    f.takes

pub returns-in_ok-args-in-Op-clause-made : goal.returns-in_ok-args-in-Op-clause-made
returns-in_ok-args-in-Op-clause-made c =
    let f = op_facts _ _ c.args.x _ (hash.get nat_eq c.args.made.now) c.view.ensures.term c.requires.operands c.requires.swaps (seconds_typed _ c.are_all_typed.ensures c.args.by.now c.requires.pairs_in) c.in-Op.op
    c.in-Op.args c.in-Op.is c.view.ensures.shown c.view.ensures.typed _ _ _ c.as_slice.ensures c.in_ok-args-in-Op.ensures c.as_slice-in-Op.ensures in
    if_ok_along c.op.result _ _ _ f.made c.op.ensures.made

pub made_at-c-requires : goal.made_at-c-requires
made_at-c-requires c = (choice_names _ _ c.args.x _ (hash.get nat_eq c.args.made.now) c.view.ensures.term c.requires.operands c.in-Choice.c c.in-Choice.f c.in-Choice.t c.in-Choice.is).0

pub made_at-f-requires : goal.made_at-f-requires
made_at-f-requires c = (choice_names _ _ c.args.x _ (hash.get nat_eq c.args.made.now) c.view.ensures.term c.requires.operands c.in-Choice.c c.in-Choice.f c.in-Choice.t c.in-Choice.is).1

pub made_at-t-requires : goal.made_at-t-requires
made_at-t-requires c = (choice_names _ _ c.args.x _ (hash.get nat_eq c.args.made.now) c.view.ensures.term c.requires.operands c.in-Choice.c c.in-Choice.f c.in-Choice.t c.in-Choice.is).2

pub choice-requires-clause-c_in : goal.choice-requires-clause-c_in
choice-requires-clause-c_in c =
    let f = choice_facts _ _ c.args.x _ (hash.get nat_eq c.args.made.now) c.view.ensures.term c.requires.operands c.requires.swaps (seconds_typed _ c.are_all_typed.ensures c.args.by.now c.requires.pairs_in)
    c.in-Choice.c c.in-Choice.f c.in-Choice.t c.in-Choice.is c.view.ensures.shown c.view.ensures.typed _ _ _ c.made_at-c.ensures c.made_at-f.ensures c.made_at-t.ensures in
    f.c_in

pub choice-requires-clause-f_in : goal.choice-requires-clause-f_in
choice-requires-clause-f_in c =
    let f = choice_facts _ _ c.args.x _ (hash.get nat_eq c.args.made.now) c.view.ensures.term c.requires.operands c.requires.swaps (seconds_typed _ c.are_all_typed.ensures c.args.by.now c.requires.pairs_in)
    c.in-Choice.c c.in-Choice.f c.in-Choice.t c.in-Choice.is c.view.ensures.shown c.view.ensures.typed _ _ _ c.made_at-c.ensures c.made_at-f.ensures c.made_at-t.ensures in
    f.f_in

pub choice-requires-clause-t_in : goal.choice-requires-clause-t_in
choice-requires-clause-t_in c =
    let f = choice_facts _ _ c.args.x _ (hash.get nat_eq c.args.made.now) c.view.ensures.term c.requires.operands c.requires.swaps (seconds_typed _ c.are_all_typed.ensures c.args.by.now c.requires.pairs_in)
    c.in-Choice.c c.in-Choice.f c.in-Choice.t c.in-Choice.is c.view.ensures.shown c.view.ensures.typed _ _ _ c.made_at-c.ensures c.made_at-f.ensures c.made_at-t.ensures in
    f.t_in

pub choice-requires-clause-fits : goal.choice-requires-clause-fits
choice-requires-clause-fits c =
    let f = choice_facts _ _ c.args.x _ (hash.get nat_eq c.args.made.now) c.view.ensures.term c.requires.operands c.requires.swaps (seconds_typed _ c.are_all_typed.ensures c.args.by.now c.requires.pairs_in)
    c.in-Choice.c c.in-Choice.f c.in-Choice.t c.in-Choice.is c.view.ensures.shown c.view.ensures.typed _ _ _ c.made_at-c.ensures c.made_at-f.ensures c.made_at-t.ensures in
    f.fits

pub returns-in-Choice-clause-made : goal.returns-in-Choice-clause-made
returns-in-Choice-clause-made c =
    let f = choice_facts _ _ c.args.x _ (hash.get nat_eq c.args.made.now) c.view.ensures.term c.requires.operands c.requires.swaps (seconds_typed _ c.are_all_typed.ensures c.args.by.now c.requires.pairs_in)
    c.in-Choice.c c.in-Choice.f c.in-Choice.t c.in-Choice.is c.view.ensures.shown c.view.ensures.typed _ _ _ c.made_at-c.ensures c.made_at-f.ensures c.made_at-t.ensures in
    if_ok_along c.choice.result _ _ _ f.made c.choice.ensures.made
