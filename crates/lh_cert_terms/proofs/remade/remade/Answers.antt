use Rattle.std.proofs.Common.{nat_eq}
use Rattle.std.specs.HashMap as hash
use Rattle.lh_cert_terms.proofs.Remaking.{op_placed, choice_placed, op_read, choice_read, if_ok_stands}
use Rattle.lh_cert_terms.proofs.remade.remade.Goals as goal

pub all_made-requires : goal.all_made-requires
all_made-requires c = op_placed c.args.terms.now c.args.x _ (hash.get nat_eq c.args.made.now) c.view.ensures.term c.view.ensures.shown c.view.ensures.typed c.requires.rebuilt c.requires.operands c.in-Op.op c.in-Op.args _ c.in-Op.is c.as_slice.ensures

pub read_operation-requires-clause-within : goal.read_operation-requires-clause-within
read_operation-requires-clause-within c =
    let o = op_read c.args.terms.now c.args.x _ (hash.get nat_eq c.args.made.now) c.view.ensures.term c.view.ensures.shown c.view.ensures.typed c.requires.rebuilt c.requires.operands
    c.in-Op.op c.in-Op.args _ _ _ c.in-Op.is c.as_slice.ensures c.in_ok-args-in-Op.ensures c.as_slice-in-Op.ensures in
    o.within

pub read_operation-requires-clause-fits : goal.read_operation-requires-clause-fits
read_operation-requires-clause-fits c =
    let o = op_read c.args.terms.now c.args.x _ (hash.get nat_eq c.args.made.now) c.view.ensures.term c.view.ensures.shown c.view.ensures.typed c.requires.rebuilt c.requires.operands
    c.in-Op.op c.in-Op.args _ _ _ c.in-Op.is c.as_slice.ensures c.in_ok-args-in-Op.ensures c.as_slice-in-Op.ensures in
    o.takes

pub returns-in_ok-args-in-Op-clause-made : goal.returns-in_ok-args-in-Op-clause-made
returns-in_ok-args-in-Op-clause-made c =
    let o = op_read c.args.terms.now c.args.x _ (hash.get nat_eq c.args.made.now) c.view.ensures.term c.view.ensures.shown c.view.ensures.typed c.requires.rebuilt c.requires.operands
    c.in-Op.op c.in-Op.args _ _ _ c.in-Op.is c.as_slice.ensures c.in_ok-args-in-Op.ensures c.as_slice-in-Op.ensures in
    if_ok_stands c.read_operation.result _ _ _ o.read c.read_operation.ensures.made

pub made_at-c-requires : goal.made_at-c-requires
made_at-c-requires c = (choice_placed c.args.terms.now c.args.x _ (hash.get nat_eq c.args.made.now) c.view.ensures.term c.view.ensures.shown c.view.ensures.typed c.requires.rebuilt c.requires.operands c.in-Choice.c c.in-Choice.f c.in-Choice.t c.in-Choice.is).0

pub made_at-f-requires : goal.made_at-f-requires
made_at-f-requires c = (choice_placed c.args.terms.now c.args.x _ (hash.get nat_eq c.args.made.now) c.view.ensures.term c.view.ensures.shown c.view.ensures.typed c.requires.rebuilt c.requires.operands c.in-Choice.c c.in-Choice.f c.in-Choice.t c.in-Choice.is).1.0

pub made_at-t-requires : goal.made_at-t-requires
made_at-t-requires c = (choice_placed c.args.terms.now c.args.x _ (hash.get nat_eq c.args.made.now) c.view.ensures.term c.view.ensures.shown c.view.ensures.typed c.requires.rebuilt c.requires.operands c.in-Choice.c c.in-Choice.f c.in-Choice.t c.in-Choice.is).1.1.0

pub choice-requires-clause-c_in : goal.choice-requires-clause-c_in
choice-requires-clause-c_in c =
    let o = choice_read c.args.terms.now c.args.x _ (hash.get nat_eq c.args.made.now) c.view.ensures.term c.view.ensures.shown c.view.ensures.typed c.requires.rebuilt c.requires.operands
    c.in-Choice.c c.in-Choice.f c.in-Choice.t _ _ _ c.in-Choice.is c.made_at-c.ensures c.made_at-f.ensures c.made_at-t.ensures in
    o.c_in

pub choice-requires-clause-f_in : goal.choice-requires-clause-f_in
choice-requires-clause-f_in c =
    let o = choice_read c.args.terms.now c.args.x _ (hash.get nat_eq c.args.made.now) c.view.ensures.term c.view.ensures.shown c.view.ensures.typed c.requires.rebuilt c.requires.operands
    c.in-Choice.c c.in-Choice.f c.in-Choice.t _ _ _ c.in-Choice.is c.made_at-c.ensures c.made_at-f.ensures c.made_at-t.ensures in
    o.f_in

pub choice-requires-clause-t_in : goal.choice-requires-clause-t_in
choice-requires-clause-t_in c =
    let o = choice_read c.args.terms.now c.args.x _ (hash.get nat_eq c.args.made.now) c.view.ensures.term c.view.ensures.shown c.view.ensures.typed c.requires.rebuilt c.requires.operands
    c.in-Choice.c c.in-Choice.f c.in-Choice.t _ _ _ c.in-Choice.is c.made_at-c.ensures c.made_at-f.ensures c.made_at-t.ensures in
    o.t_in

pub choice-requires-clause-fits : goal.choice-requires-clause-fits
choice-requires-clause-fits c =
    let o = choice_read c.args.terms.now c.args.x _ (hash.get nat_eq c.args.made.now) c.view.ensures.term c.view.ensures.shown c.view.ensures.typed c.requires.rebuilt c.requires.operands
    c.in-Choice.c c.in-Choice.f c.in-Choice.t _ _ _ c.in-Choice.is c.made_at-c.ensures c.made_at-f.ensures c.made_at-t.ensures in
    o.fits

pub returns-in-Choice-clause-made : goal.returns-in-Choice-clause-made
returns-in-Choice-clause-made c =
    let o = choice_read c.args.terms.now c.args.x _ (hash.get nat_eq c.args.made.now) c.view.ensures.term c.view.ensures.shown c.view.ensures.typed c.requires.rebuilt c.requires.operands
    c.in-Choice.c c.in-Choice.f c.in-Choice.t _ _ _ c.in-Choice.is c.made_at-c.ensures c.made_at-f.ensures c.made_at-t.ensures in
    if_ok_stands c.choice.result _ _ _ o.read c.choice.ensures.made
