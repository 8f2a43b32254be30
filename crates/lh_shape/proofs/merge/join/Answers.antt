use Rattle.lh_term.proofs.Swaps.{in_grown, grows_on}
use Rattle.lh_region_joins.proofs.Conditions.{condition-grown}
use Rattle.lh_shape.proofs.Merged.{join-chooses, join-is}
use Rattle.lh_shape.proofs.merge.join.Goals as goal

pub choice-requires-clause-fits : goal.choice-requires-clause-fits
choice-requires-clause-fits c =
    join-chooses c.args.terms.now c.selector.new.terms c.args.first.now c.args.second.now c.in_ok-beyond.beyond c.selector.ensures.kept c.requires.first_fits c.requires.second_fits c.requires.alike
    c.in_ok-beyond.ensures.made

pub or-requires-clause-a_holds : goal.or-requires-clause-a_holds
or-requires-clause-a_holds c =
    condition-grown c.args.terms.now c.choice.new.self c.args.first.now.cond (grows_on c.args.terms.now c.selector.new.terms c.choice.new.self c.selector.ensures.kept c.choice.ensures.kept)
    c.requires.first_fits.cond

pub or-requires-clause-b_holds : goal.or-requires-clause-b_holds
or-requires-clause-b_holds c =
    condition-grown c.args.terms.now c.choice.new.self c.args.second.now.cond (grows_on c.args.terms.now c.selector.new.terms c.choice.new.self c.selector.ensures.kept c.choice.ensures.kept)
    c.requires.second_fits.cond

pub returns-clause-is : goal.returns-clause-is
returns-clause-is c =
    join-is c.args.terms.now c.selector.new.terms c.choice.new.self c.or.new.terms c.args.first.now c.args.second.now c.in_ok-beyond.beyond c.in_ok-value.value c.in_ok-cond.cond
    c.selector.ensures.kept
    c.choice.ensures.kept c.or.ensures.kept
    c.requires.first_fits c.requires.second_fits c.in_ok-beyond.ensures.made c.in_ok-value.ensures.made c.in_ok-cond.ensures.made

pub choice-requires-clause-c_in : goal.choice-requires-clause-c_in
choice-requires-clause-c_in c = c.in_ok-beyond.ensures.made.is_in

pub choice-requires-clause-f_in : goal.choice-requires-clause-f_in
choice-requires-clause-f_in c = in_grown c.args.terms.now c.selector.new.terms c.selector.ensures.kept c.args.first.now.value c.requires.first_fits.value_in

pub choice-requires-clause-t_in : goal.choice-requires-clause-t_in
choice-requires-clause-t_in c = in_grown c.args.terms.now c.selector.new.terms c.selector.ensures.kept c.args.second.now.value c.requires.second_fits.value_in

pub returns-in_err-beyond-clause-kept : goal.returns-in_err-beyond-clause-kept
returns-in_err-beyond-clause-kept c = c.selector.ensures.kept

pub returns-in_err-value-clause-kept : goal.returns-in_err-value-clause-kept
returns-in_err-value-clause-kept c = grows_on c.args.terms.now c.selector.new.terms c.choice.new.self c.selector.ensures.kept c.choice.ensures.kept

pub returns-in_err-cond-clause-kept : goal.returns-in_err-cond-clause-kept
returns-in_err-cond-clause-kept c =
    grows_on c.args.terms.now c.choice.new.self c.or.new.terms (grows_on c.args.terms.now c.selector.new.terms c.choice.new.self c.selector.ensures.kept c.choice.ensures.kept) c.or.ensures.kept

pub returns-clause-kept : goal.returns-clause-kept
returns-clause-kept c =
    grows_on c.args.terms.now c.choice.new.self c.or.new.terms (grows_on c.args.terms.now c.selector.new.terms c.choice.new.self c.selector.ensures.kept c.choice.ensures.kept) c.or.ensures.kept
