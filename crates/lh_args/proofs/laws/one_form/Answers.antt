use Rattle.lh_args.proofs.Forms.{one_form, one_self_test, no_file}
use Rattle.lh_args.proofs.laws.one_form.Goals as goal

pub returns-clause-on_file : goal.returns-clause-on_file
returns-clause-on_file c = one_form

pub returns-clause-self_test : goal.returns-clause-self_test
returns-clause-self_test c = one_self_test

pub returns-clause-apart : goal.returns-clause-apart
returns-clause-apart c = no_file
