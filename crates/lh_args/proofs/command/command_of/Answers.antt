use Rattle.lh_args.specs.Forms.{HasNoForm}
use Rattle.lh_args.proofs.Forms.{if_none}
use Rattle.lh_args.proofs.command.command_of.Goals as goal

pub returns-in_err-on_file-clause-none : goal.returns-in_err-on_file-clause-none
returns-in_err-on_file-clause-none c =
    let none : HasNoForm c.args.words.now = record {
      on_file = rw c.as_slice-2.ensures at c.in_err-on_file.ensures.none;
      self_test = rw c.as_slice.ensures at c.in_default.ensures.none;
    } in
    if_none _ _ none
