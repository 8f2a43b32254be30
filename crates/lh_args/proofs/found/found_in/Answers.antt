use Rattle.std.proofs.Common.{◌<◌, length, arith}
use Rattle.std.proofs.lemmas.Bool.Decides.{nat_tests}
use Rattle.lh_args.proofs.Forms.{if_none}
use Rattle.lh_args.proofs.OptionsFound.{no_option, given_twice}
use Rattle.lh_args.proofs.found.found_in.Goals as goal

pub returns-in_err-setting-clause-none : goal.returns-in_err-setting-clause-none
returns-in_err-setting-clause-none c =
    let some : 0 < length c.loop-rest.rest.now = grind (arith, nat_tests, c.loop-rest-test.ensures) in
    if_none _ _ (no_option _ _ _ c.loop-rest.invariant some c.in_err-setting.ensures.none)

pub returns-in_err-found-clause-none : goal.returns-in_err-found-clause-none
returns-in_err-found-clause-none c = if_none _ _ (given_twice _ _ _ _ _ c.loop-rest.invariant c.in_ok-setting.ensures.some c.in_err-found.ensures.none)
