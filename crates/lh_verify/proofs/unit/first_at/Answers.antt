use Rattle.std.proofs.Common.{sym, ◌∙◌, arith}
use Rattle.std.proofs.lemmas.Grind.{common_steps}
use Rattle.lh_verify.proofs.FirstAt.{found-here, found-later}
use Rattle.lh_verify.proofs.unit.first_at.Goals as goal

pub returns-in-Some : goal.returns-in-Some
returns-in-Some c = found-here c.args.scope.now c.args.lacks c.args.places.now c.loop-k.k _ c.is_at-is_lacking.result c.in-Some.number _ c.loop-k-test.true c.is_at-is_lacking.ensures
    (sym c.in-Some.is ∙ c.in_ok-number.ensures) c.loop-k.invariant

pub loop-k-preserved : goal.loop-k-preserved
loop-k-preserved c = found-later c.args.scope.now c.args.lacks c.args.places.now c.loop-k.k _ c.is_at-is_lacking.result _ c.loop-k-test.true c.is_at-is_lacking.ensures
    (sym c.in_default.is ∙ c.in_ok-number.ensures) c.loop-k.invariant

pub bounds-wrong_phis-k : goal.bounds-wrong_phis-k
bounds-wrong_phis-k c = grind (arith, common_steps)

pub lowest-requires-clause-within : goal.lowest-requires-clause-within
lowest-requires-clause-within c = grind (arith, common_steps)

pub lowest-requires-clause-phi : goal.lowest-requires-clause-phi
lowest-requires-clause-phi c = grind (arith, common_steps)
