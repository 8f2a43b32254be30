use Rattle.std.proofs.Common.{sym, ◌∙◌}
use Rattle.lh_verify.proofs.Places.{lowest-parts, or-some, or-none}
use Rattle.lh_verify.proofs.place.lowest.Goals as goal

pub returns-in-Some : goal.returns-in-Some
returns-in-Some c = or-some _ _ _ (sym c.in_ok-number.ensures ∙ c.in-Some.is) ∙ sym (lowest-parts c.args.scope.now c.args.spot c.args.lacks c.inst-inst.result.now c.inst-inst.ensures.inst)

pub returns-in-None : goal.returns-in-None
returns-in-None c = or-none _ _ _ (sym c.in_ok-number.ensures ∙ c.in-None.is) c.place_fault.ensures
    ∙ sym (lowest-parts c.args.scope.now c.args.spot c.args.lacks c.inst-inst.result.now c.inst-inst.ensures.inst)
