use Rattle.std.proofs.Common.{List, nat_eq, refl, subst}
use Rattle.std.proofs.lemmas.Result.{on_ok_weaker}
use Rattle.lh_unit.specs.declared.inst.ValueId.{ValueId}
use Rattle.lh_region_def.specs.Rows as text
use Rattle.lh_region_walk.specs.Leaving.{EndsThere, PartsOf, Waits}
use Rattle.lh_region_walk.proofs.PlaceLeaves.{waited}
use Rattle.lh_region_walk.proofs.walk.Walk.wait.Goals as goal

pub returns-clause-ended : goal.returns-clause-ended
returns-clause-ended c =
    let r = c.args.region.now in let w = c.args.self.now in let q = c.end_there.new.self in let vs = c.args.signals.now in let ps = c.in_ok-parts.parts in
    let are = subst (λ (us : List ValueId). PartsOf r.parts.now.parts.items us ps) c.as_slice.ensures c.in_ok-parts.ensures in
    on_ok_weaker {P = EndsThere w c.args.at c.args.at.cond (text.waits c.args.to (nat_eq c.args.to r.head) ps c.args.timed) q} {Q = Waits r w c.args.at c.args.to c.args.timed vs q} c.end_there.result
    (λ x. waited r w q c.args.at c.args.to (nat_eq c.args.to r.head) c.args.timed vs ps refl are x)
    c.end_there.ensures.ended
