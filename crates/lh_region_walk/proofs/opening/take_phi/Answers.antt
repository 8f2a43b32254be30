use Rattle.lh_region_places.specs.Asked.{IsWithAt}
use Rattle.lh_region.specs.Gives.{GivesTerm}
use Rattle.lh_region_walk.specs.Merges.{TakesPhi}
use Rattle.lh_region_walk.proofs.Answered.{ok-both}
use Rattle.lh_region_walk.proofs.PhiChoices.{phi-merges, phi-within, takes-phi}
use Rattle.lh_region_walk.proofs.opening.take_phi.Goals as goal

pub phi_at-requires-clause-is_in : goal.phi_at-requires-clause-is_in
phi_at-requires-clause-is_in c = phi-within c.args.terms.now c.args.places.now.items c.args.at c.args.gives.0 c.args.operands.now c.requires

pub phi_at-requires-clause-merge : goal.phi_at-requires-clause-merge
phi_at-requires-clause-merge c = phi-merges c.args.terms.now c.args.places.now.items c.args.at c.args.gives.0 c.args.operands.now c.requires

pub returns-clause-taken : goal.returns-clause-taken
returns-clause-taken c =
    let ns = c.args.terms.now in let ms = c.phi_at.new.terms in let ps = c.args.places.now.items in let qs = c.phi_at.new.places.items in
    let rs = c.give.new.places.items in let m = c.in_ok-merged.merged in
    ok-both c.give.result (IsWithAt qs c.args.at c.args.gives.0 m rs) (GivesTerm qs c.args.at c.args.gives.0 m rs) (TakesPhi ns ps c.args.at c.args.gives.0 c.args.operands.now ms rs)
    (takes-phi ns ms ps qs rs c.args.at c.args.gives.0 c.args.operands.now m c.phi_at.ensures.kept c.in_ok-merged.ensures.same c.in_ok-merged.ensures.still c.in_ok-merged.ensures.made)
    c.give.ensures.with_term c.give.ensures.gives

pub returns-in_err-merged-clause-kept : goal.returns-in_err-merged-clause-kept
returns-in_err-merged-clause-kept c = c.phi_at.ensures.kept

pub returns-clause-kept : goal.returns-clause-kept
returns-clause-kept c = c.phi_at.ensures.kept
