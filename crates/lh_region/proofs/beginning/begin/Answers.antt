use Rattle.lh_region.proofs.Begun.{begun-with, begins-joined}
use Rattle.lh_region.proofs.beginning.begin.Goals as goal

pub returns : goal.returns
returns c =
    let b = begun-with c.args.places.now.items c.push.new.self.items c.args.block c.args.edges _ c.in_ok-push.ensures c.new-place.ensures.block c.into_vec.ensures c.new-place.ensures.selectors
    c.new-place.ensures.known in
    record { place = b; joined = begins-joined c.args.places.now.items c.push.new.self.items c.args.block c.args.edges b }
