use Rattle.lh_emit.proofs.ValuePlaces.{kept}
use Rattle.lh_emit.proofs.values.Values.keep.Goals as goal

pub returns : goal.returns
returns c = λ x. kept c.args.self.now.items.items c.make_room.new.items.items c.args.term.0 c.args.value c.in_ok-make_room.ensures.long c.in_ok-make_room.ensures.same x.0
