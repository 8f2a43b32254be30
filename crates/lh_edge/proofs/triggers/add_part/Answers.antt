use Rattle.std.proofs.Common.{ap, ◌∙◌}
use Rattle.lh_edge.specs.Steps.{place_in}
use Rattle.lh_edge.proofs.Made.{put_in_place}
use Rattle.lh_edge.proofs.triggers.add_part.Goals as goal

pub returns : goal.returns
returns c = put_in_place c.put_at.result c.args.parts.now.items c.put_at.new.items.items c.args.part c.place_of-place.result
    (c.place_of-place.ensures.place ∙ ap (λ ps. place_in ps c.args.part) c.deref.ensures.value) c.put_at.ensures
