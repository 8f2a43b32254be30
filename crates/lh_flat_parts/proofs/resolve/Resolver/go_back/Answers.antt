use Rattle.std.proofs.Common.{◌∙◌}
use Rattle.lh_flat_parts.proofs.StepPaths.{Walking-next}
use Rattle.lh_flat_parts.proofs.resolve.Resolver.go_back.Goals as goal

pub loop-next-smaller : goal.loop-next-smaller
loop-next-smaller c =
    let old = c.args.self.now in let now = c.loop-next.self in let i = c.loop-next.invariant in
    (Walking-next old.steps.now old.met.items c.args.from.0 now.steps.now now.met.items now.way.items c.loop-next.value c.in-Some.next c.note.new.self.met.items c.note.new.self.way.items
    c.requires.in_place.within c.requires.met i.steps i.is_in i.way c.in-Some.ensures c.note.ensures.met c.in_ok-note.ensures.way).fewer

pub loop-next-preserved : goal.loop-next-preserved
loop-next-preserved c =
    let old = c.args.self.now in let now = c.loop-next.self in let i = c.loop-next.invariant in
    let w = Walking-next old.steps.now old.met.items c.args.from.0 now.steps.now now.met.items now.way.items c.loop-next.value c.in-Some.next c.note.new.self.met.items c.note.new.self.way.items
    c.requires.in_place.within c.requires.met i.steps i.is_in i.way c.in-Some.ensures c.note.ensures.met c.in_ok-note.ensures.way in
    record { steps = c.note.ensures.steps ∙ i.steps; parts = c.note.ensures.parts ∙ i.parts; is_in = w.is_in; way = w.on_way }
