use Rattle.std.proofs.Common.{length, map}
use Rattle.lh_emit_source.specs.Firsts.{texts_along}
use Rattle.lh_emit_source.specs.Origins.{route_text}
use Rattle.lh_emit_source.proofs.Along.{forth-next}
use Rattle.lh_emit_source.proofs.origin.route_along.Goals as goal

pub loop-value-preserved : goal.loop-value-preserved
loop-value-preserved c =
    let steps = c.args.parts.now.steps.given.items in
    let r = forth-next (length steps) steps c.loop-value.way.items c.pop.new.self.items c.in-Some.value (map route_text c.loop-value.route) (map route_text c.push_step.new.route)
    (texts_along steps c.args.way.items) c.in-Some.ensures.items c.loop-value.invariant.within c.loop-value.invariant.texts c.in_ok-push_step.ensures in
    record { within = r.within; texts = r.texts }
