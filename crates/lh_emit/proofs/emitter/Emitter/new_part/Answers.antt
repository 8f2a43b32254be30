use Rattle.lh_emit.proofs.PartNeeds.{new-types, new-from, takes-new, takes-not, part-cause, part-no-memory}
use Rattle.lh_emit.proofs.SourceSteps.{route-steps}
use Rattle.lh_emit.proofs.emitter.Emitter.new_part.Goals as goal

pub returns-in_err-route : goal.returns-in_err-route
returns-in_err-route c = part-no-memory c.args.terms.now c.args.origin.now c.args.self.now c.args.key.part c.args.self.now c.from_residual.result c.from_residual.ensures.1

pub take_route-requires : goal.take_route-requires
take_route-requires c = record {
  room = c.requires.can.is.room;
  within = new-from c.args.terms.now c.args.origin.now c.args.self.now c.args.key.part c.requires.can;
  types = new-types c.args.terms.now c.args.origin.now c.args.self.now c.args.key.part c.in_ok-route.route c.requires.can c.requires.new
      (route-steps c.args.origin.now c.args.key.part c.in_ok-route.route c.in_ok-route.ensures);
}

pub returns-in_err-value : goal.returns-in_err-value
returns-in_err-value c =
    part-cause c.args.terms.now c.args.origin.now c.args.self.now c.args.key.part record { lines = c.take_route.new.lines; values = c.args.self.now.values; parts = c.args.self.now.parts }
    c.from_residual-in_err-value.result c.in_err-value.field-0.0
    c.from_residual-in_err-value.ensures.1
    (takes-not c.args.terms.now c.args.origin.now c.args.self.now c.args.key.part c.in_ok-route.route c.in_err-value.field-0.0 c.requires.new
    (route-steps c.args.origin.now c.args.key.part c.in_ok-route.route c.in_ok-route.ensures)
    c.in_err-value.ensures.cause)

pub returns : goal.returns
returns c =
    takes-new c.args.terms.now c.args.origin.now c.args.self.now c.args.key.part c.in_ok-route.route c.take_route.new.lines c.in_ok-value.value c.keep.new.self c.requires.new
    (route-steps c.args.origin.now c.args.key.part c.in_ok-route.route c.in_ok-route.ensures) c.in_ok-value.ensures.walks
    c.in_ok-keep.ensures
