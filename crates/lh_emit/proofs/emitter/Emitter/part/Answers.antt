use Rattle.lh_emit.proofs.Outer.{can-part, part-grows, part-needed, part-not}
use Rattle.lh_emit.proofs.emitter.Emitter.part.Goals as goal

pub take_part-requires : goal.take_part-requires
take_part-requires c = can-part c.args.terms.now c.args.origin.now c.args.self.now c.args.part.now c.requires

pub returns-clause-grows : goal.returns-clause-grows
returns-clause-grows c = part-grows c.args.terms.now c.args.origin.now c.args.self.now c.args.part.now c.take_part.new.self c.take_part.result c.take_part.ensures

pub returns-clause-needed : goal.returns-clause-needed
returns-clause-needed c = part-needed c.args.terms.now c.args.origin.now c.args.self.now c.args.part.now c.take_part.new.self c.take_part.result c.take_part.ensures

pub returns-clause-cause : goal.returns-clause-cause
returns-clause-cause c = part-not c.args.terms.now c.args.origin.now c.args.self.now c.args.part.now c.take_part.new.self c.take_part.result c.take_part.ensures
