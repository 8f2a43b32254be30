use Rattle.lh_emit.proofs.Outer.{can-term, term-grows, term-needed, term-not}
use Rattle.lh_emit.proofs.emitter.Emitter.term.Goals as goal

pub take_term-requires : goal.take_term-requires
take_term-requires c = can-term c.args.terms.now c.args.origin.now c.args.self.now c.args.term c.requires

pub returns-clause-grows : goal.returns-clause-grows
returns-clause-grows c = term-grows c.args.terms.now c.args.origin.now c.args.self.now c.args.term c.take_term.new.terms c.take_term.new.self c.take_term.result c.take_term.ensures.taken

pub returns-clause-needed : goal.returns-clause-needed
returns-clause-needed c = term-needed c.args.terms.now c.args.origin.now c.args.self.now c.args.term c.take_term.new.terms c.take_term.new.self c.take_term.result c.take_term.ensures.taken

pub returns-clause-cause : goal.returns-clause-cause
returns-clause-cause c = term-not c.args.terms.now c.args.origin.now c.args.self.now c.args.term c.take_term.new.terms c.take_term.new.self c.take_term.result c.take_term.ensures.taken
