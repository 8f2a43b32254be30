use Rattle.lh_term.proofs.Swaps.{grows_on}
use Rattle.lh_emit.proofs.Outer.{can-now, now-needed, now-not}
use Rattle.lh_emit.proofs.emitter.Emitter.now.Goals as goal

pub term-requires : goal.term-requires
term-requires c = can-now c.args.terms.now c.now.new.self c.args.origin.now c.args.self.now c.args.part.now c.in_ok-term.term c.now.ensures.kept c.are_apart.ensures c.in_ok-term.ensures.made
    c.requires

pub returns-clause-needed : goal.returns-clause-needed
returns-clause-needed c =
    now-needed c.args.terms.now c.now.new.self c.args.origin.now c.args.self.now c.args.part.now c.in_ok-term.term c.now.ensures.kept c.are_apart.ensures c.in_ok-term.ensures.made c.term.new.terms
    c.term.new.self c.term.result c.term.ensures.needed

pub returns-clause-cause : goal.returns-clause-cause
returns-clause-cause c =
    now-not c.args.terms.now c.now.new.self c.args.origin.now c.args.self.now c.args.part.now c.in_ok-term.term c.now.ensures.kept c.are_apart.ensures c.in_ok-term.ensures.made c.term.new.terms
    c.term.new.self c.term.result c.term.ensures.cause

pub returns-in_err-term-clause-kept : goal.returns-in_err-term-clause-kept
returns-in_err-term-clause-kept c = c.now.ensures.kept

pub returns-clause-kept : goal.returns-clause-kept
returns-clause-kept c = grows_on c.args.terms.now c.now.new.self c.term.new.terms c.now.ensures.kept c.term.ensures.kept
