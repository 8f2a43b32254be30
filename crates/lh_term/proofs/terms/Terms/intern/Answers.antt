use Rattle.lh_term.proofs.Arenas.{keeps_at, stands_at}
use Rattle.lh_term.proofs.terms.Terms.intern.Goals as goal

pub invariant_of-self-2 : goal.invariant_of-self-2
invariant_of-self-2 c = keeps_at _ _ _ c.args.node c.self.view_is c.requires.below c.requires.typed c.self.invariant c.insert_full.result c.insert_full.ensures.keys c.insert_full.ensures.err

pub returns-clause-made : goal.returns-clause-made
returns-clause-made c = stands_at _ _ _ c.args.node c.self.view_is c.requires.below c.requires.typed c.self.invariant c.insert_full.result c.insert_full.ensures.keys c.insert_full.ensures.err
    (record { 0 = c.in_ok-i.i }) c.in_ok-i.ensures.stored
