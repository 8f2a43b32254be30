use Rattle.lh_term.proofs.Swaps.{grows_on, in_grown}
use Rattle.lh_edge.proofs.Answered.{many, all_bit, answers}
use Rattle.lh_edge.proofs.triggers.edges.Goals as goal

pub returns-in_default-clause-answers : goal.returns-in_default-clause-answers
returns-in_default-clause-answers c =
    many c.args.terms.now c.edge_part.new.terms c.atoms_of.new.terms c.in_ok-edge.ensures.kept c.in_ok-atoms.ensures.kept c.args.cond c.in_ok-edge.edge c.requires.is_in c.in_ok-edge.ensures.made c.in_ok-atoms.field-0 c.in_default.is c.in_ok-atoms.ensures.found

pub shown_triggers-requires-clause-cond_in : goal.shown_triggers-requires-clause-cond_in
shown_triggers-requires-clause-cond_in c = in_grown c.args.terms.now c.atoms_of.new.terms (grows_on c.args.terms.now c.edge_part.new.terms c.atoms_of.new.terms c.in_ok-edge.ensures.kept c.in_ok-atoms.ensures.kept) c.args.cond c.requires.is_in

pub shown_triggers-requires-clause-edge_in : goal.shown_triggers-requires-clause-edge_in
shown_triggers-requires-clause-edge_in c = in_grown c.edge_part.new.terms c.atoms_of.new.terms c.in_ok-atoms.ensures.kept c.in_ok-edge.edge c.in_ok-edge.ensures.made.is_in

pub shown_triggers-requires-clause-bits : goal.shown_triggers-requires-clause-bits
shown_triggers-requires-clause-bits c =
    all_bit c.args.terms.now c.edge_part.new.terms c.atoms_of.new.terms c.in_ok-edge.ensures.kept c.in_ok-atoms.ensures.kept c.args.cond c.in_ok-edge.edge c.requires.is_in c.in_ok-edge.ensures.made
    c.in_ok-atoms.field-0 c.in-Some.atoms c.in-Some.is c.in_ok-atoms.ensures.found c.args.waited.now c.deref.result.now c.in_ok-parts.parts.items c.deref.ensures.value
    c.in_ok-parts.ensures c.deref-3.result.now c.deref-3.ensures.value

pub returns-clause-answers : goal.returns-clause-answers
returns-clause-answers c =
    answers c.args.terms.now c.edge_part.new.terms c.atoms_of.new.terms c.in_ok-edge.ensures.kept c.in_ok-atoms.ensures.kept c.args.cond c.in_ok-edge.edge c.requires.is_in c.in_ok-edge.ensures.made
    c.in_ok-atoms.field-0 c.in-Some.atoms c.in-Some.is c.in_ok-atoms.ensures.found c.args.waited.now c.deref.result.now c.in_ok-parts.parts.items c.deref.ensures.value
    c.in_ok-parts.ensures c.shown_triggers.new.terms c.shown_triggers.result c.deref-2.result.now c.deref-3.result.now c.deref-2.ensures.value c.deref-3.ensures.value c.shown_triggers.ensures.answers

-- the terms that grew at each end
pub returns-in_err-atoms-clause-kept : goal.returns-in_err-atoms-clause-kept
returns-in_err-atoms-clause-kept c = grows_on c.args.terms.now c.edge_part.new.terms c.atoms_of.new.terms c.in_ok-edge.ensures.kept c.in_err-atoms.ensures.kept

pub returns-in_default-clause-kept : goal.returns-in_default-clause-kept
returns-in_default-clause-kept c = grows_on c.args.terms.now c.edge_part.new.terms c.atoms_of.new.terms c.in_ok-edge.ensures.kept c.in_ok-atoms.ensures.kept

pub returns-in_err-parts-clause-kept : goal.returns-in_err-parts-clause-kept
returns-in_err-parts-clause-kept c = grows_on c.args.terms.now c.edge_part.new.terms c.atoms_of.new.terms c.in_ok-edge.ensures.kept c.in_ok-atoms.ensures.kept

pub returns-clause-kept : goal.returns-clause-kept
returns-clause-kept c =
    grows_on c.args.terms.now c.atoms_of.new.terms c.shown_triggers.new.terms
    (grows_on c.args.terms.now c.edge_part.new.terms c.atoms_of.new.terms c.in_ok-edge.ensures.kept c.in_ok-atoms.ensures.kept) c.shown_triggers.ensures.kept
