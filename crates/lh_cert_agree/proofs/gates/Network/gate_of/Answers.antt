use Rattle.std.proofs.Common.{List, nat_eq, sym, ap, ◌∙◌, subst}
use Rattle.std.specs.HashMap as hash
use Rattle.lh_term.specs.declared.term.TermId.{TermId}
use Rattle.lh_term.specs.Arena.{trees_at}
use Rattle.lh_edge.specs.Valuations.{connected}
use Rattle.lh_edge.specs.Steps.{values_at}
use Rattle.lh_cert_agree.specs.Gates.{ArePlaced, placed_bit}
use Rattle.lh_cert_agree.proofs.Gating.{operands_placed, choice_placed, connective_gate, choice_gate}
use Rattle.lh_cert_agree.proofs.gates.Network.gate_of.Goals as goal

pub connective-requires : goal.connective-requires
connective-requires c =
    subst (λ (xs : List TermId). ArePlaced (hash.get nat_eq c.args.self.now.places) xs) (sym c.as_slice.ensures)
    (operands_placed c.args.terms.now (trees_at c.args.terms.now c.args.atoms.now) c.args.self.now.gates.items (hash.get nat_eq c.args.self.now.places) c.requires.gates c.args.x _ c.view.ensures.term
    c.view.ensures.shown c.requires.operands (sym c.is_atom.ensures ∙ c.if-is_atom.false) c.in-Op.op c.in-Op.args c.in-Op.is)

pub choice-requires : goal.choice-requires
choice-requires c =
    choice_placed c.args.terms.now (trees_at c.args.terms.now c.args.atoms.now) c.args.self.now.gates.items (hash.get nat_eq c.args.self.now.places) c.requires.gates c.args.x _ c.view.ensures.term
    c.view.ensures.shown c.requires.operands (sym c.is_atom.ensures ∙ c.if-is_atom.false) c.in-Choice.c c.in-Choice.f c.in-Choice.t c.in-Choice.is

pub returns-in-Op : goal.returns-in-Op
returns-in-Op c = λ n.
    c.connective.ensures n
    ∙ ap (λ xs. connected c.in-Op.op (values_at (placed_bit n c.args.self.now.gates.items (hash.get nat_eq c.args.self.now.places)) xs)) c.as_slice.ensures
    ∙ connective_gate c.args.terms.now (trees_at c.args.terms.now c.args.atoms.now) c.args.self.now.gates.items (hash.get nat_eq c.args.self.now.places) c.requires.gates c.args.x _ c.view.ensures.term
    c.view.ensures.shown c.requires.operands (sym c.is_atom.ensures ∙ c.if-is_atom.false) c.in-Op.op c.in-Op.args c.in-Op.is n

pub returns-in-Choice : goal.returns-in-Choice
returns-in-Choice c = λ n.
    c.choice.ensures n
    ∙ choice_gate c.args.terms.now (trees_at c.args.terms.now c.args.atoms.now) c.args.self.now.gates.items (hash.get nat_eq c.args.self.now.places) c.requires.gates c.args.x _ c.view.ensures.term
    c.view.ensures.shown c.requires.operands (sym c.is_atom.ensures ∙ c.if-is_atom.false) c.in-Choice.c c.in-Choice.f c.in-Choice.t c.in-Choice.is n
