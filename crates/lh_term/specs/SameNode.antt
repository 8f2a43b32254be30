-- Whether two nodes have one term.
use Rattle.std.specs.Prelude.{◌≡◌, Bool, true}
use Rattle.std.specs.Cmp.{IsEquivalence}
use Rattle.std.proofs.lemmas.Cmp.{on_equiv}
use Rattle.lh_term.specs.SameTerm.{same_term, same_term_equiv}
use Rattle.lh_term.specs.declared.term.TermNode.{TermNode}

abbrev pub same_node : TermNode → TermNode → Bool
same_node m n = same_term m.term n.term

pub same_node_equiv : IsEquivalence same_node
same_node_equiv = on_equiv (λ (n : TermNode). n.term) same_term_equiv
