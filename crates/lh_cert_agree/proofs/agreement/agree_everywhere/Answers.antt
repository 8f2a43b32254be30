use Rattle.std.proofs.Common.{List, refl, sym, subst, nat_eq}
use Rattle.std.specs.HashMap as hash
use Rattle.std.specs.Option.{is_some}
use Rattle.lh_term.proofs.TermWalks.{pass_on}
use Rattle.lh_term.specs.Arena.{tree_at, trees, trees_at}
use Rattle.lh_edge.proofs.Walks.{if_ok}
use Rattle.lh_cert_agree.specs.Gates.{AreGates}
use Rattle.lh_cert_agree.specs.declared.gates.Gate.{Gate}
use Rattle.lh_cert_agree.proofs.Everywhere.{by_gates}
use Rattle.lh_cert_agree.proofs.agreement.agree_everywhere.Goals as goal

pub place_of-a-requires : goal.place_of-a-requires
place_of-a-requires c =
    pass_on (λ i. is_some (hash.get nat_eq c.in_ok-network.network.places i)) c.args.joined.now c.args.a.0 c.in_ok-network.ensures.placed c.requires.joined.there.0

pub place_of-b-requires : goal.place_of-b-requires
place_of-b-requires c =
    pass_on (λ i. is_some (hash.get nat_eq c.in_ok-network.network.places i)) c.args.joined.now c.args.b.0 c.in_ok-network.ensures.placed c.requires.joined.there.1.0

pub returns : goal.returns
returns c =
    if_ok c.are_same.result (by_gates c.args.terms.now (tree_at (trees c.args.terms.now) c.args.a) (tree_at (trees c.args.terms.now) c.args.b) c.args.atoms.now c.args.a c.args.b refl refl c.requires.atoms
    c.deref.result.now (hash.get nat_eq c.in_ok-network.network.places)
    (subst (λ (gs : List Gate). AreGates c.args.terms.now (trees_at c.args.terms.now c.args.atoms.now) gs (hash.get nat_eq c.in_ok-network.network.places)) (sym c.deref.ensures.value) c.in_ok-network.ensures.gates)
    c.place_of-a.result c.place_of-b.result c.place_of-a.ensures c.place_of-b.ensures
    c.blocks-2.result c.blocks-2.ensures) c.are_same.ensures
