use Rattle.std.proofs.Common.{List, nat_eq, subst}
use Rattle.std.specs.HashSet as hash
use Rattle.lh_term.specs.declared.term.TermId.{TermId}
use Rattle.lh_edge.specs.Atoms.{contains_past}
use Rattle.lh_edge.specs.Reached.{TellsPassed}
use Rattle.lh_edge.proofs.Walks.{if_ok}
use Rattle.lh_edge.proofs.Told.{tells_those}
use Rattle.lh_edge.proofs.pasts.pasts_of.Goals as goal

pub returns : goal.returns
returns c =
    if_ok c.pasts_among.result (λ pasts t.
    tells_those c.args.terms.now contains_past (hash.contains nat_eq pasts) c.in_ok-made_of.made_of.items c.args.xs.now
    (subst (λ (ids : List TermId). TellsPassed c.args.terms.now contains_past (hash.contains nat_eq pasts) ids) c.deref.ensures.value t) c.in_ok-made_of.ensures.there) c.pasts_among.ensures
