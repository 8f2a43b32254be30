use Rattle.std.proofs.Common.{◌≤◌, nat_eq, drop, length}
use Rattle.std.specs.HashMap as hash
use Rattle.lh_term.specs.Arena.{Grows}
use Rattle.lh_term.specs.Reach.{AreMade}
use Rattle.lh_cert_terms.specs.Made.{AreRebuilt}
use Rattle.lh_cert_terms.proofs.remade.all_anew.Given as goal

abbrev pub invariant-loop-k : goal.invariant-loop-k
invariant-loop-k l = record {
  within : l.k ≤ length l.made_of;
  grows : Grows l.fn.terms l.terms;
  rebuilt : AreRebuilt l.fn.terms l.terms (hash.get nat_eq l.made);
  made : AreMade (hash.get nat_eq l.made) (drop l.k l.made_of);
}

abbrev pub decreases-loop-k : goal.decreases-loop-k
decreases-loop-k l = l.k
