use Rattle.std.proofs.Common.{◌≤◌, nat_eq, drop, length}
use Rattle.std.specs.HashMap as hash
use Rattle.lh_term.specs.Arena.{trees_at}
use Rattle.lh_cert_agree.specs.Gates.{AreGates, ArePlaced}
use Rattle.lh_cert_agree.proofs.gates.Network.new.Given as goal

abbrev pub invariant-loop-k : goal.invariant-loop-k
invariant-loop-k l = record {
  within : l.k ≤ length l.joined;
  gates : AreGates l.terms (trees_at l.terms l.atoms) l.network.gates.items (hash.get nat_eq l.network.places);
  placed : ArePlaced (hash.get nat_eq l.network.places) (drop l.k l.joined);
}

abbrev pub decreases-loop-k : goal.decreases-loop-k
decreases-loop-k l = l.k
