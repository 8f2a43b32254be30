use Rattle.std.proofs.Common.{◌<◌, ◌-◌, nat_eq, length, arith}
use Rattle.std.specs.HashMap as hash
use Rattle.lh_edge.proofs.Found.{id_get}
use Rattle.lh_cert_agree.proofs.Gating.{operands_next, placed_next}
use Rattle.lh_cert_agree.proofs.gates.Network.new.Goals as goal

pub add-requires-clause-is_in : goal.add-requires-clause-is_in
add-requires-clause-is_in c =
    let l : c.loop-k.k - 1 < length c.args.joined.now = omega (arith, c.loop-k-test.true, c.loop-k.invariant.within) in
    id_get (length c.args.terms.now) c.args.joined.now (c.loop-k.k - 1) (record { 0 = 0 }) l c.requires.joined_in

pub add-requires-clause-operands : goal.add-requires-clause-operands
add-requires-clause-operands c =
    operands_next c.args.terms.now (hash.get nat_eq c.loop-k.network.places) c.args.joined.now c.loop-k.k (record { 0 = 0 }) c.requires.go_on c.loop-k-test.true c.loop-k.invariant.within
    c.loop-k.invariant.placed

pub loop-k-preserved : goal.loop-k-preserved
loop-k-preserved c = record {
  within = omega (arith, c.loop-k.invariant.within);
  gates = c.in_ok-add.ensures.gates;
  placed = placed_next (hash.get nat_eq c.loop-k.network.places) (hash.get nat_eq c.add.new.self.places) c.args.joined.now c.loop-k.k (record { 0 = 0 }) (length c.loop-k.network.gates.items)
      c.loop-k-test.true c.loop-k.invariant.within c.in_ok-add.ensures.placed c.loop-k.invariant.placed;
}
