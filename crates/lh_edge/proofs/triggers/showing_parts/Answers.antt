use Rattle.std.proofs.Common.{◌≡◌, ◌<◌, ◌-◌, length, arith}
use Rattle.lh_edge.proofs.Found.{id_get}
use Rattle.lh_edge.proofs.Order.{showing_turn, showing_end}
use Rattle.lh_edge.proofs.triggers.showing_parts.Goals as goal

pub add_showing-requires : goal.add_showing-requires
add_showing-requires c =
    let l : c.loop-k.k - 1 < length c.args.atoms.now = omega (arith, c.loop-k-test.true, c.loop-k.invariant.within) in
    id_get (length c.args.terms.now) c.args.atoms.now (c.loop-k.k - 1) (record { 0 = 0 }) l c.requires

pub loop-k-preserved : goal.loop-k-preserved
loop-k-preserved c = record {
  within = omega (arith, c.loop-k.invariant.within);
  so_far = showing_turn c.args.waited.now c.args.terms.now c.args.atoms.now c.loop-k.k (record { 0 = 0 }) c.loop-k.parts.items c.add_showing.new.parts.items (omega (arith, c.loop-k-test.true)) c.loop-k.invariant.within
      c.loop-k.invariant.so_far (c.in_ok-add_showing.ensures c.args.waited.now c.in_ok-cover.ensures);
}

pub returns : goal.returns
returns c =
    let z : c.loop-k.k ≡ 0 = omega (arith, c.loop-k-test.false) in
    showing_end c.args.waited.now c.args.terms.now c.args.atoms.now c.loop-k.k c.loop-k.parts.items z c.loop-k.invariant.so_far
