use Rattle.std.proofs.Common.{◌≡◌, ◌∙◌, ◌<◌, ◌-◌, nat_eq, length, arith}
use Rattle.std.specs.HashSet as hash
use Rattle.lh_term.specs.Arena.{trees, trees_at}
use Rattle.lh_edge.specs.Valuations.{holds}
use Rattle.lh_edge.specs.Reached.{joined_by}
use Rattle.lh_edge.specs.Steps.{numbered}
use Rattle.lh_edge.proofs.Found.{id_get}
use Rattle.lh_edge.proofs.Told.{tells_next, tells_more, tells_one}
use Rattle.lh_edge.proofs.table.holds_at.Goals as goal

pub value_of-value-requires-clause-is_in : goal.value_of-value-requires-clause-is_in
value_of-value-requires-clause-is_in c =
    let l : c.loop-k.k - 1 < length c.args.joined.now = omega (arith, c.loop-k-test.true, c.loop-k.invariant.within) in
    id_get (length c.args.terms.now) c.args.joined.now (c.loop-k.k - 1) (record { 0 = 0 }) l c.requires.joined.are_in

pub value_of-value-requires-clause-tells : goal.value_of-value-requires-clause-tells
value_of-value-requires-clause-tells c =
    tells_next c.args.terms.now (holds (numbered (trees_at c.args.terms.now c.args.atoms.now) c.args.valuation)) (joined_by (trees c.args.terms.now)) (hash.contains nat_eq c.loop-k.values) c.args.joined.now c.loop-k.k
    (record { 0 = 0 }) c.requires.joined.go_on c.loop-k-test.true c.loop-k.invariant.within c.loop-k.invariant.told

pub loop-k-preserved : goal.loop-k-preserved
loop-k-preserved c = record {
  within = omega (arith, c.loop-k.invariant.within);
  told = tells_more c.args.terms.now (holds (numbered (trees_at c.args.terms.now c.args.atoms.now) c.args.valuation)) (hash.contains nat_eq c.loop-k.values) (hash.contains nat_eq c.tell.new.noted)
      c.args.joined.now c.loop-k.k (record { 0 = 0 }) c.value_of-value.result c.loop-k-test.true c.loop-k.invariant.within c.value_of-value.ensures c.in_ok-tell.ensures c.loop-k.invariant.told;
}

pub returns : goal.returns
returns c =
    let z : c.loop-k.k ≡ 0 = omega (arith, c.loop-k-test.false) in
    c.contains.ensures
    ∙ tells_one c.args.terms.now (holds (numbered (trees_at c.args.terms.now c.args.atoms.now) c.args.valuation)) (hash.contains nat_eq c.loop-k.values) c.args.joined.now c.args.edge c.loop-k.k z
    c.loop-k.invariant.told c.requires.joined.there.0
