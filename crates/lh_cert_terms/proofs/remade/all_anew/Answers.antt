use Rattle.std.proofs.Common.{◌≡◌, nat_eq, arith}
use Rattle.std.specs.HashMap as hash
use Rattle.lh_term.proofs.Swaps.{grows_on}
use Rattle.lh_cert_terms.proofs.Remaking.{rebuilt_here, turn_in, turn_operands, turn_rebuilt, turn_made, made_all}
use Rattle.lh_cert_terms.proofs.remade.all_anew.Goals as goal

pub remade-requires-clause-is_in : goal.remade-requires-clause-is_in
remade-requires-clause-is_in c = turn_in c.args.terms.now c.loop-k.terms c.loop-k.invariant.grows (hash.get nat_eq c.loop-k.made) c.loop-k.invariant.rebuilt c.args._roots.now c.args.made_of.now c.requires c.loop-k.k (record { 0 = 0 }) c.loop-k-test.true c.loop-k.invariant.within

pub remade-requires-clause-rebuilt : goal.remade-requires-clause-rebuilt
remade-requires-clause-rebuilt c = rebuilt_here c.args.terms.now c.loop-k.terms c.loop-k.invariant.grows (hash.get nat_eq c.loop-k.made) c.loop-k.invariant.rebuilt

pub remade-requires-clause-operands : goal.remade-requires-clause-operands
remade-requires-clause-operands c = turn_operands c.args.terms.now c.loop-k.terms c.loop-k.invariant.grows (hash.get nat_eq c.loop-k.made) c.loop-k.invariant.rebuilt c.args._roots.now c.args.made_of.now c.requires c.loop-k.k (record { 0 = 0 }) c.loop-k-test.true c.loop-k.invariant.within c.loop-k.invariant.made

pub loop-k-preserved : goal.loop-k-preserved
loop-k-preserved c = record {
  within = omega (arith, c.loop-k.invariant.within);
  grows = grows_on c.args.terms.now c.loop-k.terms c.remade.new.terms c.loop-k.invariant.grows c.in_ok-x.ensures.kept;
  rebuilt = turn_rebuilt c.args.terms.now c.loop-k.terms c.loop-k.invariant.grows (hash.get nat_eq c.loop-k.made) c.loop-k.invariant.rebuilt c.args._roots.now c.args.made_of.now c.requires c.loop-k.k (record { 0 = 0 }) c.loop-k-test.true c.loop-k.invariant.within c.remade.new.terms c.in_ok-x.x (hash.get nat_eq c.insert.new.self) c.in_ok-x.ensures.kept c.in_ok-x.ensures.made c.in_ok-insert.ensures.updates.0;
  made = turn_made c.args.terms.now c.loop-k.terms c.loop-k.invariant.grows (hash.get nat_eq c.loop-k.made) c.loop-k.invariant.rebuilt c.args._roots.now c.args.made_of.now c.requires c.loop-k.k (record { 0 = 0 }) c.loop-k-test.true c.loop-k.invariant.within c.in_ok-x.x (hash.get nat_eq c.insert.new.self) c.in_ok-insert.ensures.updates.0 c.loop-k.invariant.made;
}

pub returns-clause-made : goal.returns-clause-made
returns-clause-made c =
    let z : c.loop-k.k ≡ 0 = omega (arith, c.loop-k-test.false) in
    made_all c.args.terms.now c.args._roots.now c.args.made_of.now (hash.get nat_eq c.loop-k.made) c.loop-k.k c.requires z c.loop-k.invariant.made
