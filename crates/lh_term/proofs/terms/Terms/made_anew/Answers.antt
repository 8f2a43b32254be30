use Rattle.std.proofs.Common.{◌≡◌, ◌≤◌, length, nat_eq, arith}
use Rattle.std.specs.HashMap as hash
use Rattle.lh_term.proofs.Swaps.{grows_on, making_start, turn_in, turn_pairs, turn_swaps, turn_operands, turn_next, turn_last}
use Rattle.lh_term.proofs.terms.Terms.made_anew.Goals as goal

pub remade-requires-clause-is_in : goal.remade-requires-clause-is_in
remade-requires-clause-is_in c =
    turn_in c.args.self.now c.loop-k.self c.args.by.now (hash.get nat_eq c.loop-k.made) c.args.t c.args.made_of.now c.loop-k.k (record { 0 = 0 }) c.loop-k.invariant.making c.requires.made_of
    c.requires.pairs_in c.requires.swaps c.loop-k-test.true c.loop-k.invariant.within

pub remade-requires-clause-pairs_in : goal.remade-requires-clause-pairs_in
remade-requires-clause-pairs_in c =
    turn_pairs c.args.self.now c.loop-k.self c.args.by.now (hash.get nat_eq c.loop-k.made) c.args.t c.args.made_of.now c.loop-k.k (record { 0 = 0 }) c.loop-k.invariant.making c.requires.made_of
    c.requires.pairs_in c.requires.swaps c.loop-k-test.true c.loop-k.invariant.within

pub remade-requires-clause-swaps : goal.remade-requires-clause-swaps
remade-requires-clause-swaps c =
    turn_swaps c.args.self.now c.loop-k.self c.args.by.now (hash.get nat_eq c.loop-k.made) c.args.t c.args.made_of.now c.loop-k.k (record { 0 = 0 }) c.loop-k.invariant.making c.requires.made_of
    c.requires.pairs_in c.requires.swaps c.loop-k-test.true c.loop-k.invariant.within

pub remade-requires-clause-operands : goal.remade-requires-clause-operands
remade-requires-clause-operands c =
    turn_operands c.args.self.now c.loop-k.self c.args.by.now (hash.get nat_eq c.loop-k.made) c.args.t c.args.made_of.now c.loop-k.k (record { 0 = 0 }) c.loop-k.invariant.making c.requires.made_of
    c.requires.pairs_in c.requires.swaps c.loop-k-test.true c.loop-k.invariant.within

pub loop-k-preserved : goal.loop-k-preserved
loop-k-preserved c = record {
  within = omega (arith, c.loop-k.invariant.within);
  making = turn_next c.args.self.now c.loop-k.self c.args.by.now (hash.get nat_eq c.loop-k.made) c.args.t c.args.made_of.now c.loop-k.k (record { 0 = 0 }) c.loop-k.invariant.making c.requires.made_of
      c.requires.pairs_in c.requires.swaps c.loop-k-test.true c.loop-k.invariant.within
      c.remade.new.self c.in_ok-x.x (hash.get nat_eq c.insert.new.self) c.in_ok-x.ensures.kept c.in_ok-x.ensures.made c.in_ok-insert.ensures.updates.0;
}

pub made_at-requires : goal.made_at-requires
made_at-requires c =
    let z : c.loop-k.k ≡ 0 = omega (arith, c.loop-k-test.false) in
    (turn_last c.args.self.now c.loop-k.self c.args.by.now (hash.get nat_eq c.loop-k.made) c.args.t c.args.made_of.now c.loop-k.k c.loop-k.invariant.making c.requires.made_of z).there

pub returns-clause-made : goal.returns-clause-made
returns-clause-made c =
    let z : c.loop-k.k ≡ 0 = omega (arith, c.loop-k-test.false) in
    (turn_last c.args.self.now c.loop-k.self c.args.by.now (hash.get nat_eq c.loop-k.made) c.args.t c.args.made_of.now c.loop-k.k c.loop-k.invariant.making c.requires.made_of z).stands
    c.made_at.result c.made_at.ensures

pub loop-k-init : goal.loop-k-init
loop-k-init c =
    let l : length c.args.made_of.now ≤ length c.args.made_of.now = omega arith in
    record { within = l; making = making_start c.args.self.now c.args.by.now (hash.get nat_eq c.new-made.result) c.args.made_of.now (length c.args.made_of.now) l }

pub returns-in_err-x-clause-kept : goal.returns-in_err-x-clause-kept
returns-in_err-x-clause-kept c = grows_on c.args.self.now c.loop-k.self c.remade.new.self c.loop-k.invariant.making.grows c.in_err-x.ensures.kept

pub returns-in_err-insert-clause-kept : goal.returns-in_err-insert-clause-kept
returns-in_err-insert-clause-kept c = grows_on c.args.self.now c.loop-k.self c.remade.new.self c.loop-k.invariant.making.grows c.in_ok-x.ensures.kept

pub returns-clause-kept : goal.returns-clause-kept
returns-clause-kept c = c.loop-k.invariant.making.grows
