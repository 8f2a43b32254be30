use Rattle.std.proofs.Common.{◌≡◌, length, nat_eq, sym, ◌∙◌, arith}
use Rattle.std.specs.HashSet as hash
use Rattle.lh_term.proofs.Swaps.{grows_on}
use Rattle.lh_edge.proofs.Ids.{first_left, conjoin_start, conjoin_skip, conjoin_next, conjoin_end}
use Rattle.lh_edge.proofs.pasts.conjoined.Goals as goal

pub both-requires-clause-y_bit : goal.both-requires-clause-y_bit
both-requires-clause-y_bit c =
    let f = first_left _ _ _ _ c.loop-left.left.now _ (record { 0 = 0 }) c.loop-left.invariant c.in-len1-up.len_at_least in
    f.bit

pub loop-left-preserved-in_ok-all-2 : goal.loop-left-preserved-in_ok-all-2
loop-left-preserved-in_ok-all-2 c =
    conjoin_next _ _ _ _ _ c.loop-left.left.now _ _ (record { 0 = 0 }) c.loop-left.invariant c.in-len1-up.len_at_least (sym c.contains.ensures ∙ c.if-contains.true) c.in_ok-all-2.ensures.kept
    c.in_ok-all-2.ensures.made

pub loop-left-preserved : goal.loop-left-preserved
loop-left-preserved c =
    conjoin_skip _ _ _ _ c.loop-left.left.now _ (record { 0 = 0 }) c.loop-left.invariant c.in-len1-up.len_at_least (sym c.contains.ensures ∙ c.if-contains.false)

pub loop-left-init : goal.loop-left-init
loop-left-init c =
    conjoin_start c.args.terms.now c.konst.new.self (hash.contains nat_eq c.args.pasts.now) c.args.xs.now c.in_ok-all.all c.in_ok-all.ensures.kept c.in_ok-all.ensures.made c.requires.are_in c.requires.bits
    c.requires.tells

pub both-requires-clause-x_in : goal.both-requires-clause-x_in
both-requires-clause-x_in c = c.loop-left.invariant.all_in

pub both-requires-clause-x_bit : goal.both-requires-clause-x_bit
both-requires-clause-x_bit c = c.loop-left.invariant.bit

pub both-requires-clause-y_in : goal.both-requires-clause-y_in
both-requires-clause-y_in c =
    let f = first_left _ _ _ _ c.loop-left.left.now _ (record { 0 = 0 }) c.loop-left.invariant c.in-len1-up.len_at_least in
    f.x_in

pub returns-in_err-all-2-clause-kept : goal.returns-in_err-all-2-clause-kept
returns-in_err-all-2-clause-kept c = grows_on c.args.terms.now c.loop-left.terms c.both.new.terms c.loop-left.invariant.grows c.in_err-all-2.ensures.kept

pub returns-clause-made : goal.returns-clause-made
returns-clause-made c =
    let n : length c.loop-left.left.now ≡ 0 = omega (arith, c.in_default.len_below) in
    conjoin_end c.args.terms.now c.loop-left.terms (hash.contains nat_eq c.args.pasts.now) c.args.xs.now c.loop-left.left.now c.loop-left.all n c.loop-left.invariant

pub returns-clause-kept : goal.returns-clause-kept
returns-clause-kept c = c.loop-left.invariant.grows
