use Rattle.std.proofs.Common.{◌<◌, ◌≤◌, length, arith}
use Rattle.lh_term.proofs.Swaps.{grows_on}
use Rattle.lh_edge.proofs.Gathered.{gather_in, gather_turn, gathered_all}
use Rattle.lh_edge.proofs.triggers.gathered.Goals as goal

pub gather-requires : goal.gather-requires
gather-requires c =
    let l : c.loop-x.x-index < length c.args.made_of.now = omega arith in
    gather_in c.args.terms.now c.loop-x.terms c.args.made_of.now c.loop-x.pairs.items c.args._cond c.loop-x.x-index (record { 0 = 0 }) c.requires l c.loop-x.invariant

pub returns-in_err-gather-clause-kept : goal.returns-in_err-gather-clause-kept
returns-in_err-gather-clause-kept c = grows_on c.args.terms.now c.loop-x.terms c.gather.new.terms c.loop-x.invariant.grows c.in_err-gather.ensures.kept

pub loop-x-preserved : goal.loop-x-preserved
loop-x-preserved c =
    let l : c.loop-x.x-index < length c.args.made_of.now = omega arith in
    gather_turn c.args.terms.now c.loop-x.terms c.gather.new.terms c.args.made_of.now c.loop-x.pairs.items c.gather.new.pairs.items c.args._cond c.loop-x.x-index (record { 0 = 0 }) c.requires l
    c.loop-x.invariant c.in_ok-gather.ensures.kept c.in_ok-gather.ensures.added

pub returns-clause-made : goal.returns-clause-made
returns-clause-made c =
    let n : length c.args.made_of.now ≤ c.loop-x.x-index = omega arith in
    gathered_all c.args.terms.now c.loop-x.terms c.args.made_of.now c.loop-x.pairs.items c.args._cond c.loop-x.x-index c.requires n c.loop-x.invariant
