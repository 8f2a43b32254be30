use Rattle.std.proofs.Common.{◌-◌, drop}
use Rattle.lh_term.proofs.Swaps.{grows_on}
use Rattle.lh_region_walk.proofs.Phis.{phis-can, phis-next, drop-back}
use Rattle.lh_region_walk.proofs.opening.take_phis.Goals as goal

pub take_line-requires : goal.take_line-requires
take_line-requires c =
    let ls = c.args.lines.now in let i = c.loop-i.i in let l = c.index-lines-i.result in
    phis-can c.args.terms.now c.loop-i.terms c.args.places.now.items c.loop-i.places.items c.args.at (i - 1) ls (drop i ls) l (drop-back ls i l c.loop-i-test.true c.loop-i.auto.i c.index-lines-i.is)
    c.loop-i.invariant c.requires

pub loop-i-preserved : goal.loop-i-preserved
loop-i-preserved c =
    let ls = c.args.lines.now in let i = c.loop-i.i in let l = c.index-lines-i.result in
    phis-next c.args.terms.now c.loop-i.terms c.take_line.new.terms c.args.places.now.items c.loop-i.places.items c.take_line.new.places.items c.args.at (drop i ls) (drop (i - 1) ls) l
    (drop-back ls i l c.loop-i-test.true c.loop-i.auto.i c.index-lines-i.is)
    c.take_line.ensures.kept c.in_ok-take_line.ensures.taken c.loop-i.invariant

pub returns-in_err-take_line-clause-kept : goal.returns-in_err-take_line-clause-kept
returns-in_err-take_line-clause-kept c = grows_on c.args.terms.now c.loop-i.terms c.take_line.new.terms c.loop-i.invariant.grows c.take_line.ensures.kept

pub returns-clause-kept : goal.returns-clause-kept
returns-clause-kept c = c.loop-i.invariant.grows
