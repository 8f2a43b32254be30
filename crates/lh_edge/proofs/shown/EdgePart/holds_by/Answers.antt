use Rattle.std.proofs.Common.{◌≤◌, length, arith}
use Rattle.lh_edge.proofs.Sights.{holds_start, holds_end}
use Rattle.lh_edge.proofs.shown.EdgePart.holds_by.Goals as goal

pub loop-valuation-init : goal.loop-valuation-init
loop-valuation-init c = holds_start c.args.self.now.table.now c.args.kept c.in_ok-holds.holds.items c.in_ok-holds.ensures

pub returns : goal.returns
returns c =
    let l : length c.args.self.now.table.now ≤ c.loop-valuation.valuation = omega (arith, c.loop-valuation-test.false) in
    holds_end c.args.self.now.table.now c.args.kept c.loop-valuation.holds.items c.loop-valuation.valuation l c.loop-valuation.invariant
