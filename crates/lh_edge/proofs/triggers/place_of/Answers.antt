use Rattle.std.proofs.Common.{sym, ◌∙◌}
use Rattle.lh_edge.proofs.Made.{place_here, place_on}
use Rattle.lh_edge.proofs.triggers.place_of.Goals as goal

pub returns-then-comes_first-clause-place : goal.returns-then-comes_first-clause-place
returns-then-comes_first-clause-place c =
    place_here c.args.parts.now c.args.part.now c.index-parts-k.result c.loop-k.k c.loop-k-test.true c.index-parts-k.is (sym c.comes_first.ensures ∙ c.if-comes_first.true) c.loop-k.invariant

pub loop-k-preserved : goal.loop-k-preserved
loop-k-preserved c =
    place_on c.args.parts.now c.args.part.now c.index-parts-k.result c.loop-k.k c.loop-k-test.true c.index-parts-k.is (sym c.comes_first.ensures ∙ c.if-comes_first.false) c.loop-k.invariant
