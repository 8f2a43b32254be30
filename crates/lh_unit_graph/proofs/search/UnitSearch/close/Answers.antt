use Rattle.std.proofs.Common.{◌<◌, sym, subst, refl}
use Rattle.lh_unit_graph.proofs.SearchSteps.{Closing-first, Closing-next, last-placed}
use Rattle.lh_unit_graph.proofs.search.UnitSearch.close.Goals as goal

pub loop-frame-init : goal.loop-frame-init
loop-frame-init g c = Closing-first g.M.Measured.measuring c.args.self.now _ c.args.frame c.requires refl refl

pub index_mut-requires-in-Some : goal.index_mut-requires-in-Some
index_mut-requires-in-Some g c =
    subst (λ n. c.in-Some.frame.unit.0 < n) (sym c.loop-frame.self.marks.ok.0)
    (last-placed g.M.Measured.measuring c.args.self.now c.loop-frame.self c.args.frame c.in-Some.frame c.pop.new.self.items
    c.loop-frame.invariant c.in-Some.ensures.items)

pub loop-frame-preserved : goal.loop-frame-preserved
loop-frame-preserved g c =
    Closing-next g.M.Measured.measuring c.args.self.now c.loop-frame.self _ c.args.frame c.in-Some.frame
    c.loop-frame.invariant c.in-Some.ensures.items refl
