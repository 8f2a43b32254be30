use Rattle.std.proofs.Common.{refl}
use Rattle.lh_unit_graph.proofs.SearchSteps.{Searching-first, Searching-next, Searching-stop, Covered-stop, InPlace-stop, left-falls}
use Rattle.lh_unit_graph.proofs.search.UnitSearch.search.Goals as goal

pub loop-frame-init : goal.loop-frame-init
loop-frame-init g c =
    Searching-first g.M.Measured.measuring c.args.nodes.now c.args.top c.args.self.now c.begin.new.self
    c.requires.settled c.in_ok-begin.ensures c.requires.unmet c.requires.top

pub close-requires : goal.close-requires
close-requires g c =
    InPlace-stop g.M.Measured.measuring c.args.nodes.now c.args.top.0 c.in-Some.frame c.loop-frame.self
    (record { marks = c.loop-frame.self.marks; stack = c.pop.new.self }) c.step.new.self c.in-Err.fault
    c.loop-frame.invariant
    (record { marks = refl; stack = c.in-Some.ensures.items }) c.in-Err.ensures

pub returns-in-Err : goal.returns-in-Err
returns-in-Err g c = record {
  measures =
      Searching-stop g.M.Measured.measuring c.args.nodes.now c.args.top.0 c.in-Some.frame c.loop-frame.self
      (record { marks = c.loop-frame.self.marks; stack = c.pop.new.self }) c.step.new.self c.in-Err.fault
      c.loop-frame.invariant
      (record { marks = refl; stack = c.in-Some.ensures.items }) c.in-Err.ensures;
  settled = c.close.ensures c.args.nodes.now
      (Covered-stop g.M.Measured.measuring c.args.nodes.now c.args.top.0 c.in-Some.frame c.loop-frame.self
      (record { marks = c.loop-frame.self.marks; stack = c.pop.new.self }) c.step.new.self c.in-Err.fault
      c.loop-frame.invariant
      (record { marks = refl; stack = c.in-Some.ensures.items }) c.in-Err.ensures);
}

pub loop-frame-smaller : goal.loop-frame-smaller
loop-frame-smaller g c =
    left-falls g.M.Measured.measuring c.args.nodes.now c.args.top.0 c.in-Some.frame c.loop-frame.self
    (record { marks = c.loop-frame.self.marks; stack = c.pop.new.self }) c.step.new.self c.requires.within
    c.loop-frame.invariant
    (record { marks = refl; stack = c.in-Some.ensures.items }) c.in_default-step.ensures

pub loop-frame-preserved : goal.loop-frame-preserved
loop-frame-preserved g c =
    Searching-next g.M.Measured.measuring c.args.nodes.now c.args.top.0 c.in-Some.frame c.loop-frame.self
    (record { marks = c.loop-frame.self.marks; stack = c.pop.new.self }) c.step.new.self c.requires.within
    c.loop-frame.invariant
    (record { marks = refl; stack = c.in-Some.ensures.items }) c.in_default-step.ensures
