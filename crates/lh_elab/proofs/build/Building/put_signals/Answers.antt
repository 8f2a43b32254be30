use Rattle.std.proofs.Common.{◌≡◌, ◌+◌, [], ◌∷◌, ◌++◌, length, map, take, ap, sym, ◌∙◌, subst, arith}
use Rattle.lh_unit.specs.Design.{signal_ranges}
use Rattle.lh_elab_plan.specs.declared.plan.PlanSignal.{PlanSignal}
use Rattle.lh_elab_plan.specs.Plans.{signal_of, SignalFits}
use Rattle.lh_elab.specs.Builds.{AddsSignals}
use Rattle.lh_verify_laws.proofs.EachItem.{each-rest}
use Rattle.lh_elab.proofs.BuildSteps.{adds-more, rest-more, ranges-more, more-signals, room-next}
use Rattle.lh_elab.proofs.build.Building.put_signals.Goals as goal

pub put_signal-requires-clause-room : goal.put_signal-requires-clause-room
put_signal-requires-clause-room c =
    let ps = c.args.signals.now in
    let k = c.loop-signal.signal-index in
    let item = c.signal-item.result in
    let x = each-rest SignalFits ps k item c.loop-signal-test.true c.loop-signal.invariant.fit in
    let w : SignalFits item = subst SignalFits (sym c.signal-item.is) x.0 in
    let g = room-next c.args.self.now.lo c.loop-signal.self.lo (length c.args.self.now.init) ps k item c.loop-signal-test.true c.signal-item.is c.requires.room c.loop-signal.invariant.adds.lo in
    omega (arith, g, w.1, c.loop-signal.invariant.adds.long)

pub loop-signal-preserved : goal.loop-signal-preserved
loop-signal-preserved c =
    let ps = c.args.signals.now in
    let k = c.loop-signal.signal-index in
    let item = c.signal-item.result in
    let x = each-rest SignalFits ps k item c.loop-signal-test.true c.loop-signal.invariant.fit in
    let ss = map signal_of (take k ps) in
    let more : map signal_of (take (k + 1) ps) ≡ ss ++ signal_of item ∷ [] = more-signals ps k item c.loop-signal-test.true ∙ ap (λ (y : PlanSignal). ss ++ signal_of y ∷ []) (sym c.signal-item.is) in
    record {
      adds = subst (AddsSignals c.args.self.now c.put_signal.new.self c.args.instance) (sym more)
          (adds-more c.args.self.now c.loop-signal.self c.put_signal.new.self c.args.instance ss (signal_of item ∷ []) c.loop-signal.invariant.adds c.in_ok-range.ensures.signals);
      rest = rest-more c.args.self.now c.loop-signal.self c.put_signal.new.self c.loop-signal.invariant.rest c.in_ok-range.ensures.rest;
      ranges = c.in_ok-push.ensures.ok ∙ ranges-more c.args.self.now.lo c.loop-signal.self.lo ss (signal_of item) c.loop-signal.ranges c.in_ok-range.range c.loop-signal.invariant.ranges
          c.loop-signal.invariant.adds.lo c.in_ok-range.ensures.range ∙ ap (signal_ranges c.args.self.now.lo) (sym more);
      fit = x.1;
    }
