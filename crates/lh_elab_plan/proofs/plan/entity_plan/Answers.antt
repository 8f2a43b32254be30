use Rattle.std.proofs.Common.{◌≡◌, ◌<◌, List, [], ◌++◌, map, ap, sym, ◌∙◌, subst}
use Rattle.lh_unit.specs.Arena.{unit_count, naming, table_at, unit_text_at}
use Rattle.lh_unit.specs.ById.{inst_line_text}
use Rattle.lh_unit.specs.Hierarchy.{static_held, signals_of, children_of}
use Rattle.lh_unit.specs.Within.{Each}
use Rattle.lh_eval.specs.Sound.{InstIsSound}
use Rattle.lh_eval_laws.specs.Units.{WritesData}
use Rattle.lh_elab_plan.specs.declared.plan.PlanSignal.{PlanSignal}
use Rattle.lh_elab_plan.specs.declared.plan.PlanChild.{PlanChild}
use Rattle.lh_elab_plan.specs.Plans.{signal_of, child_of, SignalFits, ChildSmall}
use Rattle.lh_elab_plan.proofs.PlanSteps.{insts-in, each-inst, sound, entity-signals, entity-children}
use Rattle.lh_elab_plan.proofs.plan.entity_plan.Goals as goal

pub put_signals-requires-clause-insts : goal.put_signals-requires-clause-insts
put_signals-requires-clause-insts c = insts-in c.args.m.now c.args.unit.0 c.requires.arena c.requires.unit c.requires.entity c.insts-insts.result.now c.insts-insts.ensures.insts

pub put_signals-requires-clause-sound : goal.put_signals-requires-clause-sound
put_signals-requires-clause-sound c =
    each-inst c.args.m.now c.args.unit.0 c.requires.arena c.requires.unit c.requires.entity (InstIsSound (unit_text_at c.args.m.now c.args.unit.0)) c.insts-insts.result.now c.insts-insts.ensures.insts
    (sound c.args.m.now c.args.unit.0 c.requires.arena c.requires.unit c.requires.entity c.requires.formed).lines

pub put_signals-requires-clause-writes : goal.put_signals-requires-clause-writes
put_signals-requires-clause-writes c =
    each-inst c.args.m.now c.args.unit.0 c.requires.arena c.requires.unit c.requires.entity WritesData c.insts-insts.result.now c.insts-insts.ensures.insts
    (sound c.args.m.now c.args.unit.0 c.requires.arena c.requires.unit c.requires.entity c.requires.formed).signals

pub put_children-requires-clause-insts : goal.put_children-requires-clause-insts
put_children-requires-clause-insts c = insts-in c.args.m.now c.args.unit.0 c.requires.arena c.requires.unit c.requires.entity c.insts-insts.result.now c.insts-insts.ensures.insts

pub returns : goal.returns
returns c =
    let m = c.args.m.now in
    let u = c.args.unit.0 in
    let e = static_held (unit_text_at m u) [] [] in
    let no-signals = c.new-plan.ensures.signals in
    let no-children : c.put_signals.new.self.children.items ≡ [] = c.in_ok-put_signals.ensures.children ∙ c.new-plan.ensures.children in
    let kept = c.in_ok-put_children.ensures.signals in
    record {
      signals =
          ap (map signal_of) kept
          ∙ c.in_ok-put_signals.ensures.signals e c.in_ok-values.ensures.holds
          ∙ ap (λ (l : List PlanSignal). map signal_of l ++ signals_of e (map (inst_line_text (naming m u) (table_at m u)) c.insts-insts.result.now)) no-signals
          ∙ entity-signals m u c.requires.arena c.requires.unit c.requires.entity c.insts-insts.result.now c.insts-insts.ensures.insts;
      children = λ args sigs w.
          c.in_ok-put_children.ensures.children args sigs (static_held (unit_text_at m u) args sigs) (c.in_ok-parts.ensures.follows args sigs w)
          ∙ ap (λ (l : List PlanChild). map (child_of m args sigs) l
          ++ children_of (static_held (unit_text_at m u) args sigs) (map (inst_line_text (naming m u) (table_at m u)) c.insts-insts.result.now)) no-children
          ∙ entity-children m u c.requires.arena c.requires.unit c.requires.entity args sigs c.insts-insts.result.now c.insts-insts.ensures.insts;
      fit = subst (Each SignalFits) (sym kept) (c.in_ok-put_signals.ensures.fit (subst (Each SignalFits) (sym no-signals) tt));
      within = c.in_ok-put_children.ensures.within (subst (Each (λ (x : PlanChild). x.unit.0 < unit_count m)) (sym no-children) tt);
      small = c.in_ok-put_children.ensures.small (subst (Each ChildSmall) (sym no-children) tt) c.in_ok-parts.ensures.small;
    }
