use Rattle.std.proofs.Common.{None, map, ap, get_or}
use Rattle.std.proofs.lemmas.List.{drop_more, at_drop_all}
use Rattle.lh_unit.specs.Arena.{naming, sizes}
use Rattle.lh_unit.specs.Naming.{trigger_text}
use Rattle.lh_unit.specs.Within.{TriggerWithin}
use Rattle.lh_unit.specs.Pieces.{render, behind_commas}
use Rattle.lh_unit.specs.Canon.{trigger}
use Rattle.lh_unit.specs.declared.inst.Mode.TheVariants as mode
use Rattle.lh_unit.specs.declared.inst.RegTrigger.{RegTrigger}
use Rattle.lh_unit.proofs.Lists.{Each-at}
use Rattle.lh_text_buffer.proofs.Parts.{none-left}
use Rattle.lh_print.proofs.Joined.{behind_step}
use Rattle.lh_print.proofs.operands.put_triggers_behind.Goals as goal

-- what stands behind the last trigger
abbrev none : RegTrigger
none = record { value = record { 0 = 0 }; mode = mode.Rise; trigger = record { 0 = 0 }; gate = None; after = None }

pub put_trigger-requires : goal.put_trigger-requires
put_trigger-requires c = record {
  placed = Each-at (TriggerWithin (sizes c.args.view.module.now c.args.view.unit.0)) c.args.triggers.now c.loop-t.t-index none c.requires.placed c.loop-t-test.true;
}

pub loop-t-preserved : goal.loop-t-preserved
loop-t-preserved c =
    let f = naming c.args.view.module.now c.args.view.unit.0 in
    behind_step _ _ _ _ (trigger (trigger_text f (get_or c.args.triggers.now c.loop-t.t-index none))) _ _
    (ap (λ l. behind_commas (map trigger (map (trigger_text f) l))) (drop_more c.args.triggers.now c.loop-t.t-index none c.loop-t-test.true)) c.put_trigger.ensures c.loop-t.invariant

pub returns : goal.returns
returns c = none-left _ _ _ _ (at_drop_all (λ l. render (behind_commas (map trigger (map (trigger_text (naming c.args.view.module.now c.args.view.unit.0)) l)))) c.args.triggers.now c.loop-t.t-index c.loop-t-test.false) c.loop-t.invariant
