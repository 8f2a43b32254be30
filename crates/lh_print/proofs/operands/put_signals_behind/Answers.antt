use Rattle.std.proofs.Common.{◌∷◌, map, ap, sym, subst, get_or}
use Rattle.std.proofs.lemmas.List.{append-nil, drop_more}
use Rattle.lh_text_buffer.specs.Writing.{Writes}
use Rattle.lh_unit.specs.Arena.{naming, sizes}
use Rattle.lh_unit.specs.Naming.{value_text}
use Rattle.lh_unit.specs.Within.{ValueWithin}
use Rattle.lh_unit.specs.Pieces.{behind_commas, percent}
use Rattle.lh_unit.proofs.Lists.{Each-at}
use Rattle.lh_print.proofs.Joined.{behind_step}
use Rattle.lh_print.proofs.operands.put_signals_behind.Goals as goal

pub put_value-requires : goal.put_value-requires
put_value-requires c = record {
  value = Each-at (ValueWithin (sizes c.args.view.module.now c.args.view.unit.0)) c.args.signals.now c.loop-signal.signal-index (record { 0 = 0 }) c.requires.placed c.loop-signal-test.true;
}

pub loop-signal-preserved : goal.loop-signal-preserved
loop-signal-preserved c =
    let f = naming c.args.view.module.now c.args.view.unit.0 in
    let name = value_text f (get_or c.args.signals.now c.loop-signal.signal-index (record { 0 = 0 })) in
    behind_step _ _ _ _ (percent name) _ _
    (ap (λ l. behind_commas (map percent (map (value_text f) l))) (drop_more c.args.signals.now c.loop-signal.signal-index (record { 0 = 0 }) c.loop-signal-test.true))
    (subst (λ l. Writes c.loop-signal.out c.put_value.new.out (44 ∷ 32 ∷ 37 ∷ l)) (sym (append-nil name)) c.put_value.ensures) c.loop-signal.invariant
