use Rattle.std.proofs.Common.{drop, map}
use Rattle.lh_unit.specs.Arena.{naming}
use Rattle.lh_unit.specs.Naming.{trigger_text}
use Rattle.lh_unit.specs.Within.{Each}
use Rattle.lh_term.specs.Arena.{Grows}
use Rattle.lh_cert_read.specs.Lines.{Finds, TriggerIn}
use Rattle.lh_cert_read.proofs.Triggers.{SoFar}
use Rattle.lh_cert_read.proofs.registers.triggers_of.Given as goal

abbrev pub invariant-loop-trigger : goal.invariant-loop-trigger
invariant-loop-trigger l = record {
  within : Each (TriggerIn l.known.values.items) (drop l.trigger-index l.triggers);
  grows : Grows l.initial.terms l.terms;
  found : Finds l.initial.terms l.known.values.items
      (λ a u k. SoFar l.terms l.rows (map (trigger_text (naming a u)) (drop l.trigger-index l.triggers)) k (map (trigger_text (naming a u)) l.triggers));
}
