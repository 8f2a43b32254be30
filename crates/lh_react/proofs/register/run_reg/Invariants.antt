use Rattle.std.proofs.Common.{◌≡◌, false, drop}
use Rattle.lh_unit.specs.Within.{Each}
use Rattle.lh_react.specs.Registers.{TriggerIn, TriggerFits, tries}
use Rattle.lh_react.proofs.register.run_reg.Given as goal

abbrev pub invariant-loop-trigger : goal.invariant-loop-trigger
invariant-loop-trigger l = record {
  same : tries l.state.memory l.at l.to.value l.fired l.run (drop l.trigger-index l.triggers) ≡ tries l.state.memory l.at l.to.value false l.initial.run
      l.triggers;
  slots : l.run.slots ≡ l.initial.run.slots;
  within : Each (TriggerIn l.initial.run.slots) (drop l.trigger-index l.triggers);
  fit : Each (TriggerFits l.initial.run.slots l.to.value) (drop l.trigger-index l.triggers);
}
