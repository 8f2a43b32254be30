use Rattle.std.proofs.Common.{sym, subst}
use Rattle.lh_unit.specs.Arena.{naming}
use Rattle.lh_unit.specs.Naming.{trigger_text}
use Rattle.lh_term.proofs.Swaps.{grows_on}
use Rattle.lh_cert_rows.specs.Reading.{trigger_known, condition_known, delay_known}
use Rattle.lh_region_def.specs.Known.{value_known}
use Rattle.lh_cert_read.specs.Lines.{MaybeTrigger, MaybeTerm}
use Rattle.lh_cert_read.proofs.Found.{term-found, knows-grown}
use Rattle.lh_cert_read.proofs.Triggers.{term-grown, trigger-made}
use Rattle.lh_cert_read.proofs.registers.trigger_of.Goals as goal

pub returns-clause-found : goal.returns-clause-found
returns-clause-found c = λ a u k h.
    let ns = c.args.terms.now in
    let ls = c.condition_of.new.terms in
    let ms = c.delay_of.new.terms in
    let values = c.args.known.now.values.items in
    let g = trigger_text (naming a u) c.args.trigger.now in
    let all = grows_on ns ls ms c.in_ok-gate.ensures.kept c.in_ok-delay.ensures.kept in
    let operand = subst (λ o. MaybeTerm ms o (value_known k g.trigger)) (sym c.term-operand.ensures) (term-grown ns ms all _ _ (term-found a u ns values k h c.args.trigger.now.trigger c.requires.trigger)) in
    let value = subst (λ o. MaybeTerm ms o (value_known k g.value)) (sym c.term-value.ensures) (term-grown ns ms all _ _ (term-found a u ns values k h c.args.trigger.now.value c.requires.value)) in
    let gate = term-grown ls ms c.in_ok-delay.ensures.kept c.in_ok-gate.gate (condition_known k g.gate) (c.in_ok-gate.ensures.found a u k h) in
    let delay = c.in_ok-delay.ensures.found a u k (knows-grown a u ns ls values k c.in_ok-gate.ensures.kept h) in
    subst (λ o. MaybeTrigger ms o (trigger_known k g)) (sym c.trigger_by.ensures)
    (trigger-made ms g.mode c.term-operand.result c.in_ok-gate.gate c.term-value.result c.in_ok-delay.delay (value_known k g.trigger) (condition_known k g.gate) (value_known k g.value) (delay_known k g.after)
    operand gate value delay)
