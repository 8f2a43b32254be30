use Rattle.std.proofs.Common.{◌+◌, List, map, drop, None, ap, sym, subst}
use Rattle.std.proofs.lemmas.List.{drop_all}
use Rattle.lh_unit.specs.Arena.{naming}
use Rattle.lh_unit.specs.Contents.{TriggerText}
use Rattle.lh_unit.specs.Naming.{trigger_text}
use Rattle.lh_unit.specs.declared.inst.Mode.TheVariants.{Rise}
use Rattle.lh_unit.specs.declared.inst.RegTrigger.{RegTrigger}
use Rattle.lh_term.proofs.Swaps.{grows_on}
use Rattle.lh_verify_laws.proofs.EachItem.{each-rest}
use Rattle.lh_cert_read.specs.Lines.{TriggerIn}
use Rattle.lh_cert_read.specs.declared.rows.RegisterTrigger.{RegisterTrigger}
use Rattle.lh_cert_read.proofs.Found.{knows-grown}
use Rattle.lh_cert_read.proofs.Triggers.{SoFar, one-more-at, is-missing-at, all-found}
use Rattle.lh_cert_read.proofs.registers.triggers_of.Goals as goal

-- what stands where there is no trigger
abbrev first : RegTrigger
first = record { value = record { 0 = 0 }; mode = Rise; trigger = record { 0 = 0 }; gate = None; after = None }

pub returns-in-None-clause-found : goal.returns-in-None-clause-found
returns-in-None-clause-found c = λ a u k h.
    let xs = c.args.triggers.now in
    let text = trigger_text (naming a u) in
    let cur = c.loop-trigger.terms in
    is-missing-at cur c.trigger_of.new.terms c.in_ok-row.ensures.kept c.loop-trigger.rows text xs c.loop-trigger.trigger-index c.loop-trigger-test.true k (map text xs)
    (c.loop-trigger.invariant.found a u k h) first c.in_ok-row.field-0
    (c.in_ok-row.ensures.found a u k (knows-grown a u c.args.terms.now cur c.args.known.now.values.items k c.loop-trigger.invariant.grows h)) c.in-None.is

pub loop-trigger-preserved : goal.loop-trigger-preserved
loop-trigger-preserved c =
    let xs = c.args.triggers.now in
    let i = c.loop-trigger.trigger-index in
    let cur = c.loop-trigger.terms in
    let ms = c.trigger_of.new.terms in
    record {
      within = (each-rest (TriggerIn c.args.known.now.values.items) xs i first c.loop-trigger-test.true
          c.loop-trigger.invariant.within).1;
      grows = grows_on c.args.terms.now cur ms c.loop-trigger.invariant.grows c.in_ok-row.ensures.kept;
      found = λ a u k h.
          let text = trigger_text (naming a u) in
          subst (λ (gs : List RegisterTrigger). SoFar ms gs (map text (drop (i + 1) xs)) k (map text xs)) (sym c.in_ok-push-in-Some.ensures.ok)
          (one-more-at cur ms c.in_ok-row.ensures.kept c.loop-trigger.rows text xs i c.loop-trigger-test.true k (map text xs) (c.loop-trigger.invariant.found a u k h) first c.in_ok-row.field-0 c.in-Some.row
          (c.in_ok-row.ensures.found a u k (knows-grown a u c.args.terms.now cur c.args.known.now.values.items k c.loop-trigger.invariant.grows h)) c.in-Some.is);
    }

pub returns-clause-found : goal.returns-clause-found
returns-clause-found c = λ a u k h.
    let xs = c.args.triggers.now in
    let text = trigger_text (naming a u) in
    all-found c.loop-trigger.terms c.loop-trigger.rows k (map text xs)
    (subst (λ (rest : List TriggerText). SoFar c.loop-trigger.terms c.loop-trigger.rows rest k (map text xs)) (ap (map text) (drop_all c.loop-trigger.trigger-index xs c.loop-trigger-test.false))
    (c.loop-trigger.invariant.found a u k h))
