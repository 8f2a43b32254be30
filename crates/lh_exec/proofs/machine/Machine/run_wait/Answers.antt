use Rattle.std.proofs.Common.{◌≡◌, ◌<◌, ◌∙◌, length, map, sym, subst, arith}
use Rattle.std.proofs.lemmas.Bool.Decides.{nat_tests}
use Rattle.std.proofs.lemmas.List.{nil_from_length}
use Rattle.lh_unit.specs.Activation.{Next, waiting, wake_at}
use Rattle.lh_unit.specs.Arena.{naming}
use Rattle.lh_unit.specs.Held.{parts_at}
use Rattle.lh_unit.specs.Naming.{value_text, maybe_text}
use Rattle.lh_exec.specs.declared.machine.Flow.TheVariants as flow
use Rattle.lh_exec.specs.Standing.{InstLeads}
use Rattle.lh_exec.proofs.Steps.{some-callers, does-not-end}
use Rattle.lh_exec.proofs.WaitSteps.{no-parts}
use Rattle.lh_exec.proofs.machine.Machine.run_wait.Goals as goal

pub returns-then-not-is_empty : goal.returns-then-not-is_empty
returns-then-not-is_empty c = λ a h p st.
    let f = naming a c.args.self.now.frame.unit.0 in
    let l : 0 < length c.args.self.now.callers.items = grind (arith, nat_tests) in
    subst (λ (n : Next). InstLeads a c.args.self.now flow.Lost p.control.unit n)
    (sym (does-not-end p p.callers (waiting p.control.block (f.label_name c.args.to.0) (parts_at p.control.held (map (value_text f) c.args.signals.now))
    (wake_at c.args.at p.control.held (maybe_text f c.args.after))) (some-callers a c.args.self.now.callers.items p.callers l st.callers))) tt

pub wait_on-requires-clause-calls : goal.wait_on-requires-clause-calls
wait_on-requires-clause-calls c = let n : length c.args.self.now.callers.items ≡ 0 = grind (arith, nat_tests) in nil_from_length c.args.self.now.callers.items n

pub returns-in-Some : goal.returns-in-Some
returns-in-Some c = λ a h p st. c.wait_on.ensures a c.args.signals.now h c.requires.signals (sym c.in_ok-parts.ensures ∙ c.in-Some.is) p st

pub returns-in-None : goal.returns-in-None
returns-in-None c = λ a h p st. no-parts a c.args.self.now p st c.args.at c.args.to c.args.after c.args.signals.now c.requires.after c.requires.signals (sym c.in_ok-parts.ensures ∙ c.in-None.is)
