use Rattle.std.proofs.Common.{◌<◌, length, Some, sym, subst, arith}
use Rattle.std.proofs.lemmas.Bool.Decides.{nat_tests}
use Rattle.lh_unit.specs.Activation.{Next, halted}
use Rattle.lh_exec.specs.declared.machine.Flow.TheVariants as flow
use Rattle.lh_exec.specs.Standing.{InstLeads}
use Rattle.lh_exec.proofs.Steps.{some-callers, does-not-end}
use Rattle.lh_exec.proofs.machine.Machine.run_halt.Goals as goal

pub returns-else-is_empty : goal.returns-else-is_empty
returns-else-is_empty c = λ a p st.
    let l : 0 < length c.args.self.now.callers.items = grind (arith, nat_tests) in
    subst (λ (n : Next). InstLeads a c.args.self.now flow.Lost p.control.unit n) (sym (does-not-end p p.callers (Some halted) (some-callers a c.args.self.now.callers.items p.callers l st.callers))) tt
