use Rattle.std.proofs.Common.{◌≤◌, Some, length, map, sym, subst, arith}
use Rattle.lh_unit.specs.Activation.{Next, called}
use Rattle.lh_unit.specs.Arena.{naming, unit_text_at}
use Rattle.lh_unit.specs.Held.{data_at}
use Rattle.lh_unit.specs.Naming.{operand_text, maybe_text}
use Rattle.lh_exec.specs.declared.machine.Flow.TheVariants as flow
use Rattle.lh_exec.specs.Standing.{InstLeads}
use Rattle.lh_exec.proofs.Steps.{opens-none}
use Rattle.lh_exec.proofs.machine.Machine.open.Goals as goal

pub returns-then-len-ge-MAX_CALLS : goal.returns-then-len-ge-MAX_CALLS
returns-then-len-ge-MAX_CALLS c = λ p st.
    let m = c.args.m.now in
    let f = naming m c.args.self.now.frame.unit.0 in
    let h : 256 ≤ length c.args.self.now.callers.items = omega arith in
    subst (λ (n : Next). InstLeads m c.args.self.now flow.Lost p.control.unit n)
    (sym (opens-none m c.args.self.now p st (maybe_text f c.args.name) (called (Some (unit_text_at m c.args.unit.0)) (data_at p.control.held (map (operand_text f) c.args.args.now))) h)) tt
