use Rattle.lh_kernel_wakes.proofs.Places.{rising_cut, found_out, found_missing, gone_already}
use Rattle.lh_kernel_wakes.proofs.rising.Rising.leave.Goals as goal

pub invariant_of-self : goal.invariant_of-self
invariant_of-self c = rw c.remove.ensures.items (rising_cut c.in-Ok.place _ c.self.invariant)

pub returns-in-Ok : goal.returns-in-Ok
returns-in-Ok c = found_out _ _ _ _ c.args.n c.in-Ok.place c.self.view_is c.deref.ensures.value c.self.invariant c.in-Ok.ensures.position c.remove.ensures.items

pub returns-in_default : goal.returns-in_default
returns-in_default c =
    gone_already c.args.n _ (found_missing _ _ _ c.args.n c.in_default.field-0 c.self.view_is c.deref.ensures.value c.self.invariant c.in_default.ensures.position)
