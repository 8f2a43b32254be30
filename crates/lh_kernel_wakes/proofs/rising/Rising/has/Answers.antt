use Rattle.std.proofs.Common.{rules, refl}
use Rattle.lh_kernel_wakes.proofs.Places.{found_there, found_missing, none_above}
use Rattle.lh_kernel_wakes.proofs.rising.Rising.has.Goals as goal

pub returns-then-is_above : goal.returns-then-is_above
returns-then-is_above c = (
  λ e. absurd (search rules),
  λ h. absurd (none_above _ _ _ c.args.n c.self.view_is c.as_slice.ensures.value c.self.invariant (c.is_above.ensures.some c.if-is_above.true) (c.is_above.ensures.last c.if-is_above.true) h),
)

pub returns-in-Ok : goal.returns-in-Ok
returns-in-Ok c =
    (λ e. found_there _ _ _ c.args.n c.in-Ok.field-0 c.self.view_is c.deref.ensures.value c.self.invariant c.in-Ok.ensures.position, λ h. refl)

pub returns-in-Err : goal.returns-in-Err
returns-in-Err c =
    (λ e. absurd (search rules), λ h. absurd (found_missing _ _ _ c.args.n c.in-Err.field-0 c.self.view_is c.deref.ensures.value c.self.invariant c.in-Err.ensures.position h))
