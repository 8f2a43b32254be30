use Rattle.std.proofs.Common.{rules, ℕ, List, length, ap, arith}
use Rattle.lh_kernel_wakes.proofs.Places.{put_last}
use Rattle.lh_kernel_wakes.proofs.rising.Rising.enter.Goals as goal

pub push_reserved-requires : goal.push_reserved-requires
push_reserved-requires c =
    let room = c.comes_last.ensures.room c.if-comes_last.true in
    omega (arith, room, c.capacity.ensures, ap (λ (xs : List ℕ). length xs) c.as_slice.ensures.value)

pub invariant_of-self : goal.invariant_of-self
invariant_of-self c =
    (put_last _ _ _ _ c.args.n c.self.view_is c.as_slice.ensures.value c.self.invariant (c.comes_last.ensures.some c.if-comes_last.true) (c.comes_last.ensures.last c.if-comes_last.true) c.push_reserved.ensures.items).0.0

pub returns-then-comes_last-clause-has : goal.returns-then-comes_last-clause-has
returns-then-comes_last-clause-has c =
    (put_last _ _ _ _ c.args.n c.self.view_is c.as_slice.ensures.value c.self.invariant (c.comes_last.ensures.some c.if-comes_last.true) (c.comes_last.ensures.last c.if-comes_last.true) c.push_reserved.ensures.items).0.1

pub returns-then-comes_last-clause-there : goal.returns-then-comes_last-clause-there
returns-then-comes_last-clause-there c = (
  λ e. absurd (search rules),
  λ h. absurd ((put_last _ _ _ _ c.args.n c.self.view_is c.as_slice.ensures.value c.self.invariant (c.comes_last.ensures.some c.if-comes_last.true) (c.comes_last.ensures.last c.if-comes_last.true) c.push_reserved.ensures.items).1 h),
)
