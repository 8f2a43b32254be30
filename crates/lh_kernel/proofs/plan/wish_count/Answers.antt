use Rattle.std.proofs.Common.{◌≡◌, ◌∙◌, ◌+◌, ℕ, List, length, drop, ap, arith}
use Rattle.lh_kernel.specs.Puts.{wishes_ran}
use Rattle.lh_kernel.specs.declared.run.Activation.{Activation}
use Rattle.lh_kernel.proofs.PutWishes.{count_on}
use Rattle.lh_kernel.proofs.plan.wish_count.Goals as goal
use Rattle.lh_types.proofs.Lists.{drop_end}

pub loop-done-preserved : goal.loop-done-preserved
loop-done-preserved c = λ t.
    count_on t c.args.acts.now c.loop-done.done-index c.done-item.result c.loop-done.count (length (wishes_ran t c.args.acts.now)) c.in-Some.more
    c.loop-done-test.true c.done-item.is (c.loop-done.invariant t)
    (c.in-Some.ensures.1 ∙ ap (λ (n : ℕ). c.loop-done.count + n) c.wish_count.ensures)

pub returns : goal.returns
returns c = λ t.
    let e : length (wishes_ran t (drop c.loop-done.done-index c.args.acts.now)) ≡ 0 =
    ap (λ (xs : List Activation). length (wishes_ran t xs)) (drop_end c.args.acts.now c.loop-done.done-index c.loop-done-test.false) in
    omega (arith, e, c.loop-done.invariant t)
