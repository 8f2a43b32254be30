use Rattle.std.proofs.Common.{arith, ◌≡◌, ◌∙◌, ap, sym, length, ℕ, ◌++◌, ◌∷◌, [], List}
use Rattle.std.specs.List.{range_with_len}
use Rattle.lh_kernel.proofs.WokenInstances.{range_push, awake_all}
use Rattle.lh_kernel.proofs.woken.all_of.Goals as goal

pub loop-number-preserved : goal.loop-number-preserved
loop-number-preserved c =
    c.in_ok-push.ensures.items ∙ ap (λ (xs : List ℕ). xs ++ c.loop-number.number ∷ []) c.loop-number.invariant ∙
    ap (λ (k : ℕ). range_with_len 0 c.loop-number.number ++ k ∷ []) (omega arith) ∙ sym (range_push 0 c.loop-number.number)

pub returns : goal.returns
returns c = λ a now t states e.
    let n : c.loop-number.number ≡ length c.args.design.now.instances.items = omega (arith, c.loop-number.auto.number-end, c.loop-number-test.false, ap length c.instances-number-end.ensures) in
    c.loop-number.invariant ∙ ap (λ (k : ℕ). range_with_len 0 k) n ∙ awake_all a now t c.args.design.now.instances.items states 0 e
