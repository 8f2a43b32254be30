use Rattle.std.proofs.Common.{◌≡◌, ◌<◌, ◌≤◌, length}
use Rattle.lh_unit.specs.Within.{Each}
use Rattle.lh_kernel.specs.declared.run.Activation.{Activation}
use Rattle.lh_kernel.specs.Ran.{states_after}
use Rattle.lh_kernel.specs.Puts.{wishes_ran}
use Rattle.lh_kernel.proofs.PutWishes.{AreToBePut}
use Rattle.lh_kernel.proofs.puts.take_acts.Given as goal

-- what is left is still to be taken, and there is room for its wishes
abbrev pub invariant-loop-done : goal.invariant-loop-done
invariant-loop-done l =
    (goal.iterator-loop-done).can_next l.done-iterator ×
    (goal.iterator-loop-done).is_finite l.done-iterator ×
    AreToBePut l.fn.queue.held (wishes_ran l.at l.fn.acts.items) l.queue.held (wishes_ran l.at l.done-iterator.rest.items) ×
    (length (wishes_ran l.at l.done-iterator.rest.items) ≤ l.queue.spare) ×
    Each (λ (x : Activation). x.instance < length l.states.items) l.done-iterator.rest.items ×
    (states_after l.states.items l.done-iterator.rest.items ≡ states_after l.fn.states.items l.fn.acts.items)
