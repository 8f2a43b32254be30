use Rattle.std.proofs.Common.{◌≤◌, ◌+◌, length}
use Rattle.lh_kernel.specs.Puts.{wishes_by}
use Rattle.lh_kernel.proofs.PutWishes.{AreToBePut}
use Rattle.lh_kernel.proofs.puts.put_many.Given as goal

-- the wishes that are left are still to be put, and there is room for them
abbrev pub invariant-loop-wish : goal.invariant-loop-wish
invariant-loop-wish l =
    (goal.iterator-loop-wish).can_next l.wish-iterator ×
    (goal.iterator-loop-wish).is_finite l.wish-iterator ×
    AreToBePut l.fn.queue.held (wishes_by l.at l.instance l.fn.wishes.items) l.queue.held (wishes_by l.at l.instance l.wish-iterator.rest.items) ×
    (length l.wish-iterator.rest.items ≤ l.queue.spare) ×
    (l.fn.queue.spare + length l.wish-iterator.rest.items ≤ l.queue.spare + length l.fn.wishes.items)
