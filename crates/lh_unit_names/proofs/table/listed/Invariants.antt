use Rattle.std.proofs.Common.{◌≡◌, ◌≤◌, ◌++◌, length, vec_capacity}
use Rattle.lh_unit_names.proofs.table.listed.Given as goal

abbrev pub invariant-loop-name : goal.invariant-loop-name
invariant-loop-name l =
    (goal.iterator-loop-name).can_next l.name-iterator ×
    (goal.iterator-loop-name).is_finite l.name-iterator ×
    (l.room.items ++ l.name-iterator ≡ l.fn.names.keys) ×
    (length l.fn.names.keys ≤ vec_capacity l.room)
