use Rattle.std.proofs.Common.{◌≡◌, take}
use Rattle.lh_unit_names.proofs.table.indexed.Given as goal

abbrev pub invariant-loop-name : goal.invariant-loop-name
invariant-loop-name l = l.index.keys ≡ take l.name-index l.initial.names.items
