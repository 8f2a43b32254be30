use Rattle.std.proofs.Common.{◌<◌, length}
use Rattle.lh_types.proofs.written.no_types.Given as goal

abbrev pub invariant-loop : goal.invariant-loop
invariant-loop l = 0 < length l.slots.items
