use Rattle.std.proofs.Common.{◌≡◌, length, take}
use Rattle.lh_wave.specs.Owned.{owners, AreOwned}
use Rattle.lh_wave.proofs.owned.signals_by_instance.Given as goal

abbrev pub invariant-loop-number : goal.invariant-loop-number
invariant-loop-number l = record {
  whole : l.signal-items ≡ l.fn.d.signals.items;
  owned : AreOwned l.lists (length l.fn.d.instances.items) (take l.number (owners l.fn.d));
}
