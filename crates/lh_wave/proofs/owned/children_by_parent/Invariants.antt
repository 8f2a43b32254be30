use Rattle.std.proofs.Common.{◌≡◌, length, take}
use Rattle.lh_wave.specs.Owned.{parents, AreOwned}
use Rattle.lh_wave.proofs.owned.children_by_parent.Given as goal

abbrev pub invariant-loop-number : goal.invariant-loop-number
invariant-loop-number l = record {
  whole : l.instance-items ≡ l.fn.d.instances.items;
  owned : AreOwned l.lists (length l.fn.d.instances.items) (take l.number (parents l.fn.d));
}
