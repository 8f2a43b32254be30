use Rattle.std.proofs.Common.{◌≡◌, length}
use Rattle.lh_flat.specs.Building.{own_ids}
use Rattle.lh_flat.proofs.copy.own_ids.Given as goal

abbrev pub invariant-loop-value : goal.invariant-loop-value
invariant-loop-value l = record {
  ids : l.ids ≡ own_ids (length l.ids);
  at : length l.ids ≡ l.value;
}
