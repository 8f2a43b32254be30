use Rattle.std.proofs.Common.{◌≡◌, length, map}
use Rattle.std.specs.List.{range_with_len}
use Rattle.lh_unit.specs.Arena.{table_at}
use Rattle.lh_flat.specs.Building.{new_id}
use Rattle.lh_flat.proofs.copy.new_ids.Given as goal

abbrev pub invariant-loop-value : goal.invariant-loop-value
invariant-loop-value l = record {
  ids : l.ids ≡ map (new_id (table_at l.view.module.now l.view.unit.0) l.args l.from) (range_with_len 0 (length l.ids));
  at : length l.ids ≡ l.value;
}
