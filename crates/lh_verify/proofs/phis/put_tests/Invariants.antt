use Rattle.std.proofs.Common.{◌≡◌, [], map, take}
use Rattle.lh_unit.specs.Arena.{table_at, label_count}
use Rattle.lh_verify.specs.Counting.{CountsEdges}
use Rattle.lh_verify.specs.PhisById.{wrong_phi_at}
use Rattle.lh_verify.proofs.phis.put_tests.Given as goal

abbrev pub invariant-loop-place : goal.invariant-loop-place
invariant-loop-place l = record {
  counts : CountsEdges (label_count l.m l.unit.0) [] l.counts;
  wrong : l.wrong.items ≡ map (wrong_phi_at (table_at l.m l.unit.0)) (take l.place-index l.places);
}
