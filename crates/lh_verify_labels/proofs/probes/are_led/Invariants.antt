use Rattle.std.proofs.Common.{◌≡◌, drop}
use Rattle.lh_unit.specs.Arena.{table_at}
use Rattle.lh_verify_labels.specs.Turns.{all_led}
use Rattle.lh_verify_labels.proofs.probes.are_led.Given as goal

abbrev pub invariant-loop-i : goal.invariant-loop-i
invariant-loop-i l = all_led l.insts l.turns (drop l.i (table_at l.m l.unit.0).lines) ≡ all_led l.insts l.turns (table_at l.m l.unit.0).lines
