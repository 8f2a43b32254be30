use Rattle.std.proofs.Common.{ℕ, ◌-◌, length}
use Rattle.lh_unit.specs.Activation.{Point, run}
use Rattle.lh_unit.specs.Arena.{contents, unit_text_at}
use Rattle.lh_exec.specs.Standing.{MachineIs, scene_of}
use Rattle.lh_exec.specs.Sound.{MachineFits, PointFits, ContinuesActivation}
use Rattle.lh_exec.proofs.machine.Machine.run.Given as goal

abbrev pub invariant-loop-i : goal.invariant-loop-i
invariant-loop-i l = record {
  fit : MachineFits l.m (length l.now) l.self;
  goes : (u : ℕ) (p : Point) → MachineIs l.m l.initial.self p → PointFits (contents l.m) (length l.now) (unit_text_at l.m u) p
      → ContinuesActivation l.m (scene_of l.m l.now l.at) u (length l.now) (l.limit - l.i) l.self (run l.limit (scene_of l.m l.now l.at) p);
}
