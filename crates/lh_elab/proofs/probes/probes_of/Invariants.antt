use Rattle.std.proofs.Common.{◌≡◌, map, take}
use Rattle.lh_elab.specs.Probed.{probed_by}
use Rattle.lh_elab.proofs.probes.probes_of.Given as goal

abbrev pub invariant-loop-instance : goal.invariant-loop-instance
invariant-loop-instance l = l.probes.items ≡ map (probed_by l.m) (take l.instance-index l.d.instances.items)
