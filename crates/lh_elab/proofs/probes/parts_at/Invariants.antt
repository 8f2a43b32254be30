use Rattle.std.proofs.Common.{◌≡◌, map, take}
use Rattle.lh_elab.specs.Probed.{above}
use Rattle.lh_elab.proofs.probes.parts_at.Given as goal

abbrev pub invariant-loop-probe : goal.invariant-loop-probe
invariant-loop-probe l = l.parts ≡ map (above l.instance.args l.instance.sigs) (take l.probe-index l.probes)
