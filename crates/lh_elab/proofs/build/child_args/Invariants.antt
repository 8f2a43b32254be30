use Rattle.std.proofs.Common.{◌≡◌, map, take}
use Rattle.lh_elab_plan.specs.Plans.{low_at}
use Rattle.lh_elab.specs.Builds.{ranges_by}
use Rattle.lh_elab.proofs.build.child_args.Given as goal

abbrev pub invariant-loop-i : goal.invariant-loop-i
invariant-loop-i l = l.ranges ≡ take l.i (ranges_by l.params (map (low_at l.args l.sigs) l.lows))
