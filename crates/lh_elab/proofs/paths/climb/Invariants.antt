use Rattle.std.proofs.Common.{◌≡◌, ℕ, ◌<◌, ◌++◌, length}
use Rattle.lh_unit.specs.Paths.{path_at}
use Rattle.lh_unit.specs.Within.{Each}
use Rattle.lh_elab.specs.Climbing.{dotted}
use Rattle.lh_elab.proofs.Labels.{shown}
use Rattle.lh_elab.proofs.paths.climb.Given as goal

abbrev pub invariant-loop-parent : goal.invariant-loop-parent
invariant-loop-parent l = record {
  here : l.at < length l.d.instances.items;
  path : path_at (shown l.m l.d) l.instance ≡ path_at (shown l.m l.d) l.at ++ dotted (shown l.m l.d) l.below.items;
  known : Each (λ (k : ℕ). k < length l.d.instances.items) l.below.items;
}

abbrev pub decreases-loop-parent : goal.decreases-loop-parent
decreases-loop-parent l = l.at
