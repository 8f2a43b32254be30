use Rattle.std.proofs.Common.{◌≡◌, ℕ, ◌<◌, ◌++◌, length}
use Rattle.lh_unit.specs.Within.{Each}
use Rattle.lh_elab.specs.Climbing.{dotted}
use Rattle.lh_elab.proofs.Labels.{shown}
use Rattle.lh_elab.proofs.paths.put_below.Given as goal

abbrev pub invariant-loop-next : goal.invariant-loop-next
invariant-loop-next l = record {
  text : l.initial.path.items ++ dotted (shown l.m l.d) l.initial.below.items ≡ l.path.items ++ dotted (shown l.m l.d) l.below.items;
  known : Each (λ (k : ℕ). k < length l.d.instances.items) l.below.items;
}

abbrev pub decreases-loop-next : goal.decreases-loop-next
decreases-loop-next l = length l.below.items
