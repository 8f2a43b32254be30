use Rattle.std.proofs.Common.{◌≡◌, length}
use Rattle.lh_flat_parts.proofs.StepPaths.{Forth}
use Rattle.lh_flat_parts.proofs.resolve.Resolver.go_forth.Given as goal

abbrev pub invariant-loop-value : goal.invariant-loop-value
invariant-loop-value l = record {
  steps : l.self.steps.now ≡ l.fn.self.steps.now;
  met : l.self.met.items ≡ l.fn.self.met.items;
  forth : Forth l.fn.self.steps.now l.fn.self.parts.items l.self.parts.items l.fn.self.way.items l.self.way.items;
}

abbrev pub decreases-loop-value : goal.decreases-loop-value
decreases-loop-value l = length l.self.way.items
