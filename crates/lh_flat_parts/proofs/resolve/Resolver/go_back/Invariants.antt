use Rattle.std.proofs.Common.{◌≡◌, ◌<◌, length}
use Rattle.lh_flat_parts.proofs.StepPaths.{OnWay, unmet_count}
use Rattle.lh_flat_parts.proofs.resolve.Resolver.go_back.Given as goal

abbrev pub invariant-loop-next : goal.invariant-loop-next
invariant-loop-next l = record {
  steps : l.self.steps.now ≡ l.fn.self.steps.now;
  parts : l.self.parts.items ≡ l.fn.self.parts.items;
  is_in : l.value.0 < length l.fn.self.steps.now;
  way : OnWay l.fn.self.steps.now l.fn.self.met.items l.fn.from.0 l.self.met.items l.self.way.items l.value.0;
}

abbrev pub decreases-loop-next : goal.decreases-loop-next
decreases-loop-next l = unmet_count l.self.met.items
