use Rattle.std.proofs.Common.{◌≡◌, []}
use Rattle.lh_flat_parts.proofs.Resolved.{SoFar}
use Rattle.lh_flat_parts.proofs.resolve.resolved.Given as goal

abbrev pub invariant-loop-value : goal.invariant-loop-value
invariant-loop-value l = record {
  steps : l.resolver.steps.now ≡ l.steps.given.items;
  empty : l.resolver.way.items ≡ [];
  so_far : SoFar l.steps.given.items l.fn.parts.items l.resolver.parts.items l.resolver.met.items l.value;
}
