use Rattle.std.proofs.Common.{◌≡◌, ◌++◌, length, map}
use Rattle.lh_emit_source.specs.Firsts.{texts_along}
use Rattle.lh_flat.specs.Below.{ValuesBelow}
use Rattle.lh_emit_source.specs.Origins.{route_text}
use Rattle.lh_emit_source.proofs.origin.route_along.Given as goal

abbrev pub invariant-loop-value : goal.invariant-loop-value
invariant-loop-value l = record {
  within : ValuesBelow (length l.parts.steps.given.items) l.way.items;
  texts : map route_text l.route ++ texts_along l.parts.steps.given.items l.way.items ≡ texts_along l.parts.steps.given.items l.fn.way.items;
}

abbrev pub decreases-loop-value : goal.decreases-loop-value
decreases-loop-value l = length l.way.items
