use Rattle.std.proofs.Common.{drop}
use Rattle.lh_flat_parts.proofs.Tables.{Taking}
use Rattle.lh_flat_parts.specs.Resolving.{StepsCarry}
use Rattle.lh_flat_parts.proofs.table.steps_of.Given as goal

abbrev pub invariant-loop-block : goal.invariant-loop-block
invariant-loop-block l = record {
  taking : Taking l.flat.values l.steps.given.items l.steps.results.items (drop l.block-index l.block-items) l.block-items;
  carried : StepsCarry l.steps.given.items;
}
