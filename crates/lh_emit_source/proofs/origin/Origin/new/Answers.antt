use Rattle.std.proofs.Common.{length, subst, sym}
use Rattle.lh_flat.specs.Below.{ValuesBelow}
use Rattle.lh_emit_source.proofs.FirstSteps.{results-values}
use Rattle.lh_emit_source.proofs.origin.Origin.new.Goals as goal

pub firsts_among-requires : goal.firsts_among-requires
firsts_among-requires c =
    subst (ValuesBelow (length c.args.parts.now.parts.items)) (sym c.results.ensures) (results-values c.args.flat.now c.args.parts.now c.requires.steps c.requires.table)
