use Rattle.std.proofs.Common.{◌∙◌, arith}
use Rattle.std.proofs.lemmas.List.{get_or_default}
use Rattle.lh_unit.specs.Arena.{unit_count}
use Rattle.lh_lower.proofs.ReportRows.{text-all, row-within}
use Rattle.lh_lower.proofs.text.text_of.Goals as goal

pub put_row-requires : goal.put_row-requires
put_row-requires c =
    let h = c.loop-row-test.true in row-within (unit_count c.args.m.now) c.args.rows.now c.loop-row.row-index _ h (get_or_default c.args.rows.now c.loop-row.row-index _ _ h) c.requires

pub returns : goal.returns
returns c = c.loop-row.invariant ∙ text-all c.args.m.now c.args.rows.now c.loop-row.row-index (omega (arith, c.loop-row.auto.row-index-end, c.loop-row-test.false))
