use Rattle.std.proofs.Common.{arith, ◌<◌, map, refl, ap}
use Rattle.std.proofs.lemmas.List.{at_drop_all}
use Rattle.lh_types.specs.Types.{row_of, node_count, node_count_row}
use Rattle.lh_types.proofs.Rows.{node_count-get_or}
use Rattle.lh_unit.specs.CanonTypes.{type_pieces}
use Rattle.lh_unit.proofs.Lists.{drop-item}
use Rattle.lh_text_buffer.proofs.Parts.{all-left, none-left, two-written}
use Rattle.lh_print.proofs.Joined.{in_row, in_row-types, row_step}
use Rattle.lh_print.proofs.types.+put_type.Goals as goal

pub put_types-loop-t-init : goal.put_types-loop-t-init
put_types-loop-t-init t c = all-left _ _ _ (in_row-types c.args.types.now)

pub put_types-put_type-requires : goal.put_types-put_type-requires
put_types-put_type-requires t c = (
  let w : node_count c.t-item.result < node_count_row (row_of c.args.types.now) =
      omega (arith, ap node_count c.t-item.is, node_count-get_or c.args.types.now c.loop-t.t-index c.t-item.result c.loop-t-test.true) in omega (arith, w),
  tt,
)

pub put_types-loop-t-preserved : goal.put_types-loop-t-preserved
put_types-loop-t-preserved t c = row_step _ _ _ _ c.loop-t.before.now _ (type_pieces c.t-item.result) _ _
    (ap (λ l. map type_pieces l) (drop-item c.args.types.now c.loop-t.t-index c.t-item.result c.loop-t-test.true c.t-item.is)) refl
    (two-written _ _ _ _ _ c.put.ensures c.put_type.ensures) c.loop-t.invariant

pub put_types-returns : goal.put_types-returns
put_types-returns t c = none-left _ _ _ _ (at_drop_all (λ l. in_row c.loop-t.before.now (map type_pieces l)) c.args.types.now c.loop-t.t-index c.loop-t-test.false) c.loop-t.invariant
