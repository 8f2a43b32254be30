use Rattle.std.proofs.Common.{refl, sym, arith}
use Rattle.lh_types.proofs.Rows.{part-node_count, same_row-lengths}
use Rattle.lh_types.proofs.ty.+same.Goals as goal

pub same_fields-returns-then-ts-us : goal.same_fields-returns-then-ts-us
same_fields-returns-then-ts-us t c = sym (same_row-lengths _ _ c.if-ts-us.true)

pub same_fields-same-requires : goal.same_fields-same-requires
same_fields-same-requires t c =
    let w = part-node_count c.args.ts.now c.args.ts.now c.loop-i.i c.index-ts-i.result refl (omega (arith, c.loop-i-test.true)) c.index-ts-i.is in
    (omega (arith, w), tt)
