use Rattle.std.proofs.Common.{◌||◌, ◌+◌, drop, ◌++◌, ap, ◌∙◌}
use Rattle.lh_unit.specs.Arena.{table_at}
use Rattle.lh_verify.specs.Spots.{is_other, spots_in}
use Rattle.lh_verify.proofs.SpotParts.{last-empty, spots-step}
use Rattle.lh_verify.proofs.spots.put_insts.Goals as goal

pub loop-k-preserved : goal.loop-k-preserved
loop-k-preserved c =
    ap (λ b. c.push.new.self ++ spots_in (table_at c.args.m.now c.args.unit.0) c.args.in_entry c.args.block b (drop (c.loop-k.k + 1) c.args.insts.now))
    (c.is_behind_other-after_other.ensures ∙ ap (λ i. c.loop-k.after_other || is_other i) c.inst.ensures.inst)
    ∙ spots-step (table_at c.args.m.now c.args.unit.0) c.args.in_entry c.args.block c.loop-k.after_other c.args.insts.now c.loop-k.k (record { 0 = 0 }) c.loop-k.list c.push.new.self _ _
    c.loop-k-test.true (last-empty c.args.insts.now c.loop-k.k c.loop-k-test.true) c.in_ok-push.ensures.ok c.loop-k.invariant
