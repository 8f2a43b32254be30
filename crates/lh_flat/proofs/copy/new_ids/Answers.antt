use Rattle.std.proofs.Common.{◌≡◌, ◌+◌, ◌∷◌, [], length, map, ap, sym, ◌∙◌, arith}
use Rattle.std.specs.List.{range_with_len}
use Rattle.std.proofs.lemmas.List.{length-append}
use Rattle.lh_unit.specs.Arena.{table_at}
use Rattle.lh_flat.specs.Building.{new_id}
use Rattle.lh_flat.proofs.BuilderRoom.{ids-next}
use Rattle.lh_flat.proofs.copy.new_ids.Goals as goal

pub loop-value-preserved : goal.loop-value-preserved
loop-value-preserved c =
    let id = new_id (table_at c.args.view.module.now c.args.view.unit.0) c.args.args.now c.args.from in
    let long : length c.push.new.self ≡ length c.loop-value.ids + 1 = ap length c.in_ok-push.ensures.ok ∙ length-append c.loop-value.ids (c.new_id.result ∷ []) in
    record {
      ids = ids-next id (length c.loop-value.ids) c.loop-value.value c.new_id.result c.loop-value.ids c.push.new.self c.loop-value.invariant.ids c.loop-value.invariant.at c.new_id.ensures
          c.in_ok-push.ensures.ok ∙ ap (λ n. map id (range_with_len 0 n)) (sym long);
      at = omega (arith, long, c.loop-value.invariant.at);
    }
