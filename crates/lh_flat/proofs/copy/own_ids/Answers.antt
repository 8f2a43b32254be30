use Rattle.std.proofs.Common.{◌≡◌, ◌+◌, ◌∷◌, [], length, ap, refl, sym, ◌∙◌, arith}
use Rattle.std.proofs.lemmas.List.{length-append}
use Rattle.lh_flat.specs.Building.{own_ids}
use Rattle.lh_flat.proofs.BuilderRoom.{ids-next}
use Rattle.lh_flat.proofs.copy.own_ids.Goals as goal

pub loop-value-preserved : goal.loop-value-preserved
loop-value-preserved c =
    let long : length c.push.new.self ≡ length c.loop-value.ids + 1 = ap length c.in_ok-push.ensures.ok ∙ length-append c.loop-value.ids (record { 0 = c.loop-value.value } ∷ []) in
    record {
      ids = ids-next (λ n. record { 0 = n }) (length c.loop-value.ids) c.loop-value.value (record { 0 = c.loop-value.value }) c.loop-value.ids c.push.new.self c.loop-value.invariant.ids
          c.loop-value.invariant.at refl c.in_ok-push.ensures.ok ∙ ap own_ids (sym long);
      at = omega (arith, long, c.loop-value.invariant.at);
    }
