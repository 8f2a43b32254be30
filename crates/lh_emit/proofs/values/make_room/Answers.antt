use Rattle.std.proofs.Common.{◌≡◌, ◌+◌, length, get_or, ◌∷◌, [], None, ap, ◌∙◌, arith, length-append}
use Rattle.lh_emit.proofs.ValuePlaces.{none-more}
use Rattle.lh_emit.proofs.values.make_room.Goals as goal

pub loop-items-preserved : goal.loop-items-preserved
loop-items-preserved c = λ x. ap (λ xs. get_or xs x None) c.in_ok-push_none.ensures ∙ none-more c.loop-items.items.items x ∙ c.loop-items.invariant x

pub loop-items-smaller : goal.loop-items-smaller
loop-items-smaller c =
    let e : length c.push_none.new.items.items ≡ length c.loop-items.items.items + 1 = ap length c.in_ok-push_none.ensures ∙ length-append c.loop-items.items.items (None ∷ []) in
    omega (arith, e)
