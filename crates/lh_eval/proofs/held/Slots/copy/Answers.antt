use Rattle.std.proofs.Common.{◌≡◌, ◌+◌, ◌++◌, [], ◌∷◌, List, Option, map, drop, ap, sym, ◌∙◌, append_assoc}
use Rattle.lh_unit.proofs.Lists.{drop-item}
use Rattle.lh_unit.specs.Held.{Held}
use Rattle.lh_eval.specs.HeldOf.{maybe_held}
use Rattle.lh_eval.proofs.held.Slots.copy.Goals as goal

pub loop-slot-preserved : goal.loop-slot-preserved
loop-slot-preserved c =
    let i = c.loop-slot.slot-index in
    let from = c.as_slice-from.result.now in
    let step = drop-item from i c.slot-item.result c.loop-slot-test.true c.slot-item.is in
    let more = map maybe_held (drop (i + 1) from) in
    let old = map maybe_held c.loop-slot.slots.items in
    ap (λ (xs : List (Option Held)). xs ++ more) c.in_ok-push_copy.ensures
    ∙ (let e : (old ++ maybe_held c.slot-item.result ∷ []) ++ more ≡ old ++ (maybe_held c.slot-item.result ∷ more) = simp append_assoc in e)
    ∙ ap (λ xs. old ++ map maybe_held xs) (sym step) ∙ c.loop-slot.invariant
