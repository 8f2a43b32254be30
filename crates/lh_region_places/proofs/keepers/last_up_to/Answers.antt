use Rattle.std.proofs.Common.{◌∙◌, true, false, sym, true≢false}
use Rattle.lh_region_places.specs.Keepers.{keeper}
use Rattle.lh_region_places.proofs.LastKeeper.{within-place, up-to-last, of-value}
use Rattle.lh_region_places.proofs.keepers.last_up_to.Goals as goal

pub returns-in-None : goal.returns-in-None
returns-in-None c = λ i l h. absurd (true≢false (sym h ∙ (c.range.ensures.in_range tt).5 c.in-None.ensures.steps.0 (keeper c.args.value i) (tt, within-place c.args.value i c.args.place l)))

pub returns-then-last-value : goal.returns-then-last-value
returns-then-last-value c = λ i l h.
    let last = (c.range.ensures.in_range tt).4 _ _ c.in-Some.ensures.steps (keeper c.args.value i) (tt, within-place c.args.value i c.args.place l) h in
    up-to-last c.args.value i c.in-Some.last.now c.if-last-value.true last

pub returns-else-last-value : goal.returns-else-last-value
returns-else-last-value c = λ i l h.
    let r = c.range.ensures.in_range tt in
    let last = r.4 _ _ c.in-Some.ensures.steps (keeper c.args.value i) (tt, within-place c.args.value i c.args.place l) h in
    absurd (c.if-last-value.false (of-value c.args.value i c.args.place c.in-Some.last.now (r.3 _ _ c.in-Some.ensures.steps).0.1 last))
