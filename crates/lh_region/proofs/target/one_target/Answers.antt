use Rattle.std.proofs.Common.{◌≡◌, ◌∙◌, ◌∷◌, ◌-◌, List, true, false, length, take, drop, refl, sym, ap, subst, arith}
use Rattle.std.proofs.lemmas.Grind.{common_steps}
use Rattle.lh_term_cover.specs.Runs.{IsCover}
use Rattle.lh_region_def.specs.Regions as texts
use Rattle.lh_region.specs.declared.rows.EndRow.{EndRow}
use Rattle.lh_region.specs.Stands.{way_text}
use Rattle.lh_region_places.proofs.ToldValues.{head-tail}
use Rattle.lh_region.proofs.OneTarget.{first_way, alike-first, alike-end, first-is, answer-is}
use Rattle.lh_region.proofs.target.one_target.Goals as goal

pub returns-then-not-branch : goal.returns-then-not-branch
returns-then-not-branch c =
    let ends = c.args.rows.now.ends in let all = c.as_slice.result.now in let f = c.first-item.result in let n = c.in-Some.target in
    let os : List EndRow = take (length all - 1) (drop 1 all) in
    let e : ends ≡ f ∷ os = sym c.as_slice.ensures ∙ head-tail f all c.in-len1-up.len_at_least ∙ ap (λ (x : EndRow). x ∷ os) (sym c.first-item.is) in
    let waits = c.in-Some.ensures.target in
    let cover = subst (IsCover c.in_ok-cover.cover) (c.in-Some.ensures.parts ∙ ap texts.waited_parts (sym (first-is ends f os n e waits))) c.in_ok-cover.ensures in
    let k : texts.waits_alike n (first_way ends) (way_text c.end-item.result.way) ≡ false = sym (c.in_ok-waits_alike.ensures (texts.waited_parts (first_way ends)) cover) ∙ c.if-not-branch.true in
    sym (answer-is ends f os n e waits false (sym c.loop-end.invariant ∙ alike-first n (first_way ends) os c.loop-end.end-index c.end-item.result false c.loop-end-test.true c.end-item.is k))

pub returns : goal.returns
returns c =
    let ends = c.args.rows.now.ends in let all = c.as_slice.result.now in let f = c.first-item.result in let n = c.in-Some.target in
    let os : List EndRow = take (length all - 1) (drop 1 all) in
    let e : ends ≡ f ∷ os = sym c.as_slice.ensures ∙ head-tail f all c.in-len1-up.len_at_least ∙ ap (λ (x : EndRow). x ∷ os) (sym c.first-item.is) in
    let waits = c.in-Some.ensures.target in
    sym (answer-is ends f os n e waits true (sym c.loop-end.invariant ∙ alike-end n (first_way ends) os c.loop-end.end-index c.loop-end-test.false))

pub loop-end-init : goal.loop-end-init
loop-end-init c = refl

pub loop-end-preserved : goal.loop-end-preserved
loop-end-preserved c = grind (arith, common_steps)
