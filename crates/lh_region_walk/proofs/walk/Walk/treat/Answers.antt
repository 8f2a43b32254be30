use Rattle.std.proofs.Common.{◌≡◌, ◌∙◌, ◌+◌, ℕ, List, get_or, ap, subst}
use Rattle.std.proofs.lemmas.Result.{err_from_is_err_and, IfErr-weaker, on_ok_weaker}
use Rattle.std.proofs.lemmas.Option.{slice_get_within}
use Rattle.lh_flat.specs.declared.flat.FlatBlock.{FlatBlock}
use Rattle.lh_region_walk.specs.Merges.{EndsLines, EndsLinesFor}
use Rattle.lh_region_walk.specs.Walked.{Treats, TreatsNot}
use Rattle.lh_region_walk.proofs.Treated.{can-treat-counted, lines-after, lines-end, treats, treats-not, no-memory}
use Rattle.lh_term.proofs.Swaps.{grows_on}
use Rattle.lh_region_walk.proofs.walk.Walk.treat.Goals as goal

pub take_merges-requires : goal.take_merges-requires
take_merges-requires c = can-treat-counted c.args.terms.now c.args.region.now c.args.self.now c.args.at c.in-Some.insts c.requires

pub take_lines-requires-clause-can : goal.take_lines-requires-clause-can
take_lines-requires-clause-can c =
    let d = c.index-as_slice-at.result in
    lines-after c.args.terms.now c.take_merges.new.terms c.args.region.now c.args.self.now c.take_merges.new.self c.args.at c.in-Some.insts d
    (subst (λ (bs : List FlatBlock). d ≡ get_or bs c.args.at.block d) c.as_slice.ensures c.index-as_slice-at.is) c.as_slice-2.result.now c.as_slice-2.ensures c.in_ok-take_merges.ensures.taken
    c.requires

pub take_lines-requires-clause-last : goal.take_lines-requires-clause-last
take_lines-requires-clause-last c =
    let d = c.index-as_slice-at.result in
    lines-end c.args.terms.now c.take_merges.new.terms c.args.region.now c.args.self.now c.take_merges.new.self c.args.at c.in-Some.insts d
    (subst (λ (bs : List FlatBlock). d ≡ get_or bs c.args.at.block d) c.as_slice.ensures c.index-as_slice-at.is) c.as_slice-2.result.now c.as_slice-2.ensures c.in_ok-take_merges.ensures.taken
    c.requires

pub returns-clause-treated : goal.returns-clause-treated
returns-clause-treated c =
    let ns = c.args.terms.now in let ms = c.take_merges.new.terms in let os = c.take_lines.new.terms in
    let r = c.args.region.now in let w = c.args.self.now in let q = c.take_merges.new.self in let p = c.take_lines.new.self in let at = c.args.at in
    let d = c.index-as_slice-at.result in let ls = c.as_slice-2.result.now in
    on_ok_weaker {P = EndsLines ms r q at ls os p} {Q = Treats ns r w at os p} c.take_lines.result
    (λ e. treats ns ms r w q at c.in-Some.insts d (subst (λ (bs : List FlatBlock). d ≡ get_or bs at.block d) c.as_slice.ensures c.index-as_slice-at.is) ls c.as_slice-2.ensures
    c.in_ok-take_merges.ensures.taken
    (c.in-Some.ensures.0 ∙ ap (λ (k : ℕ). w.insts + k) c.len.ensures) c.in-Some.ensures.1 os p e)
    c.take_lines.ensures.left

pub returns-clause-cause : goal.returns-clause-cause
returns-clause-cause c =
    let ns = c.args.terms.now in let ms = c.take_merges.new.terms in
    let r = c.args.region.now in let w = c.args.self.now in let q = c.take_merges.new.self in let at = c.args.at in
    let d = c.index-as_slice-at.result in let ls = c.as_slice-2.result.now in
    IfErr-weaker c.take_lines.result (EndsLinesFor ms r q at ls) (TreatsNot ns r w at)
    (λ x e. treats-not ns ms r w q at c.in-Some.insts d (subst (λ (bs : List FlatBlock). d ≡ get_or bs at.block d) c.as_slice.ensures c.index-as_slice-at.is) ls c.as_slice-2.ensures
    c.in_ok-take_merges.ensures.taken
    (c.in-Some.ensures.0 ∙ ap (λ (k : ℕ). w.insts + k) c.len.ensures) c.in-Some.ensures.1 x e)
    c.take_lines.ensures.cause

pub returns-in_err-take_merges-clause-kept : goal.returns-in_err-take_merges-clause-kept
returns-in_err-take_merges-clause-kept c = c.take_merges.ensures.kept

pub returns-clause-kept : goal.returns-clause-kept
returns-clause-kept c = grows_on c.args.terms.now c.take_merges.new.terms c.take_lines.new.terms c.take_merges.ensures.kept c.take_lines.ensures.kept

pub returns-in_err-take_merges-clause-cause : goal.returns-in_err-take_merges-clause-cause
returns-in_err-take_merges-clause-cause c =
    let p = err_from_is_err_and c.from_residual.result c.from_residual.ensures.1 in
    rw (p.1, p.2) (no-memory c.args.terms.now c.args.region.now c.args.self.now c.args.at)

pub bounds-as_slice-at : goal.bounds-as_slice-at
bounds-as_slice-at c =
    rw c.as_slice.ensures (slice_get_within c.args.region.now.flat.now.blocks c.args.at.block c.requires.block c.requires.opened.stands.block)
