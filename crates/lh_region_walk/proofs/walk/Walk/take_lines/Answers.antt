use Rattle.std.proofs.Common.{◌-◌, length, take}
use Rattle.std.proofs.lemmas.Result.{IfErr-weaker, on_ok_weaker}
use Rattle.lh_region_walk.specs.Merges.{EndsLines, EndsLinesFor}
use Rattle.lh_region_walk.specs.Walked.{EndsLine, EndsFor}
use Rattle.lh_region_walk.proofs.Treated.{last-split, inner-can, inner-nowhere, last-leads, last-can, ends-lines, ends-for}
use Rattle.lh_term.proofs.Swaps.{grows_on}
use Rattle.lh_region_walk.proofs.walk.Walk.take_lines.Goals as goal

pub take_inner-requires-clause-can : goal.take_inner-requires-clause-can
take_inner-requires-clause-can c =
    let ls = c.args.lines.now in let l = c.last-item.result in
    inner-can c.args.terms.now c.args.region.now c.args.self.now c.args.at ls (take (length ls - 1) ls) l (last-split ls l c.in-len1-up.len_at_least c.last-item.is) c.requires.can

pub take_inner-requires-clause-inner : goal.take_inner-requires-clause-inner
take_inner-requires-clause-inner c =
    let ls = c.args.lines.now in let l = c.last-item.result in
    inner-nowhere c.args.terms.now c.args.region.now c.args.self.now c.args.at ls (take (length ls - 1) ls) l (last-split ls l c.in-len1-up.len_at_least c.last-item.is) c.requires.last

pub leave-requires-clause-can : goal.leave-requires-clause-can
leave-requires-clause-can c =
    let ls = c.args.lines.now in let l = c.last-item.result in
    last-can c.args.terms.now c.args.region.now c.args.self.now c.args.at ls (take (length ls - 1) ls) l (last-split ls l c.in-len1-up.len_at_least c.last-item.is) c.take_inner.new.terms
    c.take_inner.new.self c.in_ok-take_inner.ensures.taken c.requires.can

pub leave-requires-clause-last : goal.leave-requires-clause-last
leave-requires-clause-last c =
    let ls = c.args.lines.now in let l = c.last-item.result in
    last-leads c.args.terms.now c.args.region.now c.args.self.now c.args.at ls (take (length ls - 1) ls) l (last-split ls l c.in-len1-up.len_at_least c.last-item.is) c.requires.last

pub returns-clause-left : goal.returns-clause-left
returns-clause-left c =
    let ns = c.args.terms.now in let ms = c.take_inner.new.terms in let os = c.leave.new.terms in
    let r = c.args.region.now in let w = c.args.self.now in let q = c.take_inner.new.self in let p = c.leave.new.self in let at = c.args.at in
    let ls = c.args.lines.now in let l = c.last-item.result in
    on_ok_weaker {P = EndsLine ms r q at l os p} {Q = EndsLines ns r w at ls os p} c.leave.result
    (λ e. ends-lines ns r w at ls (take (length ls - 1) ls) l (last-split ls l c.in-len1-up.len_at_least c.last-item.is) ms q c.in_ok-take_inner.ensures.taken os p e) c.leave.ensures.left

pub returns-clause-cause : goal.returns-clause-cause
returns-clause-cause c =
    let ns = c.args.terms.now in let ms = c.take_inner.new.terms in
    let r = c.args.region.now in let w = c.args.self.now in let q = c.take_inner.new.self in let at = c.args.at in
    let ls = c.args.lines.now in let l = c.last-item.result in
    IfErr-weaker c.leave.result (EndsFor ms r q at l) (EndsLinesFor ns r w at ls)
    (λ x e. ends-for ns r w at ls (take (length ls - 1) ls) l (last-split ls l c.in-len1-up.len_at_least c.last-item.is) ms q c.in_ok-take_inner.ensures.taken x e) c.leave.ensures.cause

pub returns-in_err-take_inner-clause-kept : goal.returns-in_err-take_inner-clause-kept
returns-in_err-take_inner-clause-kept c = c.take_inner.ensures.kept

pub returns-clause-kept : goal.returns-clause-kept
returns-clause-kept c = grows_on c.args.terms.now c.take_inner.new.terms c.leave.new.terms c.take_inner.ensures.kept c.leave.ensures.kept
