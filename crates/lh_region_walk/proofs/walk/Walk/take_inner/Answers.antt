use Rattle.std.proofs.Common.{◌∙◌, ◌+◌, ◌++◌, ◌∷◌, [], List, take, refl, ap, sym, subst}
use Rattle.std.proofs.lemmas.List.{take_more, take_all}
use Rattle.lh_flat.specs.declared.flat.FlatInst.{FlatInst}
use Rattle.lh_region_walk.specs.Merges.{TakesLines}
use Rattle.lh_term.proofs.Swaps.{grows_on}
use Rattle.lh_region_walk.proofs.Treated.{lines-none, lines-next, lines-can, line-inner}
use Rattle.lh_region_walk.proofs.walk.Walk.take_inner.Goals as goal

pub loop-line-init : goal.loop-line-init
loop-line-init c = lines-none c.args.terms.now c.args.region.now c.args.self.now c.args.at _ refl

pub take-requires-clause-can : goal.take-requires-clause-can
take-requires-clause-can c =
    lines-can c.args.terms.now c.loop-line.terms c.args.region.now c.args.self.now c.loop-line.self c.args.at c.args.lines.now c.loop-line.line-index c.line-item.result c.line-item.result
    c.loop-line-test.true c.line-item.is c.loop-line.invariant c.requires.can

pub take-requires-clause-inner : goal.take-requires-clause-inner
take-requires-clause-inner c = line-inner c.args.lines.now c.loop-line.line-index c.line-item.result c.line-item.result c.loop-line-test.true c.line-item.is c.requires.inner

pub loop-line-preserved : goal.loop-line-preserved
loop-line-preserved c =
    let i = c.loop-line.line-index in let ls = c.args.lines.now in let l = c.line-item.result in
    lines-next c.args.terms.now c.loop-line.terms c.take.new.terms c.args.region.now c.args.self.now c.loop-line.self c.take.new.self c.args.at (take i ls) (take (i + 1) ls) l
    (take_more ls i l c.loop-line-test.true ∙ ap (λ (x : FlatInst). take i ls ++ x ∷ []) (sym c.line-item.is)) c.take.ensures.kept c.in_ok-take.ensures.taken c.loop-line.invariant

pub returns-clause-taken : goal.returns-clause-taken
returns-clause-taken c =
    subst (λ (ls : List FlatInst). TakesLines c.args.terms.now c.args.region.now c.args.self.now c.args.at ls c.loop-line.terms c.loop-line.self)
    (take_all c.loop-line.line-index c.args.lines.now c.loop-line-test.false) c.loop-line.invariant.takes

pub returns-in_err-take-clause-kept : goal.returns-in_err-take-clause-kept
returns-in_err-take-clause-kept c = grows_on c.args.terms.now c.loop-line.terms c.take.new.terms c.loop-line.invariant.grows c.take.ensures.kept

pub returns-clause-kept : goal.returns-clause-kept
returns-clause-kept c = c.loop-line.invariant.grows
