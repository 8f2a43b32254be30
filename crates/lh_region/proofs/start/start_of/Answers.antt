use Rattle.std.proofs.Common.{◌∙◌, ◌+◌, ◌++◌, ◌∷◌, [], take, sym, ap}
use Rattle.std.proofs.lemmas.List.{take_more}
use Rattle.lh_flat.specs.declared.flat.FlatInst.{FlatInst}
use Rattle.lh_term.proofs.Swaps.{grows_on}
use Rattle.lh_region.proofs.EntryConstants.{start-next}
use Rattle.lh_region.proofs.start.start_of.Goals as goal

pub loop-line-preserved : goal.loop-line-preserved
loop-line-preserved c =
    let items = c.lines_left-line-items.result.now in let i = c.loop-line.line-index in
    start-next _ _ _ _ _ _ (take i items) (take (i + 1) items) c.line-item.result
    (take_more items i c.line-item.result c.loop-line-test.true ∙ ap (λ (x : FlatInst). take i items ++ x ∷ []) (sym c.line-item.is)) c.take_constant.ensures.kept
    c.in_ok-take_constant.ensures.taken c.loop-line.invariant

pub returns-in_err-take_constant-clause-kept : goal.returns-in_err-take_constant-clause-kept
returns-in_err-take_constant-clause-kept c =
    grows_on c.args.terms.now c.loop-line.terms c.take_constant.new.terms c.loop-line.invariant.grows c.take_constant.ensures.kept
