use Rattle.std.proofs.Common.{◌≡◌, List, ap, ◌∙◌, subst, IsPermutation}
use Rattle.lh_term_cover.specs.declared.runs.CoverRun.{CoverRun}
use Rattle.lh_term_cover.specs.Runs.{runs_of, merged}
use Rattle.lh_term_cover.proofs.MergedRanges.{is_cover}
use Rattle.lh_term_cover.proofs.Cover.new.Goals as goal

pub returns : goal.returns
returns c =
    let from : c.in_ok-sorted.sorted.items ≡ runs_of c.args.parts.now = c.in_ok-sorted.ensures ∙ ap runs_of c.as_slice.ensures in
    is_cover (record { runs = c.in_ok-runs.runs }) c.args.parts.now c.sort_unstable.new.self.items
    (subst (λ (rs : List CoverRun). IsPermutation rs c.sort_unstable.new.self.items) from c.sort_unstable.ensures.permutation)
    c.sort_unstable.ensures.sorted
    (c.in_ok-runs.ensures ∙ ap merged c.as_slice-2.ensures.value)
