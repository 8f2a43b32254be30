use Rattle.std.proofs.Common.{◌≡◌, ◌++◌, length, ap, sym, ◌∙◌, rules}
use Rattle.std.proofs.lemmas.List.{nil_from_length, append-nil}
use Rattle.lh_eval_wishes.specs.Runs.{run_wish}
use Rattle.lh_types.specs.Wish.{writes_wish}
use Rattle.lh_eval_wishes.proofs.RunLemmas.{is_filled-by, on-ok}
use Rattle.lh_eval_wishes.proofs.GroupSteps.{alone, first-apart}
use Rattle.lh_eval_wishes.proofs.grouping.add.Goals as goal

pub returns-in-None-clause-wish : goal.returns-in-None-clause-wish
returns-in-None-clause-wish c =
    on-ok c.push_new.result _ _ (λ h. alone c.pop.new.self.items c.push_new.new.all.items c.args.run h
    ∙ ap (λ z. writes_wish z ++ run_wish c.args.run) (sym (c.in-None.ensures.items ∙ append-nil c.pop.new.self.items))) c.push_new.ensures

pub returns-in-None-clause-apart : goal.returns-in-None-clause-apart
returns-in-None-clause-apart c =
    let n : length c.args.run.bits ≡ 0 → ⊥ = search rules in
    let z : length c.pop.new.self.items ≡ 0 = search rules in
    λ _. on-ok c.push_new.result _ _ (λ h. first-apart c.pop.new.self.items c.push_new.new.all.items c.args.run (is_filled-by c.args.run.bits n) (nil_from_length c.pop.new.self.items z) h)
    c.push_new.ensures
