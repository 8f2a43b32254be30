use Rattle.std.proofs.Common.{◌≡◌, ◌++◌, ap, ◌∙◌, rules}
use Rattle.lh_eval_wishes.specs.Runs.{run_wish}
use Rattle.lh_types.specs.Wish.{writes_wish}
use Rattle.lh_eval_wishes.proofs.RunLemmas.{on-ok}
use Rattle.lh_eval_wishes.proofs.GroupSteps.{behind, alone, behind-apart, afresh-apart}
use Rattle.lh_eval_wishes.proofs.grouping.add_behind.Goals as goal

pub returns-then-eq-clause-wish : goal.returns-then-eq-clause-wish
returns-then-eq-clause-wish c =
    let p : c.args.last.0 ≡ c.args.run.due = search rules in
    on-ok c.push_due.result _ _ (behind c.args.all.now.items c.push_due.new.all.items c.args.last c.push_run.new.self c.args.run p c.in_ok-push_run.ensures.ok) c.push_due.ensures

pub returns-then-eq-clause-apart : goal.returns-then-eq-clause-apart
returns-then-eq-clause-apart c =
    λ a. on-ok c.push_due.result _ _ (λ h. behind-apart c.args.all.now.items c.push_due.new.all.items c.args.last c.push_run.new.self c.args.run c.requires c.in_ok-push_run.ensures.ok h a)
    c.push_due.ensures

pub returns-clause-wish : goal.returns-clause-wish
returns-clause-wish c =
    on-ok c.push_new.result _ _ (λ h. alone c.push_due-2.new.all.items c.push_new.new.all.items c.args.run h ∙ ap (λ z. writes_wish z ++ run_wish c.args.run) c.in_ok-push_due.ensures)
    c.push_new.ensures

pub returns-clause-apart : goal.returns-clause-apart
returns-clause-apart c =
    let n : c.args.last.0 ≡ c.args.run.due → ⊥ = search rules in
    λ a. on-ok c.push_new.result _ _ (λ h. afresh-apart c.args.all.now.items c.push_due-2.new.all.items c.push_new.new.all.items c.args.last c.args.run c.requires n c.in_ok-push_due.ensures h a)
    c.push_new.ensures
