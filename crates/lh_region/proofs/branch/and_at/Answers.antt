use Rattle.lh_term.proofs.Swaps.{grows_on}
use Rattle.lh_region_joins.proofs.Conditions.{grows-none, condition-grown}
use Rattle.lh_region.proofs.BranchConditions.{test-asked, test-condition, still-grown, and-made}
use Rattle.lh_region.proofs.branch.and_at.Goals as goal

pub value_at-requires-clause-told : goal.value_at-requires-clause-told
value_at-requires-clause-told c = test-asked c.args.terms.now c.args.places.now.items c.args.value c.args.at c.requires.test

pub and-requires-clause-a_holds : goal.and-requires-clause-a_holds
and-requires-clause-a_holds c = condition-grown c.args.terms.now c.value_at.new.terms c.args.cond c.value_at.ensures.kept c.requires.cond

pub and-requires-clause-b_holds : goal.and-requires-clause-b_holds
and-requires-clause-b_holds c = test-condition c.args.terms.now c.value_at.new.terms c.args.places.now.items c.args.value c.args.at c.in_ok-test.test c.requires.test c.in_ok-test.ensures.term

pub returns : goal.returns
returns c =
    let ns = c.args.terms.now in let ms = c.value_at.new.terms in let os = c.and.new.terms in let ps = c.args.places.now.items in
    record {
      kept = grows_on ns ms os c.value_at.ensures.kept c.and.ensures.kept;
      same = c.in_ok-test.ensures.same;
      still = still-grown ns ms os ps c.value_at.new.places.items c.args.value c.args.at c.and.ensures.kept c.in_ok-test.ensures.still;
      made =
          and-made ns ms ms os ps c.args.value c.args.at c.args.cond c.in_ok-test.test c.in_ok-both.both c.value_at.ensures.kept (grows-none ms) c.requires.cond
          (test-condition ns ms ps c.args.value c.args.at c.in_ok-test.test c.requires.test c.in_ok-test.ensures.term) c.in_ok-test.ensures.term c.in_ok-both.ensures.made;
    }

pub returns-in_err-test-clause-kept : goal.returns-in_err-test-clause-kept
returns-in_err-test-clause-kept c = c.value_at.ensures.kept

pub returns-in_err-both-clause-kept : goal.returns-in_err-both-clause-kept
returns-in_err-both-clause-kept c = grows_on c.args.terms.now c.value_at.new.terms c.and.new.terms c.value_at.ensures.kept c.and.ensures.kept
