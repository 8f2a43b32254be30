use Rattle.lh_term.specs.Arena.{trees, tree_at}
use Rattle.lh_term.proofs.Swaps.{grows_on}
use Rattle.lh_region_joins.proofs.Conditions.{condition-grown}
use Rattle.lh_region.proofs.BranchConditions.{test-asked, test-condition, still-grown, not-made, and-made, and-not-made, is-grown}
use Rattle.lh_region.proofs.branch.sides_at.Goals as goal

pub value_at-requires-clause-told : goal.value_at-requires-clause-told
value_at-requires-clause-told c = test-asked c.args.terms.now c.args.places.now.items c.args.value c.args.at c.requires.test

pub not-requires : goal.not-requires
not-requires c = test-condition c.args.terms.now c.value_at.new.terms c.args.places.now.items c.args.value c.args.at c.in_ok-test.test c.requires.test c.in_ok-test.ensures.term

pub and-requires-clause-a_holds : goal.and-requires-clause-a_holds
and-requires-clause-a_holds c = condition-grown c.args.terms.now c.not.new.terms c.args.cond (grows_on c.args.terms.now c.value_at.new.terms c.not.new.terms c.value_at.ensures.kept c.not.ensures.kept)
    c.requires.cond

pub and-requires-clause-b_holds : goal.and-requires-clause-b_holds
and-requires-clause-b_holds c =
    not-made c.value_at.new.terms c.not.new.terms c.in_ok-test.test c.in_ok-opposite.opposite
    (test-condition c.args.terms.now c.value_at.new.terms c.args.places.now.items c.args.value c.args.at c.in_ok-test.test c.requires.test c.in_ok-test.ensures.term) c.in_ok-opposite.ensures.made

pub and-requires-2-clause-a_holds : goal.and-requires-2-clause-a_holds
and-requires-2-clause-a_holds c =
    let ns = c.args.terms.now in let ms = c.value_at.new.terms in let ls = c.not.new.terms in let ks = c.and.new.terms in
    condition-grown ns ks c.args.cond (grows_on ns ls ks (grows_on ns ms ls c.value_at.ensures.kept c.not.ensures.kept) c.and.ensures.kept) c.requires.cond

pub and-requires-2-clause-b_holds : goal.and-requires-2-clause-b_holds
and-requires-2-clause-b_holds c =
    let ns = c.args.terms.now in let ms = c.value_at.new.terms in let ls = c.not.new.terms in let ks = c.and.new.terms in
    condition-grown ms ks c.in_ok-test.test (grows_on ms ls ks c.not.ensures.kept c.and.ensures.kept)
    (test-condition ns ms c.args.places.now.items c.args.value c.args.at c.in_ok-test.test c.requires.test c.in_ok-test.ensures.term)

pub returns : goal.returns
returns c =
    let ns = c.args.terms.now in let ms = c.value_at.new.terms in let ls = c.not.new.terms in let ks = c.and.new.terms in let os = c.and-2.new.terms in
    let ps = c.args.places.now.items in let v = c.args.value in let at = c.args.at in let t = c.in_ok-test.test in
    let to_ls = grows_on ns ms ls c.value_at.ensures.kept c.not.ensures.kept in
    let to_ks = grows_on ns ls ks to_ls c.and.ensures.kept in
    let from_ms = grows_on ms ls ks c.not.ensures.kept c.and.ensures.kept in
    let d = test-condition ns ms ps v at t c.requires.test c.in_ok-test.ensures.term in
    record {
      kept = grows_on ns ks os to_ks c.and-2.ensures.kept;
      same = c.in_ok-test.ensures.same;
      still = still-grown ns ms os ps c.value_at.new.places.items v at (grows_on ms ks os from_ms c.and-2.ensures.kept) c.in_ok-test.ensures.still;
      zero =
          is-grown ns ks os ps v at (tree_at (trees ns) c.args.cond) c.in_ok-zero.zero c.and-2.ensures.kept
          (and-not-made ns ms ls ks ps v at c.args.cond t c.in_ok-opposite.opposite c.in_ok-zero.zero to_ls c.requires.cond c.in_ok-test.ensures.term c.in_ok-opposite.ensures.made
          c.in_ok-zero.ensures.made);
      one = and-made ns ms ks os ps v at c.args.cond t c.in_ok-one.one to_ks from_ms c.requires.cond d c.in_ok-test.ensures.term c.in_ok-one.ensures.made;
    }

pub returns-in_err-test-clause-kept : goal.returns-in_err-test-clause-kept
returns-in_err-test-clause-kept c = c.value_at.ensures.kept

pub returns-in_err-opposite-clause-kept : goal.returns-in_err-opposite-clause-kept
returns-in_err-opposite-clause-kept c = grows_on c.args.terms.now c.value_at.new.terms c.not.new.terms c.value_at.ensures.kept c.not.ensures.kept

pub returns-in_err-zero-clause-kept : goal.returns-in_err-zero-clause-kept
returns-in_err-zero-clause-kept c =
    let ns = c.args.terms.now in let ms = c.value_at.new.terms in let ls = c.not.new.terms in
    grows_on ns ls c.and.new.terms (grows_on ns ms ls c.value_at.ensures.kept c.not.ensures.kept) c.and.ensures.kept

pub returns-in_err-one-clause-kept : goal.returns-in_err-one-clause-kept
returns-in_err-one-clause-kept c =
    let ns = c.args.terms.now in let ms = c.value_at.new.terms in let ls = c.not.new.terms in let ks = c.and.new.terms in
    grows_on ns ks c.and-2.new.terms (grows_on ns ls ks (grows_on ns ms ls c.value_at.ensures.kept c.not.ensures.kept) c.and.ensures.kept) c.and-2.ensures.kept
