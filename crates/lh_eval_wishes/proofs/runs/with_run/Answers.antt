use Rattle.std.proofs.Common.{◌≡◌, ℕ, List, ◌+◌, ◌<◌, length, take, drop, refl, ap, sym, ◌∙◌, subst, rules, arith}
use Rattle.lh_types.specs.Wish.{due_bit}
use Rattle.lh_eval_wishes.specs.Runs.{runs_wish, AllBelow, AllFrom, EachFilled}
use Rattle.lh_eval_wishes.specs.declared.run.WishRun.{WishRun}
use Rattle.lh_eval_wishes.proofs.RunLemmas.{inserted, inserted-filled, covered, covered-filled, replaced, filled-take, filled-drop, if-ok}
use Rattle.lh_eval_wishes.proofs.runs.with_run.Goals as goal

pub returns-then-from-to-clause-wish : goal.returns-then-from-to-clause-wish
returns-then-from-to-clause-wish c =
    let n : c.args.run.lo + c.len.result ≡ c.args.run.lo + length c.args.run.bits = ap (λ x. c.args.run.lo + x) c.len.ensures in
    let e : c.place_from-to.result ≡ c.count_below-from.result = search rules in
    inserted c.args.runs.items c.insert.new.self.items c.count_below-from.result (c.args.run.lo + c.len.result) c.args.run n c.requires.runs.ordered
    (subst (λ (x : List WishRun). AllBelow (due_bit c.args.run.due c.args.run.lo) (runs_wish (take c.count_below-from.result x))) c.as_slice.ensures.value c.count_below-from.ensures.below)
    (subst (λ (k : ℕ). AllFrom (due_bit c.args.run.due (c.args.run.lo + c.len.result)) (runs_wish (drop k c.args.runs.items))) e
    (subst (λ (x : List WishRun). AllFrom (due_bit c.args.run.due (c.args.run.lo + c.len.result)) (runs_wish (drop c.place_from-to.result x))) c.as_slice-2.ensures.value
    c.place_from-to.ensures.above))
    c.in_ok-insert.ensures.items

pub returns-then-from-to-clause-filled : goal.returns-then-from-to-clause-filled
returns-then-from-to-clause-filled c = inserted-filled c.args.runs.items c.insert.new.self.items c.count_below-from.result c.args.run c.requires.runs.filled c.requires.filled
    c.in_ok-insert.ensures.items

pub returns-then-is_covered-clause-wish : goal.returns-then-is_covered-clause-wish
returns-then-is_covered-clause-wish c =
    let n : c.args.run.lo + c.len.result ≡ c.args.run.lo + length c.args.run.bits = ap (λ x. c.args.run.lo + x) c.len.ensures in
    let j : c.place_from-to.result ≡ c.count_below-from.result + 1 = search rules in
    let l : c.count_below-from.result < length c.args.runs.items = search (rules, arith) in
    covered c.args.runs.items _ c.count_below-from.result c.place_from-to.result (c.args.run.lo + c.len.result) c.index.result.now c.args.run j l c.index.ensures n c.requires.runs.ordered
    (subst (λ (x : List WishRun). AllBelow (due_bit c.args.run.due c.args.run.lo) (runs_wish (take c.count_below-from.result x))) c.as_slice.ensures.value c.count_below-from.ensures.below)
    (subst (λ (x : List WishRun). AllFrom (due_bit c.args.run.due (c.args.run.lo + c.len.result)) (runs_wish (drop c.place_from-to.result x))) c.as_slice-2.ensures.value c.place_from-to.ensures.above)
    (c.is_covered.ensures.from c.if-is_covered.true) (c.is_covered.ensures.below c.if-is_covered.true) refl

pub returns-then-is_covered-clause-filled : goal.returns-then-is_covered-clause-filled
returns-then-is_covered-clause-filled c =
    let l : c.count_below-from.result < length c.args.runs.items = search (rules, arith) in
    covered-filled c.args.runs.items _ c.count_below-from.result c.args.run l c.requires.runs.filled c.requires.filled refl

pub replace-requires-clause-before : goal.replace-requires-clause-before
replace-requires-clause-before c =
    subst EachFilled (sym c.in_ok-cut.ensures.items) (filled-take c.count_below-from.result c.split_off.new.self.items
    (subst EachFilled (sym c.in_ok-after.ensures.items) (filled-take c.place_from-to.result c.args.runs.items c.requires.runs.filled)))

pub replace-requires-clause-after : goal.replace-requires-clause-after
replace-requires-clause-after c = subst EachFilled (sym c.in_ok-after.ensures.tail) (filled-drop c.place_from-to.result c.args.runs.items c.requires.runs.filled)

pub returns-clause-wish : goal.returns-clause-wish
returns-clause-wish c =
    let n : c.args.run.lo + c.len.result ≡ c.args.run.lo + length c.args.run.bits = ap (λ x. c.args.run.lo + x) c.len.ensures in
    if-ok c.replace.result _ _ (λ rs. replaced c.args.runs.items c.split_off.new.self.items c.split_off-2.new.self.items c.as_slice-3.result.now c.in_ok-after.after.items c.count_below-from.result
    c.place_from-to.result (c.args.run.lo + c.len.result) c.args.run (runs_wish rs.items)
    c.place_from-to.ensures.from n c.requires.runs.ordered
    (subst (λ (x : List WishRun). AllBelow (due_bit c.args.run.due c.args.run.lo) (runs_wish (take c.count_below-from.result x))) c.as_slice.ensures.value c.count_below-from.ensures.below)
    (subst (λ (x : List WishRun). AllFrom (due_bit c.args.run.due (c.args.run.lo + c.len.result)) (runs_wish (drop c.place_from-to.result x))) c.as_slice-2.ensures.value c.place_from-to.ensures.above)
    c.in_ok-after.ensures.items c.in_ok-after.ensures.tail c.in_ok-cut.ensures.items (c.as_slice-3.ensures.value ∙ c.in_ok-cut.ensures.tail)) c.replace.ensures.wish
