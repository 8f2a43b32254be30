use Rattle.std.proofs.Common.{◌≡◌, List, ◌++◌, [], ap, sym, ◌∙◌, subst, arith}
use Rattle.std.proofs.lemmas.Grind.{common_steps}
use Rattle.lh_types.specs.Wish.{IsInOrder}
use Rattle.lh_eval_wishes.specs.declared.run.WishRun.{WishRun}
use Rattle.lh_eval_wishes.specs.Over.{over}
use Rattle.lh_eval_wishes.specs.Runs.{runs_wish, EachFilled}
use Rattle.lh_eval_wishes.proofs.RunLemmas.{filled-append}
use Rattle.lh_eval_wishes.proofs.OverlaySteps.{next-ordered, over-more, order-kept, overlaid-wish}
use Rattle.lh_eval_wishes.proofs.overlay.overlaid.Goals as goal

pub lay-requires-clause-behind : goal.lay-requires-clause-behind
lay-requires-clause-behind c =
    next-ordered (runs_wish c.loop-run.out.items) c.in-Some.run' c.loop-run.newer.items c.pop_front.new.self.items c.in-Some.ensures.items c.loop-run.invariant.before

pub loop-run-preserved : goal.loop-run-preserved
loop-run-preserved c = record {
  same = over-more (runs_wish c.loop-run.out.items ++ runs_wish c.loop-run.rest.items) (runs_wish c.lay.new.out.items ++ runs_wish c.lay.new.rest.items) _ c.in-Some.run' c.loop-run.newer.items
      c.pop_front.new.self.items c.in-Some.ensures.items c.in_ok-lay.ensures.wish c.loop-run.invariant.same;
  ordered = order-kept (runs_wish c.loop-run.out.items ++ runs_wish c.loop-run.rest.items) (runs_wish c.lay.new.out.items ++ runs_wish c.lay.new.rest.items) c.in-Some.run'
      c.loop-run.invariant.ordered c.in_ok-lay.ensures.wish;
  before = c.in_ok-lay.ensures.before (runs_wish c.pop_front.new.self.items)
      (subst (λ (x : List WishRun). IsInOrder (runs_wish c.loop-run.out.items ++ runs_wish x)) c.in-Some.ensures.items c.loop-run.invariant.before);
  out_filled = c.in_ok-lay.ensures.out_filled;
  rest_filled = c.in_ok-lay.ensures.rest_filled;
  newer_filled = (subst EachFilled c.in-Some.ensures.items c.loop-run.invariant.newer_filled).1;
}

pub returns-clause-wish : goal.returns-clause-wish
returns-clause-wish c =
    let e : c.loop-run.newer.items ≡ [] = grind (arith, common_steps) in
    overlaid-wish c.loop-run.out.items c.loop-run.rest.items c.append.new.self.items (runs_wish c.args.older.items) (runs_wish c.args.newer.items)
    (c.in_ok-append.ensures.items ∙ ap (λ (x : List WishRun). c.loop-run.out.items ++ x) c.into_vec.ensures.items)
    (ap (λ (x : List WishRun). over (runs_wish c.loop-run.out.items ++ runs_wish c.loop-run.rest.items) (runs_wish x)) (sym e) ∙ c.loop-run.invariant.same
    ∙ ap (λ (x : List WishRun). over (runs_wish x) (runs_wish c.from_vec-newer.result.items)) c.from_vec-rest.ensures.items
    ∙ ap (λ (x : List WishRun). over (runs_wish c.args.older.items) (runs_wish x)) c.from_vec-newer.ensures.items)

pub returns-clause-filled : goal.returns-clause-filled
returns-clause-filled c =
    subst EachFilled (sym (c.in_ok-append.ensures.items ∙ ap (λ (x : List WishRun). c.loop-run.out.items ++ x) c.into_vec.ensures.items))
    (filled-append c.loop-run.out.items c.loop-run.rest.items c.loop-run.invariant.out_filled c.loop-run.invariant.rest_filled)
