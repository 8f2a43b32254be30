use Rattle.std.proofs.Common.{◌≡◌, ◌<◌, ◌++◌, length, take, ap, ◌∙◌, arith}
use Rattle.std.proofs.lemmas.List.{take_all}
use Rattle.lh_types.specs.Wish.{due_bit}
use Rattle.lh_eval_wishes.specs.Runs.{run_wish, runs_wish, below, above}
use Rattle.lh_eval_wishes.proofs.RunLemmas.{low-more, high-more, joined, joined-filled}
use Rattle.lh_eval_wishes.proofs.runs.replace.Goals as goal

pub loop-r-preserved : goal.loop-r-preserved
loop-r-preserved c =
    let h : c.loop-r.r-index < length c.args.cut.now = omega arith in
    record {
      low = low-more (due_bit c.args.run.due c.args.run.lo) c.args.cut.now c.loop-r.r-index c.r-item.result (runs_wish c.args.runs.items) (runs_wish c.loop-r.runs.items)
          (runs_wish c.put_filled.new.runs.items) (run_wish c.in_ok-low.low) h c.r-item.is c.in_ok-low.ensures c.loop-r.invariant.low c.in_ok-put_filled.ensures.wish;
      high = high-more (due_bit c.args.run.due c.args.hi) c.args.cut.now c.loop-r.r-index c.r-item.result (runs_wish c.loop-r.rest.items) (runs_wish c.put_filled-in-loop-r.new.runs.items)
          (run_wish c.in_ok-high.high) h c.r-item.is c.in_ok-high.ensures c.loop-r.invariant.high c.in_ok-put_filled-2.ensures.wish;
      low_filled = c.in_ok-put_filled.ensures.filled c.loop-r.invariant.low_filled;
      high_filled = c.in_ok-put_filled-2.ensures.filled c.loop-r.invariant.high_filled;
    }

pub returns-clause-wish : goal.returns-clause-wish
returns-clause-wish c =
    let n : take c.loop-r.r-index c.args.cut.now ≡ c.args.cut.now = take_all c.loop-r.r-index c.args.cut.now (omega arith) in
    joined c.loop-r.runs.items c.loop-r.rest.items c.args.after.items c.append-2.new.self.items c.args.run (runs_wish c.args.runs.items)
    (below (due_bit c.args.run.due c.args.run.lo) (runs_wish c.args.cut.now)) (above (due_bit c.args.run.due c.args.hi) (runs_wish c.args.cut.now))
    (c.loop-r.invariant.low ∙ ap (λ x. runs_wish c.args.runs.items ++ below (due_bit c.args.run.due c.args.run.lo) (runs_wish x)) n)
    (c.loop-r.invariant.high ∙ ap (λ x. above (due_bit c.args.run.due c.args.hi) (runs_wish x)) n)
    (c.in_ok-append-2.ensures.items ∙ ap (λ x. x ++ c.args.after.items) (c.in_ok-append.ensures.items ∙ ap (λ x. x ++ c.loop-r.rest.items) c.in_ok-push.ensures.items))

pub returns-clause-filled : goal.returns-clause-filled
returns-clause-filled c =
    joined-filled c.loop-r.runs.items c.loop-r.rest.items c.args.after.items c.append-2.new.self.items c.args.run c.loop-r.invariant.low_filled c.loop-r.invariant.high_filled c.requires.after
    c.requires.filled
    (c.in_ok-append-2.ensures.items ∙ ap (λ x. x ++ c.args.after.items) (c.in_ok-append.ensures.items ∙ ap (λ x. x ++ c.loop-r.rest.items) c.in_ok-push.ensures.items))
