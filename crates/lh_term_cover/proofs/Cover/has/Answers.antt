use Rattle.std.proofs.Common.{rules, of_calls}
use Rattle.std.proofs.lemmas.Fn.{always_returns_same}
use Rattle.lh_term_cover.specs.Runs.{starts_by}
use Rattle.lh_term_cover.proofs.Within.{parted_at, covers_before, covers_at}
use Rattle.lh_term_cover.proofs.Cover.has.Goals as goal

pub returns-then-after-eq0 : goal.returns-then-after-eq0
returns-then-after-eq0 c = λ parts h.
    covers_before c.args.self.now parts c.args.part.now c.run_of-run.result c.deref.result.now c.partition_point-after.result c.run_of-run.ensures c.deref.ensures.value c.if-after-eq0.true h
    c.if-run.false
    (c.partition_point-after.ensures.partitioned (λ s. starts_by s c.run_of-run.result) (always_returns_same _ _ _ (λ a r f k. search (rules, of_calls)))
    (parted_at c.args.self.now parts c.run_of-run.result c.deref.result.now c.deref.ensures.value h))

pub returns : goal.returns
returns c = λ parts h.
    covers_at c.args.self.now parts c.args.part.now c.run_of-run.result c.deref.result.now c.partition_point-after.result c.index.result.now c.is_within.result c.run_of-run.ensures
    c.deref.ensures.value c.if-after-eq0.false c.partition_point-after.ensures.bound h c.if-run.false
    (c.partition_point-after.ensures.partitioned (λ s. starts_by s c.run_of-run.result) (always_returns_same _ _ _ (λ a r f k. search (rules, of_calls)))
    (parted_at c.args.self.now parts c.run_of-run.result c.deref.result.now c.deref.ensures.value h))
    c.index.ensures c.is_within.ensures
