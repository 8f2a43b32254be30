use Rattle.lh_eval_wishes.proofs.RunLemmas.{covered-alone}
use Rattle.lh_eval_wishes.proofs.runs.with_second.Goals as goal

pub returns-then-is_covered-clause-wish : goal.returns-then-is_covered-clause-wish
returns-then-is_covered-clause-wish c =
    covered-alone c.args.first c.args.run (c.is_covered.ensures.from c.if-is_covered.true) (c.is_covered.ensures.below c.if-is_covered.true) c.requires.runs.ordered
