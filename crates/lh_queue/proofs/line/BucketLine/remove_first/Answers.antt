use Rattle.std.proofs.Common.{drop, ap, ◌∙◌}
use Rattle.lh_queue.specs.Line.{Buckets}
use Rattle.lh_queue.proofs.BucketLines.{drop-again}
use Rattle.lh_queue.proofs.line.BucketLine.remove_first.Goals as goal

pub returns-then-self-len-clause-items : goal.returns-then-self-len-clause-items
returns-then-self-len-clause-items c =
    c.drop-drain.ensures.items ∙ c.drain.ensures.kept
    ∙ drop-again c.self.inside.gone c.self.inside.all.items
    ∙ ap (λ (l : Buckets). drop 1 l.items) c.self.view_is

pub returns-else-self-len-clause-items : goal.returns-else-self-len-clause-items
returns-else-self-len-clause-items c =
    drop-again c.self.inside.gone c.self.inside.all.items ∙ ap (λ (l : Buckets). drop 1 l.items) c.self.view_is
