use Rattle.std.proofs.Common.{set, ap, ◌∙◌}
use Rattle.lh_queue.specs.Line.{Buckets}
use Rattle.lh_queue.proofs.BucketLines.{set-behind}
use Rattle.lh_queue.proofs.line.BucketLine.set.Goals as goal

pub returns-clause-items : goal.returns-clause-items
returns-clause-items c =
    set-behind c.self.inside.gone c.args.k c.self.inside.all.items c.args.bucket c.self.invariant
    ∙ ap (λ (l : Buckets). set l.items c.args.k c.args.bucket) c.self.view_is
