use Rattle.std.proofs.Common.{◌≡◌, List, ◌+◌, ◌-◌, ◌≤◌, length, drop, ap, ◌∙◌, rules, arith}
use Rattle.std.specs.List.{insert}
use Rattle.std.proofs.lemmas.List.{length-drop}
use Rattle.lh_queue.specs.Line.{Buckets}
use Rattle.lh_queue.specs.declared.queue.Bucket.{Bucket}
use Rattle.lh_queue.proofs.BucketLines.{insert-behind, insert-before}
use Rattle.lh_queue.proofs.line.BucketLine.insert.Goals as goal

pub returns-clause-items : goal.returns-clause-items
returns-clause-items c =
    ap (drop c.self.inside.gone) c.in-Ok.ensures.items
    ∙ insert-behind c.self.inside.gone c.args.k c.self.inside.all.items c.args.bucket c.self.invariant
    ∙ ap (λ (l : Buckets). insert l.items c.args.k c.args.bucket) c.self.view_is
    ∙ ap (λ (l : List Bucket). insert l c.args.k c.args.bucket) c.make_way.ensures.items

pub returns-then-len-capacity-clause-items : goal.returns-then-len-capacity-clause-items
returns-then-len-capacity-clause-items c =
    let one : c.self.inside.gone - 1 + 1 ≡ c.self.inside.gone = search (rules, arith) in
    let count = ap (λ (l : Buckets). length l.items) c.self.view_is ∙ ap length c.make_way.ensures.items in
    let left = length-drop c.self.inside.gone c.self.inside.all.items in
    let within : c.self.inside.gone + c.args.k ≤ length c.self.inside.all.items = omega arith in
    insert-before (c.self.inside.gone - 1) c.self.inside.gone c.args.k c.self.inside.all.items c.copy_within.new.self.items c.args.bucket one within c.copy_within.ensures.items
    ∙ ap (λ (l : Buckets). insert l.items c.args.k c.args.bucket) c.self.view_is
    ∙ ap (λ (l : List Bucket). insert l c.args.k c.args.bucket) c.make_way.ensures.items
