use Rattle.std.proofs.Common.{◌∷◌, ◌∙◌, ap, sym}
use Rattle.std.proofs.lemmas.Option.{get_or_from_slice_get}
use Rattle.lh_queue.proofs.Storage.{stored, some_bucket, first_there, taken_on, taken_out, seen}
use Rattle.lh_queue.proofs.queue.Queue.take_first.Goals as goal

pub get-bucket-requires : goal.get-bucket-requires
get-bucket-requires c =
    let s = stored c.self.inside.links c.self.inside.buckets.items _ c.args.self.now c.self.invariant c.self.view_is in
    some_bucket c.self.inside.links c.self.inside.buckets.items c.args.self.now.held s c.requires

pub remove-linked-requires : goal.remove-linked-requires
remove-linked-requires c =
    let s = stored c.self.inside.links c.self.inside.buckets.items _ c.args.self.now c.self.invariant c.self.view_is in
    let b = c.get-bucket.result in
    let there = sym (get_or_from_slice_get c.self.inside.buckets.items 0 b b c.get-bucket.ensures) in
    first_there c.self.inside.links c.self.inside.buckets.items c.args.self.now.held b s c.requires there

pub invariant_of-self : goal.invariant_of-self
invariant_of-self c =
    let s = stored c.self.inside.links c.self.inside.buckets.items _ c.args.self.now c.self.invariant c.self.view_is in
    let b = c.get-bucket.result in
    let there = sym (get_or_from_slice_get c.self.inside.buckets.items 0 b b c.get-bucket.ensures) in
    let e = c.remove-linked.ensures in
    let t = taken_on c.self.inside.links c.remove-linked.new.self c.self.inside.buckets.items c.set.new.self.items c.args.self.now.held b b
    c.remove-linked.result c.in-Some.first s c.requires there e.value e.updates e.len c.in-Some.is there c.set.ensures.items in
    (t.1, t.2)

pub invariant_of-self-in-None : goal.invariant_of-self-in-None
invariant_of-self-in-None c =
    let s = stored c.self.inside.links c.self.inside.buckets.items _ c.args.self.now c.self.invariant c.self.view_is in
    let b = c.get-bucket.result in
    let there = sym (get_or_from_slice_get c.self.inside.buckets.items 0 b b c.get-bucket.ensures) in
    let e = c.remove-linked.ensures in
    let t = taken_out c.self.inside.links c.remove-linked.new.self c.self.inside.buckets.items c.remove_first.new.self.items c.args.self.now.held b
    c.remove-linked.result s c.requires there e.value e.updates e.len c.in-None.is c.remove_first.ensures.items in
    (t.1, t.2)

pub returns-in-Some-clause-held : goal.returns-in-Some-clause-held
returns-in-Some-clause-held c =
    let s = stored c.self.inside.links c.self.inside.buckets.items _ c.args.self.now c.self.invariant c.self.view_is in
    let b = c.get-bucket.result in
    let there = sym (get_or_from_slice_get c.self.inside.buckets.items 0 b b c.get-bucket.ensures) in
    let e = c.remove-linked.ensures in
    let t = taken_on c.self.inside.links c.remove-linked.new.self c.self.inside.buckets.items c.set.new.self.items c.args.self.now.held b b
    c.remove-linked.result c.in-Some.first s c.requires there e.value e.updates e.len c.in-Some.is there c.set.ensures.items in
    (t.0, t.3 ∙ ap (λ more. record { key = t.0; wish = c.remove-linked.result.wish } ∷ more) (sym (seen c.remove-linked.new.self _ t.1 t.2)))

pub returns-in-None-clause-held : goal.returns-in-None-clause-held
returns-in-None-clause-held c =
    let s = stored c.self.inside.links c.self.inside.buckets.items _ c.args.self.now c.self.invariant c.self.view_is in
    let b = c.get-bucket.result in
    let there = sym (get_or_from_slice_get c.self.inside.buckets.items 0 b b c.get-bucket.ensures) in
    let e = c.remove-linked.ensures in
    let t = taken_out c.self.inside.links c.remove-linked.new.self c.self.inside.buckets.items c.remove_first.new.self.items c.args.self.now.held b
    c.remove-linked.result s c.requires there e.value e.updates e.len c.in-None.is c.remove_first.ensures.items in
    (t.0, t.3 ∙ ap (λ more. record { key = t.0; wish = c.remove-linked.result.wish } ∷ more) (sym (seen c.remove-linked.new.self _ t.1 t.2)))
