use Rattle.std.proofs.Common.{◌∙◌, ap, slice_get, refl}
use Rattle.std.proofs.lemmas.Bool.{eq-eqb, ne_eqb}
use Rattle.lh_queue.specs.Places.{first_of}
use Rattle.lh_queue.proofs.Storage.{stored, none_at, some_at}
use Rattle.lh_queue.proofs.queue.Queue.first_of.Goals as goal

pub returns-in-None : goal.returns-in-None
returns-in-None c =
    let s = stored c.self.inside.links c.self.inside.buckets.items _ c.args.self.now c.self.invariant c.self.view_is in
    ap (λ o. first_of o c.args.fs) (none_at c.as_slice.result.now c.args.k c.in-None.ensures.lookup.3 ∙ ap (λ bs. slice_get bs c.args.k) (c.as_slice.ensures ∙ s.buckets_are))

pub returns-then-bucket-fs : goal.returns-then-bucket-fs
returns-then-bucket-fs c =
    let s = stored c.self.inside.links c.self.inside.buckets.items _ c.args.self.now c.self.invariant c.self.view_is in
    rw (
      ← (some_at c.as_slice.result.now c.args.k c.in-Some.bucket.now c.in-Some.ensures.lookup.1 c.in-Some.ensures.lookup.3.0 ∙ ap (λ bs. slice_get bs c.args.k) (c.as_slice.ensures ∙ s.buckets_are)),
      eq-eqb _ _ c.if-bucket-fs.true,
    ) refl

pub returns-else-bucket-fs : goal.returns-else-bucket-fs
returns-else-bucket-fs c =
    let s = stored c.self.inside.links c.self.inside.buckets.items _ c.args.self.now c.self.invariant c.self.view_is in
    rw (
      ← (some_at c.as_slice.result.now c.args.k c.in-Some.bucket.now c.in-Some.ensures.lookup.1 c.in-Some.ensures.lookup.3.0 ∙ ap (λ bs. slice_get bs c.args.k) (c.as_slice.ensures ∙ s.buckets_are)),
      ne_eqb _ _ c.if-bucket-fs.false,
    ) refl
