-- What contracts see of a row of buckets.
use Rattle.std.specs.Prelude.{ℕ, List}
use Rattle.lh_queue.specs.declared.queue.Bucket.{Bucket}

-- the buckets in order, and how many more go in without memory
pub record Buckets : Type 0 where
  pub items : List Bucket
  pub spare : ℕ
