-- A source and a sink in memory, as contracts see them.
use Rattle.std.specs.Prelude.{ℕ, List}

-- a source in memory: the bytes left, how many a read gives at most, the numbers from 1 of the reads that fail,
-- and how many reads, bytes taken and faults there were
pub record ByteSource : Type 0 where
  pub left : List ℕ
  pub piece : ℕ
  pub fails : List ℕ
  pub calls : ℕ
  pub taken : ℕ
  pub faults : ℕ

-- a sink in memory: the bytes written, how many it holds in all, how many a write takes at most,
-- the numbers from 1 of the writes that fail, and how many writes and faults there were
pub record ByteSink : Type 0 where
  pub written : List ℕ
  pub hold : ℕ
  pub piece : ℕ
  pub fails : List ℕ
  pub calls : ℕ
  pub faults : ℕ
