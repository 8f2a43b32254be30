-- What a process does between two of its waits, as rows, each on a condition.
use Rattle.std.specs.Prelude.{ℕ, List, [], Bool}
use Rattle.lh_term.specs.Tree.{Tree}
use Rattle.lh_term.specs.declared.part.Part.{Part}
use Rattle.lh_term.specs.Leaves.{AllParts}
use Rattle.lh_region_def.specs.Known.{Knowledge}

-- a part is driven with a value after a delay, where the condition holds
pub record Drive : Type 0 where
  pub cond : Tree
  pub part : Part
  pub value : Tree
  pub delay : Tree

-- each part that a drive reads has this
pub record DriveReads (P : Part → Type 0) (d : Drive) : Type 0 where
  pub cond : AllParts P d.cond
  pub value : AllParts P d.value
  pub delay : AllParts P d.delay

-- how a region ends: at `halt`; at the head, which only the second region enters; or at a `wait` for a block, which may be the head, on
-- these parts, and perhaps with a time
pub data Way : Type 0 where
  halts : Way
  enters_head : Way
  waits : (target : ℕ) → (to_head : Bool) → (parts : List Part) → (timed : Bool) → Way

-- a region ends so in the block of this label, where the condition holds; and what is known there
pub record RegionEnd : Type 0 where
  pub cond : Tree
  pub way : Way
  pub from : List ℕ
  pub known : Knowledge

-- the parts that are probed, the drives, the conditions that are asserted, and the ends
pub record Rows : Type 0 where
  pub probes : List Part
  pub drives : List Drive
  pub asserts : List Tree
  pub ends : List RegionEnd

abbrev pub no_rows : Rows
no_rows = record { probes = []; drives = []; asserts = []; ends = [] }
