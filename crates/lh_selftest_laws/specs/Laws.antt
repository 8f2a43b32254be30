-- The laws of the text of a chain of up to 1,000 links.
use Rattle.std.specs.Prelude.{◌≡◌, ℕ, ◌≤◌, length}
use Rattle.lh_unit.specs.Design.{Design, elab, built}
use Rattle.lh_unit.specs.Reads.{Reads}
use Rattle.lh_unit.specs.WellFormed.{IsFaultless, IsWellFormed}
use Rattle.lh_selftest_design.specs.Generated.{generated}
use Rattle.lh_selftest_design.specs.Summary.{chain_name}
use Rattle.lh_selftest_laws.specs.Chain.{chain_file}

-- It is no longer than 64 MiB.
abbrev pub GeneratedIsShort : Type 0
GeneratedIsShort = (n : ℕ) → n ≤ 1000 → length (generated n) ≤ 67108864

-- It reads as the items of the chain.
abbrev pub GeneratedReads : Type 0
GeneratedReads = (n : ℕ) → n ≤ 1000 → Reads (generated n) (chain_file n)

-- No instruction of them has a fault, where there is a first register for the testbench to count with.
abbrev pub ChainIsFaultless : Type 0
ChainIsFaultless = (n : ℕ) → 1 ≤ n → n ≤ 1000 → IsFaultless (chain_file n)

-- They are well formed then.
abbrev pub ChainIsWellFormed : Type 0
ChainIsWellFormed = (n : ℕ) → 1 ≤ n → n ≤ 1000 → IsWellFormed (chain_file n)

-- The chain has a design.
abbrev pub ChainElaborates : Type 0
ChainElaborates = (n : ℕ) → n ≤ 1000 → (d : Design) × (elab (chain_file n) chain_name ≡ built d)
