-- The text of a chain reads as the items of the chain.
use Rattle.std.proofs.Common.{ℕ, ◌≤◌, List, refl, subst}
use Rattle.lh_unit.specs.Contents.{unit_text}
use Rattle.lh_unit.specs.Reads.{Reads}
use Rattle.lh_unit.specs.WellFormed.{IsSpelled}
use Rattle.lh_text_laws.specs.Laws.{SpelledTogether, PrintableIsSpelled}
use Rattle.lh_selftest_laws.specs.Chain.{chain_unit, register_unit, adder_unit, testbench_unit, chain_file}
use Rattle.lh_selftest_laws.specs.Laws.{GeneratedReads}
use Rattle.lh_selftest_laws.proofs.Texts.{chain_file-text}
use Rattle.lh_selftest_laws.proofs.ChainPrints.{register-printable, adder-printable, testbench-printable}
use Rattle.lh_selftest_laws.proofs.Links.{chain-printable}

module _ (together : SpelledTogether) (alone : PrintableIsSpelled) where
  pub chain-spelled : (n : ℕ) → n ≤ 1000 → IsSpelled (chain_file n)
  chain-spelled n h =
      together (chain_file n) (
        alone (unit_text (chain_unit n)) (chain-printable n h),
        (alone (unit_text register_unit) register-printable, (alone (unit_text adder_unit) adder-printable, (alone (unit_text testbench_unit) testbench-printable, tt))),
      )
      refl

  pub generated-reads : GeneratedReads
  generated-reads n h = subst (λ (t : List ℕ). Reads t (chain_file n)) (chain_file-text n) (chain-spelled n h)
