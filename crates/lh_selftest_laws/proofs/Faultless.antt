-- No instruction of the file of a chain has a fault.
use Rattle.std.proofs.Common.{ℕ, List, [], ◌∷◌, ◌++◌, map, refl}
use Rattle.lh_unit.specs.Contents.{ItemText}
use Rattle.lh_unit.specs.Places.{places}
use Rattle.lh_unit.specs.WellFormed.{Site, NoneHasFault}
use Rattle.lh_selftest_laws.specs.Chain.{chain_unit, register_init, register_unit, adder_entry, adder_unit, testbench_entry, testbench_unit, chain_file}
use Rattle.lh_selftest_laws.specs.Laws.{ChainIsFaultless}
use Rattle.lh_selftest_laws.proofs.Processes.{site, process-faultless}
use Rattle.lh_selftest_laws.proofs.Entity.{entity-faultless}

none-both : (items : List ItemText) (xs ys : List Site) → NoneHasFault items xs → NoneHasFault items ys → NoneHasFault items (xs ++ ys)
none-both items [] ys h k = k
none-both items (x ∷ xs) ys h k = (h.0, none-both items xs ys h.1 k)

register-faultless : (n : ℕ) → NoneHasFault (chain_file n) (map (site register_unit) (places register_unit))
register-faultless n = process-faultless (chain_file n) register_unit register_init refl refl refl

adder-faultless : (n : ℕ) → NoneHasFault (chain_file n) (map (site adder_unit) (places adder_unit))
adder-faultless n = process-faultless (chain_file n) adder_unit adder_entry refl refl refl

testbench-faultless : (n : ℕ) → NoneHasFault (chain_file n) (map (site testbench_unit) (places testbench_unit))
testbench-faultless n = process-faultless (chain_file n) testbench_unit testbench_entry refl refl refl

pub chain-faultless : ChainIsFaultless
chain-faultless n l h =
    let r : List Site = map (site register_unit) (places register_unit) in
    let a : List Site = map (site adder_unit) (places adder_unit) in
    let t : List Site = map (site testbench_unit) (places testbench_unit) in
    none-both (chain_file n) (map (site (chain_unit n)) (places (chain_unit n))) (r ++ (a ++ (t ++ []))) (entity-faultless n l h)
    (none-both (chain_file n) r (a ++ (t ++ [])) (register-faultless n)
    (none-both (chain_file n) a (t ++ []) (adder-faultless n) (none-both (chain_file n) t [] (testbench-faultless n) tt)))
