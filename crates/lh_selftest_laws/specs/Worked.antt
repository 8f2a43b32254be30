-- The entity of a chain of two links, written out.
use Rattle.std.specs.Prelude.{◌≡◌, List, [], ◌∷◌, codes}
use Rattle.lh_unit.specs.Contents.{LineText}
use Rattle.lh_selftest_laws.specs.Words.{bit, word, signal, gives, number, begins_with, instance}
use Rattle.lh_selftest_laws.specs.Chain.{chain_lines}

abbrev pub two_links : List LineText
two_links =
    gives (codes "z1") (number 1 0)
    ∷ gives (codes "z") (number 32 0)
    ∷ gives (codes "o") (number 32 1)
    ∷ gives (codes "clk") (begins_with bit "z1")
    ∷ gives (codes "x0") (begins_with word "o")
    ∷ gives (codes "d0") (begins_with word "z")
    ∷ gives (codes "x1") (begins_with word "z")
    ∷ gives (codes "d1") (begins_with word "z")
    ∷ gives (codes "x2") (begins_with word "z")
    ∷ instance "ff" (signal bit (codes "clk") ∷ signal word (codes "d0") ∷ []) (signal word (codes "x1") ∷ [])
    ∷ instance "comb" (signal word (codes "x1") ∷ signal word (codes "x0") ∷ []) (signal word (codes "d0") ∷ [])
    ∷ instance "ff" (signal bit (codes "clk") ∷ signal word (codes "d1") ∷ []) (signal word (codes "x2") ∷ [])
    ∷ instance "comb" (signal word (codes "x2") ∷ signal word (codes "x1") ∷ []) (signal word (codes "d1") ∷ [])
    ∷ instance "tb" (signal word (codes "x1") ∷ []) (signal bit (codes "clk") ∷ [])
    ∷ []

-- A chain of two links has these lines.
abbrev pub TwoLinks : Type 0
TwoLinks = chain_lines 2 ≡ two_links
