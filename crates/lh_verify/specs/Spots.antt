-- The places of a unit by ids, with what the faults of places ask of them.
use Rattle.std.specs.Prelude.{List, [], ◌∷◌, ◌++◌, Bool, true, false, ◌||◌}
use Rattle.lh_unit.specs.Table.{Table, line_at, insts_at}
use Rattle.lh_unit.specs.declared.inst.BlockId.{BlockId}
use Rattle.lh_unit.specs.declared.inst.InstId.{InstId}
use Rattle.lh_unit.specs.declared.inst.Inst.{Inst}
use Rattle.lh_unit.specs.declared.inst.Inst.TheVariants as inst
use Rattle.lh_verify.specs.declared.spots.Spot.{Spot}

-- an instruction is no `phi`
abbrev pub is_other : Inst → Bool
is_other (inst.Phi ty edges) = false
is_other _ = true

-- there is no instruction
abbrev pub is_empty : List InstId → Bool
is_empty [] = true
is_empty (i ∷ more) = false

-- the places of the rest of a block, behind an instruction that is no `phi` or not
abbrev pub spots_in : Table → (in_entry : Bool) → BlockId → (after_other : Bool) → List InstId → List Spot
spots_in t e b other [] = []
spots_in t e b other (i ∷ rest) =
    record { inst = i; block = b; in_entry = e; after_other = other; last = is_empty rest } ∷ spots_in t e b (other || is_other (line_at t i.0).inst) rest

-- the places of blocks
abbrev pub spots_from : Table → (in_entry : Bool) → List BlockId → List Spot
spots_from t e [] = []
spots_from t e (b ∷ more) = spots_in t e b false (insts_at t b.0) ++ spots_from t false more

-- the places of a unit in file order
abbrev pub spots_of : Table → List Spot
spots_of t = spots_from t true t.blocks
