-- The arguments of one side, one by one.
use Rattle.std.proofs.Common.{◌≡◌, Bool, true, false, List, ◌∷◌, refl}
use Rattle.lh_unit.specs.Contents.{ArgText}
use Rattle.lh_unit.specs.Canon.{on_side, side_of}

-- an argument of this side
pub side_of-here : (output : Bool) (a : ArgText) (more : List ArgText) → on_side output a ≡ true → side_of output (a ∷ more) ≡ a ∷ side_of output more
side_of-here output a more e = rw e refl

-- an argument of the other side
pub side_of-other : (output : Bool) (a : ArgText) (more : List ArgText) → on_side output a ≡ false → side_of output (a ∷ more) ≡ side_of output more
side_of-other output a more e = rw e refl
