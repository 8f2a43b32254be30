-- An activation of a process that calls a function twice, and that of its flat text, computed from the definitions.
use Rattle.std.proofs.Common.{◌≡◌, ℕ, List, [], ◌∷◌, Option, Some, None, refl}
use Rattle.std.specs.Prelude.{codes}
use Rattle.std.specs.Option.{option_map}
use Rattle.lh_types.specs.Values.{int_value}
use Rattle.lh_unit.specs.Held.{Held, datum_held, nothing_held}
use Rattle.lh_unit.specs.Activation.{Scene, Stand, is_new, waits, ProcessState, Activated, activate}
use Rattle.lh_flat.specs.Flat.{flat_unit, text_of}
use Rattle.lh_flat.proofs.Samples.{global, or_one, twice}
use Rattle.lh_flat_laws.specs.Activates.{flat_stand}

abbrev scene : Scene
scene = record { functions = or_one ∷ []; now = []; at = record { fs = 0; delta = 0; eps = 0 } }

abbrev new : ProcessState
new = record { stand = is_new; held = nothing_held }

-- what is held under a name at the end
abbrev held_at : List ℕ → Option Activated → Option (Option Held)
held_at n done = option_map (λ (d : Activated). d.state.held n) done

abbrev stand_of : Option Activated → Option Stand
stand_of done = option_map (λ (d : Activated). d.state.stand) done

-- the process executes 11 instructions
process_holds : held_at (codes "v") (activate 11 scene twice new) ≡ Some (Some (datum_held (int_value 1 1)))
unfolding activate
process_holds = refl

process_stands : stand_of (activate 11 scene twice new) ≡ Some (waits (codes "t") (codes "s") [] None)
unfolding activate
process_stands = refl

process_short : activate 10 scene twice new ≡ None
unfolding activate
process_short = refl

-- and its flat text 13, with the merges of the two results
flat_holds : held_at (codes "v") (activate 13 scene (flat_unit (global (codes "p")) (text_of (or_one ∷ []) twice)) new) ≡ Some (Some (datum_held (int_value 1 1)))
unfolding activate
flat_holds = refl

flat_stands : stand_of (activate 13 scene (flat_unit (global (codes "p")) (text_of (or_one ∷ []) twice)) new) ≡ Some (flat_stand (or_one ∷ []) twice (waits (codes "t") (codes "s") [] None))
unfolding activate
flat_stands = refl

flat_short : activate 12 scene (flat_unit (global (codes "p")) (text_of (or_one ∷ []) twice)) new ≡ None
unfolding activate
flat_short = refl
