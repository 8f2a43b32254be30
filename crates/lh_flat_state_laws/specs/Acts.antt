-- An activation of a flat text is one of its process, in each state that a process of a well-formed module comes to.
use Rattle.std.specs.Prelude.{◌≡◌, ◌≤◌, ℕ, List, length, Bool, Some}
use Rattle.lh_time.specs.declared.Instant.{Instant}
use Rattle.lh_types.specs.declared.part.Range.{Range}
use Rattle.lh_unit_names.specs.declared.name.UnitName.{UnitName}
use Rattle.lh_unit.specs.Activation.{ProcessState, Activated, activate, functions}
use Rattle.lh_unit.specs.Arena.{Arena, contents, unit_text_at}
use Rattle.lh_exec.specs.declared.state.ProcState.{ProcState}
use Rattle.lh_exec.specs.Standing.{scene_of}
use Rattle.lh_exec.specs.Steady.{BeginsActivation}
use Rattle.lh_flat.specs.Flat.{FlatText, flattened, flat_of, flat_unit}
use Rattle.lh_flat_laws.specs.Activates.{StandsAlike, EndsAlike}

-- Where the process stands as its flat text does, and an activation of that ends, that of the process does: both then stand alike, with the same wish and the same outcomes.
abbrev pub FlatTextsAct : Type 0
FlatTextsAct = (a : Arena) (u : ℕ) (args : List Range) (now : List Bool) (t : Instant) (s : ProcState) (process flat : ProcessState) (name : UnitName) (text : FlatText) (bound limit : ℕ)
    (done : Activated) →
    BeginsActivation a u args (length now) s process → flat_of (contents a) (unit_text_at a u) ≡ flattened text → StandsAlike (functions (contents a)) (unit_text_at a u) process flat → bound ≤ limit →
    activate bound (scene_of a now t) (flat_unit name text) flat ≡ Some done →
    (d : Activated) × (activate limit (scene_of a now t) (unit_text_at a u) process ≡ Some d) × EndsAlike (functions (contents a)) (unit_text_at a u) d done
