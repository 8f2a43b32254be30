-- What runs a flat text runs its process: each activation of the flat text is one of the process.
use Rattle.std.specs.Prelude.{◌≡◌, ℕ, zero, suc, ◌≤◌, List, length, Some}
use Rattle.lh_types.specs.declared.part.Range.{Range}
use Rattle.lh_unit_names.specs.declared.name.UnitName.{UnitName}
use Rattle.lh_unit.specs.Contents.{UnitText}
use Rattle.lh_unit.specs.Held.{Held, Env}
use Rattle.lh_unit.specs.Activation.{Scene, Stand, is_new, waits, halted, ProcessState, Control, Point, Activated, goes, no_step, step, max_calls, start_point, control_at, activate}
use Rattle.lh_unit.specs.World.{begun}
use Rattle.lh_flat.specs.Copies.{top_copy, last_piece_of}
use Rattle.lh_flat.specs.Flat.{FlatText, flattened, flat_in, flat_unit}
use Rattle.lh_flat.specs.Marks.{IsPlain}
use Rattle.lh_flat_laws.specs.Tidy.{UnitTidy, FunctionsTidy}

-- In so many instructions nothing but too many open calls stops the activation.
abbrev pub ActivationGoesOn : (steps : ℕ) → Scene → Point → Type 0
ActivationGoesOn zero s p = Unit {0}
ActivationGoesOn (suc n) s p = (step s p ≡ no_step → max_calls ≤ length p.callers) × ((q : Point) → step s p ≡ goes q → ActivationGoesOn n s q)

-- an activation of the process begins, and nothing stops it
pub record Proceeds (bound : ℕ) (s : Scene) (u : UnitText) (p : ProcessState) : Type 0 where
  pub control : Control
  pub begins : control_at u p ≡ Some control
  pub goes_on : ActivationGoesOn bound s (start_point control)

-- where the flat text stands while the process stands so: a process that waits does so at the end of a block, in the last piece of which the flat text waits
abbrev pub flat_stand : List UnitText → UnitText → Stand → Stand
flat_stand functions u is_new = is_new
flat_stand functions u (waits block to on wake) = waits (last_piece_of functions (top_copy u) block) to on wake
flat_stand functions u halted = halted

-- it waits in a block whose label is of bytes
abbrev pub StandIsPlain : Stand → Type 0
StandIsPlain (waits block to on wake) = IsPlain block
StandIsPlain _ = Unit {0}

-- What the process holds, the flat text holds under the same name. It may hold more, under the names of copies.
abbrev pub FlatHoldsMore : (process flat : Env) → Type 0
FlatHoldsMore e f = (n : List ℕ) (h : Held) → e n ≡ Some h → IsPlain n × (f n ≡ Some h)

-- a process and its flat text between two activations
pub record StandsAlike (functions : List UnitText) (u : UnitText) (process flat : ProcessState) : Type 0 where
  pub stand : flat.stand ≡ flat_stand functions u process.stand
  pub plain : StandIsPlain process.stand
  pub held : FlatHoldsMore process.held flat.held

-- the ends of an activation of each
pub record EndsAlike (functions : List UnitText) (u : UnitText) (process flat : Activated) : Type 0 where
  pub state : StandsAlike functions u process.state flat.state
  pub wish : flat.wish ≡ process.wish
  pub outcomes : flat.outcomes ≡ process.outcomes

-- Where a process has a flat text and an activation of that ends, that of the process does: with the same wish and the same outcomes, both then stand alike. It executes no more instructions.
abbrev pub ActivatesAlike : Type 0
ActivatesAlike = (s : Scene) (u : UnitText) (name : UnitName) (t : FlatText) (process flat : ProcessState) (bound limit : ℕ) (done : Activated) →
    flat_in s.functions u ≡ flattened t → UnitTidy s.functions u → FunctionsTidy s.functions → StandsAlike s.functions u process flat → bound ≤ limit → Proceeds limit s u process →
    activate bound s (flat_unit name t) flat ≡ Some done → (d : Activated) × (activate limit s u process ≡ Some d) × EndsAlike s.functions u d done

-- A process and its flat text begin alike, with the same parts of the signals as arguments.
abbrev pub BeginsAlike : Type 0
BeginsAlike = (functions : List UnitText) (u : UnitText) (parts : List Range) → UnitTidy functions u → StandsAlike functions u (begun u parts) (begun u parts)
