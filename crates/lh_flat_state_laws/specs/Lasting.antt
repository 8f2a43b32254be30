-- A process and its flat text between their activations, from the first one on.
use Rattle.std.specs.Prelude.{◌≡◌, ◌<◌, ◌≤◌, ℕ, List, map, Bool, Some}
use Rattle.lh_time.specs.declared.Instant.{Instant}
use Rattle.lh_types.specs.declared.part.Range.{Range}
use Rattle.lh_unit_names.specs.declared.name.UnitName.{UnitName}
use Rattle.lh_unit.specs.declared.inst.UnitKind.TheVariants as kind
use Rattle.lh_unit.specs.Contents.{UnitText}
use Rattle.lh_unit.specs.Held.{Env, part_held, nothing_held, with_args}
use Rattle.lh_unit.specs.Activation.{Stand, is_new, waits, halted, ProcessState, Activated, activate, functions}
use Rattle.lh_unit.specs.World.{waited, wake_at, begun}
use Rattle.lh_unit.specs.Arena.{Arena, IsArena, contents, unit_count, kind_at, unit_text_at}
use Rattle.lh_unit.specs.WellFormed.{IsWellFormed}
use Rattle.lh_eval.specs.Fitting.{Fits}
use Rattle.lh_eval_laws.specs.Ranges.{RangesFit, arg_types}
use Rattle.lh_exec.specs.Standing.{scene_of}
use Rattle.lh_exec.specs.States.{WaitsIn, HoldsThere}
use Rattle.lh_flat.specs.Flat.{FlatText, flattened, flat_of, flat_unit}
use Rattle.lh_flat_laws.specs.Activates.{StandsAlike, EndsAlike}
use Rattle.lh_flat_state_laws.specs.Padding.{HaveWidths}

-- What a process holds serves where it stands: a new one holds its arguments, and one that waits does so at a `wait` of its unit and holds a value under each name that is
-- given on every path to that `wait`.
abbrev pub ServesAt : UnitText → List Range → Env → Stand → Type 0
ServesAt u args e is_new = e ≡ with_args nothing_held u.args (map part_held args)
ServesAt u args e (waits block to on wake) = (x : WaitsIn u block to) × HoldsThere u x.text x.before e
ServesAt u args e halted = Unit {0}

-- A process of a unit may go on from a state: what it holds serves where it stands, and fits the types of its names, parts within some number of bits. How many do not
-- matter: bits that are missing count as 0.
pub record MayGoOn (u : UnitText) (args : List Range) (p : ProcessState) : Type 0 where
  pub serves : ServesAt u args p.held p.stand
  pub width : ℕ
  pub ranges : RangesFit width args (arg_types u.args)
  pub fits : Fits u width p.held

-- A process of a well-formed module and its flat text between two activations: both stand alike, and the process may go on.
pub record Lasting (a : Arena) (u : ℕ) (text : FlatText) (args : List Range) (process flat : ProcessState) : Type 0 where
  pub arena : IsArena a
  pub formed : IsWellFormed (contents a)
  pub within : u < unit_count a
  pub is_process : kind_at a u ≡ Some kind.Proc
  pub flattens : flat_of (contents a) (unit_text_at a u) ≡ flattened text
  pub alike : StandsAlike (functions (contents a)) (unit_text_at a u) process flat
  pub going : MayGoOn (unit_text_at a u) args process

-- So they stand as they begin, with arguments that have the widths of their types.
abbrev pub LastingBegins : Type 0
LastingBegins = (a : Arena) (u : ℕ) (name : UnitName) (text : FlatText) (args : List Range) → IsArena a → IsWellFormed (contents a) → u < unit_count a → kind_at a u ≡ Some kind.Proc
    → flat_of (contents a) (unit_text_at a u) ≡ flattened text →
    HaveWidths args (unit_text_at a u).args → Lasting a u text args (begun (unit_text_at a u) args) (begun (flat_unit name text) args)

-- Where an activation of the flat text ends, whatever the bits of the signals and the instant are, that of the process does, with the same wish and the same outcomes; and they stand so again.
abbrev pub LastingActs : Type 0
LastingActs = (a : Arena) (u : ℕ) (name : UnitName) (text : FlatText) (args : List Range) (process flat : ProcessState) (now : List Bool) (t : Instant) (bound limit : ℕ) (done : Activated) →
    Lasting a u text args process flat → bound ≤ limit → activate bound (scene_of a now t) (flat_unit name text) flat ≡ Some done →
    (d : Activated) × (activate limit (scene_of a now t) (unit_text_at a u) process ≡ Some d) × EndsAlike (functions (contents a)) (unit_text_at a u) d done × Lasting a u text args d.state done.state

-- While they stand so both wait for the same parts, and wake by themselves at the same instant.
abbrev pub LastingWaits : Type 0
LastingWaits = (a : Arena) (u : ℕ) (text : FlatText) (args : List Range) (process flat : ProcessState) → Lasting a u text args process flat → (waited process.stand ≡ waited flat.stand)
    × (wake_at process.stand ≡ wake_at flat.stand)

-- where a process stands while its flat text stands so
abbrev pub StandsFrom : (process flat : Stand) → Type 0
StandsFrom process is_new = process ≡ is_new
StandsFrom process (waits from to on wake) = (block : List ℕ) × (process ≡ waits block to on wake)
StandsFrom process halted = process ≡ halted

-- Where the flat text waits the process does, for the same block, parts and instant; where it has halted so has the process.
abbrev pub LastingStands : Type 0
LastingStands = (a : Arena) (u : ℕ) (text : FlatText) (args : List Range) (process flat : ProcessState) → Lasting a u text args process flat → StandsFrom process.stand flat.stand
