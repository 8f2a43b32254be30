-- What holds along an activation of a well-formed module: the instructions are sound, and what is held fits.
use Rattle.std.specs.Prelude.{◌≡◌, ℕ, ◌<◌, List, [], ◌∷◌, ◌++◌, Option, Some, None, IsSome}
use Rattle.lh_time.specs.declared.Instant.{Instant}
use Rattle.lh_types.specs.Types.{TypeTree}
use Rattle.lh_unit_names.specs.declared.name.UnitName.{UnitName}
use Rattle.lh_unit.specs.Contents.{LineText, BlockText, UnitText, ItemText}
use Rattle.lh_unit.specs.Named.{block_of, label_or, function_named}
use Rattle.lh_unit.specs.Held.{Env}
use Rattle.lh_unit.specs.Kinds.{uses}
use Rattle.lh_unit.specs.Typing.{value_type}
use Rattle.lh_unit.specs.WellFormed.{labels_named}
use Rattle.lh_unit.specs.Activation.{Scene, run, Stand, is_new, waits, halted, Control, Caller, Point, Activated, start_point, functions}
use Rattle.lh_unit.specs.Arena.{Arena, contents, unit_text_at, label_name_at, label_count}
use Rattle.lh_unit.specs.Within.{Each}
use Rattle.lh_verify_laws.specs.Calls.{NamedIsRight}
use Rattle.lh_verify_laws.specs.KindsOf.{HasTypeOfKind}
use Rattle.lh_eval.specs.Fitting.{Fits}
use Rattle.lh_eval.specs.Sound.{InstIsSound}
use Rattle.lh_eval.specs.Wishing.{WishWithin}
use Rattle.lh_eval_laws.specs.Units.{HasItsType}
use Rattle.lh_exec.specs.declared.machine.UnitFrame.{UnitFrame}
use Rattle.lh_exec.specs.declared.machine.Machine.{Machine}
use Rattle.lh_exec.specs.declared.machine.Flow.{Flow}
use Rattle.lh_exec.specs.declared.machine.Flow.TheVariants as flow
use Rattle.lh_exec.specs.declared.state.Stand as declared
use Rattle.lh_exec.specs.declared.state.Stand.TheVariants as stand
use Rattle.lh_exec.specs.Standing.{MachineIs, Ends}
use Rattle.lh_exec.specs.States.{WaitsIn, HoldsThere, PartsWithin}
use Rattle.lh_time.specs.Order.{IsLaterIfAny}

-- a label is that of a block of the unit
abbrev pub IsLabel : UnitText → List ℕ → Type 0
IsLabel u n = (b : BlockText) × (block_of n u.blocks ≡ Some b)

-- an instruction of a unit is sound, what it calls is right, its labels are of blocks, and its operands have types of their kinds
pub record LineRight (items : List ItemText) (u : UnitText) (l : LineText) : Type 0 where
  pub sound : InstIsSound u l
  pub named : NamedIsRight items u l.inst
  pub labels : Each (IsLabel u) (labels_named l.inst)
  pub kinds : Each (HasTypeOfKind u) (uses l.inst)

-- so are all of a function or a process, and each block has a label, each argument its type
pub record UnitRight (items : List ItemText) (u : UnitText) : Type 0 where
  pub lines : Each (λ (b : BlockText). Each (LineRight items u) b.lines) u.blocks
  pub labelled : Each (λ (b : BlockText). b.label ≡ Some (label_or b.label)) u.blocks
  pub args : Each (HasItsType u) u.args

-- so are the functions of a module, each of which has a result
abbrev pub FunctionsRight : List ItemText → Type 0
FunctionsRight items = (n : UnitName) (f : UnitText) → function_named n (functions items) ≡ Some f → UnitRight items f × IsSome f.result

-- A place of control stands in a block of its unit, and what is held there fits.
pub record ControlFits (items : List ItemText) (width : ℕ) (c : Control) : Type 0 where
  pub right : UnitRight items c.unit
  pub text : BlockText
  pub block : block_of c.block c.unit.blocks ≡ Some text
  pub before : List LineText
  pub split : text.lines ≡ before ++ c.rest
  pub fits : Fits c.unit width c.held

-- the result of a call has the type of what the function u gives
abbrev pub GivesResult : UnitText → Caller → Type 0
GivesResult u d = (n : List ℕ) (t : TypeTree) → d.result ≡ Some n → u.result ≡ Some t → value_type d.control.unit n ≡ Some t

-- the function u has a result, and gives it to the call
abbrev pub ResultFits : UnitText → Caller → Type 0
ResultFits u d = IsSome u.result × GivesResult u d

-- so it is of each open call, the last of which called the function u
abbrev pub CallersFit : List ItemText → (width : ℕ) → UnitText → List Caller → Type 0
CallersFit items width u [] = Unit {0}
CallersFit items width u (d ∷ more) = ControlFits items width d.control × ResultFits u d × CallersFit items width d.control.unit more

-- the unit in which the activation began
abbrev pub lowest : Control → List Caller → UnitText
lowest c [] = c.unit
lowest c (d ∷ more) = lowest d.control more

-- A point of an activation of the unit u fits.
pub record PointFits (items : List ItemText) (width : ℕ) (u : UnitText) (p : Point) : Type 0 where
  pub control : ControlFits items width p.control
  pub callers : CallersFit items width p.control.unit p.callers
  pub began : lowest p.control p.callers ≡ u
  pub wish : WishWithin width p.wish

-- where a process that has come to an end of an activation at an instant stands: at a `wait` for parts within the signals, and for a later instant
abbrev pub StandFits : (width : ℕ) → Instant → UnitText → Stand → Type 0
StandFits width t u is_new = Unit {0}
StandFits width t u (waits block to on wake) = WaitsIn u block to × PartsWithin width on × IsLaterIfAny t wake
StandFits width t u halted = Unit {0}

-- what an activation of the unit u at an instant gives fits
pub record DoneFits (width : ℕ) (t : Instant) (u : UnitText) (done : Activated) : Type 0 where
  pub stand : StandFits width t u done.state.stand
  pub held : Fits u width done.state.held
  pub wish : WishWithin width done.wish

-- what a process holds where it waits: a value under each name that is defined on every path to its `wait`
abbrev pub StandHolds : UnitText → Env → Stand → Type 0
StandHolds u e is_new = Unit {0}
StandHolds u e (waits block to on wake) = (x : WaitsIn u block to) × HoldsThere u x.text x.before e
StandHolds u e halted = Unit {0}

-- what it holds at the end of an activation, where there is one
abbrev pub EndHolds : UnitText → Option Activated → Type 0
EndHolds u None = Unit {0}
EndHolds u (Some done) = StandHolds u done.state.held done.state.stand

-- the machine stands for a point that fits
pub record MachineFits (a : Arena) (width : ℕ) (m : Machine) : Type 0 where
  pub unit : UnitText
  pub point : Point
  pub is : MachineIs a m point
  pub fits : PointFits (contents a) width unit point

-- the machine stands for the place where an activation begins, or there is none
abbrev pub BeginsAt : Arena → Option Machine → Option Control → Type 0
BeginsAt a (Some m) (Some c) = MachineIs a m (start_point c)
BeginsAt a None None = Unit {0}
BeginsAt a _ _ = ⊥

-- what the code answers, and the machine after it, are what an activation of the unit u at an instant gives, or that there is none
abbrev pub Finishes : Arena → (u : ℕ) → (width : ℕ) → Instant → Machine → Flow → Option Activated → Type 0
Finishes a u width t m (flow.Waits to on) (Some done) =
    (to.0 < label_count a m.frame.unit.0) × Ends a m (unit_text_at a u) (waits (label_name_at a m.frame.unit.0 m.frame.block.0) (label_name_at a m.frame.unit.0 to.0) on.parts on.wake) done
    × DoneFits width t (unit_text_at a u) done
Finishes a u width t m flow.Halts (Some done) = Ends a m (unit_text_at a u) halted done × DoneFits width t (unit_text_at a u) done
Finishes a u width t m flow.Lost None = Unit {0}
Finishes a u width t m _ _ = ⊥

-- where a process stands whose activation ends in this frame
abbrev pub stood : UnitFrame → Flow → Option declared.Stand
stood f (flow.Waits to on) = Some (stand.Waits (record { block = f.block; to = to; slots = f.slots; on = on }))
stood f flow.Halts = Some stand.Halted
stood f _ = None

-- The machine stands for a point that fits, and so many more instructions lead from it to this.
pub record ContinuesActivation (a : Arena) (s : Scene) (u : ℕ) (width : ℕ) (left : ℕ) (m : Machine) (to : Option Activated) : Type 0 where
  pub point : Point
  pub is : MachineIs a m point
  pub fits : PointFits (contents a) width (unit_text_at a u) point
  pub same : run left s point ≡ to
