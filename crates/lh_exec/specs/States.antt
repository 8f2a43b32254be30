-- The state of a process between its activations, and what an activation of it answers.
use Rattle.std.specs.Prelude.{◌≡◌, ℕ, ◌+◌, ◌<◌, ◌≤◌, List, ◌∷◌, ◌++◌, Bool, true, Option, Some, None, IsSome, Result, Ok, Err}
use Rattle.lh_time.specs.declared.Instant.{Instant}
use Rattle.lh_time.specs.Order.{IsLaterIfAny}
use Rattle.lh_types.specs.declared.part.Range.{Range}
use Rattle.lh_unit.specs.Contents.{LineText, BlockText, UnitText, wait_text, defines_value}
use Rattle.lh_unit.specs.Named.{block_of}
use Rattle.lh_unit.specs.Held.{Held, Env}
use Rattle.lh_unit.specs.Activation.{waits, halted, ProcessState, Activated}
use Rattle.lh_unit.specs.Arena.{Arena, label_count, label_name_at, unit_text_at}
use Rattle.lh_unit.specs.Within.{Each}
use Rattle.lh_unit.specs.World.{begun}
use Rattle.lh_verify_laws.specs.Defined.{IsThere}
use Rattle.lh_eval.specs.Holding.{Holds}
use Rattle.lh_eval.specs.Fitting.{Fits}
use Rattle.lh_eval.specs.WishOf.{writes_wish}
use Rattle.lh_eval.specs.Grouped.{IsGrouped}
use Rattle.lh_eval.specs.Wishing.{BitsWithin}
use Rattle.lh_exec.specs.declared.state.WaitOn.{WaitOn}
use Rattle.lh_exec.specs.declared.state.Pause.{Pause}
use Rattle.lh_exec.specs.declared.state.Stand.{Stand}
use Rattle.lh_exec.specs.declared.state.Stand.TheVariants as stand
use Rattle.lh_exec.specs.declared.state.ProcState.{ProcState}
use Rattle.lh_exec.specs.declared.process.Act.{Act}
use Rattle.lh_exec.specs.declared.process.ExecFault.{ExecFault}
use Rattle.lh_exec.specs.declared.process.ExecFault.TheVariants as fault

-- what a process waits for, if it waits
abbrev pub waited_by : Stand → Option WaitOn
waited_by stand.New = None
waited_by (stand.Waits pause) = Some pause.on
waited_by stand.Halted = None

-- the same of a state
abbrev pub waited_on : ProcState → Option WaitOn
waited_on s = waited_by s.stand

-- The state by ids of a process of the unit u, whose arguments have these bits, stands for a state.
abbrev pub StandsBy : Arena → ℕ → (args : List Range) → Stand → ProcessState → Type 0
StandsBy a u args stand.New p = p ≡ begun (unit_text_at a u) args
StandsBy a u args (stand.Waits w) p = (p.stand ≡ waits (label_name_at a u w.block.0) (label_name_at a u w.to.0) w.on.parts w.on.wake) × Holds a u w.slots p.held
StandsBy a u args stand.Halted p = p.stand ≡ halted

-- the same of a state
abbrev pub StandsForState : Arena → ℕ → (args : List Range) → ProcState → ProcessState → Type 0
StandsForState a u args s p = StandsBy a u args s.stand p

-- a `wait` stands in this block of the unit, and leads to that one
pub record WaitsIn (u : UnitText) (block to : List ℕ) : Type 0 where
  pub text : BlockText
  pub stands : block_of block u.blocks ≡ Some text
  pub before : List LineText
  pub after : List LineText
  pub name : Option (List ℕ)
  pub delay : Option (List ℕ)
  pub signals : List (List ℕ)
  pub split : text.lines ≡ before ++ record { result = name; inst = wait_text to delay signals } ∷ after

-- what slots hold, held under names, fits
pub record SlotsFit (a : Arena) (u : ℕ) (width : ℕ) (slots : List (Option Held)) : Type 0 where
  pub env : Env
  pub holds : Holds a u slots env
  pub fits : Fits (unit_text_at a u) width env

-- the parts lie within this many bits
abbrev pub PartsWithin : (width : ℕ) → List Range → Type 0
PartsWithin width parts = Each (λ (r : Range). r.lo + r.len ≤ width) parts

-- under the name of each value of the unit that is an argument, or is given on every path to this place of a block, something is held
abbrev pub HoldsThere : UnitText → BlockText → (before : List LineText) → Env → Type 0
HoldsThere u b before e = (n : List ℕ) → defines_value n u ≡ true → IsThere u b before n → IsSome (e n)

-- A process that waits fits where it stands at a `wait` of its unit and holds, for each value that is defined on every path to that `wait`, a value, and each value that it holds
-- fits the type of its name, parts within so many bits; so do the parts for which it waits.
pub record PauseFits (a : Arena) (u : ℕ) (width : ℕ) (w : Pause) : Type 0 where
  pub block : w.block.0 < label_count a u
  pub to : w.to.0 < label_count a u
  pub stands : WaitsIn (unit_text_at a u) (label_name_at a u w.block.0) (label_name_at a u w.to.0)
  pub held : SlotsFit a u width w.slots
  pub there : HoldsThere (unit_text_at a u) stands.text stands.before held.env
  pub parts : PartsWithin width w.on.parts

-- a state fits where it is new, has halted, or waits and fits
abbrev pub FitsBy : Arena → ℕ → (width : ℕ) → Stand → Type 0
FitsBy a u width stand.New = Unit {0}
FitsBy a u width (stand.Waits w) = PauseFits a u width w
FitsBy a u width stand.Halted = Unit {0}

-- the same of a state
abbrev pub ProcStateFits : Arena → ℕ → (width : ℕ) → ProcState → Type 0
ProcStateFits a u width s = FitsBy a u width s.stand

-- where a process waits, it wakes by itself only later than at this instant
abbrev pub WakesLaterBy : Instant → Stand → Type 0
WakesLaterBy at stand.New = Unit {0}
WakesLaterBy at (stand.Waits w) = IsLaterIfAny at w.on.wake
WakesLaterBy at stand.Halted = Unit {0}

-- the same of a state
abbrev pub WakesLater : Instant → ProcState → Type 0
WakesLater at s = WakesLaterBy at s.stand

-- What an activation gives, as the code answers it: the next state stands for the one that is left, and fits; the writes have exactly the entries of its wish, their
-- instants strictly rise, none is empty and none names a bit twice, and each names only bits of the signals; and the outcomes are the same.
pub record GivesActivation (a : Arena) (u : ℕ) (args : List Range) (width : ℕ) (act : Act) (done : Activated) : Type 0 where
  pub next : StandsForState a u args act.next done.state
  pub fits : ProcStateFits a u width act.next
  pub wish : writes_wish act.wishes ≡ done.wish
  pub grouped : IsGrouped act.wishes
  pub within : Each (λ (d : Instant × List (ℕ × Bool)). BitsWithin width d.1) act.wishes
  pub outcomes : act.outcomes ≡ done.outcomes

-- the activation, or none where there is none
abbrev pub GivesMaybe : Arena → ℕ → (args : List Range) → (width : ℕ) → Option Act → Option Activated → Type 0
GivesMaybe a u args width (Some act) (Some done) = GivesActivation a u args width act done
GivesMaybe a u args width None None = Unit {0}
GivesMaybe a u args width _ _ = ⊥

-- what `activate` answers: exactly the activation, or a runaway exactly where there is none
abbrev pub ActivationOrRunaway : Arena → ℕ → (args : List Range) → (width : ℕ) → Result Act ExecFault → Option Activated → Type 0
ActivationOrRunaway a u args width (Ok act) (Some done) = GivesActivation a u args width act done
ActivationOrRunaway a u args width (Err fault.Runaway) None = Unit {0}
ActivationOrRunaway a u args width (Err fault.OutOfMemory) _ = Unit {0}
ActivationOrRunaway a u args width _ _ = ⊥
