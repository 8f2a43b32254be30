-- What is built of a design, and what is still to be visited.
use Rattle.std.specs.Prelude.{◌≡◌, ℕ, zero, suc, ◌+◌, ◌<◌, List, [], ◌∷◌, ◌++◌, length, map, take, replicate, sum_by, false, Option, Some, None, slice_index_or}
use Rattle.lh_types.specs.Types.{bit_count}
use Rattle.lh_types.specs.declared.part.Range.{Range}
use Rattle.lh_unit.specs.declared.inst.Arg.{Arg}
use Rattle.lh_unit.specs.declared.inst.UnitId.{UnitId}
use Rattle.lh_unit.specs.Arena.{Arena, args_at, unit_text_at}
use Rattle.lh_unit.specs.Hierarchy.{SignalText}
use Rattle.lh_unit.specs.Design.{numbered, initial_bits, signal_ranges, top_signals}
pub use Rattle.lh_design.specs.Texts.{instance_text, signal_text, design_text}
use Rattle.lh_elab_plan.specs.declared.plan.Low.{Low}
use Rattle.lh_elab_plan.specs.declared.plan.Plan.{Plan}
use Rattle.lh_elab_plan.specs.declared.plan.PlanChild.{PlanChild}
use Rattle.lh_elab.specs.declared.build.Building.{Building}
use Rattle.lh_elab.specs.declared.build.Pending.{Pending}
use Rattle.lh_elab_plan.specs.Plans.{signal_of, low_at}

-- how many bits signals have
abbrev pub room_of : List SignalText → ℕ
room_of ss = sum_by (λ (s : SignalText). bit_count s.ty) ss

-- nothing is built, and the signals are to have so many bits
pub record IsNew (bits : ℕ) (b : Building) : Type 0 where
  pub instances : b.instances.items ≡ []
  pub signals : b.signals.items ≡ []
  pub init : b.init ≡ replicate bits false
  pub lo : b.lo ≡ 0
  pub pending : b.pending.items ≡ []

-- signals of an instance come above those so far
pub record AddsSignals (old new : Building) (instance : ℕ) (ss : List SignalText) : Type 0 where
  pub signals : map signal_text new.signals.items ≡ map signal_text old.signals.items ++ numbered instance old.lo ss
  pub bits : take new.lo new.init ≡ take old.lo old.init ++ initial_bits ss
  pub lo : new.lo ≡ old.lo + room_of ss
  pub long : length new.init ≡ length old.init

-- all but the signals stays
pub record KeepsRest (old new : Building) : Type 0 where
  pub instances : new.instances.items ≡ old.instances.items
  pub pending : new.pending.items ≡ old.pending.items

-- all but what is to be visited stays
pub record KeepsBuilt (old new : Building) : Type 0 where
  pub instances : new.instances.items ≡ old.instances.items
  pub signals : new.signals.items ≡ old.signals.items
  pub init : new.init ≡ old.init
  pub lo : new.lo ≡ old.lo

-- the bits of a unit's arguments: each begins at its operand's lowest bit
abbrev pub ranges_by : List Arg → (lows : List ℕ) → List Range
ranges_by [] lows = []
ranges_by (x ∷ more) [] = record { lo = 0; len = bit_count x.ty } ∷ ranges_by more []
ranges_by (x ∷ more) (lo ∷ lows) = record { lo = lo; len = bit_count x.ty } ∷ ranges_by more lows

-- an `inst` of an instance of this number, to be visited
abbrev pub kid : Arena → (parent room : ℕ) → (args sigs : List Range) → PlanChild → Pending
kid a parent room args sigs c = record { unit = c.unit; parent = Some parent; room = room; args = ranges_by (args_at a c.unit.0) (map (low_at args sigs) c.lows.items) }

-- the instances in an instance, the first of them last
abbrev pub kids : Arena → (parent room : ℕ) → (args sigs : List Range) → List PlanChild → List Pending
kids a parent room args sigs [] = []
kids a parent room args sigs (c ∷ more) = kids a parent room args sigs more ++ kid a parent room args sigs c ∷ []

-- those that may nest
abbrev pub kids_in : Arena → (parent room : ℕ) → (args sigs : List Range) → List PlanChild → List Pending
kids_in a parent zero args sigs cs = []
kids_in a parent (suc room) args sigs cs = kids a parent room args sigs cs

-- so many of these lowest bits are numbers of bits
abbrev pub AreLow : ℕ → List (Option Low) → (args sigs : List Range) → Type 0
AreLow n ls args sigs = (i : ℕ) → i < n → low_at args sigs (slice_index_or ls i None) < 4294967296

abbrev pub LowsFit : Arena → (args sigs : List Range) → PlanChild → Type 0
LowsFit a args sigs c = AreLow (length (args_at a c.unit.0)) c.lows.items args sigs

-- a top is to be visited, and its own arguments are the first signals
pub record IsStarted (a : Arena) (top : UnitId) (bits : ℕ) (b : Building) : Type 0 where
  pub instances : b.instances.items ≡ []
  pub signals : map signal_text b.signals.items ≡ numbered 0 0 (top_signals (unit_text_at a top.0).args)
  pub begin : take b.lo b.init ≡ initial_bits (top_signals (unit_text_at a top.0).args)
  pub lo : b.lo ≡ room_of (top_signals (unit_text_at a top.0).args)
  pub long : length b.init ≡ bits
  pub pending : b.pending.items ≡ record { unit = top; parent = None; room = 63; args = signal_ranges 0 (top_signals (unit_text_at a top.0).args) } ∷ []

-- an instance is visited
pub record Visits (a : Arena) (old new : Building) (next : Pending) (p : Plan) : Type 0 where
  pub instances : new.instances.items ≡ old.instances.items ++ record { unit = next.unit; parent = next.parent; args = next.args; sigs = signal_ranges old.lo (map signal_of p.signals.items) } ∷ []
  pub signals : AddsSignals old new (length old.instances.items) (map signal_of p.signals.items)
  pub pending : new.pending.items ≡ old.pending.items ++ kids_in a (length old.instances.items) next.room next.args (signal_ranges old.lo (map signal_of p.signals.items)) p.children.items
