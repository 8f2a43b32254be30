-- A frame: who is woken, what each instance does, the next world, and the next instant.
use Rattle.std.specs.Prelude.{ℕ, zero, suc, ◌+◌, List, [], ◌∷◌, ◌++◌, map, unwrap_or, slice_get, Bool, true, false, not, ◌&&◌, ◌||◌, Option, Some, None, ◌≡◌, ◌⊎◌}
use Rattle.std.specs.Option.{option_map, option_map_or}
use Rattle.std.specs.List.{list_any}
use Rattle.lh_time.specs.declared.Instant.{Instant}
use Rattle.lh_time.specs.Order.{instant_lt, instant_le, instant_eq}
use Rattle.lh_time.specs.Due.{instant}
use Rattle.lh_types.specs.Wish.{Wish, no_wish}
use Rattle.lh_types.specs.History.{Made, Claim, claims, bits_at, sooner, if_later, soonest_due}
pub use Rattle.lh_types.specs.History.{kept, made_from, bits_after}
use Rattle.lh_types.specs.declared.part.Range.{Range}
use Rattle.lh_unit_names.specs.declared.name.UnitName.{UnitName}
use Rattle.lh_unit.specs.declared.inst.UnitKind.{UnitKind}
use Rattle.lh_unit.specs.declared.inst.UnitKind.TheVariants as kind
use Rattle.lh_unit.specs.Contents.{UnitText, ItemText, new_unit}
use Rattle.lh_unit.specs.Named.{unit_named}
use Rattle.lh_unit.specs.Held.{part_held, nothing_held, with_args}
use Rattle.lh_unit.specs.Activation.{Stand, is_new, waits, halted, ProcessState, Activated, activate, functions}
use Rattle.lh_unit.specs.Hierarchy.{Instance}
use Rattle.lh_unit.specs.Pass.{Passed, pass, probes}
use Rattle.lh_unit.specs.Design.{Design}

-- the state of an instance: of a process, or what an entity has seen of its triggers at its last run
pub data State : Type 0 where
  of_process : ProcessState → State
  of_entity : (memory : Option (List Bool)) → State

-- the unit of an instance, an empty entity where there is none
abbrev pub unit_of : List ItemText → UnitName → UnitText
unit_of items n = unwrap_or (unit_named n items) (new_unit n kind.Entity)

-- a process before its first activation, where its arguments have these bits
abbrev pub begun : UnitText → List Range → ProcessState
begun u args = record { stand = is_new; held = with_args nothing_held u.args (map part_held args) }

-- an instance as it begins: a process holds its arguments, an entity has not run
abbrev pub start_by : UnitKind → UnitText → Instance → State
start_by kind.Entity u i = of_entity None
start_by _ u i = of_process (begun u i.args)

-- an instance as it begins
abbrev pub start : UnitText → Instance → State
start u i = start_by u.kind u i

-- the parts that a process waits on, by where it stands
abbrev pub waited : Stand → List Range
waited is_new = []
waited (waits block to on wake) = on
waited halted = []

-- the parts that an instance senses: those that a process waits on, or that an entity probes
abbrev pub senses : UnitText → Instance → State → List Range
senses u i (of_process p) = waited p.stand
senses u i (of_entity memory) = probes u i.args i.sigs

-- when a process wakes by itself, by where it stands
abbrev pub wake_at : Stand → Option Instant
wake_at is_new = None
wake_at (waits block to on wake) = wake
wake_at halted = None

-- when an instance wakes by itself
abbrev pub wake_of : State → Option Instant
wake_of (of_process p) = wake_at p.stand
wake_of (of_entity memory) = None

-- the numbers of bits in a row, from a lowest one on
abbrev pub bits_from : (lo len : ℕ) → List ℕ
bits_from lo zero = []
bits_from lo (suc n) = lo ∷ bits_from (lo + 1) n

-- the numbers of the bits of parts
abbrev pub bit_numbers : List Range → List ℕ
bit_numbers [] = []
bit_numbers (r ∷ more) = bits_from r.lo r.len ++ bit_numbers more

-- the bit of a number
abbrev pub bit_at : List Bool → ℕ → Bool
bit_at bits k = unwrap_or (slice_get bits k) false

-- the bit differs from the frame before
abbrev pub bit_differs : (old now : List Bool) → ℕ → Bool
bit_differs old now k = (bit_at old k && not (bit_at now k)) || (not (bit_at old k) && bit_at now k)

-- The moment of a frame: its instant, the bits at it, and the bits of the frame before, none in the first frame.
pub record Moment : Type 0 where
  pub before : Option (List Bool)
  pub now : List Bool
  pub at : Instant

-- A frame wakes who senses these parts and wakes by itself at this instant: the first frame always, a later one where a bit that is sensed differs or the instant has come.
abbrev pub wakes : Moment → (sensed : List Range) → (wake : Option Instant) → Bool
wakes m sensed wake =
    option_map_or (λ old. list_any (bit_differs old m.now) (bit_numbers sensed) || option_map_or (instant_eq m.at) wake false) m.before true

-- an instance is woken
abbrev pub woken : Moment → UnitText → Instance → State → Bool
woken m u i state = wakes m (senses u i state) (wake_of state)

-- what an instance does in a frame: the state after it, its wish, whether each assertion passed, and whether it ran away
pub record Act : Type 0 where
  pub after : State
  pub wish : Wish
  pub outcomes : List Bool
  pub ran_away : Bool

-- what an instance does where it is not woken: nothing
abbrev pub rests : State → Act
rests state = record { after = state; wish = no_wish; outcomes = []; ran_away = false }

-- what a process does: an activation, or a runaway where there is none
abbrev pub process_act : ProcessState → Option Activated → Act
process_act p None = record { after = of_process p; wish = no_wish; outcomes = []; ran_away = true }
process_act p (Some d) = record { after = of_process d.state; wish = d.wish; outcomes = d.outcomes; ran_away = false }

-- what an entity does: a pass
abbrev pub entity_act : Passed → Act
entity_act p = record { after = of_entity (Some p.seen); wish = p.wish; outcomes = []; ran_away = false }

-- what never changes: the bound on an activation's instructions, and the functions of the module
pub record Rules : Type 0 where
  pub bound : ℕ
  pub functions : List UnitText

-- what an instance does where it is woken: a process an activation, an entity a pass
abbrev pub runs : Rules → (now : List Bool) → Instant → UnitText → Instance → State → Act
runs r now t u i (of_process p) = process_act p (activate r.bound (record { functions = r.functions; now = now; at = t }) u p)
runs r now t u i (of_entity memory) = entity_act (pass u i.args i.sigs now memory t)

-- this, where an instance is woken, and else nothing
abbrev pub if_woken : (is_woken : Bool) → Act → State → Act
if_woken true done state = done
if_woken false done state = rests state

-- what an instance does in a frame
abbrev pub act : Rules → Moment → UnitText → Instance → State → Act
act r m u i state = if_woken (woken m u i state) (runs r m.now m.at u i state) state

-- The world between two frames: the bits that the signals begin with, the instant of the last frame, the state of each instance, and all wishes made.
pub record World : Type 0 where
  pub init : List Bool
  pub last : Option Instant
  pub states : List State
  pub history : List Made

-- the states in which instances begin
abbrev pub starts : List ItemText → List Instance → List State
starts items [] = []
starts items (i ∷ more) = start (unit_of items i.unit) i ∷ starts items more

-- the world before the first frame
abbrev pub first_world : List ItemText → Design → World
first_world items d = record { init = d.init; last = None; states = starts items d.instances; history = [] }

-- the bits of the last frame of a world, before the first the initial ones
abbrev pub bits_of : World → List Bool
bits_of w = bits_after w.history w.init w.last

-- the bits of the last frame of a world, none before the first
abbrev pub bits_before : World → Option (List Bool)
bits_before w = option_map (bits_at w.history w.init) w.last

-- the moment of the frame at `t` of a world
abbrev pub moment_of : World → Instant → Moment
moment_of w t = record { before = bits_before w; now = bits_at w.history w.init t; at = t }

-- what each instance does in a frame
abbrev pub acts_from : Rules → List ItemText → Moment → List Instance → List State → List Act
acts_from r items m [] states = []
acts_from r items m (i ∷ more) [] = []
acts_from r items m (i ∷ more) (s ∷ states) = act r m (unit_of items i.unit) i s ∷ acts_from r items m more states

-- the rules of a module
abbrev pub rules_of : (bound : ℕ) → List ItemText → Rules
rules_of bound items = record { bound = bound; functions = functions items }

-- what the instances of a world do in the frame at `t`
unfoldable pub acts_at : (bound : ℕ) → List ItemText → Design → World → Instant → List Act
acts_at bound items d w t = acts_from (rules_of bound items) items (moment_of w t) d.instances w.states

-- the wishes of a frame, by instance
abbrev pub made_by : Instant → (instance : ℕ) → List Act → List Made
made_by t i done = made_from t i (map (λ (a : Act). a.wish) done)

-- the states after a frame
abbrev pub afters : List Act → List State
afters [] = []
afters (a ∷ more) = a.after ∷ afters more

-- the world after a frame at `t` in which the instances do this
abbrev pub world_after : World → Instant → List Act → World
world_after w t done = record { init = w.init; last = Some t; states = afters done; history = w.history ++ made_by t 0 done }

-- the world after the frame at `t`
abbrev pub next_world : (bound : ℕ) → List ItemText → Design → World → Instant → World
next_world bound items d w t = world_after w t (acts_at bound items d w t)

-- a wish is due at this instant
abbrev pub IsDueIn : List Claim → Instant → Type 0
IsDueIn [] u = ⊥
IsDueIn (c ∷ more) u = (c.due ≡ u) ⊎ IsDueIn more u

-- an instance wakes by itself at this instant
abbrev pub WakesIn : List State → Instant → Type 0
WakesIn [] u = ⊥
WakesIn (s ∷ more) u = (wake_of s ≡ Some u) ⊎ WakesIn more u

-- it is later than `t`, and a wish is due or a process wakes
abbrev pub ComesAfter : Instant → List Made → List State → Instant → Type 0
ComesAfter t history states u = (instant_lt t u ≡ true) × (IsDueIn (claims history) u ⊎ WakesIn states u)

-- The next instant after `t`: the least that comes, and none where none comes.
abbrev pub IsNext : Instant → List Made → List State → Option Instant → Type 0
IsNext t history states None = (u : Instant) → ¬ ComesAfter t history states u
IsNext t history states (Some u) = ComesAfter t history states u × ((v : Instant) → ComesAfter t history states v → instant_le u v ≡ true)

-- the soonest wake time after `t`
abbrev pub soonest_wake : Instant → List State → Option Instant
soonest_wake t [] = None
soonest_wake t (s ∷ more) = sooner (if_later t (wake_of s)) (soonest_wake t more)

-- The same, computed; before the first frame it is the first instant.
abbrev pub instant_after : Option Instant → List Made → List State → Option Instant
instant_after None history states = Some (instant 0 0 0)
instant_after (Some t) history states = sooner (soonest_due t (claims history)) (soonest_wake t states)

-- the next instant of a world
abbrev pub next_instant : World → Option Instant
next_instant w = instant_after w.last w.history w.states
