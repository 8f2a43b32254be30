-- When a unit may stand for another, and a module whose units are replaced so.
use Rattle.std.specs.Prelude.{◌≡◌, ◌⊎◌, ℕ, List, [], ◌∷◌, map, Bool, false, Option, Some, None}
use Rattle.lh_time.specs.declared.Instant.{Instant}
use Rattle.lh_types.specs.Types.{bit_count}
use Rattle.lh_types.specs.Wish.{Wish}
use Rattle.lh_types.specs.declared.part.Range.{Range}
use Rattle.lh_unit.specs.Contents.{ArgText, UnitText, ItemText, unit_text, declare_text}
use Rattle.lh_unit.specs.Hierarchy.{Instance, SignalText, Hierarchy, hierarchy_of}
use Rattle.lh_unit.specs.World.{State, start, wake_of, Moment, Act, act, Rules, rules_of}
use Rattle.lh_unit.specs.Trace.{SameTraceWithin}

-- what an instance shows of itself in a frame: its wish, its outcomes, whether it ran away, and when it will wake by itself
pub record Answer : Type 0 where
  pub wish : Wish
  pub outcomes : List Bool
  pub ran_away : Bool
  pub wake : Option Instant

abbrev pub answer_of : Act → Answer
answer_of a = record { wish = a.wish; outcomes = a.outcomes; ran_away = a.ran_away; wake = wake_of a.after }

-- what an instance sees of a frame: the instant, and the bits of all signals
pub record Seen : Type 0 where
  pub at : Instant
  pub now : List Bool

-- the moment of a frame that it sees, where the frame before had these bits
abbrev pub moment_seen : (before : Option (List Bool)) → Seen → Moment
moment_seen before f = record { before = before; now = f.now; at = f.at }

-- what it shows in frames that follow each other, from a state after a frame with these bits, none before the first
abbrev pub answers : Rules → UnitText → Instance → (before : Option (List Bool)) → State → List Seen → List Answer
answers r u i before s [] = []
answers r u i before s (f ∷ more) = answer_of (act r (moment_seen before f) u i s) ∷ answers r u i (Some f.now) (act r (moment_seen before f) u i s).after more

-- what it shows from the start on
abbrev pub answers_to : Rules → UnitText → Instance → List Seen → List Answer
answers_to r u i frames = answers r u i None (start u i) frames

-- the arguments and signals of an instance have the widths of their types
pub record HasWidths (h : Hierarchy) (i : Instance) : Type 0 where
  pub args : map (λ (r : Range). r.len) i.args ≡ map (λ (a : ArgText). bit_count a.ty) h.args
  pub sigs : map (λ (r : Range). r.len) i.sigs ≡ map (λ (s : SignalText). bit_count s.ty) h.signals

-- The second unit may stand for the first: to elaboration they are one, neither is a function, and whatever an instance sees, both show the same.
pub record MayStand (r : Rules) (x y : UnitText) : Type 0 where
  pub name : x.name ≡ y.name
  pub hierarchy : hierarchy_of x ≡ hierarchy_of y
  pub no_function : (hierarchy_of x).function ≡ false
  pub alike : (i : Instance) → HasWidths (hierarchy_of x) i → (frames : List Seen) → answers_to r x i frames ≡ answers_to r y i frames

-- one by one the second units are the first, or may stand for them
abbrev pub AllStand : Rules → List UnitText → List UnitText → Type 0
AllStand r [] [] = Unit {0}
AllStand r (x ∷ xs) (y ∷ ys) = ((x ≡ y) ⊎ MayStand r x y) × AllStand r xs ys
AllStand r _ _ = ⊥

-- the units that a module defines, in order
abbrev pub units_defined : List ItemText → List UnitText
units_defined [] = []
units_defined (unit_text u ∷ more) = u ∷ units_defined more
units_defined (declare_text d ∷ more) = units_defined more

-- One by one, in order, the second module defines the same unit as the first, or one that may stand for it. Declarations do not matter: neither what they say, nor how many
-- there are, nor where they stand.
abbrev pub Replaced : Rules → List ItemText → List ItemText → Type 0
Replaced r m m' = AllStand r (units_defined m) (units_defined m')

-- Any number of units may be replaced at once: the trace is the same, for every top and every number of frames.
abbrev pub ReplacedSameTrace : Type 0
ReplacedSameTrace = (bound : ℕ) (m m' : List ItemText) → Replaced (rules_of bound m) m m' → SameTraceWithin bound m m'
