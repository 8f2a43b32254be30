-- Frame after frame: the world after some of them, which instances are woken in one, and how its values differ from those before.
use Rattle.std.specs.Prelude.{ℕ, zero, suc, ◌+◌, List, [], ◌∷◌, length, map, count_by, nat_eq, nat_le, Bool, if◌then◌else◌, Option, Some, None}
use Rattle.std.specs.Option.{option_and_then, option_map}
use Rattle.lh_time.specs.declared.Instant.{Instant}
use Rattle.lh_types.specs.Values.{Datum}
use Rattle.lh_types.specs.Pictures.{Showing, Picture}
use Rattle.lh_types.specs.Bits.{value_bits, differing}
use Rattle.lh_types.specs.History.{bits_at}
use Rattle.lh_unit.specs.Contents.{ItemText}
use Rattle.lh_unit.specs.Hierarchy.{Instance}
use Rattle.lh_unit.specs.Design.{Signal, Design}
use Rattle.lh_unit.specs.World.{State, unit_of, Moment, woken, moment_of, bits_of, acts_at, World, world_after, next_instant}
use Rattle.lh_unit.specs.Trace.{Frame, least_runaway, signal_value}

-- the world after a frame, unless an instance ran away in it
abbrev pub world_unless : (runaway : Option ℕ) → World → Option World
world_unless None w = Some w
world_unless (Some i) w = None

-- the world after the frame at `t`, unless it ends the run
abbrev pub world_past : (bound : ℕ) → List ItemText → Design → World → Instant → Option World
world_past bound items d w t = world_unless (least_runaway 0 (acts_at bound items d w t)) (world_after w t (acts_at bound items d w t))

-- the world k frames after this one, where there are so many and none of them ends the run
abbrev pub world_later : (bound : ℕ) → List ItemText → Design → (k : ℕ) → World → Option World
world_later bound items d zero w = Some w
world_later bound items d (suc k) w = option_and_then (world_later bound items d k) (option_and_then (world_past bound items d w) (next_instant w))

-- the numbers of the instances that are woken, the first of these having this number
abbrev pub woken_from : (number : ℕ) → List ItemText → Moment → List Instance → List State → List ℕ
woken_from k items m [] states = []
woken_from k items m (i ∷ more) [] = []
woken_from k items m (i ∷ more) (s ∷ states) =
    if woken m (unit_of items i.unit) i s then k ∷ woken_from (k + 1) items m more states else woken_from (k + 1) items m more states

-- The instances that are woken in the frame at `t`, by their numbers, rising.
unfoldable pub woken_at : List ItemText → Design → World → Instant → List ℕ
woken_at items d w t = woken_from 0 items (moment_of w t) d.instances w.states

-- how many of the woken instances a frame activates: all, or those up to the least that runs away
abbrev pub activated_count : (runaway : Option ℕ) → (woken : List ℕ) → ℕ
activated_count None ks = length ks
activated_count (Some i) ks = count_by (λ k. nat_le k i) ks

-- how many bits of two values of one type differ
abbrev pub toggled : (old now : Datum) → ℕ
toggled v w = differing (value_bits v) (value_bits w)

-- every signal of these, the first having this number, with no bit counted as toggled
abbrev pub all_change : (signal : ℕ) → (now : List Datum) → List Showing
all_change k [] = []
all_change k (w ∷ now) = record { signal = k; toggled = 0; value = w } ∷ all_change (k + 1) now

-- one more change, where some bit toggled
abbrev pub change_if : (signal toggled : ℕ) → (now : Datum) → List Showing → List Showing
change_if k n w more = if nat_eq n 0 then more else record { signal = k; toggled = n; value = w } ∷ more

-- those of these signals whose values differ from those before
abbrev pub changed_from : (signal : ℕ) → (old now : List Datum) → List Showing
changed_from k [] now = []
changed_from k (v ∷ old) [] = []
changed_from k (v ∷ old) (w ∷ now) = change_if k (toggled v w) w (changed_from (k + 1) old now)

-- The changes of a frame against the values of the frame before; in the first frame every signal changes.
abbrev pub changes_by : (before : Option (List Datum)) → (now : List Datum) → List Showing
changes_by None now = all_change 0 now
changes_by (Some old) now = changed_from 0 old now

-- what a frame shows, where the values before it are these
abbrev pub picture_by : (before : Option (List Datum)) → Frame → Picture
picture_by before f = record { at = f.at; changes = changes_by before f.values; outcomes = f.outcomes }

-- what frames that follow each other show, each with its changes against the one before
abbrev pub pictures : (before : Option (List Datum)) → List Frame → List Picture
pictures before [] = []
pictures before (f ∷ more) = picture_by before f ∷ pictures (Some f.values) more

-- the values of the signals where they have these bits
abbrev pub signal_values : List Signal → (bits : List Bool) → List Datum
signal_values signals bits = map (signal_value bits) signals

-- the values in the last frame of a world, none before the first
abbrev pub values_before : Design → World → Option (List Datum)
values_before d w = option_map (λ t. signal_values d.signals (bits_of w)) w.last

-- the changes of the frame at `t`
unfoldable pub changes_at : Design → World → Instant → List Showing
changes_at d w t = changes_by (values_before d w) (signal_values d.signals (bits_at w.history w.init t))
