-- The traces of small files, computed.
use Rattle.std.specs.Prelude.{◌≡◌, ℕ, List, [], ◌∷◌, map, Bool, false, Some, None, codes, refl}
use Rattle.std.specs.Fmt.{digits}
use Rattle.lh_time.specs.Due.{instant}
use Rattle.lh_types.specs.Types.{int_type}
use Rattle.lh_types.specs.Values.{int_value}
use Rattle.lh_types.specs.Wish.{DueBit}
use Rattle.lh_types.specs.declared.part.Range.{Range}
use Rattle.lh_types.specs.History.{bits_at}
use Rattle.lh_unit.specs.Activation.{activate}
use Rattle.lh_unit.specs.Pass.{pass, probes}
use Rattle.lh_unit.specs.Design.{visit, design_of, refusal_of}
use Rattle.lh_unit.specs.World.{acts_at}
use Rattle.lh_unit.specs.Trace.{Frame, End, quiet, steps, runaway, Run, Shown, ShownSignal, ran, trace}
use Rattle.lh_unit.specs.declared.inst.Mode.TheVariants.{Rise, High}
use Rattle.lh_trace_laws.proofs.Samples.{global, one_drive, two_drivers, high_from_start, rises_later, waits_for, zero_delay, failing, endless, five_delays}

abbrev bit_range : ℕ → Range
bit_range k = record { lo = k; len = 1 }

abbrev top_only : List Shown
top_only = record { label = codes "t"; parent = None } ∷ []

abbrev one_bit : List ShownSignal
one_bit = record { instance = 0; name = codes "a"; ty = int_type 1 } ∷ []

pub one_drive_whole : trace one_drive (global (codes "t")) 9 ≡
    ran top_only one_bit (record {
      frames =
          record { at = instant 0 0 0; values = int_value 1 0 ∷ []; outcomes = [] }
          ∷ record { at = instant 1000000 0 0; values = int_value 1 1 ∷ []; outcomes = [] }
          ∷ [];
      end = quiet;
    })
unfolding activate pass probes visit design_of refusal_of bits_at acts_at
one_drive_whole = refl

pub one_drive_first : trace one_drive (global (codes "t")) 1 ≡
    ran top_only one_bit (record { frames = record { at = instant 0 0 0; values = int_value 1 0 ∷ []; outcomes = [] } ∷ []; end = steps })
unfolding activate pass probes visit design_of refusal_of bits_at acts_at
one_drive_first = refl

-- a frame with these bits as values and no outcome
abbrev frame : ℕ → ℕ → ℕ → (width : ℕ) → List ℕ → Frame
frame fs delta eps width vs = record { at = instant fs delta eps; values = map (int_value width) vs; outcomes = [] }

abbrev ended : End → List Frame → Run
ended e fs = record { frames = fs; end = e }

abbrev signal_of : List ℕ → ℕ → ShownSignal
signal_of n width = record { instance = 0; name = n; ty = int_type width }

-- of two drives that are due at one instant and were made at one instant, that of the greater instance counts
pub two_drivers_trace : trace two_drivers (global (codes "t")) 9 ≡
    ran (record { label = codes "t"; parent = None } ∷ record { label = codes "r_1"; parent = Some 0 } ∷ record { label = codes "p_2"; parent = Some 0 } ∷ [])
    (signal_of (codes "s") 8 ∷ []) (ended quiet (frame 0 0 0 8 (0 ∷ []) ∷ frame 1000000 0 0 8 (1 ∷ []) ∷ []))
unfolding activate pass probes visit design_of refusal_of bits_at acts_at digits
two_drivers_trace = refl

abbrev c_and_q : List ShownSignal
c_and_q = signal_of (codes "c") 1 ∷ signal_of (codes "q") 1 ∷ []

-- a register does not fire on its first run, where it looks for an edge
pub first_run_rests : trace (high_from_start Rise) (global (codes "t")) 9 ≡ ran top_only c_and_q (ended quiet (frame 0 0 0 1 (1 ∷ 0 ∷ []) ∷ []))
unfolding activate pass probes visit design_of refusal_of bits_at acts_at
first_run_rests = refl

pub first_run_high : trace (high_from_start High) (global (codes "t")) 9 ≡
    ran top_only c_and_q (ended quiet (frame 0 0 0 1 (1 ∷ 0 ∷ []) ∷ frame 0 1 0 1 (1 ∷ 1 ∷ []) ∷ []))
unfolding activate pass probes visit design_of refusal_of bits_at acts_at
first_run_high = refl

pub edge_fires : trace rises_later (global (codes "t")) 9 ≡
    ran top_only c_and_q (ended quiet (frame 0 0 0 1 (0 ∷ 0 ∷ []) ∷ frame 1000000 0 0 1 (1 ∷ 0 ∷ []) ∷ frame 1000000 1 0 1 (1 ∷ 1 ∷ []) ∷ frame 2000000 0 0 1 (1 ∷ 1 ∷ []) ∷ []))
unfolding activate pass probes visit design_of refusal_of bits_at acts_at
edge_fires = refl

pub waits_for_trace : trace waits_for (global (codes "p")) 9 ≡
    ran (record { label = codes "p"; parent = None } ∷ []) (signal_of (codes "q") 1 ∷ [])
    (ended quiet (frame 0 0 0 1 (0 ∷ []) ∷ frame 1000000 0 0 1 (0 ∷ []) ∷ frame 2000000 0 0 1 (1 ∷ []) ∷ []))
unfolding activate pass probes visit design_of refusal_of bits_at acts_at
waits_for_trace = refl

-- a zero delay makes a delta cycle
pub zero_delay_trace : trace zero_delay (global (codes "t")) 9 ≡
    ran top_only one_bit (ended quiet (frame 0 0 0 1 (0 ∷ []) ∷ frame 0 1 0 1 (1 ∷ []) ∷ []))
unfolding activate pass probes visit design_of refusal_of bits_at acts_at
zero_delay_trace = refl

abbrev p_only : List Shown
p_only = record { label = codes "p"; parent = None } ∷ []

pub failing_trace : trace failing (global (codes "p")) 3 ≡
    ran p_only [] (ended quiet (record { at = instant 0 0 0; values = []; outcomes = record { instance = 0; passed = false } ∷ [] } ∷ []))
unfolding activate pass probes visit design_of refusal_of bits_at acts_at
failing_trace = refl

-- the call after 256 open ones has no step
pub endless_trace : trace endless (global (codes "p")) 3 ≡ ran p_only [] (ended (runaway 0) (frame 0 0 0 1 [] ∷ []))
unfolding activate pass probes visit design_of refusal_of bits_at acts_at
endless_trace = refl

abbrev due : ℕ → ℕ → ℕ → ℕ → DueBit × Bool
due fs delta eps bit = (record { due = instant fs delta eps; bit = bit }, false)

-- five delays from one instant, in the order in which they are due
pub five_delays_wish : (pass five_delays [] (bit_range 0 ∷ bit_range 1 ∷ bit_range 2 ∷ bit_range 3 ∷ bit_range 4 ∷ []) [] None (instant 5 7 9)).wish ≡
    due 5 7 10 3 ∷ due 5 8 0 0 ∷ due 5 8 0 1 ∷ due 5 8 4 2 ∷ due 1000005 2 3 4 ∷ []
unfolding pass
five_delays_wish = refl
