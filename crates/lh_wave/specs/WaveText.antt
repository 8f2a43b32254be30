-- The text of a waveform, a value change dump as IEEE 1364 has it: what stands behind its head.
use Rattle.std.specs.Prelude.{ℕ, zero, suc, ◌+◌, List, [], ◌∷◌, ◌++◌, map, reverse, length, Bool, false, not, ◌||◌, nat_eq, if◌then◌else◌, codes, decimal}
use Rattle.std.specs.Int.Digits.{digits_of}
use Rattle.lh_types.specs.Values.{Datum}
use Rattle.lh_types.specs.Bits.{value_bits}
use Rattle.lh_types.specs.SameValue.{same_datum}

-- the digits of a number in base 94, highest first; 0 has one digit
abbrev pub digits_94 : ℕ → List ℕ
digits_94 zero = 0 ∷ []
digits_94 (suc n) = digits_of 94 (suc n)

-- The identifier code of signal k: k in base 94, lowest digit first, each digit as the byte 33 plus the digit, which are the
-- printable bytes from `!` to `~`.
abbrev pub identifier_code : ℕ → List ℕ
identifier_code k = map (λ digit. 33 + digit) (reverse (digits_94 k))

-- `0` or `1`
abbrev pub bit_byte : Bool → ℕ
bit_byte b = if b then 49 else 48

-- all bits of a value, highest first
abbrev pub bits_text : List Bool → List ℕ
bits_text bits = map bit_byte (reverse bits)

-- a value of one bit is that bit, of more a `b`, all bits and a space
abbrev pub marked_bits : List Bool → List ℕ
marked_bits bits = if nat_eq (length bits) 1 then bits_text bits else codes "b" ++ bits_text bits ++ codes " "

-- the value of a signal, and its code
abbrev pub value_line : (signal : ℕ) → Datum → List ℕ
value_line k v = marked_bits (value_bits v) ++ identifier_code k ++ codes "\n"

-- the lines of all signals, the first having this number
abbrev pub all_lines : ℕ → List Datum → List ℕ
all_lines k [] = []
all_lines k (v ∷ vs) = value_line k v ++ all_lines (k + 1) vs

-- the lines of the signals that differ from the values that were written last
abbrev pub differing_lines : ℕ → (written now : List Datum) → List ℕ
differing_lines k (w ∷ ws) (v ∷ vs) = (if same_datum w v then [] else value_line k v) ++ differing_lines (k + 1) ws vs
differing_lines k _ _ = []

-- `#1000000`: a time in femtoseconds
abbrev pub time_line : ℕ → List ℕ
time_line fs = codes "#" ++ decimal fs ++ codes "\n"

-- the values of all signals at a physical time
pub record WaveMoment : Type 0 where
  pub fs : ℕ
  pub values : List Datum

-- some value differs from the one that was written last
abbrev pub any_differs : (written now : List Datum) → Bool
any_differs (w ∷ ws) (v ∷ vs) = not (same_datum w v) || any_differs ws vs
any_differs _ _ = false

-- a time and the signals that differ at it, or nothing where none does
abbrev pub changes_at : (written : List Datum) → WaveMoment → List ℕ
changes_at written m = if any_differs written m.values then time_line m.fs ++ differing_lines 0 written m.values else []

-- the changes at later times, behind values that were written
abbrev pub changes_text : (written : List Datum) → List WaveMoment → List ℕ
changes_text written [] = []
changes_text written (m ∷ ms) = changes_at written m ++ changes_text m.values ms

-- of moments in a row at one physical time the last
abbrev pub lasts_from : WaveMoment → List WaveMoment → List WaveMoment
lasts_from m [] = m ∷ []
lasts_from m (n ∷ ns) = if nat_eq m.fs n.fs then lasts_from n ns else m ∷ lasts_from n ns

-- the values at the first time
abbrev pub dump_at : WaveMoment → List ℕ
dump_at m = time_line m.fs ++ codes "$dumpvars\n" ++ all_lines 0 m.values ++ codes "$end\n"

-- the values at the first time, and the changes at later ones
abbrev pub dump_text : List WaveMoment → List ℕ
dump_text [] = []
dump_text (m ∷ ms) = dump_at m ++ changes_text m.values ms

-- what a waveform says of frames in order, each by its physical time and the values of all signals
abbrev pub waveform_text : List WaveMoment → List ℕ
waveform_text [] = []
waveform_text (m ∷ ms) = dump_text (lasts_from m ms)
