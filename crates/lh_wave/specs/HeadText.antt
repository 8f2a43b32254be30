-- The heads of the texts of a run: the signals of a trace, and the instances and signals of a waveform.
use Rattle.std.specs.Prelude.{ℕ, zero, suc, ◌+◌, List, [], ◌∷◌, ◌++◌, map, length, Bool, false, nat_eq, Option, Some, None, if◌then◌else◌, codes, decimal}
use Rattle.std.specs.List.{flat_map}
use Rattle.lh_types.specs.Types.{bit_count}
use Rattle.lh_unit.specs.Pieces.{render}
use Rattle.lh_unit.specs.CanonTypes.{type_pieces}
use Rattle.lh_unit.specs.Design.{Design}
use Rattle.lh_unit.specs.Trace.{Shown, ShownSignal, shown_signal}
use Rattle.lh_unit.specs.Paths.{label_at, path_at}
use Rattle.lh_wave.specs.WaveText.{identifier_code}

-- the signals of a design as a trace shows them
abbrev pub signals_in : Design → List ShownSignal
signals_in d = map shown_signal d.signals

-- `sig 3 i32 acc_tb.q`: the number of a signal, its type without `$`, the path of its instance and its name
abbrev pub signal_line : (signal : ℕ) → (ty path name : List ℕ) → List ℕ
signal_line k ty path name = codes "sig " ++ decimal k ++ codes " " ++ ty ++ codes " " ++ path ++ codes "." ++ name ++ codes "\n"

-- the lines of signals, the first having this number
abbrev pub signal_lines : List Shown → ℕ → List ShownSignal → List ℕ
signal_lines all k [] = []
signal_lines all k (s ∷ more) = signal_line k (render (type_pieces s.ty)) (path_at all s.instance) s.name ++ signal_lines all (k + 1) more

-- the head of a trace: a line for each signal
abbrev pub trace_head : List Shown → List ShownSignal → List ℕ
trace_head all signals = signal_lines all 0 signals

-- a scope of a waveform begins, and ends
abbrev pub scope_line : (label : List ℕ) → List ℕ
scope_line label = codes "$scope module " ++ label ++ codes " $end\n"

abbrev pub upscope_line : List ℕ
upscope_line = codes "$upscope $end\n"

-- a signal of a waveform: how many bits it has, its identifier code and its name
abbrev pub variable_line : (bits signal : ℕ) → (name : List ℕ) → List ℕ
variable_line bits k name = codes "$var wire " ++ decimal bits ++ codes " " ++ identifier_code k ++ codes " " ++ name ++ codes " $end\n"

-- the signal's line, where it belongs to this instance
abbrev pub variable_in : (instance signal : ℕ) → ShownSignal → List ℕ
variable_in i k s = if nat_eq s.instance i then variable_line (bit_count s.ty) k s.name else []

-- the lines of an instance's signals, the first of all signals having this number
abbrev pub variables_of : (instance : ℕ) → ℕ → List ShownSignal → List ℕ
variables_of i k [] = []
variables_of i k (s ∷ more) = variable_in i k s ++ variables_of i (k + 1) more

-- the parent is this instance
abbrev pub is_parent : ℕ → Option ℕ → Bool
is_parent i None = false
is_parent i (Some parent) = nat_eq parent i

-- the numbers of an instance's children, the first of all instances having this number
abbrev pub children_of : (instance : ℕ) → ℕ → List Shown → List ℕ
children_of i k [] = []
children_of i k (s ∷ more) = if is_parent i s.parent then k ∷ children_of i (k + 1) more else children_of i (k + 1) more

-- an instance: its scope with its signals and then its children, depth first, at most `steps` of them within one another
abbrev pub scope_text : (steps : ℕ) → List Shown → List ShownSignal → (instance : ℕ) → List ℕ
scope_text zero all signals i = []
scope_text (suc n) all signals i =
    scope_line (label_at all i) ++ variables_of i 0 signals ++ flat_map (scope_text n all signals) (children_of i 0 all) ++ upscope_line

-- The head of a waveform: the unit of time, and all instances from the top down. A child has a higher number than its parent,
-- so no more instances stand within one another than there are.
abbrev pub waveform_head : List Shown → List ShownSignal → List ℕ
waveform_head all signals = codes "$timescale 1 fs $end\n" ++ scope_text (length all) all signals 0 ++ codes "$enddefinitions $end\n"
