-- Texts of units in few words, in which worked designs are written.
use Rattle.std.specs.Prelude.{ℕ, List, [], ◌∷◌, Some, None, true, false}
use Rattle.lh_types.specs.Types.{TypeTree, int_type}
pub use Rattle.lh_types.specs.TypeTests.{bit}
use Rattle.lh_types.specs.Values.{Datum, int_value, time_value}
use Rattle.lh_unit_names.specs.declared.name.UnitName.{UnitName}
use Rattle.lh_unit.specs.declared.inst.UnitKind.TheVariants as kind
use Rattle.lh_unit.specs.Contents.{OperandText, InstText, const_text, LineText, BlockText, ArgText, UnitText}

-- i8
abbrev pub byte : TypeTree
byte = int_type 8

-- i32
abbrev pub word : TypeTree
word = int_type 32

-- @n
abbrev pub global : List ℕ → UnitName
global n = record { sigil = 64; name = n }

-- an operand with its type, and one without
abbrev pub typed : TypeTree → List ℕ → OperandText
typed t n = record { value = n; ty = Some t }

abbrev pub plain : List ℕ → OperandText
plain n = record { value = n; ty = None }

-- a line that gives a value of this name, and one that gives none
abbrev pub gives : List ℕ → InstText → LineText
gives n i = record { result = Some n; inst = i }

abbrev pub does : InstText → LineText
does i = record { result = None; inst = i }

-- const iN k
abbrev pub number : (bits k : ℕ) → InstText
number bits k = const_text (int_value bits k)

-- a time of so many femtoseconds and delta steps
abbrev pub time : (fs delta : ℕ) → Datum
time fs delta = time_value (record { fs = fs; delta = delta; eps = 0 })

-- an argument that is an input, and one that is an output
abbrev pub input : List ℕ → TypeTree → ArgText
input n t = record { name = n; ty = t; output = false }

abbrev pub output : List ℕ → TypeTree → ArgText
output n t = record { name = n; ty = t; output = true }

abbrev pub block : List ℕ → List LineText → BlockText
block n lines = record { label = Some n; lines = lines }

-- the one block of an entity
abbrev pub body : List LineText → List BlockText
body lines = record { label = None; lines = lines } ∷ []

abbrev pub function : List ℕ → List ArgText → TypeTree → List BlockText → UnitText
function n args t blocks = record { kind = kind.Func; name = global n; args = args; result = Some t; blocks = blocks }
