-- Words in which the items of a file are written.
use Rattle.std.specs.Prelude.{ℕ, List, [], ◌∷◌, Some, None, codes, true, false}
use Prim.Native.String.{String}
use Rattle.lh_types.specs.Types.{TypeTree, signal_type}
use Rattle.lh_types.specs.declared.op.Op.{Op}
use Rattle.lh_unit_names.specs.declared.name.UnitName.{UnitName}
use Rattle.lh_unit.specs.declared.inst.UnitKind.TheVariants as kind
pub use Rattle.lh_unit.specs.Worded.{bit, word, typed, plain, gives, does, number}
use Rattle.lh_unit.specs.Worded.{global, time}
use Rattle.lh_unit.specs.Contents.{OperandText, InstText, const_text, pure_text, sig_text, prb_text, drv_text, child_text, LineText, BlockText, ArgText, UnitText}

-- @n
abbrev pub unit_at : String → UnitName
unit_at n = global (codes n)

-- a signal that carries this type
abbrev pub signal : TypeTree → List ℕ → OperandText
signal t n = typed (signal_type t) n

-- const time, of so many femtoseconds and delta steps
abbrev pub delay : (fs delta : ℕ) → InstText
delay fs delta = const_text (time fs delta)

-- a signal that begins with a value
abbrev pub begins_with : TypeTree → String → InstText
begins_with t v = sig_text (typed t (codes v))

-- an operation on two values
abbrev pub two : Op → TypeTree → String → String → InstText
two o t a b = pure_text o (typed t (codes a) ∷ plain (codes b) ∷ [])

abbrev pub probe : TypeTree → String → InstText
probe t s = prb_text (signal t (codes s))

-- a value that is driven onto a signal after a delay
abbrev pub drive : TypeTree → (s v d : String) → InstText
drive t s v d = drv_text (signal t (codes s)) (codes v) (codes d) None

-- an instance of a unit, connected to these inputs and outputs
abbrev pub instance : String → (inputs outputs : List OperandText) → LineText
instance n inputs outputs = does (child_text (unit_at n) inputs outputs)

abbrev pub input : String → TypeTree → ArgText
input n t = record { name = codes n; ty = signal_type t; output = false }

abbrev pub output : String → TypeTree → ArgText
output n t = record { name = codes n; ty = signal_type t; output = true }

abbrev pub block : String → List LineText → BlockText
block n lines = record { label = Some (codes n); lines = lines }

abbrev pub process : String → List ArgText → List BlockText → UnitText
process n args blocks = record { kind = kind.Proc; name = unit_at n; args = args; result = None; blocks = blocks }

-- an entity without arguments
abbrev pub top : UnitName → List LineText → UnitText
top n lines = record { kind = kind.Entity; name = n; args = []; result = None; blocks = record { label = None; lines = lines } ∷ [] }
