-- The words of the language: operations, the triggers of registers and the kinds of units.
use Rattle.std.specs.Prelude.{ℕ, List, [], ◌∷◌, codes}
use Rattle.lh_types.specs.Classes.{class_of}
use Rattle.lh_types.specs.declared.part.Step.{Step}
use Rattle.lh_types.specs.declared.part.Step.TheVariants.{Field, Slice}
use Rattle.lh_types.specs.declared.op.OpClass.{OpClass}
use Rattle.lh_types.specs.declared.op.OpClass.TheVariants as class
use Rattle.lh_types.specs.declared.op.Op.{Op}
use Rattle.lh_types.specs.declared.op.Op.TheVariants as op
use Rattle.lh_unit.specs.declared.inst.Mode.{Mode}
use Rattle.lh_unit.specs.declared.inst.Mode.TheVariants as mode

-- the word of an operation; those of arrays and structs have brackets in its place
abbrev pub op_word : Op → List ℕ
op_word op.Not = codes "not"
op_word op.Neg = codes "neg"
op_word op.Add = codes "add"
op_word op.Sub = codes "sub"
op_word op.Umul = codes "umul"
op_word op.Smul = codes "smul"
op_word op.Udiv = codes "udiv"
op_word op.Sdiv = codes "sdiv"
op_word op.Umod = codes "umod"
op_word op.Smod = codes "smod"
op_word op.Urem = codes "urem"
op_word op.Srem = codes "srem"
op_word op.And = codes "and"
op_word op.Or = codes "or"
op_word op.Xor = codes "xor"
op_word op.Eq = codes "eq"
op_word op.Neq = codes "neq"
op_word op.Slt = codes "slt"
op_word op.Sgt = codes "sgt"
op_word op.Sle = codes "sle"
op_word op.Sge = codes "sge"
op_word op.Ult = codes "ult"
op_word op.Ugt = codes "ugt"
op_word op.Ule = codes "ule"
op_word op.Uge = codes "uge"
op_word op.Shl = codes "shl"
op_word op.Shr = codes "shr"
op_word op.Mux = codes "mux"
op_word (op.Extf k) = codes "extf"
op_word (op.Exts at len) = codes "exts"
op_word (op.Insf k) = codes "insf"
op_word (op.Inss at len) = codes "inss"
op_word op.Array = []
op_word (op.Repeat n) = []
op_word op.Tuple = []

-- the numbers of a step: those of a field or element, and of bits or elements
abbrev pub step_numbers : Step → List ℕ
step_numbers (Field k) = k ∷ []
step_numbers (Slice at len) = at ∷ len ∷ []

-- the numbers that an operation of the class writes behind its operands
abbrev pub class_numbers : OpClass → List ℕ
class_numbers class.Unary = []
class_numbers class.Binary = []
class_numbers class.Relation = []
class_numbers class.Equality = []
class_numbers class.Shift = []
class_numbers class.Select = []
class_numbers (class.TakePart s) = step_numbers s
class_numbers (class.PutPart s) = step_numbers s
class_numbers class.Array = []
class_numbers (class.Repeat n) = []
class_numbers class.Tuple = []

-- the numbers that an operation writes behind its operands
abbrev pub op_numbers : Op → List ℕ
op_numbers o = class_numbers (class_of o)

-- the word of a register's trigger
abbrev pub mode_word : Mode → List ℕ
mode_word mode.Rise = codes "rise"
mode_word mode.Fall = codes "fall"
mode_word mode.Both = codes "both"
mode_word mode.High = codes "high"
mode_word mode.Low = codes "low"
