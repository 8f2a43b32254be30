-- The class of each operation, and the step that it takes into its operand.
use Rattle.std.specs.Prelude.{Option, Some, None}
use Rattle.lh_types.specs.declared.op.Op.{Op}
use Rattle.lh_types.specs.declared.op.Op.TheVariants as op
use Rattle.lh_types.specs.declared.op.OpClass.{OpClass}
use Rattle.lh_types.specs.declared.op.OpClass.TheVariants as class
use Rattle.lh_types.specs.declared.part.Step.{Step}
use Rattle.lh_types.specs.declared.part.Step.TheVariants.{Field, Slice}

-- the class of an operation
abbrev pub class_of : Op → OpClass
class_of op.Not = class.Unary
class_of op.Neg = class.Unary
class_of op.Add = class.Binary
class_of op.Sub = class.Binary
class_of op.Umul = class.Binary
class_of op.Smul = class.Binary
class_of op.Udiv = class.Binary
class_of op.Sdiv = class.Binary
class_of op.Umod = class.Binary
class_of op.Smod = class.Binary
class_of op.Urem = class.Binary
class_of op.Srem = class.Binary
class_of op.And = class.Binary
class_of op.Or = class.Binary
class_of op.Xor = class.Binary
class_of op.Eq = class.Equality
class_of op.Neq = class.Equality
class_of op.Slt = class.Relation
class_of op.Sgt = class.Relation
class_of op.Sle = class.Relation
class_of op.Sge = class.Relation
class_of op.Ult = class.Relation
class_of op.Ugt = class.Relation
class_of op.Ule = class.Relation
class_of op.Uge = class.Relation
class_of op.Shl = class.Shift
class_of op.Shr = class.Shift
class_of op.Mux = class.Select
class_of (op.Extf k) = class.TakePart (Field k)
class_of (op.Exts at len) = class.TakePart (Slice at len)
class_of (op.Insf k) = class.PutPart (Field k)
class_of (op.Inss at len) = class.PutPart (Slice at len)
class_of op.Array = class.Array
class_of (op.Repeat n) = class.Repeat n
class_of op.Tuple = class.Tuple

-- the step to the part that an operation of the class takes of a value or a signal
abbrev pub taken_step : OpClass → Option Step
taken_step class.Unary = None
taken_step class.Binary = None
taken_step class.Relation = None
taken_step class.Equality = None
taken_step class.Shift = None
taken_step class.Select = None
taken_step (class.TakePart s) = Some s
taken_step (class.PutPart s) = None
taken_step class.Array = None
taken_step (class.Repeat n) = None
taken_step class.Tuple = None
