-- How instructions are spelled: one case for each spelling of the language.
use Rattle.std.specs.Prelude.{◌≡◌, ℕ, Bool, true, false, not, List, [], ◌∷◌, length, Option, Some, None, ◌⊎◌, codes}
use Rattle.lh_types.specs.Types.{TypeTree, int_type, array_type, tuple_type, IsLimited, row_of}
pub use Rattle.lh_types.specs.TypeTests.{is_void}
use Rattle.lh_types.specs.Values.{int_value, time_value}
use Rattle.lh_types.specs.Classes.{class_of}
use Rattle.lh_types.specs.declared.op.Op.{Op}
use Rattle.lh_types.specs.declared.op.Op.TheVariants as op
use Rattle.lh_types.specs.declared.op.OpClass.{OpClass}
use Rattle.lh_types.specs.declared.op.OpClass.TheVariants as class
use Rattle.lh_unit.specs.Contents.{OperandText, InstText, const_text, pure_text, var_text, ld_text, st_text, sig_text, prb_text, drv_text, reg_text, child_text, call_text, phi_text, br_text, branch_text, wait_text, halt_text, ret_text}
use Rattle.lh_unit.specs.Lexemes.{Lexeme, word, local, arrow}
use Rattle.lh_unit.specs.Marks.{open_paren, close_paren, open_bracket, close_bracket, open_brace, close_brace, comma, equals}
use Rattle.lh_unit.specs.Numerals.{number_of}
use Rattle.lh_unit.specs.CanonWords.{op_word, op_numbers}
use Rattle.lh_unit.specs.SpellsTypes.{SpellsType}
use Rattle.lh_unit.specs.SpellsNumbers.{SpellsNumber, SpellsInteger, SpellsTime}
use Rattle.lh_unit.specs.SpellsParts.{SpellsUnitName, SpellsParts, SpellsList, SpellsBehind, SpellsLocal, SpellsOperand, SpellsBare, SpellsWithType, SpellsMaybe, SpellsTrigger, SpellsEdge}

-- how an operand of an operation is written
pub data Column : Type 0 where
  -- `D %a`
  typed : Column
  -- `%a`
  bare : Column
  -- `?%a`
  free : Column

-- the operands of an operation of the class, in order; those of arrays and structs have brackets in the place of columns
abbrev pub class_columns : OpClass → List Column
class_columns class.Unary = typed ∷ []
class_columns class.Binary = typed ∷ bare ∷ []
class_columns class.Relation = typed ∷ bare ∷ []
class_columns class.Equality = typed ∷ bare ∷ []
class_columns class.Shift = typed ∷ free ∷ free ∷ []
class_columns class.Select = typed ∷ bare ∷ []
class_columns (class.TakePart s) = typed ∷ []
class_columns (class.PutPart s) = typed ∷ bare ∷ []
class_columns class.Array = typed ∷ bare ∷ []
class_columns (class.Repeat n) = typed ∷ bare ∷ []
class_columns class.Tuple = typed ∷ bare ∷ []

-- the operands of an operation that has a word, in order
abbrev pub columns : Op → List Column
columns o = class_columns (class_of o)

-- an operand as its column says
abbrev pub SpellsColumn : Column → OperandText → List Lexeme → List Lexeme → Type 0
SpellsColumn typed o ts more = SpellsWithType o ts more
SpellsColumn bare o ts more = SpellsBare o ts more
SpellsColumn free o ts more = SpellsOperand o ts more

-- operands by comma, one for each column
abbrev pub SpellsColumns : List Column → List OperandText → List Lexeme → List Lexeme → Type 0
SpellsColumns (c ∷ []) (o ∷ []) ts more = SpellsColumn c o ts more
SpellsColumns (c ∷ d ∷ cs) (o ∷ p ∷ os) ts more = (us : List Lexeme) × SpellsColumn c o ts (comma ∷ us) × SpellsColumns (d ∷ cs) (p ∷ os) us more
SpellsColumns _ _ ts more = ⊥

-- the word of an operation; `mul` is another one of `umul`
abbrev pub IsOpWord : Op → List ℕ → Type 0
IsOpWord op.Umul w = (w ≡ op_word op.Umul) ⊎ (w ≡ codes "mul")
IsOpWord o w = w ≡ op_word o

-- `op D %a, %b`, and behind it the numbers that it has
abbrev pub SpellsWordOp : Op → List OperandText → List Lexeme → Type 0
SpellsWordOp o args ts = (w : List ℕ) × (us : List Lexeme) × (vs : List Lexeme) × (ts ≡ word w ∷ us) × IsOpWord o w × SpellsColumns (columns o) args us vs
    × SpellsBehind SpellsNumber (op_numbers o) vs []

-- the types that are written before operands, where each has one
abbrev pub written_types : List OperandText → List TypeTree
written_types [] = []
written_types (o ∷ more) = elim o.ty [ None ↦ written_types more | Some t ↦ t ∷ written_types more ]

-- an operation of the class; an array or struct has a type within the limits
abbrev pub SpellsOfClass : OpClass → Op → List OperandText → List Lexeme → Type 0
SpellsOfClass class.Unary o args ts = SpellsWordOp o args ts
SpellsOfClass class.Binary o args ts = SpellsWordOp o args ts
SpellsOfClass class.Relation o args ts = SpellsWordOp o args ts
SpellsOfClass class.Equality o args ts = SpellsWordOp o args ts
SpellsOfClass class.Shift o args ts = SpellsWordOp o args ts
SpellsOfClass class.Select o args ts = SpellsWordOp o args ts
SpellsOfClass (class.TakePart s) o args ts = SpellsWordOp o args ts
SpellsOfClass (class.PutPart s) o args ts = SpellsWordOp o args ts
-- `[D %a, %b]`
SpellsOfClass class.Array o [] ts = ⊥
SpellsOfClass class.Array o (a ∷ rest) ts =
    (t : TypeTree) × (us : List Lexeme) × (vs : List Lexeme) × (ts ≡ open_bracket ∷ us) × (a.ty ≡ Some t)
    × SpellsType t us (local a.value ∷ vs) × SpellsBehind SpellsBare rest vs (close_bracket ∷ []) × IsLimited (array_type (length (a ∷ rest)) t)
-- `[N x D %a]`
SpellsOfClass (class.Repeat n) o (a ∷ []) ts =
    (t : TypeTree) × (w : List ℕ) × (us : List Lexeme) × (ts ≡ open_bracket ∷ word w ∷ word (codes "x") ∷ us) × (number_of w ≡ Some n) × (a.ty ≡ Some t)
    × SpellsType t us (local a.value ∷ close_bracket ∷ []) × IsLimited (array_type n t)
SpellsOfClass (class.Repeat n) o _ ts = ⊥
-- `{D1 %a, D2 %b}`
SpellsOfClass class.Tuple o args ts = (us : List Lexeme) × (ts ≡ open_brace ∷ us) × SpellsParts SpellsWithType args us (close_brace ∷ []) × IsLimited (tuple_type (row_of (written_types args)))

-- an operation
abbrev pub SpellsPure : Op → List OperandText → List Lexeme → Type 0
SpellsPure o args ts = SpellsOfClass (class_of o) o args ts

-- what follows `drv S %s, %v`
abbrev pub SpellsDelay : (after : List ℕ) → (cond : Option (List ℕ)) → List Lexeme → Type 0
SpellsDelay after cond ts =
    -- `after %d if %c`
    ((us : List Lexeme) × (ts ≡ word (codes "after") ∷ local after ∷ us) × SpellsMaybe (codes "if") cond us [])
    -- `, %d if %c`
    ⊎ ((us : List Lexeme) × (ts ≡ comma ∷ local after ∷ us) × SpellsMaybe (codes "if") cond us [])
    -- `if %c after %d`
    ⊎ ((c : List ℕ) × (cond ≡ Some c) × (ts ≡ word (codes "if") ∷ local c ∷ word (codes "after") ∷ local after ∷ []))

-- a word, and behind it an operand with its type
abbrev pub SpellsWordTyped : List ℕ → OperandText → List Lexeme → List Lexeme → Type 0
SpellsWordTyped w o ts more = (us : List Lexeme) × (ts ≡ word w ∷ us) × SpellsWithType o us more

-- an instruction, behind `%r = ` where that stands
abbrev pub SpellsInst : InstText → List Lexeme → Type 0
-- `const iN k`
SpellsInst (const_text (int_value n bits)) ts = (us : List Lexeme) × (vs : List Lexeme) × (ts ≡ word (codes "const") ∷ us) × SpellsType (int_type n) us vs × SpellsInteger n bits vs
-- `const time L`
SpellsInst (const_text (time_value d)) ts = (us : List Lexeme) × (ts ≡ word (codes "const") ∷ word (codes "time") ∷ us) × SpellsTime d us
SpellsInst (const_text _) ts = ⊥
-- the operations on values and on parts of signals
SpellsInst (pure_text o args) ts = SpellsPure o args ts
-- `var V %a`
SpellsInst (var_text a) ts = SpellsWordTyped (codes "var") a ts []
-- `ld V* %p`
SpellsInst (ld_text p) ts = SpellsWordTyped (codes "ld") p ts []
-- `st V* %p, %v`
SpellsInst (st_text p v) ts = SpellsWordTyped (codes "st") p ts (comma ∷ local v ∷ [])
-- `sig D %a`
SpellsInst (sig_text a) ts = SpellsWordTyped (codes "sig") a ts []
-- `prb S %s`
SpellsInst (prb_text s) ts = SpellsWordTyped (codes "prb") s ts []
-- `drv S %s, %v after %d if %c`
SpellsInst (drv_text s v d c) ts = (us : List Lexeme) × SpellsWordTyped (codes "drv") s ts (comma ∷ local v ∷ us) × SpellsDelay d c us
-- `reg S %q, [%v, mode %t if %g after %d]`, with one or more triggers
SpellsInst (reg_text q triggers) ts = (us : List Lexeme) × SpellsWordTyped (codes "reg") q ts (comma ∷ us) × SpellsParts SpellsTrigger triggers us []
-- `inst @u (?%a) -> (?%b)`
SpellsInst (child_text u inputs outputs) ts =
    (name : Lexeme) × (us : List Lexeme) × (vs : List Lexeme) × (ts ≡ word (codes "inst") ∷ name ∷ open_paren ∷ us) × SpellsUnitName u name
    × SpellsList SpellsOperand inputs us (close_paren ∷ arrow ∷ open_paren ∷ vs) × SpellsList SpellsOperand outputs vs (close_paren ∷ [])
-- `call R @f (?%a)`
SpellsInst (call_text f result args) ts =
    (name : Lexeme) × (us : List Lexeme) × (vs : List Lexeme) × (ts ≡ word (codes "call") ∷ us) × SpellsType result us (name ∷ open_paren ∷ vs) × SpellsUnitName f name
    × SpellsList SpellsOperand args vs (close_paren ∷ [])
-- `phi V [%v, %b]`, with one or more edges
SpellsInst (phi_text ty edges) ts = (us : List Lexeme) × (vs : List Lexeme) × (ts ≡ word (codes "phi") ∷ us) × SpellsType ty us vs × SpellsParts SpellsEdge edges vs []
-- `br %b`
SpellsInst (br_text b) ts = ts ≡ word (codes "br") ∷ local b ∷ []
-- `br %c, %f, %t`
SpellsInst (branch_text c zero one) ts = ts ≡ word (codes "br") ∷ local c ∷ comma ∷ local zero ∷ comma ∷ local one ∷ []
-- `wait %b for %d, %s1, %s2`
SpellsInst (wait_text b d signals) ts = (us : List Lexeme) × (vs : List Lexeme) × (ts ≡ word (codes "wait") ∷ local b ∷ us) × SpellsMaybe (codes "for") d us vs × SpellsBehind SpellsLocal signals vs []
-- `halt`
SpellsInst halt_text ts = ts ≡ word (codes "halt") ∷ []
-- `ret`
SpellsInst (ret_text None) ts = ts ≡ word (codes "ret") ∷ []
-- `ret V %v`
SpellsInst (ret_text (Some v)) ts = SpellsWordTyped (codes "ret") v ts []

-- whether the instruction gives a value
abbrev pub gives_value : InstText → Bool
gives_value (const_text d) = true
gives_value (pure_text o args) = true
gives_value (var_text a) = true
gives_value (ld_text p) = true
gives_value (sig_text a) = true
gives_value (prb_text s) = true
gives_value (call_text f result args) = not (is_void result)
gives_value (phi_text ty edges) = true
gives_value _ = false

-- whether it may stand without `%r = `: what gives no value, and every call
abbrev pub may_stand_alone : InstText → Bool
may_stand_alone (call_text f result args) = true
may_stand_alone i = not (gives_value i)

-- an instruction line: `%r = ` stands before what gives a value, and before nothing else
abbrev pub SpellsLine : Option (List ℕ) → InstText → List Lexeme → Type 0
SpellsLine (Some r) i ts = (us : List Lexeme) × (ts ≡ local r ∷ equals ∷ us) × (gives_value i ≡ true) × SpellsInst i us
SpellsLine None i ts = (may_stand_alone i ≡ true) × SpellsInst i ts
