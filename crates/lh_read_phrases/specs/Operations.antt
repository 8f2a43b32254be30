-- The operations: by words, and by brackets.
use Rattle.std.specs.Prelude.{ℕ, ◌^◌, Bool, false, ◌&&◌, nat_lt, List, [], ◌∷◌, length, Option, Some, None, is_none, if◌then◌else◌, codes}
use Rattle.std.specs.List.{list_all}
use Rattle.lh_types.specs.Types.{TypeTree, row_of}
use Rattle.lh_types.specs.Faults.{array_fault, tuple_fault}
use Rattle.lh_types.specs.declared.op.Op.{Op}
use Rattle.lh_types.specs.declared.op.Op.TheVariants as op
use Rattle.lh_unit.specs.Contents.{InstText, pure_text}
use Rattle.lh_unit.specs.Lexemes.{Lexeme}
use Rattle.lh_unit.specs.Typing.{or_else}
use Rattle.lh_read_pieces.specs.Pieces.{◌>>=◌, word_at, punct_at, end_at, parts_at}
use Rattle.lh_read_pieces.specs.Numbers.{number_at}
use Rattle.lh_read_phrases.specs.SyntaxOf.{operand_of, operands_of}
use Rattle.lh_read_phrases.specs.Operands.{typed_at, free_at, columns_at}
use Rattle.lh_read_phrases.specs.declared.syntax.Operand.{Operand}
use Rattle.lh_read_phrases.specs.declared.words.Columns.{Columns}

-- a comma and a number
unfoldable pub behind_number_at : List Lexeme → Option (ℕ × List Lexeme)
behind_number_at ts = do
  us ← punct_at 44 ts
  number_at us

-- the one number that ends the line
unfoldable pub one_number_at : List Lexeme → Option ℕ
one_number_at ts = do
  k ← behind_number_at ts
  _ ← end_at k.1
  Some k.0

-- the two numbers that end the line
unfoldable pub two_numbers_at : List Lexeme → Option (ℕ × ℕ)
two_numbers_at ts = do
  k ← behind_number_at ts
  n ← one_number_at k.1
  Some (k.0, n)

-- the operation with the numbers that end the line
abbrev pub numbered_at : Op → List Lexeme → Option Op
numbered_at (op.Extf k) ts = do
  n ← one_number_at ts
  Some (op.Extf n)
numbered_at (op.Insf k) ts = do
  n ← one_number_at ts
  Some (op.Insf n)
numbered_at (op.Exts at len) ts = do
  r ← two_numbers_at ts
  Some (op.Exts r.0 r.1)
numbered_at (op.Inss at len) ts = do
  r ← two_numbers_at ts
  Some (op.Inss r.0 r.1)
numbered_at o ts = do
  _ ← end_at ts
  Some o

-- an operation, behind its word
unfoldable pub word_op_at : Op → Columns → List Lexeme → Option InstText
word_op_at o c ts = do
  args ← columns_at c ts
  p ← numbered_at o args.1
  Some (pure_text p (operands_of args.0))

-- the tokens end with this mark
unfoldable pub last_mark_at : ℕ → List Lexeme → Option (Unit {0})
last_mark_at b ts = do
  us ← punct_at b ts
  end_at us

-- an instruction, where a condition holds
abbrev pub when : Bool → InstText → Option InstText
when b i = if b then Some i else None

-- whether so many of a type are an array
abbrev pub fits_array : ℕ → Option TypeTree → Bool
fits_array n None = false
fits_array n (Some t) = nat_lt n (2 ^ 32) && is_none (array_fault n t)

-- the array of so many of an operand
abbrev pub repeated_of : ℕ → Operand → Option InstText
repeated_of n o = when (fits_array n o.ty) (pure_text (op.Repeat n) (operand_of o ∷ []))

-- `N x D %a]`
unfoldable pub repeat_at : List Lexeme → Option InstText
repeat_at ts = do
  n ← number_at ts
  us ← word_at (codes "x") n.1
  o ← typed_at us
  _ ← last_mark_at 93 o.1
  repeated_of n.0 o.0

abbrev pub is_bare : Operand → Bool
is_bare o = is_none o.ty

abbrev pub all_bare : List Operand → Bool
all_bare = list_all is_bare

-- the type before the first operand, where it is the only one
abbrev pub element_of : List Operand → Option TypeTree
element_of [] = None
element_of (o ∷ os) = if all_bare os then o.ty else None

-- `D %a, %b]`
unfoldable pub array_at : List Lexeme → Option InstText
array_at ts = do
  r ← parts_at free_at (length ts) ts
  _ ← last_mark_at 93 r.1
  when (fits_array (length r.0) (element_of r.0)) (pure_text op.Array (operands_of r.0))

-- behind `[`
unfoldable pub bracket_at : List Lexeme → Option InstText
bracket_at ts = or_else (repeat_at ts) (array_at ts)

-- the types before the operands, where each has one
abbrev pub fields_of : List Operand → Option (List TypeTree)
fields_of [] = Some []
fields_of (o ∷ os) = do
  t ← o.ty
  ts ← fields_of os
  Some (t ∷ ts)

-- whether these fields are a struct
abbrev pub fits_tuple : Option (List TypeTree) → Bool
fits_tuple None = false
fits_tuple (Some ts) = is_none (tuple_fault (row_of ts))

-- `D1 %a, D2 %b}`
unfoldable pub tuple_at : List Lexeme → Option InstText
tuple_at ts = do
  r ← parts_at free_at (length ts) ts
  _ ← last_mark_at 125 r.1
  when (fits_tuple (fields_of r.0)) (pure_text op.Tuple (operands_of r.0))
