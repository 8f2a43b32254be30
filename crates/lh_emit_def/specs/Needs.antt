-- Need of a term: what it is made of, and then the instruction that gives it. Each term is emitted once, at its first need.
use Rattle.std.specs.Prelude.{List, [], ◌∷◌, map, Bool, true, false, ◌&&◌, if◌then◌else◌}
use Rattle.lh_types.specs.Types.{TypeTree}
use Rattle.lh_types.specs.Values.{Datum, DatumRow, int_value, time_value, array_value, tuple_value, no_values, more_values}
use Rattle.lh_types.specs.Parts.{parts_of}
use Rattle.lh_types.specs.declared.op.Op.{Op}
use Rattle.lh_types.specs.declared.op.Op.TheVariants.{Mux, Array, Tuple}
use Rattle.lh_types.specs.declared.op.OpClass.{OpClass}
use Rattle.lh_types.specs.declared.op.OpClass.TheVariants as class
use Rattle.lh_types.specs.Classes.{class_of}
use Rattle.lh_unit.specs.Contents.{OperandText, InstText, const_text, pure_text, prb_text}
use Rattle.lh_term.specs.Tree.{Tree, TreeRow, constant, past_of, now_of, operation, choice_of, no_trees, more_trees, operation_on}
use Rattle.lh_term.specs.Types.{type_of, first_of, class_result}
use Rattle.lh_term.specs.Make.{is_constant, value_in, make_operation}
use Rattle.lh_term.specs.declared.part.Part.{Part}
use Rattle.lh_emit_def.specs.Emitted.{Source, Emitted, gives_term, term_name, typed, bare, signal, unless_there, need_part}

-- ---- operations

-- whether each operand of an operation of the class has its type before it
abbrev pub class_writes_each : OpClass → Bool
class_writes_each class.Unary = false
class_writes_each class.Binary = false
class_writes_each class.Relation = false
class_writes_each class.Equality = false
class_writes_each class.Shift = true
class_writes_each class.Select = false
class_writes_each (class.TakePart s) = false
class_writes_each (class.PutPart s) = false
class_writes_each class.Array = false
class_writes_each (class.Repeat n) = false
class_writes_each class.Tuple = true

-- whether the type before the first operand is that of what is given, and not the operand's
abbrev pub class_writes_result : OpClass → Bool
class_writes_result class.Unary = false
class_writes_result class.Binary = false
class_writes_result class.Relation = false
class_writes_result class.Equality = false
class_writes_result class.Shift = false
class_writes_result class.Select = true
class_writes_result (class.TakePart s) = true
class_writes_result (class.PutPart s) = false
class_writes_result class.Array = false
class_writes_result (class.Repeat n) = false
class_writes_result class.Tuple = false

abbrev pub types_of_all : List Tree → List TypeTree
types_of_all ts = map type_of ts

-- the type before the first operand
abbrev pub class_type_written : OpClass → List TypeTree → TypeTree
class_type_written c ts = if class_writes_result c then class_result c ts else first_of ts

-- each operand with its type
abbrev pub each_typed : Emitted → List Tree → List OperandText
each_typed e ts = map (λ t. typed (term_name e t) (type_of t)) ts

-- the first operand with this type, the others without
abbrev pub first_typed : Emitted → TypeTree → List Tree → List OperandText
first_typed e d [] = []
first_typed e d (t ∷ ts) = typed (term_name e t) d ∷ map (λ u. bare (term_name e u)) ts

-- the operands of an operation of the class, as it writes them
abbrev pub class_typed : Emitted → OpClass → List Tree → List OperandText
class_typed e c ts = if class_writes_each c then each_typed e ts else first_typed e (class_type_written c (types_of_all ts)) ts

-- whether each operand has its type before it
abbrev pub writes_each : Op → Bool
writes_each op = class_writes_each (class_of op)

-- whether the type before the first operand is that of what is given
abbrev pub writes_result : Op → Bool
writes_result op = class_writes_result (class_of op)

-- the type before the first operand
abbrev pub written_type : Op → List TypeTree → TypeTree
written_type op ts = class_type_written (class_of op) ts

-- an operation on terms that were emitted
abbrev pub operation_text : Emitted → Op → List Tree → InstText
operation_text e op ts = pure_text op (class_typed e (class_of op) ts)

-- the operation that gives the value of a term
abbrev pub gives_operation : Source → Tree → Op → List Tree → Emitted → Emitted
gives_operation s t op ts e = gives_term s t (operation_text e op ts) e

-- ---- constants

-- the elements or fields, each as a term
abbrev pub constants : DatumRow → List Tree
constants vs = map constant (parts_of vs)

abbrev mutual
  -- need of a constant: of an array or struct its parts in order, and then the whole
  pub need_value : Source → Datum → Emitted → Emitted
  need_value s (int_value w b) e = unless_there (e.terms (constant (int_value w b))) (gives_term s (constant (int_value w b)) (const_text (int_value w b))) e
  need_value s (time_value d) e = unless_there (e.terms (constant (time_value d))) (gives_term s (constant (time_value d)) (const_text (time_value d))) e
  need_value s (array_value vs) e =
      unless_there (e.terms (constant (array_value vs))) (λ x. gives_operation s (constant (array_value vs)) Array (constants vs) (need_values s vs x)) e
  need_value s (tuple_value vs) e =
      unless_there (e.terms (constant (tuple_value vs))) (λ x. gives_operation s (constant (tuple_value vs)) Tuple (constants vs) (need_values s vs x)) e

  pub need_values : Source → DatumRow → Emitted → Emitted
  need_values s no_values e = e
  need_values s (more_values v vs) e = need_values s vs (need_value s v e)

-- ---- terms

-- the operands of an operation as a list
abbrev pub operands_in : TreeRow → List Tree
operands_in no_trees = []
operands_in (more_trees t ts) = t ∷ operands_in ts

-- a part is probed
abbrev pub probe : Source → Tree → Part → Emitted → Emitted
probe s t p e = gives_term s t (prb_text (signal e p)) e

-- the array of both terms of a choice
abbrev pub pair_of : Tree → Tree → Tree
pair_of f t = make_operation Array (f ∷ t ∷ [])

-- need of the array of both terms of a choice, by what need of each of them does
abbrev pub need_pair : Source → (f t : Tree) → (need_f need_t : Emitted → Emitted) → Emitted → Emitted
need_pair s f t need_f need_t e =
    if is_constant f && is_constant t then need_value s (array_value (more_values (value_in f) (more_values (value_in t) no_values))) e
    else unless_there (e.terms (operation_on Array (f ∷ t ∷ []))) (λ x. gives_operation s (operation_on Array (f ∷ t ∷ [])) Array (f ∷ t ∷ []) (need_t (need_f x))) e

abbrev mutual
  -- Need of a term. An entity knows the present alone, so what a part had before is probed as what it has now.
  pub need : Source → Tree → Emitted → Emitted
  need s (constant v) e = need_value s v e
  need s (past_of p) e = unless_there (e.terms (past_of p)) (λ x. probe s (past_of p) p (need_part s p x)) e
  need s (now_of p) e = unless_there (e.terms (now_of p)) (λ x. probe s (now_of p) p (need_part s p x)) e
  need s (operation op ts) e = unless_there (e.terms (operation op ts)) (λ x. gives_operation s (operation op ts) op (operands_in ts) (need_all s ts x)) e
  need s (choice_of c f t) e =
      unless_there (e.terms (choice_of c f t)) (λ x. gives_operation s (choice_of c f t) Mux (pair_of f t ∷ c ∷ []) (need s c (need_pair s f t (need s f) (need s t) x))) e

  pub need_all : Source → TreeRow → Emitted → Emitted
  need_all s no_trees e = e
  need_all s (more_trees t ts) e = need_all s ts (need s t e)
