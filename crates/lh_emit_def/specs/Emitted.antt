-- An entity under construction: its instructions so far, and what has a name.
use Rattle.std.specs.Prelude.{ℕ, ◌+◌, List, [], ◌∷◌, ◌++◌, ◌&&◌, nat_eq, if◌then◌else◌, unwrap_or, Option, Some, None, slice_get}
use Rattle.std.specs.Option.{option_and_then}
use Rattle.lh_types.specs.Types.{TypeTree, signal_type, same_type}
use Rattle.lh_types.specs.declared.op.Op.{Op}
use Rattle.lh_unit.specs.Contents.{OperandText, InstText, pure_text, LineText, ArgText, UnitText}
use Rattle.lh_term.specs.Tree.{Tree}
use Rattle.lh_term.specs.SameTree.{same_tree}
use Rattle.lh_term.specs.Same.{same_part}
use Rattle.lh_term.specs.declared.part.Part.{Part}
use Rattle.lh_emit_def.specs.Names.{value_name, free_number}

-- an `extf` or `exts`, and the part that it leads to
pub record PartStep : Type 0 where
  pub op : Op
  pub to : Part

-- what an entity is emitted for: the arguments, and the steps that lead to each part from its argument
pub record Source : Type 0 where
  pub args : List ArgText
  pub steps : Part → List PartStep

-- those of a unit
abbrev pub source_of : UnitText → (steps : Part → List PartStep) → Source
source_of u steps = record { args = u.args; steps = steps }

-- the instructions so far, the next number of a name, and the names of the terms and of the parts that were emitted
pub record Emitted : Type 0 where
  pub lines : List LineText
  pub next : ℕ
  pub terms : Tree → Option (List ℕ)
  pub parts : Part → Option (List ℕ)

-- ---- before the first instruction

-- the argument of this number has the name of the part that it is whole
abbrev pub name_if_whole : Part → ArgText → Option (List ℕ)
name_if_whole p a = if nat_eq p.lo 0 && same_type a.ty (signal_type p.ty) then Some a.name else None

abbrev pub whole_name : List ArgText → Part → Option (List ℕ)
whole_name args p = option_and_then (name_if_whole p) (slice_get args p.arg)

-- no instruction; the arguments are named
abbrev pub nothing_emitted : Source → Emitted
nothing_emitted s = record { lines = []; next = 0; terms = λ t. None; parts = whole_name s.args }

-- ---- one more instruction

-- the name of the next value
abbrev pub next_name : Source → Emitted → List ℕ
next_name s e = value_name (free_number s.args e.next)

-- an instruction that gives a value
abbrev pub gives : Source → InstText → Emitted → Emitted
gives s i e = record e { lines = e.lines ++ record { result = Some (next_name s e); inst = i } ∷ []; next = free_number s.args e.next + 1 }

-- an instruction that gives none
abbrev pub puts : InstText → Emitted → Emitted
puts i e = record e { lines = e.lines ++ record { result = None; inst = i } ∷ [] }

-- a term has this name
abbrev pub with_term : (Tree → Option (List ℕ)) → Tree → List ℕ → Tree → Option (List ℕ)
with_term names t n x = if same_tree t x then Some n else names x

-- a part has this name
abbrev pub with_part : (Part → Option (List ℕ)) → Part → List ℕ → Part → Option (List ℕ)
with_part names p n x = if same_part p x then Some n else names x

-- an instruction that gives the value of a term
abbrev pub gives_term : Source → Tree → InstText → Emitted → Emitted
gives_term s t i e = record (gives s i e) { terms = with_term e.terms t (next_name s e) }

-- ---- operands

-- the name of a term, and of a part, that was emitted
abbrev pub term_name : Emitted → Tree → List ℕ
term_name e t = unwrap_or (e.terms t) []

abbrev pub part_name : Emitted → Part → List ℕ
part_name e p = unwrap_or (e.parts p) []

-- with a type before it, and without
abbrev pub typed : List ℕ → TypeTree → OperandText
typed n t = record { value = n; ty = Some t }

abbrev pub bare : List ℕ → OperandText
bare n = record { value = n; ty = None }

-- a part as an operand
abbrev pub signal : Emitted → Part → OperandText
signal e p = typed (part_name e p) (signal_type p.ty)

-- ---- parts

-- the steps to a part from the value of this name; the value of the last one has the part's name
abbrev pub takes_steps : Source → Part → List ℕ → List PartStep → Emitted → Emitted
takes_steps s p n [] e = record e { parts = with_part e.parts p n }
takes_steps s p n (st ∷ more) e =
    takes_steps s p (next_name s e) more (gives s (pure_text st.op (typed n (signal_type st.to.ty) ∷ [])) e)

-- the name of an argument
abbrev pub arg_name : Option ArgText → List ℕ
arg_name None = []
arg_name (Some a) = a.name

-- what is there already is not emitted again
abbrev pub unless_there : Option (List ℕ) → (Emitted → Emitted) → Emitted → Emitted
unless_there (Some n) f e = e
unless_there None f e = f e

-- need of a part: of a whole argument nothing
abbrev pub need_part : Source → Part → Emitted → Emitted
need_part s p e = unless_there (e.parts p) (takes_steps s p (arg_name (slice_get s.args p.arg)) (s.steps p)) e
