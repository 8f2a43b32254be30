-- The heads of units, and units that are defined elsewhere.
use Rattle.std.specs.Prelude.{Bool, true, false, ◌&&◌, List, ◌++◌, map, Option, Some, None, if◌then◌else◌}
use Rattle.std.specs.List.{list_all}
use Rattle.lh_types.specs.Types.{TypeTree, signal_type, pointer_type}
use Rattle.lh_types.specs.TypeTests.{is_value_type, is_signal}
use Rattle.lh_unit.specs.Contents.{ArgText}
use Rattle.lh_unit.specs.Lexemes.{Lexeme}
use Rattle.lh_unit.specs.Spells.{TypedName, input_of, output_of, LineItem, header_item, declare_item}
use Rattle.lh_unit_names.specs.declared.name.UnitName.{UnitName}
use Rattle.lh_unit.specs.declared.inst.UnitKind.{UnitKind}
use Rattle.lh_unit.specs.declared.inst.UnitKind.TheVariants as kind
use Rattle.lh_unit.specs.declared.inst.Declare.TheVariants as declare
use Rattle.lh_read_pieces.specs.Pieces.{◌>>=◌, unit_name_at, punct_at, arrow_at, end_at, list_at}
use Rattle.lh_read_pieces.specs.Types.{type_at}
use Rattle.lh_read_phrases.specs.Operands.{param_at}
use Rattle.lh_read_phrases.specs.Operations.{last_mark_at}
use Rattle.lh_read_phrases.specs.declared.words.Head.{Head}
use Rattle.lh_read_phrases.specs.declared.words.Head.TheVariants as head

-- a data type, `time` or `void`
abbrev pub is_result_type : TypeTree → Bool
is_result_type (signal_type t) = false
is_result_type (pointer_type t) = false
is_result_type _ = true

-- an item, where a condition holds
abbrev pub item_when : Bool → LineItem → Option LineItem
item_when b i = if b then Some i else None

abbrev pub are_values : List TypedName → Bool
are_values ps = list_all (λ p. is_value_type p.ty) ps

abbrev pub are_ports : List TypedName → Bool
are_ports ps = list_all (λ p. is_signal p.ty) ps

-- `(T1 %a1, ..)`
unfoldable pub params_at : List Lexeme → Option (List TypedName × List Lexeme)
params_at ts = do
  a ← punct_at 40 ts
  r ← list_at param_at 41 a
  b ← punct_at 41 r.1
  Some (r.0, b)

-- `(T1, ..)`
unfoldable pub types_at : List Lexeme → Option (List TypeTree × List Lexeme)
types_at ts = do
  a ← punct_at 40 ts
  r ← list_at type_at 41 a
  b ← punct_at 41 r.1
  Some (r.0, b)

-- a function, behind its name
unfoldable pub func_at : UnitName → List Lexeme → Option LineItem
func_at n ts = do
  ps ← params_at ts
  t ← type_at ps.1
  _ ← last_mark_at 123 t.1
  item_when (are_values ps.0 && is_result_type t.0) (header_item kind.Func n (map input_of ps.0) (Some t.0))

-- the arguments of a process or entity, where each is a signal
abbrev pub ports_when : Bool → List TypedName → List TypedName → Option (List ArgText)
ports_when b ins outs = if b then Some (map input_of ins ++ map output_of outs) else None

-- `(S1 %a1, ..) -> (S2 %a2, ..) {`
unfoldable pub ports_at : List Lexeme → Option (List ArgText)
ports_at ts = do
  ins ← params_at ts
  a ← arrow_at ins.1
  outs ← params_at a
  _ ← last_mark_at 123 outs.1
  ports_when (are_ports ins.0 && are_ports outs.0) ins.0 outs.0

-- a process or entity, behind its name
unfoldable pub unit_at : UnitKind → UnitName → List Lexeme → Option LineItem
unit_at k n ts = do
  args ← ports_at ts
  Some (header_item k n args None)

-- a function that is defined elsewhere, behind its parameters
unfoldable pub declare_func_at : UnitName → List TypeTree → List Lexeme → Option LineItem
declare_func_at n ps ts = do
  t ← type_at ts
  _ ← end_at t.1
  item_when (list_all is_value_type ps && is_result_type t.0) (declare_item (declare.Func n ps t.0))

-- a process or entity that is defined elsewhere, behind its inputs and the arrow
unfoldable pub declare_unit_at : UnitName → List TypeTree → List Lexeme → Option LineItem
declare_unit_at n ins ts = do
  outs ← types_at ts
  _ ← end_at outs.1
  item_when (list_all is_signal ins && list_all is_signal outs.0) (declare_item (declare.Unit n ins outs.0))

abbrev pub declare_or : UnitName → List TypeTree → List Lexeme → Option (List Lexeme) → Option LineItem
declare_or n ins ts (Some us) = declare_unit_at n ins us
declare_or n ins ts None = declare_func_at n ins ts

-- what is defined elsewhere, behind its name
unfoldable pub declare_at : UnitName → List Lexeme → Option LineItem
declare_at n ts = do
  ins ← types_at ts
  declare_or n ins.0 ins.1 (arrow_at ins.1)

-- a line that begins so, behind the name of its unit
abbrev pub named_at : Head → UnitName → List Lexeme → Option LineItem
named_at head.Func n ts = func_at n ts
named_at head.Proc n ts = unit_at kind.Proc n ts
named_at head.Entity n ts = unit_at kind.Entity n ts
named_at head.Declare n ts = declare_at n ts

-- a line that begins so, behind its word
unfoldable pub head_at : Head → List Lexeme → Option LineItem
head_at h ts = do
  n ← unit_name_at ts
  named_at h n.0 n.1
