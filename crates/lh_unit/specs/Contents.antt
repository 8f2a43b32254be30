-- What a file says, with names in place of ids: the items in file order.
use Rattle.std.specs.Prelude.{ℕ, ◌+◌, Bool, false, ◌||◌, List, [], ◌∷◌, ◌++◌, length, Option, Some, None}
use Rattle.lh_types.specs.Types.{TypeTree, void_type}
use Rattle.lh_types.specs.Values.{Datum}
use Rattle.lh_types.specs.declared.op.Op.{Op}
use Rattle.lh_unit_names.specs.Names.{same_name}
use Rattle.lh_unit_names.specs.UnitNames.{same_unit_name}
use Rattle.lh_unit_names.specs.declared.name.UnitName.{UnitName}
use Rattle.lh_unit.specs.declared.inst.UnitKind.{UnitKind}
use Rattle.lh_unit.specs.declared.inst.UnitKind.TheVariants as kind
use Rattle.lh_unit.specs.declared.inst.Mode.{Mode}
use Rattle.lh_unit.specs.declared.inst.Declare.{Declare}

-- an operand, with the type that is written directly before it
pub record OperandText : Type 0 where
  pub value : List ℕ
  pub ty : Option TypeTree

-- one trigger of a register
pub record TriggerText : Type 0 where
  pub value : List ℕ
  pub mode : Mode
  pub trigger : List ℕ
  pub gate : Option (List ℕ)
  pub after : Option (List ℕ)

-- the value that a phi takes where control came from this block
pub record EdgeText : Type 0 where
  pub value : List ℕ
  pub block : List ℕ

-- an instruction; values and labels are their names without sigil
pub data InstText : Type 0 where
  const_text : Datum → InstText
  pure_text : (op : Op) → (args : List OperandText) → InstText
  var_text : OperandText → InstText
  ld_text : OperandText → InstText
  st_text : (to : OperandText) → (value : List ℕ) → InstText
  sig_text : OperandText → InstText
  prb_text : OperandText → InstText
  drv_text : (to : OperandText) → (value after : List ℕ) → (cond : Option (List ℕ)) → InstText
  reg_text : (to : OperandText) → (triggers : List TriggerText) → InstText
  child_text : (unit : UnitName) → (inputs outputs : List OperandText) → InstText
  call_text : (unit : UnitName) → (result : TypeTree) → (args : List OperandText) → InstText
  phi_text : (ty : TypeTree) → (edges : List EdgeText) → InstText
  br_text : (to : List ℕ) → InstText
  branch_text : (cond zero one : List ℕ) → InstText
  wait_text : (to : List ℕ) → (after : Option (List ℕ)) → (signals : List (List ℕ)) → InstText
  halt_text : InstText
  ret_text : Option OperandText → InstText

-- an instruction and the name of its result
pub record LineText : Type 0 where
  pub result : Option (List ℕ)
  pub inst : InstText

-- a basic block; an entity's one block has no label
pub record BlockText : Type 0 where
  pub label : Option (List ℕ)
  pub lines : List LineText

pub record ArgText : Type 0 where
  pub name : List ℕ
  pub ty : TypeTree
  pub output : Bool

-- a defined unit; only a function has a result type
pub record UnitText : Type 0 where
  pub kind : UnitKind
  pub name : UnitName
  pub args : List ArgText
  pub result : Option TypeTree
  pub blocks : List BlockText

pub data ItemText : Type 0 where
  unit_text : UnitText → ItemText
  declare_text : Declare → ItemText

-- the contents of a file with no items
abbrev pub no_items : List ItemText
no_items = []

-- a unit as its header begins it: a function has the result void until one is set, an entity has its one block
abbrev pub new_unit : UnitName → UnitKind → UnitText
new_unit n kind.Func = record { kind = kind.Func; name = n; args = []; result = Some void_type; blocks = [] }
new_unit n kind.Proc = record { kind = kind.Proc; name = n; args = []; result = None; blocks = [] }
new_unit n kind.Entity = record { kind = kind.Entity; name = n; args = []; result = None; blocks = record { label = None; lines = [] } ∷ [] }

-- the last item changed, where it is a unit
abbrev pub change_last : (UnitText → UnitText) → List ItemText → List ItemText
change_last f [] = []
change_last f (unit_text u ∷ []) = unit_text (f u) ∷ []
change_last f (declare_text d ∷ []) = declare_text d ∷ []
change_last f (i ∷ j ∷ more) = i ∷ change_last f (j ∷ more)

-- the unit that the last item defines
abbrev pub last_unit : List ItemText → Option UnitText
last_unit [] = None
last_unit (unit_text u ∷ []) = Some u
last_unit (declare_text d ∷ []) = None
last_unit (i ∷ j ∷ more) = last_unit (j ∷ more)

abbrev pub with_arg : ArgText → UnitText → UnitText
with_arg a u = record u { args = u.args ++ a ∷ [] }

abbrev pub with_result : TypeTree → UnitText → UnitText
with_result t u = record u { result = Some t }

abbrev pub with_block : List ℕ → UnitText → UnitText
with_block label u = record u { blocks = u.blocks ++ record { label = Some label; lines = [] } ∷ [] }

-- a line added to the last block, if there is one
abbrev pub line_at_end : LineText → List BlockText → List BlockText
line_at_end l [] = []
line_at_end l (b ∷ []) = record b { lines = b.lines ++ l ∷ [] } ∷ []
line_at_end l (b ∷ c ∷ more) = b ∷ line_at_end l (c ∷ more)

abbrev pub with_line : LineText → UnitText → UnitText
with_line l u = record u { blocks = line_at_end l u.blocks }

-- how many instructions a unit has
abbrev pub line_count : List BlockText → ℕ
line_count [] = 0
line_count (b ∷ more) = length b.lines + line_count more

-- whether an item of the file defines a unit of this name
abbrev pub defines_unit : UnitName → List ItemText → Bool
defines_unit n [] = false
defines_unit n (unit_text u ∷ more) = same_unit_name u.name n || defines_unit n more
defines_unit n (declare_text d ∷ more) = defines_unit n more

abbrev pub is_result_name : List ℕ → Option (List ℕ) → Bool
is_result_name n None = false
is_result_name n (Some r) = same_name r n

abbrev pub lines_define : List ℕ → List LineText → Bool
lines_define n [] = false
lines_define n (l ∷ more) = is_result_name n l.result || lines_define n more

abbrev pub blocks_define : List ℕ → List BlockText → Bool
blocks_define n [] = false
blocks_define n (b ∷ more) = lines_define n b.lines || blocks_define n more

abbrev pub args_define : List ℕ → List ArgText → Bool
args_define n [] = false
args_define n (a ∷ more) = same_name a.name n || args_define n more

-- whether an argument or an instruction of the unit defines a value of this name
abbrev pub defines_value : List ℕ → UnitText → Bool
defines_value n u = args_define n u.args || blocks_define n u.blocks

abbrev pub defines_label_in : List ℕ → List BlockText → Bool
defines_label_in n [] = false
defines_label_in n (b ∷ more) = is_result_name n b.label || defines_label_in n more

-- whether a block of the unit has this label
abbrev pub defines_label : List ℕ → UnitText → Bool
defines_label n u = defines_label_in n u.blocks
