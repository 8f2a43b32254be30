-- The faults of instructions, and the first fault of a module.
use Rattle.std.specs.Prelude.{◌≡◌, ◌<◌, ◌⊎◌, ℕ, zero, suc, nat_eq, List, [], ◌∷◌, ◌++◌, length, map, filter, count_by, Bool, true, false, not, ◌&&◌, ◌||◌, if◌then◌else◌, Option, Some, None}
use Rattle.std.specs.List.{list_any, list_all}
use Rattle.std.specs.Option.{option_map_or}
use Rattle.lh_types.specs.Types.{void_type, same_type}
use Rattle.lh_types.specs.Classes.{class_of, taken_step}
use Rattle.lh_types.specs.declared.op.Op.{Op}
use Rattle.lh_types.specs.declared.part.Step.{Step}
use Rattle.lh_unit_names.specs.declared.name.UnitName.{UnitName}
use Rattle.lh_unit.specs.declared.inst.UnitKind.{UnitKind}
use Rattle.lh_unit.specs.declared.inst.UnitKind.TheVariants as kind
use Rattle.lh_unit.specs.Contents.{OperandText, EdgeText, InstText, const_text, pure_text, var_text, ld_text, st_text, sig_text, prb_text, drv_text, reg_text, child_text, call_text, phi_text, br_text, branch_text, wait_text, halt_text, ret_text, LineText, BlockText, ArgText, UnitText, ItemText, unit_text, declare_text, defines_unit, defines_value, defines_label, args_define, blocks_define, lines_define}
use Rattle.lh_unit_names.specs.Names.{same_name}
use Rattle.lh_unit.specs.Reads.{Reads}
use Rattle.lh_unit.specs.Canon.{canon}
use Rattle.lh_unit.specs.Named.{unit_named, block_of, is_function, label_or}
use Rattle.lh_unit_names.specs.UnitNames.{is_assert}
use Rattle.lh_unit.specs.Typing.{inst_giving, first_type}
use Rattle.lh_unit.specs.Kinds.{Use, uses, takes, value_kind}
use Rattle.lh_unit.specs.TypingRows.{has_type, bit, is_signal, types_fit}
use Rattle.lh_unit.specs.Places.{InstPlaceText, places, is_terminator, leads_to, has_edge, IsPath}

-- the eight faults
pub data FaultKind : Type 0 where
  undefined : FaultKind
  wrong_kind : FaultKind
  wrong_type : FaultKind
  not_here : FaultKind
  no_terminator : FaultKind
  phi_edges : FaultKind
  not_defined : FaultKind
  arguments : FaultKind

-- the number of a fault
abbrev pub number_of : FaultKind → ℕ
number_of undefined = 1
number_of wrong_kind = 2
number_of wrong_type = 3
number_of not_here = 4
number_of no_terminator = 5
number_of phi_edges = 6
number_of not_defined = 7
number_of arguments = 8

-- the values that an instruction names
abbrev pub values_named : InstText → List (List ℕ)
values_named i = map (λ (x : Use). x.value) (uses i)

-- the labels that an instruction names
abbrev pub labels_named : InstText → List (List ℕ)
labels_named (phi_text ty edges) = map (λ (e : EdgeText). e.block) edges
labels_named i = leads_to i

-- the units that an instruction names
abbrev pub units_named : InstText → List UnitName
units_named (child_text u inputs outputs) = u ∷ []
units_named (call_text f result args) = f ∷ []
units_named _ = []

-- 1: a value, label or unit that is named is defined nowhere in its scope; `@llhd.assert` counts as defined
abbrev pub is_undefined : List ItemText → UnitText → InstText → Bool
is_undefined items u i =
    list_any (λ n. not (defines_value n u)) (values_named i)
    || list_any (λ n. not (defines_label n u)) (labels_named i)
    || list_any (λ n. not (defines_unit n items || is_assert n)) (units_named i)

-- the kinds and types of a `ret` are asked only in a function
abbrev pub is_asked : UnitText → InstText → Bool
is_asked u (ret_text o) = is_function u.kind
is_asked u _ = true

-- an operand is of one of the four kinds, and its row takes another
abbrev pub has_wrong_kind : UnitText → Use → Bool
has_wrong_kind u x = option_map_or (λ k. not (takes x.need k)) (value_kind u x.value) false

-- an operand is of none of the four kinds
abbrev pub has_no_kind : UnitText → Use → Bool
has_no_kind u x = option_map_or (λ k. false) (value_kind u x.value) true

-- an instruction is a `prb`, or one of its operands comes from one
abbrev pub comes_from_probe : (List ℕ → Bool) → InstText → Bool
comes_from_probe further (prb_text s) = true
comes_from_probe further i = list_any further (values_named i)

-- a value comes from a `prb` by its operands, within this many instructions
abbrev pub depends_on_probe : (steps : ℕ) → UnitText → List ℕ → Bool
depends_on_probe zero u n = false
depends_on_probe (suc k) u n = option_map_or (comes_from_probe (depends_on_probe k u)) (inst_giving n u.blocks) false

-- a function has this name, `@llhd.assert` counted
abbrev pub is_function_name : List ItemText → UnitName → Bool
is_function_name items n = option_map_or (λ (v : UnitText). is_function v.kind) (unit_named n items) false || is_assert n

-- `inst` names a function, or `call` names none
abbrev pub names_wrong_unit : List ItemText → InstText → Bool
names_wrong_unit items (child_text v inputs outputs) = is_function_name items v
names_wrong_unit items (call_text f result args) = not (is_function_name items f)
names_wrong_unit items _ = false

-- the operand of a `sig` depends on a `prb`
abbrev pub probes_for_signal : UnitText → InstText → Bool
probes_for_signal u (sig_text a) = depends_on_probe (suc (length (places u))) u a.value
probes_for_signal u _ = false

-- 2: an operand is of another kind than the row needs
abbrev pub is_wrong_kind : List ItemText → UnitText → InstText → Bool
is_wrong_kind items u i = is_asked u i && (list_any (has_wrong_kind u) (uses i) || names_wrong_unit items i || probes_for_signal u i)

-- the type that a `call` writes is the function's result
abbrev pub result_fits : List ItemText → InstText → Bool
result_fits items (call_text f result args) =
    if is_assert f then same_type result void_type
    else option_map_or (λ (v : UnitText). option_map_or (same_type result) v.result true) (unit_named f items) true
result_fits items _ = true

-- 3: the kind fits, and a type or a written number does not fit the row
abbrev pub is_wrong_type : List ItemText → UnitText → InstText → Bool
is_wrong_type items u i = is_asked u i && (list_any (has_no_kind u) (uses i) || not (types_fit u i) || not (result_fits items i))

-- the unit is a function
abbrev pub in_function : UnitKind → Bool
in_function k = is_function k

-- the unit is a process
abbrev pub in_process : UnitKind → Bool
in_process kind.Proc = true
in_process _ = false

-- the unit is an entity
abbrev pub in_entity : UnitKind → Bool
in_entity kind.Entity = true
in_entity _ = false

-- the part to which a step leads, if one is taken, is of a signal
abbrev pub is_signal_part : Option Step → List OperandText → Bool
is_signal_part None args = false
is_signal_part (Some s) args = option_map_or is_signal (first_type args) false

-- an `extf` or `exts` of a signal
abbrev pub takes_signal_part : Op → List OperandText → Bool
takes_signal_part o args = is_signal_part (taken_step (class_of o)) args

-- the kinds of units in which an instruction is allowed
abbrev pub is_allowed : UnitKind → InstText → Bool
is_allowed k (const_text d) = true
is_allowed k (pure_text o args) = not (in_function k && takes_signal_part o args)
is_allowed k (var_text a) = not (in_entity k)
is_allowed k (ld_text p) = not (in_entity k)
is_allowed k (st_text to value) = not (in_entity k)
is_allowed k (sig_text a) = in_entity k
is_allowed k (prb_text s) = not (in_function k)
is_allowed k (drv_text to value after cond) = not (in_function k)
is_allowed k (reg_text to triggers) = in_entity k
is_allowed k (child_text v inputs outputs) = in_entity k
is_allowed k (call_text f result args) = not (in_entity k)
is_allowed k (phi_text ty edges) = not (in_entity k)
is_allowed k (br_text to) = not (in_entity k)
is_allowed k (branch_text cond first second) = not (in_entity k)
is_allowed k (wait_text to after signals) = in_process k
is_allowed k halt_text = in_process k
is_allowed k (ret_text o) = in_function k

-- there are no instructions
abbrev pub is_empty : List LineText → Bool
is_empty [] = true
is_empty (l ∷ more) = false

-- 5: in a function or process, the last of its block and no terminator, or a terminator and not the last
abbrev pub ends_wrong : UnitText → InstPlaceText → Bool
ends_wrong u p = not (in_entity u.kind) && not (if is_empty p.after then is_terminator p.line.inst else not (is_terminator p.line.inst))

-- the instruction is a `phi`
abbrev pub is_phi : InstText → Bool
is_phi (phi_text ty edges) = true
is_phi _ = false

-- how many edges of a `phi` name this block
abbrev pub edges_naming : List ℕ → List EdgeText → ℕ
edges_naming n edges = count_by (λ (e : EdgeText). same_name e.block n) edges

-- each predecessor is named once
abbrev pub names_predecessors : UnitText → (to : List ℕ) → List EdgeText → Bool
names_predecessors u to edges = list_all (λ (b : BlockText). not (has_edge b to) || nat_eq (edges_naming (label_or b.label) edges) 1) u.blocks

-- 6: a `phi` stands after another kind of instruction, or in the entry block, or does not name each predecessor once
abbrev pub phi_is_wrong : UnitText → InstPlaceText → InstText → Bool
phi_is_wrong u p (phi_text ty edges) =
    list_any (λ (l : LineText). not (is_phi l.inst)) p.before || p.in_entry || not (names_predecessors u (label_or p.block.label) edges)
phi_is_wrong u p _ = false

-- operands and parameters are as many, and of the same types
abbrev pub arguments_fit : UnitText → List OperandText → List ArgText → Bool
arguments_fit u [] [] = true
arguments_fit u (o ∷ os) (a ∷ more) = has_type u a.ty o.value && arguments_fit u os more
arguments_fit u _ _ = false

-- the parameters that are inputs
abbrev pub inputs_of : List ArgText → List ArgText
inputs_of args = filter (λ (a : ArgText). not a.output) args

-- the parameters that are outputs
abbrev pub outputs_of : List ArgText → List ArgText
outputs_of args = filter (λ (a : ArgText). a.output) args

-- the one parameter of `@llhd.assert`
abbrev pub assert_args : List ArgText
assert_args = record { name = []; ty = bit; output = false } ∷ []

-- the parameters of a unit, if it is there
abbrev pub args_of : List ItemText → UnitName → Option (List ArgText)
args_of items n = if is_assert n then Some assert_args else option_map_or (λ (v : UnitText). Some v.args) (unit_named n items) None

-- 8: the arguments differ from the parameters
abbrev pub arguments_differ : List ItemText → UnitText → InstText → Bool
arguments_differ items u (child_text v inputs outputs) =
    option_map_or (λ args. not (arguments_fit u inputs (inputs_of args) && arguments_fit u outputs (outputs_of args))) (args_of items v) false
arguments_differ items u (call_text f result args) = option_map_or (λ params. not (arguments_fit u args params)) (args_of items f) false
arguments_differ items u _ = false

-- a block of a path lacks the definition of a value where neither the blocks before it nor the instructions before the use give it
pub record Lacks (u : UnitText) (n : List ℕ) (b : BlockText) (before : List LineText) : Type 0 where
  pub earlier : List BlockText
  pub path : IsPath u (b ∷ earlier)
  pub not_before : lines_define n before ≡ false
  pub not_earlier : blocks_define n earlier ≡ false

-- for an operand of a `phi`: on some path that ends with its edge
pub record LacksOnEdge (u : UnitText) (to : List ℕ) (e : EdgeText) : Type 0 where
  pub last : BlockText
  pub named : block_of e.block u.blocks ≡ Some last
  pub edge : has_edge last to ≡ true
  pub lacks : Lacks u e.value last last.lines

-- one of these edges
abbrev pub SomeEdgeLacks : UnitText → (to : List ℕ) → List EdgeText → Type 0
SomeEdgeLacks u to [] = ⊥
SomeEdgeLacks u to (e ∷ more) = ((args_define e.value u.args ≡ false) × LacksOnEdge u to e) ⊎ SomeEdgeLacks u to more

-- one of these values is no argument, and its definition does not stand on some path to the place
abbrev pub SomeValueLacks : UnitText → InstPlaceText → List (List ℕ) → Type 0
SomeValueLacks u p [] = ⊥
SomeValueLacks u p (n ∷ more) = ((args_define n u.args ≡ false) × Lacks u n p.block p.before) ⊎ SomeValueLacks u p more

-- in an entity: a value that is no argument and does not stand earlier
abbrev pub stands_later : UnitText → InstPlaceText → List ℕ → Bool
stands_later u p n = not (args_define n u.args || lines_define n p.before)

-- some operand is not defined, by the kind of the unit
abbrev pub LacksIn : UnitKind → UnitText → InstPlaceText → InstText → Type 0
LacksIn kind.Entity u p i = list_any (stands_later u p) (values_named i) ≡ true
LacksIn _ u p (phi_text ty edges) = SomeEdgeLacks u (label_or p.block.label) edges
LacksIn _ u p i = SomeValueLacks u p (values_named i)

-- 7: on some path to this use the definition does not stand
abbrev pub LacksDefinition : UnitText → InstPlaceText → Type 0
LacksDefinition u p = LacksIn u.kind u p p.line.inst

-- an instruction of a module
pub record Site : Type 0 where
  pub unit : UnitText
  pub place : InstPlaceText

-- the instructions of a module in file order
abbrev pub sites : List ItemText → List Site
sites [] = []
sites (unit_text u ∷ more) = map (λ p. record { unit = u; place = p }) (places u) ++ sites more
sites (declare_text d ∷ more) = sites more

-- an instruction has a fault that asks for no path
abbrev pub has_local : List ItemText → Site → FaultKind → Bool
has_local items s undefined = is_undefined items s.unit s.place.line.inst
has_local items s wrong_kind = is_wrong_kind items s.unit s.place.line.inst
has_local items s wrong_type = is_wrong_type items s.unit s.place.line.inst
has_local items s not_here = not (is_allowed s.unit.kind s.place.line.inst)
has_local items s no_terminator = ends_wrong s.unit s.place
has_local items s phi_edges = phi_is_wrong s.unit s.place s.place.line.inst
has_local items s not_defined = false
has_local items s arguments = arguments_differ items s.unit s.place.line.inst

-- one of the faults 1, 5 and 6, after which paths are not asked for
abbrev pub hides_paths : List ItemText → Site → Bool
hides_paths items s = has_local items s undefined || has_local items s no_terminator || has_local items s phi_edges

-- a unit in which no instruction hides the paths
abbrev pub has_paths : List ItemText → UnitText → Bool
has_paths items u = not (list_any (λ p. hides_paths items (record { unit = u; place = p })) (places u))

-- an instruction has a fault
abbrev pub HasFault : List ItemText → Site → FaultKind → Type 0
HasFault items s not_defined = (has_paths items s.unit ≡ true) × LacksDefinition s.unit s.place
HasFault items s k = has_local items s k ≡ true

-- none of these instructions has a fault
abbrev pub NoneHasFault : List ItemText → List Site → Type 0
NoneHasFault items [] = Unit {0}
NoneHasFault items (s ∷ more) = ((k : FaultKind) → ¬ HasFault items s k) × NoneHasFault items more

-- The first fault: no instruction before it in file order has one, and it has no fault of a lower number.
pub record IsFirstFault (items : List ItemText) (unit : UnitName) (inst : ℕ) (k : FaultKind) : Type 0 where
  pub before : List Site
  pub site : Site
  pub after : List Site
  pub all : sites items ≡ before ++ site ∷ after
  pub in_unit : site.unit.name ≡ unit
  pub at_inst : site.place.number ≡ inst
  pub has : HasFault items site k
  pub lowest : (j : FaultKind) → number_of j < number_of k → ¬ HasFault items site j
  pub none_before : NoneHasFault items before

-- no instruction has a fault
abbrev pub IsFaultless : List ItemText → Type 0
IsFaultless items = NoneHasFault items (sites items)

-- its canonical text reads as this module
abbrev pub IsSpelled : List ItemText → Type 0
IsSpelled items = Reads (canon items) items

-- A module is well formed where it is spelled and no instruction has a fault.
abbrev pub IsWellFormed : List ItemText → Type 0
IsWellFormed items = IsSpelled items × IsFaultless items
