-- What a unit adds to a design: its signals, and the instances in it with what they are connected to.
use Rattle.std.specs.Prelude.{ℕ, List, [], ◌∷◌, ◌++◌, map, replicate, Bool, true, false, if◌then◌else◌, Option, Some, None}
use Rattle.std.specs.Option.{option_map_or}
use Rattle.lh_types.specs.Types.{TypeTree, void_type, bit_count}
use Rattle.lh_types.specs.Bits.{value_bits}
use Rattle.lh_types.specs.declared.part.Range.{Range}
use Rattle.lh_unit_names.specs.declared.name.UnitName.{UnitName}
use Rattle.lh_unit.specs.declared.inst.UnitKind.{UnitKind}
use Rattle.lh_unit.specs.declared.inst.UnitKind.TheVariants as kind
use Rattle.lh_unit_names.specs.UnitNames.{same_unit_name}
use Rattle.lh_unit.specs.Contents.{OperandText, InstText, const_text, pure_text, sig_text, child_text, prb_text, LineText, BlockText, ArgText, UnitText, ItemText, unit_text, declare_text}
use Rattle.lh_unit.specs.Held.{Held, datum_held, part_held, Env, nothing_held, with_result, with_args, datum_at, part_at}
use Rattle.lh_unit.specs.Effects.{operated}
use Rattle.lh_unit.specs.Named.{label_or}

-- an instance: the name of its unit, the number of the instance in which it stands, and the bits of its arguments and of its own signals
pub record Instance : Type 0 where
  pub unit : UnitName
  pub parent : Option ℕ
  pub args : List Range
  pub sigs : List Range

-- the instructions of a unit in text order
abbrev pub lines_of : List BlockText → List LineText
lines_of [] = []
lines_of (b ∷ more) = b.lines ++ lines_of more

-- one more name, where the instruction is a `sig`
abbrev pub name_if_signal : InstText → Option (List ℕ) → List (Option (List ℕ)) → List (Option (List ℕ))
name_if_signal (sig_text a) n more = n ∷ more
name_if_signal _ n more = more

-- the names of the signals of these instructions, in text order
abbrev pub signal_names : List LineText → List (Option (List ℕ))
signal_names [] = []
signal_names (l ∷ more) = name_if_signal l.inst l.result (signal_names more)

-- with these parts held under these names
abbrev pub with_parts : Env → List (Option (List ℕ)) → List Range → Env
with_parts e [] rs = e
with_parts e (n ∷ more) [] = e
with_parts e (n ∷ more) (r ∷ rs) = with_parts (with_result e n (part_held r)) more rs

-- what is held where an entity begins: the parts of its arguments and of its signals
abbrev pub parts_of : UnitText → (args sigs : List Range) → Env
parts_of u args sigs = with_parts (with_args nothing_held u.args (map part_held args)) (signal_names (lines_of u.blocks)) sigs

-- this held under a name, where it is there
abbrev pub if_held : Env → Option (List ℕ) → Option Held → Env
if_held e n None = e
if_held e n (Some h) = with_result e n h

-- what a constant or an operation gives
abbrev pub static_of : UnitText → Env → InstText → Option Held
static_of u e (const_text d) = Some (datum_held d)
static_of u e (pure_text o args) = operated u e o args
static_of u e _ = None

-- what is held after the constants and operations of these lines, without any probe
abbrev pub static_from : UnitText → Env → List LineText → Env
static_from u e [] = e
static_from u e (l ∷ more) = static_from u (if_held e l.result (static_of u e l.inst)) more

-- what a unit holds without any probe, where its arguments and signals have these bits
abbrev pub static_held : UnitText → (args sigs : List Range) → Env
static_held u args sigs = static_from u (parts_of u args sigs) (lines_of u.blocks)

-- one more part, where the instruction is a `prb`
abbrev pub part_if_probe : Env → InstText → List Range → List Range
part_if_probe e (prb_text s) more = option_map_or (λ r. r ∷ more) (part_at e s.value) more
part_if_probe e _ more = more

-- the parts that the `prb` instructions of these lines name
abbrev pub probed_parts : Env → List LineText → List Range
probed_parts e [] = []
probed_parts e (l ∷ more) = part_if_probe e l.inst (probed_parts e more)

-- a signal of a unit: its name, the type that it carries, and the bits that it begins with
pub record SignalText : Type 0 where
  pub name : List ℕ
  pub ty : TypeTree
  pub initial : List Bool

-- the written type, which every `sig` has
abbrev pub type_or_void : Option TypeTree → TypeTree
type_or_void None = void_type
type_or_void (Some t) = t

-- no bit of them is set
abbrev pub zeros : TypeTree → List Bool
zeros t = replicate (bit_count t) false

-- one more signal, where the instruction is a `sig`
abbrev pub signal_if : Env → InstText → Option (List ℕ) → List SignalText → List SignalText
signal_if e (sig_text a) n more =
    record { name = label_or n; ty = type_or_void a.ty; initial = option_map_or value_bits (datum_at e a.value) (zeros (type_or_void a.ty)) } ∷ more
signal_if e _ n more = more

-- the signals of these lines; an initial value is computed from constants and operations alone
abbrev pub signals_of : Env → List LineText → List SignalText
signals_of e [] = []
signals_of e (l ∷ more) = signal_if e l.inst l.result (signals_of e more)

-- an instance in a unit: the unit that it names, and the lowest bit of each operand
pub record Child : Type 0 where
  pub unit : UnitName
  pub lows : List ℕ

-- the lowest bits of the parts that operands name
abbrev pub lows_of : Env → List OperandText → List ℕ
lows_of e [] = []
lows_of e (o ∷ more) = option_map_or (λ r. r.lo) (part_at e o.value) 0 ∷ lows_of e more

-- one more instance, where the instruction is an `inst`
abbrev pub child_if : Env → InstText → List Child → List Child
child_if e (child_text u inputs outputs) more = record { unit = u; lows = lows_of e (inputs ++ outputs) } ∷ more
child_if e _ more = more

-- the instances of these lines
abbrev pub children_of : Env → List LineText → List Child
children_of e [] = []
children_of e (l ∷ more) = child_if e l.inst (children_of e more)

-- All that elaboration reads of a unit.
pub record Hierarchy : Type 0 where
  pub function : Bool
  pub args : List ArgText
  pub signals : List SignalText
  -- the instances in it, where its arguments and signals have these bits
  pub children : (args sigs : List Range) → List Child

-- only an entity has signals and instances
abbrev pub hierarchy_by : UnitKind → UnitText → Hierarchy
hierarchy_by kind.Entity u = record {
  function = false;
  args = u.args;
  signals = signals_of (static_held u [] []) (lines_of u.blocks);
  children = λ args sigs. children_of (static_held u args sigs) (lines_of u.blocks);
}
hierarchy_by kind.Proc u = record { function = false; args = u.args; signals = []; children = λ args sigs. [] }
hierarchy_by kind.Func u = record { function = true; args = u.args; signals = []; children = λ args sigs. [] }

-- what elaboration reads of a unit
abbrev pub hierarchy_of : UnitText → Hierarchy
hierarchy_of u = hierarchy_by u.kind u

-- the units of a module by name
pub record Entry : Type 0 where
  pub name : UnitName
  pub hierarchy : Hierarchy

-- what elaboration reads of a module
abbrev pub hierarchies : List ItemText → List Entry
hierarchies [] = []
hierarchies (unit_text u ∷ more) = record { name = u.name; hierarchy = hierarchy_of u } ∷ hierarchies more
hierarchies (declare_text d ∷ more) = hierarchies more

-- what elaboration reads of the unit of this name
abbrev pub hierarchy_named : UnitName → List Entry → Option Hierarchy
hierarchy_named n [] = None
hierarchy_named n (x ∷ more) = if same_unit_name x.name n then Some x.hierarchy else hierarchy_named n more
