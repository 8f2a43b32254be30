-- A module as contracts see it: its units by ids, and its items in file order.
use Rattle.std.specs.Prelude.{◌≡◌, ℕ, ◌+◌, ◌^◌, ◌≤◌, ◌<◌, List, [], ◌∷◌, ◌++◌, length, map, Option, Some, IsSome, IsSomeAnd, slice_get, slice_index_or, nat_eq, if◌then◌else◌}
use Rattle.lh_types.specs.Types.{TypeTree}
use Rattle.lh_unit.specs.Contents.{ItemText, UnitText, InstText, unit_text, declare_text, last_unit}
use Rattle.lh_unit.specs.Table.{Table, no_table, line_at, insts_at, IsTable}
use Rattle.lh_unit_names.specs.Distinct.{AllDistinct}
use Rattle.lh_unit.specs.Within.{Sizes, sizes_of, InstWithin}
use Rattle.lh_unit.specs.Naming.{Naming, naming_of, inst_text, table_text}
use Rattle.lh_unit_names.specs.declared.name.UnitName.{UnitName}
use Rattle.lh_unit.specs.declared.inst.UnitId.{UnitId}
use Rattle.lh_unit.specs.declared.inst.BlockId.{BlockId}
use Rattle.lh_unit.specs.declared.inst.InstId.{InstId}
use Rattle.lh_unit.specs.declared.inst.ValueId.{ValueId}
use Rattle.lh_unit.specs.declared.inst.UnitKind.{UnitKind}
use Rattle.lh_unit.specs.declared.inst.Inst.{Inst}
use Rattle.lh_unit.specs.declared.inst.Arg.{Arg}
use Rattle.lh_unit.specs.declared.inst.Item.{Item}
use Rattle.lh_unit.specs.declared.inst.Item.TheVariants as item
use Rattle.lh_unit.specs.declared.table.TableLine.{TableLine}

pub record Arena : Type 0 where
  pub names : List UnitName
  pub units : List Table
  pub items : List Item

-- a module with nothing in it
abbrev pub no_arena : Arena
no_arena = record { names = []; units = []; items = [] }

abbrev pub no_unit_name : UnitName
no_unit_name = record { sigil = 0; name = [] }

-- the unit u, by ids
abbrev pub table_at : Arena → ℕ → Table
table_at a u = slice_index_or a.units u no_table

-- how many units, and how many values and labels of the unit u, have an entry
abbrev pub unit_count : Arena → ℕ
unit_count a = length a.units

abbrev pub value_count : Arena → ℕ → ℕ
value_count a u = length (table_at a u).values

abbrev pub label_count : Arena → ℕ → ℕ
label_count a u = length (table_at a u).labels

-- how many ids of blocks the unit u has; a label is a block's id, and so is an entity's BlockId(0)
abbrev pub block_count : Arena → ℕ → ℕ
block_count a u = length (table_at a u).bodies

-- how many instructions the unit u has
abbrev pub inst_count : Arena → ℕ → ℕ
inst_count a u = length (table_at a u).lines

-- the names of the entries
abbrev pub unit_name_at : Arena → ℕ → UnitName
unit_name_at a u = slice_index_or a.names u no_unit_name

abbrev pub value_name_at : Arena → ℕ → ℕ → List ℕ
value_name_at a u v = slice_index_or (table_at a u).values v []

abbrev pub label_name_at : Arena → ℕ → ℕ → List ℕ
label_name_at a u b = slice_index_or (table_at a u).labels b []

-- what kind of unit u is; none where it is Missing
abbrev pub kind_at : Arena → ℕ → Option UnitKind
kind_at a u = (table_at a u).kind

-- what stands in the unit u: its arguments, its result type, its blocks in file order, the instructions of a block, an instruction and its result
abbrev pub args_at : Arena → ℕ → List Arg
args_at a u = (table_at a u).args

abbrev pub result_type_at : Arena → ℕ → Option TypeTree
result_type_at a u = (table_at a u).result

abbrev pub blocks_at : Arena → ℕ → List BlockId
blocks_at a u = (table_at a u).blocks

abbrev pub block_insts_at : Arena → ℕ → ℕ → List InstId
block_insts_at a u b = insts_at (table_at a u) b

abbrev pub inst_at : Arena → ℕ → ℕ → Inst
inst_at a u i = (line_at (table_at a u) i).inst

abbrev pub result_at : Arena → ℕ → ℕ → Option ValueId
result_at a u i = (line_at (table_at a u) i).result

-- the names that ids of the unit u stand for, and how many ids there are
abbrev pub naming : Arena → ℕ → Naming
naming a u = naming_of (unit_name_at a) (table_at a u)

abbrev pub sizes : Arena → ℕ → Sizes
sizes a u = sizes_of (unit_count a) (table_at a u)

-- the text of an instruction of the unit u
abbrev pub inst_text_at : Arena → ℕ → Inst → InstText
inst_text_at a u i = inst_text (naming a u) i

-- each id that an instruction of the unit u holds is an entry
abbrev pub InstPlaced : Arena → ℕ → Inst → Type 0
InstPlaced a u i = InstWithin (sizes a u) i

-- the text of the unit u
abbrev pub unit_text_at : Arena → ℕ → UnitText
unit_text_at a u = table_text (naming a u) (unit_name_at a u) (table_at a u)

abbrev pub item_text_at : Arena → Item → ItemText
item_text_at a (item.Unit u) = unit_text (unit_text_at a u.0)
item_text_at a (item.Declare d) = declare_text d

-- what the module says: its items in file order, with names in place of ids
abbrev pub contents : Arena → List ItemText
contents a = map (item_text_at a) a.items

-- the unit that the last item defines
abbrev pub IsOpen : Arena → UnitId → Type 0
IsOpen a u = (before : List Item) × (a.items ≡ before ++ item.Unit u ∷ [])

-- what holds of the text of the unit that the last item defines
abbrev pub OfOpen : Arena → (UnitText → Type 0) → Type 0
OfOpen a P = IsSomeAnd (last_unit (contents a)) P

-- an arena in order: every id in place, no name twice, each defined unit one item
pub record IsArena (a : Arena) : Type 0 where
  pub long : length a.names ≡ length a.units
  pub few : length a.units < 2 ^ 32
  pub names_distinct : AllDistinct a.names
  pub tables : (u : ℕ) → u < length a.units → IsTable (table_at a u)
  pub placed : (u i : ℕ) (l : TableLine) → slice_get (table_at a u).lines i ≡ Some l → InstPlaced a u l.inst
  pub items_within : (i : ℕ) (u : UnitId) → slice_get a.items i ≡ Some (item.Unit u) → u.0 < length a.units
  pub items_begun : (i : ℕ) (u : UnitId) → slice_get a.items i ≡ Some (item.Unit u) → IsSome (kind_at a u.0)
  pub items_distinct : (i j : ℕ) (u : UnitId) → slice_get a.items i ≡ Some (item.Unit u) → slice_get a.items j ≡ Some (item.Unit u) → i ≡ j
  pub items_defined : (u : UnitId) → u.0 < length a.units → IsSome (kind_at a u.0) → (i : ℕ) × (slice_get a.items i ≡ Some (item.Unit u))

-- every entry of old has the same name in new
pub record KeepsEntries (old new : Arena) : Type 0 where
  pub units : unit_count old ≤ unit_count new
  pub values : (u : ℕ) → value_count old u ≤ value_count new u
  pub labels : (u : ℕ) → label_count old u ≤ label_count new u
  pub unit_names : (u : ℕ) → u < unit_count old → unit_name_at new u ≡ unit_name_at old u
  pub value_names : (u v : ℕ) → v < value_count old u → value_name_at new u v ≡ value_name_at old u v
  pub label_names : (u b : ℕ) → b < label_count old u → label_name_at new u b ≡ label_name_at old u b

-- new may have more entries, and says what old says
pub record Grows (old new : Arena) : Type 0 where
  pub entries : KeepsEntries old new
  pub open_stays : (u : UnitId) → IsOpen old u → IsOpen new u
  pub says : contents new ≡ contents old

-- no table of the module has more than n entries
pub record HasAtMost (n : ℕ) (a : Arena) : Type 0 where
  pub units : unit_count a ≤ n
  pub values : (u : ℕ) → value_count a u ≤ n
  pub labels : (u : ℕ) → label_count a u ≤ n

-- new has at most so many units more than old, and its unit u at most so many values and labels more
pub record HasFewMore (units : ℕ) (values labels : ℕ → ℕ) (old new : Arena) : Type 0 where
  pub more_units : unit_count new ≤ unit_count old + units
  pub more_values : (u : ℕ) → value_count new u ≤ value_count old u + values u
  pub more_labels : (u : ℕ) → label_count new u ≤ label_count old u + labels u

abbrev pub none_more : ℕ → ℕ
none_more u = 0

abbrev pub one_more_in : ℕ → ℕ → ℕ
one_more_in u w = if nat_eq w u then 1 else 0
