-- A unit as the arena keeps it: names, arguments, blocks and instructions by ids.
use Rattle.std.specs.Prelude.{◌≡◌, ℕ, ◌+◌, ◌^◌, ◌≤◌, ◌<◌, Bool, true, false, ◌||◌, nat_eq, List, [], ◌∷◌, ◌++◌, length, map, Option, Some, None, IsSome, is_some, unwrap_or, slice_get, slice_index_or, slice_set}
use Rattle.std.specs.Option.{option_map}
use Rattle.lh_types.specs.Types.{TypeTree}
use Rattle.lh_unit_names.specs.Distinct.{AllDistinct}
use Rattle.lh_unit.specs.declared.inst.UnitKind.{UnitKind}
use Rattle.lh_unit.specs.declared.inst.UnitKind.TheVariants as kind
use Rattle.lh_unit.specs.declared.inst.BlockId.{BlockId}
use Rattle.lh_unit.specs.declared.inst.InstId.{InstId}
use Rattle.lh_unit.specs.declared.inst.ValueId.{ValueId}
use Rattle.lh_unit.specs.declared.inst.ValueDef.{ValueDef}
use Rattle.lh_unit.specs.declared.inst.ValueDef.TheVariants as value_def
use Rattle.lh_unit.specs.declared.inst.Inst.TheVariants.{Halt}
use Rattle.lh_unit.specs.declared.inst.Arg.{Arg}
use Rattle.lh_unit.specs.declared.table.TableLine.{TableLine}

-- the names of values and labels by their ids; the blocks in file order; of each block that stands, its instructions; the instructions in file order
pub record Table : Type 0 where
  pub kind : Option UnitKind
  pub values : List (List ℕ)
  pub labels : List (List ℕ)
  pub args : List Arg
  pub result : Option TypeTree
  pub blocks : List BlockId
  pub bodies : List (Option (List InstId))
  pub lines : List TableLine

-- a unit that is Missing, with no entries
abbrev pub no_table : Table
no_table = record { kind = None; values = []; labels = []; args = []; result = None; blocks = []; bodies = []; lines = [] }

abbrev pub no_line : TableLine
no_line = record { result = None; inst = Halt }

-- the instruction i, with its result
abbrev pub line_at : Table → ℕ → TableLine
line_at t i = slice_index_or t.lines i no_line

-- the instructions of the block b, in order
abbrev pub insts_at : Table → ℕ → List InstId
insts_at t b = unwrap_or (slice_index_or t.bodies b None) []

-- whether an argument is the value k
abbrev pub is_arg : List Arg → ℕ → Bool
is_arg [] k = false
is_arg (a ∷ more) k = nat_eq a.value.0 k || is_arg more k

abbrev pub is_result : Option ValueId → ℕ → Bool
is_result None k = false
is_result (Some v) k = nat_eq v.0 k

-- whether the value k is the result of an instruction
abbrev pub is_made : List TableLine → ℕ → Bool
is_made [] k = false
is_made (l ∷ ls) k = is_result l.result k || is_made ls k

-- whether the value k is defined
abbrev pub is_defined : Table → ℕ → Bool
is_defined t k = is_arg t.args k || is_made t.lines k

abbrev pub result_defined : Table → Option ValueId → Bool
result_defined t None = false
result_defined t (Some v) = is_defined t v.0

-- the value that is the argument j
abbrev pub arg_value_at : Table → ℕ → Option ValueId
arg_value_at t j = option_map (λ (a : Arg). a.value) (slice_get t.args j)

-- what defines the value k: the argument that it is, the instruction whose result it is, or nothing
abbrev pub IsDefinition : Table → ℕ → ValueDef → Type 0
IsDefinition t k value_def.Missing = is_defined t k ≡ false
IsDefinition t k (value_def.Arg j) = (j < length t.args) × (arg_value_at t j ≡ Some (record { 0 = k }))
IsDefinition t k (value_def.Inst i) = (i.0 < length t.lines) × ((line_at t i.0).result ≡ Some (record { 0 = k }))

-- whether there is an argument or an instruction
abbrev pub has_definition : ValueDef → Bool
has_definition value_def.Missing = false
has_definition (value_def.Arg j) = true
has_definition (value_def.Inst i) = true

-- whether the block k stands in the unit
abbrev pub is_block : List BlockId → ℕ → Bool
is_block [] k = false
is_block (b ∷ more) k = nat_eq b.0 k || is_block more k

-- the lists, one after another
abbrev pub flat : {X : Type 0} → List (List X) → List X
flat [] = []
flat (xs ∷ more) = xs ++ flat more

-- n ids from k on
abbrev pub ids_from : ℕ → List TableLine → List InstId
ids_from k [] = []
ids_from k (l ∷ ls) = record { 0 = k } ∷ ids_from (k + 1) ls

abbrev pub ArgsWithin : ℕ → List Arg → Type 0
ArgsWithin n [] = Unit {0}
ArgsWithin n (a ∷ more) = (a.value.0 < n) × ArgsWithin n more

abbrev pub ResultWithin : ℕ → Option ValueId → Type 0
ResultWithin n None = Unit {0}
ResultWithin n (Some v) = v.0 < n

abbrev pub ResultsWithin : ℕ → List TableLine → Type 0
ResultsWithin n [] = Unit {0}
ResultsWithin n (l ∷ ls) = ResultWithin n l.result × ResultsWithin n ls

abbrev pub BlocksWithin : ℕ → List BlockId → Type 0
BlocksWithin n [] = Unit {0}
BlocksWithin n (b ∷ more) = (b.0 < n) × BlocksWithin n more

-- the entity's one block
abbrev pub entity_block : BlockId
entity_block = record { 0 = 0 }

-- what each kind of unit has: one that is Missing has nothing, only a function has a result type, an entity has one block
abbrev pub FitsKind : Option UnitKind → Table → Type 0
FitsKind None t = (t.args ≡ []) × (t.result ≡ None) × (t.blocks ≡ [])
FitsKind (Some kind.Func) t = IsSome t.result × BlocksWithin (length t.labels) t.blocks
FitsKind (Some kind.Proc) t = (t.result ≡ None) × BlocksWithin (length t.labels) t.blocks
FitsKind (Some kind.Entity) t = (t.result ≡ None) × (t.blocks ≡ entity_block ∷ [])

-- a function or a process, whose blocks have labels
abbrev pub HasBlocks : Option UnitKind → Type 0
HasBlocks None = ⊥
HasBlocks (Some kind.Func) = Unit {0}
HasBlocks (Some kind.Proc) = Unit {0}
HasBlocks (Some kind.Entity) = ⊥

-- a table in order
pub record IsTable (t : Table) : Type 0 where
  pub values_distinct : AllDistinct t.values
  pub labels_distinct : AllDistinct t.labels
  pub args_within : ArgsWithin (length t.values) t.args
  pub results_within : ResultsWithin (length t.values) t.lines
  pub defined_once : (k : ℕ) (d e : ValueDef) → IsDefinition t k d → IsDefinition t k e → d ≡ e
  pub fits_kind : FitsKind t.kind t
  pub blocks_distinct : AllDistinct t.blocks
  pub enough_bodies : length t.labels ≤ length t.bodies
  pub blocks_stand : (b : ℕ) → is_some (slice_index_or t.bodies b None) ≡ is_block t.blocks b
  pub in_order : flat (map (λ b. insts_at t b.0) t.blocks) ≡ ids_from 0 t.lines
  pub few : length t.lines ≤ 65536
  pub few_values : length t.values < 2 ^ 32
  pub few_labels : length t.labels < 2 ^ 32

-- how many of these are arguments
abbrev pub arg_count : ValueDef → ℕ
arg_count value_def.Missing = 0
arg_count (value_def.Arg j) = 1
arg_count (value_def.Inst i) = 0

abbrev pub args_among : List ValueDef → ℕ
args_among [] = 0
args_among (d ∷ more) = arg_count d + args_among more

-- each value has its definition here
pub record Definitions (t : Table) (defs : List ValueDef) : Type 0 where
  pub long : length defs ≡ length t.values
  pub right : (k : ℕ) → k < length t.values → IsDefinition t k (slice_index_or defs k value_def.Missing)
  pub counted : args_among defs ≡ length t.args

-- the definitions, with that of the result of an instruction set
abbrev pub with_definition : List ValueDef → Option ValueId → ValueDef → List ValueDef
with_definition defs None d = defs
with_definition defs (Some v) d = slice_set defs v.0 d

-- whether a result has a definition among these
abbrev pub defined_among : List ValueDef → Option ValueId → Bool
defined_among defs None = false
defined_among defs (Some v) = has_definition (slice_index_or defs v.0 value_def.Missing)
