-- What each call on one unit answers, and what it does to the unit's table.
use Rattle.std.specs.Prelude.{◌≡◌, ℕ, ◌-◌, ◌<◌, true, false, if◌then◌else◌, List, [], ◌∷◌, ◌++◌, length, Option, Some, None, Result, Ok, Err, slice_get, slice_set, slice_index_or}
use Rattle.lh_types.specs.Types.{TypeTree, void_type}
use Rattle.lh_types.specs.declared.memory.NoMemory.{NoMemory}
use Rattle.lh_unit_names.specs.Distinct.{has_name}
use Rattle.lh_unit.specs.Table.{Table, is_block, is_defined, result_defined, entity_block, insts_at}
use Rattle.lh_unit.specs.declared.inst.UnitKind.{UnitKind}
use Rattle.lh_unit.specs.declared.inst.UnitKind.TheVariants as kind
use Rattle.lh_unit.specs.declared.inst.BlockId.{BlockId}
use Rattle.lh_unit.specs.declared.inst.InstId.{InstId}
use Rattle.lh_unit.specs.declared.inst.ValueId.{ValueId}
use Rattle.lh_unit.specs.declared.inst.Inst.{Inst}
use Rattle.lh_unit.specs.declared.inst.Arg.{Arg}
use Rattle.lh_unit.specs.declared.inst.UnitFault.{UnitFault}
use Rattle.lh_unit.specs.declared.inst.UnitFault.TheVariants as fault

-- the table with an entry for the name of a value
abbrev pub with_value : Table → List ℕ → Table
with_value t n = if has_name t.values n then t else record t { values = t.values ++ n ∷ [] }

-- the table with an entry for a label, which has no block where it is new
abbrev pub with_label : Table → List ℕ → Table
with_label t n = if has_name t.labels n then t else record t { labels = t.labels ++ n ∷ []; bodies = t.bodies ++ None ∷ [] }

-- the value of the name n is found at k, or made there
pub record NamesValue (old new : Table) (n : List ℕ) (k : ℕ) : Type 0 where
  pub within : k < length new.values
  pub named : slice_get new.values k ≡ Some n
  pub table : new ≡ with_value old n

-- the label of the name n is found at k, or made there
pub record NamesLabel (old new : Table) (n : List ℕ) (k : ℕ) : Type 0 where
  pub within : k < length new.labels
  pub named : slice_get new.labels k ≡ Some n
  pub table : new ≡ with_label old n

abbrev pub FindsValueIn : Result ValueId NoMemory → Table → Table → List ℕ → Type 0
FindsValueIn (Ok v) old new n = NamesValue old new n v.0
FindsValueIn (Err _) old new n = new ≡ old

abbrev pub FindsLabelIn : Result BlockId NoMemory → Table → Table → List ℕ → Type 0
FindsLabelIn (Ok b) old new n = NamesLabel old new n b.0
FindsLabelIn (Err _) old new n = new ≡ old

-- a unit that was Missing, as its header begins it
abbrev pub begun : Table → UnitKind → Table
begun t kind.Func = record t { kind = Some kind.Func; result = Some void_type }
begun t kind.Proc = record t { kind = Some kind.Proc }
begun t kind.Entity = record t { kind = Some kind.Entity; blocks = t.blocks ++ entity_block ∷ []; bodies = slice_set (t.bodies ++ None ∷ []) 0 (Some []) }

abbrev pub BeginsTable : Result (Unit {0}) NoMemory → Table → Table → UnitKind → Type 0
BeginsTable (Ok _) old new k = new ≡ begun old k
BeginsTable (Err _) old new k = new ≡ old

abbrev pub with_arg : Table → Arg → Table
with_arg t a = record t { args = t.args ++ a ∷ [] }

abbrev pub TakesArg : Result (Unit {0}) UnitFault → Table → Table → Arg → Type 0
TakesArg (Ok _) old new a = (is_defined old a.value.0 ≡ false) × (new ≡ with_arg old a)
TakesArg (Err fault.UnitTooLarge) old new a = ⊥
TakesArg (Err fault.DuplicateName) old new a = (is_defined old a.value.0 ≡ true) × (new ≡ old)
TakesArg (Err fault.OutOfMemory) old new a = (is_defined old a.value.0 ≡ false) × (new ≡ old)

abbrev pub with_result : Table → TypeTree → Table
with_result t ty = record t { result = Some ty }

abbrev pub with_block : Table → BlockId → Table
with_block t b = record t { blocks = t.blocks ++ b ∷ []; bodies = slice_set t.bodies b.0 (Some []) }

abbrev pub TakesBlock : Result (Unit {0}) UnitFault → Table → Table → BlockId → Type 0
TakesBlock (Ok _) old new b = (is_block old.blocks b.0 ≡ false) × (new ≡ with_block old b)
TakesBlock (Err fault.UnitTooLarge) old new b = ⊥
TakesBlock (Err fault.DuplicateName) old new b = (is_block old.blocks b.0 ≡ true) × (new ≡ old)
TakesBlock (Err fault.OutOfMemory) old new b = (is_block old.blocks b.0 ≡ false) × (new ≡ old)

-- the block that was added last
abbrev pub last_block : Table → BlockId
last_block t = slice_index_or t.blocks (length t.blocks - 1) entity_block

-- an instruction at the end of the last block
abbrev pub with_line : Table → Option ValueId → Inst → Table
with_line t r i = record t {
  lines = t.lines ++ record { result = r; inst = i } ∷ [];
  bodies = slice_set t.bodies (last_block t).0 (Some (insts_at t (last_block t).0 ++ record { 0 = length t.lines } ∷ []));
}

abbrev pub TakesLine : Result InstId UnitFault → Table → Table → Option ValueId → Inst → Type 0
TakesLine (Ok id) old new r i = (length old.lines < 65536) × (result_defined old r ≡ false) × (id.0 ≡ length old.lines) × (new ≡ with_line old r i)
TakesLine (Err fault.UnitTooLarge) old new r i = (length old.lines ≡ 65536) × (new ≡ old)
TakesLine (Err fault.DuplicateName) old new r i = (length old.lines < 65536) × (result_defined old r ≡ true) × (new ≡ old)
TakesLine (Err fault.OutOfMemory) old new r i = (length old.lines < 65536) × (result_defined old r ≡ false) × (new ≡ old)
