-- Instructions with new ids say what the copy of their text says.
use Rattle.std.specs.Prelude.{◌≡◌, ℕ, ◌<◌, List, length, Bool, true}
use Rattle.lh_unit.specs.ById.{values_used, blocks_named}
use Rattle.lh_unit.specs.Contents.{UnitText}
use Rattle.lh_unit.specs.Naming.{Naming, value_text, inst_text}
use Rattle.lh_unit.specs.Table.{is_block}
use Rattle.lh_unit.specs.Within.{Each, InstWithin}
use Rattle.lh_unit.specs.declared.inst.BlockId.{BlockId}
use Rattle.lh_unit.specs.declared.inst.ValueId.{ValueId}
use Rattle.lh_unit.specs.declared.inst.Inst.{Inst}
use Rattle.lh_unit.specs.declared.inst.Inst.TheVariants as inst
use Rattle.lh_flat.specs.declared.rename.Renaming.{Renaming}
use Rattle.lh_flat.specs.Copies.{Copy, first_piece, last_piece_of, copied}
use Rattle.lh_flat.specs.Renames.{value_in, first_in, last_in, renamed, sizes_in}

-- the block is one of these
abbrev pub IsOneOfBlocks : List BlockId → BlockId → Type 0
IsOneOfBlocks blocks b = is_block blocks b.0 ≡ true

-- the value is one of those that are known
abbrev pub IsKnown : (known : ℕ → Bool) → ValueId → Type 0
IsKnown known v = known v.0 ≡ true

-- The names f of the ids of a unit with these known values and these blocks, and the names g of a flat text's: each new id has the name that the copy gives. A function returns.
pub record Agrees (f g : Naming) (functions : List UnitText) (known : ℕ → Bool) (blocks : List BlockId) (returns : Bool) (c : Copy) (r : Renaming) : Type 0 where
  pub units : g.unit_name ≡ f.unit_name
  pub values : (v : ValueId) → v.0 < length r.values → IsKnown known v → value_text g (value_in r v) ≡ c.value (value_text f v)
  pub firsts : (b : BlockId) → IsOneOfBlocks blocks b → g.label_name (first_in r b).0 ≡ first_piece c (f.label_name b.0)
  pub lasts : (b : BlockId) → IsOneOfBlocks blocks b → g.label_name (last_in r b).0 ≡ last_piece_of functions c (f.label_name b.0)
  pub back : returns ≡ true → g.label_name r.back.0 ≡ c.path

-- it may stand in a function, which returns, or in a process
abbrev pub IsCode : (returns : Bool) → Inst → Type 0
IsCode returns (inst.Sig t) = ⊥
IsCode returns (inst.Reg to triggers) = ⊥
IsCode returns (inst.Child unit inputs outputs) = ⊥
IsCode returns (inst.Ret o) = returns ≡ true
IsCode returns _ = Unit {0}

-- Where each new id has the name that a copy gives, an instruction with new ids says what the copy of its text says.
abbrev pub RenamesAsCopied : Type 0
RenamesAsCopied = (f g : Naming) (functions : List UnitText) (known : ℕ → Bool) (blocks : List BlockId) (returns : Bool) (c : Copy) (r : Renaming) (units : ℕ)
    → Agrees f g functions known blocks returns c r → (i : Inst) → IsCode returns i → InstWithin (sizes_in units r) i → Each (IsKnown known) (values_used i)
    → Each (IsOneOfBlocks blocks) (blocks_named i) →
    inst_text g (renamed r i) ≡ copied functions c (inst_text f i)
