-- Marks of the labels and of the values of a unit.
use Rattle.std.specs.Prelude.{◌≡◌, ℕ, ◌+◌, List, length, Bool, true, false, Option, Some, None, slice_get, slice_index_or}
use Rattle.std.specs.List.{list_any}
use Rattle.std.specs.Option.{option_map_or}
use Rattle.lh_unit.specs.Contents.{defines_label}
use Rattle.lh_unit.specs.WellFormed.{depends_on_probe}
use Rattle.lh_unit.specs.Table.{is_block}
use Rattle.lh_unit.specs.ById.{inst_making}
use Rattle.lh_unit.specs.Arena.{Arena, table_at, unit_text_at, label_count, value_count, inst_count, label_name_at, value_name_at}
use Rattle.lh_unit.specs.declared.inst.UnitKind.{UnitKind}
use Rattle.lh_unit.specs.declared.inst.UnitKind.TheVariants as kind
use Rattle.lh_unit.specs.declared.inst.BlockId.{BlockId}
use Rattle.lh_unit.specs.declared.inst.Inst.{Inst}
use Rattle.lh_unit.specs.declared.inst.Inst.TheVariants as inst
use Rattle.lh_unit.specs.declared.table.TableLine.{TableLine}
use Rattle.lh_verify_operands.specs.declared.uses.Use.{Use}
use Rattle.lh_verify_values.specs.Facts.{any_sig}
use Rattle.lh_verify_operands.specs.Uses.{uses_of}

-- the marks say which of these are blocks
pub record BlockMarks (blocks : List BlockId) (n : ℕ) (marks : List Bool) : Type 0 where
  pub long : length marks ≡ n
  pub marked : (b : ℕ) (x : Bool) → slice_get marks b ≡ Some x → x ≡ is_block blocks b

-- the marks say which labels of the unit u have a block
pub record MarksLabels (a : Arena) (u : ℕ) (marks : List Bool) : Type 0 where
  pub long : length marks ≡ label_count a u
  pub marked : (b : ℕ) (x : Bool) → slice_get marks b ≡ Some x → x ≡ defines_label (label_name_at a u b) (unit_text_at a u)

-- the blocks of a unit of this kind have labels
abbrev pub has_labels : Option UnitKind → Bool
has_labels None = false
has_labels (Some kind.Func) = true
has_labels (Some kind.Proc) = true
has_labels (Some kind.Entity) = false

-- an instruction is a `prb`, or one of its operands is marked
abbrev pub comes_from : List Bool → Inst → Bool
comes_from marks (inst.Prb s) = true
comes_from marks i = list_any (λ (x : Use). slice_index_or marks x.value.0 false) (uses_of i)

-- the marks say which values come from a `prb` within k instructions
pub record Reaches (a : Arena) (u k : ℕ) (marks : List Bool) : Type 0 where
  pub long : length marks ≡ value_count a u
  pub marked : (v : ℕ) (x : Bool) → slice_get marks v ≡ Some x → x ≡ depends_on_probe k (unit_text_at a u) (value_name_at a u v)

-- the marks of one round more, so far as these lines give values
pub record Advances (lines : List TableLine) (old : List Bool) (n : ℕ) (marks : List Bool) : Type 0 where
  pub long : length marks ≡ n
  pub marked : (v : ℕ) (x : Bool) → slice_get marks v ≡ Some x → x ≡ option_map_or (comes_from old) (inst_making lines v) false

-- in a unit with a `sig`, the marks say which values come from a `prb`
pub record MarksProbed (a : Arena) (u : ℕ) (marks : List Bool) : Type 0 where
  pub long : length marks ≡ value_count a u
  pub reached : any_sig (table_at a u).lines ≡ true → Reaches a u (inst_count a u + 1) marks
