-- What is known of the values of a unit, and the unit that it is known of.
use Rattle.std.specs.Prelude.{◌≡◌, ℕ, suc, ◌<◌, List, length, Bool, true, Some, option_map, slice_get}
use Rattle.std.specs.List.{list_any}
use Rattle.lh_unit.specs.Contents.{UnitText, ItemText, defines_value, defines_label}
use Rattle.lh_unit.specs.Typing.{value_type}
use Rattle.lh_unit.specs.Kinds as kinds
use Rattle.lh_unit.specs.Kinds.{value_kind}
use Rattle.lh_unit.specs.Places.{places}
use Rattle.lh_unit.specs.WellFormed.{depends_on_probe}
use Rattle.lh_unit.specs.Naming.{Naming, value_text}
use Rattle.lh_unit.specs.Within.{Sizes}
use Rattle.lh_unit.specs.ById.{is_sig}
use Rattle.lh_unit.specs.Arena.{naming, sizes, table_at, unit_text_at, unit_count, contents}
use Rattle.lh_unit.specs.declared.inst.ValueId.{ValueId}
use Rattle.lh_unit.specs.declared.inst.BlockId.{BlockId}
use Rattle.lh_unit.specs.declared.inst.Inst.{Inst}
use Rattle.lh_unit.specs.declared.inst.Inst.TheVariants as inst
use Rattle.lh_unit.specs.declared.table.TableLine.{TableLine}
use Rattle.lh_types.specs.Types.{TypeTree}
use Rattle.lh_verify_values.specs.Numbers.{IsNumberOf, NumbersParams}
use Rattle.lh_verify_values.specs.declared.scope.ValueKind.{ValueKind}
use Rattle.lh_verify_values.specs.declared.scope.ValueKind.TheVariants.{Datum, Time, Signal, Pointer}
use Rattle.lh_verify_values.specs.declared.scope.Fact.{Fact}
use Rattle.lh_verify_values.specs.declared.scope.Scope.{Scope}

-- the four kinds
abbrev pub kind_as : ValueKind → kinds.Kind
kind_as Datum = kinds.a_datum
kind_as Time = kinds.a_time
kind_as Signal = kinds.a_signal
kind_as Pointer = kinds.a_pointer

-- what is known of the value of a name is so
pub record FactHolds (types : List TypeTree) (t : UnitText) (n : List ℕ) (f : Fact) : Type 0 where
  pub defined : f.defined ≡ defines_value n t
  pub kind : option_map kind_as f.kind ≡ value_kind t n
  pub ty : IsNumberOf types f.ty (value_type t n)

-- the value of a name comes from a `prb`
unfoldable pub from_probe : UnitText → List ℕ → Bool
from_probe t n = depends_on_probe (suc (length (places t))) t n

-- the text of the unit, the names of its values, how many ids there are, and the items of its module
unfoldable pub text_in : Scope → UnitText
text_in s = unit_text_at s.module.now s.unit.0

unfoldable pub naming_in : Scope → Naming
naming_in s = naming s.module.now s.unit.0

unfoldable pub sizes_in : Scope → Sizes
sizes_in s = sizes s.module.now s.unit.0

unfoldable pub items_in : Scope → List ItemText
items_in s = contents s.module.now

-- one of these instructions is a `sig`
abbrev pub any_sig : List TableLine → Bool
any_sig lines = list_any (λ (l : TableLine). is_sig l.inst) lines

-- the unit has a `sig`
abbrev pub has_sig : Scope → Bool
has_sig s = any_sig (table_at s.module.now s.unit.0).lines

-- where an instruction is a `sig`, the unit has one
abbrev pub HasItsSig : Scope → Inst → Type 0
HasItsSig s i = is_sig i ≡ true → has_sig s ≡ true

-- each value and each label of the unit has an entry, which says what is so; which values come from a `prb`, only in a unit with a `sig`
pub record IsScope (s : Scope) : Type 0 where
  pub unit : s.unit.0 < unit_count s.module.now
  pub long : length s.facts.now ≡ (sizes_in s).values
  pub told : (v : ValueId) (f : Fact) → slice_get s.facts.now v.0 ≡ Some f → FactHolds s.types.now (text_in s) (value_text (naming_in s) v) f
  pub long_labels : length s.labels.now ≡ (sizes_in s).labels
  pub told_labels : (b : BlockId) (x : Bool) → slice_get s.labels.now b.0 ≡ Some x → x ≡ defines_label ((naming_in s).label_name b.0) (text_in s)
  pub long_probed : length s.probed.now ≡ (sizes_in s).values
  pub told_probed : has_sig s ≡ true → (v : ValueId) (x : Bool) → slice_get s.probed.now v.0 ≡ Some x → x ≡ from_probe (text_in s) (value_text (naming_in s) v)
  pub params : NumbersParams s.types.now s.module.now s.params.now
