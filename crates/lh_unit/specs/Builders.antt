-- What each call that builds a module answers, and what it does to the contents.
use Rattle.std.specs.Prelude.{◌≡◌, ◌⊎◌, ℕ, ◌+◌, ◌<◌, Bool, true, false, List, [], ◌∷◌, ◌++◌, Option, Some, None, Result, Ok, Err}
use Rattle.lh_types.specs.Types.{TypeTree}
use Rattle.lh_types.specs.declared.memory.NoMemory.{NoMemory}
use Rattle.lh_unit.specs.Contents.{ItemText, UnitText, LineText, ArgText, unit_text, declare_text, new_unit, change_last, with_arg, with_result, with_block, with_line, line_count, defines_unit, defines_value, defines_label}
use Rattle.lh_unit.specs.Naming.{maybe_text}
use Rattle.lh_unit.specs.Arena.{Arena, KeepsEntries, Grows, HasAtMost, HasFewMore, none_more, one_more_in, IsOpen, OfOpen, contents, naming, unit_count, value_count, label_count, inst_count, unit_name_at, value_name_at, label_name_at, inst_text_at}
use Rattle.lh_unit_names.specs.declared.name.UnitName.{UnitName}
use Rattle.lh_unit.specs.declared.inst.UnitId.{UnitId}
use Rattle.lh_unit.specs.declared.inst.BlockId.{BlockId}
use Rattle.lh_unit.specs.declared.inst.InstId.{InstId}
use Rattle.lh_unit.specs.declared.inst.ValueId.{ValueId}
use Rattle.lh_unit.specs.declared.inst.UnitKind.{UnitKind}
use Rattle.lh_unit.specs.declared.inst.UnitKind.TheVariants as kind
use Rattle.lh_unit.specs.declared.inst.Inst.{Inst}
use Rattle.lh_unit.specs.declared.inst.Declare.{Declare}
use Rattle.lh_unit.specs.declared.inst.UnitFault.{UnitFault}
use Rattle.lh_unit.specs.declared.inst.UnitFault.TheVariants as fault

-- an entry is found or made, and nothing else changes
pub record FindsEntry (old new : Arena) : Type 0 where
  pub grows : Grows old new
  pub few : (n : ℕ) → HasAtMost n old → HasAtMost (n + 1) new

-- of so many entries as there are now, each is one of those before or this one
abbrev pub NoneElse : (before now this : ℕ) → Type 0
NoneElse before now this = (k : ℕ) → k < now → (k < before) ⊎ (k ≡ this)

-- the entry of a unit of this name
abbrev pub FindsUnit : Result UnitId NoMemory → Arena → Arena → UnitName → Type 0
FindsUnit (Ok u) old new n = FindsEntry old new × (u.0 < unit_count new) × (unit_name_at new u.0 ≡ n) × HasFewMore 1 none_more none_more old new
    × NoneElse (unit_count old) (unit_count new) u.0
FindsUnit (Err _) old new n = new ≡ old

-- the entry of a value of this name in the unit u
abbrev pub FindsValue : Result ValueId NoMemory → Arena → Arena → UnitId → List ℕ → Type 0
FindsValue (Ok v) old new u n = FindsEntry old new × (v.0 < value_count new u.0) × (value_name_at new u.0 v.0 ≡ n) × HasFewMore 0 (one_more_in u.0) none_more old new
    × NoneElse (value_count old u.0) (value_count new u.0) v.0
FindsValue (Err _) old new u n = new ≡ old

-- the entry of a label of this name in the unit u
abbrev pub FindsLabel : Result BlockId NoMemory → Arena → Arena → UnitId → List ℕ → Type 0
FindsLabel (Ok b) old new u n = FindsEntry old new × (b.0 < label_count new u.0) × (label_name_at new u.0 b.0 ≡ n) × HasFewMore 0 none_more (one_more_in u.0) old new
    × NoneElse (label_count old u.0) (label_count new u.0) b.0
FindsLabel (Err _) old new u n = new ≡ old

-- the contents of new are these, u is open there, and every entry of old has its name; there are no more entries
pub record HasContents (old new : Arena) (u : UnitId) (items : List ItemText) : Type 0 where
  pub says : contents new ≡ items
  pub is_open : IsOpen new u
  pub entries : KeepsEntries old new
  pub few : (n : ℕ) → HasAtMost n old → HasAtMost n new
  pub no_more : HasFewMore 0 none_more none_more old new

-- u becomes the open unit
abbrev pub BeginsUnit : Result (Unit {0}) UnitFault → Arena → Arena → UnitId → UnitKind → Type 0
BeginsUnit (Ok _) old new u k = (defines_unit (unit_name_at old u.0) (contents old) ≡ false) × HasContents old new u (contents old ++ unit_text (new_unit (unit_name_at old u.0) k) ∷ [])
BeginsUnit (Err fault.DuplicateName) old new u k = (defines_unit (unit_name_at old u.0) (contents old) ≡ true) × (new ≡ old)
BeginsUnit (Err fault.OutOfMemory) old new u k = (defines_unit (unit_name_at old u.0) (contents old) ≡ false) × (new ≡ old)
BeginsUnit (Err fault.UnitTooLarge) old new u k = ⊥

-- the open unit u has one more argument
abbrev pub AddsArg : Result (Unit {0}) UnitFault → Arena → Arena → UnitId → ArgText → Type 0
AddsArg (Ok _) old new u a = OfOpen old (λ t. defines_value a.name t ≡ false) × HasContents old new u (change_last (with_arg a) (contents old))
AddsArg (Err fault.DuplicateName) old new u a = OfOpen old (λ t. defines_value a.name t ≡ true) × (new ≡ old)
AddsArg (Err fault.OutOfMemory) old new u a = OfOpen old (λ t. defines_value a.name t ≡ false) × (new ≡ old)
AddsArg (Err fault.UnitTooLarge) old new u a = ⊥

-- the open unit u has one more block, with no instructions
abbrev pub AddsBlock : Result (Unit {0}) UnitFault → Arena → Arena → UnitId → List ℕ → Type 0
AddsBlock (Ok _) old new u n = OfOpen old (λ t. defines_label n t ≡ false) × HasContents old new u (change_last (with_block n) (contents old))
AddsBlock (Err fault.DuplicateName) old new u n = OfOpen old (λ t. defines_label n t ≡ true) × (new ≡ old)
AddsBlock (Err fault.OutOfMemory) old new u n = OfOpen old (λ t. defines_label n t ≡ false) × (new ≡ old)
AddsBlock (Err fault.UnitTooLarge) old new u n = ⊥

-- whether the unit defines the result of a line
abbrev pub defines_result : Option (List ℕ) → UnitText → Bool
defines_result None t = false
defines_result (Some n) t = defines_value n t

-- the line can be added to the unit
pub record HasRoom (l : LineText) (t : UnitText) : Type 0 where
  pub small : line_count t.blocks < 65536
  pub undefined : defines_result l.result t ≡ false

-- the unit has room, and defines the result of the line already
pub record HasTwice (l : LineText) (t : UnitText) : Type 0 where
  pub small : line_count t.blocks < 65536
  pub twice : defines_result l.result t ≡ true

-- the last block of the open unit u has one more line
abbrev pub AddsLine : Result InstId UnitFault → Arena → Arena → UnitId → LineText → Type 0
AddsLine (Ok i) old new u l = OfOpen old (HasRoom l) × HasContents old new u (change_last (with_line l) (contents old)) × (i.0 ≡ inst_count old u.0)
AddsLine (Err fault.UnitTooLarge) old new u l = OfOpen old (λ t. line_count t.blocks ≡ 65536) × (new ≡ old)
AddsLine (Err fault.DuplicateName) old new u l = OfOpen old (HasTwice l) × (new ≡ old)
AddsLine (Err fault.OutOfMemory) old new u l = OfOpen old (HasRoom l) × (new ≡ old)

-- the module has one more declaration
abbrev pub AddsDeclare : Result (Unit {0}) NoMemory → Arena → Arena → Declare → Type 0
AddsDeclare (Ok _) old new d = (contents new ≡ contents old ++ declare_text d ∷ []) × KeepsEntries old new × ((n : ℕ) → HasAtMost n old → HasAtMost n new) × HasFewMore 0 none_more none_more old new
AddsDeclare (Err _) old new d = new ≡ old

-- the text of an instruction that is to be added, with the name of its result
abbrev pub line_text_at : Arena → ℕ → Option ValueId → Inst → LineText
line_text_at a u r i = record { result = maybe_text (naming a u) r; inst = inst_text_at a u i }

-- a function or a process, whose blocks have labels
abbrev pub HasLabels : UnitKind → Type 0
HasLabels kind.Func = Unit {0}
HasLabels kind.Proc = Unit {0}
HasLabels kind.Entity = ⊥

-- the open unit u has this result type
abbrev pub SetsResult : Arena → Arena → UnitId → TypeTree → Type 0
SetsResult old new u ty = HasContents old new u (change_last (with_result ty) (contents old))

-- the entry of a unit of this name, or none where there is no such entry
abbrev pub Locates : Option UnitId → Arena → UnitName → Type 0
Locates (Some u) a n = (u.0 < unit_count a) × (unit_name_at a u.0 ≡ n)
Locates None a n = (u : ℕ) → u < unit_count a → unit_name_at a u ≡ n → ⊥
