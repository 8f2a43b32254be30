-- What a whole text reads as, line by line, and which line is the first faulty one.
use Rattle.std.specs.Prelude.{◌≡◌, ℕ, ◌+◌, Bool, true, false, ◌||◌, nat_eq, List, [], ◌∷◌, ◌++◌, Option, Some, None, ◌⊎◌, if◌then◌else◌}
use Rattle.lh_types.specs.Types.{TypeTree}
use Rattle.lh_unit.specs.Contents.{ArgText, LineText, BlockText, UnitText, ItemText, unit_text, declare_text, new_unit, change_last, last_unit, with_block, with_line, line_count, defines_unit, args_define, defines_value, defines_label}
use Rattle.lh_unit.specs.Lexemes.{Lexeme, lexemes}
pub use Rattle.lh_unit_names.specs.UnitNames.{is_assert}
use Rattle.lh_unit.specs.Lines.{lines_of}
use Rattle.lh_unit.specs.Spells.{LineItem, empty_item, header_item, declare_item, label_item, inst_item, close_item, Spells}
use Rattle.lh_unit_names.specs.declared.name.UnitName.{UnitName}
use Rattle.lh_unit.specs.declared.inst.UnitKind.{UnitKind}
use Rattle.lh_unit.specs.declared.inst.UnitKind.TheVariants as kind

-- how far a text is read: the items so far, and whether the last of them is a unit that is still open
pub record ReadState : Type 0 where
  pub items : List ItemText
  pub inside : Bool

-- where a line stands
pub data LinePlace : Type 0 where
  outside : LinePlace
  in_entity : LinePlace
  -- in a function or process, before its first label
  before_labels : LinePlace
  -- in a block, which has no instruction yet
  in_empty_block : LinePlace
  in_block : LinePlace

abbrev pub has_lines : List LineText → Bool
has_lines [] = false
has_lines (l ∷ ls) = true

-- the place after these blocks
abbrev pub place_after : List BlockText → LinePlace
place_after [] = before_labels
place_after (b ∷ []) = if has_lines b.lines then in_block else in_empty_block
place_after (b ∷ c ∷ more) = place_after (c ∷ more)

abbrev pub place_in : UnitKind → List BlockText → LinePlace
place_in kind.Entity blocks = in_entity
place_in _ blocks = place_after blocks

abbrev pub place_in_last : Option UnitText → LinePlace
place_in_last None = outside
place_in_last (Some u) = place_in u.kind u.blocks

abbrev pub place_of : ReadState → LinePlace
place_of s = if s.inside then place_in_last (last_unit s.items) else outside

-- which items may stand in a place
abbrev pub may_stand : LinePlace → LineItem → Bool
may_stand p empty_item = true
may_stand outside (header_item k n args r) = true
may_stand outside (declare_item d) = true
may_stand outside _ = false
may_stand in_entity (inst_item l) = true
may_stand in_entity close_item = true
may_stand in_entity _ = false
may_stand before_labels (label_item n) = true
may_stand before_labels _ = false
may_stand in_empty_block (inst_item l) = true
may_stand in_empty_block _ = false
may_stand in_block (label_item n) = true
may_stand in_block (inst_item l) = true
may_stand in_block close_item = true
may_stand in_block _ = false

-- a unit as its header says it
abbrev pub headed_unit : UnitKind → UnitName → List ArgText → Option TypeTree → UnitText
headed_unit k n args None = record (new_unit n k) { args = args }
headed_unit k n args (Some t) = record (new_unit n k) { args = args; result = Some t }

-- the state after an item
abbrev pub after : ReadState → LineItem → ReadState
after s empty_item = s
after s (header_item k n args r) = record { items = s.items ++ unit_text (headed_unit k n args r) ∷ []; inside = true }
after s (declare_item d) = record { items = s.items ++ declare_text d ∷ []; inside = false }
after s (label_item n) = record { items = change_last (with_block n) s.items; inside = true }
after s (inst_item l) = record { items = change_last (with_line l) s.items; inside = true }
after s close_item = record { items = s.items; inside = false }

-- how many instructions a unit may have
abbrev pub most_lines : ℕ
most_lines = 65536

abbrev pub is_full : Option UnitText → Bool
is_full None = false
is_full (Some u) = nat_eq (line_count u.blocks) most_lines

-- whether the item is an instruction in a unit that is full
abbrev pub too_large : ReadState → LineItem → Bool
too_large s (inst_item l) = is_full (last_unit s.items)
too_large s _ = false

-- whether one of the arguments has the name of an earlier one; `seen` are those before
abbrev pub args_repeat : (seen : List ArgText) → List ArgText → Bool
args_repeat seen [] = false
args_repeat seen (a ∷ more) = args_define a.name seen || args_repeat (seen ++ a ∷ []) more

abbrev pub value_again : Option (List ℕ) → Option UnitText → Bool
value_again (Some r) (Some u) = defines_value r u
value_again _ _ = false

abbrev pub label_again : List ℕ → Option UnitText → Bool
label_again n (Some u) = defines_label n u
label_again n None = false

-- whether the item defines a name of a unit, value or label that is defined
abbrev pub defines_again : ReadState → LineItem → Bool
defines_again s (header_item k n args r) = defines_unit n s.items || is_assert n || args_repeat [] args
defines_again s (label_item n) = label_again n (last_unit s.items)
defines_again s (inst_item l) = value_again l.result (last_unit s.items)
defines_again s _ = false

-- the line spells this item, which may stand in this place
pub record LineSpells (s : ReadState) (line : List ℕ) (item : LineItem) : Type 0 where
  pub tokens : List Lexeme
  pub lexed : lexemes line ≡ Some tokens
  pub spelled : Spells tokens item
  pub stands : may_stand (place_of s) item ≡ true

-- the line says an item that is without fault in this state, and the item leads to that state
pub record Takes (s : ReadState) (line : List ℕ) (t : ReadState) : Type 0 where
  pub item : LineItem
  pub said : LineSpells s line item
  pub has_room : too_large s item ≡ false
  pub is_new : defines_again s item ≡ false
  pub becomes : t ≡ after s item

-- line after line
abbrev pub Walk : List (List ℕ) → ReadState → ReadState → Type 0
Walk [] s t = s ≡ t
Walk (l ∷ ls) s t = (m : ReadState) × Takes s l m × Walk ls m t

abbrev pub start : ReadState
start = record { items = []; inside = false }

-- the text reads as these items
abbrev pub Reads : List ℕ → List ItemText → Type 0
Reads text items = Walk (lines_of text) start (record { items = items; inside = false })

-- why a line is faulty
pub data BadKind : Type 0 where
  syntax : BadKind
  unit_too_large : BadKind
  duplicate_name : BadKind

-- The line is faulty in this state: it says nothing; or an instruction that its unit has no room for; or else a name that is defined.
abbrev pub IsBad : ReadState → List ℕ → BadKind → Type 0
IsBad s line syntax = (i : LineItem) → LineSpells s line i → ⊥
IsBad s line unit_too_large = (i : LineItem) × LineSpells s line i × (too_large s i ≡ true)
IsBad s line duplicate_name = (i : LineItem) × LineSpells s line i × (too_large s i ≡ false) × (defines_again s i ≡ true)

-- of these lines, the first of which has the number n, line k is the first faulty one; a unit that is open at the end is a fault of the line after the last
abbrev pub FirstBadFrom : List (List ℕ) → ℕ → ReadState → ℕ → BadKind → Type 0
FirstBadFrom [] n s k why = (s.inside ≡ true) × (k ≡ n) × (why ≡ syntax)
FirstBadFrom (l ∷ ls) n s k why = ((k ≡ n) × IsBad s l why) ⊎ ((m : ReadState) × Takes s l m × FirstBadFrom ls (n + 1) m k why)

-- line k of the text, counted from 1, is its first faulty one
abbrev pub FirstBad : List ℕ → ℕ → BadKind → Type 0
FirstBad text k why = FirstBadFrom (lines_of text) 1 start k why
