-- When a unit can be printed so that it reads back.
use Rattle.std.specs.Prelude.{◌≡◌, ℕ, ◌≤◌, Bool, true, false, ◌||◌, List, [], ◌∷◌, ◌++◌, Option, Some, None}
use Rattle.lh_unit.specs.Contents.{ArgText, LineText, BlockText, UnitText, ItemText, unit_text, declare_text, args_define, lines_define, defines_label_in, line_count}
use Rattle.lh_unit.specs.Pieces.{IsSpaced, lexemes_in}
use Rattle.lh_unit.specs.Spells.{LineItem, header_item, declare_item, label_item, inst_item, Spells}
use Rattle.lh_unit.specs.Reads.{has_lines, args_repeat, is_assert, most_lines}
use Rattle.lh_unit.specs.Within.{Each}
use Rattle.lh_unit.specs.Hierarchy.{lines_of}
use Rattle.lh_unit.specs.declared.inst.UnitKind.{UnitKind}
use Rattle.lh_unit.specs.declared.inst.UnitKind.TheVariants as kind
use Rattle.lh_text_laws.specs.ItemLines.{item_line}

-- the canonical line of an item has tokens that can be written, and they spell the item
abbrev pub HasLine : LineItem → Type 0
HasLine i = IsSpaced (item_line i) × Spells (lexemes_in (item_line i)) i

abbrev pub HasInstLine : LineText → Type 0
HasInstLine l = HasLine (inst_item l)

abbrev pub HasLabelLine : Option (List ℕ) → Type 0
HasLabelLine None = ⊥
HasLabelLine (Some n) = HasLine (label_item n)

-- a block with a label and an instruction
abbrev pub BlockIsLabelled : BlockText → Type 0
BlockIsLabelled b = HasLabelLine b.label × (has_lines b.lines ≡ true)

-- an entity has one block without a label; another unit has one block or more, each with a label and an instruction
abbrev pub HasShape : UnitKind → List BlockText → Type 0
HasShape kind.Entity (b ∷ []) = b.label ≡ None
HasShape kind.Entity _ = ⊥
HasShape _ [] = ⊥
HasShape _ (b ∷ more) = Each BlockIsLabelled (b ∷ more)

-- whether a result has the name of an argument or of an earlier result
abbrev pub result_repeats : List ArgText → (seen : List LineText) → Option (List ℕ) → Bool
result_repeats args seen None = false
result_repeats args seen (Some r) = args_define r args || lines_define r seen

-- the same for each of these instructions
abbrev pub results_repeat : List ArgText → (seen : List LineText) → List LineText → Bool
results_repeat args seen [] = false
results_repeat args seen (l ∷ more) = result_repeats args seen l.result || results_repeat args (seen ++ l ∷ []) more

-- whether a label is that of an earlier block
abbrev pub label_repeats : (seen : List BlockText) → Option (List ℕ) → Bool
label_repeats seen None = false
label_repeats seen (Some n) = defines_label_in n seen

-- the same for each of these blocks
abbrev pub labels_repeat : (seen : List BlockText) → List BlockText → Bool
labels_repeat seen [] = false
labels_repeat seen (b ∷ more) = label_repeats seen b.label || labels_repeat (seen ++ b ∷ []) more

-- each line of the unit can be printed, its blocks have the shape of its kind, no name stands twice, and it is not too large
pub record IsPrintable (u : UnitText) : Type 0 where
  pub headed : HasLine (header_item u.kind u.name u.args u.result)
  pub shaped : HasShape u.kind u.blocks
  pub written : Each HasInstLine (lines_of u.blocks)
  pub no_assert : is_assert u.name ≡ false
  pub new_args : args_repeat [] u.args ≡ false
  pub new_labels : labels_repeat [] u.blocks ≡ false
  pub new_results : results_repeat u.args [] (lines_of u.blocks) ≡ false
  pub fits : line_count u.blocks ≤ most_lines

-- an item that can be printed: such a unit, or a declaration with such a line
abbrev pub IsPrintableItem : ItemText → Type 0
IsPrintableItem (unit_text u) = IsPrintable u
IsPrintableItem (declare_text d) = HasLine (declare_item d)
