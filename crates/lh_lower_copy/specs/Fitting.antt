-- What can be added to an open unit, one after another: no name is defined already, and there is room.
use Rattle.std.specs.Prelude.{◌≡◌, ℕ, ◌<◌, false, List, [], ◌∷◌, length, Option, Some, None}
use Rattle.lh_unit.specs.Contents.{UnitText, BlockText, LineText, ArgText, with_arg, with_line, defines_value, defines_label}
use Rattle.lh_unit.specs.Builders.{HasLabels, HasRoom}
use Rattle.lh_lower_copy.specs.Changing.{with_lines, with_labelled}

abbrev pub ArgsFit : UnitText → List ArgText → Type 0
ArgsFit t [] = Unit {0}
ArgsFit t (a ∷ more) = (defines_value a.name t ≡ false) × ArgsFit (with_arg a t) more

-- a line is added to a block
abbrev pub LinesFit : UnitText → List LineText → Type 0
LinesFit t [] = Unit {0}
LinesFit t (l ∷ more) = (0 < length t.blocks) × HasRoom l t × LinesFit (with_line l t) more

-- a label is added to a function or a process
abbrev pub LabelFits : UnitText → Option (List ℕ) → Type 0
LabelFits t None = Unit {0}
LabelFits t (Some n) = HasLabels t.kind × (defines_label n t ≡ false)

abbrev pub BlocksFit : UnitText → List BlockText → Type 0
BlocksFit t [] = Unit {0}
BlocksFit t (b ∷ more) = LabelFits t b.label × LinesFit (with_labelled b.label t) b.lines × BlocksFit (with_lines b.lines (with_labelled b.label t)) more
