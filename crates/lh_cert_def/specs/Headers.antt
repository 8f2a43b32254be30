-- Whether two units have one header, and what kinds of lines a unit has.
use Rattle.std.specs.Prelude.{List, [], ◌∷◌, Bool, true, false, not, ◌&&◌, ◌||◌, Option, Some, None}
use Rattle.std.specs.List.{list_any}
use Rattle.lh_types.specs.Types.{TypeTree, same_type}
use Rattle.lh_unit_names.specs.Names.{same_name}
use Rattle.lh_unit_names.specs.UnitNames.{same_unit_name}
use Rattle.lh_unit.specs.Contents.{InstText, sig_text, drv_text, reg_text, child_text, LineText, ArgText, UnitText}
use Rattle.lh_unit.specs.WellFormed.{in_function, in_process, in_entity}
use Rattle.lh_edge.specs.Valuations.{differ}

-- ---- headers

-- two arguments of one name, one type and one side
abbrev pub same_argument : ArgText → ArgText → Bool
same_argument a b = same_name a.name b.name && (same_type a.ty b.ty && not (differ a.output b.output))

abbrev pub same_arguments : List ArgText → List ArgText → Bool
same_arguments [] [] = true
same_arguments (a ∷ more) (b ∷ others) = same_argument a b && same_arguments more others
same_arguments _ _ = false

abbrev pub same_result : Option TypeTree → Option TypeTree → Bool
same_result (Some t) (Some u) = same_type t u
same_result None None = true
same_result _ _ = false

-- The names and the arguments of two units are the same; and so are their results, where both are functions.
abbrev pub same_header : UnitText → UnitText → Bool
same_header x y = same_unit_name x.name y.name && (same_arguments x.args y.args && (not (in_function x.kind && in_function y.kind) || same_result x.result y.result))

-- An entity stands in the place of a process.
abbrev pub is_replaced : UnitText → UnitText → Bool
is_replaced x y = in_process x.kind && in_entity y.kind

-- ---- lines

abbrev pub adds_hierarchy : InstText → Bool
adds_hierarchy (sig_text a) = true
adds_hierarchy (child_text u inputs outputs) = true
adds_hierarchy _ = false

abbrev pub is_drive : InstText → Bool
is_drive (drv_text to value after cond) = true
is_drive _ = false

abbrev pub is_register : InstText → Bool
is_register (reg_text to triggers) = true
is_register _ = false

-- some line is a `sig` or an `inst`
abbrev pub has_hierarchy : List LineText → Bool
has_hierarchy ls = list_any (λ (l : LineText). adds_hierarchy l.inst) ls

-- some line is a `drv`
abbrev pub has_drive : List LineText → Bool
has_drive ls = list_any (λ (l : LineText). is_drive l.inst) ls

-- some line is a `reg`
abbrev pub has_register : List LineText → Bool
has_register ls = list_any (λ (l : LineText). is_register l.inst) ls
