-- What lowering keeps of a module.
use Rattle.std.specs.Prelude.{◌≡◌, ◌≤◌, List, [], ◌∷◌, ◌++◌, length, map, true, false, None}
use Rattle.lh_unit_names.specs.declared.name.UnitName.{UnitName}
use Rattle.lh_unit.specs.declared.inst.Declare.{Declare}
use Rattle.lh_unit.specs.declared.inst.UnitKind.{UnitKind}
use Rattle.lh_unit.specs.declared.inst.UnitKind.TheVariants as unit_kind
use Rattle.lh_unit.specs.Contents.{LineText, UnitText, ItemText, unit_text, declare_text, defines_unit}
use Rattle.lh_unit.specs.Within.{Each}
use Rattle.lh_unit.specs.Activation.{functions}
use Rattle.lh_unit.specs.WellFormed.{in_process}
use Rattle.lh_shape.specs.declared.reason.Reason.{Reason}
use Rattle.lh_emit_def.specs.Laws.{IsEmittedKind}
use Rattle.lh_lower_def.specs.Report.{RowText}
use Rattle.lh_lower_def.specs.Lowering.{becomes, stays, outcome_in, verdict_of, lowered, report}
use Rattle.lh_lower_def.specs.declared.report.Kind.{Kind}

-- An entity in the place of a process: it has the process's name and arguments, and at most 65,536 instructions. These are constants,
-- operations, parts, probes, drives and registers alone: it has no signals, and no instances.
pub record IsEntityFor (u y : UnitText) : Type 0 where
  pub kind : y.kind ≡ unit_kind.Entity
  pub name : y.name ≡ u.name
  pub args : y.args ≡ u.args
  pub result : y.result ≡ None
  pub lines : List LineText
  pub one_block : y.blocks ≡ record { label = None; lines = lines } ∷ []
  pub short : length lines ≤ 65536
  pub emitted : Each (λ (l : LineText). IsEmittedKind l.inst) lines

-- What stands in the place of an item of a module, and the row that the report has for it: declarations, functions and entities stay as they
-- are, and have none; a process with a reason stays as it is, with a row that names the reason; any other becomes an entity, with a row that
-- names the shape.
pub data InPlaceOf (items : List ItemText) : ItemText → ItemText → List RowText → Type 0 where
  declaration : (d : Declare) → InPlaceOf items (declare_text d) (declare_text d) []
  no_process : (u : UnitText) → in_process u.kind ≡ false → InPlaceOf items (unit_text u) (unit_text u) []
  process_left : (u : UnitText) → in_process u.kind ≡ true → (r : Reason) → outcome_in items u ≡ stays r →
      InPlaceOf items (unit_text u) (unit_text u) (record { unit = u.name; verdict = verdict_of (stays r) } ∷ [])
  process_lowered : (u y : UnitText) → in_process u.kind ≡ true → (k : Kind) → outcome_in items u ≡ becomes k y → IsEntityFor u y →
      InPlaceOf items (unit_text u) (unit_text y) (record { unit = u.name; verdict = verdict_of (becomes k y) } ∷ [])

-- Each of these items has its successor in its place, and the rows stand in the order of the items.
pub data KeptFrom (items : List ItemText) : List ItemText → List ItemText → List RowText → Type 0 where
  nothing : KeptFrom items [] [] []
  one_more : (i j : ItemText) (rows : List RowText) (more more' : List ItemText) (others all : List RowText) → InPlaceOf items i j rows → KeptFrom items more more' others →
      all ≡ (rows ++ others) → KeptFrom items (i ∷ more) (j ∷ more') all

-- A module is kept in another, with this report: item by item.
abbrev pub Kept : (items to : List ItemText) → (rows : List RowText) → Type 0
Kept items to rows = KeptFrom items items to rows

-- ---- laws

-- A module is kept in what it is lowered to, with its report.
abbrev pub LoweredIsKept : Type 0
LoweredIsKept = (items : List ItemText) → Kept items (lowered items) (report items)

-- In nothing else is it kept, and with no other report.
abbrev pub KeptIsLowered : Type 0
KeptIsLowered = (items to : List ItemText) (rows : List RowText) → Kept items to rows → (to ≡ lowered items) × (rows ≡ report items)

-- The lowered module has the same functions, so calls mean what they meant; and it defines units of the same names.
abbrev pub FunctionsStay : Type 0
FunctionsStay = (items : List ItemText) → functions (lowered items) ≡ functions items

abbrev pub NamesStay : Type 0
NamesStay = (n : UnitName) (items : List ItemText) → defines_unit n (lowered items) ≡ defines_unit n items

-- A lowered module is lowered to itself.
abbrev pub LoweredAgain : Type 0
LoweredAgain = (items : List ItemText) → lowered (lowered items) ≡ lowered items

-- ---- the processes of a module

abbrev pub process_name_as : UnitKind → UnitText → List UnitName
process_name_as unit_kind.Proc u = u.name ∷ []
process_name_as unit_kind.Func u = []
process_name_as unit_kind.Entity u = []

-- their names, in file order
abbrev pub process_names : List ItemText → List UnitName
process_names [] = []
process_names (unit_text u ∷ more) = process_name_as u.kind u ++ process_names more
process_names (declare_text d ∷ more) = process_names more

-- The report has one row for each process, in file order.
abbrev pub RowsAreProcesses : Type 0
RowsAreProcesses = (items : List ItemText) → map (λ (r : RowText). r.unit) (report items) ≡ process_names items
