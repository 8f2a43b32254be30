-- The faults of an instruction at its place, by ids, and the lowest of them.
use Rattle.std.specs.Prelude.{ℕ, List, Bool, false, not, ◌||◌, if◌then◌else◌, Option, Some, None}
use Rattle.lh_unit.specs.Contents.{InstText, UnitText, ItemText}
use Rattle.lh_unit.specs.Naming.{inst_text}
use Rattle.lh_unit.specs.Arena.{inst_at, table_at}
use Rattle.lh_unit.specs.WellFormed.{FaultKind, undefined, wrong_kind, wrong_type, not_here, no_terminator, phi_edges, not_defined, arguments, is_undefined, is_wrong_kind, is_wrong_type, is_allowed, arguments_differ}
use Rattle.lh_unit.specs.declared.inst.Inst.{Inst}
use Rattle.lh_verify_values.specs.declared.scope.Scope.{Scope}
use Rattle.lh_verify.specs.declared.spots.Spot.{Spot}
use Rattle.lh_verify.specs.OperandTests.{ends_wrong}
use Rattle.lh_verify.specs.PhisById.{phi_is_wrong, wrong_phi_at}
use Rattle.lh_verify_values.specs.Facts.{text_in, naming_in, items_in}

-- the instruction at a place, and its text
abbrev pub inst_in : Scope → Spot → Inst
inst_in s x = inst_at s.module.now s.unit.0 x.inst.0

unfoldable pub text_of : Scope → Spot → InstText
text_of s x = inst_text (naming_in s) (inst_in s x)

-- an instruction has a fault that asks for no path
abbrev pub has_fault : Scope → Spot → FaultKind → Bool
has_fault s x undefined = is_undefined (items_in s) (text_in s) (text_of s x)
has_fault s x wrong_kind = is_wrong_kind (items_in s) (text_in s) (text_of s x)
has_fault s x wrong_type = is_wrong_type (items_in s) (text_in s) (text_of s x)
has_fault s x not_here = not (is_allowed (text_in s).kind (text_of s x))
has_fault s x no_terminator = ends_wrong (text_in s).kind x.last (text_of s x)
has_fault s x phi_edges = wrong_phi_at (table_at s.module.now s.unit.0) x
has_fault s x not_defined = false
has_fault s x arguments = arguments_differ (items_in s) (text_in s) (text_of s x)

-- this fault, or else another
abbrev pub first_of : Bool → FaultKind → Option FaultKind → Option FaultKind
first_of b k other = if b then Some k else other

-- the lowest fault of an instruction, where it is known whether it has fault 7
abbrev pub lowest : Scope → Spot → (lacks : Bool) → Option FaultKind
lowest s x lacks =
    first_of (has_fault s x undefined) undefined
    (first_of (has_fault s x wrong_kind) wrong_kind
    (first_of (has_fault s x wrong_type) wrong_type
    (first_of (has_fault s x not_here) not_here
    (first_of (has_fault s x no_terminator) no_terminator
    (first_of (has_fault s x phi_edges) phi_edges
    (first_of lacks not_defined
    (first_of (has_fault s x arguments) arguments None)))))))

-- an instruction has one of the faults after which paths are not asked for
abbrev pub hides_paths : Scope → Spot → Bool
hides_paths s x = (has_fault s x undefined || has_fault s x no_terminator) || has_fault s x phi_edges

-- the number of the lowest of the faults 1 to 3
abbrev pub lowest_of_operands : List ItemText → UnitText → InstText → Option ℕ
lowest_of_operands items u i =
    if is_undefined items u i then Some 1 else (if is_wrong_kind items u i then Some 2 else (if is_wrong_type items u i then Some 3 else None))

-- the number of the lowest of the faults 4 to 8
abbrev pub lowest_of_place : Scope → Spot → Inst → (lacks : Bool) → Option ℕ
lowest_of_place s x i lacks =
    if not (is_allowed (text_in s).kind (inst_text (naming_in s) i)) then Some 4
    else (if ends_wrong (text_in s).kind x.last (inst_text (naming_in s) i) then Some 5
    else (if phi_is_wrong (table_at s.module.now s.unit.0) x i then Some 6
    else (if lacks then Some 7
    else (if arguments_differ (items_in s) (text_in s) (inst_text (naming_in s) i) then Some 8 else None))))
