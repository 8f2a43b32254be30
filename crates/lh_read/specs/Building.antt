-- What the calls that build the module of a text answer.
use Rattle.std.specs.Prelude.{◌≡◌, ℕ, ◌<◌, Bool, true, false, ◌||◌, List, [], ◌∷◌, ◌++◌, Option, Result, Ok, Err, ◌⊎◌}
use Rattle.lh_types.specs.Types.{TypeTree}
use Rattle.lh_unit.specs.Contents.{ArgText, UnitText, unit_text, new_unit, change_last, with_arg, defines_unit, defines_value}
use Rattle.lh_unit.specs.Spells.{TypedName}
use Rattle.lh_unit.specs.Arena.{Arena, IsOpen, OfOpen, contents, unit_count}
use Rattle.lh_unit.specs.Reads.{ReadState, headed_unit, args_repeat, Takes, BadKind, syntax, unit_too_large, duplicate_name, IsBad}
use Rattle.lh_unit_names.specs.declared.name.UnitName.{UnitName}
use Rattle.lh_unit.specs.declared.inst.UnitId.{UnitId}
use Rattle.lh_unit.specs.declared.inst.UnitKind.{UnitKind}
use Rattle.lh_read.specs.declared.faults.LineFault.{LineFault}
use Rattle.lh_read.specs.Mentions.{EachNamed}
use Rattle.lh_read.specs.declared.faults.LineFault.TheVariants as fault

-- an argument on this side
abbrev pub arg_of : Bool → TypedName → ArgText
arg_of output a = record { name = a.name; ty = a.ty; output = output }

-- a unit is begun, or its name is defined
abbrev pub UnitBegunOrFault : Result UnitId LineFault → Arena → Arena → UnitName → UnitKind → Type 0
UnitBegunOrFault (Ok u) old new n k = (defines_unit n (contents old) ≡ false) × (contents new ≡ contents old ++ unit_text (new_unit n k) ∷ []) × IsOpen new u × (u.0 < unit_count new)
    × (EachNamed old → EachNamed new)
UnitBegunOrFault (Err fault.DuplicateName) old new n k = defines_unit n (contents old) ≡ true
UnitBegunOrFault (Err fault.OutOfMemory) old new n k = Unit {0}
UnitBegunOrFault (Err _) old new n k = ⊥

abbrev pub with_args : List ArgText → UnitText → UnitText
with_args args t = record t { args = t.args ++ args }

-- whether one of these arguments has the name of an earlier one or of a value of the unit
abbrev pub args_again : UnitText → List ArgText → Bool
args_again t [] = false
args_again t (a ∷ more) = defines_value a.name t || args_again (with_arg a t) more

-- the open unit u has these arguments more, or one of them is defined again
abbrev pub AddsArgs : Result (Unit {0}) LineFault → Arena → Arena → UnitId → List ArgText → Type 0
AddsArgs (Ok _) old new u args = OfOpen old (λ t. args_again t args ≡ false) × (contents new ≡ change_last (with_args args) (contents old)) × IsOpen new u × (u.0 < unit_count new)
    × (EachNamed old → EachNamed new)
AddsArgs (Err fault.DuplicateName) old new u args = OfOpen old (λ t. args_again t args ≡ true)
AddsArgs (Err fault.OutOfMemory) old new u args = Unit {0}
AddsArgs (Err _) old new u args = ⊥

-- a unit is begun as its header says it, or its name or that of an argument is defined again
abbrev pub Heads : Result UnitId LineFault → Arena → Arena → UnitName → UnitKind → List ArgText → Option TypeTree → Type 0
Heads (Ok u) old new n k args r = (defines_unit n (contents old) ≡ false) × (args_repeat [] args ≡ false) × (contents new ≡ contents old ++ unit_text (headed_unit k n args r) ∷ []) × IsOpen new u
    × (u.0 < unit_count new) × (EachNamed old → EachNamed new)
Heads (Err fault.DuplicateName) old new n k args r = (defines_unit n (contents old) ≡ true) ⊎ (args_repeat [] args ≡ true)
Heads (Err fault.OutOfMemory) old new n k args r = Unit {0}
Heads (Err _) old new n k args r = ⊥

-- the new state, or the fault; of running out of memory nothing is said
abbrev pub Steps : Result (Unit {0}) LineFault → Result ReadState BadKind → ReadState → Type 0
Steps (Ok _) step new = step ≡ Ok new
Steps (Err fault.Syntax) step new = step ≡ Err syntax
Steps (Err fault.UnitTooLarge) step new = step ≡ Err unit_too_large
Steps (Err fault.DuplicateName) step new = step ≡ Err duplicate_name
Steps (Err fault.OutOfMemory) step new = Unit {0}

-- the line is taken, or is faulty; of running out of memory nothing is said
abbrev pub TakesOrIsBad : Result (Unit {0}) LineFault → ReadState → List ℕ → ReadState → Type 0
TakesOrIsBad (Ok _) s line new = Takes s line new
TakesOrIsBad (Err fault.Syntax) s line new = IsBad s line syntax
TakesOrIsBad (Err fault.UnitTooLarge) s line new = IsBad s line unit_too_large
TakesOrIsBad (Err fault.DuplicateName) s line new = IsBad s line duplicate_name
TakesOrIsBad (Err fault.OutOfMemory) s line new = Unit {0}
