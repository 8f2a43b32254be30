-- The line that a status writes to the log.
use Rattle.std.specs.Prelude.{ℕ, nat_eq, List, [], ◌∷◌, ◌++◌, if◌then◌else◌, codes, decimal}
use Rattle.lh_unit_names.specs.declared.name.UnitName.{UnitName}
use Rattle.lh_result.specs.declared.status.Refusal.{Refusal}
use Rattle.lh_result.specs.declared.status.Refusal.TheVariants.{Syntax, UnitTooLarge, DuplicateName, Invalid}
use Rattle.lh_result.specs.declared.status.TopFault.{TopFault}
use Rattle.lh_result.specs.declared.status.TopFault.TheVariants.{TopMissing, TopIsFunction, InstCycle, TooDeep, TooManyInstances, TooManyBits}
use Rattle.lh_result.specs.declared.status.Status.{Status}
use Rattle.lh_result.specs.declared.status.Status.TheVariants.{Usage, ReadFault, SourceTooLong, Refused, Top, OutputTooLong, WriteFault, Runaway, AssertFailed, Done, OutOfMemory}

-- the name of a fault by its number, between a space and the end of the line
abbrev pub name_of_fault : ℕ → List ℕ
name_of_fault n =
    if nat_eq n 1 then codes " Undefined\n"
    else if nat_eq n 2 then codes " WrongKind\n"
    else if nat_eq n 3 then codes " WrongType\n"
    else if nat_eq n 4 then codes " NotHere\n"
    else if nat_eq n 5 then codes " NoTerminator\n"
    else if nat_eq n 6 then codes " PhiEdges\n"
    else if nat_eq n 7 then codes " NotDefined\n" else codes " Arguments\n"

-- a unit with its sigil
abbrev pub unit_word : UnitName → List ℕ
unit_word u = u.sigil ∷ u.name

-- the line of a faulty instruction
abbrev pub invalid_line : UnitName → (inst number : ℕ) → List ℕ
invalid_line u inst number = (codes "unit " ++ unit_word u) ++ (codes " instruction " ++ decimal inst ++ codes ": ") ++ decimal number ++ name_of_fault number

abbrev pub refusal_line : Refusal → List ℕ
refusal_line (Syntax line) = codes "line " ++ decimal line ++ codes ": syntax\n"
refusal_line (UnitTooLarge line) = codes "line " ++ decimal line ++ codes ": unit too large\n"
refusal_line (DuplicateName line) = codes "line " ++ decimal line ++ codes ": duplicate name\n"
refusal_line (Invalid u inst number) = invalid_line u inst number

-- the line of a top that is not simulated
abbrev pub top_line : TopFault → List ℕ
top_line TopMissing = codes "top: TopMissing\n"
top_line TopIsFunction = codes "top: TopIsFunction\n"
top_line (InstCycle u) = (codes "top: InstCycle " ++ unit_word u) ++ codes "\n"
top_line TooDeep = codes "top: TooDeep\n"
top_line TooManyInstances = codes "top: TooManyInstances\n"
top_line TooManyBits = codes "top: TooManyBits\n"

-- Done has none
abbrev pub status_line : Status → List ℕ
status_line Usage = codes "usage: llhd check | lower | simulate --top NAME --steps N [--vcd] [--watch TITLE ...] | selftest N\n"
status_line ReadFault = codes "read fault\n"
status_line SourceTooLong = codes "source too long\n"
status_line (Refused why) = refusal_line why
status_line (Top why) = top_line why
status_line OutputTooLong = codes "output too long\n"
status_line WriteFault = codes "write fault\n"
status_line (Runaway instance) = codes "runaway in instance " ++ decimal instance ++ codes "\n"
status_line AssertFailed = codes "assertion failed\n"
status_line Done = []
status_line OutOfMemory = codes "out of memory\n"

-- the exit code of a status
abbrev pub status_code : Status → ℕ
status_code Done = 0
status_code (Refused why) = 1
status_code Usage = 2
status_code ReadFault = 3
status_code WriteFault = 4
status_code OutOfMemory = 5
status_code SourceTooLong = 6
status_code OutputTooLong = 7
status_code (Top why) = 8
status_code AssertFailed = 9
status_code (Runaway instance) = 10
