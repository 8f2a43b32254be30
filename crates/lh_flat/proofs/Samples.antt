-- Small processes that call functions, as contents.
use Rattle.std.specs.Prelude.{ℕ, zero, suc, List, [], ◌∷◌, false, Some, None, codes}
use Prim.Native.String.{String}
use Rattle.lh_types.specs.Types.{TypeTree, int_type, void_type}
use Rattle.lh_types.specs.Values.{int_value}
use Rattle.lh_unit_names.specs.declared.name.UnitName.{UnitName}
use Rattle.lh_unit.specs.declared.inst.UnitKind.TheVariants as kind
pub use Rattle.lh_unit.specs.Worded.{byte, global, gives, does, typed, function}
use Rattle.lh_unit.specs.Contents.{OperandText, EdgeText, InstText, const_text, call_text, phi_text, br_text, branch_text, wait_text, ret_text, LineText, BlockText, ArgText, UnitText}

abbrev pub block : String → List LineText → BlockText
block label lines = record { label = Some (codes label); lines = lines }

abbrev pub edge : List ℕ → List ℕ → EdgeText
edge value block = record { value = value; block = block }

abbrev pub parameter : String → TypeTree → ArgText
parameter n t = record { name = codes n; ty = t; output = false }

abbrev pub process : List BlockText → UnitText
process blocks = record { kind = kind.Proc; name = global (codes "p"); args = []; result = None; blocks = blocks }

abbrev pub calls : List ℕ → LineText
calls f = does (call_text (global f) void_type [])

-- a function that calls itself
abbrev pub recursive : UnitText
recursive = function (codes "f") [] void_type (block "entry" (calls (codes "f") ∷ does (ret_text None) ∷ []) ∷ [])

-- a process that calls a function and waits
abbrev pub caller_of : List ℕ → UnitText
caller_of f = process (block "entry" (calls f ∷ does (wait_text (codes "entry") None []) ∷ []) ∷ [])

-- n functions from the number k on: each calls the next, and the last one only returns
abbrev pub chain : (n k : ℕ) → List UnitText
chain zero k = []
chain (suc zero) k = function (k ∷ []) [] void_type (block "e" (does (ret_text None) ∷ []) ∷ []) ∷ []
chain (suc (suc n)) k = function (k ∷ []) [] void_type (block "e" (calls (suc k ∷ []) ∷ does (ret_text None) ∷ []) ∷ []) ∷ chain (suc n) (suc k)

-- a function that gives its argument or, where that is 0, another value
abbrev pub or_one : UnitText
or_one = function (codes "g") (parameter "a" (int_type 1) ∷ []) (int_type 1) (
    block "e" (does (branch_text (codes "a") (codes "z") (codes "n")) ∷ [])
    ∷ block "z" (gives (codes "k") (const_text (int_value 1 1)) ∷ does (ret_text (Some (typed (int_type 1) (codes "k")))) ∷ [])
    ∷ block "n" (does (ret_text (Some (typed (int_type 1) (codes "a")))) ∷ [])
    ∷ [])

abbrev pub call_or_one : List ℕ → List ℕ → LineText
call_or_one r a = gives r (call_text (global (codes "g")) (int_type 1) (typed (int_type 1) a ∷ []))

-- a process that calls it twice in one block, whose end a `phi` names
abbrev pub twice : UnitText
twice = process (
    block "s" (
    gives (codes "x") (const_text (int_value 1 0))
    ∷ call_or_one (codes "y") (codes "x")
    ∷ call_or_one (codes "w") (codes "y")
    ∷ does (br_text (codes "t"))
    ∷ [])
    ∷ block "t" (
    gives (codes "v") (phi_text (int_type 1) (edge (codes "w") (codes "s") ∷ []))
    ∷ does (wait_text (codes "s") None [])
    ∷ [])
    ∷ [])
