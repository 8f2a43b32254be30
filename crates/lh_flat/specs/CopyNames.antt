-- The names of the values of copies, in the order of their ids; and units that can be copied.
use Rattle.std.specs.Prelude.{◌≡◌, ℕ, Bool, zero, suc, ◌+◌, ◌<◌, List, [], ◌∷◌, ◌++◌, length, Option, Some, None}
use Rattle.lh_unit.specs.ById.{values_used, blocks_named}
use Rattle.lh_unit.specs.Contents.{UnitText, defines_value}
use Rattle.lh_unit.specs.Named.{function_named, is_function}
use Rattle.lh_unit.specs.Naming.{kind_text}
use Rattle.lh_unit.specs.Table.{insts_at, HasBlocks}
use Rattle.lh_unit.specs.Arena.{Arena, table_at, blocks_at, args_at, unit_count, unit_name_at, unit_text_at, value_name_at, label_name_at, kind_at}
use Rattle.lh_unit.specs.Within.{Each}
use Rattle.lh_unit.specs.declared.inst.UnitId.{UnitId}
use Rattle.lh_unit.specs.declared.inst.BlockId.{BlockId}
use Rattle.lh_unit.specs.declared.inst.InstId.{InstId}
use Rattle.lh_unit.specs.declared.inst.ValueId.{ValueId}
use Rattle.lh_unit.specs.declared.inst.Inst.{Inst}
use Rattle.lh_unit.specs.declared.inst.Inst.TheVariants as inst
use Rattle.lh_unit.specs.declared.table.TableLine.{TableLine}
use Rattle.lh_flat.specs.Graph.{callee_of}
use Rattle.lh_flat.specs.Agrees.{IsOneOfBlocks, IsKnown, IsCode}
use Rattle.lh_flat.specs.Building.{line_of}

-- the names of the values of a process
abbrev pub own_names : Arena → (u : ℕ) → List (List ℕ)
own_names a u = (table_at a u).values

-- The name of the result of the instruction k in a copy with this path. What gives no result leaves a name that nothing else has.
abbrev pub result_name : (name : ℕ → List ℕ) → (path : List ℕ) → (k : ℕ) → Option ValueId → List ℕ
result_name name path k None = path ++ (256 + k) ∷ []
result_name name path k (Some v) = path ++ name v.0

-- those of instructions from the number k on
abbrev pub result_names : (name : ℕ → List ℕ) → (path : List ℕ) → (k : ℕ) → List TableLine → List (List ℕ)
result_names name path k [] = []
result_names name path k (l ∷ more) = result_name name path k l.result ∷ result_names name path (k + 1) more

-- the names of the results of a copy of the unit u
abbrev pub unit_results : Arena → (u : ℕ) → (path : List ℕ) → List (List ℕ)
unit_results a u path = result_names (value_name_at a u) path 0 (table_at a u).lines

-- those of the copy for a call
abbrev pub call_names : (names : UnitId → List ℕ → List (List ℕ)) → (path : List ℕ) → Option UnitId → List (List ℕ)
call_names names path None = []
call_names names path (Some f) = names f path

-- those of the copies for the calls of a block, from line k on
abbrev pub insts_names : (names : UnitId → List ℕ → List (List ℕ)) → Arena → (u : ℕ) → (path label : List ℕ) → (k : ℕ) → List InstId → List (List ℕ)
insts_names names a u path label k [] = []
insts_names names a u path label k (i ∷ more) =
    call_names names (path ++ label ++ (256 + k) ∷ []) (callee_of a (line_of a u i).inst) ++ insts_names names a u path label (k + 1) more

abbrev pub blocks_names : (names : UnitId → List ℕ → List (List ℕ)) → Arena → (u : ℕ) → (path : List ℕ) → List BlockId → List (List ℕ)
blocks_names names a u path [] = []
blocks_names names a u path (b ∷ more) = insts_names names a u path (label_name_at a u b.0) 0 (insts_at (table_at a u) b.0) ++ blocks_names names a u path more

-- those of a copy of a function, in which at most `depth` calls nest less one, and of all copies in it
unfoldable pub copy_names : (depth : ℕ) → Arena → UnitId → (path : List ℕ) → List (List ℕ)
copy_names zero a f path = []
copy_names (suc k) a f path = unit_results a f.0 path ++ blocks_names (copy_names k a) a f.0 path (blocks_at a f.0)

-- these names stand for numbers from n on
abbrev pub NamedFrom : (name : ℕ → List ℕ) → (n : ℕ) → List (List ℕ) → Type 0
NamedFrom name n [] = Unit {0}
NamedFrom name n (x ∷ more) = (name n ≡ x) × NamedFrom name (n + 1) more

-- a function that is called
pub record IsCallable (a : Arena) (fs : List UnitText) (f : UnitId) : Type 0 where
  pub within : f.0 < unit_count a
  pub blocks : HasBlocks (kind_at a f.0)
  pub named : function_named (unit_name_at a f.0) fs ≡ Some (unit_text_at a f.0)

-- the unit u defines the value v
abbrev pub is_known : Arena → (u v : ℕ) → Bool
is_known a u v = defines_value (value_name_at a u v) (unit_text_at a u)

-- a call has as many arguments as the function f has parameters
abbrev pub HasArgsFor : Arena → Inst → UnitId → Type 0
HasArgsFor a (inst.Call h ty args) f = length args ≡ length (args_at a f.0)
HasArgsFor a _ f = Unit {0}

-- an instruction of a function or a process: it may stand there, the values that it uses are defined, the labels that it names are those of blocks, and what it calls is a function of so many parameters
pub record InstIsRight (a : Arena) (fs : List UnitText) (u : ℕ) (i : Inst) : Type 0 where
  pub code : IsCode (is_function (kind_text (kind_at a u))) i
  pub values : Each (IsKnown (is_known a u)) (values_used i)
  pub blocks : Each (IsOneOfBlocks (blocks_at a u)) (blocks_named i)
  pub called : (f : UnitId) → callee_of a i ≡ Some f → IsCallable a fs f
  pub args : (f : UnitId) → callee_of a i ≡ Some f → HasArgsFor a i f

-- each instruction of a block
abbrev pub BlockIsRight : Arena → List UnitText → (u : ℕ) → BlockId → Type 0
BlockIsRight a fs u b = Each (λ (i : InstId). InstIsRight a fs u (line_of a u i).inst) (insts_at (table_at a u) b.0)

-- each instruction of each function and process is right
abbrev pub UnitsAreRight : Arena → List UnitText → Type 0
UnitsAreRight a fs = (u : ℕ) → u < unit_count a → HasBlocks (kind_at a u) → Each (BlockIsRight a fs u) (blocks_at a u)
