-- The flat text of a process: every call of a function is replaced in place.
use Rattle.std.specs.Prelude.{ℕ, zero, suc, ◌+◌, List, [], ◌∷◌, ◌++◌, length, map, sum_by, nat_lt, Bool, true, false, Option, Some, None}
use Rattle.std.specs.List.{flat_map}
use Rattle.lh_types.specs.Types.{TypeTree}
use Rattle.lh_unit_names.specs.declared.name.UnitName.{UnitName}
use Rattle.lh_unit.specs.declared.inst.UnitKind.TheVariants as kind
use Rattle.lh_unit.specs.Contents.{EdgeText, InstText, call_text, phi_text, br_text, ret_text, LineText, BlockText, ArgText, UnitText, ItemText}
use Rattle.lh_unit.specs.Named.{label_or}
use Rattle.lh_unit.specs.Activation.{functions}
use Rattle.lh_flat.specs.Calls.{callees, recursion_from, nest_deeper}
use Rattle.lh_flat.specs.Copies.{Copy, top_copy, call_path, opened, first_piece, last_piece, copied_line}

-- the result of a call that was replaced: the value that the `ret` gave from whose block control came
pub record MergeText : Type 0 where
  pub value : List ℕ
  pub ty : TypeTree
  pub edges : List EdgeText

-- a block of a flat text; a merge counts as no instruction
pub record FlatBlockText : Type 0 where
  pub label : List ℕ
  pub merge : Option MergeText
  pub lines : List LineText

pub record FlatText : Type 0 where
  pub args : List ArgText
  pub blocks : List FlatBlockText

-- one more edge, where the instruction gives a value back
abbrev pub edge_if_given : Copy → (block : List ℕ) → InstText → List EdgeText → List EdgeText
edge_if_given d block (ret_text (Some o)) more = record { value = d.value o.value; block = block } ∷ more
edge_if_given d block _ more = more

-- the values that these lines give back, in this block of the flat text
abbrev pub given_in : Copy → (block : List ℕ) → List LineText → List EdgeText
given_in d block [] = []
given_in d block (l ∷ more) = edge_if_given d block l.inst (given_in d block more)

-- the values that a copy gives back, each from the last piece of its block
abbrev pub given_by : List UnitText → Copy → List EdgeText
given_by functions d = flat_map (λ b. given_in d (last_piece functions d b) b.lines) d.unit.blocks

-- the merge of what the copy d gives back, where the call has a result with a name
abbrev pub merge_of : List UnitText → (c d : Copy) → InstText → Option (List ℕ) → Option MergeText
merge_of functions c d (call_text f ty args) (Some n) = Some (record { value = c.value n; ty = ty; edges = given_by functions d })
merge_of functions c d _ _ = None

-- the label of the first of these blocks
abbrev pub first_label : List BlockText → List ℕ
first_label [] = []
first_label (b ∷ more) = label_or b.label

-- the branch to the entry of a copy
abbrev pub branch_into : Copy → LineText
branch_into d = record { result = None; inst = br_text (first_piece d (first_label d.unit.blocks)) }

-- what becomes of lines of a block: the rest of the piece in which they begin, and what stands after it
pub record Pieces : Type 0 where
  pub rest : List LineText
  pub more : List FlatBlockText

-- A line before the others. A line that is replaced ends its piece by a branch to the copy; the copy's blocks follow, and then the piece that goes on after the call.
abbrev pub with_line : (copy_of : Copy → List FlatBlockText) → List UnitText → Copy → LineText → Option Copy → Pieces → Pieces
with_line copy_of functions c l None p = record { rest = copied_line functions c l ∷ p.rest; more = p.more }
with_line copy_of functions c l (Some d) p = record {
  rest = branch_into d ∷ [];
  more = copy_of d ++ record { label = d.path; merge = merge_of functions c d l.inst l.result; lines = p.rest } ∷ p.more;
}

-- the lines of a block from line k on
abbrev pub pieces_from : (copy_of : Copy → List FlatBlockText) → List UnitText → Copy → (label : List ℕ) → (k : ℕ) → List LineText → Pieces
pieces_from copy_of functions c label k [] = record { rest = []; more = [] }
pieces_from copy_of functions c label k (l ∷ more) =
    with_line copy_of functions c l (opened functions c (call_path c label k) l.inst) (pieces_from copy_of functions c label (k + 1) more)

-- the first piece of a block, and what stands after it
abbrev pub in_order : Copy → (label : List ℕ) → Pieces → List FlatBlockText
in_order c label p = record { label = first_piece c label; merge = None; lines = p.rest } ∷ p.more

abbrev pub flat_block : (copy_of : Copy → List FlatBlockText) → List UnitText → Copy → BlockText → List FlatBlockText
flat_block copy_of functions c b = in_order c (label_or b.label) (pieces_from copy_of functions c (label_or b.label) 0 b.lines)

-- The blocks of a copy, with the calls in it replaced: a recursion on the tree of calls, in which at most `depth` units nest.
abbrev pub flat_copy : (depth : ℕ) → List UnitText → Copy → List FlatBlockText
flat_copy zero functions c = []
flat_copy (suc k) functions c = flat_map (flat_block (flat_copy k functions) functions c) c.unit.blocks

-- at most this many calls nest
abbrev pub max_nested : ℕ
max_nested = 64

-- a flat text has at most this many instructions
abbrev pub max_flat : ℕ
max_flat = 65536

-- how many instructions these blocks have
abbrev pub inst_count : List FlatBlockText → ℕ
inst_count blocks = sum_by (λ (b : FlatBlockText). length b.lines) blocks

-- the text of a process with every call replaced; the process itself is one of the units that nest
abbrev pub text_of : List UnitText → UnitText → FlatText
text_of functions u = record { args = u.args; blocks = flat_copy (suc max_nested) functions (top_copy u) }

-- why a process has no flat text
pub data FlatRefusal : Type 0 where
  recursive_call : UnitName → FlatRefusal
  call_too_deep : FlatRefusal
  flat_too_large : FlatRefusal

-- a flat text, or why there is none
pub data Flattened : Type 0 where
  refused : FlatRefusal → Flattened
  flattened : FlatText → Flattened

-- the first of the refusals, in their order
abbrev pub flattened_by : (recursive : Option UnitName) → (deep large : Bool) → FlatText → Flattened
flattened_by (Some f) deep large t = refused (recursive_call f)
flattened_by None true large t = refused call_too_deep
flattened_by None false true t = refused flat_too_large
flattened_by None false false t = flattened t

-- the same, over the functions of a module
unfoldable pub flat_in : List UnitText → UnitText → Flattened
flat_in functions u =
    flattened_by (recursion_from (suc (length functions)) functions [] (callees u)) (nest_deeper max_nested functions (callees u))
    (nat_lt max_flat (inst_count (text_of functions u).blocks)) (text_of functions u)

-- The flat text of a process of a module, or the first reason why it has none.
abbrev pub flat_of : List ItemText → UnitText → Flattened
flat_of items u = flat_in (functions items) u

-- a merge as the `phi` that it stands for
abbrev pub with_merge : Option MergeText → List LineText → List LineText
with_merge None lines = lines
with_merge (Some m) lines = record { result = Some m.value; inst = phi_text m.ty m.edges } ∷ lines

-- a block of a flat text as one of a process
abbrev pub as_block : FlatBlockText → BlockText
as_block b = record { label = Some b.label; lines = with_merge b.merge b.lines }

-- A flat text as a process of its own: what runs it runs the process, with no call open. A merge is a `phi` there.
abbrev pub flat_unit : UnitName → FlatText → UnitText
flat_unit name t = record {
  kind = kind.Proc;
  name = name;
  args = t.args;
  result = None;
  blocks = map as_block t.blocks;
}
