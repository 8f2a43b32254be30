-- A flat text while it is built, by ids: how much room copies take, their new ids, and what is added to the text.
use Rattle.std.specs.Prelude.{ℕ, zero, suc, ◌+◌, nat_eq, if◌then◌else◌, List, [], ◌∷◌, ◌++◌, length, map, Option, Some, None, unwrap_or, slice_set, replicate}
use Rattle.std.specs.List.{range_with_len}
use Rattle.std.specs.Option.{option_map}
use Rattle.lh_unit.specs.Table.{Table, line_at, insts_at, is_result}
use Rattle.lh_unit.specs.Arena.{Arena, table_at, blocks_at, inst_count, label_count}
use Rattle.lh_unit.specs.declared.inst.UnitId.{UnitId}
use Rattle.lh_unit.specs.declared.inst.BlockId.{BlockId}
use Rattle.lh_unit.specs.declared.inst.InstId.{InstId}
use Rattle.lh_unit.specs.declared.inst.ValueId.{ValueId}
use Rattle.lh_unit.specs.declared.inst.Typed.{Typed}
use Rattle.lh_unit.specs.declared.inst.Arg.{Arg}
use Rattle.lh_unit.specs.declared.inst.Inst.{Inst}
use Rattle.lh_unit.specs.declared.inst.Inst.TheVariants as inst
use Rattle.lh_unit.specs.declared.table.TableLine.{TableLine}
use Rattle.lh_flat.specs.declared.flat.MergeEdge.{MergeEdge}
use Rattle.lh_flat.specs.declared.flat.Merge.{Merge}
use Rattle.lh_flat.specs.declared.flat.FlatInst.{FlatInst}
use Rattle.lh_flat.specs.declared.flat.FlatBlock.{FlatBlock}
use Rattle.lh_flat.specs.declared.rename.Span.{Span}
use Rattle.lh_flat.specs.declared.rename.Renaming.{Renaming}
use Rattle.lh_flat.specs.declared.build.FlatBuilder.{FlatBuilder}
use Rattle.lh_flat.specs.Graph.{callee_of}
use Rattle.lh_flat.specs.Renames.{no_span, value_in, last_in, renamed}

-- the instruction i of the unit u, with its result
abbrev pub line_of : Arena → (u : ℕ) → InstId → TableLine
line_of a u i = line_at (table_at a u) i.0

-- how many blocks the calls of these instructions add to their own
abbrev pub insts_room : (room : Option UnitId → ℕ) → Arena → (u : ℕ) → List InstId → ℕ
insts_room room a u [] = 0
insts_room room a u (i ∷ more) = room (callee_of a (line_of a u i).inst) + insts_room room a u more

-- into how many pieces a block is cut, with the copies between them
abbrev pub block_room : (room : Option UnitId → ℕ) → Arena → (u : ℕ) → BlockId → ℕ
block_room room a u b = insts_room room a u (insts_at (table_at a u) b.0) + 1

abbrev pub blocks_room : (room : Option UnitId → ℕ) → Arena → (u : ℕ) → List BlockId → ℕ
blocks_room room a u [] = 0
blocks_room room a u (b ∷ more) = block_room room a u b + blocks_room room a u more

-- how many blocks a copy of the unit u has
abbrev pub unit_room : (room : Option UnitId → ℕ) → Arena → (u : ℕ) → ℕ
unit_room room a u = blocks_room room a u (blocks_at a u)

-- how many blocks a call adds: those of the copy, and the piece that goes on after it; at most `depth` calls nest
unfoldable pub call_room : (depth : ℕ) → Arena → Option UnitId → ℕ
call_room depth a None = 0
call_room zero a (Some f) = 0
call_room (suc k) a (Some f) = unit_room (call_room k a) a f.0 + 1

-- a block of which the first piece stands at place `at`
abbrev pub span_at : (at cuts : ℕ) → Span
span_at at cuts = record { first = record { 0 = at }; last = record { 0 = at + cuts } }

-- the pieces of these blocks, the first of them at place `at`, set among others by the ids of the blocks
abbrev pub spans_with : (room : Option UnitId → ℕ) → Arena → (u at : ℕ) → List BlockId → List Span → List Span
spans_with room a u at [] spans = spans
spans_with room a u at (b ∷ more) spans =
    spans_with room a u (at + block_room room a u b) more (slice_set spans b.0 (span_at at (insts_room room a u (insts_at (table_at a u) b.0))))

-- the pieces of all blocks of a unit
abbrev pub spans_of : (room : Option UnitId → ℕ) → Arena → (u at : ℕ) → List Span
spans_of room a u at = spans_with room a u at (blocks_at a u) (replicate (label_count a u) no_span)

-- the ids of a process are its own
abbrev pub own_ids : (count : ℕ) → List ValueId
own_ids count = map (λ k. record { 0 = k }) (range_with_len 0 count)

-- the argument of the parameter that is the value k, if there is one
abbrev pub argument_of : List Arg → (args : List ValueId) → (k : ℕ) → Option ValueId
argument_of [] args k = None
argument_of (p ∷ more) [] k = None
argument_of (p ∷ more) (x ∷ args) k = if nat_eq p.value.0 k then Some x else argument_of more args k

-- the number of the instruction that gives the value k, where the first of these has the number `from`
abbrev pub result_id : (from : ℕ) → List TableLine → (k : ℕ) → ℕ
result_id from [] k = 0
result_id from (l ∷ more) k = if is_result l.result k then from else result_id (from + 1) more k

-- the id of the value k in a copy of a function: that of its argument, or a new one for each instruction
abbrev pub new_id : Table → (args : List ValueId) → (from k : ℕ) → ValueId
new_id t args from k = unwrap_or (argument_of t.args args k) (record { 0 = result_id from t.lines k })

abbrev pub new_ids : Table → (args : List ValueId) → (from : ℕ) → List ValueId
new_ids t args from = map (new_id t args from) (range_with_len 0 (length t.values))

-- the ids of a copy of the unit u, whose first block stands at place `at`
abbrev pub ids_for : (room : Option UnitId → ℕ) → Arena → (u : ℕ) → (values : List ValueId) → (at back : ℕ) → Renaming
ids_for room a u values at back = record { values = values; spans = spans_of room a u at; back = record { 0 = back } }

-- the arguments of a call
abbrev pub call_args : Renaming → Inst → List ValueId
call_args r (inst.Call f ty args) = map (λ (o : Typed). value_in r o.value) args
call_args r _ = []

-- what an instruction gives back, if it does
abbrev pub edge_given : Renaming → BlockId → Inst → List MergeEdge → List MergeEdge
edge_given r b (inst.Ret (Some o)) more = record { value = value_in r o.value; block = last_in r b } ∷ more
edge_given r b _ more = more

abbrev pub insts_give : Arena → (u : ℕ) → Renaming → BlockId → List InstId → List MergeEdge
insts_give a u r b [] = []
insts_give a u r b (i ∷ more) = edge_given r b (line_of a u i).inst (insts_give a u r b more)

-- what a copy gives back, block after block
abbrev pub blocks_give : Arena → (u : ℕ) → Renaming → List BlockId → List MergeEdge
blocks_give a u r [] = []
blocks_give a u r (b ∷ more) = insts_give a u r b (insts_at (table_at a u) b.0) ++ blocks_give a u r more

-- the merge after a call, where its result has a name
abbrev pub merge_in : Renaming → List MergeEdge → Inst → Option ValueId → Option Merge
merge_in r edges (inst.Call f ty args) (Some v) = Some (record { value = value_in r v; ty = ty; edges = edges })
merge_in r edges _ _ = None

-- a block in which nothing stands yet
abbrev pub no_block : FlatBlock
no_block = record { merge = None; insts = [] }

-- a text in which nothing stands yet, where this many ids of values are given
abbrev pub no_text : ℕ → FlatBuilder
no_text n = record { blocks = []; current = no_block; values = n }

-- the open block is complete
abbrev pub put : FlatBuilder → FlatBuilder
put t = record { blocks = t.blocks ++ t.current ∷ []; current = no_block; values = t.values }

-- one more instruction in the open block
abbrev pub taken : FlatInst → FlatBuilder → FlatBuilder
taken i t = record { blocks = t.blocks; current = record { merge = t.current.merge; insts = t.current.insts ++ i ∷ [] }; values = t.values }

-- as many more ids of values
abbrev pub with_values : ℕ → FlatBuilder → FlatBuilder
with_values n t = record { blocks = t.blocks; current = t.current; values = t.values + n }

-- what the open block begins with
abbrev pub merging : Option Merge → FlatBuilder → FlatBuilder
merging m t = record { blocks = t.blocks; current = record { merge = m; insts = t.current.insts }; values = t.values }

-- an instruction in a copy
abbrev pub line_in : Renaming → TableLine → FlatInst
line_in r l = record { result = option_map (value_in r) l.result; inst = renamed r l.inst }

-- a branch
abbrev pub branch_to : ℕ → FlatInst
branch_to k = record { result = None; inst = inst.Br (record { 0 = k }) }

-- one instruction of a copy is added, or the copy of the function that it calls
abbrev pub line_added : (called : UnitId → Renaming → TableLine → FlatBuilder → FlatBuilder) → Renaming → TableLine → Option UnitId → FlatBuilder → FlatBuilder
line_added called r l None t = taken (line_in r l) t
line_added called r l (Some f) t = called f r l t

abbrev pub insts_added : (called : UnitId → Renaming → TableLine → FlatBuilder → FlatBuilder) → Arena → (u : ℕ) → Renaming → List InstId → FlatBuilder → FlatBuilder
insts_added called a u r [] t = t
insts_added called a u r (i ∷ more) t = insts_added called a u r more (line_added called r (line_of a u i) (callee_of a (line_of a u i).inst) t)

-- the pieces of a block are added, with the copies between them
abbrev pub block_added : (called : UnitId → Renaming → TableLine → FlatBuilder → FlatBuilder) → Arena → (u : ℕ) → Renaming → BlockId → FlatBuilder → FlatBuilder
block_added called a u r b t = put (insts_added called a u r (insts_at (table_at a u) b.0) t)

abbrev pub blocks_added : (called : UnitId → Renaming → TableLine → FlatBuilder → FlatBuilder) → Arena → (u : ℕ) → Renaming → List BlockId → FlatBuilder → FlatBuilder
blocks_added called a u r [] t = t
blocks_added called a u r (b ∷ more) t = blocks_added called a u r more (block_added called a u r b t)

-- the new ids of the copy for a call: its entry stands behind the open block, and it goes back to the block behind its own
abbrev pub call_ids : (room : Option UnitId → ℕ) → Arena → UnitId → Renaming → TableLine → FlatBuilder → Renaming
call_ids room a f r l t = ids_for room a f.0 (new_ids (table_at a f.0) (call_args r l.inst) t.values) (length t.blocks + 1) (length t.blocks + 1 + unit_room room a f.0)

-- the open block leads into the copy, and its results have ids
abbrev pub entering : Arena → UnitId → FlatBuilder → FlatBuilder
entering a f t = with_values (inst_count a f.0) (put (taken (branch_to (length t.blocks + 1)) t))

-- A call is replaced by a copy, in which at most `depth` calls nest less one: the open block ends, the copy's blocks follow, and a block is open that begins with what they give back.
unfoldable pub call_added : (depth : ℕ) → Arena → UnitId → Renaming → TableLine → FlatBuilder → FlatBuilder
call_added zero a f r l t = t
call_added (suc k) a f r l t =
    merging (merge_in r (blocks_give a f.0 (call_ids (call_room k a) a f r l t) (blocks_at a f.0)) l.inst l.result)
    (blocks_added (call_added k a) a f.0 (call_ids (call_room k a) a f r l t) (blocks_at a f.0) (entering a f t))

-- the blocks of a unit are added, in which at most `depth` calls nest
abbrev pub unit_added : (depth : ℕ) → Arena → (u : ℕ) → Renaming → FlatBuilder → FlatBuilder
unit_added depth a u r t = blocks_added (call_added depth a) a u r (blocks_at a u) t
