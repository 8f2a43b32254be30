-- An instruction with other ids: of each value, and of the first and the last piece of each block.
use Rattle.std.specs.Prelude.{ℕ, length, map, slice_index_or}
use Rattle.std.specs.Option.{option_map}
use Rattle.lh_unit.specs.Within.{Sizes}
use Rattle.lh_unit.specs.declared.inst.BlockId.{BlockId}
use Rattle.lh_unit.specs.declared.inst.ValueId.{ValueId}
use Rattle.lh_unit.specs.declared.inst.Typed.{Typed}
use Rattle.lh_unit.specs.declared.inst.PhiEdge.{PhiEdge}
use Rattle.lh_unit.specs.declared.inst.Inst.{Inst}
use Rattle.lh_unit.specs.declared.inst.Inst.TheVariants as inst
use Rattle.lh_flat.specs.declared.rename.Span.{Span}
use Rattle.lh_flat.specs.declared.rename.Renaming.{Renaming}

-- a block that stands in one piece, at the first place
abbrev pub no_span : Span
no_span = record { first = record { 0 = 0 }; last = record { 0 = 0 } }

-- the new id of a value
abbrev pub value_in : Renaming → ValueId → ValueId
value_in r v = slice_index_or r.values v.0 v

-- the first and the last piece of a block
abbrev pub span_in : Renaming → BlockId → Span
span_in r b = slice_index_or r.spans b.0 no_span

abbrev pub first_in : Renaming → BlockId → BlockId
first_in r b = (span_in r b).first

abbrev pub last_in : Renaming → BlockId → BlockId
last_in r b = (span_in r b).last

abbrev pub operand_in : Renaming → Typed → Typed
operand_in r o = record { value = value_in r o.value; ty = o.ty }

-- a `phi` that names a block means its last piece
abbrev pub edge_in : Renaming → PhiEdge → PhiEdge
edge_in r e = record { value = value_in r e.value; block = last_in r e.block }

-- An instruction in a copy: a branch or `wait` leads to the first piece of a block, and `ret` to what follows the call.
abbrev pub renamed : Renaming → Inst → Inst
renamed r (inst.Const v) = inst.Const v
renamed r (inst.Pure op args) = inst.Pure op (map (operand_in r) args)
renamed r (inst.Var t) = inst.Var (operand_in r t)
renamed r (inst.Ld t) = inst.Ld (operand_in r t)
renamed r (inst.St to value) = inst.St (operand_in r to) (value_in r value)
renamed r (inst.Sig t) = inst.Sig t
renamed r (inst.Prb t) = inst.Prb (operand_in r t)
renamed r (inst.Drv to value after cond) = inst.Drv (operand_in r to) (value_in r value) (value_in r after) (option_map (value_in r) cond)
renamed r (inst.Reg to triggers) = inst.Reg to triggers
renamed r (inst.Child unit inputs outputs) = inst.Child unit inputs outputs
renamed r (inst.Call unit ty args) = inst.Call unit ty (map (operand_in r) args)
renamed r (inst.Phi ty edges) = inst.Phi ty (map (edge_in r) edges)
renamed r (inst.Br to) = inst.Br (first_in r to)
renamed r (inst.Branch cond zero one) = inst.Branch (value_in r cond) (first_in r zero) (first_in r one)
renamed r (inst.Wait to after signals) = inst.Wait (first_in r to) (option_map (value_in r) after) (map (value_in r) signals)
renamed r inst.Halt = inst.Halt
renamed r (inst.Ret o) = inst.Br r.back

-- how many values and labels have new ids, in a module with this many units
abbrev pub sizes_in : (units : ℕ) → Renaming → Sizes
sizes_in units r = record { units = units; values = length r.values; labels = length r.spans }

-- a module has fewer units than this
abbrev pub max_units : ℕ
max_units = 4294967296
