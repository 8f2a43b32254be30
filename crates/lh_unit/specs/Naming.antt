-- The text of a unit: names in place of ids.
use Rattle.std.specs.Prelude.{ℕ, List, [], map, slice_index_or, Option, Some, None}
use Rattle.lh_unit.specs.Contents.{InstText, OperandText, TriggerText, EdgeText, LineText, BlockText, ArgText, UnitText, const_text, pure_text, var_text, ld_text, st_text, sig_text, prb_text, drv_text, reg_text, child_text, call_text, phi_text, br_text, branch_text, wait_text, halt_text, ret_text}
use Rattle.lh_unit.specs.Table.{Table, line_at, insts_at}
use Rattle.lh_unit_names.specs.declared.name.UnitName.{UnitName}
use Rattle.lh_unit.specs.declared.inst.UnitKind.{UnitKind}
use Rattle.lh_unit.specs.declared.inst.UnitKind.TheVariants as kind
use Rattle.lh_unit.specs.declared.inst.BlockId.{BlockId}
use Rattle.lh_unit.specs.declared.inst.ValueId.{ValueId}
use Rattle.lh_unit.specs.declared.inst.Typed.{Typed}
use Rattle.lh_unit.specs.declared.inst.RegTrigger.{RegTrigger}
use Rattle.lh_unit.specs.declared.inst.PhiEdge.{PhiEdge}
use Rattle.lh_unit.specs.declared.inst.Inst.{Inst}
use Rattle.lh_unit.specs.declared.inst.Inst.TheVariants as inst
use Rattle.lh_unit.specs.declared.inst.Arg.{Arg}
use Rattle.lh_unit.specs.declared.table.TableLine.{TableLine}

-- the names that the ids of one unit stand for
pub record Naming : Type 0 where
  pub unit_name : ℕ → UnitName
  pub value_name : ℕ → List ℕ
  pub label_name : ℕ → List ℕ

-- the names in a unit with this table, in a module with these names of units
abbrev pub naming_of : (ℕ → UnitName) → Table → Naming
naming_of units t = record { unit_name = units; value_name = λ v. slice_index_or t.values v []; label_name = λ b. slice_index_or t.labels b [] }

abbrev pub value_text : Naming → ValueId → List ℕ
value_text f v = f.value_name v.0

abbrev pub maybe_text : Naming → Option ValueId → Option (List ℕ)
maybe_text f None = None
maybe_text f (Some v) = Some (value_text f v)

abbrev pub operand_text : Naming → Typed → OperandText
operand_text f t = record { value = value_text f t.value; ty = t.ty }

abbrev pub trigger_text : Naming → RegTrigger → TriggerText
trigger_text f t = record { value = value_text f t.value; mode = t.mode; trigger = value_text f t.trigger; gate = maybe_text f t.gate; after = maybe_text f t.after }

abbrev pub edge_text : Naming → PhiEdge → EdgeText
edge_text f e = record { value = value_text f e.value; block = f.label_name e.block.0 }

abbrev pub inst_text : Naming → Inst → InstText
inst_text f (inst.Const v) = const_text v
inst_text f (inst.Pure op args) = pure_text op (map (operand_text f) args)
inst_text f (inst.Var t) = var_text (operand_text f t)
inst_text f (inst.Ld t) = ld_text (operand_text f t)
inst_text f (inst.St to value) = st_text (operand_text f to) (value_text f value)
inst_text f (inst.Sig t) = sig_text (operand_text f t)
inst_text f (inst.Prb t) = prb_text (operand_text f t)
inst_text f (inst.Drv to value after cond) = drv_text (operand_text f to) (value_text f value) (value_text f after) (maybe_text f cond)
inst_text f (inst.Reg to triggers) = reg_text (operand_text f to) (map (trigger_text f) triggers)
inst_text f (inst.Child unit inputs outputs) = child_text (f.unit_name unit.0) (map (operand_text f) inputs) (map (operand_text f) outputs)
inst_text f (inst.Call unit result args) = call_text (f.unit_name unit.0) result (map (operand_text f) args)
inst_text f (inst.Phi ty edges) = phi_text ty (map (edge_text f) edges)
inst_text f (inst.Br to) = br_text (f.label_name to.0)
inst_text f (inst.Branch cond zero one) = branch_text (value_text f cond) (f.label_name zero.0) (f.label_name one.0)
inst_text f (inst.Wait to after signals) = wait_text (f.label_name to.0) (maybe_text f after) (map (value_text f) signals)
inst_text f inst.Halt = halt_text
inst_text f (inst.Ret None) = ret_text None
inst_text f (inst.Ret (Some t)) = ret_text (Some (operand_text f t))

abbrev pub line_text : Naming → TableLine → LineText
line_text f l = record { result = maybe_text f l.result; inst = inst_text f l.inst }

abbrev pub arg_text : Naming → Arg → ArgText
arg_text f a = record { name = value_text f a.value; ty = a.ty; output = a.output }

-- an entity's block has no label
abbrev pub label_text : Naming → Option UnitKind → BlockId → Option (List ℕ)
label_text f None b = Some (f.label_name b.0)
label_text f (Some kind.Func) b = Some (f.label_name b.0)
label_text f (Some kind.Proc) b = Some (f.label_name b.0)
label_text f (Some kind.Entity) b = None

abbrev pub block_text : Naming → Table → BlockId → BlockText
block_text f t b = record { label = label_text f t.kind b; lines = map (λ i. line_text f (line_at t i.0)) (insts_at t b.0) }

-- the kind of a unit that is begun
abbrev pub kind_text : Option UnitKind → UnitKind
kind_text None = kind.Func
kind_text (Some k) = k

abbrev pub table_text : Naming → UnitName → Table → UnitText
table_text f n t = record { kind = kind_text t.kind; name = n; args = map (arg_text f) t.args; result = t.result; blocks = map (block_text f t) t.blocks }
