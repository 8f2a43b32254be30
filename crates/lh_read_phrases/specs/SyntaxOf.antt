-- What the parts of a line that the program holds stand for.
use Rattle.std.specs.Prelude.{List, ◌++◌, map, Option, Some, None}
use Rattle.lh_types.specs.ValueOf.{datum_of}
use Rattle.lh_unit.specs.Contents.{ArgText, OperandText, TriggerText, EdgeText, InstText, const_text, pure_text, var_text, ld_text, st_text, sig_text, prb_text, drv_text, reg_text, child_text, call_text, phi_text, br_text, branch_text, wait_text, halt_text, ret_text}
use Rattle.lh_unit.specs.Spells.{input_of, output_of, LineItem, empty_item, header_item, declare_item, label_item, inst_item, close_item}
use Rattle.lh_unit.specs.declared.inst.UnitKind.TheVariants as kind
use Rattle.lh_unit.specs.declared.inst.Declare.TheVariants as declare
use Rattle.lh_read_pieces.specs.LexemeOf.{unit_name_of}
use Rattle.lh_read_phrases.specs.declared.syntax.Operand.{Operand}
use Rattle.lh_read_phrases.specs.declared.syntax.TriggerSyntax.{TriggerSyntax}
use Rattle.lh_read_phrases.specs.declared.syntax.EdgeSyntax.{EdgeSyntax}
use Rattle.lh_read_phrases.specs.declared.syntax.Ports.{Ports}
use Rattle.lh_read_phrases.specs.declared.syntax.InstSyntax.{InstSyntax}
use Rattle.lh_read_phrases.specs.declared.syntax.InstSyntax.TheVariants as inst
use Rattle.lh_read_phrases.specs.declared.syntax.LineSyntax.{LineSyntax}
use Rattle.lh_read_phrases.specs.declared.syntax.LineSyntax.TheVariants as line

abbrev pub operand_of : Operand → OperandText
operand_of o = record { value = o.value; ty = o.ty }

abbrev pub operands_of : List Operand → List OperandText
operands_of os = map operand_of os

abbrev pub maybe_operand_of : Option Operand → Option OperandText
maybe_operand_of None = None
maybe_operand_of (Some o) = Some (operand_of o)

abbrev pub trigger_of : TriggerSyntax → TriggerText
trigger_of t = record { value = t.value; mode = t.mode; trigger = t.trigger; gate = t.gate; after = t.after }

abbrev pub edge_of : EdgeSyntax → EdgeText
edge_of e = record { value = e.value; block = e.block }

abbrev pub inst_of : InstSyntax → InstText
inst_of (inst.Const v) = const_text (datum_of v)
inst_of (inst.Pure o args) = pure_text o (operands_of args)
inst_of (inst.Var a) = var_text (operand_of a)
inst_of (inst.Ld p) = ld_text (operand_of p)
inst_of (inst.St p v) = st_text (operand_of p) v
inst_of (inst.Sig a) = sig_text (operand_of a)
inst_of (inst.Prb s) = prb_text (operand_of s)
inst_of (inst.Drv s v d c) = drv_text (operand_of s) v d c
inst_of (inst.Reg q ts) = reg_text (operand_of q) (map trigger_of ts)
inst_of (inst.Child u ins outs) = child_text (unit_name_of u) (operands_of ins) (operands_of outs)
inst_of (inst.Call f r args) = call_text (unit_name_of f) r (operands_of args)
inst_of (inst.Phi t edges) = phi_text t (map edge_of edges)
inst_of (inst.Br b) = br_text b
inst_of (inst.Branch c f t) = branch_text c f t
inst_of (inst.Wait b d ss) = wait_text b d ss
inst_of inst.Halt = halt_text
inst_of (inst.Ret v) = ret_text (maybe_operand_of v)

abbrev pub ports_of : Ports → List ArgText
ports_of p = map input_of p.inputs ++ map output_of p.outputs

abbrev pub item_of : LineSyntax → LineItem
item_of line.Empty = empty_item
item_of (line.Func n ps r) = header_item kind.Func (unit_name_of n) (map input_of ps) (Some r)
item_of (line.Proc n ps) = header_item kind.Proc (unit_name_of n) (ports_of ps) None
item_of (line.Entity n ps) = header_item kind.Entity (unit_name_of n) (ports_of ps) None
item_of (line.DeclareFunc n ps r) = declare_item (declare.Func (unit_name_of n) ps r)
item_of (line.DeclareUnit n ins outs) = declare_item (declare.Unit (unit_name_of n) ins outs)
item_of (line.Label n) = label_item n
item_of (line.Inst r i) = inst_item (record { result = r; inst = inst_of i })
item_of line.Close = close_item
