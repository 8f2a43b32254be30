-- The instructions, behind `%r = ` where that stands.
use Rattle.std.specs.Prelude.{ℕ, nat_eq, List, ◌∷◌, length, map, Option, Some, None, if◌then◌else◌, codes}
use Rattle.lh_types.specs.Types.{TypeTree, int_type, time_type}
use Rattle.lh_types.specs.Values.{Datum, int_value, time_value}
use Rattle.lh_unit.specs.Contents.{InstText, const_text, var_text, ld_text, st_text, sig_text, prb_text, drv_text, reg_text, child_text, call_text, phi_text, br_text, branch_text, wait_text, halt_text, ret_text}
use Rattle.lh_unit.specs.Lexemes.{Lexeme, word, punct}
use Rattle.lh_read_pieces.specs.Pieces.{◌>>=◌, word_at, local_at, unit_name_at, punct_at, arrow_at, end_at, parts_at, list_at, behind_at}
use Rattle.lh_read_pieces.specs.Numbers.{integer_at}
use Rattle.lh_read_pieces.specs.Times.{time_at}
use Rattle.lh_read_pieces.specs.Types.{type_at}
use Rattle.lh_read_phrases.specs.SyntaxOf.{operand_of, operands_of, trigger_of, edge_of}
use Rattle.lh_read_phrases.specs.Words.{form_of}
use Rattle.lh_read_phrases.specs.Operands.{typed_at, free_at, maybe_at, trigger_at, edge_at}
use Rattle.lh_read_phrases.specs.Operations.{word_op_at, bracket_at, tuple_at}
use Rattle.lh_read_phrases.specs.declared.syntax.Operand.{Operand}
use Rattle.lh_read_phrases.specs.declared.words.Form.{Form}
use Rattle.lh_read_phrases.specs.declared.words.Form.TheVariants as form

-- the constant of this type that ends the line
abbrev pub constant_at : TypeTree → List Lexeme → Option Datum
constant_at (int_type n) ts = do
  b ← integer_at n ts
  Some (int_value n b)
constant_at time_type ts = do
  d ← time_at ts
  Some (time_value d)
constant_at _ ts = None

-- behind `const`
unfoldable pub const_at : List Lexeme → Option InstText
const_at ts = do
  t ← type_at ts
  d ← constant_at t.0 t.1
  Some (const_text d)

-- `T %a` at the end of the line
unfoldable pub last_typed_at : List Lexeme → Option Operand
last_typed_at ts = do
  o ← typed_at ts
  _ ← end_at o.1
  Some o.0

-- `%a` at the end of the line
unfoldable pub last_local_at : List Lexeme → Option (List ℕ)
last_local_at ts = do
  n ← local_at ts
  _ ← end_at n.1
  Some n.0

-- behind `var`
unfoldable pub var_at : List Lexeme → Option InstText
var_at ts = do
  o ← last_typed_at ts
  Some (var_text (operand_of o))

-- behind `ld`
unfoldable pub ld_at : List Lexeme → Option InstText
ld_at ts = do
  o ← last_typed_at ts
  Some (ld_text (operand_of o))

-- behind `sig`
unfoldable pub sig_at : List Lexeme → Option InstText
sig_at ts = do
  o ← last_typed_at ts
  Some (sig_text (operand_of o))

-- behind `prb`
unfoldable pub prb_at : List Lexeme → Option InstText
prb_at ts = do
  o ← last_typed_at ts
  Some (prb_text (operand_of o))

-- `T %a,`
unfoldable pub target_at : List Lexeme → Option (Operand × List Lexeme)
target_at ts = do
  o ← typed_at ts
  us ← punct_at 44 o.1
  Some (o.0, us)

-- behind `st`
unfoldable pub st_at : List Lexeme → Option InstText
st_at ts = do
  o ← target_at ts
  v ← last_local_at o.1
  Some (st_text (operand_of o.0) v)

-- `%d if %c`, where `if %c` may be absent
unfoldable pub after_at : List Lexeme → Option (List ℕ × Option (List ℕ))
after_at ts = do
  d ← local_at ts
  c ← maybe_at (codes "if") d.1
  _ ← end_at c.1
  Some (d.0, c.0)

-- `if %c after %d`
unfoldable pub if_after_at : List Lexeme → Option (List ℕ × Option (List ℕ))
if_after_at ts = do
  a ← word_at (codes "if") ts
  c ← local_at a
  b ← word_at (codes "after") c.1
  d ← last_local_at b
  Some (d, Some c.0)

abbrev pub delay_or : List Lexeme → (after comma : Option (List Lexeme)) → Option (List ℕ × Option (List ℕ))
delay_or ts (Some us) o = after_at us
delay_or ts None (Some us) = after_at us
delay_or ts None None = if_after_at ts

-- the delay and the condition of a drive
unfoldable pub delay_at : List Lexeme → Option (List ℕ × Option (List ℕ))
delay_at ts = delay_or ts (word_at (codes "after") ts) (punct_at 44 ts)

-- behind `drv`
unfoldable pub drv_at : List Lexeme → Option InstText
drv_at ts = do
  o ← target_at ts
  v ← local_at o.1
  d ← delay_at v.1
  Some (drv_text (operand_of o.0) v.0 d.0 d.1)

-- behind `reg`
unfoldable pub reg_at : List Lexeme → Option InstText
reg_at ts = do
  o ← target_at ts
  r ← parts_at trigger_at (length o.1) o.1
  _ ← end_at r.1
  Some (reg_text (operand_of o.0) (map trigger_of r.0))

-- operands in parentheses
unfoldable pub operands_at : List Lexeme → Option (List Operand × List Lexeme)
operands_at ts = do
  a ← punct_at 40 ts
  r ← list_at free_at 41 a
  b ← punct_at 41 r.1
  Some (r.0, b)

-- operands in parentheses behind an arrow
unfoldable pub outputs_at : List Lexeme → Option (List Operand × List Lexeme)
outputs_at ts = do
  a ← arrow_at ts
  operands_at a

-- behind `inst`
unfoldable pub child_at : List Lexeme → Option InstText
child_at ts = do
  u ← unit_name_at ts
  ins ← operands_at u.1
  a ← arrow_at ins.1
  outs ← operands_at a
  _ ← end_at outs.1
  Some (child_text u.0 (operands_of ins.0) (operands_of outs.0))

-- behind `call`
unfoldable pub call_at : List Lexeme → Option InstText
call_at ts = do
  t ← type_at ts
  f ← unit_name_at t.1
  args ← operands_at f.1
  _ ← end_at args.1
  Some (call_text f.0 t.0 (operands_of args.0))

-- behind `phi`
unfoldable pub phi_at : List Lexeme → Option InstText
phi_at ts = do
  t ← type_at ts
  r ← parts_at edge_at (length t.1) t.1
  _ ← end_at r.1
  Some (phi_text t.0 (map edge_of r.0))

-- `, %f, %t`, behind a condition
unfoldable pub branch_at : List ℕ → List Lexeme → Option InstText
branch_at c ts = do
  a ← punct_at 44 ts
  f ← local_at a
  b ← punct_at 44 f.1
  t ← last_local_at b
  Some (branch_text c f.0 t)

abbrev pub br_or : List ℕ → List Lexeme → Option (Unit {0}) → Option InstText
br_or b ts (Some u) = Some (br_text b)
br_or b ts None = branch_at b ts

-- behind `br`
unfoldable pub br_at : List Lexeme → Option InstText
br_at ts = do
  b ← local_at ts
  br_or b.0 b.1 (end_at b.1)

-- behind `wait`
unfoldable pub wait_at : List Lexeme → Option InstText
wait_at ts = do
  b ← local_at ts
  d ← maybe_at (codes "for") b.1
  ss ← behind_at local_at d.1
  _ ← end_at ss.1
  Some (wait_text b.0 d.0 ss.0)

-- behind `halt`
unfoldable pub halt_at : List Lexeme → Option InstText
halt_at ts = do
  _ ← end_at ts
  Some halt_text

abbrev pub ret_or : List Lexeme → Option (Unit {0}) → Option InstText
ret_or ts (Some u) = Some (ret_text None)
ret_or ts None = do
  o ← last_typed_at ts
  Some (ret_text (Some (operand_of o)))

-- behind `ret`
unfoldable pub ret_at : List Lexeme → Option InstText
ret_at ts = ret_or ts (end_at ts)

-- what a word begins, behind it
abbrev pub form_at : Form → List Lexeme → Option InstText
form_at form.Const ts = const_at ts
form_at (form.Op o c) ts = word_op_at o c ts
form_at form.Var ts = var_at ts
form_at form.Ld ts = ld_at ts
form_at form.St ts = st_at ts
form_at form.Sig ts = sig_at ts
form_at form.Prb ts = prb_at ts
form_at form.Drv ts = drv_at ts
form_at form.Reg ts = reg_at ts
form_at form.Child ts = child_at ts
form_at form.Call ts = call_at ts
form_at form.Phi ts = phi_at ts
form_at form.Br ts = br_at ts
form_at form.Wait ts = wait_at ts
form_at form.Halt ts = halt_at ts
form_at form.Ret ts = ret_at ts

-- an instruction that begins with this word
unfoldable pub worded_at : List ℕ → List Lexeme → Option InstText
worded_at w ts = do
  f ← form_of w
  form_at f ts

-- an instruction that begins with this mark
unfoldable pub marked_at : ℕ → List Lexeme → Option InstText
marked_at b ts = if nat_eq b 91 then bracket_at ts else if nat_eq b 123 then tuple_at ts else None

-- an instruction
unfoldable pub inst_at : List Lexeme → Option InstText
inst_at (word w ∷ ts) = worded_at w ts
inst_at (punct b ∷ ts) = marked_at b ts
inst_at _ = None
