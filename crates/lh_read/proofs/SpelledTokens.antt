-- The tokens that spell an item are tokens, each of them: no bad byte stands in a line that says something.
use Rattle.std.proofs.Common.{◌≡◌, ℕ, true, List, [], ◌∷◌, Option, Some, None, refl, ap, ◌∙◌, inl, inr}
use Rattle.lh_types.specs.Types.{TypeTree, int_type, time_type, void_type, array_type, tuple_type, signal_type, pointer_type, no_types, more_types}
use Rattle.lh_types.specs.Values.{int_value, time_value}
use Rattle.lh_types.specs.Classes.{class_of}
use Rattle.lh_types.specs.declared.op.Op.{Op}
use Rattle.lh_types.specs.declared.op.OpClass.{OpClass}
use Rattle.lh_types.specs.declared.op.OpClass.TheVariants as class
use Rattle.lh_unit_names.specs.declared.name.UnitName.{UnitName}
use Rattle.lh_time.specs.declared.Delay.{Delay}
use Rattle.lh_unit.specs.Contents.{ArgText, OperandText, InstText, const_text, pure_text, var_text, ld_text, st_text, sig_text, prb_text, drv_text, reg_text, child_text, call_text, phi_text, br_text, branch_text, wait_text, halt_text, ret_text}
use Rattle.lh_unit.specs.Lexemes.{Lexeme, global, local}
use Rattle.lh_unit.specs.CanonWords.{op_numbers}
use Rattle.lh_unit.specs.SpellsTypes.{SpellsTree, SpellsRow, SpellsType, SpellsValueType, SpellsSignalType}
use Rattle.lh_unit.specs.SpellsNumbers.{SpellsNumber, SpellsInteger, SpellsSteps, SpellsTime}
use Rattle.lh_unit.specs.SpellsParts.{SpellsUnitName, SpellsParts, SpellsList, SpellsBehind, SpellsLocal, SpellsTyped, SpellsOperand, SpellsBare, SpellsWithType, SpellsMaybe, SpellsTrigger, SpellsEdge}
use Rattle.lh_unit.specs.SpellsInst.{Column, typed, bare, free, columns, SpellsColumn, SpellsColumns, SpellsWordOp, SpellsOfClass, SpellsDelay, SpellsWordTyped, SpellsInst, SpellsLine}
use Rattle.lh_unit.specs.Spells.{LineItem, empty_item, header_item, declare_item, label_item, inst_item, close_item, SpellsParam, SpellsPort, SpellsParams, SpellsPorts, SpellsHeader, SpellsDeclare, SpellsLabel, Spells}
use Rattle.lh_unit.specs.Marks.{comma}
use Rattle.lh_unit.specs.declared.inst.UnitKind.{UnitKind}
use Rattle.lh_unit.specs.declared.inst.UnitKind.TheVariants as kind
use Rattle.lh_unit.specs.declared.inst.Declare.{Declare}
use Rattle.lh_unit.specs.declared.inst.Declare.TheVariants as declare
use Rattle.lh_lex.specs.Front.{all_tokens}

-- tokens before tokens, as P spells its parts
abbrev KeepsTokens : {A : Type 0} → (A → List Lexeme → List Lexeme → Type 0) → Type 0
KeepsTokens {A} P = (x : A) (ts more : List Lexeme) → P x ts more → all_tokens more ≡ true → all_tokens ts ≡ true

same : (ts us : List Lexeme) → ts ≡ us → all_tokens us ≡ true → all_tokens ts ≡ true
same ts us e a = ap all_tokens e ∙ a

mutual
  tree : KeepsTokens SpellsTree
  tree (int_type n) ts more s a = same ts _ s.1 a
  tree time_type ts more s a = same ts _ s a
  tree void_type ts more s a = same ts _ s a
  tree (array_type n t) ts more s a = same ts _ s.2 (tree t s.1 _ s.4 a)
  tree (tuple_type r) ts more s a = same ts _ s.1 (row r s.0 _ s.2 a)
  tree (signal_type t) ts more s a = tree t ts _ s a
  tree (pointer_type t) ts more s a = tree t ts _ s a

  row : KeepsTokens SpellsRow
  row no_types ts more s a = absurd s
  row (more_types t no_types) ts more s a = tree t ts more s a
  row (more_types t (more_types u r)) ts more s a = tree t ts (comma ∷ s.0) s.1 (row (more_types u r) s.0 more s.2 a)

type : KeepsTokens SpellsType
type t ts more s a = tree t ts more s.0 a

value_type : KeepsTokens SpellsValueType
value_type t ts more s a = type t ts more s.1 a

signal_type_kept : KeepsTokens SpellsSignalType
signal_type_kept t ts more s a = type t ts more s.1 a

parts : {A : Type 0} (P : A → List Lexeme → List Lexeme → Type 0) → KeepsTokens P → KeepsTokens (SpellsParts P)
parts P keeps [] ts more s a = absurd s
parts P keeps (x ∷ []) ts more s a = keeps x ts more s a
parts P keeps (x ∷ y ∷ rest) ts more s a = keeps x ts (comma ∷ s.0) s.1 (parts P keeps (y ∷ rest) s.0 more s.2 a)

list : {A : Type 0} (P : A → List Lexeme → List Lexeme → Type 0) → KeepsTokens P → KeepsTokens (SpellsList P)
list P keeps [] ts more s a = same ts more s a
list P keeps (x ∷ rest) ts more s a = parts P keeps (x ∷ rest) ts more s a

behind : {A : Type 0} (P : A → List Lexeme → List Lexeme → Type 0) → KeepsTokens P → KeepsTokens (SpellsBehind P)
behind P keeps [] ts more s a = same ts more s a
behind P keeps (x ∷ rest) ts more s a = same ts _ s.1 (parts P keeps (x ∷ rest) s.0 more s.2 a)

local_name : KeepsTokens SpellsLocal
local_name n ts more s a = same ts _ s a

operand_typed : (ty : Option TypeTree) (n : List ℕ) (ts more : List Lexeme) → SpellsTyped ty n ts more → all_tokens more ≡ true → all_tokens ts ≡ true
operand_typed None n ts more s a = same ts _ s a
operand_typed (Some t) n ts more s a = type t ts _ s a

operand : KeepsTokens SpellsOperand
operand o ts more s a = operand_typed o.ty o.value ts more s a

bare_operand : KeepsTokens SpellsBare
bare_operand o ts more s a = same ts _ s.1 a

with_type : KeepsTokens SpellsWithType
with_type o ts more s a = type s.0 ts _ s.2 a

maybe : (keyword : List ℕ) → KeepsTokens (SpellsMaybe keyword)
maybe keyword None ts more s a = same ts more s a
maybe keyword (Some n) ts more s a = same ts _ s a

trigger : KeepsTokens SpellsTrigger
trigger g ts more s a = same ts _ s.2 (maybe _ g.gate s.0 s.1 s.3 (maybe _ g.after s.1 _ s.4 a))

edge : KeepsTokens SpellsEdge
edge e ts more s a = same ts _ s a

unit_name : (n : UnitName) (t : Lexeme) (ts : List Lexeme) → SpellsUnitName n t → all_tokens ts ≡ true → all_tokens (t ∷ ts) ≡ true
unit_name n t ts (inl s) a = same (t ∷ ts) (global n.name ∷ ts) (ap (λ x. x ∷ ts) s.1) a
unit_name n t ts (inr s) a = same (t ∷ ts) (local n.name ∷ ts) (ap (λ x. x ∷ ts) s.1) a

number : KeepsTokens SpellsNumber
number n ts more s a = same ts _ s.1 a

integer : (n bits : ℕ) (ts : List Lexeme) → SpellsInteger n bits ts → all_tokens ts ≡ true
integer n bits ts (inl s) = same ts _ s.1 refl
integer n bits ts (inr s) = same ts _ s.2 refl

steps : (letter : ℕ) → KeepsTokens (SpellsSteps letter)
steps letter n ts more (inl s) a = same ts more s.1 a
steps letter n ts more (inr s) a = same ts _ s.1 a

time : (d : Delay) (ts : List Lexeme) → SpellsTime d ts → all_tokens ts ≡ true
time d ts s = same ts _ s.3 (steps 100 d.delta s.1 s.2 s.5 (steps 101 d.eps s.2 [] s.6 refl))

column : (c : Column) → KeepsTokens (SpellsColumn c)
column typed o ts more s a = with_type o ts more s a
column bare o ts more s a = bare_operand o ts more s a
column free o ts more s a = operand o ts more s a

all_columns : (cs : List Column) → KeepsTokens (SpellsColumns cs)
all_columns [] os ts more s a = absurd s
all_columns (c ∷ []) [] ts more s a = absurd s
all_columns (c ∷ []) (o ∷ []) ts more s a = column c o ts more s a
all_columns (c ∷ []) (o ∷ p ∷ os) ts more s a = absurd s
all_columns (c ∷ d ∷ cs) [] ts more s a = absurd s
all_columns (c ∷ d ∷ cs) (o ∷ []) ts more s a = absurd s
all_columns (c ∷ d ∷ cs) (o ∷ p ∷ os) ts more s a = column c o ts (comma ∷ s.0) s.1 (all_columns (d ∷ cs) (p ∷ os) s.0 more s.2 a)

word_op : (o : Op) (args : List OperandText) (ts : List Lexeme) → SpellsWordOp o args ts → all_tokens ts ≡ true
word_op o args ts s = same ts _ s.3 (all_columns (columns o) args s.1 s.2 s.5 (behind SpellsNumber number (op_numbers o) s.2 [] s.6 refl))

of_class : (c : OpClass) (o : Op) (args : List OperandText) (ts : List Lexeme) → SpellsOfClass c o args ts → all_tokens ts ≡ true
of_class class.Unary o args ts s = word_op o args ts s
of_class class.Binary o args ts s = word_op o args ts s
of_class class.Relation o args ts s = word_op o args ts s
of_class class.Equality o args ts s = word_op o args ts s
of_class class.Shift o args ts s = word_op o args ts s
of_class class.Select o args ts s = word_op o args ts s
of_class (class.TakePart p) o args ts s = word_op o args ts s
of_class (class.PutPart p) o args ts s = word_op o args ts s
of_class class.Array o [] ts s = absurd s
of_class class.Array o (x ∷ rest) ts s = same ts _ s.3 (type s.0 s.1 _ s.5 (behind SpellsBare bare_operand rest s.2 _ s.6 refl))
of_class (class.Repeat n) o [] ts s = absurd s
of_class (class.Repeat n) o (x ∷ []) ts s = same ts _ s.3 (type s.0 s.2 _ s.6 refl)
of_class (class.Repeat n) o (x ∷ y ∷ rest) ts s = absurd s
of_class class.Tuple o args ts s = same ts _ s.1 (parts SpellsWithType with_type args s.0 _ s.2 refl)

delay : (after : List ℕ) (cond : Option (List ℕ)) (ts : List Lexeme) → SpellsDelay after cond ts → all_tokens ts ≡ true
delay after cond ts (inl s) = same ts _ s.1 (maybe _ cond s.0 [] s.2 refl)
delay after cond ts (inr (inl s)) = same ts _ s.1 (maybe _ cond s.0 [] s.2 refl)
delay after cond ts (inr (inr s)) = same ts _ s.2 refl

word_typed : (w : List ℕ) → KeepsTokens (SpellsWordTyped w)
word_typed w o ts more s a = same ts _ s.1 (with_type o s.0 more s.2 a)

inst : (i : InstText) (ts : List Lexeme) → SpellsInst i ts → all_tokens ts ≡ true
inst (const_text (int_value n bits)) ts s = same ts _ s.2 (type (int_type n) s.0 s.1 s.3 (integer n bits s.1 s.4))
inst (const_text (time_value d)) ts s = same ts _ s.1 (time d s.0 s.2)
inst (const_text _) ts s = absurd s
inst (pure_text o args) ts s = of_class (class_of o) o args ts s
inst (var_text x) ts s = word_typed _ x ts [] s refl
inst (ld_text p) ts s = word_typed _ p ts [] s refl
inst (st_text p v) ts s = word_typed _ p ts _ s refl
inst (sig_text x) ts s = word_typed _ x ts [] s refl
inst (prb_text x) ts s = word_typed _ x ts [] s refl
inst (drv_text x v d c) ts s = word_typed _ x ts _ s.1 (delay d c s.0 s.2)
inst (reg_text q triggers) ts s = word_typed _ q ts _ s.1 (parts SpellsTrigger trigger triggers s.0 [] s.2 refl)
inst (child_text u inputs outputs) ts s =
    same ts _ s.3 (unit_name u s.0 s.1 s.4 (list SpellsOperand operand inputs s.1 _ s.5 (list SpellsOperand operand outputs s.2 _ s.6 refl)))
inst (call_text f result args) ts s = same ts _ s.3 (type result s.1 _ s.4 (unit_name f s.0 s.2 s.5 (list SpellsOperand operand args s.2 _ s.6 refl)))
inst (phi_text ty edges) ts s = same ts _ s.2 (type ty s.0 s.1 s.3 (parts SpellsEdge edge edges s.1 [] s.4 refl))
inst (br_text b) ts s = same ts _ s refl
inst (branch_text c zero one) ts s = same ts _ s refl
inst (wait_text b d signals) ts s = same ts _ s.2 (maybe _ d s.0 s.1 s.3 (behind SpellsLocal local_name signals s.1 [] s.4 refl))
inst halt_text ts s = same ts _ s refl
inst (ret_text None) ts s = same ts _ s refl
inst (ret_text (Some v)) ts s = word_typed _ v ts [] s refl

line : (r : Option (List ℕ)) (i : InstText) (ts : List Lexeme) → SpellsLine r i ts → all_tokens ts ≡ true
line (Some r) i ts s = same ts _ s.1 (inst i s.0 s.3)
line None i ts s = inst i ts s.1

param : KeepsTokens SpellsParam
param x ts more s a = value_type x.ty ts _ s a

port : KeepsTokens SpellsPort
port x ts more s a = signal_type_kept x.ty ts _ s a

params : (args : List ArgText) (r : TypeTree) (ts : List Lexeme) → SpellsParams args r ts → all_tokens ts ≡ true
params args r ts s = same ts _ s.opened (list SpellsParam param s.params s.first _ s.spelled_params (type r s.second _ s.spelled_result refl))

ports : (args : List ArgText) (ts : List Lexeme) → SpellsPorts args ts → all_tokens ts ≡ true
ports args ts s =
    same ts _ s.opened (list SpellsPort port s.inputs s.first _ s.spelled_inputs (list SpellsPort port s.outputs s.second _ s.spelled_outputs refl))

header : (k : UnitKind) (n : UnitName) (args : List ArgText) (r : Option TypeTree) (ts : List Lexeme) → SpellsHeader k n args r ts → all_tokens ts ≡ true
header kind.Func n args (Some r) ts s = same ts _ s.2 (unit_name n s.0 s.1 s.3 (params args r s.1 s.4))
header kind.Func n args None ts s = absurd s
header kind.Proc n args None ts s = same ts _ s.2 (unit_name n s.0 s.1 s.3 (ports args s.1 s.4))
header kind.Proc n args (Some r) ts s = absurd s
header kind.Entity n args None ts s = same ts _ s.2 (unit_name n s.0 s.1 s.3 (ports args s.1 s.4))
header kind.Entity n args (Some r) ts s = absurd s

declared : (d : Declare) (ts : List Lexeme) → SpellsDeclare d ts → all_tokens ts ≡ true
declared (declare.Func n ps r) ts s = same ts _ s.3 (unit_name n s.0 s.1 s.4 (list SpellsValueType value_type ps s.1 _ s.5 (type r s.2 [] s.6 refl)))
declared (declare.Unit n inputs outputs) ts s =
    same ts _ s.3 (unit_name n s.0 s.1 s.4 (list SpellsSignalType signal_type_kept inputs s.1 _ s.5 (list SpellsSignalType signal_type_kept outputs s.2 _ s.6 refl)))

label : (n : List ℕ) (ts : List Lexeme) → SpellsLabel n ts → all_tokens ts ≡ true
label n ts (inl s) = same ts _ s.0 refl
label n ts (inr s) = same ts _ s refl

pub spelled-tokens : (ts : List Lexeme) (i : LineItem) → Spells ts i → all_tokens ts ≡ true
spelled-tokens ts empty_item s = same ts [] s refl
spelled-tokens ts (header_item k n args r) s = header k n args r ts s
spelled-tokens ts (declare_item d) s = declared d ts s
spelled-tokens ts (label_item n) s = label n ts s
spelled-tokens ts (inst_item l) s = line l.result l.inst ts s
spelled-tokens ts close_item s = same ts _ s refl
