-- The canonical text of a file, one case for each spelling of the language.
use Rattle.std.specs.Prelude.{ℕ, nat_eq, not, Bool, true, false, List, [], ◌∷◌, ◌++◌, map, filter, Option, Some, None, if◌then◌else◌, codes}
use Rattle.lh_types.specs.Types.{TypeTree, row_of}
use Rattle.lh_types.specs.Classes.{class_of}
use Rattle.lh_types.specs.declared.op.Op.{Op}
use Rattle.lh_types.specs.declared.op.OpClass.{OpClass}
use Rattle.lh_types.specs.declared.op.OpClass.TheVariants as class
use Rattle.lh_unit.specs.Contents.{OperandText, TriggerText, EdgeText, InstText, LineText, BlockText, ArgText, ItemText, const_text, pure_text, var_text, ld_text, st_text, sig_text, prb_text, drv_text, reg_text, child_text, call_text, phi_text, br_text, branch_text, wait_text, halt_text, ret_text, unit_text, declare_text}
use Rattle.lh_unit.specs.Lexemes.{word, global, local, arrow}
use Rattle.lh_unit.specs.Marks.{open_brace, close_brace, colon, equals}
use Rattle.lh_unit.specs.Pieces.{Piece, token, space, render, ◌␣◌, ◌⸴◌, commas, behind_commas, mark, keyword, number, percent, in_parens, in_brackets, in_braces}
use Rattle.lh_unit.specs.CanonTypes.{type_pieces, row_pieces, const_pieces}
use Rattle.lh_unit.specs.CanonWords.{op_word, op_numbers, mode_word}
use Rattle.lh_unit_names.specs.declared.name.UnitName.{UnitName}
use Rattle.lh_unit.specs.declared.inst.UnitKind.{UnitKind}
use Rattle.lh_unit.specs.declared.inst.UnitKind.TheVariants as kind
use Rattle.lh_unit.specs.declared.inst.Declare.{Declare}
use Rattle.lh_unit.specs.declared.inst.Declare.TheVariants as declare

-- @n or %n
abbrev pub unit_name_pieces : UnitName → List Piece
unit_name_pieces n = token (if nat_eq n.sigil 64 then global n.name else local n.name) ∷ []

-- D %a, or %a where no type is written
abbrev pub typed_pieces : Option TypeTree → List ℕ → List Piece
typed_pieces (Some t) n = type_pieces t ␣ percent n
typed_pieces None n = percent n

abbrev pub operand : OperandText → List Piece
operand a = typed_pieces a.ty a.value

abbrev pub operands : List OperandText → List Piece
operands args = commas (map operand args)

-- a word and a value behind what may have one, such as ` if %c`
abbrev pub maybe : List ℕ → Option (List ℕ) → List Piece
maybe w None = []
maybe w (Some n) = space ∷ token (word w) ∷ space ∷ token (local n) ∷ []

-- [%v, mode %t if %g after %d]
abbrev pub trigger : TriggerText → List Piece
trigger t = in_brackets (percent t.value ⸴ token (word (mode_word t.mode)) ∷ space ∷ token (local t.trigger) ∷ maybe (codes "if") t.gate ++ maybe (codes "after") t.after)

-- [%v, %b]
abbrev pub edge : EdgeText → List Piece
edge e = in_brackets (percent e.value ⸴ percent e.block)

-- op D %a, %b, k
abbrev pub worded : Op → List OperandText → List Piece
worded o args = token (word (op_word o)) ∷ [] ␣ operands args ++ behind_commas (map number (op_numbers o))

-- an operation of the class
abbrev pub class_pieces : OpClass → Op → List OperandText → List Piece
class_pieces class.Unary o args = worded o args
class_pieces class.Binary o args = worded o args
class_pieces class.Relation o args = worded o args
class_pieces class.Equality o args = worded o args
class_pieces class.Shift o args = worded o args
class_pieces class.Select o args = worded o args
class_pieces (class.TakePart s) o args = worded o args
class_pieces (class.PutPart s) o args = worded o args
-- [D %a, %b]
class_pieces class.Array o args = in_brackets (operands args)
-- [N x D %a]
class_pieces (class.Repeat n) o args = in_brackets (number n ␣ keyword "x" ␣ operands args)
-- {D1 %a, D2 %b}
class_pieces class.Tuple o args = in_braces (operands args)

-- an operation
abbrev pub operation : Op → List OperandText → List Piece
operation o args = class_pieces (class_of o) o args

-- an instruction
abbrev pub inst_pieces : InstText → List Piece
-- const iN k, const time L
inst_pieces (const_text d) = const_pieces d
-- the operations on values and on parts of signals
inst_pieces (pure_text o args) = operation o args
-- var V %a
inst_pieces (var_text a) = keyword "var" ␣ operand a
-- ld V* %p
inst_pieces (ld_text p) = keyword "ld" ␣ operand p
-- st V* %p, %v
inst_pieces (st_text p v) = keyword "st" ␣ operand p ⸴ percent v
-- sig D %a
inst_pieces (sig_text a) = keyword "sig" ␣ operand a
-- prb S %s
inst_pieces (prb_text s) = keyword "prb" ␣ operand s
-- drv S %s, %v after %d if %c
inst_pieces (drv_text s v d c) = keyword "drv" ␣ operand s ⸴ percent v ␣ keyword "after" ␣ percent d ++ maybe (codes "if") c
-- reg S %q, [%v, mode %t if %g after %d]
inst_pieces (reg_text q ts) = keyword "reg" ␣ operand q ++ behind_commas (map trigger ts)
-- inst @u (?%a) -> (?%b)
inst_pieces (child_text u a b) = keyword "inst" ␣ unit_name_pieces u ␣ in_parens (operands a) ␣ mark arrow ␣ in_parens (operands b)
-- call R @f (?%a)
inst_pieces (call_text f r a) = keyword "call" ␣ type_pieces r ␣ unit_name_pieces f ␣ in_parens (operands a)
-- phi V [%v, %b]
inst_pieces (phi_text v es) = keyword "phi" ␣ type_pieces v ␣ commas (map edge es)
-- br %b
inst_pieces (br_text b) = keyword "br" ␣ percent b
-- br %c, %f, %t
inst_pieces (branch_text c f t) = keyword "br" ␣ percent c ⸴ percent f ⸴ percent t
-- wait %b for %d, %s1, %s2
inst_pieces (wait_text b d ss) = keyword "wait" ␣ percent b ++ maybe (codes "for") d ++ behind_commas (map percent ss)
-- halt
inst_pieces halt_text = keyword "halt"
-- ret
inst_pieces (ret_text None) = keyword "ret"
-- ret V %v
inst_pieces (ret_text (Some v)) = keyword "ret" ␣ operand v

-- `%r = ` before what gives a value
abbrev pub assigned : Option (List ℕ) → List Piece
assigned None = []
assigned (Some r) = percent r ␣ mark equals ␣ []

-- an instruction, behind four spaces and what it is assigned to
abbrev pub line_pieces : Option (List ℕ) → InstText → List Piece
line_pieces r i = space ∷ space ∷ space ∷ space ∷ assigned r ++ inst_pieces i

abbrev pub canon_inst_line : LineText → List Piece
canon_inst_line l = line_pieces l.result l.inst

-- name:
abbrev pub label_lines : Option (List ℕ) → List (List Piece)
label_lines None = []
label_lines (Some n) = (token (word n) ∷ token colon ∷ []) ∷ []

abbrev pub block_lines : BlockText → List (List Piece)
block_lines b = label_lines b.label ++ map canon_inst_line b.lines

abbrev pub blocks_lines : List BlockText → List (List Piece)
blocks_lines [] = []
blocks_lines (b ∷ more) = block_lines b ++ blocks_lines more

-- D %a
abbrev pub argument : ArgText → List Piece
argument a = type_pieces a.ty ␣ percent a.name

abbrev pub arguments : List ArgText → List Piece
arguments args = commas (map argument args)

-- whether an argument is an output, or whether it is none
abbrev pub on_side : Bool → ArgText → Bool
on_side true a = a.output
on_side false a = not a.output

-- the outputs among arguments, or the others
abbrev pub side_of : Bool → List ArgText → List ArgText
side_of output args = filter (on_side output) args

-- (S1 %a1) -> (S2 %a2) {
abbrev pub ports : List ArgText → List Piece
ports args = in_parens (arguments (side_of false args)) ␣ mark arrow ␣ in_parens (arguments (side_of true args)) ␣ mark open_brace

-- R {
abbrev pub result_pieces : Option TypeTree → List Piece
result_pieces None = mark open_brace
result_pieces (Some r) = type_pieces r ␣ mark open_brace

-- the first line of a unit
abbrev pub header : UnitKind → UnitName → List ArgText → Option TypeTree → List Piece
-- func @n (V1 %a1, V2 %a2) R {
header kind.Func n args r = keyword "func" ␣ unit_name_pieces n ␣ in_parens (arguments args) ␣ result_pieces r
-- proc @n (S1 %a1) -> (S2 %a2) {
header kind.Proc n args r = keyword "proc" ␣ unit_name_pieces n ␣ ports args
-- entity @n (S1 %a1) -> (S2 %a2) {
header kind.Entity n args r = keyword "entity" ␣ unit_name_pieces n ␣ ports args

abbrev pub types : List TypeTree → List Piece
types ts = row_pieces (row_of ts)

abbrev pub declaration : Declare → List Piece
-- declare @n (V1, V2) R
declaration (declare.Func n params r) = keyword "declare" ␣ unit_name_pieces n ␣ in_parens (types params) ␣ type_pieces r
-- declare @n (S1) -> (S2)
declaration (declare.Unit n inputs outputs) = keyword "declare" ␣ unit_name_pieces n ␣ in_parens (types inputs) ␣ mark arrow ␣ in_parens (types outputs)

-- the lines of an item; a unit ends with the line }
abbrev pub item_lines : ItemText → List (List Piece)
item_lines (unit_text u) = header u.kind u.name u.args u.result ∷ blocks_lines u.blocks ++ mark close_brace ∷ []
item_lines (declare_text d) = declaration d ∷ []

-- the lines of a file: the items in order
abbrev pub canon_lines : List ItemText → List (List Piece)
canon_lines [] = []
canon_lines (i ∷ more) = item_lines i ++ canon_lines more

-- lines, each ended by byte 10
abbrev pub text_of : List (List Piece) → List ℕ
text_of [] = []
text_of (l ∷ more) = render l ++ 10 ∷ text_of more

-- the canonical text of a file
abbrev pub canon : List ItemText → List ℕ
canon items = text_of (canon_lines items)
