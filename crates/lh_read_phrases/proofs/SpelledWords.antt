-- The tables of words: what stands beside a word is what it begins, and each word is found.
use Rattle.std.proofs.Common.{◌≡◌, ℕ, Bool, true, false, List, [], ◌∷◌, Some, nat_eq, refl, ap, sym, ◌∙◌, subst, inl, inr}
use Rattle.std.specs.Prelude.{codes, ◌&&◌, ◌||◌, if◌then◌else◌}
use Rattle.std.proofs.lemmas.Bool.{and_parts}
use Rattle.std.specs.Cmp.Lexicographic.{same_text}
use Rattle.std.proofs.lemmas.Option.{same_Some}
use lib.Pointwise.{pointwise}
use Rattle.lh_types.specs.Classes.{class_of}
use Rattle.lh_types.specs.declared.op.Op.{Op}
use Rattle.lh_types.specs.declared.op.Op.TheVariants as op
use Rattle.lh_types.specs.declared.op.OpClass.{OpClass}
use Rattle.lh_types.specs.declared.op.OpClass.TheVariants as class
use Rattle.lh_unit.specs.declared.inst.Mode.{Mode}
use Rattle.lh_unit.specs.declared.inst.Mode.TheVariants as mode
use Rattle.lh_unit.specs.CanonWords.{op_word, mode_word}
use Rattle.lh_unit.specs.SpellsInst.{Column, typed, bare, free, class_columns, columns, IsOpWord}
use Rattle.lh_read_phrases.specs.Words.{found, head_rows, form_rows, mode_rows, head_of, form_of, mode_of}
use Rattle.lh_read_phrases.specs.declared.words.Head.{Head}
use Rattle.lh_read_phrases.specs.declared.words.Head.TheVariants as head
use Rattle.lh_read_phrases.specs.declared.words.Columns.{Columns}
use Rattle.lh_read_phrases.specs.declared.words.Columns.TheVariants as written
use Rattle.lh_read_phrases.specs.declared.words.Form.{Form}
use Rattle.lh_read_phrases.specs.declared.words.Form.TheVariants as form

-- a fact of each row of a table
abbrev pub EachRow : {A : Type 0} → (List ℕ → A → Type 0) → List (List ℕ × A) → Type 0
EachRow P [] = Unit {0}
EachRow P (r ∷ rows) = P r.0 r.1 × EachRow P rows

found-each : {A : Type 0} (P : List ℕ → A → Type 0) (rows : List (List ℕ × A)) (w : List ℕ) (x : A) → EachRow P rows → found rows w ≡ Some x → P w x
found-each P [] w x h e = cc
found-each P (r ∷ rows) w x h e = by (pointwise nat_eq r.0 w) refl e (found-each P rows w x h.1)
  where
    by : (b : Bool) → pointwise nat_eq r.0 w ≡ b → (if b then Some r.1 else found rows w) ≡ Some x → (found rows w ≡ Some x → P w x) → P w x
    by true f q k = subst (P w) (same_Some r.1 x q) (subst (λ v. P v r.1) (same_text r.0 w (sym f)) h.0)
    by false f q k = k q

-- the word of a register's mode
pub mode_of-sound : (w : List ℕ) (m : Mode) → mode_of w ≡ Some m → w ≡ mode_word m
unfolding mode_of
mode_of-sound w m p = found-each (λ v x. v ≡ mode_word x) mode_rows w m (refl, (refl, (refl, (refl, (refl, tt))))) p

pub mode_of-again : (m : Mode) → mode_of (mode_word m) ≡ Some m
unfolding mode_of
mode_of-again mode.Rise = refl
mode_of-again mode.Fall = refl
mode_of-again mode.Both = refl
mode_of-again mode.High = refl
mode_of-again mode.Low = refl

-- the word that begins a line outside of units
abbrev pub head_word : Head → List ℕ
head_word head.Func = codes "func"
head_word head.Proc = codes "proc"
head_word head.Entity = codes "entity"
head_word head.Declare = codes "declare"

pub head_of-sound : (w : List ℕ) (h : Head) → head_of w ≡ Some h → w ≡ head_word h
unfolding head_of
head_of-sound w h p = found-each (λ v x. v ≡ head_word x) head_rows w h (refl, (refl, (refl, (refl, tt)))) p

-- a truth value that holds
abbrev pub Holds : Bool → Type 0
Holds true = Unit {0}
Holds false = ⊥

-- whether the operations of a class have a word; arrays and structs have brackets in its place
abbrev pub class_has_word : OpClass → Bool
class_has_word class.Unary = true
class_has_word class.Binary = true
class_has_word class.Relation = true
class_has_word class.Equality = true
class_has_word class.Shift = true
class_has_word class.Select = true
class_has_word (class.TakePart s) = true
class_has_word (class.PutPart s) = true
class_has_word class.Array = false
class_has_word (class.Repeat n) = false
class_has_word class.Tuple = false

-- the operations that have a word
abbrev pub HasWord : Op → Type 0
HasWord o = Holds (class_has_word (class_of o))

-- the columns that are written so
abbrev pub columns_of : Columns → List Column
columns_of written.One = typed ∷ []
columns_of written.Two = typed ∷ bare ∷ []
columns_of written.Shift = typed ∷ free ∷ free ∷ []

-- how the operands of the operations of a class are written
abbrev pub class_written : OpClass → Columns
class_written class.Unary = written.One
class_written class.Binary = written.Two
class_written class.Relation = written.Two
class_written class.Equality = written.Two
class_written class.Shift = written.Shift
class_written class.Select = written.Two
class_written (class.TakePart s) = written.One
class_written (class.PutPart s) = written.Two
class_written class.Array = written.Two
class_written (class.Repeat n) = written.Two
class_written class.Tuple = written.Two

-- how the operands of an operation are written
abbrev pub written_as : Op → Columns
written_as o = class_written (class_of o)

class_columns-written : (c : OpClass) → class_columns c ≡ columns_of (class_written c)
class_columns-written class.Unary = refl
class_columns-written _ = refl

pub columns-written : (o : Op) → columns o ≡ columns_of (written_as o)
columns-written o = class_columns-written (class_of o)

-- what a row of an operation says
pub record IsOpRow (w : List ℕ) (o : Op) (c : Columns) : Type 0 where
  pub word : IsOpWord o w
  pub has : HasWord o
  pub columns : columns o ≡ columns_of c

-- the word of a form
abbrev pub form_word : Form → List ℕ
form_word form.Const = codes "const"
form_word (form.Op o c) = op_word o
form_word form.Var = codes "var"
form_word form.Ld = codes "ld"
form_word form.St = codes "st"
form_word form.Sig = codes "sig"
form_word form.Prb = codes "prb"
form_word form.Drv = codes "drv"
form_word form.Reg = codes "reg"
form_word form.Child = codes "inst"
form_word form.Call = codes "call"
form_word form.Phi = codes "phi"
form_word form.Br = codes "br"
form_word form.Wait = codes "wait"
form_word form.Halt = codes "halt"
form_word form.Ret = codes "ret"

-- what a row of the table says
abbrev pub IsFormRow : List ℕ → Form → Type 0
IsFormRow w (form.Op o c) = IsOpRow w o c
IsFormRow w f = w ≡ form_word f

-- whether the word is one of the operation's
abbrev is_op_word : Op → List ℕ → Bool
is_op_word op.Umul w = pointwise nat_eq w (op_word op.Umul) || pointwise nat_eq w (codes "mul")
is_op_word o w = pointwise nat_eq w (op_word o)

-- whether the columns are the same
abbrev same_written : Columns → Columns → Bool
same_written written.One written.One = true
same_written written.Two written.Two = true
same_written written.Shift written.Shift = true
same_written _ _ = false

-- whether a row is as its form has it
abbrev is_form_row : List ℕ → Form → Bool
is_form_row w (form.Op o c) = is_op_word o w && (class_has_word (class_of o) && same_written (written_as o) c)
is_form_row w f = pointwise nat_eq w (form_word f)

abbrev are_form_rows : List (List ℕ × Form) → Bool
are_form_rows [] = true
are_form_rows (r ∷ rows) = is_form_row r.0 r.1 && are_form_rows rows

op_word-told : (o : Op) (w : List ℕ) → is_op_word o w ≡ true → IsOpWord o w
op_word-told op.Umul w h = by (pointwise nat_eq w (op_word op.Umul)) refl h
  where
    by : (b : Bool) → pointwise nat_eq w (op_word op.Umul) ≡ b → (b || pointwise nat_eq w (codes "mul")) ≡ true → IsOpWord op.Umul w
    by true e q = inl (same_text w (op_word op.Umul) (sym e))
    by false e q = inr (same_text w (codes "mul") (sym q))
op_word-told o w h = same_text w (op_word o) (sym h)

written-told : (c d : Columns) → same_written c d ≡ true → c ≡ d
written-told written.One written.One h = refl
written-told written.Two written.Two h = refl
written-told written.Shift written.Shift h = refl
written-told _ _ h = cc

form_row-told : (w : List ℕ) (f : Form) → is_form_row w f ≡ true → IsFormRow w f
form_row-told w (form.Op o c) h =
    let p = and_parts (is_op_word o w) (class_has_word (class_of o) && same_written (written_as o) c) h in
    let q = and_parts (class_has_word (class_of o)) (same_written (written_as o) c) p.1 in
    record { word = op_word-told o w p.0; has = subst Holds (sym q.0) tt; columns = columns-written o ∙ ap columns_of (written-told (written_as o) c q.1) }
form_row-told w f h = same_text w (form_word f) (sym h)

form_rows-told : (rows : List (List ℕ × Form)) → are_form_rows rows ≡ true → EachRow IsFormRow rows
form_rows-told [] h = tt
form_rows-told (r ∷ rows) h = let p = and_parts (is_form_row r.0 r.1) (are_form_rows rows) h in (form_row-told r.0 r.1 p.0, form_rows-told rows p.1)

pub form_of-sound : (w : List ℕ) (f : Form) → form_of w ≡ Some f → IsFormRow w f
unfolding form_of
form_of-sound w f p = found-each IsFormRow form_rows w f (form_rows-told form_rows refl) p

-- the operation with 0 in place of each number
abbrev pub unnumbered : Op → Op
unnumbered op.Not = op.Not
unnumbered op.Neg = op.Neg
unnumbered op.Add = op.Add
unnumbered op.Sub = op.Sub
unnumbered op.Umul = op.Umul
unnumbered op.Smul = op.Smul
unnumbered op.Udiv = op.Udiv
unnumbered op.Sdiv = op.Sdiv
unnumbered op.Umod = op.Umod
unnumbered op.Smod = op.Smod
unnumbered op.Urem = op.Urem
unnumbered op.Srem = op.Srem
unnumbered op.And = op.And
unnumbered op.Or = op.Or
unnumbered op.Xor = op.Xor
unnumbered op.Eq = op.Eq
unnumbered op.Neq = op.Neq
unnumbered op.Slt = op.Slt
unnumbered op.Sgt = op.Sgt
unnumbered op.Sle = op.Sle
unnumbered op.Sge = op.Sge
unnumbered op.Ult = op.Ult
unnumbered op.Ugt = op.Ugt
unnumbered op.Ule = op.Ule
unnumbered op.Uge = op.Uge
unnumbered op.Shl = op.Shl
unnumbered op.Shr = op.Shr
unnumbered op.Mux = op.Mux
unnumbered (op.Extf k) = op.Extf 0
unnumbered (op.Exts at len) = op.Exts 0 0
unnumbered (op.Insf k) = op.Insf 0
unnumbered (op.Inss at len) = op.Inss 0 0
unnumbered op.Array = op.Array
unnumbered (op.Repeat n) = op.Repeat n
unnumbered op.Tuple = op.Tuple

-- each word of an operation is found
pub op_found : (o : Op) (w : List ℕ) → HasWord o → IsOpWord o w → form_of w ≡ Some (form.Op (unnumbered o) (written_as o))
unfolding form_of
op_found op.Umul w h e = elim e [ inl p ↦ ap form_of p | inr p ↦ ap form_of p ]
op_found op.Array w h e = absurd h
op_found (op.Repeat n) w h e = absurd h
op_found op.Tuple w h e = absurd h
op_found _ w h e = ap form_of e
