-- Times that can be written: what an operation gives of values has no others than the values.
use Rattle.std.proofs.Common.{ℕ, zero, suc, ◌+◌, List, [], ◌∷◌, ◌++◌, take, drop, replicate, Option, Some, None}
use Rattle.std.specs.Prelude.{slice_set, slice_index_or}
use Rattle.lh_types.specs.Values.{Datum, DatumRow, int_value, time_value, array_value, tuple_value, no_values, more_values, data_row}
use Rattle.lh_types.specs.Parts.{parts_of, part_by, with_part}
use Rattle.lh_types.specs.Classes.{class_of}
use Rattle.lh_types.specs.Apply.{no_value, integer_result, equality_result, shift_result, shifted, selected, part_taken, part_put, field_at, slice_at, with_field, with_slice, repeated, class_value, apply}
use Rattle.lh_types.specs.ApplyInt.{moved_up, moved_down}
use Rattle.lh_types.specs.declared.part.Step.{Step}
use Rattle.lh_types.specs.declared.part.Step.TheVariants.{Field, Slice}
use Rattle.lh_types.specs.declared.op.Op.{Op}
use Rattle.lh_types.specs.declared.op.Op.TheVariants.{Neq, Shr}
use Rattle.lh_types.specs.declared.op.OpClass.{OpClass}
use Rattle.lh_types.specs.declared.op.OpClass.TheVariants as class
use Rattle.lh_unit.specs.Contents.{InstText, const_text, LineText}
use Rattle.lh_unit.specs.Lexemes.{Lexeme}
use Rattle.lh_unit.specs.SpellsInst.{SpellsInst, SpellsLine}
use Rattle.lh_unit.specs.Within.{Each}
use Rattle.lh_unit.proofs.Lists.{Each-append}
use Rattle.lh_emit_def.specs.Printed.{IsWritable}
use Rattle.lh_text_laws.proofs.Numbers.{steps-below}

-- ---- the times in a value

abbrev mutual
  -- each can be written
  pub Writable : Datum → Type 0
  Writable (int_value n a) = Unit {0}
  Writable (time_value d) = IsWritable d
  Writable (array_value vs) = RowWritable vs
  Writable (tuple_value vs) = RowWritable vs

  pub RowWritable : DatumRow → Type 0
  RowWritable no_values = Unit {0}
  RowWritable (more_values v vs) = Writable v × RowWritable vs

abbrev pub AllWritable : List Datum → Type 0
AllWritable vs = Each Writable vs

parts-written : (vs : DatumRow) → RowWritable vs → AllWritable (parts_of vs)
parts-written no_values h = tt
parts-written (more_values v vs) h = (h.0, parts-written vs h.1)

row-written : (vs : List Datum) → AllWritable vs → RowWritable (data_row vs)
row-written [] h = tt
row-written (v ∷ vs) h = (h.0, row-written vs h.1)

index-written : (vs : List Datum) (k : ℕ) (d : Datum) → AllWritable vs → Writable d → Writable (slice_index_or vs k d)
index-written [] k d h i = i
index-written (v ∷ vs) zero d h i = h.0
index-written (v ∷ vs) (suc k) d h i = index-written vs k d h.1 i

take-written : (n : ℕ) (vs : List Datum) → AllWritable vs → AllWritable (take n vs)
take-written zero vs h = tt
take-written (suc n) [] h = tt
take-written (suc n) (v ∷ vs) h = (h.0, take-written n vs h.1)

drop-written : (n : ℕ) (vs : List Datum) → AllWritable vs → AllWritable (drop n vs)
drop-written zero vs h = h
drop-written (suc n) [] h = tt
drop-written (suc n) (v ∷ vs) h = drop-written n vs h.1

set-written : (vs : List Datum) (k : ℕ) (d : Datum) → AllWritable vs → Writable d → AllWritable (slice_set vs k d)
set-written [] k d h i = tt
set-written (v ∷ vs) zero d h i = (i, h.1)
set-written (v ∷ vs) (suc k) d h i = (h.0, set-written vs k d h.1 i)

copies-written : (n : ℕ) (d : Datum) → Writable d → AllWritable (replicate n d)
copies-written zero d h = tt
copies-written (suc n) d h = (h, copies-written n d h)

-- ---- parts of values

part-written : (v : Datum) (s : Step) → Writable v → Writable (part_by v s)
part-written (array_value vs) (Field k) h = index-written (parts_of vs) k (int_value 0 0) (parts-written vs h) tt
part-written (tuple_value vs) (Field k) h = index-written (parts_of vs) k (int_value 0 0) (parts-written vs h) tt
part-written (int_value w b) (Slice at len) h = tt
part-written (array_value vs) (Slice at len) h = row-written (take len (drop at (parts_of vs))) (take-written len (drop at (parts_of vs)) (drop-written at (parts_of vs) (parts-written vs h)))
part-written v s h = h

with-written : (v : Datum) (s : Step) (w : Datum) → Writable v → Writable w → Writable (with_part v s w)
with-written (array_value vs) (Field k) w h i = row-written (slice_set (parts_of vs) k w) (set-written (parts_of vs) k w (parts-written vs h) i)
with-written (tuple_value vs) (Field k) w h i = row-written (slice_set (parts_of vs) k w) (set-written (parts_of vs) k w (parts-written vs h) i)
with-written (int_value w b) (Slice at len) (int_value n c) h i = tt
with-written (array_value vs) (Slice at len) (array_value ws) h i =
    let a : AllWritable (take at (parts_of vs) ++ parts_of ws) =
    Each-append Writable (take at (parts_of vs)) (parts_of ws) (take-written at (parts_of vs) (parts-written vs h)) (parts-written ws i) in
    row-written (take at (parts_of vs) ++ parts_of ws ++ drop (at + len) (parts_of vs))
    (Each-append Writable (take at (parts_of vs) ++ parts_of ws) (drop (at + len) (parts_of vs)) a (drop-written (at + len) (parts_of vs) (parts-written vs h)))
with-written v s w h i = h

-- ---- operations

integer-written : (o : Op) (vs : List Datum) → Writable (integer_result o vs)
integer-written o (int_value n a ∷ []) = tt
integer-written o (int_value n a ∷ int_value m b ∷ []) = tt
integer-written o _ = tt

shifted-written : (move : ℕ → ℕ → ℕ → ℕ → ℕ) (vs : List Datum) → Writable (shifted move vs)
shifted-written move (int_value n b ∷ int_value m h ∷ int_value w k ∷ []) = tt
shifted-written move _ = tt

selected-written : (vs : List Datum) → AllWritable vs → Writable (selected vs)
selected-written (array_value vs ∷ int_value w s ∷ []) h = index-written (parts_of vs) _ no_value (parts-written vs h.0) tt
selected-written _ h = tt

field-written : (k : ℕ) (vs : List Datum) → AllWritable vs → Writable (field_at k vs)
field-written k [] h = tt
field-written k (v ∷ []) h = part-written v (Field k) h.0
field-written k (v ∷ w ∷ vs) h = tt

slice-written : (o n : ℕ) (vs : List Datum) → AllWritable vs → Writable (slice_at o n vs)
slice-written o n [] h = tt
slice-written o n (v ∷ []) h = part-written v (Slice o n) h.0
slice-written o n (v ∷ w ∷ vs) h = tt

with-field-written : (k : ℕ) (vs : List Datum) → AllWritable vs → Writable (with_field k vs)
with-field-written k [] h = tt
with-field-written k (v ∷ []) h = tt
with-field-written k (v ∷ w ∷ []) h = with-written v (Field k) w h.0 h.1.0
with-field-written k (v ∷ w ∷ x ∷ vs) h = tt

with-slice-written : (o n : ℕ) (vs : List Datum) → AllWritable vs → Writable (with_slice o n vs)
with-slice-written o n [] h = tt
with-slice-written o n (v ∷ []) h = tt
with-slice-written o n (v ∷ w ∷ []) h = with-written v (Slice o n) w h.0 h.1.0
with-slice-written o n (v ∷ w ∷ x ∷ vs) h = tt

repeated-written : (n : ℕ) (vs : List Datum) → AllWritable vs → Writable (repeated n vs)
repeated-written n [] h = tt
repeated-written n (v ∷ []) h = row-written (replicate n v) (copies-written n v h.0)
repeated-written n (v ∷ w ∷ vs) h = tt

equality-written : (o : Op) (vs : List Datum) → Writable (equality_result o vs)
equality-written Neq vs = tt
equality-written o vs = tt

shift-written : (o : Op) (vs : List Datum) → Writable (shift_result o vs)
shift-written Shr vs = shifted-written moved_down vs
shift-written o vs = shifted-written moved_up vs

taken-written : (s : Step) (vs : List Datum) → AllWritable vs → Writable (part_taken s vs)
taken-written (Field k) vs h = field-written k vs h
taken-written (Slice o n) vs h = slice-written o n vs h

put-written : (s : Step) (vs : List Datum) → AllWritable vs → Writable (part_put s vs)
put-written (Field k) vs h = with-field-written k vs h
put-written (Slice o n) vs h = with-slice-written o n vs h

class-written : (c : OpClass) (o : Op) (vs : List Datum) → AllWritable vs → Writable (class_value c o vs)
class-written class.Unary o vs h = integer-written o vs
class-written class.Binary o vs h = integer-written o vs
class-written class.Relation o vs h = integer-written o vs
class-written class.Equality o vs h = equality-written o vs
class-written class.Shift o vs h = shift-written o vs
class-written class.Select o vs h = selected-written vs h
class-written (class.TakePart s) o vs h = taken-written s vs h
class-written (class.PutPart s) o vs h = put-written s vs h
class-written class.Array o vs h = row-written vs h
class-written (class.Repeat n) o vs h = repeated-written n vs h
class-written class.Tuple o vs h = row-written vs h

pub apply-written : (o : Op) (vs : List Datum) → AllWritable vs → Writable (apply o vs)
unfolding apply
apply-written o vs h = class-written (class_of o) o vs h

-- ---- what is spelled

-- the constants of an instruction can be written
abbrev pub InstFine : InstText → Type 0
InstFine (const_text d) = Writable d
InstFine _ = Unit {0}

abbrev pub LineFine : LineText → Type 0
LineFine l = InstFine l.inst

inst-fine : (i : InstText) (ts : List Lexeme) → SpellsInst i ts → InstFine i
inst-fine (const_text (int_value n b)) ts h = tt
inst-fine (const_text (time_value d)) ts h = let t = h.2 in (t.4.below, steps-below 100 d.delta t.1 t.2 t.5, steps-below 101 d.eps t.2 [] t.6)
inst-fine (const_text (array_value vs)) ts h = absurd h
inst-fine (const_text (tuple_value vs)) ts h = absurd h
inst-fine i ts h = tt

pub line-fine : (l : LineText) (ts : List Lexeme) → SpellsLine l.result l.inst ts → LineFine l
line-fine l ts h = by l.result h
  where
    by : (r : Option (List ℕ)) → SpellsLine r l.inst ts → InstFine l.inst
    by None k = inst-fine l.inst ts k.1
    by (Some r) k = inst-fine l.inst k.0 k.3
