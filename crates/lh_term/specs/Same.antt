-- Whether two operations, two parts or two lists of ids are one.
use Rattle.std.specs.Prelude.{◌≡◌, ℕ, Bool, true, ◌&&◌, nat_eq, [], ◌∷◌, slice_index_or, refl}
use Rattle.std.specs.Cmp.{IsEquivalence}
use Rattle.std.proofs.Common.{sym, ◌∙◌}
use Rattle.lh_types.specs.Types.{same_type}
use Rattle.lh_types.specs.Same.{nat_eq-is, nat_eq-refl, and_both, test_equiv, same-is, same-refl}
use Rattle.lh_types.specs.Classes.{class_of}
use Rattle.lh_types.specs.declared.part.Step.{Step}
use Rattle.lh_types.specs.declared.part.Step.TheVariants.{Field, Slice}
use Rattle.lh_types.specs.declared.op.OpClass.{OpClass}
use Rattle.lh_types.specs.declared.op.OpClass.TheVariants as class
use Rattle.lh_types.specs.declared.op.Op.{Op}
use Rattle.lh_types.specs.declared.op.Op.TheVariants.{Not, Neg, Add, Sub, Umul, Smul, Udiv, Sdiv, Umod, Smod, Urem, Srem, And, Or, Xor, Eq, Neq, Slt, Sgt, Sle, Sge, Ult, Ugt, Ule, Uge, Shl, Shr, Mux, Array, Tuple, Extf, Exts, Insf, Inss, Repeat}
use Rattle.lh_term.specs.declared.part.Part.{Part}

-- a number for each operation
abbrev pub op_tag : Op → ℕ
op_tag Not = 0
op_tag Neg = 1
op_tag Add = 2
op_tag Sub = 3
op_tag Umul = 4
op_tag Smul = 5
op_tag Udiv = 6
op_tag Sdiv = 7
op_tag Umod = 8
op_tag Smod = 9
op_tag Urem = 10
op_tag Srem = 11
op_tag And = 12
op_tag Or = 13
op_tag Xor = 14
op_tag Eq = 15
op_tag Neq = 16
op_tag Slt = 17
op_tag Sgt = 18
op_tag Sle = 19
op_tag Sge = 20
op_tag Ult = 21
op_tag Ugt = 22
op_tag Ule = 23
op_tag Uge = 24
op_tag Shl = 25
op_tag Shr = 26
op_tag Mux = 27
op_tag Array = 28
op_tag Tuple = 29
op_tag (Extf k) = 30
op_tag (Exts o n) = 31
op_tag (Insf k) = 32
op_tag (Inss o n) = 33
op_tag (Repeat k) = 34

-- the numbers of a step, and 0 where it has no second one
abbrev pub step_first : Step → ℕ
step_first (Field k) = k
step_first (Slice o n) = o

abbrev pub step_second : Step → ℕ
step_second (Field k) = 0
step_second (Slice o n) = n

-- the numbers that an operation of the class has, and 0 where it has none
abbrev pub class_first : OpClass → ℕ
class_first class.Unary = 0
class_first class.Binary = 0
class_first class.Relation = 0
class_first class.Equality = 0
class_first class.Shift = 0
class_first class.Select = 0
class_first (class.TakePart s) = step_first s
class_first (class.PutPart s) = step_first s
class_first class.Array = 0
class_first (class.Repeat k) = k
class_first class.Tuple = 0

abbrev pub class_second : OpClass → ℕ
class_second class.Unary = 0
class_second class.Binary = 0
class_second class.Relation = 0
class_second class.Equality = 0
class_second class.Shift = 0
class_second class.Select = 0
class_second (class.TakePart s) = step_second s
class_second (class.PutPart s) = step_second s
class_second class.Array = 0
class_second (class.Repeat k) = 0
class_second class.Tuple = 0

-- the first number that an operation has, and 0 where it has none
abbrev pub op_first : Op → ℕ
op_first op = class_first (class_of op)

-- its second number
abbrev pub op_second : Op → ℕ
op_second op = class_second (class_of op)

-- one operation with the same numbers
abbrev pub same_op : Op → Op → Bool
same_op a b = nat_eq (op_tag a) (op_tag b) && (nat_eq (op_first a) (op_first b) && nat_eq (op_second a) (op_second b))

op_of : ℕ → ℕ → ℕ → Op
op_of k n m = slice_index_or (Not ∷ Neg ∷ Add ∷ Sub ∷ Umul ∷ Smul ∷ Udiv ∷ Sdiv ∷ Umod ∷ Smod ∷ Urem ∷ Srem ∷ And ∷ Or ∷ Xor ∷ Eq ∷ Neq ∷ Slt ∷ Sgt ∷ Sle ∷ Sge ∷ Ult ∷ Ugt ∷ Ule ∷ Uge ∷ Shl ∷ Shr
    ∷ Mux ∷ Array ∷ Tuple ∷ Extf n ∷ Exts n m ∷ Insf n ∷ Inss n m ∷ Repeat n ∷ []) k Not

op_of-is : (a : Op) → op_of (op_tag a) (op_first a) (op_second a) ≡ a
unfolding op_of
op_of-is Not = refl
op_of-is Neg = refl
op_of-is Add = refl
op_of-is Sub = refl
op_of-is Umul = refl
op_of-is Smul = refl
op_of-is Udiv = refl
op_of-is Sdiv = refl
op_of-is Umod = refl
op_of-is Smod = refl
op_of-is Urem = refl
op_of-is Srem = refl
op_of-is And = refl
op_of-is Or = refl
op_of-is Xor = refl
op_of-is Eq = refl
op_of-is Neq = refl
op_of-is Slt = refl
op_of-is Sgt = refl
op_of-is Sle = refl
op_of-is Sge = refl
op_of-is Ult = refl
op_of-is Ugt = refl
op_of-is Ule = refl
op_of-is Uge = refl
op_of-is Shl = refl
op_of-is Shr = refl
op_of-is Mux = refl
op_of-is Array = refl
op_of-is Tuple = refl
op_of-is (Extf k) = refl
op_of-is (Exts o n) = refl
op_of-is (Insf k) = refl
op_of-is (Inss o n) = refl
op_of-is (Repeat k) = refl

pub same_op-is : (a b : Op) → same_op a b ≡ true → a ≡ b
same_op-is a b e =
    let f = and_both (nat_eq (op_tag a) (op_tag b)) (nat_eq (op_first a) (op_first b) && nat_eq (op_second a) (op_second b)) e in
    let g = and_both (nat_eq (op_first a) (op_first b)) (nat_eq (op_second a) (op_second b)) f.1 in
    let k = nat_eq-is (op_tag a) (op_tag b) f.0 in
    let n = nat_eq-is (op_first a) (op_first b) g.0 in
    let m = nat_eq-is (op_second a) (op_second b) g.1 in
    sym (op_of-is a) ∙ (λ i. op_of (k i) (n i) (m i)) ∙ op_of-is b

pub same_op-refl : (a : Op) → same_op a a ≡ true
same_op-refl a = rw (nat_eq-refl (op_tag a), nat_eq-refl (op_first a), nat_eq-refl (op_second a)) refl

-- parts of one argument, from one bit on and of one type
abbrev pub same_part : Part → Part → Bool
same_part p q = nat_eq p.arg q.arg && (nat_eq p.lo q.lo && same_type p.ty q.ty)

pub same_part-is : (p q : Part) → same_part p q ≡ true → p ≡ q
same_part-is p q e =
    let f = and_both (nat_eq p.arg q.arg) (nat_eq p.lo q.lo && same_type p.ty q.ty) e in
    let g = and_both (nat_eq p.lo q.lo) (same_type p.ty q.ty) f.1 in
    let a = nat_eq-is p.arg q.arg f.0 in
    let l = nat_eq-is p.lo q.lo g.0 in
    let t = same-is p.ty q.ty g.1 in
    λ i. record { arg = a i; lo = l i; ty = t i }

pub same_part-refl : (p : Part) → same_part p p ≡ true
same_part-refl p = rw (nat_eq-refl p.arg, nat_eq-refl p.lo, same-refl p.ty) refl

pub same_part_equiv : IsEquivalence same_part
same_part_equiv = test_equiv same_part same_part-is same_part-refl
