-- The rows of the table of operations that take integers of one width, over whole numbers.
use Rattle.std.specs.Prelude.{ℕ, ◌+◌, ◌-◌, ◌*◌, ◌/◌, ◌%◌, ◌^◌, Bool, not, ◌==◌, nat_lt, nat_le, if◌then◌else◌, ℤ, pos, negsuc, neg_ℤ, ◌-ℤ◌, unsigned_abs, int_lt, int_le, int_div, int_rem, bit_and, bit_or, bit_xor}
use Rattle.std.specs.Int.{int_rem_euclid}
use Rattle.lh_types.specs.Classes.{class_of}
use Rattle.lh_types.specs.declared.op.Op.{Op}
use Rattle.lh_types.specs.declared.op.Op.TheVariants.{Not, Neg, Add, Sub, Umul, Smul, Udiv, Sdiv, Umod, Smod, Urem, Srem, And, Or, Xor, Eq, Neq, Slt, Sgt, Sle, Sge, Ult, Ugt, Ule, Uge, Shl, Shr, Mux, Extf, Exts, Insf, Inss, Array, Repeat, Tuple}
use Rattle.lh_types.specs.declared.op.OpClass.{OpClass}
use Rattle.lh_types.specs.declared.op.OpClass.TheVariants as class

-- the n bits of a, read in two's complement
abbrev pub signed : ℕ → ℕ → ℤ
signed n a = if nat_lt a (2 ^ (n - 1)) then pos a else pos a -ℤ pos (2 ^ n)

-- a whole number modulo 2 ^ n
abbrev pub wrapped : ℕ → ℤ → ℕ
wrapped n z = unsigned_abs (int_rem_euclid z (pos (2 ^ n)))

-- the remainder of x by y that has the sign of y
abbrev pub int_mod : ℤ → ℤ → ℤ
int_mod x (pos b) = int_rem_euclid x (pos b)
int_mod x (negsuc b) = neg_ℤ (int_rem_euclid (neg_ℤ x) (pos (b + 1)))

-- a truth value as an integer of one bit
abbrev pub truth : Bool → ℕ
truth b = if b then 1 else 0

-- a result of a division, which is 0 where the divisor is 0
abbrev pub divided : ℕ → ℕ → ℕ
divided b r = if b == 0 then 0 else r

-- the row's value for the operands a and b of n bits; not and neg have the one operand a
unfoldable pub integer_row : Op → ℕ → ℕ → ℕ → ℕ
integer_row Not n a b = 2 ^ n - 1 - a
integer_row Neg n a b = wrapped n (neg_ℤ (pos a))
integer_row Add n a b = (a + b) % 2 ^ n
integer_row Sub n a b = wrapped n (pos a -ℤ pos b)
integer_row Umul n a b = (a * b) % 2 ^ n
integer_row Smul n a b = (a * b) % 2 ^ n
integer_row Udiv n a b = divided b (a / b)
integer_row Urem n a b = divided b (a % b)
integer_row Umod n a b = divided b (a % b)
integer_row Sdiv n a b = divided b (wrapped n (int_div (signed n a) (signed n b)))
integer_row Srem n a b = divided b (wrapped n (int_rem (signed n a) (signed n b)))
integer_row Smod n a b = divided b (wrapped n (int_mod (signed n a) (signed n b)))
integer_row And n a b = bit_and a b
integer_row Or n a b = bit_or a b
integer_row Xor n a b = bit_xor a b
integer_row Eq n a b = truth (a == b)
integer_row Neq n a b = truth (not (a == b))
integer_row Slt n a b = truth (int_lt (signed n a) (signed n b))
integer_row Sgt n a b = truth (int_lt (signed n b) (signed n a))
integer_row Sle n a b = truth (int_le (signed n a) (signed n b))
integer_row Sge n a b = truth (int_le (signed n b) (signed n a))
integer_row Ult n a b = truth (nat_lt a b)
integer_row Ugt n a b = truth (nat_lt b a)
integer_row Ule n a b = truth (nat_le a b)
integer_row Uge n a b = truth (nat_le b a)
-- of no integers of one width, so no row here
integer_row Shl n a b = 0
integer_row Shr n a b = 0
integer_row Mux n a b = 0
integer_row (Extf k) n a b = 0
integer_row (Exts at len) n a b = 0
integer_row (Insf k) n a b = 0
integer_row (Inss at len) n a b = 0
integer_row Array n a b = 0
integer_row (Repeat k) n a b = 0
integer_row Tuple n a b = 0

-- the operations of the class have a row above
abbrev pub IsIntegerClass : OpClass → Type 0
IsIntegerClass class.Unary = Unit {0}
IsIntegerClass class.Binary = Unit {0}
IsIntegerClass class.Relation = Unit {0}
IsIntegerClass class.Equality = Unit {0}
IsIntegerClass class.Shift = ⊥
IsIntegerClass class.Select = ⊥
IsIntegerClass (class.TakePart s) = ⊥
IsIntegerClass (class.PutPart s) = ⊥
IsIntegerClass class.Array = ⊥
IsIntegerClass (class.Repeat n) = ⊥
IsIntegerClass class.Tuple = ⊥

-- the operations that have a row above
abbrev pub IsIntegerRow : Op → Type 0
IsIntegerRow op = IsIntegerClass (class_of op)

-- how many bits a row of the class gives: one where it compares, else the operands' n
abbrev pub class_width : OpClass → ℕ → ℕ
class_width class.Unary n = n
class_width class.Binary n = n
class_width class.Relation n = 1
class_width class.Equality n = 1
class_width class.Shift n = n
class_width class.Select n = n
class_width (class.TakePart s) n = n
class_width (class.PutPart s) n = n
class_width class.Array n = n
class_width (class.Repeat k) n = n
class_width class.Tuple n = n

-- how many bits the row's value has
unfoldable pub row_width : Op → ℕ → ℕ
row_width op n = class_width (class_of op) n

-- funnel shift up: b moved up k places, the low k bits from the top k bits of h in order
abbrev pub moved_up : ℕ → ℕ → ℕ → ℕ → ℕ
moved_up n b h k = (b * 2 ^ k) % 2 ^ n + h / 2 ^ (n - k)

-- funnel shift down: b moved down k places, the top k bits from the low k bits of h in order
abbrev pub moved_down : ℕ → ℕ → ℕ → ℕ → ℕ
moved_down n b h k = (h % 2 ^ k) * 2 ^ (n - k) + b / 2 ^ k
