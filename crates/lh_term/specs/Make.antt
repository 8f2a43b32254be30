-- The table of equations by which terms are made: the first that matches gives the term, and where none does it is the plain one.
use Rattle.std.specs.Prelude.{ℕ, ◌-◌, ◌^◌, Bool, true, false, ◌&&◌, ◌||◌, nat_eq, if◌then◌else◌, List, [], ◌∷◌, Option, Some, None}
use Rattle.lh_types.specs.Types.{TypeTree, int_type}
use Rattle.lh_types.specs.Values.{Datum, int_value}
use Rattle.lh_types.specs.Apply.{apply, bit_value, no_value}
use Rattle.lh_types.specs.declared.op.Op.{Op}
use Rattle.lh_types.specs.declared.op.Op.TheVariants.{Not, And, Or, Eq, Neq}
use Rattle.lh_term.specs.Tree.{Tree, TreeRow, constant, past_of, now_of, operation, choice_of, no_trees, more_trees, operation_on}
use Rattle.lh_term.specs.Types.{type_of}
use Rattle.lh_term.specs.SameTree.{same_tree}

-- ---- forms that the equations match

abbrev pub is_constant : Tree → Bool
is_constant (constant v) = true
is_constant _ = false

abbrev pub all_constant : List Tree → Bool
all_constant [] = true
all_constant (t ∷ ts) = is_constant t && all_constant ts

-- the value of a constant
abbrev pub value_in : Tree → Datum
value_in (constant v) = v
value_in _ = no_value

abbrev pub values_in : List Tree → List Datum
values_in [] = []
values_in (t ∷ ts) = value_in t ∷ values_in ts

-- the integer 0, of any width
abbrev pub is_zero_value : Datum → Bool
is_zero_value (int_value n a) = nat_eq a 0
is_zero_value _ = false

-- the integer whose bits are all 1, of any width
abbrev pub is_ones_value : Datum → Bool
is_ones_value (int_value n a) = nat_eq a (2 ^ n - 1)
is_ones_value _ = false

abbrev pub is_zero : Tree → Bool
is_zero (constant v) = is_zero_value v
is_zero _ = false

abbrev pub is_ones : Tree → Bool
is_ones (constant v) = is_ones_value v
is_ones _ = false

-- one bit of this value
abbrev pub is_bit_value : ℕ → Datum → Bool
is_bit_value b (int_value n a) = nat_eq n 1 && nat_eq a b
is_bit_value b _ = false

abbrev pub is_bit : ℕ → Tree → Bool
is_bit b (constant v) = is_bit_value b v
is_bit b _ = false

-- x, of `not x`
abbrev pub negated : Tree → Option Tree
negated (operation Not (more_trees x no_trees)) = Some x
negated _ = None

-- whether there is a term and it is x
abbrev pub is_that : Option Tree → Tree → Bool
is_that (Some z) x = same_tree z x
is_that None x = false

-- whether y is `not x`
abbrev pub is_not_of : Tree → Tree → Bool
is_not_of y x = is_that (negated y) x

-- q and a, of `and(q, a)`
abbrev pub anded : Tree → Option (Tree × Tree)
anded (operation And (more_trees q (more_trees a no_trees))) = Some (q, a)
anded _ = None

-- q, of `and(q, a)` and `and(q, b)` where one of a and b is `not` the other
abbrev pub halves : Option (Tree × Tree) → Option (Tree × Tree) → Option Tree
halves (Some (q, a)) (Some (r, b)) = if same_tree q r && (is_not_of b a || is_not_of a b) then Some q else None
halves _ _ = None

-- the width of an integer type
abbrev pub width_in : TypeTree → ℕ
width_in (int_type n) = n
width_in _ = 0

-- 0, and the integer of ones, of the type of a term
abbrev pub zero_like : Tree → Tree
zero_like x = constant (int_value (width_in (type_of x)) 0)

abbrev pub ones_like : Tree → Tree
ones_like x = constant (int_value (width_in (type_of x)) (2 ^ width_in (type_of x) - 1))

-- a constant of one bit
abbrev pub bit_of : Bool → Tree
bit_of b = constant (bit_value b)

-- the term that is there, else the other
abbrev pub found_or : Option Tree → Tree → Tree
found_or (Some t) u = t
found_or None u = u

-- ---- the equations, in order; where one has two sides, they follow each other

-- not(not x) = x
abbrev pub not_rows : Tree → Tree
not_rows x = found_or (negated x) (operation_on Not (x ∷ []))

-- `not x` as made: all operands constant, the constant
abbrev pub make_not : Tree → Tree
make_not x = if is_constant x then constant (apply Not (value_in x ∷ [])) else not_rows x

-- and(x, 0) = 0
-- and(x, ones) = x
-- and(x, x) = x
-- and(x, not x) = 0
abbrev pub and_rows : Tree → Tree → Tree
and_rows x y =
    if is_zero y then y else if is_zero x then x
    else if is_ones y then x else if is_ones x then y
    else if same_tree x y then x
    else if is_not_of y x then zero_like x else if is_not_of x y then zero_like x
    else operation_on And (x ∷ y ∷ [])

-- or(x, 0) = x
-- or(x, ones) = ones
-- or(x, x) = x
-- or(x, not x) = ones
-- or(and(q, a), and(q, b)) = q, where b is `not a` or a is `not b`
abbrev pub or_rows : Tree → Tree → Tree
or_rows x y =
    if is_zero y then x else if is_zero x then y
    else if is_ones y then y else if is_ones x then x
    else if same_tree x y then x
    else if is_not_of y x then ones_like x else if is_not_of x y then ones_like x
    else found_or (halves (anded x) (anded y)) (operation_on Or (x ∷ y ∷ []))

-- eq(x, x) = 1
-- on one bit, eq(x, 1) = x and eq(x, 0) = not x
abbrev pub eq_rows : Tree → Tree → Tree
eq_rows x y =
    if same_tree x y then bit_of true
    else if is_bit 1 y then x else if is_bit 1 x then y
    else if is_bit 0 y then make_not x else if is_bit 0 x then make_not y
    else operation_on Eq (x ∷ y ∷ [])

-- neq(x, x) = 0
-- on one bit, neq(x, 0) = x and neq(x, 1) = not x
abbrev pub neq_rows : Tree → Tree → Tree
neq_rows x y =
    if same_tree x y then bit_of false
    else if is_bit 0 y then x else if is_bit 0 x then y
    else if is_bit 1 y then make_not x else if is_bit 1 x then make_not y
    else operation_on Neq (x ∷ y ∷ [])

-- the equations of one operation
abbrev pub rows_of : Op → List Tree → Tree
rows_of Not (x ∷ []) = not_rows x
rows_of And (x ∷ y ∷ []) = and_rows x y
rows_of Or (x ∷ y ∷ []) = or_rows x y
rows_of Eq (x ∷ y ∷ []) = eq_rows x y
rows_of Neq (x ∷ y ∷ []) = neq_rows x y
rows_of op ts = operation_on op ts

-- an operation as made; all operands constant: the constant that the operation gives
abbrev pub make_operation : Op → List Tree → Tree
make_operation op ts = if all_constant ts then constant (apply op (values_in ts)) else rows_of op ts

-- a choice as made
-- choice(0, f, t) = f, choice(1, f, t) = t
-- choice(c, x, x) = x
-- on one bit, choice(c, 0, 1) = c and choice(c, 1, 0) = not c
abbrev pub make_choice : Tree → Tree → Tree → Tree
make_choice c f t =
    if is_bit 0 c then f else if is_bit 1 c then t
    else if same_tree f t then f
    else if is_bit 0 f && is_bit 1 t then c
    else if is_bit 1 f && is_bit 0 t then make_not c
    else choice_of c f t

-- the condition does not hold
abbrev pub negation : Tree → Tree
negation c = make_operation Not (c ∷ [])

-- both conditions hold
abbrev pub both : Tree → Tree → Tree
both c d = make_operation And (c ∷ d ∷ [])
