-- Each equation keeps the meaning of a term.
use Rattle.std.proofs.Common.{◌≡◌, ℕ, zero, suc, ◌-◌, ◌<◌, ◌^◌, List, [], ◌∷◌, Bool, true, false, ◌&&◌, ◌||◌, nat_eq, refl, ap, sym, ◌∙◌, subst, Option, Some, None, arith, inl, inr, ◌⊎◌}
use Rattle.std.specs.Bool.{if◌then◌else◌}
use Rattle.std.proofs.lemmas.Nat.{pow_pos}
use Rattle.std.proofs.lemmas.Option.{same_Some}
use Rattle.std.proofs.lemmas.Bool.{or_cases}
use Rattle.lh_types.specs.Types.{TypeTree, int_type, row_of, IsData, AreData}
use Rattle.lh_types.specs.Values.{Datum, int_value, time_value, array_value, tuple_value, data_row}
use Rattle.lh_types.specs.Fits.{FitsType, FitsRow}
use Rattle.lh_types.specs.ApplyTypes.{FitsOp}
use Rattle.lh_types.specs.Same.{and_both, nat_eq-is}
use Rattle.lh_types.specs.Apply.{apply, bit_value}
use Rattle.lh_types.specs.declared.op.Op.{Op}
use Rattle.lh_types.specs.declared.op.Op.TheVariants.{Not, And, Or, Eq, Neq}
use Rattle.lh_ops.specs.Laws.{WordRows, ones}
use Rattle.lh_ops.proofs.TypeLemmas.{results_fit_lem}
use Rattle.lh_ops.proofs.BooleanLemmas.{words_are_boolean_lem, equality_tells_lem, bits_are_boolean_lem}
use Rattle.lh_term.specs.Tree.{Tree, constant, past_of, now_of, operation, choice_of, no_trees, more_trees, tree_row, operation_on}
use Rattle.lh_term.specs.Types.{type_of, types_of, FitsTerm, TakesTypes, IsTyped, AreTyped}
use Rattle.lh_term.specs.Mean.{Valuation, IsFitting, chosen, mean, means}
use Rattle.lh_term.specs.SameTree.{same_tree, same_tree-is}
use Rattle.lh_term.specs.Make.{is_that, is_constant, all_constant, value_in, values_in, is_zero, is_ones, is_bit, is_bit_value, negated, is_not_of, anded, halves, width_in, zero_like, ones_like, bit_of, found_or, not_rows, make_not, and_rows, or_rows, eq_rows, neq_rows, rows_of, make_operation, make_choice}
use Rattle.lh_term.specs.Laws.{MeansSame}
use Rattle.lh_term.proofs.TermTypes.{value_is, fits_term, gives_is, mean_fits}

-- ---- steps

pick : (b : Bool) (t u w : Tree) → (b ≡ true → MeansSame t w) → (b ≡ false → MeansSame u w) → MeansSame (if b then t else u) w
pick true t u w p q = p refl
pick false t u w p q = q refl

itself : (t : Tree) → IsTyped t → MeansSame t t
itself t h = record { typed = h; type = refl; mean = λ past now p n. refl }

then_same : (x y z : Tree) → MeansSame x y → MeansSame y z → MeansSame x z
then_same x y z a b = record { typed = a.typed; type = a.type ∙ b.type; mean = λ past now p n. a.mean past now p n ∙ b.mean past now p n }

-- ---- what the tests tell

zero_term : (y : Tree) (n : ℕ) → is_zero y ≡ true → type_of y ≡ int_type n → y ≡ constant (int_value n 0)
zero_term (constant (int_value m a)) n e t = let p : m ≡ n = cc in let q = nat_eq-is a 0 e in λ i. constant (int_value (p i) (q i))
zero_term (constant (time_value d)) n e t = cc
zero_term (constant (array_value vs)) n e t = cc
zero_term (constant (tuple_value vs)) n e t = cc
zero_term (past_of p) n e t = cc
zero_term (now_of p) n e t = cc
zero_term (operation op ts) n e t = cc
zero_term (choice_of c f g) n e t = cc

ones_term : (y : Tree) (n : ℕ) → is_ones y ≡ true → type_of y ≡ int_type n → y ≡ constant (ones n)
ones_term (constant (int_value m a)) n e t = let p : m ≡ n = cc in let q = nat_eq-is a (2 ^ m - 1) e ∙ ap (λ k. 2 ^ k - 1) p in λ i. constant (int_value (p i) (q i))
ones_term (constant (time_value d)) n e t = cc
ones_term (constant (array_value vs)) n e t = cc
ones_term (constant (tuple_value vs)) n e t = cc
ones_term (past_of p) n e t = cc
ones_term (now_of p) n e t = cc
ones_term (operation op ts) n e t = cc
ones_term (choice_of c f g) n e t = cc

pub bit_value_is : (b : ℕ) (v : Datum) → is_bit_value b v ≡ true → v ≡ int_value 1 b
bit_value_is b (int_value m a) e = let f = and_both (nat_eq m 1) (nat_eq a b) e in let p = nat_eq-is m 1 f.0 in let q = nat_eq-is a b f.1 in λ i. int_value (p i) (q i)
bit_value_is b (time_value d) e = cc
bit_value_is b (array_value vs) e = cc
bit_value_is b (tuple_value vs) e = cc

pub bit_term : (b : ℕ) (y : Tree) → is_bit b y ≡ true → y ≡ constant (int_value 1 b)
bit_term b (constant (int_value m a)) e = let f = and_both (nat_eq m 1) (nat_eq a b) e in let p = nat_eq-is m 1 f.0 in let q = nat_eq-is a b f.1 in λ i. constant (int_value (p i) (q i))
bit_term b (constant (time_value d)) e = cc
bit_term b (constant (array_value vs)) e = cc
bit_term b (constant (tuple_value vs)) e = cc
bit_term b (past_of p) e = cc
bit_term b (now_of p) e = cc
bit_term b (operation op ts) e = cc
bit_term b (choice_of c f g) e = cc

pub constant_term : (y : Tree) → is_constant y ≡ true → y ≡ constant (value_in y)
constant_term (constant v) e = refl
constant_term (past_of p) e = cc
constant_term (now_of p) e = cc
constant_term (operation op ts) e = cc
constant_term (choice_of c f g) e = cc

pub negated_term : (y z : Tree) → negated y ≡ Some z → y ≡ operation_on Not (z ∷ [])
negated_term (operation Not (more_trees x no_trees)) z e = let p : x ≡ z = cc in ap (λ w. operation_on Not (w ∷ [])) p
negated_term (constant v) z e = cc
negated_term (past_of p) z e = cc
negated_term (now_of p) z e = cc
negated_term (choice_of c f g) z e = cc
negated_term (operation op ts) z e = cc

that_one : (o : Option Tree) (x : Tree) → is_that o x ≡ true → o ≡ Some x
that_one (Some z) x e = ap Some (same_tree-is z x e)
that_one None x e = cc

pub not_term : (y x : Tree) → is_not_of y x ≡ true → y ≡ operation_on Not (x ∷ [])
not_term y x e = negated_term y x (that_one (negated y) x e)

pub anded_term : (y q a : Tree) → anded y ≡ Some (q, a) → y ≡ operation_on And (q ∷ a ∷ [])
anded_term (operation And (more_trees r (more_trees b no_trees))) q a e =
    let p : (r, b) ≡ (q, a) = same_Some (r, b) (q, a) e in
    λ i. operation_on And ((p i).0 ∷ (p i).1 ∷ [])
anded_term (constant v) q a e = cc
anded_term (past_of p) q a e = cc
anded_term (now_of p) q a e = cc
anded_term (choice_of c f g) q a e = cc
anded_term (operation op ts) q a e = cc

-- ---- integers

-- a value of an integer type is an integer below its bound
pub record IsInt (v : Datum) (n : ℕ) : Type 0 where
  pub number : ℕ
  pub is : v ≡ int_value n number
  pub small : number < 2 ^ n

int_of : (v : Datum) (n : ℕ) → FitsType v (int_type n) → IsInt v n
int_of (int_value w b) n f = record { number = b; is = ap (λ m. int_value m b) f.0; small = f.1 }
int_of (time_value d) n f = absurd f
int_of (array_value vs) n f = absurd f
int_of (tuple_value vs) n f = absurd f

-- the term is an integer of n bits
pub record IntTerm (x : Tree) (n : ℕ) : Type 0 where
  pub typed : IsTyped x
  pub type : type_of x ≡ int_type n

int_mean : (x : Tree) (n : ℕ) → IntTerm x n → (past now : Valuation) → IsFitting past → IsFitting now → IsInt (mean past now x) n
int_mean x n i past now p q =
    let P : TypeTree → Type 0 = FitsType (mean past now x) in
    int_of (mean past now x) n (subst P i.type (mean_fits past now p q x i.typed))

-- both operands of a row on two integers
record TwoInts (x y : Tree) : Type 0 where
  width : ℕ
  limits : IsData (int_type width)
  first : IntTerm x width
  second : IntTerm y width

type_inj : (m n : ℕ) → int_type m ≡ int_type n → m ≡ n
type_inj m n e = cc

two_ints : (x y : Tree) (n : ℕ) → AreTyped (tree_row (x ∷ y ∷ [])) → AreData (row_of (type_of x ∷ type_of y ∷ [])) → type_of x ∷ type_of y ∷ [] ≡ int_type n ∷ int_type n ∷ [] → TwoInts x y
two_ints x y n h d e =
    let p : type_of x ≡ int_type n = cc in
    let q : type_of y ≡ int_type n = cc in
    let P : TypeTree → Type 0 = IsData in
    record { width = n; limits = subst P p d.0; first = record { typed = h.0; type = p }; second = record { typed = h.1.0; type = q } }

and_ints : (x y : Tree) → IsTyped (operation_on And (x ∷ y ∷ [])) → TwoInts x y
and_ints x y h = two_ints x y h.1.row.0 h.0 h.1.data_types h.1.row.1

or_ints : (x y : Tree) → IsTyped (operation_on Or (x ∷ y ∷ [])) → TwoInts x y
or_ints x y h = two_ints x y h.1.row.0 h.0 h.1.data_types h.1.row.1

-- the operand of `not`
record OneInt (x : Tree) : Type 0 where
  width : ℕ
  limits : IsData (int_type width)
  first : IntTerm x width

not_int : (x : Tree) → IsTyped (operation_on Not (x ∷ [])) → OneInt x
not_int x h =
    let p : type_of x ≡ int_type h.1.row.0 = (let e = h.1.row.1 in cc) in
    let P : TypeTree → Type 0 = IsData in
    record { width = h.1.row.0; limits = subst P p h.1.data_types.0; first = record { typed = h.0.0; type = p } }

-- integers as constants
int_typed : (n a : ℕ) → IsData (int_type n) → a < 2 ^ n → IsTyped (constant (int_value n a))
int_typed n a d h = fits_term (int_value n a) (int_type n) d (refl, h)

zero_typed : (n : ℕ) → IsData (int_type n) → IsTyped (constant (int_value n 0))
zero_typed n d = int_typed n 0 d (pow_pos n)

ones_typed : (n : ℕ) → IsData (int_type n) → IsTyped (constant (ones n))
ones_typed n d = int_typed n (2 ^ n - 1) d (omega (arith, pow_pos n))

zero_is : (x : Tree) (n : ℕ) → type_of x ≡ int_type n → zero_like x ≡ constant (int_value n 0)
zero_is x n e = ap (λ t. constant (int_value (width_in t) 0)) e

ones_is : (x : Tree) (n : ℕ) → type_of x ≡ int_type n → ones_like x ≡ constant (ones n)
ones_is x n e = ap (λ t. constant (ones (width_in t))) e

-- the laws of words at what two terms mean
words : (n : ℕ) (v w : Datum) → IsInt v n → IsInt w n → (i j : ℕ) × (v ≡ int_value n i) × (w ≡ int_value n j) × WordRows n i j
words n v w p q = (p.number, q.number, p.is, q.is, words_are_boolean_lem n p.number q.number p.small q.small)

-- ---- the laws of words on values that are integers

module _ (n : ℕ) (v : Datum) (p : IsInt v n) where
  own : WordRows n p.number p.number
  own = words_are_boolean_lem n p.number p.number p.small p.small

  v_and_zero : apply And (v ∷ int_value n 0 ∷ []) ≡ int_value n 0
  v_and_zero = let P : Datum → Type 0 = λ z. apply And (z ∷ int_value n 0 ∷ []) ≡ int_value n 0 in subst P (sym p.is) own.and_zero

  v_and_ones : apply And (v ∷ ones n ∷ []) ≡ v
  v_and_ones = let P : Datum → Type 0 = λ z. apply And (z ∷ ones n ∷ []) ≡ z in subst P (sym p.is) own.and_ones

  v_and_self : apply And (v ∷ v ∷ []) ≡ v
  v_and_self = let P : Datum → Type 0 = λ z. apply And (z ∷ z ∷ []) ≡ z in subst P (sym p.is) own.and_self

  v_and_not : apply And (v ∷ apply Not (v ∷ []) ∷ []) ≡ int_value n 0
  v_and_not = let P : Datum → Type 0 = λ z. apply And (z ∷ apply Not (z ∷ []) ∷ []) ≡ int_value n 0 in subst P (sym p.is) own.and_not

  v_or_zero : apply Or (v ∷ int_value n 0 ∷ []) ≡ v
  v_or_zero = let P : Datum → Type 0 = λ z. apply Or (z ∷ int_value n 0 ∷ []) ≡ z in subst P (sym p.is) own.or_zero

  v_or_ones : apply Or (v ∷ ones n ∷ []) ≡ ones n
  v_or_ones = let P : Datum → Type 0 = λ z. apply Or (z ∷ ones n ∷ []) ≡ ones n in subst P (sym p.is) own.or_ones

  v_or_self : apply Or (v ∷ v ∷ []) ≡ v
  v_or_self = let P : Datum → Type 0 = λ z. apply Or (z ∷ z ∷ []) ≡ z in subst P (sym p.is) own.or_self

  v_or_not : apply Or (v ∷ apply Not (v ∷ []) ∷ []) ≡ ones n
  v_or_not = let P : Datum → Type 0 = λ z. apply Or (z ∷ apply Not (z ∷ []) ∷ []) ≡ ones n in subst P (sym p.is) own.or_not

  v_not_not : apply Not (apply Not (v ∷ []) ∷ []) ≡ v
  v_not_not = let P : Datum → Type 0 = λ z. apply Not (apply Not (z ∷ []) ∷ []) ≡ z in subst P (sym p.is) own.not_not

  module _ (w : Datum) (q : IsInt w n) where
    both : WordRows n p.number q.number
    both = words_are_boolean_lem n p.number q.number p.small q.small

    v_and_comm : apply And (v ∷ w ∷ []) ≡ apply And (w ∷ v ∷ [])
    v_and_comm = (λ i. apply And (p.is i ∷ q.is i ∷ [])) ∙ both.and_comm ∙ (λ i. apply And (sym q.is i ∷ sym p.is i ∷ []))

    v_or_comm : apply Or (v ∷ w ∷ []) ≡ apply Or (w ∷ v ∷ [])
    v_or_comm = (λ i. apply Or (p.is i ∷ q.is i ∷ [])) ∙ both.or_comm ∙ (λ i. apply Or (sym q.is i ∷ sym p.is i ∷ []))

    v_halves : apply Or (apply And (v ∷ w ∷ []) ∷ apply And (v ∷ apply Not (w ∷ []) ∷ []) ∷ []) ≡ v
    v_halves = (λ i. apply Or (apply And (p.is i ∷ q.is i ∷ []) ∷ apply And (p.is i ∷ apply Not (q.is i ∷ []) ∷ []) ∷ [])) ∙ both.or_of_both ∙ sym p.is

-- ---- and

module _ (x y : Tree) (h : IsTyped (operation_on And (x ∷ y ∷ []))) where
  a : TwoInts x y
  a = and_ints x y h

  to_and : (z : Tree) → IntTerm z a.width → ((past now : Valuation) → IsFitting past → IsFitting now → mean past now z ≡ apply And (mean past now x ∷ mean past now y ∷ []))
      → MeansSame z (operation_on And (x ∷ y ∷ []))
  to_and z i m = record { typed = i.typed; type = i.type ∙ sym a.first.type; mean = m }

  and_zero_right : y ≡ constant (int_value a.width 0) → MeansSame y (operation_on And (x ∷ y ∷ []))
  and_zero_right e = to_and y a.second (λ past now p q.
      let m : mean past now y ≡ int_value a.width 0 = ap (mean past now) e in
      m ∙ sym (v_and_zero a.width (mean past now x) (int_mean x a.width a.first past now p q)) ∙ ap (λ w. apply And (mean past now x ∷ w ∷ [])) (sym m))

  and_zero_left : x ≡ constant (int_value a.width 0) → MeansSame x (operation_on And (x ∷ y ∷ []))
  and_zero_left e = to_and x a.first (λ past now p q.
      let m : mean past now x ≡ int_value a.width 0 = ap (mean past now) e in
      let i = int_mean x a.width a.first past now p q in
      let j = int_mean y a.width a.second past now p q in
      m ∙ sym (v_and_zero a.width (mean past now y) j) ∙ ap (λ w. apply And (mean past now y ∷ w ∷ [])) (sym m) ∙ sym (v_and_comm a.width (mean past now x) i (mean past now y) j))

  and_ones_right : y ≡ constant (ones a.width) → MeansSame x (operation_on And (x ∷ y ∷ []))
  and_ones_right e = to_and x a.first (λ past now p q.
      let m : mean past now y ≡ ones a.width = ap (mean past now) e in
      sym (v_and_ones a.width (mean past now x) (int_mean x a.width a.first past now p q)) ∙ ap (λ w. apply And (mean past now x ∷ w ∷ [])) (sym m))

  and_ones_left : x ≡ constant (ones a.width) → MeansSame y (operation_on And (x ∷ y ∷ []))
  and_ones_left e = to_and y a.second (λ past now p q.
      let m : mean past now x ≡ ones a.width = ap (mean past now) e in
      let i = int_mean x a.width a.first past now p q in
      let j = int_mean y a.width a.second past now p q in
      sym (v_and_ones a.width (mean past now y) j) ∙ ap (λ w. apply And (mean past now y ∷ w ∷ [])) (sym m) ∙ sym (v_and_comm a.width (mean past now x) i (mean past now y) j))

  and_same : x ≡ y → MeansSame x (operation_on And (x ∷ y ∷ []))
  and_same e = to_and x a.first (λ past now p q.
      sym (v_and_self a.width (mean past now x) (int_mean x a.width a.first past now p q)) ∙ ap (λ w. apply And (mean past now x ∷ w ∷ [])) (ap (mean past now) e))

  and_to_zero : ((past now : Valuation) → IsFitting past → IsFitting now → int_value a.width 0 ≡ apply And (mean past now x ∷ mean past now y ∷ []))
      → MeansSame (zero_like x) (operation_on And (x ∷ y ∷ []))
  and_to_zero m =
      let P : Tree → Type 0 = λ z. MeansSame z (operation_on And (x ∷ y ∷ [])) in
      subst P (sym (zero_is x a.width a.first.type)) (to_and (constant (int_value a.width 0)) (record { typed = zero_typed a.width a.limits; type = refl }) m)

  and_not_right : y ≡ operation_on Not (x ∷ []) → MeansSame (zero_like x) (operation_on And (x ∷ y ∷ []))
  and_not_right e = and_to_zero (λ past now p q.
      sym (v_and_not a.width (mean past now x) (int_mean x a.width a.first past now p q)) ∙ ap (λ w. apply And (mean past now x ∷ w ∷ [])) (sym (ap (mean past now) e)))

  and_not_left : x ≡ operation_on Not (y ∷ []) → MeansSame (zero_like x) (operation_on And (x ∷ y ∷ []))
  and_not_left e = and_to_zero (λ past now p q.
      let i = int_mean x a.width a.first past now p q in
      let j = int_mean y a.width a.second past now p q in
      sym (v_and_not a.width (mean past now y) j) ∙ ap (λ w. apply And (mean past now y ∷ w ∷ [])) (sym (ap (mean past now) e)) ∙ sym (v_and_comm a.width (mean past now x) i (mean past now y) j))

  pub and_sound : MeansSame (and_rows x y) (operation_on And (x ∷ y ∷ []))
  and_sound =
      pick (is_zero y) _ _ _ (λ e. and_zero_right (zero_term y a.width e a.second.type)) (λ _.
      pick (is_zero x) _ _ _ (λ e. and_zero_left (zero_term x a.width e a.first.type)) (λ _.
      pick (is_ones y) _ _ _ (λ e. and_ones_right (ones_term y a.width e a.second.type)) (λ _.
      pick (is_ones x) _ _ _ (λ e. and_ones_left (ones_term x a.width e a.first.type)) (λ _.
      pick (same_tree x y) _ _ _ (λ e. and_same (same_tree-is x y e)) (λ _.
      pick (is_not_of y x) _ _ _ (λ e. and_not_right (not_term y x e)) (λ _.
      pick (is_not_of x y) _ _ _ (λ e. and_not_left (not_term x y e)) (λ _.
      itself (operation_on And (x ∷ y ∷ [])) h)))))))

-- ---- all operands constant

values_mean : (past now : Valuation) (ts : List Tree) → all_constant ts ≡ true → means past now (tree_row ts) ≡ values_in ts
values_mean past now [] e = refl
values_mean past now (t ∷ ts) e =
    let f = and_both (is_constant t) (all_constant ts) e in
    let p : mean past now t ≡ value_in t = ap (mean past now) (constant_term t f.0) in
    let q = values_mean past now ts f.1 in
    λ i. p i ∷ q i

value_fits : (t : Tree) → is_constant t ≡ true → IsTyped t → FitsType (value_in t) (type_of t)
value_fits (constant v) e h = h.fits
value_fits (past_of p) e h = cc
value_fits (now_of p) e h = cc
value_fits (operation op ts) e h = cc
value_fits (choice_of c f t) e h = cc

values_fit : (ts : List Tree) → all_constant ts ≡ true → AreTyped (tree_row ts) → FitsRow (data_row (values_in ts)) (row_of (types_of (tree_row ts)))
values_fit [] e h = tt
values_fit (t ∷ ts) e h = let f = and_both (is_constant t) (all_constant ts) e in (value_fits t f.0 h.0, values_fit ts f.1 h.1)

pub folded_fits : (op : Op) (ts : List Tree) → IsTyped (operation_on op ts) → all_constant ts ≡ true → FitsOp op (values_in ts)
folded_fits op ts h e = record { types = types_of (tree_row ts); gives = h.1.gives; data_types = h.1.data_types; values_fit = values_fit ts e h.0; row = h.1.row }

folded_value : (op : Op) (ts : List Tree) (h : IsTyped (operation_on op ts)) → all_constant ts ≡ true → FitsType (apply op (values_in ts)) h.1.gives
folded_value op ts h e = results_fit_lem op (values_in ts) (types_of (tree_row ts)) h.1.gives h.1.data_types (values_fit ts e h.0) h.1.row

pub folded_typed : (op : Op) (ts : List Tree) → IsTyped (operation_on op ts) → all_constant ts ≡ true → FitsTerm (apply op (values_in ts))
folded_typed op ts h e = fits_term (apply op (values_in ts)) h.1.gives h.1.is_data (folded_value op ts h e)

pub folded_sound : (op : Op) (ts : List Tree) → IsTyped (operation_on op ts) → all_constant ts ≡ true → MeansSame (constant (apply op (values_in ts))) (operation_on op ts)
folded_sound op ts h e = record {
  typed = folded_typed op ts h e;
  type = value_is (apply op (values_in ts)) h.1.gives h.1.is_data (folded_value op ts h e) ∙ sym (gives_is op (types_of (tree_row ts)) h.1);
  mean = λ past now p q. ap (apply op) (sym (values_mean past now ts e));
}

-- ---- where a search finds a term

found_sound : (o : Option Tree) (u w : Tree) → ((t : Tree) → o ≡ Some t → MeansSame t w) → MeansSame u w → MeansSame (found_or o u) w
found_sound (Some t) u w p q = p t refl
found_sound None u w p q = q

-- ---- not

not_not_sound : (x z : Tree) (h : IsTyped (operation_on Not (x ∷ []))) → x ≡ operation_on Not (z ∷ []) → MeansSame z (operation_on Not (x ∷ []))
not_not_sound x z h e =
    let P : Tree → Type 0 = IsTyped in
    let k : IsTyped (operation_on Not (z ∷ [])) = subst P e h.0.0 in
    let o = not_int z k in
    record {
      typed = k.0.0;
      type = ap type_of (sym e);
      mean = λ past now p q.
          sym (v_not_not o.width (mean past now z) (int_mean z o.width o.first past now p q)) ∙ ap (λ w. apply Not (w ∷ [])) (sym (ap (mean past now) e));
    }

pub not_sound : (x : Tree) → IsTyped (operation_on Not (x ∷ [])) → MeansSame (not_rows x) (operation_on Not (x ∷ []))
not_sound x h = found_sound (negated x) _ _ (λ z e. not_not_sound x z h (negated_term x z e)) (itself (operation_on Not (x ∷ [])) h)

pub make_not_sound : (x : Tree) → IsTyped (operation_on Not (x ∷ [])) → MeansSame (make_not x) (operation_on Not (x ∷ []))
make_not_sound x h = pick (is_constant x) _ _ _ (λ e. folded_sound Not (x ∷ []) h (rw e refl)) (λ _. not_sound x h)

-- ---- or

record Halves (x y q : Tree) : Type 0 where
  one : Tree
  other : Tree
  first : x ≡ operation_on And (q ∷ one ∷ [])
  second : y ≡ operation_on And (q ∷ other ∷ [])
  apart : (other ≡ operation_on Not (one ∷ [])) ⊎ (one ≡ operation_on Not (other ∷ []))

-- what the two pairs of `and` are
record HalvesAre (o p : Option (Tree × Tree)) (q : Tree) : Type 0 where
  one : Tree
  other : Tree
  first : o ≡ Some (q, one)
  second : p ≡ Some (q, other)
  apart : is_not_of other one || is_not_of one other ≡ true

halves_told : (o p : Option (Tree × Tree)) (q : Tree) → halves o p ≡ Some q → HalvesAre o p q
halves_told None None q e = cc
halves_told None (Some p) q e = cc
halves_told (Some o) None q e = cc
halves_told (Some (r, a)) (Some (s, b)) q e = by (same_tree r s && (is_not_of b a || is_not_of a b)) refl e
  where
    by : (t : Bool) → same_tree r s && (is_not_of b a || is_not_of a b) ≡ t → (if t then Some r else None) ≡ Some q → HalvesAre (Some (r, a)) (Some (s, b)) q
    by false p f = cc
    by true p f =
        let k = and_both (same_tree r s) (is_not_of b a || is_not_of a b) p in
        let g : r ≡ q = same_Some r q f in
        let m : s ≡ q = sym (same_tree-is r s k.0) ∙ g in
        record { one = a; other = b; first = λ i. Some (g i, a); second = λ i. Some (m i, b); apart = k.1 }

halves_of : (x y q : Tree) → halves (anded x) (anded y) ≡ Some q → Halves x y q
halves_of x y q e =
    let k = halves_told (anded x) (anded y) q e in
    record {
      one = k.one;
      other = k.other;
      first = anded_term x q k.one k.first;
      second = anded_term y q k.other k.second;
      apart = elim (or_cases (is_not_of k.other k.one) (is_not_of k.one k.other) k.apart) [ inl m ↦ inl (not_term k.other k.one m) | inr m ↦ inr (not_term k.one k.other m) ];
    }

module _ (x y : Tree) (h : IsTyped (operation_on Or (x ∷ y ∷ []))) where
  o : TwoInts x y
  o = or_ints x y h

  to_or : (z : Tree) → IntTerm z o.width → ((past now : Valuation) → IsFitting past → IsFitting now → mean past now z ≡ apply Or (mean past now x ∷ mean past now y ∷ []))
      → MeansSame z (operation_on Or (x ∷ y ∷ []))
  to_or z i m = record { typed = i.typed; type = i.type ∙ sym o.first.type; mean = m }

  or_zero_right : y ≡ constant (int_value o.width 0) → MeansSame x (operation_on Or (x ∷ y ∷ []))
  or_zero_right e = to_or x o.first (λ past now p q.
      let m : mean past now y ≡ int_value o.width 0 = ap (mean past now) e in
      sym (v_or_zero o.width (mean past now x) (int_mean x o.width o.first past now p q)) ∙ ap (λ w. apply Or (mean past now x ∷ w ∷ [])) (sym m))

  or_zero_left : x ≡ constant (int_value o.width 0) → MeansSame y (operation_on Or (x ∷ y ∷ []))
  or_zero_left e = to_or y o.second (λ past now p q.
      let m : mean past now x ≡ int_value o.width 0 = ap (mean past now) e in
      let i = int_mean x o.width o.first past now p q in
      let j = int_mean y o.width o.second past now p q in
      sym (v_or_zero o.width (mean past now y) j) ∙ ap (λ w. apply Or (mean past now y ∷ w ∷ [])) (sym m) ∙ sym (v_or_comm o.width (mean past now x) i (mean past now y) j))

  or_ones_right : y ≡ constant (ones o.width) → MeansSame y (operation_on Or (x ∷ y ∷ []))
  or_ones_right e = to_or y o.second (λ past now p q.
      let m : mean past now y ≡ ones o.width = ap (mean past now) e in
      m ∙ sym (v_or_ones o.width (mean past now x) (int_mean x o.width o.first past now p q)) ∙ ap (λ w. apply Or (mean past now x ∷ w ∷ [])) (sym m))

  or_ones_left : x ≡ constant (ones o.width) → MeansSame x (operation_on Or (x ∷ y ∷ []))
  or_ones_left e = to_or x o.first (λ past now p q.
      let m : mean past now x ≡ ones o.width = ap (mean past now) e in
      let i = int_mean x o.width o.first past now p q in
      let j = int_mean y o.width o.second past now p q in
      m ∙ sym (v_or_ones o.width (mean past now y) j) ∙ ap (λ w. apply Or (mean past now y ∷ w ∷ [])) (sym m) ∙ sym (v_or_comm o.width (mean past now x) i (mean past now y) j))

  or_same : x ≡ y → MeansSame x (operation_on Or (x ∷ y ∷ []))
  or_same e = to_or x o.first (λ past now p q.
      sym (v_or_self o.width (mean past now x) (int_mean x o.width o.first past now p q)) ∙ ap (λ w. apply Or (mean past now x ∷ w ∷ [])) (ap (mean past now) e))

  or_to_ones : ((past now : Valuation) → IsFitting past → IsFitting now → ones o.width ≡ apply Or (mean past now x ∷ mean past now y ∷ [])) → MeansSame (ones_like x) (operation_on Or (x ∷ y ∷ []))
  or_to_ones m =
      let P : Tree → Type 0 = λ z. MeansSame z (operation_on Or (x ∷ y ∷ [])) in
      subst P (sym (ones_is x o.width o.first.type)) (to_or (constant (ones o.width)) (record { typed = ones_typed o.width o.limits; type = refl }) m)

  or_not_right : y ≡ operation_on Not (x ∷ []) → MeansSame (ones_like x) (operation_on Or (x ∷ y ∷ []))
  or_not_right e = or_to_ones (λ past now p q.
      sym (v_or_not o.width (mean past now x) (int_mean x o.width o.first past now p q)) ∙ ap (λ w. apply Or (mean past now x ∷ w ∷ [])) (sym (ap (mean past now) e)))

  or_not_left : x ≡ operation_on Not (y ∷ []) → MeansSame (ones_like x) (operation_on Or (x ∷ y ∷ []))
  or_not_left e = or_to_ones (λ past now p q.
      let i = int_mean x o.width o.first past now p q in
      let j = int_mean y o.width o.second past now p q in
      sym (v_or_not o.width (mean past now y) j) ∙ ap (λ w. apply Or (mean past now y ∷ w ∷ [])) (sym (ap (mean past now) e)) ∙ sym (v_or_comm o.width (mean past now x) i (mean past now y) j))

  or_halves : (q : Tree) → Halves x y q → MeansSame q (operation_on Or (x ∷ y ∷ []))
  or_halves q s =
      let P : Tree → Type 0 = IsTyped in
      let hx : IsTyped (operation_on And (q ∷ s.one ∷ [])) = subst P s.first o.first.typed in
      let hy : IsTyped (operation_on And (q ∷ s.other ∷ [])) = subst P s.second o.second.typed in
      let t = and_ints q s.one hx in
      let u = and_ints q s.other hy in
      record {
        typed = t.first.typed;
        type = ap type_of (sym s.first);
        mean = λ past now p r.
            let mq = mean past now q in
            let ma = mean past now s.one in
            let mb = mean past now s.other in
            let ex : mean past now x ≡ apply And (mq ∷ ma ∷ []) = ap (mean past now) s.first in
            let ey : mean past now y ≡ apply And (mq ∷ mb ∷ []) = ap (mean past now) s.second in
            let i = int_mean x o.width o.first past now p r in
            let j = int_mean y o.width o.second past now p r in
            elim s.apart [
              | inl e ↦
                  let f : mb ≡ apply Not (ma ∷ []) = ap (mean past now) e in
                  sym (v_halves t.width mq (int_mean q t.width t.first past now p r) ma (int_mean s.one t.width t.second past now p r))
                  ∙ (λ k. apply Or (sym ex k ∷ apply And (mq ∷ sym f k ∷ []) ∷ [])) ∙ ap (λ w. apply Or (mean past now x ∷ w ∷ [])) (sym ey)
              | inr e ↦
                  let f : ma ≡ apply Not (mb ∷ []) = ap (mean past now) e in
                  sym (v_halves u.width mq (int_mean q u.width u.first past now p r) mb (int_mean s.other u.width u.second past now p r))
                  ∙ (λ k. apply Or (sym ey k ∷ apply And (mq ∷ sym f k ∷ []) ∷ [])) ∙ ap (λ w. apply Or (mean past now y ∷ w ∷ [])) (sym ex)
                  ∙ sym (v_or_comm o.width (mean past now x) i (mean past now y) j)
            ];
      }

  pub or_sound : MeansSame (or_rows x y) (operation_on Or (x ∷ y ∷ []))
  or_sound =
      pick (is_zero y) _ _ _ (λ e. or_zero_right (zero_term y o.width e o.second.type)) (λ _.
      pick (is_zero x) _ _ _ (λ e. or_zero_left (zero_term x o.width e o.first.type)) (λ _.
      pick (is_ones y) _ _ _ (λ e. or_ones_right (ones_term y o.width e o.second.type)) (λ _.
      pick (is_ones x) _ _ _ (λ e. or_ones_left (ones_term x o.width e o.first.type)) (λ _.
      pick (same_tree x y) _ _ _ (λ e. or_same (same_tree-is x y e)) (λ _.
      pick (is_not_of y x) _ _ _ (λ e. or_not_right (not_term y x e)) (λ _.
      pick (is_not_of x y) _ _ _ (λ e. or_not_left (not_term x y e)) (λ _.
      found_sound (halves (anded x) (anded y)) _ _ (λ q e. or_halves q (halves_of x y q e)) (itself (operation_on Or (x ∷ y ∷ [])) h))))))))

-- ---- bits

-- a value of one bit is a truth value
pub record IsBit (v : Datum) : Type 0 where
  pub bit : Bool
  pub is : v ≡ bit_value bit

pub bit_is : (v : Datum) → IsInt v 1 → IsBit v
bit_is v i = let (b, e) = bits_are_boolean_lem.each_bit i.number (let s = i.small in omega arith) in record { bit = b; is = i.is ∙ e }

pub bit_of_fit : (v : Datum) → FitsType v (int_type 1) → IsBit v
bit_of_fit v f = bit_is v (int_of v 1 f)

pub bit_mean : (x : Tree) → IntTerm x 1 → (past now : Valuation) → IsFitting past → IsFitting now → IsBit (mean past now x)
bit_mean x i past now p q = bit_is (mean past now x) (int_mean x 1 i past now p q)

pub one_wide : IsData (int_type 1)
one_wide = (omega arith, omega arith)

pub bit_typed : (b : Bool) → IsTyped (bit_of b)
bit_typed true = int_typed 1 1 one_wide (omega arith)
bit_typed false = int_typed 1 0 one_wide (omega arith)

eq_true : (b : Bool) → apply Eq (bit_value b ∷ bit_value true ∷ []) ≡ bit_value b
eq_true true = let r = bits_are_boolean_lem.rows true true in r.eq_bits
eq_true false = let r = bits_are_boolean_lem.rows false true in r.eq_bits

true_eq : (b : Bool) → apply Eq (bit_value true ∷ bit_value b ∷ []) ≡ bit_value b
true_eq b = let r = bits_are_boolean_lem.rows true b in r.eq_bits

eq_false : (b : Bool) → apply Eq (bit_value b ∷ bit_value false ∷ []) ≡ apply Not (bit_value b ∷ [])
eq_false true = let r = bits_are_boolean_lem.rows true false in r.eq_bits ∙ sym r.not_bit
eq_false false = let r = bits_are_boolean_lem.rows false false in r.eq_bits ∙ sym r.not_bit

false_eq : (b : Bool) → apply Eq (bit_value false ∷ bit_value b ∷ []) ≡ apply Not (bit_value b ∷ [])
false_eq b = let r = bits_are_boolean_lem.rows false b in let s = bits_are_boolean_lem.rows b b in r.eq_bits ∙ sym s.not_bit

neq_false : (b : Bool) → apply Neq (bit_value b ∷ bit_value false ∷ []) ≡ bit_value b
neq_false true = let r = bits_are_boolean_lem.rows true false in r.neq_bits
neq_false false = let r = bits_are_boolean_lem.rows false false in r.neq_bits

false_neq : (b : Bool) → apply Neq (bit_value false ∷ bit_value b ∷ []) ≡ bit_value b
false_neq b = let r = bits_are_boolean_lem.rows false b in r.neq_bits

neq_true : (b : Bool) → apply Neq (bit_value b ∷ bit_value true ∷ []) ≡ apply Not (bit_value b ∷ [])
neq_true true = let r = bits_are_boolean_lem.rows true true in r.neq_bits ∙ sym r.not_bit
neq_true false = let r = bits_are_boolean_lem.rows false true in r.neq_bits ∙ sym r.not_bit

true_neq : (b : Bool) → apply Neq (bit_value true ∷ bit_value b ∷ []) ≡ apply Not (bit_value b ∷ [])
true_neq b = let r = bits_are_boolean_lem.rows true b in let s = bits_are_boolean_lem.rows b b in r.neq_bits ∙ sym s.not_bit

-- an operation on a constant bit and a term of one bit, for any of the rows above
module _ (op : Op) (k : Bool) (to : Datum → Datum) (rule : (b : Bool) → apply op (bit_value b ∷ bit_value k ∷ []) ≡ to (bit_value b)) where
  right_bit : (v w : Datum) → IsBit v → w ≡ bit_value k → apply op (v ∷ w ∷ []) ≡ to v
  right_bit v w i e =
      let P : Datum → Type 0 = λ z. apply op (z ∷ bit_value k ∷ []) ≡ to z in
      ap (λ z. apply op (v ∷ z ∷ [])) e ∙ subst P (sym i.is) (rule i.bit)

module _ (op : Op) (k : Bool) (to : Datum → Datum) (rule : (b : Bool) → apply op (bit_value k ∷ bit_value b ∷ []) ≡ to (bit_value b)) where
  left_bit : (v w : Datum) → v ≡ bit_value k → IsBit w → apply op (v ∷ w ∷ []) ≡ to w
  left_bit v w e i =
      let P : Datum → Type 0 = λ z. apply op (bit_value k ∷ z ∷ []) ≡ to z in
      ap (λ z. apply op (z ∷ w ∷ [])) e ∙ subst P (sym i.is) (rule i.bit)

-- `not` takes one bit
pub not_takes : (t : TypeTree) → t ≡ int_type 1 → TakesTypes Not (t ∷ [])
not_takes t e =
    let P : TypeTree → Type 0 = IsData in
    record { gives = int_type 1; data_types = (subst P (sym e) one_wide, tt); row = (1, ap (λ u. u ∷ []) e, refl); is_data = one_wide }

-- `not x` is typed where x is of one bit
pub not_typed : (x : Tree) → IsTyped x → type_of x ≡ int_type 1 → IsTyped (operation_on Not (x ∷ []))
not_typed x h e = ((h, tt), not_takes (type_of x) e)

-- ---- eq and neq, of two terms of one type

record TwoValues (x y : Tree) : Type 0 where
  first : IsTyped x
  second : IsTyped y
  one_type : type_of x ≡ type_of y

eq_values : (x y : Tree) → IsTyped (operation_on Eq (x ∷ y ∷ [])) → TwoValues x y
eq_values x y h = let e = h.1.row.1 in record { first = h.0.0; second = h.0.1.0; one_type = cc }

neq_values : (x y : Tree) → IsTyped (operation_on Neq (x ∷ y ∷ [])) → TwoValues x y
neq_values x y h = let e = h.1.row.1 in record { first = h.0.0; second = h.0.1.0; one_type = cc }

module _ (x y : Tree) (w : Tree) (typed_w : IsTyped w) (bit_w : type_of w ≡ int_type 1) (op : Op) (is : (past now : Valuation) → mean past now w ≡ apply op (mean past now x ∷ mean past now y ∷ []))
    (t : TwoValues x y) where
  right_is : (k : ℕ) → is_bit k y ≡ true → (y ≡ constant (int_value 1 k)) × IntTerm x 1
  right_is k e = let f = bit_term k y e in (f, record { typed = t.first; type = t.one_type ∙ ap type_of f })

  left_is : (k : ℕ) → is_bit k x ≡ true → (x ≡ constant (int_value 1 k)) × IntTerm y 1
  left_is k e = let f = bit_term k x e in (f, record { typed = t.second; type = sym t.one_type ∙ ap type_of f })

  give_right : (k : Bool) → ((b : Bool) → apply op (bit_value b ∷ bit_value k ∷ []) ≡ bit_value b) → y ≡ bit_of k → IntTerm x 1 → MeansSame x w
  give_right k rule e i = record {
    typed = t.first;
    type = i.type ∙ sym bit_w;
    mean = λ past now p q. sym (right_bit op k (λ v. v) rule (mean past now x) (mean past now y) (bit_mean x i past now p q) (ap (mean past now) e)) ∙ sym (is past now);
  }

  give_left : (k : Bool) → ((b : Bool) → apply op (bit_value k ∷ bit_value b ∷ []) ≡ bit_value b) → x ≡ bit_of k → IntTerm y 1 → MeansSame y w
  give_left k rule e i = record {
    typed = t.second;
    type = i.type ∙ sym bit_w;
    mean = λ past now p q. sym (left_bit op k (λ v. v) rule (mean past now x) (mean past now y) (ap (mean past now) e) (bit_mean y i past now p q)) ∙ sym (is past now);
  }

  not_right : (k : Bool) → ((b : Bool) → apply op (bit_value b ∷ bit_value k ∷ []) ≡ apply Not (bit_value b ∷ [])) → y ≡ bit_of k → IntTerm x 1 → MeansSame (make_not x) w
  not_right k rule e i =
      let n = not_typed x t.first i.type in
      then_same (make_not x) (operation_on Not (x ∷ [])) w (make_not_sound x n) (record {
        typed = n;
        type = i.type ∙ sym bit_w;
        mean = λ past now p q. sym (right_bit op k (λ v. apply Not (v ∷ [])) rule (mean past now x) (mean past now y) (bit_mean x i past now p q) (ap (mean past now) e)) ∙ sym (is past now);
      })

  not_left : (k : Bool) → ((b : Bool) → apply op (bit_value k ∷ bit_value b ∷ []) ≡ apply Not (bit_value b ∷ [])) → x ≡ bit_of k → IntTerm y 1 → MeansSame (make_not y) w
  not_left k rule e i =
      let n = not_typed y t.second i.type in
      then_same (make_not y) (operation_on Not (y ∷ [])) w (make_not_sound y n) (record {
        typed = n;
        type = i.type ∙ sym bit_w;
        mean = λ past now p q. sym (left_bit op k (λ v. apply Not (v ∷ [])) rule (mean past now x) (mean past now y) (ap (mean past now) e) (bit_mean y i past now p q)) ∙ sym (is past now);
      })

  give_same : (k : Bool) → ((v : Datum) → apply op (v ∷ v ∷ []) ≡ bit_value k) → x ≡ y → MeansSame (bit_of k) w
  give_same k rule e = record {
    typed = bit_typed k;
    type = sym bit_w;
    mean = λ past now p q. sym (rule (mean past now x)) ∙ ap (λ v. apply op (mean past now x ∷ v ∷ [])) (ap (mean past now) e) ∙ sym (is past now);
  }

module _ (x y : Tree) (h : IsTyped (operation_on Eq (x ∷ y ∷ []))) where
  pub eq_sound : MeansSame (eq_rows x y) (operation_on Eq (x ∷ y ∷ []))
  eq_sound =
      let w = operation_on Eq (x ∷ y ∷ []) in
      let t = eq_values x y h in
      let is : (past now : Valuation) → mean past now w ≡ apply Eq (mean past now x ∷ mean past now y ∷ []) = λ past now. refl in
      pick (same_tree x y) _ _ _ (λ e. give_same x y w h refl Eq is t true equality_tells_lem.same (same_tree-is x y e)) (λ _.
      pick (is_bit 1 y) _ _ _ (λ e. let r = right_is x y w h refl Eq is t 1 e in give_right x y w h refl Eq is t true eq_true r.0 r.1) (λ _.
      pick (is_bit 1 x) _ _ _ (λ e. let r = left_is x y w h refl Eq is t 1 e in give_left x y w h refl Eq is t true true_eq r.0 r.1) (λ _.
      pick (is_bit 0 y) _ _ _ (λ e. let r = right_is x y w h refl Eq is t 0 e in not_right x y w h refl Eq is t false eq_false r.0 r.1) (λ _.
      pick (is_bit 0 x) _ _ _ (λ e. let r = left_is x y w h refl Eq is t 0 e in not_left x y w h refl Eq is t false false_eq r.0 r.1) (λ _.
      itself w h)))))

module _ (x y : Tree) (h : IsTyped (operation_on Neq (x ∷ y ∷ []))) where
  pub neq_sound : MeansSame (neq_rows x y) (operation_on Neq (x ∷ y ∷ []))
  neq_sound =
      let w = operation_on Neq (x ∷ y ∷ []) in
      let t = neq_values x y h in
      let is : (past now : Valuation) → mean past now w ≡ apply Neq (mean past now x ∷ mean past now y ∷ []) = λ past now. refl in
      pick (same_tree x y) _ _ _ (λ e. give_same x y w h refl Neq is t false equality_tells_lem.same_not (same_tree-is x y e)) (λ _.
      pick (is_bit 0 y) _ _ _ (λ e. let r = right_is x y w h refl Neq is t 0 e in give_right x y w h refl Neq is t false neq_false r.0 r.1) (λ _.
      pick (is_bit 0 x) _ _ _ (λ e. let r = left_is x y w h refl Neq is t 0 e in give_left x y w h refl Neq is t false false_neq r.0 r.1) (λ _.
      pick (is_bit 1 y) _ _ _ (λ e. let r = right_is x y w h refl Neq is t 1 e in not_right x y w h refl Neq is t true neq_true r.0 r.1) (λ _.
      pick (is_bit 1 x) _ _ _ (λ e. let r = left_is x y w h refl Neq is t 1 e in not_left x y w h refl Neq is t true true_neq r.0 r.1) (λ _.
      itself w h)))))

-- ---- every operation

pub rows_sound : (op : Op) (ts : List Tree) → IsTyped (operation_on op ts) → MeansSame (rows_of op ts) (operation_on op ts)
rows_sound Not (x ∷ []) h = not_sound x h
rows_sound And (x ∷ y ∷ []) h = and_sound x y h
rows_sound Or (x ∷ y ∷ []) h = or_sound x y h
rows_sound Eq (x ∷ y ∷ []) h = eq_sound x y h
rows_sound Neq (x ∷ y ∷ []) h = neq_sound x y h
rows_sound op ts h = itself (operation_on op ts) h

pub operation_sound : (op : Op) (ts : List Tree) → IsTyped (operation_on op ts) → MeansSame (make_operation op ts) (operation_on op ts)
operation_sound op ts h = pick (all_constant ts) _ _ _ (λ e. folded_sound op ts h e) (λ _. rows_sound op ts h)

-- ---- choices

chosen_one : (c v : Datum) → chosen c v v ≡ v
chosen_one (int_value n zero) v = refl
chosen_one (int_value n (suc a)) v = refl
chosen_one (time_value d) v = refl
chosen_one (array_value vs) v = refl
chosen_one (tuple_value vs) v = refl

chosen_bit : (b : Bool) → chosen (bit_value b) (int_value 1 0) (int_value 1 1) ≡ bit_value b
chosen_bit true = refl
chosen_bit false = refl

chosen_not : (b : Bool) → chosen (bit_value b) (int_value 1 1) (int_value 1 0) ≡ apply Not (bit_value b ∷ [])
chosen_not true = let r = bits_are_boolean_lem.rows true true in sym r.not_bit
chosen_not false = let r = bits_are_boolean_lem.rows false false in sym r.not_bit

module _ (c f t : Tree) (h : IsTyped (choice_of c f t)) where
  pub choice_sound : MeansSame (make_choice c f t) (choice_of c f t)
  choice_sound =
      let w = choice_of c f t in
      let bit_c : IntTerm c 1 = record { typed = h.0; type = h.3.0 } in
      pick (is_bit 0 c) _ _ _ (λ e. record { typed = h.1; type = refl; mean = λ past now p q. ap (λ v. chosen v (mean past now f) (mean past now t)) (sym (ap (mean past now) (bit_term 0 c e))) })
      (λ _.
      pick (is_bit 1 c) _ _ _ (λ e. record { typed = h.2; type = sym h.3.1; mean = λ past now p q. ap (λ v. chosen v (mean past now f) (mean past now t)) (sym (ap (mean past now) (bit_term 1 c e))) })
      (λ _.
      pick (same_tree f t) _ _ _ (λ e. record {
        typed = h.1;
        type = refl;
        mean = λ past now p q. sym (chosen_one (mean past now c) (mean past now f))
            ∙ ap (λ v. chosen (mean past now c) (mean past now f) v) (ap (mean past now) (same_tree-is f t e));
      }) (λ _.
      pick (is_bit 0 f && is_bit 1 t) _ _ _ (λ e.
      let g = and_both (is_bit 0 f) (is_bit 1 t) e in
      let ef = bit_term 0 f g.0 in
      let et = bit_term 1 t g.1 in
      record {
        typed = h.0;
        type = h.3.0 ∙ sym (ap type_of ef);
        mean = λ past now p q.
            let i = bit_mean c bit_c past now p q in
            let P : Datum → Type 0 = λ z. z ≡ chosen z (int_value 1 0) (int_value 1 1) in
            subst P (sym i.is) (sym (chosen_bit i.bit)) ∙ (λ k. chosen (mean past now c) (mean past now (sym ef k)) (mean past now (sym et k)));
      }) (λ _.
      pick (is_bit 1 f && is_bit 0 t) _ _ _ (λ e.
      let g = and_both (is_bit 1 f) (is_bit 0 t) e in
      let ef = bit_term 1 f g.0 in
      let et = bit_term 0 t g.1 in
      let n = not_typed c h.0 h.3.0 in
      then_same (make_not c) (operation_on Not (c ∷ [])) w (make_not_sound c n) (record {
        typed = n;
        type = h.3.0 ∙ sym (ap type_of ef);
        mean = λ past now p q.
            let i = bit_mean c bit_c past now p q in
            let P : Datum → Type 0 = λ z. apply Not (z ∷ []) ≡ chosen z (int_value 1 1) (int_value 1 0) in
            subst P (sym i.is) (sym (chosen_not i.bit)) ∙ (λ k. chosen (mean past now c) (mean past now (sym ef k)) (mean past now (sym et k)));
      })) (λ _.
      itself w h)))))
