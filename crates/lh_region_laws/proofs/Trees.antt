-- Terms with the values that parts have before and now exchanged: what makes terms and takes them apart does not tell.
use Rattle.std.proofs.Common.{◌≡◌, ℕ, ◌-◌, ◌^◌, List, [], ◌∷◌, ◌++◌, map, filter, Bool, true, false, ◌&&◌, ◌||◌, Option, Some, None, refl, ap, sym, ◌∙◌}
use Rattle.std.specs.Bool.{if◌then◌else◌}
use Rattle.std.specs.Option.{option_map}
use Rattle.std.specs.List.{list_any}
use Rattle.std.proofs.lemmas.List.{map_push}
use Rattle.lh_types.specs.Types.{int_type, same_type}
use Rattle.lh_types.specs.Values.{int_value}
use Rattle.lh_types.specs.Apply.{apply}
use Rattle.lh_types.specs.declared.op.Op.{Op}
use Rattle.lh_types.specs.declared.op.Op.TheVariants.{Not, And, Or, Eq, Neq}
use Rattle.lh_term.specs.Tree.{Tree, TreeRow, constant, past_of, now_of, operation, choice_of, no_trees, more_trees, tree_row, operation_on}
use Rattle.lh_term.specs.Types.{type_of, types_of, row_result}
use Rattle.lh_term.specs.Same.{same_op}
use Rattle.lh_term.specs.SameTree.{same_tree, same_trees}
use Rattle.lh_term.specs.Make.{is_constant, all_constant, value_in, values_in, is_zero, is_ones, is_bit, is_bit_value, negated, is_that, is_not_of, anded, halves, zero_like, ones_like, width_in, bit_of, found_or, not_rows, make_not, and_rows, or_rows, eq_rows, neq_rows, rows_of, make_operation, make_choice}
use Rattle.lh_term.specs.Conjuncts.{joins_bits, all_conjuncts, joined_conjuncts, with_term, with_terms, conjuncts_of, conjunction_from, conjunction}
use Rattle.lh_term.proofs.Arenas.{map_append}

abbrev mutual
  -- the term with the values before and now exchanged
  pub turned : Tree → Tree
  turned (constant v) = constant v
  turned (past_of p) = now_of p
  turned (now_of p) = past_of p
  turned (operation o ts) = operation o (turned_row ts)
  turned (choice_of c f t) = choice_of (turned c) (turned f) (turned t)

  pub turned_row : TreeRow → TreeRow
  turned_row no_trees = no_trees
  turned_row (more_trees t ts) = more_trees (turned t) (turned_row ts)

-- the terms of a list
abbrev pub all_turned : List Tree → List Tree
all_turned ts = map turned ts

row-turned : (ts : List Tree) → turned_row (tree_row ts) ≡ tree_row (all_turned ts)
row-turned [] = refl
row-turned (t ∷ ts) = ap (more_trees (turned t)) (row-turned ts)

mutual
  pub type-turned : (t : Tree) → type_of (turned t) ≡ type_of t
  type-turned (constant v) = refl
  type-turned (past_of p) = refl
  type-turned (now_of p) = refl
  type-turned (operation o ts) = ap (row_result o) (types-turned ts)
  type-turned (choice_of c f t) = type-turned f

  pub types-turned : (ts : TreeRow) → types_of (turned_row ts) ≡ types_of ts
  types-turned no_trees = refl
  types-turned (more_trees t ts) = λ i. type-turned t i ∷ types-turned ts i

mutual
  pub same-turned : (x y : Tree) → same_tree (turned x) (turned y) ≡ same_tree x y
  same-turned (constant v) (constant w) = refl
  same-turned (past_of p) (past_of q) = refl
  same-turned (now_of p) (now_of q) = refl
  same-turned (operation a ts) (operation b us) = ap (λ z. same_op a b && z) (sames-turned ts us)
  same-turned (choice_of c f t) (choice_of d g u) = λ i. same-turned c d i && (same-turned f g i && same-turned t u i)
  same-turned _ _ = refl

  pub sames-turned : (x y : TreeRow) → same_trees (turned_row x) (turned_row y) ≡ same_trees x y
  sames-turned no_trees no_trees = refl
  sames-turned (more_trees t ts) (more_trees u us) = λ i. same-turned t u i && sames-turned ts us i
  sames-turned _ _ = refl

-- ---- forms

constant-turned : (t : Tree) → is_constant (turned t) ≡ is_constant t
constant-turned (constant v) = refl
constant-turned (past_of p) = refl
constant-turned (now_of p) = refl
constant-turned (operation o ts) = refl
constant-turned (choice_of c f t) = refl

value-turned : (t : Tree) → value_in (turned t) ≡ value_in t
value-turned (constant v) = refl
value-turned (past_of p) = refl
value-turned (now_of p) = refl
value-turned (operation o ts) = refl
value-turned (choice_of c f t) = refl

constants-turned : (ts : List Tree) → all_constant (all_turned ts) ≡ all_constant ts
constants-turned [] = refl
constants-turned (t ∷ ts) = λ i. constant-turned t i && constants-turned ts i

values-turned : (ts : List Tree) → values_in (all_turned ts) ≡ values_in ts
values-turned [] = refl
values-turned (t ∷ ts) = λ i. value-turned t i ∷ values-turned ts i

pub zero-turned : (t : Tree) → is_zero (turned t) ≡ is_zero t
zero-turned (constant v) = refl
zero-turned (past_of p) = refl
zero-turned (now_of p) = refl
zero-turned (operation o ts) = refl
zero-turned (choice_of c f t) = refl

ones-turned : (t : Tree) → is_ones (turned t) ≡ is_ones t
ones-turned (constant v) = refl
ones-turned (past_of p) = refl
ones-turned (now_of p) = refl
ones-turned (operation o ts) = refl
ones-turned (choice_of c f t) = refl

bit-turned : (b : ℕ) (t : Tree) → is_bit b (turned t) ≡ is_bit b t
bit-turned b (constant v) = refl
bit-turned b (past_of p) = refl
bit-turned b (now_of p) = refl
bit-turned b (operation o ts) = refl
bit-turned b (choice_of c f t) = refl

negated-turned : (t : Tree) → negated (turned t) ≡ option_map turned (negated t)
negated-turned (operation Not (more_trees x no_trees)) = refl
negated-turned (operation Not no_trees) = refl
negated-turned (operation Not (more_trees x (more_trees y ts))) = refl
negated-turned _ = refl

that-turned : (o : Option Tree) (x : Tree) → is_that (option_map turned o) (turned x) ≡ is_that o x
that-turned None x = refl
that-turned (Some z) x = same-turned z x

not-of-turned : (y x : Tree) → is_not_of (turned y) (turned x) ≡ is_not_of y x
not-of-turned y x = ap (λ o. is_that o (turned x)) (negated-turned y) ∙ that-turned (negated y) x

abbrev both_turned : Tree × Tree → Tree × Tree
both_turned p = (turned p.0, turned p.1)

anded-turned : (t : Tree) → anded (turned t) ≡ option_map both_turned (anded t)
anded-turned (operation And (more_trees q (more_trees a no_trees))) = refl
anded-turned (operation And no_trees) = refl
anded-turned (operation And (more_trees q no_trees)) = refl
anded-turned (operation And (more_trees q (more_trees a (more_trees b ts)))) = refl
anded-turned _ = refl

some-if-turned : (b : Bool) (q : Tree) → (if b then Some (turned q) else None) ≡ option_map turned (if b then Some q else None)
some-if-turned true q = refl
some-if-turned false q = refl

halves-turned : (x y : Option (Tree × Tree)) → halves (option_map both_turned x) (option_map both_turned y) ≡ option_map turned (halves x y)
halves-turned None y = refl
halves-turned (Some p) None = refl
halves-turned (Some (q, a)) (Some (r, b)) =
    (λ i. if same-turned q r i && (not-of-turned b a i || not-of-turned a b i) then Some (turned q) else None)
    ∙ some-if-turned (same_tree q r && (is_not_of b a || is_not_of a b)) q

found-turned : (o : Option Tree) (u : Tree) → turned (found_or o u) ≡ found_or (option_map turned o) (turned u)
found-turned None u = refl
found-turned (Some t) u = refl

-- ---- the equations

-- the first of seven terms whose test holds, else the last one
abbrev pub seven : (a b c d e f g : Bool) (p q r s t u v w : Tree) → Tree
seven a b c d e f g p q r s t u v w = if a then p else if b then q else if c then r else if d then s else if e then t else if f then u else if g then v else w

seven-turned : (a b c d e f g : Bool) (p q r s t u v w : Tree)
    → turned (seven a b c d e f g p q r s t u v w) ≡ seven a b c d e f g (turned p) (turned q) (turned r) (turned s) (turned t) (turned u) (turned v) (turned w)
seven-turned true b c d e f g p q r s t u v w = refl
seven-turned false true c d e f g p q r s t u v w = refl
seven-turned false false true d e f g p q r s t u v w = refl
seven-turned false false false true e f g p q r s t u v w = refl
seven-turned false false false false true f g p q r s t u v w = refl
seven-turned false false false false false true g p q r s t u v w = refl
seven-turned false false false false false false true p q r s t u v w = refl
seven-turned false false false false false false false p q r s t u v w = refl

abbrev pub five : (a b c d e : Bool) (p q r s t u : Tree) → Tree
five a b c d e p q r s t u = if a then p else if b then q else if c then r else if d then s else if e then t else u

five-turned : (a b c d e : Bool) (p q r s t u : Tree) → turned (five a b c d e p q r s t u) ≡ five a b c d e (turned p) (turned q) (turned r) (turned s) (turned t) (turned u)
five-turned true b c d e p q r s t u = refl
five-turned false true c d e p q r s t u = refl
five-turned false false true d e p q r s t u = refl
five-turned false false false true e p q r s t u = refl
five-turned false false false false true p q r s t u = refl
five-turned false false false false false p q r s t u = refl

if-turned : (b : Bool) (x y : Tree) → turned (if b then x else y) ≡ (if b then turned x else turned y)
if-turned true x y = refl
if-turned false x y = refl

not-rows-turned : (x : Tree) → turned (not_rows x) ≡ not_rows (turned x)
not-rows-turned x = found-turned (negated x) (operation_on Not (x ∷ [])) ∙ ap (λ o. found_or o (operation_on Not (turned x ∷ []))) (sym (negated-turned x))

make-not-turned : (x : Tree) → turned (make_not x) ≡ make_not (turned x)
make-not-turned x =
    if-turned (is_constant x) (constant (apply Not (value_in x ∷ []))) (not_rows x)
    ∙ (λ i. if sym (constant-turned x) i then constant (apply Not (sym (value-turned x) i ∷ [])) else not-rows-turned x i)

zero-like-turned : (x : Tree) → zero_like (turned x) ≡ zero_like x
zero-like-turned x = ap (λ n. constant (int_value (width_in n) 0)) (type-turned x)

ones-like-turned : (x : Tree) → ones_like (turned x) ≡ ones_like x
ones-like-turned x = ap (λ n. constant (int_value (width_in n) (2 ^ width_in n - 1))) (type-turned x)

and-rows-turned : (x y : Tree) → turned (and_rows x y) ≡ and_rows (turned x) (turned y)
and-rows-turned x y =
    seven-turned (is_zero y) (is_zero x) (is_ones y) (is_ones x) (same_tree x y) (is_not_of y x) (is_not_of x y) y x x y x (zero_like x) (zero_like x) (operation_on And (x ∷ y ∷ []))
    ∙ (λ i. seven (sym (zero-turned y) i) (sym (zero-turned x) i) (sym (ones-turned y) i) (sym (ones-turned x) i) (sym (same-turned x y) i) (sym (not-of-turned y x) i) (sym (not-of-turned x y) i)
    (turned y) (turned x) (turned x) (turned y) (turned x) (sym (zero-like-turned x) i) (sym (zero-like-turned x) i) (operation_on And (turned x ∷ turned y ∷ [])))

or-last-turned : (x y : Tree) → turned (found_or (halves (anded x) (anded y)) (operation_on Or (x ∷ y ∷ [])))
    ≡ found_or (halves (anded (turned x)) (anded (turned y))) (operation_on Or (turned x ∷ turned y ∷ []))
or-last-turned x y =
    found-turned (halves (anded x) (anded y)) (operation_on Or (x ∷ y ∷ []))
    ∙ ap (λ o. found_or o (operation_on Or (turned x ∷ turned y ∷ []))) (sym ((λ i. halves (anded-turned x i) (anded-turned y i)) ∙ halves-turned (anded x) (anded y)))

or-rows-turned : (x y : Tree) → turned (or_rows x y) ≡ or_rows (turned x) (turned y)
or-rows-turned x y =
    seven-turned (is_zero y) (is_zero x) (is_ones y) (is_ones x) (same_tree x y) (is_not_of y x) (is_not_of x y) x y y x x (ones_like x) (ones_like x)
    (found_or (halves (anded x) (anded y)) (operation_on Or (x ∷ y ∷ [])))
    ∙ (λ i. seven (sym (zero-turned y) i) (sym (zero-turned x) i) (sym (ones-turned y) i) (sym (ones-turned x) i) (sym (same-turned x y) i) (sym (not-of-turned y x) i) (sym (not-of-turned x y) i)
    (turned x) (turned y) (turned y) (turned x) (turned x) (sym (ones-like-turned x) i) (sym (ones-like-turned x) i) (or-last-turned x y i))

eq-rows-turned : (x y : Tree) → turned (eq_rows x y) ≡ eq_rows (turned x) (turned y)
eq-rows-turned x y =
    five-turned (same_tree x y) (is_bit 1 y) (is_bit 1 x) (is_bit 0 y) (is_bit 0 x) (bit_of true) x y (make_not x) (make_not y) (operation_on Eq (x ∷ y ∷ []))
    ∙ (λ i. five (sym (same-turned x y) i) (sym (bit-turned 1 y) i) (sym (bit-turned 1 x) i) (sym (bit-turned 0 y) i) (sym (bit-turned 0 x) i)
    (bit_of true) (turned x) (turned y) (make-not-turned x i) (make-not-turned y i) (operation_on Eq (turned x ∷ turned y ∷ [])))

neq-rows-turned : (x y : Tree) → turned (neq_rows x y) ≡ neq_rows (turned x) (turned y)
neq-rows-turned x y =
    five-turned (same_tree x y) (is_bit 0 y) (is_bit 0 x) (is_bit 1 y) (is_bit 1 x) (bit_of false) x y (make_not x) (make_not y) (operation_on Neq (x ∷ y ∷ []))
    ∙ (λ i. five (sym (same-turned x y) i) (sym (bit-turned 0 y) i) (sym (bit-turned 0 x) i) (sym (bit-turned 1 y) i) (sym (bit-turned 1 x) i)
    (bit_of false) (turned x) (turned y) (make-not-turned x i) (make-not-turned y i) (operation_on Neq (turned x ∷ turned y ∷ [])))

plain-turned : (o : Op) (ts : List Tree) → turned (operation_on o ts) ≡ operation_on o (all_turned ts)
plain-turned o ts = ap (operation o) (row-turned ts)

rows-of-turned : (o : Op) (ts : List Tree) → turned (rows_of o ts) ≡ rows_of o (all_turned ts)
rows-of-turned Not (x ∷ []) = not-rows-turned x
rows-of-turned And (x ∷ y ∷ []) = and-rows-turned x y
rows-of-turned Or (x ∷ y ∷ []) = or-rows-turned x y
rows-of-turned Eq (x ∷ y ∷ []) = eq-rows-turned x y
rows-of-turned Neq (x ∷ y ∷ []) = neq-rows-turned x y
rows-of-turned o ts = plain-turned o ts

pub make-turned : (o : Op) (ts : List Tree) → turned (make_operation o ts) ≡ make_operation o (all_turned ts)
make-turned o ts =
    if-turned (all_constant ts) (constant (apply o (values_in ts))) (rows_of o ts)
    ∙ (λ i. if sym (constants-turned ts) i then constant (apply o (sym (values-turned ts) i)) else rows-of-turned o ts i)

pub choice-turned : (c f t : Tree) → turned (make_choice c f t) ≡ make_choice (turned c) (turned f) (turned t)
choice-turned c f t =
    five-turned (is_bit 0 c) (is_bit 1 c) (same_tree f t) (is_bit 0 f && is_bit 1 t) (is_bit 1 f && is_bit 0 t) f t f c (make_not c) (choice_of c f t)
    ∙ (λ i. five (sym (bit-turned 0 c) i) (sym (bit-turned 1 c) i) (sym (same-turned f t) i) (sym (bit-turned 0 f) i && sym (bit-turned 1 t) i) (sym (bit-turned 1 f) i && sym (bit-turned 0 t) i)
    (turned f) (turned t) (turned f) (turned c) (make-not-turned c i) (choice_of (turned c) (turned f) (turned t)))

-- ---- conjuncts

joins-turned : (o : Op) (ts : TreeRow) → joins_bits o (turned_row ts) ≡ joins_bits o ts
joins-turned And ts = ap (λ us. same_type (row_result And us) (int_type 1)) (types-turned ts)
joins-turned o ts = refl

list-if-turned : (b : Bool) (xs ys : List Tree) → (if b then all_turned xs else all_turned ys) ≡ all_turned (if b then xs else ys)
list-if-turned true xs ys = refl
list-if-turned false xs ys = refl

mutual
  pub all-turned : (t : Tree) → all_conjuncts (turned t) ≡ all_turned (all_conjuncts t)
  all-turned (constant v) = list-if-turned (is_bit_value 1 v) [] (constant v ∷ [])
  all-turned (past_of p) = refl
  all-turned (now_of p) = refl
  all-turned (choice_of c f t) = refl
  all-turned (operation o ts) =
      (λ i. if joins-turned o ts i then joined-turned ts i else operation o (turned_row ts) ∷ [])
      ∙ list-if-turned (joins_bits o ts) (joined_conjuncts ts) (operation o ts ∷ [])

  pub joined-turned : (ts : TreeRow) → joined_conjuncts (turned_row ts) ≡ all_turned (joined_conjuncts ts)
  joined-turned no_trees = refl
  joined-turned (more_trees t ts) = (λ i. all-turned t i ++ joined-turned ts i) ∙ sym (map_append turned (all_conjuncts t) (joined_conjuncts ts))

pub any-turned : (t : Tree) (ks : List Tree) → list_any (same_tree (turned t)) (all_turned ks) ≡ list_any (same_tree t) ks
any-turned t [] = refl
any-turned t (k ∷ ks) = λ i. same-turned t k i || any-turned t ks i

with-turned : (ks : List Tree) (t : Tree) → with_term (all_turned ks) (turned t) ≡ all_turned (with_term ks t)
with-turned ks t =
    (λ i. if any-turned t ks i then all_turned ks else sym (map_push turned ks t) i)
    ∙ list-if-turned (list_any (same_tree t) ks) ks (ks ++ t ∷ [])

withs-turned : (ks ts : List Tree) → with_terms (all_turned ks) (all_turned ts) ≡ all_turned (with_terms ks ts)
withs-turned ks [] = refl
withs-turned ks (t ∷ ts) = ap (λ z. with_terms z (all_turned ts)) (with-turned ks t) ∙ withs-turned (with_term ks t) ts

pub conjuncts-turned : (t : Tree) → conjuncts_of (turned t) ≡ all_turned (conjuncts_of t)
conjuncts-turned t = ap (with_terms []) (all-turned t) ∙ withs-turned [] (all_conjuncts t)

from-turned : (k : Tree) (ts : List Tree) → conjunction_from (turned k) (all_turned ts) ≡ turned (conjunction_from k ts)
from-turned k [] = refl
from-turned k (t ∷ ts) = ap (λ z. conjunction_from z (all_turned ts)) (sym (make-turned And (k ∷ t ∷ []))) ∙ from-turned (make_operation And (k ∷ t ∷ [])) ts

pub conjunction-turned : (ts : List Tree) → conjunction (all_turned ts) ≡ turned (conjunction ts)
conjunction-turned ts = from-turned (bit_of true) ts

pub filter-turned : (f g : Tree → Bool) → ((t : Tree) → f (turned t) ≡ g t) → (ts : List Tree) → filter f (all_turned ts) ≡ all_turned (filter g ts)
filter-turned f g h [] = refl
filter-turned f g h (t ∷ ts) =
    (λ i. if h t i then turned t ∷ filter-turned f g h ts i else filter-turned f g h ts i)
    ∙ list-if-turned (g t) (t ∷ filter g ts) (filter g ts)
