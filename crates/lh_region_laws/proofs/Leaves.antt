-- What the terms have that a term is made of, it has itself.
use Rattle.std.proofs.Common.{◌≡◌, ℕ, List, [], ◌∷◌, ◌++◌, filter, Bool, true, false, ◌&&◌, ◌||◌, Option, Some, None, refl, subst, ◌-◌, ◌^◌}
use Rattle.std.specs.Bool.{if◌then◌else◌}
use Rattle.std.specs.List.{list_any}
use Rattle.std.proofs.lemmas.Option.{same_Some, none-some}
use Rattle.lh_types.specs.Values.{Datum, int_value}
use Rattle.lh_types.specs.Apply.{apply}
use Rattle.lh_types.specs.declared.op.Op.{Op}
use Rattle.lh_types.specs.declared.op.Op.TheVariants.{Not, And, Or, Eq, Neq}
use Rattle.lh_unit.specs.Within.{Each}
use Rattle.lh_unit.proofs.Lists.{Each-append}
use Rattle.lh_term.specs.Tree.{Tree, TreeRow, constant, past_of, now_of, operation, choice_of, no_trees, more_trees, tree_row, operation_on}
use Rattle.lh_term.specs.Leaves.{AllLeaves}
use Rattle.lh_term.specs.declared.part.Part.{Part}
use Rattle.lh_term.specs.SameTree.{same_tree}
use Rattle.lh_term.specs.Make.{is_constant, all_constant, value_in, values_in, is_zero, is_ones, is_bit, is_bit_value, negated, is_not_of, anded, halves, zero_like, ones_like, width_in, bit_of, found_or, not_rows, make_not, and_rows, or_rows, eq_rows, neq_rows, rows_of, make_operation, make_choice}
use Rattle.lh_term.specs.Conjuncts.{joins_bits, all_conjuncts, joined_conjuncts, with_term, with_terms, conjuncts_of, conjunction_from, conjunction}
use Rattle.lh_term.specs.Types.{type_of}
use Rattle.lh_region_laws.proofs.Trees.{seven, five}

-- each operand has it
abbrev pub RowIn : (Tree → Type 0) → TreeRow → Type 0
RowIn In no_trees = Unit {0}
RowIn In (more_trees t ts) = In t × RowIn In ts

-- an operation and a choice have it just where their operands do; so do an integer, and what is computed of constants that have it
pub record IsOfLeaves (In : Tree → Type 0) : Type 0 where
  pub integer : (n a : ℕ) → In (constant (int_value n a))
  pub bit : (b : Bool) → In (bit_of b)
  pub computed : (o : Op) (ts : List Tree) → Each In ts → In (constant (apply o (values_in ts)))
  pub joined : (o : Op) (ts : TreeRow) → RowIn In ts → In (operation o ts)
  pub parted : (o : Op) (ts : TreeRow) → In (operation o ts) → RowIn In ts
  pub chosen : (c f t : Tree) → In c → In f → In t → In (choice_of c f t)

module _ (C : Datum → Type 0) (P : Part → Type 0) where
  pub leaves-joined : (o : Op) (ts : TreeRow) → RowIn (AllLeaves C P) ts → AllLeaves C P (operation o ts)
  leaves-joined o no_trees h = tt
  leaves-joined o (more_trees t ts) h = (h.0, leaves-joined o ts h.1)

  pub leaves-parted : (o : Op) (ts : TreeRow) → AllLeaves C P (operation o ts) → RowIn (AllLeaves C P) ts
  leaves-parted o no_trees h = tt
  leaves-parted o (more_trees t ts) h = (h.0, leaves-parted o ts h.1)

module _ (In : Tree → Type 0) (leaves : IsOfLeaves In) where
  abbrev pub AllIn : List Tree → Type 0
  AllIn ts = Each In ts

  row-in : (ts : List Tree) → AllIn ts → RowIn In (tree_row ts)
  row-in [] h = tt
  row-in (t ∷ ts) h = (h.0, row-in ts h.1)

  on : (o : Op) (ts : List Tree) → AllIn ts → In (operation_on o ts)
  on o ts h = leaves.joined o (tree_row ts) (row-in ts h)

  zero-in : (x : Tree) → In (zero_like x)
  zero-in x = leaves.integer (width_in (type_of x)) 0

  ones-in : (x : Tree) → In (ones_like x)
  ones-in x = leaves.integer (width_in (type_of x)) (2 ^ width_in (type_of x) - 1)

  if-in : (b : Bool) (x y : Tree) → In x → In y → In (if b then x else y)
  if-in true x y h k = h
  if-in false x y h k = k

  list-if-in : (b : Bool) (xs ys : List Tree) → AllIn xs → AllIn ys → AllIn (if b then xs else ys)
  list-if-in true xs ys h k = h
  list-if-in false xs ys h k = k

  seven-in : (a b c d e f g : Bool) (p q r s t u v w : Tree) → In p → In q → In r → In s → In t → In u → In v → In w → In (seven a b c d e f g p q r s t u v w)
  seven-in true b c d e f g p q r s t u v w hp hq hr hs ht hu hv hw = hp
  seven-in false true c d e f g p q r s t u v w hp hq hr hs ht hu hv hw = hq
  seven-in false false true d e f g p q r s t u v w hp hq hr hs ht hu hv hw = hr
  seven-in false false false true e f g p q r s t u v w hp hq hr hs ht hu hv hw = hs
  seven-in false false false false true f g p q r s t u v w hp hq hr hs ht hu hv hw = ht
  seven-in false false false false false true g p q r s t u v w hp hq hr hs ht hu hv hw = hu
  seven-in false false false false false false true p q r s t u v w hp hq hr hs ht hu hv hw = hv
  seven-in false false false false false false false p q r s t u v w hp hq hr hs ht hu hv hw = hw

  five-in : (a b c d e : Bool) (p q r s t u : Tree) → In p → In q → In r → In s → In t → In u → In (five a b c d e p q r s t u)
  five-in true b c d e p q r s t u hp hq hr hs ht hu = hp
  five-in false true c d e p q r s t u hp hq hr hs ht hu = hq
  five-in false false true d e p q r s t u hp hq hr hs ht hu = hr
  five-in false false false true e p q r s t u hp hq hr hs ht hu = hs
  five-in false false false false true p q r s t u hp hq hr hs ht hu = ht
  five-in false false false false false p q r s t u hp hq hr hs ht hu = hu

  -- ---- what is taken out of a term

  negated-in : (t x : Tree) → In t → negated t ≡ Some x → In x
  negated-in (operation Not (more_trees y no_trees)) x h e = subst In (same_Some y x e) (leaves.parted Not (more_trees y no_trees) h).0
  negated-in _ x h e = absurd (none-some x e)

  anded-in : (t : Tree) (p : Tree × Tree) → In t → anded t ≡ Some p → In p.0
  anded-in (operation And (more_trees q (more_trees a no_trees))) p h e = subst (λ (z : Tree × Tree). In z.0) (same_Some (q, a) p e) (leaves.parted And (more_trees q (more_trees a no_trees)) h).0
  anded-in _ p h e = absurd (none-some p e)

  halves-in : (x y : Option (Tree × Tree)) (q : Tree) → ((p : Tree × Tree) → x ≡ Some p → In p.0) → halves x y ≡ Some q → In q
  halves-in None y q h e = absurd (none-some q e)
  halves-in (Some p) None q h e = absurd (none-some q e)
  halves-in (Some (s, a)) (Some (r, b)) q h e = by (same_tree s r && (is_not_of b a || is_not_of a b)) e
    where
      by : (z : Bool) → (if z then Some s else None) ≡ Some q → In q
      by true g = subst In (same_Some s q g) (h (s, a) refl)
      by false g = absurd (none-some q g)

  found-in : (o : Option Tree) (t : Tree) → ((x : Tree) → o ≡ Some x → In x) → In t → In (found_or o t)
  found-in None t h k = k
  found-in (Some x) t h k = h x refl

  -- ---- the equations

  not-rows-in : (x : Tree) → In x → In (not_rows x)
  not-rows-in x h = found-in (negated x) (operation_on Not (x ∷ [])) (λ y e. negated-in x y h e) (on Not (x ∷ []) (h, tt))

  make-not-in : (x : Tree) → In x → In (make_not x)
  make-not-in x h = if-in (is_constant x) (constant (apply Not (value_in x ∷ []))) (not_rows x) (leaves.computed Not (x ∷ []) (h, tt)) (not-rows-in x h)

  and-rows-in : (x y : Tree) → In x → In y → In (and_rows x y)
  and-rows-in x y h k =
      seven-in (is_zero y) (is_zero x) (is_ones y) (is_ones x) (same_tree x y) (is_not_of y x) (is_not_of x y) y x x y x (zero_like x) (zero_like x) (operation_on And (x ∷ y ∷ []))
      k h h k h (zero-in x) (zero-in x) (on And (x ∷ y ∷ []) (h, (k, tt)))

  or-rows-in : (x y : Tree) → In x → In y → In (or_rows x y)
  or-rows-in x y h k =
      seven-in (is_zero y) (is_zero x) (is_ones y) (is_ones x) (same_tree x y) (is_not_of y x) (is_not_of x y) x y y x x (ones_like x) (ones_like x)
      (found_or (halves (anded x) (anded y)) (operation_on Or (x ∷ y ∷ [])))
      h k k h h (ones-in x) (ones-in x)
      (found-in (halves (anded x) (anded y)) (operation_on Or (x ∷ y ∷ [])) (λ q e. halves-in (anded x) (anded y) q (λ p f. anded-in x p h f) e) (on Or (x ∷ y ∷ []) (h, (k, tt))))

  eq-rows-in : (x y : Tree) → In x → In y → In (eq_rows x y)
  eq-rows-in x y h k =
      five-in (same_tree x y) (is_bit 1 y) (is_bit 1 x) (is_bit 0 y) (is_bit 0 x) (bit_of true) x y (make_not x) (make_not y) (operation_on Eq (x ∷ y ∷ []))
      (leaves.bit true) h k (make-not-in x h) (make-not-in y k) (on Eq (x ∷ y ∷ []) (h, (k, tt)))

  neq-rows-in : (x y : Tree) → In x → In y → In (neq_rows x y)
  neq-rows-in x y h k =
      five-in (same_tree x y) (is_bit 0 y) (is_bit 0 x) (is_bit 1 y) (is_bit 1 x) (bit_of false) x y (make_not x) (make_not y) (operation_on Neq (x ∷ y ∷ []))
      (leaves.bit false) h k (make-not-in x h) (make-not-in y k) (on Neq (x ∷ y ∷ []) (h, (k, tt)))

  rows-of-in : (o : Op) (ts : List Tree) → AllIn ts → In (rows_of o ts)
  rows-of-in Not (x ∷ []) h = not-rows-in x h.0
  rows-of-in And (x ∷ y ∷ []) h = and-rows-in x y h.0 h.1.0
  rows-of-in Or (x ∷ y ∷ []) h = or-rows-in x y h.0 h.1.0
  rows-of-in Eq (x ∷ y ∷ []) h = eq-rows-in x y h.0 h.1.0
  rows-of-in Neq (x ∷ y ∷ []) h = neq-rows-in x y h.0 h.1.0
  rows-of-in o ts h = on o ts h

  pub make-in : (o : Op) (ts : List Tree) → AllIn ts → In (make_operation o ts)
  make-in o ts h = if-in (all_constant ts) (constant (apply o (values_in ts))) (rows_of o ts) (leaves.computed o ts h) (rows-of-in o ts h)

  pub choice-in : (c f t : Tree) → In c → In f → In t → In (make_choice c f t)
  choice-in c f t h i j =
      five-in (is_bit 0 c) (is_bit 1 c) (same_tree f t) (is_bit 0 f && is_bit 1 t) (is_bit 1 f && is_bit 0 t) f t f c (make_not c) (choice_of c f t)
      i j i h (make-not-in c h) (leaves.chosen c f t h i j)

  -- ---- conjuncts

  mutual
    all-in : (t : Tree) → In t → AllIn (all_conjuncts t)
    all-in (constant v) h = list-if-in (is_bit_value 1 v) [] (constant v ∷ []) tt (h, tt)
    all-in (past_of p) h = (h, tt)
    all-in (now_of p) h = (h, tt)
    all-in (choice_of c f t) h = (h, tt)
    all-in (operation o ts) h = list-if-in (joins_bits o ts) (joined_conjuncts ts) (operation o ts ∷ []) (joined-in ts (leaves.parted o ts h)) (h, tt)

    joined-in : (ts : TreeRow) → RowIn In ts → AllIn (joined_conjuncts ts)
    joined-in no_trees h = tt
    joined-in (more_trees t ts) h = Each-append In (all_conjuncts t) (joined_conjuncts ts) (all-in t h.0) (joined-in ts h.1)

  with-in : (ks : List Tree) (t : Tree) → AllIn ks → In t → AllIn (with_term ks t)
  with-in ks t h k = list-if-in (list_any (same_tree t) ks) ks (ks ++ t ∷ []) h (Each-append In ks (t ∷ []) h (k, tt))

  withs-in : (ks ts : List Tree) → AllIn ks → AllIn ts → AllIn (with_terms ks ts)
  withs-in ks [] h k = h
  withs-in ks (t ∷ ts) h k = withs-in (with_term ks t) ts (with-in ks t h k.0) k.1

  pub conjuncts-in : (t : Tree) → In t → AllIn (conjuncts_of t)
  conjuncts-in t h = withs-in [] (all_conjuncts t) tt (all-in t h)

  from-in : (k : Tree) (ts : List Tree) → In k → AllIn ts → In (conjunction_from k ts)
  from-in k [] h i = h
  from-in k (t ∷ ts) h i = from-in (make_operation And (k ∷ t ∷ [])) ts (make-in And (k ∷ t ∷ []) (h, (i.0, tt))) i.1

  pub conjunction-in : (ts : List Tree) → AllIn ts → In (conjunction ts)
  conjunction-in ts h = from-in (bit_of true) ts (leaves.bit true) h

  pub filter-in : (f : Tree → Bool) (ts : List Tree) → AllIn ts → AllIn (filter f ts)
  filter-in f [] h = tt
  filter-in f (t ∷ ts) h = list-if-in (f t) (t ∷ filter f ts) (filter f ts) (h.0, filter-in f ts h.1) (filter-in f ts h.1)
