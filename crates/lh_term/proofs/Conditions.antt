-- A condition means what the conjunction of its conjuncts does.
use Rattle.std.proofs.Common.{◌≡◌, List, [], ◌∷◌, ◌++◌, Bool, true, false, ◌&&◌, ◌||◌, refl, ap, sym, ◌∙◌, subst}
use Rattle.std.specs.Bool.{if◌then◌else◌}
use Rattle.std.specs.List.{list_any, filter}
use Rattle.std.proofs.Math.Bool.{and-true}
use Rattle.lh_types.specs.Types.{TypeTree, int_type, row_of, IsData, same_type}
use Rattle.lh_types.specs.Values.{Datum, int_value, data_row}
use Rattle.lh_types.specs.Fits.{FitsRow}
use Rattle.lh_types.specs.Same.{same-is, same-refl}
use Rattle.lh_types.specs.Apply.{apply, bit_value}
use Rattle.lh_types.specs.declared.op.Op.TheVariants.{And}
use Rattle.lh_ops.proofs.BooleanLemmas.{bits_are_boolean_lem}
use Rattle.lh_term.specs.Tree.{Tree, TreeRow, constant, past_of, now_of, operation, choice_of, no_trees, more_trees, operation_on}
use Rattle.lh_term.specs.Types.{first_of, type_of, types_of, TakesTypes, IsTyped, AreTyped}
use Rattle.lh_term.specs.Mean.{Valuation, IsFitting, mean, means, is_one}
use Rattle.lh_term.specs.SameTree.{same_tree, same_tree-is}
use Rattle.lh_term.specs.Make.{is_bit_value, bit_of, make_operation}
use Rattle.lh_term.specs.Conjuncts.{all_conjuncts, joined_conjuncts, with_term, with_terms, conjuncts_of, conjunction_from, conjunction}
use Rattle.lh_term.specs.Laws.{MeansSame}
use Rattle.lh_term.proofs.TermTypes.{means_fit}
use Rattle.lh_term.proofs.Sound.{IsBit, IntTerm, bit_mean, bit_value_is, bit_of_fit, bit_typed, one_wide, operation_sound}

-- ---- terms of one bit

abbrev pub AllBits : List Tree → Type 0
AllBits [] = Unit {0}
AllBits (t ∷ ts) = IntTerm t 1 × AllBits ts

pub AllBits-append : (xs ys : List Tree) → AllBits xs → AllBits ys → AllBits (xs ++ ys)
AllBits-append [] ys p q = q
AllBits-append (x ∷ xs) ys p q = (p.0, AllBits-append xs ys p.1 q)

-- each type is that of one bit
abbrev pub AllInt1 : List TypeTree → Type 0
AllInt1 [] = Unit {0}
AllInt1 (u ∷ us) = (u ≡ int_type 1) × AllInt1 us

-- the operands of `and` on one bit are of one bit
pub joined_types : (us : List TypeTree) → TakesTypes And us → same_type (first_of us) (int_type 1) ≡ true → AllInt1 us
joined_types us k e =
    let s : first_of us ≡ int_type 1 = same-is (first_of us) (int_type 1) e in
    let n = k.row.0 in
    let two : us ≡ int_type n ∷ int_type n ∷ [] = k.row.1 in
    let one : int_type n ≡ int_type 1 = ap first_of (sym two) ∙ s in
    let P : List TypeTree → Type 0 = AllInt1 in
    subst P (sym two) (one, (one, tt))

pub two_bits : (us : List TypeTree) → TakesTypes And us → same_type (first_of us) (int_type 1) ≡ true → us ≡ int_type 1 ∷ int_type 1 ∷ []
two_bits us k e =
    let n = k.row.0 in
    let two : us ≡ int_type n ∷ int_type n ∷ [] = k.row.1 in
    let one : int_type n ≡ int_type 1 = ap first_of (sym two) ∙ same-is (first_of us) (int_type 1) e in
    two ∙ (λ i. one i ∷ one i ∷ [])

pub constant_bits : (v : Datum) → IntTerm (constant v) 1 → (b : Bool) → AllBits (if b then [] else constant v ∷ [])
constant_bits v i true = tt
constant_bits v i false = (i, tt)

mutual
  pub conjuncts_bits : (t : Tree) → IsTyped t → type_of t ≡ int_type 1 → AllBits (all_conjuncts t)
  conjuncts_bits (constant v) h e = constant_bits v (record { typed = h; type = e }) (is_bit_value 1 v)
  conjuncts_bits (past_of p) h e = (record { typed = h; type = e }, tt)
  conjuncts_bits (now_of p) h e = (record { typed = h; type = e }, tt)
  conjuncts_bits (choice_of c f t) h e = (record { typed = h; type = e }, tt)
  conjuncts_bits (operation And ts) h e =
      let j : same_type (first_of (types_of ts)) (int_type 1) ≡ true = ap (λ u. same_type u (int_type 1)) e ∙ same-refl (int_type 1) in
      let P : Bool → Type 0 = λ b. AllBits (if b then joined_conjuncts ts else operation And ts ∷ []) in
      subst P (sym j) (joined_bits ts h.0 (joined_types (types_of ts) h.1 j))
  conjuncts_bits (operation op ts) h e = (record { typed = h; type = e }, tt)

  pub joined_bits : (ts : TreeRow) → AreTyped ts → AllInt1 (types_of ts) → AllBits (joined_conjuncts ts)
  joined_bits no_trees h e = tt
  joined_bits (more_trees t ts) h e = AllBits-append (all_conjuncts t) (joined_conjuncts ts) (conjuncts_bits t h.0 e.0) (joined_bits ts h.1 e.1)

pub with_bits : (ks ts : List Tree) → AllBits ks → AllBits ts → AllBits (with_terms ks ts)
with_bits ks [] p q = p
with_bits ks (t ∷ ts) p q = with_bits (with_term ks t) ts (by (list_any (same_tree t) ks)) q.1
  where
    by : (b : Bool) → AllBits (if b then ks else ks ++ t ∷ [])
    by true = p
    by false = AllBits-append ks (t ∷ []) p (q.0, tt)

pub conjuncts_are_bits : (t : Tree) → IsTyped t → type_of t ≡ int_type 1 → AllBits (conjuncts_of t)
conjuncts_are_bits t h e = with_bits [] (all_conjuncts t) tt (conjuncts_bits t h e)

pub filter-bits : (f : Tree → Bool) (ts : List Tree) → AllBits ts → AllBits (filter f ts)
filter-bits f [] h = tt
filter-bits f (t ∷ ts) h = at (f t) (filter-bits f ts h.1)
  where
    at : (b : Bool) → AllBits (filter f ts) → AllBits (if b then t ∷ filter f ts else filter f ts)
    at true g = (h.0, g)
    at false g = g

-- ---- their values

pub one_bit : (b : Bool) → is_one (bit_value b) ≡ b
one_bit true = refl
one_bit false = refl

pub bit_one : (v : Datum) → IsBit v → v ≡ bit_value (is_one v)
bit_one v i = i.is ∙ ap bit_value (sym (one_bit i.bit) ∙ ap is_one (sym i.is))

pub and_one : (v w : Datum) → IsBit v → IsBit w → apply And (v ∷ w ∷ []) ≡ bit_value (is_one v && is_one w)
and_one v w i j =
    let r = bits_are_boolean_lem.rows (is_one v) (is_one w) in
    (λ k. apply And (bit_one v i k ∷ bit_one w j k ∷ [])) ∙ r.and_bits

abbrev pub all_one : List Datum → Bool
all_one [] = true
all_one (v ∷ vs) = is_one v && all_one vs

pub and_assoc : (a b c : Bool) → (a && b) && c ≡ a && (b && c)
and_assoc true b c = refl
and_assoc false b c = refl

-- whether all mean 1
abbrev pub holds : Valuation → Valuation → List Tree → Bool
holds past now [] = true
holds past now (t ∷ ts) = is_one (mean past now t) && holds past now ts

pub holds_append : (past now : Valuation) (xs ys : List Tree) → holds past now (xs ++ ys) ≡ holds past now xs && holds past now ys
holds_append past now [] ys = refl
holds_append past now (x ∷ xs) ys = ap (λ b. is_one (mean past now x) && b) (holds_append past now xs ys) ∙ sym (and_assoc (is_one (mean past now x)) (holds past now xs) (holds past now ys))

-- a term that is there adds nothing
pub and_there : (a b c : Bool) → a && (b && c) ≡ b && (a && c)
and_there true true c = refl
and_there true false c = refl
and_there false true c = refl
and_there false false c = refl

pub and_twice : (a b : Bool) → (a && b) && a ≡ a && b
and_twice true true = refl
and_twice true false = refl
and_twice false b = refl

pub holds_there : (past now : Valuation) (ks : List Tree) (t : Tree) → list_any (same_tree t) ks ≡ true → holds past now ks && is_one (mean past now t) ≡ holds past now ks
holds_there past now [] t e = cc
holds_there past now (k ∷ ks) t e = by (same_tree t k) refl (λ g. holds_there past now ks t g)
  where
    by : (b : Bool) → same_tree t k ≡ b → (list_any (same_tree t) ks ≡ true → holds past now ks && is_one (mean past now t) ≡ holds past now ks)
        → (is_one (mean past now k) && holds past now ks) && is_one (mean past now t) ≡ is_one (mean past now k) && holds past now ks
    by true f rest = ap (λ w. (is_one (mean past now k) && holds past now ks) && is_one (mean past now w)) (same_tree-is t k f) ∙ and_twice (is_one (mean past now k)) (holds past now ks)
    by false f rest =
        let g : list_any (same_tree t) ks ≡ true = ap (λ b. b || list_any (same_tree t) ks) (sym f) ∙ e in
        and_assoc (is_one (mean past now k)) (holds past now ks) (is_one (mean past now t)) ∙ ap (λ b. is_one (mean past now k) && b) (rest g)

pub holds_with : (past now : Valuation) (ks ts : List Tree) → holds past now (with_terms ks ts) ≡ holds past now ks && holds past now ts
holds_with past now ks [] = sym (and-true (holds past now ks))
holds_with past now ks (t ∷ ts) =
    holds_with past now (with_term ks t) ts ∙ ap (λ b. b && holds past now ts) (by (list_any (same_tree t) ks) refl) ∙ and_assoc (holds past now ks) (is_one (mean past now t)) (holds past now ts)
  where
    by : (b : Bool) → list_any (same_tree t) ks ≡ b → holds past now (if b then ks else ks ++ t ∷ []) ≡ holds past now ks && is_one (mean past now t)
    by true e = sym (holds_there past now ks t e)
    by false e = holds_append past now ks (t ∷ []) ∙ ap (λ b. holds past now ks && b) (and-true (is_one (mean past now t)))

-- `and` of the values of two operands of one bit
pub pair_one : (vs : List Datum) → FitsRow (data_row vs) (row_of (int_type 1 ∷ int_type 1 ∷ [])) → apply And vs ≡ bit_value (all_one vs)
pair_one [] f = absurd f
pair_one (v ∷ []) f = absurd f.1
pair_one (v ∷ w ∷ u ∷ vs) f = absurd f.1.1
pair_one (v ∷ w ∷ []) f = and_one v w (bit_of_fit v f.0) (bit_of_fit w f.1.0) ∙ ap (λ b. bit_value (is_one v && b)) (sym (and-true (is_one w)))

module _ (past now : Valuation) (p : IsFitting past) (n : IsFitting now) where
  pub constant_holds : (v : Datum) → IntTerm (constant v) 1 → (b : Bool) → is_bit_value 1 v ≡ b → holds past now (if b then [] else constant v ∷ []) ≡ is_one v
  constant_holds v i true e = let q : v ≡ int_value 1 1 = bit_value_is 1 v e in ap is_one (sym q)
  constant_holds v i false e = and-true (is_one v)

  mutual
    pub conjuncts_hold : (t : Tree) → IsTyped t → type_of t ≡ int_type 1 → holds past now (all_conjuncts t) ≡ is_one (mean past now t)
    conjuncts_hold (constant v) h e = constant_holds v (record { typed = h; type = e }) (is_bit_value 1 v) refl
    conjuncts_hold (past_of q) h e = and-true (is_one (past q))
    conjuncts_hold (now_of q) h e = and-true (is_one (now q))
    conjuncts_hold (choice_of c f t) h e = and-true (is_one (mean past now (choice_of c f t)))
    conjuncts_hold (operation And ts) h e =
        let j : same_type (first_of (types_of ts)) (int_type 1) ≡ true = ap (λ u. same_type u (int_type 1)) e ∙ same-refl (int_type 1) in
        let k = joined_types (types_of ts) h.1 j in
        let us : types_of ts ≡ int_type 1 ∷ int_type 1 ∷ [] = two_bits (types_of ts) h.1 j in
        let F : List TypeTree → Type 0 = λ xs. FitsRow (data_row (means past now ts)) (row_of xs) in
        let m : apply And (means past now ts) ≡ bit_value (all_one (means past now ts)) = pair_one (means past now ts) (subst F us (means_fit past now p n ts h.0)) in
        let P : Bool → Type 0 = λ b. holds past now (if b then joined_conjuncts ts else operation And ts ∷ []) ≡ is_one (apply And (means past now ts)) in
        subst P (sym j) (joined_hold ts h.0 k ∙ sym (one_bit (all_one (means past now ts))) ∙ ap is_one (sym m))
    conjuncts_hold (operation op ts) h e = and-true (is_one (mean past now (operation op ts)))

    pub joined_hold : (ts : TreeRow) → AreTyped ts → AllInt1 (types_of ts) → holds past now (joined_conjuncts ts) ≡ all_one (means past now ts)
    joined_hold no_trees h e = refl
    joined_hold (more_trees t ts) h e =
        holds_append past now (all_conjuncts t) (joined_conjuncts ts) ∙ (λ i. conjuncts_hold t h.0 e.0 i && joined_hold ts h.1 e.1 i)

-- ---- the conjunction

pub and_typed : (x y : Tree) → IntTerm x 1 → IntTerm y 1 → IsTyped (operation_on And (x ∷ y ∷ []))
and_typed x y i j =
    let P : TypeTree → Type 0 = IsData in
    let e = i.type in
    let f = j.type in
    ((i.typed, (j.typed, tt)), record { gives = int_type 1; data_types = (subst P (sym e) one_wide, (subst P (sym f) one_wide, tt)); row = (1, (λ k. e k ∷ f k ∷ []), refl); is_data = one_wide })

-- the conjunction from a term on is of one bit, and means whether all mean 1
pub record IsAll (k : Tree) (ts : List Tree) (x : Tree) : Type 0 where
  pub bit : IntTerm x 1
  pub value : (past now : Valuation) → IsFitting past → IsFitting now → mean past now x ≡ bit_value (is_one (mean past now k) && holds past now ts)

pub from_all : (k : Tree) (ts : List Tree) → IntTerm k 1 → AllBits ts → IsAll k ts (conjunction_from k ts)
from_all k [] i h = record {
  bit = i;
  value = λ past now p n. bit_one (mean past now k) (bit_mean k i past now p n) ∙ ap bit_value (sym (and-true (is_one (mean past now k))));
}
from_all k (t ∷ ts) i h =
    let s = operation_sound And (k ∷ t ∷ []) (and_typed k t i h.0) in
    let a : IntTerm (make_operation And (k ∷ t ∷ [])) 1 = record { typed = s.typed; type = s.type ∙ i.type } in
    let r = from_all (make_operation And (k ∷ t ∷ [])) ts a h.1 in
    record {
      bit = r.bit;
      value = λ past now p n.
          let one : is_one (mean past now (make_operation And (k ∷ t ∷ []))) ≡ is_one (mean past now k) && is_one (mean past now t) =
          ap is_one (s.mean past now p n ∙ and_one (mean past now k) (mean past now t) (bit_mean k i past now p n) (bit_mean t h.0 past now p n))
          ∙ one_bit (is_one (mean past now k) && is_one (mean past now t)) in
          r.value past now p n ∙ ap (λ b. bit_value (b && holds past now ts)) one ∙ ap bit_value (and_assoc (is_one (mean past now k)) (is_one (mean past now t)) (holds past now ts));
    }

pub condition_sound : (t : Tree) → IsTyped t → type_of t ≡ int_type 1 → MeansSame (conjunction (conjuncts_of t)) t
condition_sound t h e =
    let start : IntTerm (bit_of true) 1 = record { typed = bit_typed true; type = refl } in
    let r = from_all (bit_of true) (conjuncts_of t) start (conjuncts_are_bits t h e) in
    let i : IntTerm t 1 = record { typed = h; type = e } in
    record {
      typed = r.bit.typed;
      type = r.bit.type ∙ sym e;
      mean = λ past now p n. r.value past now p n ∙ ap bit_value (holds_with past now [] (all_conjuncts t) ∙ conjuncts_hold past now p n t h e)
          ∙ sym (bit_one (mean past now t) (bit_mean t i past now p n));
    }
