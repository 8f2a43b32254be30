-- What a condition means is what its atoms hold.
use Rattle.std.proofs.Common.{◌≡◌, Bool, true, false, not, cond, ◌&&◌, ◌||◌, if◌then◌else◌, List, [], ◌∷◌, refl, sym, ap, ◌∙◌, subst}
use Rattle.std.specs.List.{list_all, filter}
use Rattle.std.specs.Cmp.{first_so, second_so}
use Rattle.lh_types.specs.Types.{TypeTree, int_type, same_type}
use Rattle.lh_types.specs.Values.{Datum}
use Rattle.lh_types.specs.Same.{same-is, same-refl}
use Rattle.lh_types.specs.Apply.{apply, bit_value}
use Rattle.lh_types.specs.declared.op.Op.{Op}
use Rattle.lh_types.specs.declared.op.Op.TheVariants.{Not, And, Or, Xor, Eq, Neq}
use Rattle.lh_types.proofs.Tests.{or_false_left, or_false_right}
use Rattle.lh_ops.proofs.BooleanLemmas.{bits_are_boolean_lem}
use Rattle.lh_term.specs.Tree.{Tree, TreeRow, constant, past_of, now_of, operation, choice_of, no_trees, more_trees}
use Rattle.lh_term.specs.Types.{IsTyped, AreTyped, type_of, types_of, TakesTypes}
use Rattle.lh_term.specs.Mean.{Valuation, IsFitting, mean, means, chosen, is_one}
use Rattle.lh_term.specs.Make.{is_bit_value, bit_of}
use Rattle.lh_term.specs.Conjuncts.{conjuncts_of, conjunction}
use Rattle.lh_term.proofs.Sound.{IsBit, IntTerm, bit_mean, bit_typed}
use Rattle.lh_term.proofs.Conditions.{AllBits, conjuncts_are_bits, filter-bits, one_bit, and_assoc, holds as all_hold, from_all, condition_sound}
use Rattle.lh_edge.specs.Atoms.{contains_past, some_past, edge_part, is_one_bit, are_one_bit, connects, is_connective}
use Rattle.lh_edge.specs.Valuations.{differ, connected, holds, bits_of}

-- ---- bits

pub bit_back : (b : Bool) → is_bit_value 1 (bit_value b) ≡ b
bit_back true = refl
bit_back false = refl

pub as_bit : (v : Datum) → IsBit v → v ≡ bit_value (is_bit_value 1 v)
as_bit v i = i.is ∙ ap bit_value (sym (bit_back i.bit) ∙ ap (is_bit_value 1) (sym i.is))

pub same_bits : (a b : Bool) → bit_value a ≡ bit_value b → a ≡ b
same_bits a b e = sym (bit_back a) ∙ ap (is_bit_value 1) e ∙ bit_back b

-- the bit that a term means, where the parts have these values
abbrev pub meant : Valuation → Valuation → Tree → Bool
meant past now t = is_bit_value 1 (mean past now t)

chosen_bit : (b : Bool) (f t : Datum) → chosen (bit_value b) f t ≡ (if b then t else f)
chosen_bit true f t = refl
chosen_bit false f t = refl

if_bits : (b f t : Bool) → (if b then bit_value t else bit_value f) ≡ bit_value (if b then t else f)
if_bits true f t = refl
if_bits false f t = refl

differ_if : (x y : Bool) → (if x then not y else y) ≡ differ x y
differ_if true y = refl
differ_if false y = refl

agree_if : (x y : Bool) → (if x then y else not y) ≡ not (differ x y)
agree_if true true = refl
agree_if true false = refl
agree_if false y = refl

abbrev as_values : List Bool → List Datum
as_values [] = []
as_values (b ∷ bs) = bit_value b ∷ as_values bs

one_term : (ts : TreeRow) (u : TypeTree) → types_of ts ≡ u ∷ [] → (a : Tree) × (ts ≡ more_trees a no_trees)
one_term no_trees u e = cc
one_term (more_trees a no_trees) u e = (a, refl)
one_term (more_trees a (more_trees b ts)) u e = cc

two_terms : (ts : TreeRow) (u w : TypeTree) → types_of ts ≡ u ∷ w ∷ [] → (a : Tree) × (b : Tree) × (ts ≡ more_trees a (more_trees b no_trees))
two_terms no_trees u w e = cc
two_terms (more_trees a no_trees) u w e = cc
two_terms (more_trees a (more_trees b no_trees)) u w e = (a, b, refl)
two_terms (more_trees a (more_trees b (more_trees d ts))) u w e = cc

module _ (v : Tree → Bool) where
  -- a connective on truth values
  abbrev IsConnected : Op → TreeRow → Type 0
  IsConnected op ts = apply op (as_values (bits_of v ts)) ≡ bit_value (connected op (bits_of v ts))

  for_one : (op : Op) → ((x : Bool) → apply op (bit_value x ∷ []) ≡ bit_value (connected op (x ∷ []))) → (ts : TreeRow) (u : TypeTree) → types_of ts ≡ u ∷ [] → IsConnected op ts
  for_one op f ts u e = let r = one_term ts u e in subst (IsConnected op) (sym r.1) (f (holds v r.0))

  for_two : (op : Op) → ((x y : Bool) → apply op (bit_value x ∷ bit_value y ∷ []) ≡ bit_value (connected op (x ∷ y ∷ []))) → (ts : TreeRow) (u w : TypeTree) → types_of ts ≡ u ∷ w ∷ []
      → IsConnected op ts
  for_two op f ts u w e = let r = two_terms ts u w e in subst (IsConnected op) (sym r.2) (f (holds v r.0) (holds v r.1))

  connective_bits : (op : Op) (ts : TreeRow) → connects op ≡ true → TakesTypes op (types_of ts) → IsConnected op ts
  connective_bits Not ts c k = for_one Not (λ x. let r = bits_are_boolean_lem.rows x x in r.not_bit) ts (int_type k.row.0) k.row.1
  connective_bits And ts c k = for_two And (λ x y. let r = bits_are_boolean_lem.rows x y in r.and_bits) ts (int_type k.row.0) (int_type k.row.0) k.row.1
  connective_bits Or ts c k = for_two Or (λ x y. let r = bits_are_boolean_lem.rows x y in r.or_bits) ts (int_type k.row.0) (int_type k.row.0) k.row.1
  connective_bits Xor ts c k = for_two Xor (λ x y. let r = bits_are_boolean_lem.rows x y in r.xor_bits ∙ ap bit_value (differ_if x y)) ts (int_type k.row.0) (int_type k.row.0) k.row.1
  connective_bits Eq ts c k = for_two Eq (λ x y. let r = bits_are_boolean_lem.rows x y in r.eq_bits ∙ ap bit_value (agree_if x y)) ts k.row.0 k.row.0 k.row.1
  connective_bits Neq ts c k = for_two Neq (λ x y. let r = bits_are_boolean_lem.rows x y in r.neq_bits ∙ ap bit_value (differ_if x y)) ts k.row.0 k.row.0 k.row.1
  connective_bits op ts c k = cc

-- ---- a term of one bit means what its atoms hold

module _ (past now : Valuation) (p : IsFitting past) (n : IsFitting now) where
  mutual
    pub means_held : (t : Tree) → IsTyped t → type_of t ≡ int_type 1 → mean past now t ≡ bit_value (holds (meant past now) t)
    means_held (constant d) h e = as_bit d (bit_mean (constant d) (record { typed = h; type = e }) past now p n) ∙ ap bit_value (at (is_one_bit (constant d)))
      where
        at : (b : Bool) → is_bit_value 1 d ≡ (if b then is_bit_value 1 d else is_bit_value 1 d)
        at true = refl
        at false = refl
    means_held (past_of q) h e = as_bit (past q) (bit_mean (past_of q) (record { typed = h; type = e }) past now p n)
    means_held (now_of q) h e = as_bit (now q) (bit_mean (now_of q) (record { typed = h; type = e }) past now p n)
    means_held (operation op ts) h e = at (is_connective op ts) refl (means_each ts h.0)
      where
        at : (b : Bool) → is_connective op ts ≡ b → (are_one_bit ts ≡ true → means past now ts ≡ as_values (bits_of (meant past now) ts)) →
            apply op (means past now ts) ≡ bit_value (if b then connected op (bits_of (meant past now) ts) else meant past now (operation op ts))
        at true k next = ap (apply op) (next (second_so (connects op) (are_one_bit ts) k)) ∙ connective_bits (meant past now) op ts (first_so (connects op) (are_one_bit ts) k) h.1
        at false k next = as_bit (apply op (means past now ts)) (bit_mean (operation op ts) (record { typed = h; type = e }) past now p n)
    means_held (choice_of c f t) h e =
        let one : is_one_bit f ≡ true = ap (λ u. same_type u (int_type 1)) e ∙ same-refl (int_type 1) in
        let b : Bool = holds (meant past now) c in
        let x : Bool = holds (meant past now) f in
        let y : Bool = holds (meant past now) t in
        (λ i. chosen (means_held c h.0 h.3.0 i) (means_held f h.1 e i) (means_held t h.2 (sym h.3.1 ∙ e) i))
        ∙ chosen_bit b (bit_value x) (bit_value y) ∙ if_bits b x y
        ∙ ap (λ (s : Bool). bit_value (if s then (if b then y else x) else meant past now (choice_of c f t))) (sym one)

    means_each : (ts : TreeRow) → AreTyped ts → are_one_bit ts ≡ true → means past now ts ≡ as_values (bits_of (meant past now) ts)
    means_each no_trees h e = refl
    means_each (more_trees t ts) h e =
        let a = means_held t h.0 (same-is (type_of t) (int_type 1) (first_so (is_one_bit t) (are_one_bit ts) e)) in
        let b = means_each ts h.1 (second_so (is_one_bit t) (are_one_bit ts) e) in
        λ i. a i ∷ b i

-- ---- conjuncts

-- whether a value of one bit is 1
one_is : (v : Datum) → IsBit v → is_one v ≡ is_bit_value 1 v
one_is v i = ap is_one i.is ∙ one_bit i.bit ∙ sym (ap (is_bit_value 1) i.is ∙ bit_back i.bit)

each_holds : (past now : Valuation) → IsFitting past → IsFitting now → (ts : List Tree) → AllBits ts → all_hold past now ts ≡ list_all (meant past now) ts
each_holds past now p n [] h = refl
each_holds past now p n (t ∷ ts) h =
    let a = one_is (mean past now t) (bit_mean t h.0 past now p n) in
    let b = each_holds past now p n ts h.1 in
    λ i. a i && b i

-- what a conjunction means
pub record Joins (ts : List Tree) (x : Tree) : Type 0 where
  pub bit : IntTerm x 1
  pub value : (past now : Valuation) → IsFitting past → IsFitting now → mean past now x ≡ bit_value (list_all (meant past now) ts)

pub joins : (ts : List Tree) → AllBits ts → Joins ts (conjunction ts)
joins ts h =
    let r = from_all (bit_of true) ts (record { typed = bit_typed true; type = refl }) h in
    record { bit = r.bit; value = λ past now p n. r.value past now p n ∙ ap bit_value (each_holds past now p n ts h) }

-- ---- a term without values before means the same, whatever they were

mutual
  pub without_past : (p q n : Valuation) (t : Tree) → contains_past t ≡ false → mean p n t ≡ mean q n t
  without_past p q n (constant v) e = refl
  without_past p q n (past_of x) e = cc
  without_past p q n (now_of x) e = refl
  without_past p q n (operation op ts) e = ap (apply op) (without_pasts p q n ts e)
  without_past p q n (choice_of c f t) e =
      let r : (contains_past f || contains_past t) ≡ false = or_false_right (contains_past c) (contains_past f || contains_past t) e in
      let a = without_past p q n c (or_false_left (contains_past c) (contains_past f || contains_past t) e) in
      let b = without_past p q n f (or_false_left (contains_past f) (contains_past t) r) in
      let d = without_past p q n t (or_false_right (contains_past f) (contains_past t) r) in
      λ i. chosen (a i) (b i) (d i)

  without_pasts : (p q n : Valuation) (ts : TreeRow) → some_past ts ≡ false → means p n ts ≡ means q n ts
  without_pasts p q n no_trees e = refl
  without_pasts p q n (more_trees t ts) e =
      let a = without_past p q n t (or_false_left (contains_past t) (some_past ts) e) in
      let b = without_pasts p q n ts (or_false_right (contains_past t) (some_past ts) e) in
      λ i. a i ∷ b i

-- ---- a condition is its edge part and a rest over the present

-- the bit of the conjuncts without values before
abbrev pub rest_holds : Valuation → Valuation → Tree → Bool
rest_holds past now c = list_all (meant past now) (filter (λ t. not (contains_past t)) (conjuncts_of c))

split_all : (f g : Tree → Bool) (ts : List Tree) → list_all f ts ≡ (list_all f (filter g ts) && list_all f (filter (λ t. not (g t)) ts))
split_all f g [] = refl
split_all f g (t ∷ ts) = at (g t) (split_all f g ts)
  where
    swap_left : (a b c : Bool) → (a && (b && c)) ≡ (b && (a && c))
    swap_left true b c = refl
    swap_left false true c = refl
    swap_left false false c = refl

    at : (b : Bool) → list_all f ts ≡ (list_all f (filter g ts) && list_all f (filter (λ t. not (g t)) ts)) →
        (f t && list_all f ts) ≡ (list_all f (cond b (t ∷ filter g ts) (filter g ts)) && list_all f (cond (not b) (t ∷ filter (λ t. not (g t)) ts) (filter (λ t. not (g t)) ts)))
    at true e = ap (λ b. f t && b) e ∙ sym (and_assoc (f t) (list_all f (filter g ts)) (list_all f (filter (λ t. not (g t)) ts)))
    at false e = ap (λ b. f t && b) e ∙ swap_left (f t) (list_all f (filter g ts)) (list_all f (filter (λ t. not (g t)) ts))

pub rest_same : (p q n : Valuation) (c : Tree) → rest_holds p n c ≡ rest_holds q n c
rest_same p q n c = at (conjuncts_of c)
  where
    at : (ts : List Tree) → list_all (meant p n) (filter (λ t. not (contains_past t)) ts) ≡ list_all (meant q n) (filter (λ t. not (contains_past t)) ts)
    at [] = refl
    at (t ∷ ts) = one (contains_past t) refl (at ts)
      where
        one : (b : Bool) → contains_past t ≡ b → list_all (meant p n) (filter (λ t. not (contains_past t)) ts) ≡ list_all (meant q n) (filter (λ t. not (contains_past t)) ts) →
            list_all (meant p n) (cond (not b) (t ∷ filter (λ t. not (contains_past t)) ts) (filter (λ t. not (contains_past t)) ts))
            ≡ list_all (meant q n) (cond (not b) (t ∷ filter (λ t. not (contains_past t)) ts) (filter (λ t. not (contains_past t)) ts))
        one true e r = r
        one false e r = let a : meant p n t ≡ meant q n t = ap (is_bit_value 1) (without_past p q n t e) in λ i. a i && r i

pub record Splits (c : Tree) (past now : Valuation) : Type 0 where
  pub whole : mean past now c ≡ bit_value (holds (meant past now) (edge_part c) && rest_holds past now c)

pub splits : (c : Tree) → IsTyped c → type_of c ≡ int_type 1 → (past now : Valuation) → IsFitting past → IsFitting now → Splits c past now
unfolding edge_part
splits c h e past now p n =
    let bits : AllBits (conjuncts_of c) = conjuncts_are_bits c h e in
    let all = joins (conjuncts_of c) bits in
    let edge = joins (filter contains_past (conjuncts_of c)) (filter-bits contains_past (conjuncts_of c) bits) in
    let same = condition_sound c h e in
    let held : holds (meant past now) (conjunction (filter contains_past (conjuncts_of c))) ≡ list_all (meant past now) (filter contains_past (conjuncts_of c)) =
    same_bits _ _ (sym (means_held past now p n (conjunction (filter contains_past (conjuncts_of c))) edge.bit.typed edge.bit.type) ∙ edge.value past now p n) in
    record {
      whole = sym (same.mean past now p n) ∙ all.value past now p n
          ∙ ap bit_value (split_all (meant past now) contains_past (conjuncts_of c) ∙ ap (λ b. b && rest_holds past now c) (sym held));
    }
