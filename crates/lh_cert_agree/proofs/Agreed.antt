-- Terms that agree mean the same.
use Rattle.std.proofs.Common.{◌≡◌, Bool, true, false, ◌&&◌, ◌||◌, nat_le, ◌++◌, length, refl, sym, ap, ◌∙◌, inl, inr}
use Rattle.std.specs.List.{list_all}
use Rattle.std.specs.Cmp.{first_so, second_so}
use Rattle.std.proofs.lemmas.Bool.{or_cases}
use Rattle.lh_types.specs.Types.{int_type}
use Rattle.lh_types.specs.Same.{same-is}
use Rattle.lh_types.specs.Apply.{bit_value}
use Rattle.lh_term.specs.Tree.{Tree}
use Rattle.lh_term.specs.Types.{IsTyped, type_of}
use Rattle.lh_term.specs.Mean.{mean}
use Rattle.lh_term.specs.SameTree.{same_tree, same_tree-is}
use Rattle.lh_edge.specs.Atoms.{is_one_bit, subterms, each_once}
use Rattle.lh_edge.specs.Valuations.{all_valuations}
use Rattle.lh_edge.proofs.Bools.{has_once}
use Rattle.lh_edge.proofs.AtomMeanings.{meant, means_held}
use Rattle.lh_cert_agree.specs.Agreeing.{atoms_of_both, same_bit, agree_by, agree}
use Rattle.lh_cert_agree.specs.Laws.{MeansOne}
use Rattle.lh_cert_agree.proofs.Everywhere.{everywhere}

pub agreed : (a b : Tree) → IsTyped a → IsTyped b → agree a b ≡ true → MeansOne a b
unfolding agree
agreed a b h k e = elim (or_cases (same_tree a b) (is_one_bit a && (is_one_bit b && agree_by (atoms_of_both a b) a b)) e) [
  | inl s ↦ let q = same_tree-is a b s in record { type = ap type_of q; mean = λ past now p n. ap (mean past now) q }
  | inr r ↦
      let r2 = second_so (is_one_bit a) (is_one_bit b && agree_by (atoms_of_both a b) a b) r in
      let ta = same-is (type_of a) (int_type 1) (first_so (is_one_bit a) (is_one_bit b && agree_by (atoms_of_both a b) a b) r) in
      let tb = same-is (type_of b) (int_type 1) (first_so (is_one_bit b) (agree_by (atoms_of_both a b) a b) r2) in
      let S = subterms a ++ subterms b in
      let all : list_all (same_bit a b) (all_valuations (each_once S)) ≡ true = second_so (nat_le (length (each_once S)) 12) _ (second_so (is_one_bit b) (agree_by (atoms_of_both a b) a b) r2) in
      record {
        type = ta ∙ sym tb;
        mean = λ past now p n. means_held past now p n a h ta
            ∙ ap bit_value (everywhere a b (each_once S) (λ t i. has_once S t ∙ i) all (meant past now)) ∙ sym (means_held past now p n b k tb);
      }
]

-- ---- as the code asks

pub agree_same : (a b : Tree) → same_tree a b ≡ true → true ≡ agree a b
unfolding agree
agree_same a b e = ap (λ c. c || (is_one_bit a && (is_one_bit b && agree_by (atoms_of_both a b) a b))) (sym e)

pub agree_bits : (a b : Tree) (x : Bool) → same_tree a b ≡ false → (is_one_bit a && (is_one_bit b && true)) ≡ true → x ≡ agree_by (atoms_of_both a b) a b → x ≡ agree a b
unfolding agree
agree_bits a b x e h k =
    let p : is_one_bit a ≡ true = first_so (is_one_bit a) (is_one_bit b && true) h in
    let q : is_one_bit b ≡ true = first_so (is_one_bit b) true (second_so (is_one_bit a) (is_one_bit b && true) h) in
    k ∙ sym (λ i. e i || (p i && (q i && agree_by (atoms_of_both a b) a b)))

pub agree_wide : (a b : Tree) → same_tree a b ≡ false → (is_one_bit a && (is_one_bit b && true)) ≡ false → false ≡ agree a b
unfolding agree
agree_wide a b e h = at (is_one_bit a) (is_one_bit b) (agree_by (atoms_of_both a b) a b) h ∙ ap (λ c. c || (is_one_bit a && (is_one_bit b && agree_by (atoms_of_both a b) a b))) (sym e)
  where
    at : (p q x : Bool) → (p && (q && true)) ≡ false → false ≡ (p && (q && x))
    at true true x k = cc
    at true false x k = refl
    at false q x k = refl
