-- What two terms have at the valuations of their atoms.
use Rattle.std.proofs.Common.{◌≡◌, ℕ, ◌<◌, ◌≤◌, ◌^◌, Bool, true, false, not, ◌&&◌, nat_le, List, ◌++◌, length, refl, sym, ap, ◌∙◌, arith, ◌*◌, ◌↔◌, IsTrue, Option, Some}
use Rattle.std.specs.List.{list_all}
use Rattle.std.specs.Cmp.{second_so, both_ways}
use Rattle.std.proofs.lemmas.Bool.{and_from}
use Rattle.std.proofs.lemmas.Bool.Decides.{nat_tests}
use Rattle.lh_term.specs.declared.term.TermId.{TermId}
use Rattle.lh_term.specs.declared.term.TermNode.{TermNode}
use Rattle.lh_term.specs.Tree.{Tree}
use Rattle.lh_term.specs.Arena.{trees_at, tree_at, trees}
use Rattle.lh_term.proofs.Arenas.{map_length}
use Rattle.lh_edge.specs.Atoms.{subterms, has, each_once}
use Rattle.lh_edge.specs.Valuations.{differ, holds, all_valuations}
use Rattle.lh_edge.specs.Steps.{numbered, AreIdsOf, AreAllIdsOf}
use Rattle.lh_edge.proofs.Bools.{has_left, has_right, has_once}
use Rattle.lh_edge.proofs.Once.{once_distinct, fits_in}
use Rattle.lh_edge.proofs.Tables.{holds_same, pick, all_changed}
use Rattle.lh_edge.proofs.Numbers.{number, number_below, numbered_number}
use Rattle.lh_cert_agree.specs.Agreeing.{atoms_of_both, same_bit, agree_by}
use Rattle.lh_cert_agree.specs.Gates.{bit_in, gate_bits, AreGates, AreSame}
use Rattle.lh_cert_agree.specs.declared.gates.Gate.{Gate}

no_differ : (x y : Bool) → not (differ x y) ≡ true → x ≡ y
no_differ true true e = refl
no_differ true false e = cc
no_differ false true e = cc
no_differ false false e = refl

same_no : (x y : Bool) → x ≡ y → not (differ x y) ≡ true
same_no true true e = refl
same_no true false e = cc
same_no false true e = cc
same_no false false e = refl

module _ (a b : Tree) where
  -- the same at every valuation of atoms, among which are those of both: the same at all functions
  pub everywhere : (atoms : List Tree) → ((t : Tree) → has (subterms a ++ subterms b) t ≡ true → has atoms t ≡ true) → list_all (same_bit a b) (all_valuations atoms) ≡ true
      → (v : Tree → Bool) → holds v a ≡ holds v b
  everywhere atoms whole h v =
      let w = pick (same_bit a b) atoms (λ t. false) v h in
      sym (holds_same w.at v a (λ x k. w.on x (whole x (has_left (subterms a) (subterms b) x k))))
      ∙ no_differ (holds w.at a) (holds w.at b) w.passes
      ∙ holds_same w.at v b (λ x k. w.on x (whole x (has_right (subterms a) (subterms b) x k)))

  all_same : (atoms : List Tree) → ((v : Tree → Bool) → holds v a ≡ holds v b) → list_all (same_bit a b) (all_valuations atoms) ≡ true
  all_same atoms h = all_changed (same_bit a b) atoms (λ t. false) (λ w k. same_no (holds w a) (holds w b) (h w))

  -- the same at the first numbers, of which there are enough
  by_numbers : (atoms : List Tree) (m : ℕ) → ((t : Tree) → has (subterms a ++ subterms b) t ≡ true → has atoms t ≡ true) → 2 ^ length atoms ≤ m
      → ((n : ℕ) → n < m → holds (numbered atoms n) a ≡ holds (numbered atoms n) b) → (v : Tree → Bool) → holds v a ≡ holds v b
  by_numbers atoms m whole l h v =
      let k : number v atoms < m = omega (arith, number_below v atoms) in
      sym (holds_same (numbered atoms (number v atoms)) v a (λ x e. numbered_number v atoms x (whole x (has_left (subterms a) (subterms b) x e))))
      ∙ h (number v atoms) k
      ∙ holds_same (numbered atoms (number v atoms)) v b (λ x e. numbered_number v atoms x (whole x (has_right (subterms a) (subterms b) x e)))

few_true : (k : ℕ) → k ≤ 12 → nat_le k 12 ≡ true
few_true k h = grind (arith, nat_tests)

many_false : (k : ℕ) → 12 < k → false ≡ nat_le k 12
many_false k h = grind (arith, nat_tests)

module _ (ns : List TermNode) (a b : Tree) (ids : List TermId) where
  abbrev S : List Tree
  S = subterms a ++ subterms b

  counted : length (trees_at ns ids) ≡ length ids
  counted = map_length (tree_at (trees ns)) ids

  few : AreAllIdsOf ns S ids → nat_le (length (each_once S)) 12 ≡ true
  few all =
      let l = fits_in (each_once S) (trees_at ns ids) (once_distinct S) (λ x h. all.whole x (sym (has_once S x) ∙ h)) in
      let f = all.few in
      few_true (length (each_once S)) (omega (arith, counted))

  -- the same at the numbers: the answer on at most twelve atoms
  pub answered : AreAllIdsOf ns S ids → (answer : Bool) (m : ℕ) → 2 ^ length ids ≤ m
      → (answer ≡ true → (n : ℕ) → n < m → holds (numbered (trees_at ns ids) n) a ≡ holds (numbered (trees_at ns ids) n) b)
      → (((n : ℕ) → n < m → holds (numbered (trees_at ns ids) n) a ≡ holds (numbered (trees_at ns ids) n) b) → answer ≡ true) → answer ≡ agree_by (atoms_of_both a b) a b
  answered all answer m l to from =
      let e : 2 ^ length (trees_at ns ids) ≡ 2 ^ length ids = ap (λ n. 2 ^ n) counted in
      let k : 2 ^ length (trees_at ns ids) ≤ m = omega arith in
      both_ways answer (agree_by (atoms_of_both a b) a b)
      (λ q. and_from _ _ (few all) (all_same a b (each_once S) (by_numbers a b (trees_at ns ids) m all.whole k (to q))))
      (λ q. from (λ n h. everywhere a b (each_once S) (λ t i. has_once S t ∙ i) (second_so _ _ q) (numbered (trees_at ns ids) n)))

  -- more than twelve atoms
  pub too_many : AreIdsOf ns S ids → 12 < length ids → false ≡ agree_by (atoms_of_both a b) a b
  too_many are l =
      let k = fits_in (trees_at ns ids) (each_once S) are.distinct (λ x h. has_once S x ∙ are.sound x h) in
      let f : false ≡ nat_le (length (each_once S)) 12 = many_false (length (each_once S)) (omega (arith, counted)) in
      ap (λ c. c && list_all (same_bit a b) (all_valuations (each_once S))) f

  -- the answer of gates
  pub by_gates : (x y : TermId) → tree_at (trees ns) x ≡ a → tree_at (trees ns) y ≡ b → AreAllIdsOf ns S ids → (gates : List Gate) (places : ℕ → Option ℕ) → AreGates ns (trees_at ns ids) gates places
      → (p q : ℕ) → places x.0 ≡ Some p → places y.0 ≡ Some q → (blocks : ℕ) → 2 ^ length ids ≤ 64 * blocks → (answer : Bool) → IsTrue answer ↔ AreSame gates p q blocks
      → answer ≡ agree_by (atoms_of_both a b) a b
  by_gates x y ex ey all gates places g p q ep eq blocks l answer s =
      let left : (n : ℕ) → bit_in (gate_bits n gates) p ≡ holds (numbered (trees_at ns ids) n) a = (λ n. g.right x.0 p ep n ∙ ap (holds (numbered (trees_at ns ids) n)) ex) in
      let right : (n : ℕ) → bit_in (gate_bits n gates) q ≡ holds (numbered (trees_at ns ids) n) b = (λ n. g.right y.0 q eq n ∙ ap (holds (numbered (trees_at ns ids) n)) ey) in
      answered all answer (64 * blocks) l (λ t n h. sym (left n) ∙ s.0 t n h ∙ right n) (λ h. s.1 (λ n k. left n ∙ h n k ∙ sym (right n)))
