-- The atoms of two terms as they are found.
use Rattle.std.proofs.Common.{◌≡◌, ℕ, ◌+◌, ◌<◌, ◌≤◌, Bool, true, false, not, List, [], ◌∷◌, ◌++◌, length, take, get_or, refl, sym, ◌∙◌, subst, inl, inr}
use Rattle.std.proofs.lemmas.Bool.{or_cases, not-true, not_from_false, false_from_ne_true}
use Rattle.lh_types.proofs.Tests.{not_both}
use Rattle.lh_term.specs.declared.term.TermId.{TermId}
use Rattle.lh_term.specs.declared.term.TermNode.{TermNode}
use Rattle.lh_term.specs.Tree.{Tree}
use Rattle.lh_term.specs.Arena.{tree_at, trees}
use Rattle.lh_term.specs.Reach.{is_on, PassesOn, AreReached}
use Rattle.lh_term.proofs.TermWalks.{pass_on, pass_own}
use Rattle.lh_edge.specs.Atoms.{subterms, has}
use Rattle.lh_edge.specs.Reached.{joined_by}
use Rattle.lh_edge.specs.Steps.{AreAllIdsOf, with_atom}
use Rattle.lh_edge.proofs.Bools.{has_append, has_left, has_right}
use Rattle.lh_edge.proofs.Joined.{joined_sound}
use Rattle.lh_edge.proofs.Found.{FoundSoFar, found_one_more, all_below, take_all}

abbrev pub both_subterms : List TermNode → (a b : TermId) → List Tree
both_subterms ns a b = subterms (tree_at (trees ns) a) ++ subterms (tree_at (trees ns) b)

module _ (ns : List TermNode) (a b : TermId) (ids : List TermId) (r : AreReached (joined_by (trees ns)) ns (a ∷ b ∷ []) ids) where
  abbrev at_id : ℕ → Tree
  at_id j = tree_at (trees ns) (record { 0 = j })

  -- a term that is reached has no subterm but those of the two
  subterm_of : (j : ℕ) (t : Tree) → is_on ids j ≡ true → has (subterms (at_id j)) t ≡ true → has (both_subterms ns a b) t ≡ true
  subterm_of j t o h = at (has (both_subterms ns a b) t) refl
    where
      lacks : ℕ → Bool
      lacks i = not (has (subterms (at_id i)) t)

      passes : PassesOn (joined_by (trees ns)) ns lacks
      passes i k is shown n = pass_own lacks (joined_by (trees ns) k) (λ m e. not_from_false (has (subterms (at_id m)) t) (false_from_ne_true (has (subterms (at_id m)) t)
          (λ y. not_both (has (subterms (at_id i)) t) (joined_sound ns i k shown m t e y) (not-true (has (subterms (at_id i)) t) n))))

      neither : has (both_subterms ns a b) t ≡ false → (x : TermId) → (has (subterms (tree_at (trees ns) x)) t ≡ true → has (both_subterms ns a b) t ≡ true) → lacks x.0 ≡ true
      neither q x f = not_from_false (has (subterms (tree_at (trees ns) x)) t) (false_from_ne_true (has (subterms (tree_at (trees ns) x)) t) (λ y. not_both (has (both_subterms ns a b) t) (f y) q))

      at : (c : Bool) → has (both_subterms ns a b) t ≡ c → c ≡ true
      at true q = refl
      at false q =
          let na = neither q a (has_left (subterms (tree_at (trees ns) a)) (subterms (tree_at (trees ns) b)) t) in
          let nb = neither q b (has_right (subterms (tree_at (trees ns) a)) (subterms (tree_at (trees ns) b)) t) in
          absurd (not_both (has (subterms (at_id j)) t) h (not-true (has (subterms (at_id j)) t) (pass_on lacks ids j (r.only lacks passes (na, (nb, tt))) o)))

  pub found_turn : (found more : List TermId) (n : ℕ) (d : TermId) → n < length ids → FoundSoFar ns (both_subterms ns a b) found (take n ids) → more ≡ with_atom ns found (get_or ids n d)
      → FoundSoFar ns (both_subterms ns a b) more (take (n + 1) ids)
  found_turn found more n d l s m = found_one_more ns (both_subterms ns a b) found ids more n d r.are_in (λ x o t h. subterm_of x.0 t o h) l s m

  pub finds_all : (found : List TermId) (n : ℕ) → length ids ≤ n → length found ≤ 12 → FoundSoFar ns (both_subterms ns a b) found (take n ids) → AreAllIdsOf ns (both_subterms ns a b) found
  finds_all found n z few w =
      let v : FoundSoFar ns (both_subterms ns a b) found ids = subst (λ (xs : List TermId). FoundSoFar ns (both_subterms ns a b) found xs) (take_all ids n z) w in
      record {
        are = v.of;
        few = few;
        whole = λ t h. elim (or_cases (has (subterms (tree_at (trees ns) a)) t) (has (subterms (tree_at (trees ns) b)) t) (sym (has_append (subterms (tree_at (trees ns) a)) (subterms (tree_at (trees ns) b)) t) ∙ h)) [
          | inl k ↦ all_below ns found ids t v.each ids r.are_in (λ j p. p) r.go_on a.0 r.there.0 k
          | inr k ↦ all_below ns found ids t v.each ids r.are_in (λ j p. p) r.go_on b.0 r.there.1.0 k
        ];
      }
