-- The parts that can show, put in order one by one.
use Rattle.std.proofs.Common.{◌≡◌, ℕ, suc, ◌-◌, ◌<◌, ◌≤◌, Bool, true, false, if◌then◌else◌, List, [], ◌∷◌, length, drop, get_or, refl, sym, ap, ◌∙◌, subst, arith, Some, None, drop-cons, drop_of_length-le}
use Rattle.lh_term.specs.declared.part.Part.{Part}
use Rattle.lh_term.specs.declared.term.TermId.{TermId}
use Rattle.lh_term.specs.declared.term.TermNode.{TermNode}
use Rattle.lh_term.specs.Tree.{Tree, constant, past_of, now_of, operation, choice_of}
use Rattle.lh_term.specs.Arena.{tree_at, trees, trees_at}
use Rattle.lh_edge.specs.Shown.{can_show, showing_parts}
use Rattle.lh_edge.specs.Triggers.{in_order}
use Rattle.lh_edge.specs.Steps.{showing_of, with_showing}

showing_put : (waited : List Part) (t : Tree) (ts : List Tree) → in_order (showing_parts waited (t ∷ ts)) ≡ with_showing (showing_of waited t) (in_order (showing_parts waited ts))
showing_put waited (past_of p) ts = at (can_show waited p)
  where
    at : (b : Bool) → in_order (if b then p ∷ showing_parts waited ts else showing_parts waited ts) ≡ with_showing (if b then Some p else None) (in_order (showing_parts waited ts))
    at true = refl
    at false = refl
showing_put waited (constant v) ts = refl
showing_put waited (now_of p) ts = refl
showing_put waited (operation op us) ts = refl
showing_put waited (choice_of a b t) ts = refl

pub showing_start : (waited : List Part) (ns : List TermNode) (atoms : List TermId) (parts : List Part) (k : ℕ) → parts ≡ [] → length atoms ≤ k
    → parts ≡ in_order (showing_parts waited (trees_at ns (drop k atoms)))
showing_start waited ns atoms parts k e l = e ∙ ap (λ xs. in_order (showing_parts waited (trees_at ns xs))) (sym (drop_of_length-le atoms l))

pub showing_turn : (waited : List Part) (ns : List TermNode) (atoms : List TermId) (k : ℕ) (d : TermId) (old more : List Part) → 0 < k → k ≤ length atoms
    → old ≡ in_order (showing_parts waited (trees_at ns (drop k atoms))) → more ≡ with_showing (showing_of waited (tree_at (trees ns) (get_or atoms (k - 1) d))) old
    → more ≡ in_order (showing_parts waited (trees_at ns (drop (k - 1) atoms)))
showing_turn waited ns atoms k d old more h l o m =
    let up : suc (k - 1) ≡ k = omega arith in
    let x = get_or atoms (k - 1) d in
    let cut : drop (k - 1) atoms ≡ x ∷ drop k atoms = drop-cons atoms (k - 1) d (omega arith) ∙ ap (λ n. x ∷ drop n atoms) up in
    m ∙ ap (with_showing (showing_of waited (tree_at (trees ns) x))) o
    ∙ sym (showing_put waited (tree_at (trees ns) x) (trees_at ns (drop k atoms)))
    ∙ ap (λ xs. in_order (showing_parts waited (trees_at ns xs))) (sym cut)

pub showing_end : (waited : List Part) (ns : List TermNode) (atoms : List TermId) (k : ℕ) (parts : List Part) → k ≡ 0 → parts ≡ in_order (showing_parts waited (trees_at ns (drop k atoms)))
    → parts ≡ in_order (showing_parts waited (trees_at ns atoms))
showing_end waited ns atoms k parts e h = subst (λ (n : ℕ). parts ≡ in_order (showing_parts waited (trees_at ns (drop n atoms)))) e h
