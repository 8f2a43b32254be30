-- What is told of terms, from the lowest id upwards.
use Rattle.std.proofs.Common.{◌≡◌, ℕ, zero, suc, ◌-◌, ◌<◌, ◌≤◌, inl, inr, Bool, true, false, nat_eq, if◌then◌else◌, List, [], ◌∷◌, length, drop, get_or, refl, ap, sym, ◌∙◌, subst, arith, drop-cons}
use Rattle.std.proofs.lemmas.Bool.{or_cases}
use Rattle.lh_term.specs.declared.term.TermId.{TermId}
use Rattle.lh_term.specs.declared.term.Term.{Term}
use Rattle.lh_term.specs.declared.term.Term.TheVariants.{Op as Applied, Choice}
use Rattle.lh_types.specs.declared.op.Op.{Op}
use Rattle.lh_term.specs.Reach.{operands_of, Leads, is_on, AllPass, GoOn, none_left}
use Rattle.lh_term.specs.declared.term.TermNode.{TermNode}
use Rattle.lh_term.specs.Tree.{Tree}
use Rattle.lh_types.specs.Same.{nat_eq-refl, nat_eq-is}
use Rattle.lh_term.specs.Arena.{tree_at, trees}
use Rattle.lh_term.proofs.TermWalks.{is_behind}
use Rattle.lh_edge.specs.Reached.{TellsPassed, TellsNext}
use Rattle.lh_edge.proofs.Joined.{at_place}

module _ (ns : List TermNode) (p : Tree → Bool) where
  pub tells_on : (f : ℕ → Bool) (xs : List TermId) (i : ℕ) → TellsPassed ns p f xs → is_on xs i ≡ true → f i ≡ p (tree_at (trees ns) (record { 0 = i }))
  tells_on f [] i h o = cc
  tells_on f (x ∷ xs) i h o = elim (or_cases (nat_eq i x.0) (is_on xs i) o) [
    | inl e ↦ let q : i ≡ x.0 = nat_eq-is i x.0 e in ap f q ∙ h.0 ∙ ap p (sym (at_place (trees ns) x i q))
    | inr r ↦ tells_on f xs i h.1 r
  ]

  -- what is told of a list is told of those that are on it
  pub tells_those : (f : ℕ → Bool) (ids xs : List TermId) → TellsPassed ns p f ids → AllPass (is_on ids) xs → TellsPassed ns p f xs
  tells_those f ids [] t h = tt
  tells_those f ids (x ∷ xs) t h = (tells_on f ids x.0 t h.0, tells_those f ids xs t h.1)

  tells_kept : (f g : ℕ → Bool) (x : TermId) → ((q : ℕ) → g q ≡ (if nat_eq x.0 q then p (tree_at (trees ns) x) else f q)) → (xs : List TermId) → TellsPassed ns p f xs → TellsPassed ns p g xs
  tells_kept f g x m [] t = tt
  tells_kept f g x m (y ∷ xs) t = (at (nat_eq x.0 y.0) refl, tells_kept f g x m xs t.1)
    where
      at : (b : Bool) → nat_eq x.0 y.0 ≡ b → g y.0 ≡ p (tree_at (trees ns) y)
      at true e = m y.0 ∙ ap (λ (b : Bool). if b then p (tree_at (trees ns) x) else f y.0) e ∙ ap p (at_place (trees ns) y x.0 (nat_eq-is x.0 y.0 e))
      at false e = m y.0 ∙ ap (λ (b : Bool). if b then p (tree_at (trees ns) x) else f y.0) e ∙ t.0

  own : (f g : ℕ → Bool) (x : TermId) → ((q : ℕ) → g q ≡ (if nat_eq x.0 q then p (tree_at (trees ns) x) else f q)) → g x.0 ≡ p (tree_at (trees ns) x)
  own f g x m = at (nat_eq x.0 x.0) refl
    where
      at : (b : Bool) → nat_eq x.0 x.0 ≡ b → g x.0 ≡ p (tree_at (trees ns) x)
      at true e = m x.0 ∙ ap (λ (b : Bool). if b then p (tree_at (trees ns) x) else f x.0) e
      at false e = let w : false ≡ true = sym e ∙ nat_eq-refl x.0 in cc

  pub tells_op : (f : ℕ → Bool) (k : Term) (op : Op) (args ys : List TermId) → k ≡ Applied op args → ys ≡ args → TellsPassed ns p f (operands_of k) → TellsPassed ns p f ys
  tells_op f k op args ys e h t = subst (λ (xs : List TermId). TellsPassed ns p f xs) (sym h) (subst (λ (z : Term). TellsPassed ns p f (operands_of z)) e t)

  pub tells_choice : (f : ℕ → Bool) (k : Term) (c d e : TermId) → k ≡ Choice c d e → TellsPassed ns p f (operands_of k) → TellsPassed ns p f (c ∷ d ∷ e ∷ [])
  tells_choice f k c d e is t = subst (λ (z : Term). TellsPassed ns p f (operands_of z)) is t

  -- what is told at a place of a list
  pub tells_at : (f : ℕ → Bool) (xs : List TermId) (i : ℕ) (d : TermId) → i < length xs → TellsPassed ns p f xs → f (get_or xs i d).0 ≡ p (tree_at (trees ns) (get_or xs i d))
  tells_at f [] i d l t = absurd (omega arith)
  tells_at f (x ∷ xs) zero d l t = t.0
  tells_at f (x ∷ xs) (suc i) d l t = tells_at f xs i d (omega arith) t.1

  module _ (leads : Leads) (f : ℕ → Bool) where
    next_in : (ids : List TermId) (j : ℕ) (d : TermId) → GoOn leads ns none_left ids → j < length ids → TellsPassed ns p f (drop (suc j) ids) → TellsNext leads ns p f (get_or ids j d)
    next_in [] j d g l t = absurd (omega arith)
    next_in (x ∷ ids) zero d g l t = λ k at. tells_those f ids (leads k) t (is_behind leads ns x ids k (g.0 k at))
    next_in (x ∷ ids) (suc j) d g l t = next_in ids j d g.1 (omega arith) t

    -- the last of the terms of which nothing is told yet
    pub tells_next : (ids : List TermId) (k : ℕ) (d : TermId) → GoOn leads ns none_left ids → 0 < k → k ≤ length ids → TellsPassed ns p f (drop k ids) → TellsNext leads ns p f (get_or ids (k - 1) d)
    tells_next ids k d g h l t = let e : k ≡ suc (k - 1) = omega arith in next_in ids (k - 1) d g (omega arith) (subst (λ (n : ℕ). TellsPassed ns p f (drop n ids)) e t)

  pub tells_more : (f g : ℕ → Bool) (ids : List TermId) (k : ℕ) (d : TermId) (b : Bool) → 0 < k → k ≤ length ids → b ≡ p (tree_at (trees ns) (get_or ids (k - 1) d))
      → ((q : ℕ) → g q ≡ (if nat_eq (get_or ids (k - 1) d).0 q then b else f q)) → TellsPassed ns p f (drop k ids) → TellsPassed ns p g (drop (k - 1) ids)
  tells_more f g ids k d b h l is m t =
      let x = get_or ids (k - 1) d in
      let e : k ≡ suc (k - 1) = omega arith in
      let cut : drop (k - 1) ids ≡ x ∷ drop (suc (k - 1)) ids = drop-cons ids (k - 1) d (omega arith) in
      let u : TellsPassed ns p f (drop (suc (k - 1)) ids) = subst (λ (n : ℕ). TellsPassed ns p f (drop n ids)) e t in
      let n : (q : ℕ) → g q ≡ (if nat_eq x.0 q then p (tree_at (trees ns) x) else f q) = λ q. m q ∙ ap (λ (v : Bool). if nat_eq x.0 q then v else f q) is in
      subst (λ (xs : List TermId). TellsPassed ns p g xs) (sym cut) (own f g x n, tells_kept f g x n (drop (suc (k - 1)) ids) u)

  -- what is told of one of all
  pub tells_one : (f : ℕ → Bool) (ids : List TermId) (x : TermId) (k : ℕ) → k ≡ 0 → TellsPassed ns p f (drop k ids) → is_on ids x.0 ≡ true → f x.0 ≡ p (tree_at (trees ns) x)
  tells_one f ids x k z t o = tells_on f ids x.0 (subst (λ (n : ℕ). TellsPassed ns p f (drop n ids)) z t) o
