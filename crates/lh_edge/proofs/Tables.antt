-- What holds of the valuations of the atoms holds of all functions that give bits to terms.
use Rattle.std.proofs.Common.{◌≡◌, Bool, true, false, not, ◌&&◌, if◌then◌else◌, List, [], ◌∷◌, ◌++◌, refl, sym, ap, ◌∙◌, inl, inr}
use Rattle.std.specs.List.{list_any, list_all, filter}
use Rattle.std.proofs.lemmas.List.Folds.{list_all-append}
use Rattle.std.specs.Cmp.{first_so, second_so}
use Rattle.std.proofs.lemmas.Bool.{and_from, or_cases, or_left, or_right, not-true, cases_Bool, or_parts}
use Rattle.lh_term.specs.declared.part.Part.{Part}
use Rattle.lh_term.specs.Tree.{Tree, TreeRow, constant, past_of, now_of, operation, choice_of, no_trees, more_trees}
use Rattle.lh_term.specs.Make.{is_bit_value}
use Rattle.lh_term.specs.SameTree.{same_tree, same_tree-is}
use Rattle.lh_term.specs.Same.{same_part, same_part-is}
use Rattle.lh_edge.specs.Atoms.{contains_past, edge_part, is_one_bit, is_connective, subterms, subterms_in, presents, has, atoms_of}
use Rattle.lh_edge.specs.Valuations.{connected, holds, bits_of, with_bit, changed}
use Rattle.lh_edge.specs.Shown.{can_show, showing_parts, is_other_past, shows, is_shown, is_edge_shown, Shows, IsEdgeShown}
use Rattle.lh_edge.proofs.Bools.{differ_is, is_differ, has_append, has_left, has_right, filter_has, not_in_filter, has_self, has_once}
use Rattle.lh_types.proofs.Tests.{not_both}

-- ---- the bit of a term is a matter of its atoms

module _ (v w : Tree → Bool) where
  alone : (t : Tree) (a : Bool) (b : Bool) → ((x : Tree) → has (if b then [] else t ∷ []) x ≡ true → v x ≡ w x) → (if b then a else v t) ≡ (if b then a else w t)
  alone t a true h = refl
  alone t a false h = h t (has_self t [])

  mutual
    pub holds_same : (t : Tree) → ((x : Tree) → has (subterms t) x ≡ true → v x ≡ w x) → holds v t ≡ holds w t
    holds_same (constant d) h = alone (constant d) (is_bit_value 1 d) (is_one_bit (constant d)) h
    holds_same (past_of p) h = h (past_of p) (has_self (past_of p) [])
    holds_same (now_of p) h = h (now_of p) (has_self (now_of p) [])
    holds_same (operation op ts) h = at (is_connective op ts) h (bits_same ts)
      where
        at : (b : Bool) → ((x : Tree) → has (if b then subterms_in ts else operation op ts ∷ []) x ≡ true → v x ≡ w x)
            → (((x : Tree) → has (subterms_in ts) x ≡ true → v x ≡ w x) → bits_of v ts ≡ bits_of w ts) →
            (if b then connected op (bits_of v ts) else v (operation op ts)) ≡ (if b then connected op (bits_of w ts) else w (operation op ts))
        at true h next = ap (connected op) (next h)
        at false h next = h (operation op ts) (has_self (operation op ts) [])
    holds_same (choice_of c f t) h = at (is_one_bit f) h (holds_same c) (holds_same f) (holds_same t)
      where
        at : (b : Bool) → ((x : Tree) → has (if b then subterms c ++ (subterms f ++ subterms t) else choice_of c f t ∷ []) x ≡ true → v x ≡ w x) →
            (((x : Tree) → has (subterms c) x ≡ true → v x ≡ w x) → holds v c ≡ holds w c) →
            (((x : Tree) → has (subterms f) x ≡ true → v x ≡ w x) → holds v f ≡ holds w f) →
            (((x : Tree) → has (subterms t) x ≡ true → v x ≡ w x) → holds v t ≡ holds w t) →
            (if b then (if holds v c then holds v t else holds v f) else v (choice_of c f t)) ≡ (if b then (if holds w c then holds w t else holds w f) else w (choice_of c f t))
        at true h p q r =
            let a = p (λ x k. h x (has_left (subterms c) (subterms f ++ subterms t) x k)) in
            let b = q (λ x k. h x (has_right (subterms c) (subterms f ++ subterms t) x (has_left (subterms f) (subterms t) x k))) in
            let d = r (λ x k. h x (has_right (subterms c) (subterms f ++ subterms t) x (has_right (subterms f) (subterms t) x k))) in
            λ i. if a i then d i else b i
        at false h p q r = h (choice_of c f t) (has_self (choice_of c f t) [])

    bits_same : (ts : TreeRow) → ((x : Tree) → has (subterms_in ts) x ≡ true → v x ≡ w x) → bits_of v ts ≡ bits_of w ts
    bits_same no_trees h = refl
    bits_same (more_trees t ts) h =
        let a = holds_same t (λ x k. h x (has_left (subterms t) (subterms_in ts) x k)) in
        let b = bits_same ts (λ x k. h x (has_right (subterms t) (subterms_in ts) x k)) in
        λ i. a i ∷ b i

-- ---- valuations that are as one but for some atoms

with_own : (a : Tree) (b : Bool) (u : Tree → Bool) (t : Tree) → same_tree a t ≡ true → with_bit a b u t ≡ b
with_own a b u t e = ap (λ c. if c then b else u t) e

with_other : (a : Tree) (b : Bool) (u : Tree → Bool) (t : Tree) → same_tree a t ≡ false → with_bit a b u t ≡ u t
with_other a b u t e = ap (λ c. if c then b else u t) e

-- a valuation that passes, is as u but for some atoms, and there as v
pub record Picked (P : (Tree → Bool) → Bool) (atoms : List Tree) (u v : Tree → Bool) : Type 0 where
  pub at : Tree → Bool
  pub passes : P at ≡ true
  pub on : (t : Tree) → has atoms t ≡ true → at t ≡ v t
  pub off : (t : Tree) → has atoms t ≡ false → at t ≡ u t

pick_more : (P : (Tree → Bool) → Bool) (a : Tree) (more : List Tree) (u v : Tree → Bool) (b : Bool) → v a ≡ b → Picked P more (with_bit a b u) v → Picked P (a ∷ more) u v
pick_more P a more u v b e r = record {
  at = r.at;
  passes = r.passes;
  on = λ t h. elim (cases_Bool (has more t)) [
    | inl k ↦ r.on t k
    | inr k ↦ elim (or_cases (same_tree a t) (has more t) h) [
      | inl s ↦ r.off t k ∙ with_own a b u t s ∙ sym e ∙ ap v (same_tree-is a t s)
      | inr m ↦ absurd (not_both (has more t) m k)
    ]
  ];
  off = λ t h. let n = or_parts (same_tree a t) (has more t) h in r.off t n.1 ∙ with_other a b u t n.0;
}

pub pick : (P : (Tree → Bool) → Bool) (atoms : List Tree) (u v : Tree → Bool) → list_all P (changed atoms u) ≡ true → Picked P atoms u v
pick P [] u v h = record { at = u; passes = first_so (P u) true h; on = λ t e. cc; off = λ t e. refl }
pick P (a ∷ more) u v h =
    let both : (list_all P (changed more (with_bit a false u)) && list_all P (changed more (with_bit a true u)))
    ≡ true = sym (list_all-append P (changed more (with_bit a false u)) (changed more (with_bit a true u))) ∙ h in
    elim (cases_Bool (v a)) [
      | inl e ↦ pick_more P a more u v true e (pick P more (with_bit a true u) v (second_so _ _ both))
      | inr e ↦ pick_more P a more u v false e (pick P more (with_bit a false u) v (first_so _ _ both))
    ]

pub all_changed : (P : (Tree → Bool) → Bool) (atoms : List Tree) (u : Tree → Bool) → ((w : Tree → Bool) → ((t : Tree) → has atoms t ≡ false → w t ≡ u t) → P w ≡ true)
    → list_all P (changed atoms u) ≡ true
all_changed P [] u h = and_from (P u) true (h u (λ t e. refl)) refl
all_changed P (a ∷ more) u h =
    list_all-append P (changed more (with_bit a false u)) (changed more (with_bit a true u))
    ∙ and_from _ _ (all_changed P more (with_bit a false u) (from false)) (all_changed P more (with_bit a true u) (from true))
  where
    from : (b : Bool) → (w : Tree → Bool) → ((t : Tree) → has more t ≡ false → w t ≡ with_bit a b u t) → P w ≡ true
    from b w k = h w (λ t e. let n = or_parts (same_tree a t) (has more t) e in k t n.1 ∙ with_other a b u t n.0)

-- ---- the parts that can show

pub record Showing (waited : List Part) (ts : List Tree) (f : Part → Bool) : Type 0 where
  pub part : Part
  pub can : can_show waited part ≡ true
  pub atom : has ts (past_of part) ≡ true
  pub passes : f part ≡ true

showing_more : (waited : List Part) (t : Tree) (ts : List Tree) (f : Part → Bool) → Showing waited ts f → Showing waited (t ∷ ts) f
showing_more waited t ts f s = record { part = s.part; can = s.can; atom = or_right (same_tree t (past_of s.part)) (has ts (past_of s.part)) s.atom; passes = s.passes }

pub shown_by : (waited : List Part) (ts : List Tree) (f : Part → Bool) → list_any f (showing_parts waited ts) ≡ true → Showing waited ts f
shown_by waited [] f h = cc
shown_by waited (past_of p ∷ ts) f h = at (can_show waited p) refl (shown_by waited ts f) h
  where
    at : (b : Bool) → can_show waited p ≡ b → (list_any f (showing_parts waited ts) ≡ true → Showing waited ts f) → list_any f (if b then p ∷ showing_parts waited ts else showing_parts waited ts)
        ≡ true → Showing waited (past_of p ∷ ts) f
    at true e next h = elim (or_cases (f p) (list_any f (showing_parts waited ts)) h) [
      | inl k ↦ record { part = p; can = e; atom = has_self (past_of p) ts; passes = k }
      | inr k ↦ showing_more waited (past_of p) ts f (next k)
    ]
    at false e next h = showing_more waited (past_of p) ts f (next h)
shown_by waited (constant v ∷ ts) f h = showing_more waited (constant v) ts f (shown_by waited ts f h)
shown_by waited (now_of p ∷ ts) f h = showing_more waited (now_of p) ts f (shown_by waited ts f h)
shown_by waited (operation op us ∷ ts) f h = showing_more waited (operation op us) ts f (shown_by waited ts f h)
shown_by waited (choice_of c e t ∷ ts) f h = showing_more waited (choice_of c e t) ts f (shown_by waited ts f h)

pub is_showing : (waited : List Part) (ts : List Tree) (f : Part → Bool) (p : Part) → can_show waited p ≡ true → has ts (past_of p) ≡ true → f p ≡ true → list_any f (showing_parts waited ts) ≡ true
is_showing waited [] f p c h e = h
is_showing waited (past_of q ∷ ts) f p c h e = elim (or_cases (same_tree (past_of q) (past_of p)) (has ts (past_of p)) h) [
  | inl s ↦
      let k : q ≡ p = same_part-is q p s in
      ap (λ b. list_any f (if b then q ∷ showing_parts waited ts else showing_parts waited ts)) (ap (can_show waited) k ∙ c) ∙ or_left (f q) (list_any f (showing_parts waited ts)) (ap f k ∙ e)
  | inr r ↦ more (can_show waited q) (is_showing waited ts f p c r e)
]
  where
    more : (b : Bool) → list_any f (showing_parts waited ts) ≡ true → list_any f (if b then q ∷ showing_parts waited ts else showing_parts waited ts) ≡ true
    more true k = or_right (f q) (list_any f (showing_parts waited ts)) k
    more false k = k
is_showing waited (constant v ∷ ts) f p c h e = is_showing waited ts f p c h e
is_showing waited (now_of q ∷ ts) f p c h e = is_showing waited ts f p c h e
is_showing waited (operation op us ∷ ts) f p c h e = is_showing waited ts f p c h e
is_showing waited (choice_of a b t ∷ ts) f p c h e = is_showing waited ts f p c h e

-- ---- the atoms

pub subterm_atom : (e t : Tree) → has (subterms e) t ≡ true → has (atoms_of e) t ≡ true
unfolding atoms_of
subterm_atom e t h = has_once (subterms e ++ presents (subterms e)) t ∙ has_left (subterms e) (presents (subterms e)) t h

no_past_present : (ts : List Tree) (p : Part) → has (presents ts) (past_of p) ≡ true → ⊥
no_past_present [] p h = cc
no_past_present (past_of q ∷ ts) p h = no_past_present ts p h
no_past_present (constant v ∷ ts) p h = no_past_present ts p h
no_past_present (now_of q ∷ ts) p h = no_past_present ts p h
no_past_present (operation op us ∷ ts) p h = no_past_present ts p h
no_past_present (choice_of a b t ∷ ts) p h = no_past_present ts p h

now_present : (ts : List Tree) (p : Part) → has ts (past_of p) ≡ true → has (presents ts) (now_of p) ≡ true
now_present [] p h = h
now_present (past_of q ∷ ts) p h = elim (or_cases (same_tree (past_of q) (past_of p)) (has ts (past_of p)) h) [
  | inl s ↦ or_left (same_part q p) (has (presents ts) (now_of p)) s
  | inr r ↦ or_right (same_part q p) (has (presents ts) (now_of p)) (now_present ts p r)
]
now_present (constant v ∷ ts) p h = now_present ts p h
now_present (now_of q ∷ ts) p h = now_present ts p h
now_present (operation op us ∷ ts) p h = now_present ts p h
now_present (choice_of a b t ∷ ts) p h = now_present ts p h

pub now_atom : (e : Tree) (p : Part) → has (atoms_of e) (past_of p) ≡ true → has (atoms_of e) (now_of p) ≡ true
unfolding atoms_of
now_atom e p h = elim (or_cases (has (subterms e) (past_of p)) (has (presents (subterms e)) (past_of p))
    (sym (has_append (subterms e) (presents (subterms e)) (past_of p)) ∙ sym (has_once (subterms e ++ presents (subterms e)) (past_of p)) ∙ h)) [
      | inl s ↦ has_once (subterms e ++ presents (subterms e)) (now_of p) ∙ has_right (subterms e) (presents (subterms e)) (now_of p) (now_present (subterms e) p s)
      | inr r ↦ absurd (no_past_present (subterms e) p r)
    ]

-- ---- the law

module _ (waited : List Part) (edge : Tree) where
  shows_all : (v : Tree → Bool) (w : Picked (is_shown (showing_parts waited (atoms_of edge)) edge (atoms_of edge)) (atoms_of edge) (λ t. false) v) → holds v edge ≡ true → (p : Part)
      × Shows waited edge v p
  shows_all v w h =
      let same : holds w.at edge ≡ true = holds_same w.at v edge (λ x k. w.on x (subterm_atom edge x k)) ∙ h in
      let any : list_any (shows edge (atoms_of edge) w.at) (showing_parts waited (atoms_of edge)) ≡ true =
      elim (or_cases (not (holds w.at edge)) (list_any (shows edge (atoms_of edge) w.at) (showing_parts waited (atoms_of edge))) w.passes) [
        | inl k ↦ absurd (not_both (holds w.at edge) same (not-true (holds w.at edge) k))
        | inr k ↦ k
      ] in
      let s = shown_by waited (atoms_of edge) (shows edge (atoms_of edge) w.at) any in
      let p : Part = s.part in (
        p,
        record {
          can = s.can;
          atom = s.atom;
          differs = λ e. differ_is (w.at (past_of p)) (w.at (now_of p)) (first_so _ _ s.passes) (w.on (past_of p) s.atom ∙ e ∙ sym (w.on (now_of p) (now_atom edge p s.atom)));
          stays = λ x k.
              let y = pick (λ (u : Tree → Bool). holds u edge) (filter (is_other_past p) (atoms_of edge)) w.at x (second_so _ _ s.passes) in
              sym (holds_same y.at x edge (λ t m. elim (cases_Bool (is_other_past p t)) [
                | inl o ↦ y.on t (filter_has (is_other_past p) (atoms_of edge) t (subterm_atom edge t m) o)
                | inr o ↦ y.off t (not_in_filter (is_other_past p) (atoms_of edge) t o) ∙ w.on t (subterm_atom edge t m) ∙ sym (k t o)
              ])) ∙ y.passes;
        },
      )

  all_shown : ((v : Tree → Bool) → holds v edge ≡ true → (p : Part) × Shows waited edge v p) → (v : Tree → Bool) → is_shown (showing_parts waited (atoms_of edge)) edge (atoms_of edge) v ≡ true
  all_shown h v = elim (cases_Bool (holds v edge)) [
    | inl k ↦
        let s = h v k in
        let p : Part = s.0 in
        or_right (not (holds v edge)) _ (is_showing waited (atoms_of edge) (shows edge (atoms_of edge) v) p s.1.can s.1.atom
        (and_from _ _ (is_differ (v (past_of p)) (v (now_of p)) s.1.differs)
        (all_changed (λ (u : Tree → Bool). holds u edge) (filter (is_other_past p) (atoms_of edge)) v
        (λ u m. s.1.stays u (λ t o. m t (not_in_filter (is_other_past p) (atoms_of edge) t o))))))
    | inr k ↦ or_left (not (holds v edge)) _ (ap not k)
  ]

pub to_all : (waited : List Part) (c : Tree) → is_edge_shown waited c ≡ true → IsEdgeShown waited c
unfolding is_edge_shown
to_all waited c h = record {
  past = first_so (contains_past c) _ h;
  each = λ v k. shows_all waited (edge_part c) v
      (pick (is_shown (showing_parts waited (atoms_of (edge_part c))) (edge_part c) (atoms_of (edge_part c))) (atoms_of (edge_part c)) (λ t. false) v (second_so (contains_past c) _ h)) k;
}

pub from_all : (waited : List Part) (c : Tree) → IsEdgeShown waited c → is_edge_shown waited c ≡ true
unfolding is_edge_shown
from_all waited c h =
    and_from (contains_past c) _ h.past
    (all_changed (is_shown (showing_parts waited (atoms_of (edge_part c))) (edge_part c) (atoms_of (edge_part c))) (atoms_of (edge_part c)) (λ t. false)
    (λ w k. all_shown waited (edge_part c) h.each w))
