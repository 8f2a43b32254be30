-- Swaps that make the gate of a rise or fall.
use Rattle.std.proofs.Common.{◌≡◌, Bool, true, false, not, ◌||◌, if◌then◌else◌, List, [], ◌∷◌, ◌++◌, refl, sym, ap, ◌∙◌, subst, inl, inr}
use Rattle.std.specs.List.{list_any}
use Rattle.std.proofs.lemmas.Bool.{or_cases, or_left, or_right, cases_Bool, false_from_ne_true}
use Rattle.lh_types.specs.Types.{int_type}
use Rattle.lh_types.proofs.Tests.{not_both}
use Rattle.lh_term.specs.declared.part.Part.{Part}
use Rattle.lh_term.specs.Tree.{Tree, TreeRow, constant, past_of, now_of, operation, choice_of, no_trees, more_trees}
use Rattle.lh_term.specs.Types.{type_of}
use Rattle.lh_term.specs.Same.{same_part, same_part-is, same_part-refl}
use Rattle.lh_term.specs.SameTree.{same_tree, same_tree-is, same_tree-refl}
use Rattle.lh_term.specs.Make.{bit_of, make_operation, make_choice}
use Rattle.lh_term.specs.Subst.{replaced, IsLeaf, is_first, AreSwaps, swapped, swapped_row}
use Rattle.lh_edge.specs.Triggers.{pasts_in, pasts_in_row, present_swaps, edge_swaps, gate_of}

-- ---- lists of pairs

pub first_append : (ps qs : List (Tree × Tree)) (t : Tree) → is_first (ps ++ qs) t ≡ (is_first ps t || is_first qs t)
first_append [] qs t = refl
first_append (p ∷ ps) qs t = at (same_tree p.0 t) (first_append ps qs t)
  where
    at : (b : Bool) → is_first (ps ++ qs) t ≡ (is_first ps t || is_first qs t) → (if b then true else is_first (ps ++ qs) t) ≡ ((if b then true else is_first ps t) || is_first qs t)
    at true r = refl
    at false r = r

pub replaced_there : (ps qs : List (Tree × Tree)) (t : Tree) → is_first ps t ≡ true → replaced (ps ++ qs) t ≡ replaced ps t
replaced_there [] qs t h = cc
replaced_there (p ∷ ps) qs t h = at (same_tree p.0 t) h (replaced_there ps qs t)
  where
    at : (b : Bool) → (if b then true else is_first ps t) ≡ true → (is_first ps t ≡ true → replaced (ps ++ qs) t ≡ replaced ps t)
        → (if b then p.1 else replaced (ps ++ qs) t) ≡ (if b then p.1 else replaced ps t)
    at true k next = refl
    at false k next = next k

pub replaced_after : (ps qs : List (Tree × Tree)) (t : Tree) → is_first ps t ≡ false → replaced (ps ++ qs) t ≡ replaced qs t
replaced_after [] qs t h = refl
replaced_after (p ∷ ps) qs t h = at (same_tree p.0 t) h (replaced_after ps qs t)
  where
    at : (b : Bool) → (if b then true else is_first ps t) ≡ false → (is_first ps t ≡ false → replaced (ps ++ qs) t ≡ replaced qs t) → (if b then p.1 else replaced (ps ++ qs) t) ≡ replaced qs t
    at true k next = cc
    at false k next = next k

pub replaced_none : (ps : List (Tree × Tree)) (t : Tree) → is_first ps t ≡ false → replaced ps t ≡ t
replaced_none [] t h = refl
replaced_none (p ∷ ps) t h = at (same_tree p.0 t) h (replaced_none ps t)
  where
    at : (b : Bool) → (if b then true else is_first ps t) ≡ false → (is_first ps t ≡ false → replaced ps t ≡ t) → (if b then p.1 else replaced ps t) ≡ t
    at true k next = cc
    at false k next = next k

turned : (a b : Tree) → same_tree a b ≡ false → same_tree b a ≡ false
turned a b e = false_from_ne_true (same_tree b a) (λ s. not_both (same_tree a b) (ap (same_tree a) (same_tree-is b a s) ∙ same_tree-refl a) e)

swaps_push : (ps : List (Tree × Tree)) (a b : Tree) → AreSwaps ps → IsLeaf a → is_first ps a ≡ false → type_of a ≡ type_of b → AreSwaps (ps ++ (a, b) ∷ [])
swaps_push [] a b s l f t = (l, refl, t, tt)
swaps_push (p ∷ ps) a b s l f t = at (same_tree p.0 a) refl f (λ k. swaps_push ps a b s.3 l k t)
  where
    at : (c : Bool) → same_tree p.0 a ≡ c → (if c then true else is_first ps a) ≡ false → (is_first ps a ≡ false → AreSwaps (ps ++ (a, b) ∷ [])) → AreSwaps (p ∷ (ps ++ (a, b) ∷ []))
    at true e k next = cc
    at false e k next =
        let n : is_first (ps ++ (a, b) ∷ []) p.0 ≡ false =
        first_append ps ((a, b) ∷ []) p.0 ∙ ap (λ x. x || is_first ((a, b) ∷ []) p.0) s.1 ∙ ap (λ (x : Bool). if x then true else false) (turned p.0 a e) in
        (s.0, n, s.2, next k)

-- ---- the pairs so far

pub record SwapSoFar (rise : Bool) (p : Part) (ps : List (Tree × Tree)) : Type 0 where
  pub swaps : AreSwaps ps
  pub own_past : replaced ps (past_of p) ≡ bit_of (not rise)
  pub own_now : replaced ps (now_of p) ≡ bit_of rise
  pub own_first : is_first ps (past_of p) ≡ true
  pub own_next : is_first ps (now_of p) ≡ true
  pub other_past : (q : Part) → same_part p q ≡ false → is_first ps (past_of q) ≡ true → replaced ps (past_of q) ≡ now_of q
  pub other_now : (q : Part) → same_part p q ≡ false → is_first ps (now_of q) ≡ false

pub swap_first : (rise : Bool) (p : Part) → p.ty ≡ int_type 1 → SwapSoFar rise p ((past_of p, bit_of (not rise)) ∷ (now_of p, bit_of rise) ∷ [])
swap_first rise p t = record {
  swaps = (tt, refl, t ∙ bit_type (not rise), (tt, refl, t ∙ bit_type rise, tt));
  own_past = ap (λ (b : Bool). if b then bit_of (not rise) else past_of p) (same_part-refl p);
  own_now = ap (λ (b : Bool). if b then bit_of rise else now_of p) (same_part-refl p);
  own_first = ap (λ (b : Bool). if b then true else false) (same_part-refl p);
  own_next = ap (λ (b : Bool). if b then true else false) (same_part-refl p);
  other_past = λ q n h. let e : false ≡ true = sym (ap (λ (b : Bool). if b then true else false) n) ∙ h in cc;
  other_now = λ q n. ap (λ (b : Bool). if b then true else false) n;
}
  where
    bit_type : (b : Bool) → int_type 1 ≡ type_of (bit_of b)
    bit_type true = refl
    bit_type false = refl

-- one more pair of a value before and the value now, unless it is there
abbrev pub put_pair : List (Tree × Tree) → Tree × Tree → List (Tree × Tree)
put_pair ps x = if is_first ps x.0 then ps else ps ++ x ∷ []

pub put_has : (ps : List (Tree × Tree)) (x : Tree × Tree) (t : Tree) → is_first (put_pair ps x) t ≡ (is_first ps t || same_tree x.0 t)
put_has ps x t = at (is_first ps x.0) refl
  where
    absorbed : (b : Bool) → (b ≡ true → is_first ps t ≡ true) → (c : Bool) → is_first ps t ≡ c → c ≡ (c || b)
    absorbed b h true e = refl
    absorbed true h false e = absurd (not_both (is_first ps t) (h refl) e)
    absorbed false h false e = refl

    one : (b : Bool) → (if b then true else false) ≡ b
    one true = refl
    one false = refl

    at : (b : Bool) → is_first ps x.0 ≡ b → is_first (if b then ps else ps ++ x ∷ []) t ≡ (is_first ps t || same_tree x.0 t)
    at true e = absorbed (same_tree x.0 t) (λ s. ap (is_first ps) (sym (same_tree-is x.0 t s)) ∙ e) (is_first ps t) refl
    at false e = first_append ps (x ∷ []) t ∙ ap (λ b. is_first ps t || b) (one (same_tree x.0 t))

pub swap_next : (rise : Bool) (p : Part) (ps : List (Tree × Tree)) (x : Tree × Tree) (q : Part) → x.0 ≡ past_of q → x.1 ≡ now_of q → SwapSoFar rise p ps → SwapSoFar rise p (put_pair ps x)
swap_next rise p ps x q e f s = at (is_first ps x.0) refl
  where
    at : (b : Bool) → is_first ps x.0 ≡ b → SwapSoFar rise p (if b then ps else ps ++ x ∷ [])
    at true k = s
    at false k =
        let leaf : IsLeaf x.0 = subst IsLeaf (sym e) tt in
        let type : type_of x.0 ≡ type_of x.1 = ap type_of e ∙ sym (ap type_of f) in
        record {
          swaps = swaps_push ps x.0 x.1 s.swaps leaf k type;
          own_past = replaced_there ps (x ∷ []) (past_of p) s.own_first ∙ s.own_past;
          own_now = replaced_there ps (x ∷ []) (now_of p) s.own_next ∙ s.own_now;
          own_first = first_append ps (x ∷ []) (past_of p) ∙ or_left _ _ s.own_first;
          own_next = first_append ps (x ∷ []) (now_of p) ∙ or_left _ _ s.own_next;
          other_past = λ r n h. elim (cases_Bool (is_first ps (past_of r))) [
            | inl g ↦ replaced_there ps (x ∷ []) (past_of r) g ∙ s.other_past r n g
            | inr g ↦
                let there : (if same_tree x.0 (past_of r) then true else false) ≡ true = ap (λ b. b || is_first (x ∷ []) (past_of r)) (sym g) ∙ sym (first_append ps (x ∷ []) (past_of r)) ∙ h in
                replaced_after ps (x ∷ []) (past_of r) g ∙ taken r (same_tree x.0 (past_of r)) refl there
          ];
          other_now = λ r n. first_append ps (x ∷ []) (now_of r) ∙ ap (λ b. b || is_first (x ∷ []) (now_of r)) (s.other_now r n) ∙ ap (λ u. if same_tree u (now_of r) then true else false) e;
        }
      where
        taken : (r : Part) (b : Bool) → same_tree x.0 (past_of r) ≡ b → (if b then true else false) ≡ true → (if b then x.1 else past_of r) ≡ now_of r
        taken r true g h =
            let one : past_of q ≡ past_of r = sym e ∙ same_tree-is x.0 (past_of r) g in
            let two : q ≡ r = cc in
            f ∙ ap now_of two
        taken r false g h = cc

-- ---- terms with the same values replaced

any_left : (q : Part) (xs ys : List Part) → list_any (same_part q) xs ≡ true → list_any (same_part q) (xs ++ ys) ≡ true
any_left q [] ys h = cc
any_left q (x ∷ xs) ys h = elim (or_cases (same_part q x) (list_any (same_part q) xs) h) [ inl k ↦ or_left _ _ k | inr k ↦ or_right _ _ (any_left q xs ys k) ]

any_right : (q : Part) (xs ys : List Part) → list_any (same_part q) ys ≡ true → list_any (same_part q) (xs ++ ys) ≡ true
any_right q [] ys h = h
any_right q (x ∷ xs) ys h = or_right _ _ (any_right q xs ys h)

module _ (by to : List (Tree × Tree)) (now_same : (q : Part) → replaced by (now_of q) ≡ replaced to (now_of q)) where
  mutual
    swapped_same : (t : Tree) → ((q : Part) → list_any (same_part q) (pasts_in t) ≡ true → replaced by (past_of q) ≡ replaced to (past_of q)) → swapped by t ≡ swapped to t
    swapped_same (constant v) h = refl
    swapped_same (past_of q) h = h q (or_left _ _ (same_part-refl q))
    swapped_same (now_of q) h = now_same q
    swapped_same (operation op ts) h = ap (make_operation op) (swapped_rows ts h)
    swapped_same (choice_of c f t) h =
        let a = swapped_same c (λ q k. h q (any_left q (pasts_in c) (pasts_in f ++ pasts_in t) k)) in
        let b = swapped_same f (λ q k. h q (any_right q (pasts_in c) (pasts_in f ++ pasts_in t) (any_left q (pasts_in f) (pasts_in t) k))) in
        let d = swapped_same t (λ q k. h q (any_right q (pasts_in c) (pasts_in f ++ pasts_in t) (any_right q (pasts_in f) (pasts_in t) k))) in
        λ i. make_choice (a i) (b i) (d i)

    swapped_rows : (ts : TreeRow) → ((q : Part) → list_any (same_part q) (pasts_in_row ts) ≡ true → replaced by (past_of q) ≡ replaced to (past_of q)) → swapped_row by ts ≡ swapped_row to ts
    swapped_rows no_trees h = refl
    swapped_rows (more_trees t ts) h =
        let a = swapped_same t (λ q k. h q (any_left q (pasts_in t) (pasts_in_row ts) k)) in
        let b = swapped_rows ts (λ q k. h q (any_right q (pasts_in t) (pasts_in_row ts) k)) in
        λ i. a i ∷ b i

-- ---- the swaps of the definition

present_now : (p : Part) (qs : List Part) (q : Part) → replaced (present_swaps p qs) (now_of q) ≡ now_of q
present_now p [] q = refl
present_now p (x ∷ qs) q = at (same_part p x || list_any (same_part x) qs) (present_now p qs q)
  where
    at : (b : Bool) → replaced (present_swaps p qs) (now_of q) ≡ now_of q → replaced (if b then present_swaps p qs else (past_of x, now_of x) ∷ present_swaps p qs) (now_of q) ≡ now_of q
    at true r = r
    at false r = r

present_past : (p : Part) (qs : List Part) (q : Part) → same_part p q ≡ false → list_any (same_part q) qs ≡ true → replaced (present_swaps p qs) (past_of q) ≡ now_of q
present_past p [] q n h = cc
present_past p (x ∷ qs) q n h = at (same_part p x || list_any (same_part x) qs) refl (same_part x q) refl (present_past p qs q n)
  where
    other : same_part x q ≡ false → list_any (same_part q) qs ≡ true
    other e = elim (or_cases (same_part q x) (list_any (same_part q) qs) h) [
      | inl k ↦ absurd (not_both (same_part x q) (ap (same_part x) (same_part-is q x k) ∙ same_part-refl x) e)
      | inr k ↦ k
    ]

    at : (b : Bool) → (same_part p x || list_any (same_part x) qs) ≡ b → (c : Bool) → same_part x q ≡ c → (list_any (same_part q) qs ≡ true → replaced (present_swaps p qs) (past_of q) ≡ now_of q) →
        replaced (if b then present_swaps p qs else (past_of x, now_of x) ∷ present_swaps p qs) (past_of q) ≡ now_of q
    at true e true f next = elim (or_cases (same_part p x) (list_any (same_part x) qs) e) [
      | inl k ↦ absurd (not_both (same_part p q) (ap (same_part p) (sym (same_part-is x q f)) ∙ k) n)
      | inr k ↦ next (ap (λ y. list_any (same_part y) qs) (sym (same_part-is x q f)) ∙ k)
    ]
    at true e false f next = next (other f)
    at false e true f next = ap (λ (b : Bool). if b then now_of x else replaced (present_swaps p qs) (past_of q)) f ∙ ap now_of (same_part-is x q f)
    at false e false f next = ap (λ (b : Bool). if b then now_of x else replaced (present_swaps p qs) (past_of q)) f ∙ next (other f)

pub gate_is : (rise : Bool) (p : Part) (c : Tree) (ps : List (Tree × Tree)) → SwapSoFar rise p ps → ((q : Part) → list_any (same_part q) (pasts_in c) ≡ true → is_first ps (past_of q) ≡ true)
    → swapped ps c ≡ gate_of rise p c
unfolding gate_of
gate_is rise p c ps s whole = swapped_same ps (edge_swaps rise p c) (λ q. now_at q (same_part p q) refl) c (λ q h. past_at q (same_part p q) refl h)
  where
    now_at : (q : Part) (b : Bool) → same_part p q ≡ b → replaced ps (now_of q) ≡ (if b then bit_of rise else replaced (present_swaps p (pasts_in c)) (now_of q))
    now_at q true e = ap (λ r. replaced ps (now_of r)) (sym (same_part-is p q e)) ∙ s.own_now
    now_at q false e = replaced_none ps (now_of q) (s.other_now q e) ∙ sym (present_now p (pasts_in c) q)

    past_at : (q : Part) (b : Bool) → same_part p q ≡ b → list_any (same_part q) (pasts_in c) ≡ true
        → replaced ps (past_of q) ≡ (if b then bit_of (not rise) else replaced (present_swaps p (pasts_in c)) (past_of q))
    past_at q true e h = ap (λ r. replaced ps (past_of r)) (sym (same_part-is p q e)) ∙ s.own_past
    past_at q false e h = s.other_past q e (whole q h) ∙ sym (present_past p (pasts_in c) q e h)
