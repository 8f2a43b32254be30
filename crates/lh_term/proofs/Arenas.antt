-- What an arena's ids stand for.
use Rattle.std.proofs.Common.{◌≡◌, ℕ, zero, suc, ◌+◌, ◌<◌, ◌≤◌, List, [], ◌∷◌, ◌++◌, length, map, Bool, true, false, ◌&&◌, ◌==◌, nat_lt, refl, ap, sym, ◌∙◌, subst, Some, arith, append_assoc, Result, Ok, Err, IfOk, OnErr, slice_get, inl, inr, ltb-true, lt-ltb}
use Rattle.std.specs.Bool.{if◌then◌else◌}
use Rattle.std.specs.List.{list_any}
use Rattle.std.specs.Option.{unwrap_or}
use Rattle.std.specs.Cmp.{first_so, second_so, both_ways}
use Rattle.std.proofs.lemmas.List.{append-nil, length_push, map_push}
use Rattle.std.proofs.lemmas.Bool.Decides.{nat_tests}
use Rattle.std.proofs.lemmas.Bool.{and_from, or_left, or_right}
use Rattle.std.proofs.lemmas.Option.{slice_get_within}
use Rattle.lh_types.specs.ValueOf.{datum_of}
use Rattle.lh_types.specs.Apply.{no_value}
use Rattle.lh_types.proofs.Lists.{push_cases, get_last, get_end, get_below}
use Rattle.lh_term.specs.Tree.{Tree, constant, choice_of, tree_row, operation_on}
use Rattle.lh_term.specs.Types.{IsTyped, AreTyped, type_of}
use Rattle.lh_term.specs.SameTree.{same_tree, same_tree-is, same_tree-refl}
use Rattle.lh_term.specs.SameTerm.{same_term, same_term-is, same_term-refl, datum_of-is, same_id}
use Rattle.lh_term.specs.SameNode.{same_node}
use Rattle.lh_term.specs.Arena.{tree_at, term_tree, trees_from, terms_in, trees, ids_below, term_below, all_below, StandsOnce, IsTypedNode, IsArena, IsIn, AreIn, trees_at, StandsForTree, OneId, AllTyped, Grows}
use Rattle.lh_term.specs.declared.term.TermId.{TermId}
use Rattle.lh_term.specs.declared.term.Term.{Term}
use Rattle.lh_term.specs.declared.term.Term.TheVariants.{Konst, Past, Now, Op as Applied, Choice}
use Rattle.lh_term.specs.declared.term.TermNode.{TermNode}

-- ---- lists

get_in : {X : Type 0} (xs ys : List X) (i : ℕ) (x : X) → slice_get xs i ≡ Some x → slice_get (xs ++ ys) i ≡ Some x
get_in [] ys i x e = cc
get_in (z ∷ xs) ys zero x e = e
get_in (z ∷ xs) ys (suc i) x e = get_in xs ys i x e

pub get_map : {X Y : Type 0} (f : X → Y) (xs : List X) (i : ℕ) (x : X) → slice_get xs i ≡ Some x → slice_get (map f xs) i ≡ Some (f x)
get_map f [] i x e = cc
get_map f (z ∷ xs) zero x e = let q : z ≡ x = cc in ap (λ w. Some (f w)) q
get_map f (z ∷ xs) (suc i) x e = get_map f xs i x e

pub map_append : {X Y : Type 0} (f : X → Y) (xs ys : List X) → map f (xs ++ ys) ≡ map f xs ++ map f ys
map_append f [] ys = refl
map_append f (z ∷ xs) ys = ap (λ r. f z ∷ r) (map_append f xs ys)

pub map_length : {X Y : Type 0} (f : X → Y) (xs : List X) → length (map f xs) ≡ length xs
map_length f [] = refl
map_length f (z ∷ xs) = omega (arith, map_length f xs)

-- ---- ids

lt_more : (a k m : ℕ) → k ≤ m → nat_lt a k ≡ true → nat_lt a m ≡ true
lt_more a k m l h = lt-ltb a m (let p : a < k = ltb-true a k h in omega arith)

pub ids_more : (k m : ℕ) → k ≤ m → (xs : List TermId) → ids_below k xs ≡ true → ids_below m xs ≡ true
ids_more k m l [] h = refl
ids_more k m l (a ∷ xs) h = and_from (nat_lt a.0 m) (ids_below m xs) (lt_more a.0 k m l (first_so (nat_lt a.0 k) (ids_below k xs) h)) (ids_more k m l xs (second_so (nat_lt a.0 k) (ids_below k xs) h))

below_three : (k a b c : ℕ) → nat_lt a k && (nat_lt b k && nat_lt c k) ≡ true → (nat_lt a k ≡ true) × (nat_lt b k ≡ true) × (nat_lt c k ≡ true)
below_three k a b c h =
    let r = second_so (nat_lt a k) (nat_lt b k && nat_lt c k) h in
    (first_so (nat_lt a k) (nat_lt b k && nat_lt c k) h, first_so (nat_lt b k) (nat_lt c k) r, second_so (nat_lt b k) (nat_lt c k) r)

pub term_more : (k m : ℕ) → k ≤ m → (x : Term) → term_below k x ≡ true → term_below m x ≡ true
term_more k m l (Konst v) h = refl
term_more k m l (Past p) h = refl
term_more k m l (Now p) h = refl
term_more k m l (Applied op args) h = ids_more k m l args h
term_more k m l (Choice c f t) h =
    let b = below_three k c.0 f.0 t.0 h in
    and_from (nat_lt c.0 m) (nat_lt f.0 m && nat_lt t.0 m) (lt_more c.0 k m l b.0) (and_from (nat_lt f.0 m) (nat_lt t.0 m) (lt_more f.0 k m l b.1) (lt_more t.0 k m l b.2))

below_push : (k : ℕ) (xs : List Term) (x : Term) → all_below k xs ≡ true → term_below (k + length xs) x ≡ true → all_below k (xs ++ x ∷ []) ≡ true
below_push k [] x a b = and_from (term_below k x) true (ap (λ m. term_below m x) (omega arith) ∙ b) refl
below_push k (y ∷ xs) x a b =
    let deeper : k + 1 + length xs ≡ k + suc (length xs) = omega arith in
    and_from (term_below k y) (all_below (k + 1) (xs ++ x ∷ [])) (first_so (term_below k y) (all_below (k + 1) xs) a)
    (below_push (k + 1) xs x (second_so (term_below k y) (all_below (k + 1) xs) a) (ap (λ m. term_below m x) deeper ∙ b))

-- a node of the list is found by its term
found : (n : TermNode) (ns : List TermNode) (i : ℕ) → slice_get (terms_in ns) i ≡ Some n.term → list_any (same_node n) ns ≡ true
found n [] i e = cc
found n (m ∷ ns) zero e = let q : m.term ≡ n.term = cc in or_left (same_node n m) (list_any (same_node n) ns) (ap (same_term n.term) q ∙ same_term-refl n.term)
found n (m ∷ ns) (suc i) e = or_right (same_node n m) (list_any (same_node n) ns) (found n ns i e)

once_push : (xs : List Term) (x : Term) → StandsOnce xs → ((i : ℕ) → slice_get xs i ≡ Some x → ⊥) → StandsOnce (xs ++ x ∷ [])
once_push xs x once new i j m p q =
    elim (push_cases xs x m i p) [
      | inl a ↦ elim (push_cases xs x m j q) [ inl b ↦ once i j m a b | inr b ↦ absurd (new i (a ∙ ap Some (sym b.1))) ]
      | inr a ↦ elim (push_cases xs x m j q) [ inl b ↦ absurd (new j (b ∙ ap Some (sym a.1))) | inr b ↦ a.0 ∙ sym b.0 ]
    ]

-- ---- trees of a longer list

from_push : (ts : List Tree) (xs : List Term) (x : Term) → trees_from ts (xs ++ x ∷ []) ≡ trees_from ts xs ++ term_tree (trees_from ts xs) x ∷ []
from_push ts [] x = refl
from_push ts (y ∷ xs) x = from_push (ts ++ term_tree ts y ∷ []) xs x

pub at_below : (ts us : List Tree) (a : TermId) → nat_lt a.0 (length ts) ≡ true → tree_at (ts ++ us) a ≡ tree_at ts a
at_below ts us a h = ap (λ o. unwrap_or o (constant no_value)) (get_below ts us a.0 (ltb-true a.0 (length ts) h))

ids_at_below : (ts us : List Tree) (xs : List TermId) → ids_below (length ts) xs ≡ true → map (tree_at (ts ++ us)) xs ≡ map (tree_at ts) xs
ids_at_below ts us [] h = refl
ids_at_below ts us (a ∷ xs) h =
    let e = at_below ts us a (first_so (nat_lt a.0 (length ts)) (ids_below (length ts) xs) h) in
    let f = ids_at_below ts us xs (second_so (nat_lt a.0 (length ts)) (ids_below (length ts) xs) h) in
    λ i. e i ∷ f i

pub tree_below : (ts us : List Tree) (x : Term) → term_below (length ts) x ≡ true → term_tree (ts ++ us) x ≡ term_tree ts x
tree_below ts us (Konst v) h = refl
tree_below ts us (Past p) h = refl
tree_below ts us (Now p) h = refl
tree_below ts us (Applied op args) h = ap (operation_on op) (ids_at_below ts us args h)
tree_below ts us (Choice c f t) h =
    let b = below_three (length ts) c.0 f.0 t.0 h in
    let e = at_below ts us c b.0 in
    let g = at_below ts us f b.1 in
    let k = at_below ts us t b.2 in
    λ i. choice_of (e i) (g i) (k i)

-- what is known of the trees of a list of terms: each is that of its term, and no two are equal
pub record Means (xs : List Term) (ts : List Tree) : Type 0 where
  pub len : length ts ≡ length xs
  pub each : (i : ℕ) (x : Term) → slice_get xs i ≡ Some x → slice_get ts i ≡ Some (term_tree ts x)
  pub terms : (i : ℕ) (t : Tree) → slice_get ts i ≡ Some t → (x : Term) × (slice_get xs i ≡ Some x) × (t ≡ term_tree ts x)
  pub below : (i : ℕ) (x : Term) → slice_get xs i ≡ Some x → term_below i x ≡ true
  pub distinct : (i j : ℕ) (t : Tree) → slice_get ts i ≡ Some t → slice_get ts j ≡ Some t → i ≡ j

get_at : (ts : List Tree) (a : ℕ) → a < length ts → slice_get ts a ≡ Some (unwrap_or (slice_get ts a) (constant no_value))
get_at [] a h = absurd (omega arith)
get_at (t ∷ ts) zero h = refl
get_at (t ∷ ts) (suc a) h = get_at ts a (omega arith)

-- no tree stands twice
abbrev Distinct : List Tree → Type 0
Distinct ts = (i j : ℕ) (t : Tree) → slice_get ts i ≡ Some t → slice_get ts j ≡ Some t → i ≡ j

one_id_at : (ts : List Tree) → Distinct ts → (a b : TermId) → nat_lt a.0 (length ts) ≡ true → nat_lt b.0 (length ts) ≡ true → tree_at ts a ≡ tree_at ts b → a ≡ b
one_id_at ts d a b p q e = same_id a b (d a.0 b.0 (tree_at ts a) (get_at ts a.0 (ltb-true a.0 (length ts) p)) (get_at ts b.0 (ltb-true b.0 (length ts) q) ∙ ap Some (sym e)))

one_ids_at : (ts : List Tree) → Distinct ts → (xs ys : List TermId) → ids_below (length ts) xs ≡ true → ids_below (length ts) ys ≡ true → map (tree_at ts) xs ≡ map (tree_at ts) ys → xs ≡ ys
one_ids_at ts d [] [] p q e = refl
one_ids_at ts d (a ∷ xs) (b ∷ ys) p q e =
    let s : tree_at ts a ≡ tree_at ts b = cc in
    let r : map (tree_at ts) xs ≡ map (tree_at ts) ys = cc in
    let k = length ts in
    let h = one_id_at ts d a b (first_so (nat_lt a.0 k) (ids_below k xs) p) (first_so (nat_lt b.0 k) (ids_below k ys) q) s in
    let g = one_ids_at ts d xs ys (second_so (nat_lt a.0 k) (ids_below k xs) p) (second_so (nat_lt b.0 k) (ids_below k ys) q) r in
    λ i. h i ∷ g i
one_ids_at ts d _ _ p q e = cc

pub tree_row-is : (ts us : List Tree) → tree_row ts ≡ tree_row us → ts ≡ us
tree_row-is [] [] e = refl
tree_row-is (t ∷ ts) (u ∷ us) e = let s : t ≡ u = cc in let r : tree_row ts ≡ tree_row us = cc in cc (s, tree_row-is ts us r)
tree_row-is _ _ e = cc

-- terms of one tree are one
term_inj : (ts : List Tree) → Distinct ts → (x y : Term) → term_below (length ts) x ≡ true → term_below (length ts) y ≡ true → term_tree ts x ≡ term_tree ts y → x ≡ y
term_inj ts d (Konst v) (Konst w) p q e = let s : datum_of v ≡ datum_of w = cc in ap Konst (datum_of-is v w s)
term_inj ts d (Past a) (Past b) p q e = cc
term_inj ts d (Now a) (Now b) p q e = cc
term_inj ts d (Applied o xs) (Applied r ys) p q e =
    let s : o ≡ r = cc in
    let u : tree_row (map (tree_at ts) xs) ≡ tree_row (map (tree_at ts) ys) = cc in
    let k = one_ids_at ts d xs ys p q (tree_row-is _ _ u) in
    λ i. Applied (s i) (k i)
term_inj ts d (Choice c f t) (Choice a g u) p q e =
    let k = length ts in
    let x = below_three k c.0 f.0 t.0 p in
    let y = below_three k a.0 g.0 u.0 q in
    let ec : tree_at ts c ≡ tree_at ts a = cc in
    let ef : tree_at ts f ≡ tree_at ts g = cc in
    let et : tree_at ts t ≡ tree_at ts u = cc in
    let c1 = one_id_at ts d c a x.0 y.0 ec in
    let f1 = one_id_at ts d f g x.1 y.1 ef in
    let t1 = one_id_at ts d t u x.2 y.2 et in
    λ i. Choice (c1 i) (f1 i) (t1 i)
term_inj ts d _ _ p q e = cc

Means-push : (xs : List Term) (ts : List Tree) (x : Term) → Means xs ts → term_below (length xs) x ≡ true → ((i : ℕ) → slice_get xs i ≡ Some x → ⊥) → Means (xs ++ x ∷ []) (ts ++ term_tree ts x ∷ [])
Means-push xs ts x m lt new =
    let len : length ts ≡ length xs = m.len in
    let fits : (y : Term) → term_below (length xs) y ≡ true → term_below (length ts) y ≡ true = λ y h. ap (λ k. term_below k y) len ∙ h in
    let old : (i : ℕ) (y : Term) → slice_get xs i ≡ Some y → term_below (length xs) y ≡ true = λ i y e. term_more i (length xs) (let p : i < length xs = slice_get_within xs i y e in
    omega arith) y (m.below i y e) in
    let same : (y : Term) → term_below (length xs) y ≡ true → term_tree ts y ≡ term_tree (ts ++ term_tree ts x ∷ []) y = λ y h. sym (tree_below ts (term_tree ts x ∷ []) y (fits y h)) in
    let clash : (i : ℕ) → slice_get ts i ≡ Some (term_tree ts x) → ⊥ = λ i e.
    let (y, at, is) = m.terms i (term_tree ts x) e in new i (at ∙ ap Some (sym (term_inj ts m.distinct x y (fits x lt) (fits y (old i y at)) is)))
    in
    record {
      len = length_push ts (term_tree ts x) ∙ ap (λ k. k + 1) len ∙ sym (length_push xs x);
      each = λ i y e. elim (push_cases xs x y i e) [
        | inl a ↦ get_in ts (term_tree ts x ∷ []) i (term_tree ts y) (m.each i y a) ∙ ap Some (same y (old i y a))
        | inr a ↦ ap (slice_get (ts ++ term_tree ts x ∷ [])) (a.0 ∙ sym len) ∙ get_last ts (term_tree ts x) ∙ ap Some (same x lt) ∙ ap (λ z. Some (term_tree (ts ++ term_tree ts x ∷ []) z)) a.1
      ];
      terms = λ i t e. elim (push_cases ts (term_tree ts x) t i e) [
        | inl a ↦ let (y, at, is) = m.terms i t a in (y, get_in xs (x ∷ []) i y at, is ∙ same y (old i y at))
        | inr a ↦ (x, ap (slice_get (xs ++ x ∷ [])) (a.0 ∙ len) ∙ get_last xs x, sym a.1 ∙ same x lt)
      ];
      below = λ i y e. elim (push_cases xs x y i e) [
        | inl a ↦ m.below i y a
        | inr a ↦ ap (λ k. term_below k y) a.0 ∙ ap (term_below (length xs)) (sym a.1) ∙ lt
      ];
      distinct = λ i j t p q. elim (push_cases ts (term_tree ts x) t i p) [
        | inl a ↦ elim (push_cases ts (term_tree ts x) t j q) [ inl b ↦ m.distinct i j t a b | inr b ↦ absurd (clash i (a ∙ ap Some (sym b.1))) ]
        | inr a ↦ elim (push_cases ts (term_tree ts x) t j q) [ inl b ↦ absurd (clash j (b ∙ ap Some (sym a.1))) | inr b ↦ a.0 ∙ sym b.0 ]
      ];
    }

means_from : (done : List Term) (ts : List Tree) (xs : List Term) → Means done ts → all_below (length done) xs ≡ true → StandsOnce (done ++ xs) → Means (done ++ xs) (trees_from ts xs)
means_from done ts [] m b once = let P : List Term → Type 0 = λ ys. Means ys ts in subst P (sym (append-nil done)) m
means_from done ts (x ∷ xs) m b once =
    let new : (i : ℕ) → slice_get done i ≡ Some x → ⊥ = λ i e.
    let at : i ≡ length done = once i (length done) x (get_in done (x ∷ xs) i x e) (get_end done x xs) in
    let lt : i < length done = slice_get_within done i x e in omega arith
    in
    let next : Means (done ++ x ∷ []) (ts ++ term_tree ts x ∷ []) = Means-push done ts x m (first_so (term_below (length done) x) (all_below (length done + 1) xs) b) new in
    let P : List Term → Type 0 = λ ys. Means ys (trees_from (ts ++ term_tree ts x ∷ []) xs) in
    let Q : List Term → Type 0 = StandsOnce in
    subst P (append_assoc done (x ∷ []) xs)
    (means_from (done ++ x ∷ []) (ts ++ term_tree ts x ∷ []) xs next
    (ap (λ k. all_below k xs) (length_push done x) ∙ second_so (term_below (length done) x) (all_below (length done + 1) xs) b)
    (subst Q (sym (append_assoc done (x ∷ []) xs)) once))

nothing : Means [] []
nothing = record { len = refl; each = λ i x e. cc; terms = λ i t e. cc; below = λ i x e. cc; distinct = λ i j t p q. cc }

-- what the terms of an arena mean
pub means : (ns : List TermNode) → IsArena ns → Means (terms_in ns) (trees ns)
means ns a = means_from [] [] (terms_in ns) nothing a.below a.once

from_append : (ts : List Tree) (a b : List Term) → trees_from ts (a ++ b) ≡ trees_from (trees_from ts a) b
from_append ts [] b = refl
from_append ts (x ∷ a) b = from_append (ts ++ term_tree ts x ∷ []) a b

grows : (us : List Tree) (more : List Term) → (rest : List Tree) × (trees_from us more ≡ us ++ rest)
grows us [] = ([], sym (append-nil us))
grows us (x ∷ more) = let (rest, e) = grows (us ++ term_tree us x ∷ []) more in (term_tree us x ∷ rest, e ∙ append_assoc us (term_tree us x ∷ []) rest)

pub grows_none : (ns : List TermNode) → Grows ns ns
grows_none ns = ([], sym (append-nil ns))

pub trees_grow : (ns ms : List TermNode) → Grows ns ms → (rest : List Tree) × (trees ms ≡ trees ns ++ rest)
trees_grow ns ms (more, e) =
    let (rest, g) = grows (trees ns) (terms_in more) in
    (rest, ap trees e ∙ ap (trees_from []) (map_append (λ (n : TermNode). n.term) ns more) ∙ from_append [] (terms_in ns) (terms_in more) ∙ g)

pub trees_length : (ns : List TermNode) → IsArena ns → length (trees ns) ≡ length ns
trees_length ns a = let m = means ns a in m.len ∙ map_length (λ (n : TermNode). n.term) ns

at_of : (ts : List Tree) (i : TermId) (t : Tree) → slice_get ts i.0 ≡ Some t → tree_at ts i ≡ t
at_of ts i t e = ap (λ o. unwrap_or o (constant no_value)) e

-- ---- what is at an id

pub node_tree : (ns : List TermNode) (i : TermId) (n : TermNode) → IsArena ns → slice_get ns i.0 ≡ Some n → tree_at (trees ns) i ≡ term_tree (trees ns) n.term
node_tree ns i n a e = let m = means ns a in at_of (trees ns) i _ (m.each i.0 n.term (get_map (λ (n : TermNode). n.term) ns i.0 n e))

pub node_below : (ns : List TermNode) (i : ℕ) (n : TermNode) → IsArena ns → slice_get ns i ≡ Some n → term_below i n.term ≡ true
node_below ns i n a e = let m = means ns a in m.below i n.term (get_map (λ (n : TermNode). n.term) ns i n e)

-- ---- an arena with a term more

arena_push : (ns : List TermNode) (n : TermNode) → IsArena ns → term_below (length ns) n.term ≡ true → IsTypedNode (trees ns) n → ((i : ℕ) → slice_get (terms_in ns) i ≡ Some n.term → ⊥)
    → IsArena (ns ++ n ∷ [])
arena_push ns n a lt ty new =
    let T : TermNode → Term = λ (x : TermNode). x.term in
    let split : terms_in (ns ++ n ∷ []) ≡ terms_in ns ++ n.term ∷ [] = map_push T ns n in
    let len : length (terms_in ns) ≡ length ns = map_length T ns in
    let lt2 : term_below (0 + length (terms_in ns)) n.term ≡ true = ap (λ k. term_below k n.term) (omega arith) ∙ lt in
    let below : all_below 0 (terms_in ns ++ n.term ∷ []) ≡ true = below_push 0 (terms_in ns) n.term a.below lt2 in
    let Q : List Term → Type 0 = StandsOnce in
    let (rest, g) = trees_grow ns (ns ++ n ∷ []) (n ∷ [], refl) in
    let tlen : length (trees ns) ≡ length ns = trees_length ns a in
    let same : (x : Term) → term_below (length ns) x ≡ true → term_tree (trees (ns ++ n ∷ [])) x ≡ term_tree (trees ns) x = λ x h. ap (λ ts. term_tree ts x) g
    ∙ tree_below (trees ns) rest x (ap (λ k. term_below k x) tlen ∙ h) in
    let typed : (x : TermNode) → term_below (length ns) x.term ≡ true → IsTypedNode (trees ns) x → IsTypedNode (trees (ns ++ n ∷ [])) x = λ x h t. (
      let P : Tree → Type 0 = IsTyped in
          subst P (sym (same x.term h)) t.0,
      t.1 ∙ ap type_of (sym (same x.term h)),
    ) in
    record {
      below = ap (all_below 0) split ∙ below;
      once = subst Q (sym split) (once_push (terms_in ns) n.term a.once new);
      typed = λ i x e. elim (push_cases ns n x i e) [
        | inl p ↦ typed x (term_more i (length ns) (let q : i < length ns = slice_get_within ns i x p in omega arith) x.term (node_below ns i x a p)) (a.typed i x p)
        | inr p ↦ let P : TermNode → Type 0 = IsTypedNode (trees (ns ++ n ∷ [])) in subst P p.1 (typed n lt ty)
      ];
    }

not_found : (n : TermNode) (ns : List TermNode) → list_any (same_node n) ns ≡ false → (i : ℕ) → slice_get (terms_in ns) i ≡ Some n.term → ⊥
not_found n ns e i p = let q : true ≡ false = sym (found n ns i p) ∙ e in cc

insert_keeps : (ns : List TermNode) (n : TermNode) → IsArena ns → term_below (length ns) n.term ≡ true → IsTypedNode (trees ns) n → (b : Bool) → list_any (same_node n) ns ≡ b
    → IsArena (if b then ns else ns ++ n ∷ [])
insert_keeps ns n a lt ty true e = a
insert_keeps ns n a lt ty false e = arena_push ns n a lt ty (not_found n ns e)

pub intern_keeps : {A B : Type 0} (r : Result A B) (ns ms : List TermNode) (n : TermNode) → IfOk r (λ _. ms ≡ (if list_any (same_node n) ns then ns else ns ++ n ∷ [])) → OnErr r (ms ≡ ns)
    → term_below (length ns) n.term ≡ true → IsTypedNode (trees ns) n → IsArena ns → IsArena ms
intern_keeps (Ok x) ns ms n ok err lt ty a = let P : List TermNode → Type 0 = IsArena in subst P (sym ok) (insert_keeps ns n a lt ty (list_any (same_node n) ns) refl)
intern_keeps (Err x) ns ms n ok err lt ty a = let P : List TermNode → Type 0 = IsArena in subst P (sym err) a

insert_grows : (ns : List TermNode) (n : TermNode) (b : Bool) → Grows ns (if b then ns else ns ++ n ∷ [])
insert_grows ns n true = ([], sym (append-nil ns))
insert_grows ns n false = (n ∷ [], refl)

pub intern_grows : {A B : Type 0} (r : Result A B) (ns ms : List TermNode) (n : TermNode) → IfOk r (λ _. ms ≡ (if list_any (same_node n) ns then ns else ns ++ n ∷ [])) → OnErr r (ms ≡ ns) → Grows ns ms
intern_grows (Ok x) ns ms n ok err = let P : List TermNode → Type 0 = Grows ns in subst P (sym ok) (insert_grows ns n (list_any (same_node n) ns))
intern_grows (Err x) ns ms n ok err = ([], err ∙ sym (append-nil ns))

-- the id of the term that was put stands for its tree
pub interned : (ns ms : List TermNode) (n k : TermNode) (i : TermId) → IsArena ns → IsArena ms → Grows ns ms → term_below (length ns) n.term ≡ true → slice_get ms i.0 ≡ Some k → same_node n k ≡ true
    → StandsForTree ms i (term_tree (trees ns) n.term)
interned ns ms n k i a b grow lt at same =
    let (rest, g) = trees_grow ns ms grow in
    let one : n.term ≡ k.term = same_term-is n.term k.term same in
    record {
      is_in = slice_get_within ms i.0 k at;
      tree = node_tree ms i k b at ∙ ap (term_tree (trees ms)) (sym one) ∙ ap (λ ts. term_tree ts n.term) g
          ∙ tree_below (trees ns) rest n.term (ap (λ m. term_below m n.term) (trees_length ns a) ∙ lt);
    }

-- ---- what `intern` shows, where the value vs is seen as the keys ns

module _ (vs ns ms : List TermNode) (n : TermNode) (e : ns ≡ vs) (lt : term_below (length vs) n.term ≡ true) (ty : IsTypedNode (trees vs) n) (a : IsArena ns) where
  lt_in : term_below (length ns) n.term ≡ true
  lt_in = let P : List TermNode → Type 0 = λ xs. term_below (length xs) n.term ≡ true in subst P (sym e) lt

  ty_in : IsTypedNode (trees ns) n
  ty_in = let P : List TermNode → Type 0 = λ xs. IsTypedNode (trees xs) n in subst P (sym e) ty

  pub keeps_at : {A B : Type 0} (r : Result A B) → IfOk r (λ _. ms ≡ (if list_any (same_node n) ns then ns else ns ++ n ∷ [])) → OnErr r (ms ≡ ns) → IsArena ms
  keeps_at r ok err = intern_keeps r ns ms n ok err lt_in ty_in a

  pub grows_at : {A B : Type 0} (r : Result A B) → IfOk r (λ _. ms ≡ (if list_any (same_node n) ns then ns else ns ++ n ∷ [])) → OnErr r (ms ≡ ns) → Grows vs ms
  grows_at r ok err = let P : List TermNode → Type 0 = λ xs. Grows xs ms in subst P e (intern_grows r ns ms n ok err)

  pub stands_at : {A B : Type 0} (r : Result A B) → IfOk r (λ _. ms ≡ (if list_any (same_node n) ns then ns else ns ++ n ∷ [])) → OnErr r (ms ≡ ns)
      → (i : TermId) → (k : TermNode) × (slice_get ms i.0 ≡ Some k) × (same_node n k ≡ true) → StandsForTree ms i (term_tree (trees vs) n.term)
  stands_at r ok err i (k, at, same) =
      let P : List TermNode → Type 0 = λ xs. StandsForTree ms i (term_tree (trees xs) n.term) in
      subst P e (interned ns ms n k i a (keeps_at r ok err) (intern_grows r ns ms n ok err) lt_in at same)

-- what is at an id of an arena

module _ (vs ns : List TermNode) (e : ns ≡ vs) (a : IsArena ns) (t : TermId) (n : TermNode) (at : slice_get ns t.0 ≡ Some n) where
  pub at_shown : term_tree (trees vs) n.term ≡ tree_at (trees vs) t
  at_shown = let P : List TermNode → Type 0 = λ xs. term_tree (trees xs) n.term ≡ tree_at (trees xs) t in subst P e (sym (node_tree ns t n a at))

  pub at_below_id : term_below t.0 n.term ≡ true
  at_below_id = node_below ns t.0 n a at

  pub at_typed : IsTyped (tree_at (trees vs) t)
  at_typed = let P : Tree → Type 0 = IsTyped in let Q : List TermNode → Type 0 = λ xs. IsTyped (tree_at (trees xs) t) in subst Q e (subst P (sym (node_tree ns t n a at)) (a.typed t.0 n at).0)

  pub at_ty : n.ty ≡ type_of (tree_at (trees vs) t)
  at_ty = let P : List TermNode → Type 0 = λ xs. n.ty ≡ type_of (tree_at (trees xs) t) in subst P e ((a.typed t.0 n at).1 ∙ ap type_of (sym (node_tree ns t n a at)))

bool_num : (x : ℕ) → (x == x) ≡ true
bool_num x = grind (arith, nat_tests)

num_same_is : (p q : ℕ) → (p == q) ≡ true → p ≡ q
num_same_is p q e = grind (arith, nat_tests)

-- equal terms have one id
pub one_id : (vs ns : List TermNode) → ns ≡ vs → IsArena ns → (x y : TermId) → IsIn vs x → IsIn vs y → (x.0 == y.0) ≡ same_tree (tree_at (trees vs) x) (tree_at (trees vs) y)
one_id vs ns e a x y p q =
    let P : List TermNode → Type 0 = λ ws. IsIn ws x → IsIn ws y → (x.0 == y.0) ≡ same_tree (tree_at (trees ws) x) (tree_at (trees ws) y) in
    subst P e (at ns a) p q
  where
    at : (ws : List TermNode) → IsArena ws → IsIn ws x → IsIn ws y → (x.0 == y.0) ≡ same_tree (tree_at (trees ws) x) (tree_at (trees ws) y)
    at ws b h k =
        let m = means ws b in
        let l = trees_length ws b in
        both_ways (x.0 == y.0) (same_tree (tree_at (trees ws) x) (tree_at (trees ws) y))
        (λ s. ap (λ z. same_tree z (tree_at (trees ws) y)) (ap (tree_at (trees ws)) (same_id x y (num_same_is x.0 y.0 s))) ∙ same_tree-refl (tree_at (trees ws) y))
        (λ s. let u : x ≡ y = one_id_at (trees ws) m.distinct x y (lt-ltb x.0 (length (trees ws)) (omega arith)) (lt-ltb y.0 (length (trees ws)) (omega arith)) (same_tree-is _ _ s) in
        ap (λ z. z.0 == y.0) u ∙ bool_num y.0)

get_some : (ns : List TermNode) (i : ℕ) → i < length ns → (n : TermNode) × (slice_get ns i ≡ Some n)
get_some [] i h = absurd (omega arith)
get_some (n ∷ ns) zero h = (n, refl)
get_some (n ∷ ns) (suc i) h = get_some ns i (omega arith)

pub id_typed : (ns : List TermNode) → IsArena ns → (x : TermId) → IsIn ns x → IsTyped (tree_at (trees ns) x)
id_typed ns a x h = let (n, at) = get_some ns x.0 h in at_typed ns ns refl a x n at

-- the terms of ids are typed
pub ids_typed : (vs ns : List TermNode) → ns ≡ vs → IsArena ns → (xs : List TermId) → AreIn vs xs → AreTyped (tree_row (trees_at vs xs))
ids_typed vs ns e a xs h =
    let P : List TermNode → Type 0 = λ ws. AreIn ws xs → AreTyped (tree_row (trees_at ws xs)) in
    subst P e (each xs) h
  where
    each : (ys : List TermId) → AreIn ns ys → AreTyped (tree_row (trees_at ns ys))
    each [] k = tt
    each (y ∷ ys) k = (
      id_typed ns a y (ltb-true y.0 (length ns) (first_so (nat_lt y.0 (length ns)) (ids_below (length ns) ys) k)),
      each ys (second_so (nat_lt y.0 (length ns)) (ids_below (length ns) ys) k),
    )

pub apart_at : (vs ns : List TermNode) → ns ≡ vs → IsArena ns → OneId vs
apart_at vs ns e a =
    let P : List TermNode → Type 0 = OneId in
    subst P e (λ x y p q s.
    let m = means ns a in
    let l = trees_length ns a in
    one_id_at (trees ns) m.distinct x y (lt-ltb x.0 (length (trees ns)) (omega arith)) (lt-ltb y.0 (length (trees ns)) (omega arith)) s)

pub all_typed_at : (vs ns : List TermNode) → ns ≡ vs → IsArena ns → AllTyped vs
all_typed_at vs ns e a = let P : List TermNode → Type 0 = AllTyped in subst P e (id_typed ns a)

pub at_term : (vs ns : List TermNode) → ns ≡ vs → (i : ℕ) (n : TermNode) → slice_get ns i ≡ Some n → slice_get (terms_in vs) i ≡ Some n.term
at_term vs ns e i n at = let P : List TermNode → Type 0 = λ xs. slice_get (terms_in xs) i ≡ Some n.term in subst P e (get_map (λ (m : TermNode). m.term) ns i n at)
