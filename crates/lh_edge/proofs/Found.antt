-- The ids of atoms as they are found.
use Rattle.std.proofs.Common.{◌≡◌, ℕ, zero, suc, ◌+◌, ◌<◌, ◌≤◌, Bool, true, false, not, ◌||◌, nat_eq, nat_lt, if◌then◌else◌, List, [], ◌∷◌, ◌++◌, length, map, take, get_or, refl, sym, ap, ◌∙◌, subst, inl, inr, arith, Option, Some, None, slice_get, append_assoc, append-nil, Vec, ltb-true, lt-ltb}
use Rattle.std.specs.Cmp.{first_so, second_so}
use Rattle.lh_term.specs.declared.part.Part.{Part}
use Rattle.lh_term.specs.declared.term.TermId.{TermId}
use Rattle.lh_term.specs.declared.term.TermNode.{TermNode}
use Rattle.lh_term.specs.Tree.{Tree, constant, past_of, now_of, operation, choice_of}
use Rattle.lh_term.specs.SameTree.{same_tree, same_tree-is, same_tree-refl}
use Rattle.lh_types.specs.Same.{nat_eq-refl, nat_eq-is}
use Rattle.lh_term.specs.Arena.{tree_at, trees, trees_at, term_tree, ids_below, IsIn, AreIn, Grows}
use Rattle.lh_term.specs.Reach.{is_on, GoOn, none_left, PassesOn, AreReached}
use Rattle.lh_term.proofs.Arenas.{map_append}
use Rattle.lh_term.proofs.TermWalks.{on_push, on_at, on_below, pass_on, pass_own, is_behind, in_push}
use Rattle.lh_term.proofs.Swaps.{term_there, tree_grown, in_grown, grows_on}
use Rattle.lh_term.proofs.Walks.{id_below}
use Rattle.lh_edge.specs.Atoms.{is_one_bit, is_connective, subterms, subterms_in, presents, has, atoms_of}
use Rattle.lh_edge.specs.Reached.{joined_by, is_atom}
use Rattle.lh_edge.specs.Steps.{AreDistinct, AreIdsOf, AreAllIdsOf, FindsThe, found_items, with_missing, with_atom, with_some, present_tree, IsPresent, AddsPresent}
use Rattle.lh_edge.proofs.Bools.{has_append, has_left, has_right, has_self, has_once}
use Rattle.lh_edge.proofs.Joined.{joins, IsJoined, is_joined, found_in, joined_sound}
use Rattle.std.proofs.lemmas.List.{take_more, map_push}
use Rattle.std.proofs.lemmas.Bool.{and_from, or_cases, or_left, or_right, not-true, not_from_false, false_from_ne_true}
use Rattle.lh_edge.proofs.Numbers.{here_or_before}
use Rattle.lh_types.proofs.Tests.{not_both}

-- ---- terms with one more

distinct_push : (ts : List Tree) (t : Tree) → AreDistinct ts → has ts t ≡ false → AreDistinct (ts ++ t ∷ [])
distinct_push [] t d h = (refl, tt)
distinct_push (u ∷ ts) t d h =
    let n = neither (same_tree u t) (has ts t) h in
    (has_append ts (t ∷ []) u ∙ both_false (has ts u) (same_tree t u) d.0 (other n.0), distinct_push ts t d.1 n.1)
  where
    neither : (a b : Bool) → (a || b) ≡ false → (a ≡ false) × (b ≡ false)
    neither true b e = cc
    neither false b e = (refl, e)

    other : same_tree u t ≡ false → same_tree t u ≡ false
    other e = false_from_ne_true (same_tree t u) (λ s. not_both (same_tree u t) (ap (same_tree u) (same_tree-is t u s) ∙ same_tree-refl u) e)

    both_false : (a b : Bool) → a ≡ false → b ≡ false → (a || (b || false)) ≡ false
    both_false a b p q = rw (p, q) refl

module _ (ns : List TermNode) (ids : List TermId) (x : TermId) where
  at_end : trees_at ns (ids ++ x ∷ []) ≡ trees_at ns ids ++ tree_at (trees ns) x ∷ []
  at_end = map_push (tree_at (trees ns)) ids x

  pub missing_has : has (trees_at ns (with_missing ns ids x)) (tree_at (trees ns) x) ≡ true
  missing_has = at (has (trees_at ns ids) (tree_at (trees ns) x)) refl
    where
      at : (b : Bool) → has (trees_at ns ids) (tree_at (trees ns) x) ≡ b → has (trees_at ns (if b then ids else ids ++ x ∷ [])) (tree_at (trees ns) x) ≡ true
      at true e = e
      at false e = ap (λ us. has us (tree_at (trees ns) x)) at_end ∙ has_right (trees_at ns ids) (tree_at (trees ns) x ∷ []) (tree_at (trees ns) x) (has_self (tree_at (trees ns) x) [])

  pub missing_keeps : (t : Tree) → has (trees_at ns ids) t ≡ true → has (trees_at ns (with_missing ns ids x)) t ≡ true
  missing_keeps t h = at (has (trees_at ns ids) (tree_at (trees ns) x))
    where
      at : (b : Bool) → has (trees_at ns (if b then ids else ids ++ x ∷ [])) t ≡ true
      at true = h
      at false = ap (λ us. has us t) at_end ∙ has_left (trees_at ns ids) (tree_at (trees ns) x ∷ []) t h

  pub missing_of : (ts : List Tree) → AreIdsOf ns ts ids → IsIn ns x → has ts (tree_at (trees ns) x) ≡ true → AreIdsOf ns ts (with_missing ns ids x)
  missing_of ts a i h = at (has (trees_at ns ids) (tree_at (trees ns) x)) refl
    where
      at : (b : Bool) → has (trees_at ns ids) (tree_at (trees ns) x) ≡ b → AreIdsOf ns ts (if b then ids else ids ++ x ∷ [])
      at true e = a
      at false e = record {
        are_in = in_push (length ns) ids x a.are_in i;
        distinct = subst AreDistinct (sym at_end) (distinct_push (trees_at ns ids) (tree_at (trees ns) x) a.distinct e);
        sound = λ t k. elim (or_cases (has (trees_at ns ids) t) (has (tree_at (trees ns) x ∷ []) t) (sym (has_append (trees_at ns ids) (tree_at (trees ns) x ∷ []) t) ∙ ap (λ us. has us t) (sym at_end)
            ∙ k)) [
              | inl p ↦ a.sound t p
              | inr p ↦ elim (or_cases (same_tree (tree_at (trees ns) x) t) false p) [ inl q ↦ ap (has ts) (sym (same_tree-is _ t q)) ∙ h | inr q ↦ cc ]
            ];
      }

  -- what was there stays in front
  pub missing_front : (rest : List TermId) × (with_missing ns ids x ≡ ids ++ rest)
  missing_front = at (has (trees_at ns ids) (tree_at (trees ns) x))
    where
      at : (b : Bool) → (rest : List TermId) × ((if b then ids else ids ++ x ∷ []) ≡ ids ++ rest)
      at true = ([], sym (append-nil ids))
      at false = (x ∷ [], refl)

none_of : (ns : List TermNode) (ts : List Tree) → AreIdsOf ns ts []
none_of ns ts = record { are_in = refl; distinct = tt; sound = λ t h. cc }

-- ---- the subterms found so far

-- what is found is of these terms, and of those that are no connective each is found
pub record FoundSoFar (ns : List TermNode) (ts : List Tree) (found done : List TermId) : Type 0 where
  pub of : AreIdsOf ns ts found
  pub each : (j : ℕ) → is_on done j ≡ true → is_atom (tree_at (trees ns) (record { 0 = j })) ≡ true → has (trees_at ns found) (tree_at (trees ns) (record { 0 = j })) ≡ true

pub found_start : (ns : List TermNode) (ts : List Tree) (found : List TermId) → found ≡ [] → FoundSoFar ns ts found []
found_start ns ts found m = subst (λ (xs : List TermId). FoundSoFar ns ts xs []) (sym m) (record { of = none_of ns ts; each = λ j o. cc })

atom_alone : (t : Tree) → is_atom t ≡ true → subterms t ≡ t ∷ []
atom_alone (constant d) e = at (is_one_bit (constant d)) e
  where
    at : (b : Bool) → not b ≡ true → (if b then [] else constant d ∷ []) ≡ constant d ∷ []
    at true k = cc
    at false k = refl
atom_alone (past_of p) e = refl
atom_alone (now_of p) e = refl
atom_alone (operation op ts) e = at (is_connective op ts) e
  where
    at : (b : Bool) → not b ≡ true → (if b then subterms_in ts else operation op ts ∷ []) ≡ operation op ts ∷ []
    at true k = cc
    at false k = refl
atom_alone (choice_of c f t) e = at (is_one_bit f) e
  where
    at : (b : Bool) → not b ≡ true → (if b then subterms c ++ (subterms f ++ subterms t) else choice_of c f t ∷ []) ≡ choice_of c f t ∷ []
    at true k = cc
    at false k = refl

-- a term that is reached has no subterm but those of the edge part
subterm_of : (ns : List TermNode) (e : TermId) (ids : List TermId) → AreReached (joined_by (trees ns)) ns (e ∷ []) ids → (j : ℕ) (t : Tree) → is_on ids j ≡ true → has (subterms (tree_at (trees ns) (record { 0 = j }))) t ≡ true
    → has (subterms (tree_at (trees ns) e)) t ≡ true
subterm_of ns e ids r j t o h = at (has (subterms (tree_at (trees ns) e)) t) refl
  where
    lacks : ℕ → Bool
    lacks i = not (has (subterms (tree_at (trees ns) (record { 0 = i }))) t)

    passes : PassesOn (joined_by (trees ns)) ns lacks
    passes i k is shown n = pass_own lacks (joined_by (trees ns) k) (λ m a. not_from_false (has (subterms (tree_at (trees ns) (record { 0 = m }))) t) (false_from_ne_true (has (subterms (tree_at (trees ns) (record { 0 = m }))) t)
        (λ y. not_both (has (subterms (tree_at (trees ns) (record { 0 = i }))) t) (joined_sound ns i k shown m t a y) (not-true (has (subterms (tree_at (trees ns) (record { 0 = i }))) t) n))))

    at : (b : Bool) → has (subterms (tree_at (trees ns) e)) t ≡ b → b ≡ true
    at true q = refl
    at false q = absurd (not_both (has (subterms (tree_at (trees ns) (record { 0 = j }))) t) h
        (not-true (has (subterms (tree_at (trees ns) (record { 0 = j }))) t) (pass_on lacks ids j (r.only lacks passes (not_from_false (has (subterms (tree_at (trees ns) e)) t) q, tt)) o)))

-- the subterms of a term are of these
abbrev pub HasSubterms : List TermNode → List Tree → TermId → Type 0
HasSubterms ns ts x = (t : Tree) → has (subterms (tree_at (trees ns) x)) t ≡ true → has ts t ≡ true

found_next : (ns : List TermNode) (ts : List Tree) (found done : List TermId) (x : TermId) (more : List TermId) → FoundSoFar ns ts found done → HasSubterms ns ts x → IsIn ns x → more ≡ with_atom ns found x
    → FoundSoFar ns ts more (done ++ x ∷ [])
found_next ns ts found done x more s o l m = subst (λ (xs : List TermId). FoundSoFar ns ts xs (done ++ x ∷ [])) (sym m) (at (is_atom T) refl)
  where
    T : Tree
    T = tree_at (trees ns) x

    same : (j : ℕ) → j ≡ x.0 → tree_at (trees ns) (record { 0 = j }) ≡ T
    same j p = ap (λ n. tree_at (trees ns) (record { 0 = n })) p

    at : (b : Bool) → is_atom T ≡ b → FoundSoFar ns ts (if b then with_missing ns found x else found) (done ++ x ∷ [])
    at false q = record {
      of = s.of;
      each = λ j d a. elim (on_push done x j d) [
        | inl p ↦ absurd (not_both (is_atom T) (ap is_atom (sym (same j p)) ∙ a) q)
        | inr p ↦ s.each j p a
      ];
    }
    at true q =
        let h : has (subterms T) T ≡ true = ap (λ us. has us T) (atom_alone T q) ∙ has_self T [] in
        record {
          of = missing_of ns found x ts s.of l (o T h);
          each = λ j d a. elim (on_push done x j d) [
            | inl p ↦ ap (has (trees_at ns (with_missing ns found x))) (same j p) ∙ missing_has ns found x
            | inr p ↦ missing_keeps ns found x (tree_at (trees ns) (record { 0 = j })) (s.each j p a)
          ];
        }

-- one more term of a list, each of which has subterms of these alone
pub found_one_more : (ns : List TermNode) (ts : List Tree) (found ids more : List TermId) (n : ℕ) (d : TermId) → AreIn ns ids → ((x : TermId) → is_on ids x.0 ≡ true → HasSubterms ns ts x) → n < length ids
    → FoundSoFar ns ts found (take n ids) → more ≡ with_atom ns found (get_or ids n d) → FoundSoFar ns ts more (take (n + 1) ids)
found_one_more ns ts found ids more n d i h l s m =
    subst (λ (xs : List TermId). FoundSoFar ns ts more xs) (sym (take_more ids n d l))
    (found_next ns ts found (take n ids) (get_or ids n d) more s (h (get_or ids n d) (on_at ids n d l)) (on_below (length ns) ids (get_or ids n d).0 i (on_at ids n d l)) m)

pub found_turn : (ns : List TermNode) (e : TermId) (found ids more : List TermId) (n : ℕ) (d : TermId) → AreReached (joined_by (trees ns)) ns (e ∷ []) ids → n < length ids
    → FoundSoFar ns (subterms (tree_at (trees ns) e)) found (take n ids) → more ≡ with_atom ns found (get_or ids n d) → FoundSoFar ns (subterms (tree_at (trees ns) e)) more (take (n + 1) ids)
found_turn ns e found ids more n d r l s m = found_one_more ns (subterms (tree_at (trees ns) e)) found ids more n d r.are_in (λ x o t h. subterm_of ns e ids r x.0 t o h) l s m

-- each subterm of a term that is reached is found
module _ (ns : List TermNode) (found ids : List TermId) (t : Tree)
    (each : (j : ℕ) → is_on ids j ≡ true → is_atom (tree_at (trees ns) (record { 0 = j })) ≡ true → has (trees_at ns found) (tree_at (trees ns) (record { 0 = j })) ≡ true) where
  pub all_below : (left : List TermId) → AreIn ns left → ((j : ℕ) → is_on left j ≡ true → is_on ids j ≡ true) → GoOn (joined_by (trees ns)) ns none_left left → (j : ℕ) → is_on left j ≡ true
      → has (subterms (tree_at (trees ns) (record { 0 = j }))) t ≡ true → has (trees_at ns found) t ≡ true
  all_below [] i sub g j o h = cc
  all_below (x ∷ left) i sub g j o h =
      step (all_below left (second_so (nat_lt x.0 (length ns)) (ids_below (length ns) left) i) (λ m p. sub m (or_right (nat_eq m x.0) (is_on left m) p)) g.1)
    where
      X : Tree
      X = tree_at (trees ns) x

      x_in : x.0 < length ns
      x_in = ltb-true x.0 (length ns) (first_so (nat_lt x.0 (length ns)) (ids_below (length ns) left) i)

      Rest : Type 0
      Rest = (m : ℕ) → is_on left m ≡ true → has (subterms (tree_at (trees ns) (record { 0 = m }))) t ≡ true → has (trees_at ns found) t ≡ true

      at : Rest → (b : Bool) → is_atom X ≡ b → has (subterms X) t ≡ true → has (trees_at ns found) t ≡ true
      at rest true q k =
          let alone : has (X ∷ []) t ≡ true = ap (λ us. has us t) (sym (atom_alone X q)) ∙ k in
          elim (or_cases (same_tree X t) false alone) [
            | inl p ↦ ap (has (trees_at ns found)) (sym (same_tree-is X t p)) ∙ each x.0 (sub x.0 (or_left (nat_eq x.0 x.0) (is_on left x.0) (nat_eq-refl x.0))) q
            | inr p ↦ cc
          ]
      at rest false q k =
          let (z, is) = term_there ns x.0 x_in in
          let s = g.0 z is in
          let no : is_atom (term_tree (trees ns) z) ≡ false = ap is_atom s.shown ∙ q in
          let j_is : subterms (term_tree (trees ns) z) ≡ joins (map (tree_at (trees ns)) (joined_by (trees ns) z)) = subst (λ (b : Bool). IsJoined (trees ns) z b) no (is_joined (trees ns) z) in
          let f = found_in (trees ns) (joined_by (trees ns) z) t (ap (λ us. has us t) (sym j_is) ∙ ap (λ u. has (subterms u) t) s.shown ∙ k) in
          rest f.id.0 (pass_on (is_on left) (joined_by (trees ns) z) f.id.0 (is_behind (joined_by (trees ns)) ns x left z s) f.is_one) f.there

      step : Rest → has (trees_at ns found) t ≡ true
      step rest = elim (or_cases (nat_eq j x.0) (is_on left j) o) [
        | inl e ↦ at rest (is_atom X) refl (ap (λ n. has (subterms (tree_at (trees ns) (record { 0 = n }))) t) (sym (nat_eq-is j x.0 e)) ∙ h)
        | inr r ↦ rest j r h
      ]

pub take_all : (xs : List TermId) (n : ℕ) → length xs ≤ n → take n xs ≡ xs
take_all [] zero l = refl
take_all [] (suc n) l = refl
take_all (x ∷ xs) zero l = absurd (omega arith)
take_all (x ∷ xs) (suc n) l = ap (λ r. x ∷ r) (take_all xs n (omega arith))

pub finds_all : (ns : List TermNode) (e : TermId) (found ids : List TermId) (n : ℕ) → AreReached (joined_by (trees ns)) ns (e ∷ []) ids → length ids ≤ n → length found ≤ 12 → FoundSoFar ns (subterms (tree_at (trees ns) e)) found (take n ids)
    → AreAllIdsOf ns (subterms (tree_at (trees ns) e)) found
finds_all ns e found ids n r z few w =
    let v : FoundSoFar ns (subterms (tree_at (trees ns) e)) found ids = subst (λ (xs : List TermId). FoundSoFar ns (subterms (tree_at (trees ns) e)) found xs) (take_all ids n z) w in
    record { are = v.of; few = few; whole = λ t h. all_below ns found ids t v.each ids r.are_in (λ j p. p) r.go_on e.0 r.there.0 h }

-- ---- values now are added

module _ (old cur : List TermNode) (g : Grows old cur) where
  pub trees_grown : (xs : List TermId) → AreIn old xs → trees_at cur xs ≡ trees_at old xs
  trees_grown [] h = refl
  trees_grown (x ∷ xs) h =
      let a = tree_grown old cur g x (ltb-true x.0 (length old) (first_so (nat_lt x.0 (length old)) (ids_below (length old) xs) h)) in
      let b = trees_grown xs (second_so (nat_lt x.0 (length old)) (ids_below (length old) xs) h) in
      λ i. a i ∷ b i

  pub ids_grown : (xs : List TermId) → AreIn old xs → AreIn cur xs
  ids_grown [] h = refl
  ids_grown (x ∷ xs) h =
      let l : x.0 < length old = ltb-true x.0 (length old) (first_so (nat_lt x.0 (length old)) (ids_below (length old) xs) h) in
      and_from _ _ (lt-ltb x.0 (length cur) (in_grown old cur g x l)) (ids_grown xs (second_so (nat_lt x.0 (length old)) (ids_below (length old) xs) h))

  pub of_grown : (ts : List Tree) (xs : List TermId) → AreIdsOf old ts xs → AreIdsOf cur ts xs
  of_grown ts xs a =
      let e = trees_grown xs a.are_in in
      record {
        are_in = ids_grown xs a.are_in;
        distinct = subst AreDistinct (sym e) a.distinct;
        sound = λ t h. a.sound t (ap (λ us. has us t) (sym e) ∙ h);
      }

abbrev pub with_presents : Tree → List Tree
with_presents e = subterms e ++ presents (subterms e)

-- the values now of the first k of the subterms are there
pub record PresentSoFar (old cur : List TermNode) (e : Tree) (first ids : List TermId) (k : ℕ) : Type 0 where
  pub grows : Grows old cur
  pub of : AreIdsOf cur (with_presents e) ids
  pub front : (rest : List TermId) × (ids ≡ first ++ rest)
  pub done : (j : ℕ) (x : TermId) (t : Tree) → j < k → slice_get first j ≡ Some x → present_tree (tree_at (trees old) x) ≡ Some t → has (trees_at cur ids) t ≡ true

pub present_start : (ns : List TermNode) (e : Tree) (first : List TermId) → AreAllIdsOf ns (subterms e) first → PresentSoFar ns ns e first first 0
present_start ns e first a = record {
  grows = ([], sym (append-nil ns));
  of = record { are_in = a.are.are_in; distinct = a.are.distinct; sound = λ t h. has_left (subterms e) (presents (subterms e)) t (a.are.sound t h) };
  front = ([], sym (append-nil first));
  done = λ j x t l. absurd (omega arith);
}

get_front : (xs ys : List TermId) (k : ℕ) (d : TermId) → k < length xs → slice_get xs k ≡ Some (get_or (xs ++ ys) k d)
get_front [] ys k d l = absurd (omega arith)
get_front (x ∷ xs) ys zero d l = refl
get_front (x ∷ xs) ys (suc k) d l = get_front xs ys k d (omega arith)

has_at : (ns : List TermNode) (xs : List TermId) (i : ℕ) (x : TermId) → slice_get xs i ≡ Some x → has (trees_at ns xs) (tree_at (trees ns) x) ≡ true
has_at ns [] i x e = cc
has_at ns (y ∷ xs) zero x e = let q : y ≡ x = cc in ap (λ z. has (trees_at ns (y ∷ xs)) (tree_at (trees ns) z)) (sym q) ∙ has_self (tree_at (trees ns) y) (trees_at ns xs)
has_at ns (y ∷ xs) (suc i) x e = or_right (same_tree (tree_at (trees ns) y) (tree_at (trees ns) x)) _ (has_at ns xs i x e)

place_of : (ns : List TermNode) (xs : List TermId) (t : Tree) → has (trees_at ns xs) t ≡ true → (i : ℕ) × (x : TermId) × (slice_get xs i ≡ Some x) × (tree_at (trees ns) x ≡ t)
place_of ns [] t h = cc
place_of ns (y ∷ xs) t h = elim (or_cases (same_tree (tree_at (trees ns) y) t) (has (trees_at ns xs) t) h) [
  | inl p ↦ (0, y, refl, same_tree-is _ t p)
  | inr p ↦ let (i, x, at, is) = place_of ns xs t p in (suc i, x, at, is)
]

-- the value now of a subterm that is a value before
present_there : (ts : List Tree) (s t : Tree) → has ts s ≡ true → present_tree s ≡ Some t → has (presents ts) t ≡ true
present_there [] s t h e = cc
present_there (past_of p ∷ ts) s t h e = elim (or_cases (same_tree (past_of p) s) (has ts s) h) [
  | inl q ↦
      let is : past_of p ≡ s = same_tree-is (past_of p) s q in
      let one : Some (now_of p) ≡ Some t = ap present_tree is ∙ e in
      let two : now_of p ≡ t = cc in
      or_left _ _ (ap (same_tree (now_of p)) (sym two) ∙ same_tree-refl (now_of p))
  | inr q ↦ or_right _ _ (present_there ts s t q e)
]
present_there (constant d ∷ ts) s t h e = elim (or_cases (same_tree (constant d) s) (has ts s) h) [
  | inl q ↦ let one : None ≡ Some t = ap present_tree (same_tree-is (constant d) s q) ∙ e in cc
  | inr q ↦ present_there ts s t q e
]
present_there (now_of p ∷ ts) s t h e = elim (or_cases (same_tree (now_of p) s) (has ts s) h) [
  | inl q ↦ let one : None ≡ Some t = ap present_tree (same_tree-is (now_of p) s q) ∙ e in cc
  | inr q ↦ present_there ts s t q e
]
present_there (operation op us ∷ ts) s t h e = elim (or_cases (same_tree (operation op us) s) (has ts s) h) [
  | inl q ↦ let one : None ≡ Some t = ap present_tree (same_tree-is (operation op us) s q) ∙ e in cc
  | inr q ↦ present_there ts s t q e
]
present_there (choice_of a b c ∷ ts) s t h e = elim (or_cases (same_tree (choice_of a b c) s) (has ts s) h) [
  | inl q ↦ let one : None ≡ Some t = ap present_tree (same_tree-is (choice_of a b c) s q) ∙ e in cc
  | inr q ↦ present_there ts s t q e
]

present_from : (ts : List Tree) (t : Tree) → has (presents ts) t ≡ true → (p : Part) × (t ≡ now_of p) × (has ts (past_of p) ≡ true)
present_from [] t h = cc
present_from (past_of p ∷ ts) t h = elim (or_cases (same_tree (now_of p) t) (has (presents ts) t) h) [
  | inl q ↦ (p, sym (same_tree-is (now_of p) t q), has_self (past_of p) ts)
  | inr q ↦ let (r, e, k) = present_from ts t q in (r, e, or_right (same_tree (past_of p) (past_of r)) _ k)
]
present_from (constant d ∷ ts) t h = present_from ts t h
present_from (now_of p ∷ ts) t h = present_from ts t h
present_from (operation op us ∷ ts) t h = present_from ts t h
present_from (choice_of a b c ∷ ts) t h = present_from ts t h

no_present : (e p : Tree) (t : Tree) → present_tree p ≡ Some t → has (with_presents e) p ≡ true → has (subterms e) p ≡ true
no_present e p t q h = elim (or_cases (has (subterms e) p) (has (presents (subterms e)) p) (sym (has_append (subterms e) (presents (subterms e)) p) ∙ h)) [
  | inl k ↦ k
  | inr k ↦ let (r, is, m) = present_from (subterms e) p k in let n : None ≡ Some t = ap present_tree (sym is) ∙ q in cc
]

module _ (old cur : List TermNode) (e : Tree) (first ids : List TermId) (k : ℕ) (a : AreAllIdsOf old (subterms e) first) (s : PresentSoFar old cur e first ids k) (l : k < length first) where
  here : (d : TermId) → slice_get first k ≡ Some (get_or ids k d)
  here d = let (rest, f) = s.front in get_front first rest k d l ∙ ap (λ xs. Some (get_or xs k d)) (sym f)

  here_in : (d : TermId) → IsIn old (get_or ids k d)
  here_in d = id_below (length old) first k (get_or ids k d) a.are.are_in (here d)

  pub present_next : (new : List TermNode) (more : List TermId) → Grows cur new → AddsPresent cur new ids k more → PresentSoFar old new e first more (k + 1)
  present_next new more g p = at p.found p.made p.added
    where
      d : TermId
      d = record { 0 = 0 }

      x : TermId
      x = get_or ids k d

      X : Tree
      X = tree_at (trees old) x

      same : tree_at (trees cur) x ≡ X
      same = tree_grown old cur s.grows x (here_in d)

      old_done : (j : ℕ) (y : TermId) (t : Tree) → j < k → slice_get first j ≡ Some y → present_tree (tree_at (trees old) y) ≡ Some t → has (trees_at new ids) t ≡ true
      old_done j y t m is q = ap (λ us. has us t) (trees_grown cur new g ids s.of.are_in) ∙ s.done j y t m is q

      one : (y : TermId) → slice_get first k ≡ Some y → y ≡ x
      one y is = let c : Some y ≡ Some x = sym is ∙ here d in cc

      at : (f : Option TermId) → IsPresent new (tree_at (trees cur) x) f → more ≡ with_some new ids f → PresentSoFar old new e first more (k + 1)
      at None is m = subst (λ (xs : List TermId). PresentSoFar old new e first xs (k + 1)) (sym m) (record {
        grows = grows_on old cur new s.grows g;
        of = of_grown cur new g (with_presents e) ids s.of;
        front = s.front;
        done = λ j y t b q r. elim (here_or_before j k b) [
          | inl z ↦
              let h : slice_get first k ≡ Some y = ap (slice_get first) (sym z) ∙ q in
              let n : None ≡ Some t = sym is ∙ ap present_tree same ∙ ap (λ w. present_tree (tree_at (trees old) w)) (sym (one y h)) ∙ r in
              cc
          | inr z ↦ old_done j y t z q r
        ];
      })
      at (Some y) is m =
          let Y = tree_at (trees new) y in
          let pres : present_tree X ≡ Some Y = ap present_tree (sym same) ∙ is.1 in
          let there : has (with_presents e) X ≡ true = has_left (subterms e) (presents (subterms e)) X (a.are.sound X (has_at old first k x (here d))) in
          let sub : has (subterms e) X ≡ true = no_present e X Y pres there in
          let y_of : has (with_presents e) Y ≡ true = has_right (subterms e) (presents (subterms e)) Y (present_there (subterms e) X Y sub pres) in
          let (rest, f) = s.front in
          let (last, h) = missing_front new ids y in
          subst (λ (xs : List TermId). PresentSoFar old new e first xs (k + 1)) (sym m) (record {
            grows = grows_on old cur new s.grows g;
            of = missing_of new ids y (with_presents e) (of_grown cur new g (with_presents e) ids s.of) is.0 y_of;
            front = (rest ++ last, h ∙ ap (λ xs. xs ++ last) f ∙ append_assoc first rest last);
            done = λ j z t b q r. elim (here_or_before j k b) [
              | inl w ↦
                  let c : slice_get first k ≡ Some z = ap (slice_get first) (sym w) ∙ q in
                  let n : Some Y ≡ Some t = sym pres ∙ ap (λ v. present_tree (tree_at (trees old) v)) (sym (one z c)) ∙ r in
                  let eq : Y ≡ t = cc in
                  ap (has (trees_at new (with_missing new ids y))) (sym eq) ∙ missing_has new ids y
              | inr w ↦ missing_keeps new ids y t (old_done j z t w q r)
            ];
          })

pub all_present : (old cur : List TermNode) (e : Tree) (first ids : List TermId) (k : ℕ) → AreAllIdsOf old (subterms e) first → PresentSoFar old cur e first ids k → k ≡ length first → (t : Tree)
    → has (with_presents e) t ≡ true → has (trees_at cur ids) t ≡ true
all_present old cur e first ids k a s n t h = elim (or_cases (has (subterms e) t) (has (presents (subterms e)) t) (sym (has_append (subterms e) (presents (subterms e)) t) ∙ h)) [
  | inl p ↦
      let (rest, f) = s.front in
      let in_first : has (trees_at cur first) t ≡ true = ap (λ us. has us t) (trees_grown old cur s.grows first a.are.are_in) ∙ a.whole t p in
      ap (λ xs. has (trees_at cur xs) t) f ∙ ap (λ us. has us t) (map_append (tree_at (trees cur)) first rest) ∙ has_left (trees_at cur first) (trees_at cur rest) t in_first
  | inr p ↦
      let (q, is, m) = present_from (subterms e) t p in
      let (i, x, at, tr) = place_of old first (past_of q) (a.whole (past_of q) m) in
      s.done i x t (let l : i < length first = within first i x at in omega arith) at (ap present_tree tr ∙ ap Some (sym is))
]
  where
    within : (xs : List TermId) (i : ℕ) (x : TermId) → slice_get xs i ≡ Some x → i < length xs
    within [] i x e = cc
    within (y ∷ xs) zero x e = omega arith
    within (y ∷ xs) (suc i) x e = let r : i < length xs = within xs i x e in omega arith

-- ---- the atoms

atoms_has : (e t : Tree) → has (atoms_of e) t ≡ has (with_presents e) t
unfolding atoms_of
atoms_has e t = has_once (subterms e ++ presents (subterms e)) t

pub of_atoms : (ns : List TermNode) (e : Tree) (ids : List TermId) → AreIdsOf ns (with_presents e) ids → AreIdsOf ns (atoms_of e) ids
of_atoms ns e ids a = record { are_in = a.are_in; distinct = a.distinct; sound = λ t h. atoms_has e t ∙ a.sound t h }

pub the_atoms : (old cur : List TermNode) (e : Tree) (first ids : List TermId) (k : ℕ) → AreAllIdsOf old (subterms e) first → PresentSoFar old cur e first ids k → k ≡ length first → length ids ≤ 12
    → AreAllIdsOf cur (atoms_of e) ids
the_atoms old cur e first ids k a s n few = record {
  are = of_atoms cur e ids s.of;
  few = few;
  whole = λ t h. all_present old cur e first ids k a s n t (sym (atoms_has e t) ∙ h);
}

-- more than twelve subterms are more than twelve atoms
pub too_many : (ns : List TermNode) (e : Tree) → FindsThe ns (subterms e) None → FindsThe ns (atoms_of e) None
too_many ns e (ids, a, l) = (ids, of_atoms ns e ids (record { are_in = a.are_in; distinct = a.distinct; sound = λ t h. has_left (subterms e) (presents (subterms e)) t (a.sound t h) }), l)

-- ---- as the code takes it apart

pub found_of_none : {A : Type 0} (ns : List TermNode) (ts : List Tree) (o : Option (Vec TermId A)) → o ≡ None → FindsThe ns ts (found_items o) → FindsThe ns ts None
found_of_none {A} ns ts o e h = subst (λ (p : Option (Vec TermId A)). FindsThe ns ts (found_items p)) e h

pub found_of_some : {A : Type 0} (ns : List TermNode) (ts : List Tree) (o : Option (Vec TermId A)) (v : Vec TermId A) → o ≡ Some v → FindsThe ns ts (found_items o) → AreAllIdsOf ns ts v.items
found_of_some {A} ns ts o v e h = subst (λ (p : Option (Vec TermId A)). FindsThe ns ts (found_items p)) e h

pub more_than : (ns : List TermNode) (e : Tree) (cur : List TermNode) (first ids : List TermId) (k : ℕ) → PresentSoFar ns cur e first ids k → 12 < length ids → FindsThe cur (atoms_of e) None
more_than ns e cur first ids k s l = (ids, of_atoms cur e ids s.of, l)

pub id_read : (n : ℕ) (xs : List TermId) (k : ℕ) (x : TermId) → x ≡ get_or xs k x → k < length xs → ids_below n xs ≡ true → x.0 < n
id_read n xs k x e l h = id_below n xs k x h (at xs k x l ∙ ap Some (sym e))
  where
    at : (ys : List TermId) (j : ℕ) (d : TermId) → j < length ys → slice_get ys j ≡ Some (get_or ys j d)
    at [] j d m = absurd (omega arith)
    at (y ∷ ys) zero d m = refl
    at (y ∷ ys) (suc j) d m = at ys j d (omega arith)

pub bit_read : (bs : List Bool) (k : ℕ) (b v : Bool) → b ≡ get_or bs k b → slice_get bs k ≡ Some v → b ≡ v
bit_read bs k b v e h = e ∙ at bs k b h
  where
    at : (ys : List Bool) (j : ℕ) (d : Bool) → slice_get ys j ≡ Some v → get_or ys j d ≡ v
    at [] j d m = cc
    at (y ∷ ys) zero d m = cc
    at (y ∷ ys) (suc j) d m = at ys j d m

pub id_get : (n : ℕ) (xs : List TermId) (k : ℕ) (d : TermId) → k < length xs → ids_below n xs ≡ true → (get_or xs k d).0 < n
id_get n [] k d l h = absurd (omega arith)
id_get n (x ∷ xs) zero d l h = ltb-true x.0 n (first_so (nat_lt x.0 n) (ids_below n xs) h)
id_get n (x ∷ xs) (suc k) d l h = id_get n xs k d (omega arith) (second_so (nat_lt x.0 n) (ids_below n xs) h)
