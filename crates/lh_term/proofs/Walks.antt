-- The walk through the conjuncts of a condition.
use Rattle.std.proofs.Common.{◌≡◌, ℕ, zero, suc, ◌+◌, ◌*◌, ◌<◌, List, [], ◌∷◌, ◌++◌, length, map, Bool, true, false, not, ◌&&◌, ◌||◌, cond, nat_eq, nat_lt, refl, ap, sym, ◌∙◌, subst, Some, arith, append_assoc, length-append, slice_get, set, replicate, inl, inr, ◌⊎◌, ltb-true, lt-ltb}
use Rattle.std.specs.Bool.{if◌then◌else◌}
use Rattle.std.specs.List.{list_any}
use Rattle.std.specs.Cmp.{first_so, second_so}
use Rattle.std.proofs.lemmas.List.{append-nil, map_push}
use Rattle.lh_types.specs.Types.{int_type, same_type}
use Rattle.lh_types.specs.declared.op.Op.{Op}
use Rattle.lh_types.specs.declared.op.Op.TheVariants.{And}
use Rattle.lh_types.proofs.Tests.{nat_eq-suc, nat_eq-suc_zero}
use Rattle.lh_types.proofs.Lists.{push_cases}
use Rattle.lh_term.specs.Tree.{Tree, constant, past_of, now_of, operation, choice_of, operation_on}
use Rattle.lh_term.specs.Types.{IsTyped, type_of}
use Rattle.lh_term.specs.SameTree.{same_tree, same_tree-is, same_tree-refl}
use Rattle.lh_term.specs.Arena.{tree_at, trees, trees_at, ids_below, IsIn, OneId}
use Rattle.lh_term.specs.Conjuncts.{all_conjuncts, joined_conjuncts, with_term, with_terms, conjuncts_of}
use Rattle.lh_term.specs.Found.{one_conjunct, FindsJoined, and_operands}
use Rattle.lh_term.specs.declared.term.TermId.{TermId}
use Rattle.lh_term.specs.declared.term.TermNode.{TermNode}
use Rattle.lh_term.specs.SameTerm.{same_id}
use Rattle.std.proofs.lemmas.Grind.{common_steps}
use Rattle.std.proofs.lemmas.Bool.{or_left, or_right, or_cases, and_from}

-- ---- terms within terms

-- each term of the first is one of the second
pub Sub : List Tree → List Tree → Type 0
Sub xs ys = (u : Tree) → list_any (same_tree u) xs ≡ true → list_any (same_tree u) ys ≡ true

any_append : (u : Tree) (xs ys : List Tree) → list_any (same_tree u) (xs ++ ys) ≡ list_any (same_tree u) xs || list_any (same_tree u) ys
any_append u [] ys = refl
any_append u (x ∷ xs) ys = ap (λ b. same_tree u x || b) (any_append u xs ys) ∙ or_assoc (same_tree u x) (list_any (same_tree u) xs) (list_any (same_tree u) ys)
  where
    or_assoc : (a b c : Bool) → a || (b || c) ≡ (a || b) || c
    or_assoc true b c = refl
    or_assoc false b c = refl

sub_left : (xs ys : List Tree) → Sub xs (xs ++ ys)
unfolding Sub
sub_left xs ys u h = any_append u xs ys ∙ or_left (list_any (same_tree u) xs) (list_any (same_tree u) ys) h

sub_right : (xs ys : List Tree) → Sub ys (xs ++ ys)
unfolding Sub
sub_right xs ys u h = any_append u xs ys ∙ or_right (list_any (same_tree u) xs) (list_any (same_tree u) ys) h

sub_trans : (xs ys zs : List Tree) → Sub xs ys → Sub ys zs → Sub xs zs
unfolding Sub
sub_trans xs ys zs p q u h = q u (p u h)

sub_both : (xs ys zs : List Tree) → Sub xs zs → Sub ys zs → Sub (xs ++ ys) zs
unfolding Sub
sub_both xs ys zs p q u h = elim (or_cases (list_any (same_tree u) xs) (list_any (same_tree u) ys) (sym (any_append u xs ys) ∙ h)) [ inl a ↦ p u a | inr b ↦ q u b ]

sub_nil : (ys : List Tree) → Sub [] ys
unfolding Sub
sub_nil ys u h = cc

sub_same : (xs ys zs : List Tree) → xs ≡ ys → Sub xs zs → Sub ys zs
sub_same xs ys zs e h = let P : List Tree → Type 0 = λ ws. Sub ws zs in subst P e h

sub_into : (xs ys zs : List Tree) → ys ≡ zs → Sub xs ys → Sub xs zs
sub_into xs ys zs e h = let P : List Tree → Type 0 = λ ws. Sub xs ws in subst P e h

-- ---- lists with terms that are there

with_append : (ks xs ys : List Tree) → with_terms ks (xs ++ ys) ≡ with_terms (with_terms ks xs) ys
with_append ks [] ys = refl
with_append ks (x ∷ xs) ys = with_append (with_term ks x) xs ys

with_there : (ks xs : List Tree) → Sub xs ks → with_terms ks xs ≡ ks
unfolding Sub
with_there ks [] h = refl
with_there ks (x ∷ xs) h =
    let here : list_any (same_tree x) ks ≡ true = h x (or_left (same_tree x x) (list_any (same_tree x) xs) (same_tree-refl x)) in
    let e : with_term ks x ≡ ks = ap (λ b. if b then ks else ks ++ x ∷ []) here in
    ap (λ w. with_terms w xs) e ∙ with_there ks xs (λ u k. h u (or_right (same_tree u x) (list_any (same_tree u) xs) k))

with_new : (ks : List Tree) (x : Tree) → list_any (same_tree x) ks ≡ false → with_term ks x ≡ ks ++ x ∷ []
with_new ks x e = ap (λ b. if b then ks else ks ++ x ∷ []) e

-- ---- the terms that are still to be looked at

-- the last first
abbrev pub tops : List TermId → List TermId
tops [] = []
tops (x ∷ xs) = tops xs ++ x ∷ []

pub tops_push : (xs : List TermId) (x : TermId) → tops (xs ++ x ∷ []) ≡ x ∷ tops xs
tops_push [] x = refl
tops_push (y ∷ xs) x = ap (λ r. r ++ y ∷ []) (tops_push xs x)

-- the conjuncts of each, in order
abbrev pub flats : List Tree → List TermId → List Tree
flats ts [] = []
flats ts (x ∷ xs) = all_conjuncts (tree_at ts x) ++ flats ts xs

-- those in front that are below an id
abbrev pub lower : ℕ → List TermId → List TermId
lower z [] = []
lower z (x ∷ xs) = if nat_lt x.0 z then x ∷ lower z xs else []

-- what holds on the walk: s are the terms still to be looked at, the next first
pub record Walk (ns : List TermNode) (t : TermId) (seen : List Bool) (found s : List TermId) : Type 0 where
  pub length_is : length seen ≡ t.0 + 1
  pub open_in : ids_below (t.0 + 1) s ≡ true
  pub found_in : ids_below (t.0 + 1) found ≡ true
  pub goes : with_terms (map (tree_at (trees ns)) found) (flats (trees ns) s) ≡ conjuncts_of (tree_at (trees ns) t)
  pub covers : (z : TermId) → slice_get seen z.0 ≡ Some true → Sub (all_conjuncts (tree_at (trees ns) z)) (map (tree_at (trees ns)) found ++ flats (trees ns) (lower z.0 s))
  pub marked : (i : ℕ) (k : TermId) → slice_get found i ≡ Some k → slice_get seen k.0 ≡ Some true

-- ---- flags

pub get_set : (xs : List Bool) (i j : ℕ) → slice_get (set xs i true) j ≡ Some true → (j ≡ i) ⊎ (slice_get xs j ≡ Some true)
get_set [] i j e = cc
get_set (b ∷ xs) zero zero e = inl refl
get_set (b ∷ xs) zero (suc j) e = inr e
get_set (b ∷ xs) (suc i) zero e = inr e
get_set (b ∷ xs) (suc i) (suc j) e = elim (get_set xs i j e) [ inl p ↦ inl (ap suc p) | inr p ↦ inr p ]

pub set_keeps : (xs : List Bool) (i j : ℕ) → slice_get xs j ≡ Some true → slice_get (set xs i true) j ≡ Some true
set_keeps [] i j e = cc
set_keeps (b ∷ xs) zero zero e = refl
set_keeps (b ∷ xs) zero (suc j) e = e
set_keeps (b ∷ xs) (suc i) zero e = e
set_keeps (b ∷ xs) (suc i) (suc j) e = set_keeps xs i j e

pub set_here : (xs : List Bool) (i : ℕ) → i < length xs → slice_get (set xs i true) i ≡ Some true
set_here [] i h = absurd (omega arith)
set_here (b ∷ xs) zero h = refl
set_here (b ∷ xs) (suc i) h = set_here xs i (omega arith)

pub set_length : (xs : List Bool) (i : ℕ) → length (set xs i true) ≡ length xs
set_length [] i = refl
set_length (b ∷ xs) zero = refl
set_length (b ∷ xs) (suc i) = ap suc (set_length xs i)

-- how many flags are not set
abbrev pub unset : List Bool → ℕ
unset [] = 0
unset (true ∷ xs) = unset xs
unset (false ∷ xs) = unset xs + 1

pub unset_falls : (xs : List Bool) (i : ℕ) → slice_get xs i ≡ Some false → unset (set xs i true) + 1 ≡ unset xs
unset_falls [] i e = cc
unset_falls (true ∷ xs) zero e = cc
unset_falls (false ∷ xs) zero e = refl
unset_falls (true ∷ xs) (suc i) e = unset_falls xs i e
unset_falls (false ∷ xs) (suc i) e = omega (arith, unset_falls xs i e)

-- ---- flags of the numbers that a set has

flags_by : (ℕ → Bool) → ℕ → List Bool
flags_by f zero = []
flags_by f (suc n) = f 0 ∷ flags_by (λ k. f (suc k)) n

-- for each number below n whether it is one of these
pub marks : List ℕ → ℕ → List Bool
marks ks n = flags_by (λ k. list_any (nat_eq k) ks) n

flags_get : (f : ℕ → Bool) (n i : ℕ) → i < n → slice_get (flags_by f n) i ≡ Some (f i)
unfolding flags_by
flags_get f zero i h = absurd (omega arith)
flags_get f (suc n) zero h = refl
flags_get f (suc n) (suc i) h = flags_get (λ k. f (suc k)) n i (omega arith)

flags_same : (f g : ℕ → Bool) (n : ℕ) → ((k : ℕ) → g k ≡ f k) → flags_by g n ≡ flags_by f n
unfolding flags_by
flags_same f g zero h = refl
flags_same f g (suc n) h = ap (λ b. b ∷ flags_by (λ k. g (suc k)) n) (h 0) ∙ ap (λ l. f 0 ∷ l) (flags_same (λ k. f (suc k)) (λ k. g (suc k)) n (λ k. h (suc k)))

zero_other : (k : ℕ) → nat_eq 0 (suc k) ≡ false
zero_other k = grind (arith, common_steps)

flags_set : (f g : ℕ → Bool) (n x : ℕ) → ((k : ℕ) → g k ≡ cond (nat_eq x k) true (f k)) → flags_by g n ≡ set (flags_by f n) x true
unfolding flags_by
flags_set f g zero x h = refl
flags_set f g (suc n) zero h =
    let same : (k : ℕ) → g (suc k) ≡ f (suc k) = λ k. h (suc k) ∙ ap (λ b. cond b true (f (suc k))) (zero_other k) in
    ap (λ b. b ∷ flags_by (λ k. g (suc k)) n) (h 0) ∙ ap (λ l. true ∷ l) (flags_same (λ k. f (suc k)) (λ k. g (suc k)) n same)
flags_set f g (suc n) (suc x) h =
    let more : (k : ℕ) → g (suc k) ≡ cond (nat_eq x k) true (f (suc k)) = λ k. h (suc k) ∙ ap (λ b. cond b true (f (suc k))) (nat_eq-suc x k) in
    ap (λ b. b ∷ flags_by (λ k. g (suc k)) n) (h 0 ∙ ap (λ b. cond b true (f 0)) (nat_eq-suc_zero x)) ∙ ap (λ l. f 0 ∷ l) (flags_set (λ k. f (suc k)) (λ k. g (suc k)) n x more)

flags_none : (n : ℕ) → flags_by (λ k. false) n ≡ replicate n false
unfolding flags_by
flags_none zero = refl
flags_none (suc n) = ap (λ l. false ∷ l) (flags_none n)

pub marks_none : (ks : List ℕ) (n : ℕ) → ks ≡ [] → marks ks n ≡ replicate n false
unfolding marks
marks_none ks n e = ap (λ l. marks l n) e ∙ flags_none n

pub was_there : (b c : Bool) → b ≡ not c → b ≡ false → true ≡ c
was_there b true e f = refl
was_there b false e f = cc

pub was_not : (b c : Bool) → b ≡ not c → b ≡ true → false ≡ c
was_not b true e f = cc
was_not b false e f = refl

pub marks_get : (ks : List ℕ) (n x : ℕ) (b : Bool) → x < n → b ≡ list_any (nat_eq x) ks → slice_get (marks ks n) x ≡ Some b
unfolding marks
marks_get ks n x b h e = flags_get (λ k. list_any (nat_eq k) ks) n x h ∙ ap Some (sym e)

pub marks_set : (ks new : List ℕ) (n x : ℕ) → ((k : ℕ) → list_any (nat_eq k) new ≡ cond (nat_eq x k) true (list_any (nat_eq k) ks)) → marks new n ≡ set (marks ks n) x true
unfolding marks
marks_set ks new n x h = flags_set (λ k. list_any (nat_eq k) ks) (λ k. list_any (nat_eq k) new) n x h

pub set_again : (xs : List Bool) (i : ℕ) → slice_get xs i ≡ Some true → set xs i true ≡ xs
set_again [] i e = refl
set_again (true ∷ xs) zero e = refl
set_again (false ∷ xs) zero e = cc
set_again (b ∷ xs) (suc i) e = ap (λ l. b ∷ l) (set_again xs i e)

pub marked_so : (ns : List TermNode) (t : TermId) (seen new : List Bool) (found s : List TermId) → new ≡ seen → Walk ns t seen found s → Walk ns t new found s
marked_so ns t seen new found s e w = let P : List Bool → Type 0 = λ f. Walk ns t f found s in subst P (sym e) w

ids_push : (k : ℕ) (xs : List TermId) (x : TermId) → ids_below k xs ≡ true → nat_lt x.0 k ≡ true → ids_below k (xs ++ x ∷ []) ≡ true
ids_push k [] x h e = and_from (nat_lt x.0 k) true e refl
ids_push k (y ∷ xs) x h e = and_from (nat_lt y.0 k) (ids_below k (xs ++ x ∷ [])) (first_so (nat_lt y.0 k) (ids_below k xs) h) (ids_push k xs x (second_so (nat_lt y.0 k) (ids_below k xs) h) e)

-- ---- steps

not_below_itself : (n : ℕ) → nat_lt n n ≡ false
not_below_itself zero = refl
not_below_itself (suc n) = grind (arith, common_steps)

pub get_here : (xs : List Bool) (i : ℕ) → i < length xs → (b : Bool) × (slice_get xs i ≡ Some b)
get_here [] i h = absurd (omega arith)
get_here (b ∷ xs) zero h = (b, refl)
get_here (b ∷ xs) (suc i) h = get_here xs i (omega arith)

-- the conjuncts of the terms in front below z, of which x is the first if it is below z
in_front : (ts : List Tree) (z : ℕ) (x : TermId) (r : List TermId) (b : Bool) → nat_lt x.0 z ≡ b → flats ts (lower z (x ∷ r)) ≡ (if b then all_conjuncts (tree_at ts x) ++ flats ts (lower z r) else [])
in_front ts z x r true e = ap (λ c. flats ts (if c then x ∷ lower z r else [])) e
in_front ts z x r false e = ap (λ c. flats ts (if c then x ∷ lower z r else [])) e

-- x leaves the front, and its conjuncts are found
left_out : (F L X Z : List Tree) (b : Bool) → Sub X F → Sub Z (F ++ (if b then X ++ L else [])) → Sub Z (F ++ L)
left_out F L X Z true own c = sub_trans Z (F ++ (X ++ L)) (F ++ L) c (sub_both F (X ++ L) (F ++ L) (sub_left F L) (sub_both X L (F ++ L) (sub_trans X F (F ++ L) own (sub_left F L)) (sub_right F L)))
left_out F L X Z false own c = sub_trans Z F (F ++ L) (sub_into Z (F ++ []) F (append-nil F) c) (sub_left F L)

-- x is found
put_in : (F L Z : List Tree) (x : Tree) (b : Bool) → Sub Z (F ++ (if b then (x ∷ []) ++ L else [])) → Sub Z ((F ++ x ∷ []) ++ L)
put_in F L Z x true c = sub_into Z (F ++ ((x ∷ []) ++ L)) ((F ++ x ∷ []) ++ L) (sym (append_assoc F (x ∷ []) L)) c
put_in F L Z x false c = sub_trans Z F ((F ++ x ∷ []) ++ L) (sub_into Z (F ++ []) F (append-nil F) c) (sub_trans F (F ++ x ∷ []) ((F ++ x ∷ []) ++ L) (sub_left F (x ∷ [])) (sub_left (F ++ x ∷ []) L))

lt_trans_test : (a x z : ℕ) → a < x → nat_lt x z ≡ true → nat_lt a z ≡ true
lt_trans_test a x z h e = lt-ltb a z (let k : x < z = ltb-true x z e in omega arith)

-- two terms come in front in place of x
split_up : (ts : List Tree) (F : List Tree) (Z : List Tree) (z : ℕ) (x a b : TermId) (r : List TermId) → a.0 < x.0 → b.0 < x.0
    → all_conjuncts (tree_at ts x) ≡ all_conjuncts (tree_at ts a) ++ all_conjuncts (tree_at ts b)
    → (k : Bool) → nat_lt x.0 z ≡ k → Sub Z (F ++ flats ts (lower z (x ∷ r))) → Sub Z (F ++ flats ts (lower z (a ∷ b ∷ r)))
split_up ts F Z z x a b r p q j true e c =
    let A = all_conjuncts (tree_at ts a) in
    let B = all_conjuncts (tree_at ts b) in
    let L = flats ts (lower z r) in
    let old = in_front ts z x r true e in
    let new : flats ts (lower z (a ∷ b ∷ r)) ≡ A ++ (B ++ L) = in_front ts z a (b ∷ r) true (lt_trans_test a.0 x.0 z p e) ∙ ap (λ m. A ++ m) (in_front ts z b r true (lt_trans_test b.0 x.0 z q e)) in
    sub_into Z _ _ (ap (λ m. F ++ m) (old ∙ ap (λ m. m ++ L) j ∙ append_assoc A B L ∙ sym new)) c
split_up ts F Z z x a b r p q j false e c =
    let old = in_front ts z x r false e in
    sub_trans Z F (F ++ flats ts (lower z (a ∷ b ∷ r))) (sub_into Z _ _ (ap (λ m. F ++ m) old ∙ append-nil F) c) (sub_left F (flats ts (lower z (a ∷ b ∷ r))))

module _ (ns : List TermNode) (t : TermId) (seen : List Bool) (found : List TermId) (x : TermId) (r : List TermId) (w : Walk ns t seen found (x ∷ r)) where
  here_in : nat_lt x.0 (t.0 + 1) ≡ true
  here_in = first_so (nat_lt x.0 (t.0 + 1)) (ids_below (t.0 + 1) r) w.open_in

  rest_in : ids_below (t.0 + 1) r ≡ true
  rest_in = second_so (nat_lt x.0 (t.0 + 1)) (ids_below (t.0 + 1) r) w.open_in

  pub here_seen : x.0 < length seen
  here_seen = let h : x.0 < t.0 + 1 = ltb-true x.0 (t.0 + 1) here_in in omega (arith, w.length_is)

  -- x was seen
  own_found : slice_get seen x.0 ≡ Some true → Sub (all_conjuncts (tree_at (trees ns) x)) (map (tree_at (trees ns)) found)
  own_found e =
      let F = map (tree_at (trees ns)) found in
      sub_into (all_conjuncts (tree_at (trees ns) x)) _ _ (ap (λ m. F ++ m) (in_front (trees ns) x.0 x r false (not_below_itself x.0)) ∙ append-nil F) (w.covers x e)

  pub pop_seen : slice_get seen x.0 ≡ Some true → Walk ns t seen found r
  pop_seen e =
      let F = map (tree_at (trees ns)) found in
      let X = all_conjuncts (tree_at (trees ns) x) in
      record {
        length_is = w.length_is;
        open_in = rest_in;
        found_in = w.found_in;
        goes = sym (ap (λ k. with_terms k (flats (trees ns) r)) (with_there F X (own_found e))) ∙ sym (with_append F X (flats (trees ns) r)) ∙ w.goes;
        covers = λ z h. left_out F (flats (trees ns) (lower z.0 r)) X (all_conjuncts (tree_at (trees ns) z)) (nat_lt x.0 z.0) (own_found e)
            (sub_into (all_conjuncts (tree_at (trees ns) z)) _ _ (ap (λ m. F ++ m) (in_front (trees ns) z.0 x r (nat_lt x.0 z.0) refl)) (w.covers z h));
        marked = w.marked;
      }

  pub seen_length : length (set seen x.0 true) ≡ t.0 + 1
  seen_length = set_length seen x.0 ∙ w.length_is

  -- x joins two terms
  pub pop_joined : (a b : TermId) → a.0 < x.0 → b.0 < x.0 → all_conjuncts (tree_at (trees ns) x) ≡ all_conjuncts (tree_at (trees ns) a) ++ all_conjuncts (tree_at (trees ns) b)
      → Walk ns t (set seen x.0 true) found (a ∷ b ∷ r)
  pop_joined a b p q j =
      let F = map (tree_at (trees ns)) found in
      let A = all_conjuncts (tree_at (trees ns) a) in
      let B = all_conjuncts (tree_at (trees ns) b) in
      let X = all_conjuncts (tree_at (trees ns) x) in
      let R = flats (trees ns) r in
      let h : x.0 < t.0 + 1 = ltb-true x.0 (t.0 + 1) here_in in
      record {
        length_is = seen_length;
        open_in = and_from (nat_lt a.0 (t.0 + 1)) (ids_below (t.0 + 1) (b ∷ r)) (lt-ltb a.0 (t.0 + 1) (omega arith))
            (and_from (nat_lt b.0 (t.0 + 1)) (ids_below (t.0 + 1) r) (lt-ltb b.0 (t.0 + 1) (omega arith)) rest_in);
        found_in = w.found_in;
        goes = ap (with_terms F) (sym (append_assoc A B R) ∙ ap (λ m. m ++ R) (sym j)) ∙ w.goes;
        covers = λ z e. elim (get_set seen x.0 z.0 e) [
          | inl m ↦
              let same : z ≡ x = same_id z x m in
              let L = flats (trees ns) (lower x.0 r) in
              let new : flats (trees ns) (lower x.0 (a ∷ b ∷ r)) ≡ A ++ (B ++ L) = in_front (trees ns) x.0 a (b ∷ r) true (lt-ltb a.0 x.0 p)
              ∙ ap (λ k. A ++ k) (in_front (trees ns) x.0 b r true (lt-ltb b.0 x.0 q)) in
              let own : Sub X (F ++ (A ++ (B ++ L))) = sub_same (A ++ B) X (F ++ (A ++ (B ++ L))) (sym j)
              (sub_trans (A ++ B) ((A ++ B) ++ L) (F ++ (A ++ (B ++ L))) (sub_left (A ++ B) L)
              (sub_into ((A ++ B) ++ L) (F ++ ((A ++ B) ++ L)) (F ++ (A ++ (B ++ L))) (ap (λ k. F ++ k) (append_assoc A B L)) (sub_right F ((A ++ B) ++ L))))
              in
              let P : TermId → Type 0 = λ y. Sub (all_conjuncts (tree_at (trees ns) y)) (F ++ flats (trees ns) (lower y.0 (a ∷ b ∷ r))) in
              subst P (sym same) (sub_into X (F ++ (A ++ (B ++ L))) (F ++ flats (trees ns) (lower x.0 (a ∷ b ∷ r))) (ap (λ k. F ++ k) (sym new)) own)
          | inr m ↦ split_up (trees ns) F (all_conjuncts (tree_at (trees ns) z)) z.0 x a b r p q j (nat_lt x.0 z.0) refl (w.covers z m)
        ];
        marked = λ i k e. set_keeps seen x.0 k.0 (w.marked i k e);
      }

  -- x is the constant 1
  pub pop_one : all_conjuncts (tree_at (trees ns) x) ≡ [] → Walk ns t (set seen x.0 true) found r
  pop_one j =
      let F = map (tree_at (trees ns)) found in
      let X = all_conjuncts (tree_at (trees ns) x) in
      let own : Sub X F = sub_same [] X F (sym j) (sub_nil F) in
      record {
        length_is = seen_length;
        open_in = rest_in;
        found_in = w.found_in;
        goes = ap (λ k. with_terms F (k ++ flats (trees ns) r)) (sym j) ∙ w.goes;
        covers = λ z e. elim (get_set seen x.0 z.0 e) [
          | inl m ↦
              let P : TermId → Type 0 = λ y. Sub (all_conjuncts (tree_at (trees ns) y)) (F ++ flats (trees ns) (lower y.0 r)) in
              subst P (sym (same_id z x m)) (sub_trans X F (F ++ flats (trees ns) (lower x.0 r)) own (sub_left F (flats (trees ns) (lower x.0 r))))
          | inr m ↦ left_out F (flats (trees ns) (lower z.0 r)) X (all_conjuncts (tree_at (trees ns) z)) (nat_lt x.0 z.0) own
              (sub_into (all_conjuncts (tree_at (trees ns) z)) _ _ (ap (λ k. F ++ k) (in_front (trees ns) z.0 x r (nat_lt x.0 z.0) refl)) (w.covers z m))
        ];
        marked = λ i k e. set_keeps seen x.0 k.0 (w.marked i k e);
      }

  -- x is a conjunct that is not found yet
  pub pop_leaf : (list_any (same_tree (tree_at (trees ns) x)) (map (tree_at (trees ns)) found) ≡ false) → all_conjuncts (tree_at (trees ns) x) ≡ tree_at (trees ns) x ∷ []
      → Walk ns t (set seen x.0 true) (found ++ x ∷ []) r
  pop_leaf new j =
      let T = tree_at (trees ns) in
      let F = map (tree_at (trees ns)) found in
      let G : map (tree_at (trees ns)) (found ++ x ∷ []) ≡ F ++ T x ∷ [] = map_push T found x in
      let X = all_conjuncts (tree_at (trees ns) x) in
      let R = flats (trees ns) r in
      record {
        length_is = seen_length;
        open_in = rest_in;
        found_in = ids_push (t.0 + 1) found x w.found_in here_in;
        goes = ap (λ k. with_terms k R) (G ∙ sym (with_new F (T x) new)) ∙ ap (λ k. with_terms F (k ++ R)) (sym j) ∙ w.goes;
        covers = λ z e. elim (get_set seen x.0 z.0 e) [
          | inl m ↦
              let P : TermId → Type 0 = λ y. Sub (all_conjuncts (tree_at (trees ns) y)) (map (tree_at (trees ns)) (found ++ x ∷ []) ++ flats (trees ns) (lower y.0 r)) in
              let L = flats (trees ns) (lower x.0 r) in
              subst P (sym (same_id z x m))
              (sub_same (T x ∷ []) X (map (tree_at (trees ns)) (found ++ x ∷ []) ++ L) (sym j)
              (sub_into (T x ∷ []) ((F ++ T x ∷ []) ++ L) (map (tree_at (trees ns)) (found ++ x ∷ []) ++ L) (ap (λ k. k ++ L) (sym G))
              (sub_trans (T x ∷ []) (F ++ T x ∷ []) ((F ++ T x ∷ []) ++ L) (sub_right F (T x ∷ [])) (sub_left (F ++ T x ∷ []) L))))
          | inr m ↦
              let L = flats (trees ns) (lower z.0 r) in
              let Z = all_conjuncts (tree_at (trees ns) z) in
              sub_into Z ((F ++ T x ∷ []) ++ L) (map (tree_at (trees ns)) (found ++ x ∷ []) ++ L) (ap (λ k. k ++ L) (sym G))
              (put_in F L Z (T x) (nat_lt x.0 z.0)
              (sub_into Z _ _ (ap (λ k. F ++ k) (in_front (trees ns) z.0 x r (nat_lt x.0 z.0) refl ∙ ap (λ k. if nat_lt x.0 z.0 then k ++ L else []) j)) (w.covers z m)))
        ];
        marked = λ i k e. elim (push_cases found x k i e) [
          | inl m ↦ set_keeps seen x.0 k.0 (w.marked i k m)
          | inr m ↦ ap (λ y. slice_get (set seen x.0 true) y.0) (sym m.1) ∙ set_here seen x.0 here_seen
        ];
      }

-- ---- the start, the end, and what is not found yet

no_flag : (n i : ℕ) → slice_get (replicate n false) i ≡ Some true → ⊥
no_flag zero i e = cc
no_flag (suc n) zero e = cc
no_flag (suc n) (suc i) e = no_flag n i e

pub replicate_length : (n : ℕ) → length (replicate n false) ≡ n
replicate_length zero = refl
replicate_length (suc n) = ap suc (replicate_length n)

pub walk_start : (ns : List TermNode) (t : TermId) → Walk ns t (replicate (t.0 + 1) false) [] (t ∷ [])
walk_start ns t =
    let n = t.0 + 1 in
    record {
      length_is = replicate_length n;
      open_in = and_from (nat_lt t.0 (t.0 + 1)) true (lt-ltb t.0 (t.0 + 1) (omega arith)) refl;
      found_in = refl;
      goes = ap (with_terms []) (append-nil (all_conjuncts (tree_at (trees ns) t)));
      covers = λ z e. absurd (no_flag n z.0 e);
      marked = λ i k e. cc;
    }

any_at : (ts : List Tree) (u : Tree) (xs : List TermId) → list_any (same_tree u) (map (tree_at ts) xs) ≡ true → (i : ℕ) × (k : TermId) × (slice_get xs i ≡ Some k) × (u ≡ tree_at ts k)
any_at ts u [] e = cc
any_at ts u (x ∷ xs) e = elim (or_cases (same_tree u (tree_at ts x)) (list_any (same_tree u) (map (tree_at ts) xs)) e) [
  | inl p ↦ (0, x, refl, same_tree-is u (tree_at ts x) p)
  | inr p ↦ let (i, k, at, is) = any_at ts u xs p in (suc i, k, at, is)
]

pub id_below : (k : ℕ) (xs : List TermId) (i : ℕ) (x : TermId) → ids_below k xs ≡ true → slice_get xs i ≡ Some x → x.0 < k
id_below k [] i x h e = cc
id_below k (y ∷ xs) zero x h e = let q : y ≡ x = cc in let P : TermId → Type 0 = λ z. z.0 < k in subst P q (ltb-true y.0 k (first_so (nat_lt y.0 k) (ids_below k xs) h))
id_below k (y ∷ xs) (suc i) x h e = id_below k xs i x (second_so (nat_lt y.0 k) (ids_below k xs) h) e

-- a term whose flag is not set is not found yet
pub not_found : (ns : List TermNode) (t : TermId) (seen : List Bool) (found : List TermId) (x : TermId) (r : List TermId) → Walk ns t seen found (x ∷ r) → OneId ns → IsIn ns t
    → slice_get seen x.0 ≡ Some false → list_any (same_tree (tree_at (trees ns) x)) (map (tree_at (trees ns)) found) ≡ false
not_found ns t seen found x r w apart h e = by (list_any (same_tree (tree_at (trees ns) x)) (map (tree_at (trees ns)) found)) refl
  where
    by : (b : Bool) → list_any (same_tree (tree_at (trees ns) x)) (map (tree_at (trees ns)) found) ≡ b → b ≡ false
    by false p = refl
    by true p =
        let (i, k, at, is) = any_at (trees ns) (tree_at (trees ns) x) found p in
        let kin : k.0 < t.0 + 1 = id_below (t.0 + 1) found i k w.found_in at in
        let xin : x.0 < t.0 + 1 = ltb-true x.0 (t.0 + 1) (first_so (nat_lt x.0 (t.0 + 1)) (ids_below (t.0 + 1) r) w.open_in) in
        let one : x ≡ k = apart x k (omega arith) (omega arith) is in
        let m : slice_get seen x.0 ≡ Some true = ap (λ z. slice_get seen z.0) one ∙ w.marked i k at in
        cc

-- ---- what is joined

pub alone : (t : Tree) → same_type (type_of t) (int_type 1) ≡ false → all_conjuncts t ≡ one_conjunct t
alone (constant v) e = refl
alone (past_of p) e = refl
alone (now_of p) e = refl
alone (choice_of c f t) e = refl
alone (operation And ts) e = ap (λ b. if b then joined_conjuncts ts else operation And ts ∷ []) e
alone (operation op ts) e = refl

joined_and : (q a : Tree) → same_type (type_of q) (int_type 1) ≡ true → all_conjuncts (operation_on And (q ∷ a ∷ [])) ≡ all_conjuncts q ++ all_conjuncts a
joined_and q a e =
    ap (λ b. if b then all_conjuncts q ++ (all_conjuncts a ++ []) else operation_on And (q ∷ a ∷ []) ∷ []) e ∙ ap (λ m. all_conjuncts q ++ m) (append-nil (all_conjuncts a))

-- `and` has two operands
finds_joined : (ns : List TermNode) (x : TermId) (op : Op) (xs : List TermId) → ids_below x.0 xs ≡ true → IsTyped (operation_on op (map (tree_at (trees ns)) xs))
    → same_type (type_of (operation_on op (map (tree_at (trees ns)) xs))) (int_type 1) ≡ true → FindsJoined ns x (and_operands op xs) (operation_on op (map (tree_at (trees ns)) xs))
finds_joined ns x And [] h t e = let k = t.1.row.1 in cc
finds_joined ns x And (q ∷ []) h t e = let k = t.1.row.1 in cc
finds_joined ns x And (q ∷ a ∷ []) h t e = (
  ltb-true q.0 x.0 (first_so (nat_lt q.0 x.0) (nat_lt a.0 x.0 && true) h),
  ltb-true a.0 x.0 (first_so (nat_lt a.0 x.0) true (second_so (nat_lt q.0 x.0) (nat_lt a.0 x.0 && true) h)),
  joined_and (tree_at (trees ns) q) (tree_at (trees ns) a) e,
)
finds_joined ns x And (q ∷ a ∷ b ∷ xs) h t e = let k = t.1.row.1 in cc
finds_joined ns x op xs h t e = refl

pub joined_at : (ns : List TermNode) (x : TermId) (op : Op) (xs : List TermId) → operation_on op (map (tree_at (trees ns)) xs) ≡ tree_at (trees ns) x → ids_below x.0 xs ≡ true
    → IsTyped (tree_at (trees ns) x) → same_type (type_of (tree_at (trees ns) x)) (int_type 1) ≡ true → FindsJoined ns x (and_operands op xs) (tree_at (trees ns) x)
joined_at ns x op xs e h t s =
    let P : Tree → Type 0 = λ y. IsTyped y → same_type (type_of y) (int_type 1) ≡ true → FindsJoined ns x (and_operands op xs) y in
    subst P e (finds_joined ns x op xs h) t s

-- ---- a turn of the loop, by the lists that it keeps

pub start_at : (ns : List TermNode) (t : TermId) (seen : List Bool) (found items : List TermId) → seen ≡ replicate (t.0 + 1) false → found ≡ [] → items ≡ t ∷ [] → Walk ns t seen found (tops items)
start_at ns t seen found items p q r =
    let P : List Bool → Type 0 = λ f. Walk ns t f found (tops items) in
    let Q : List TermId → Type 0 = λ k. Walk ns t (replicate (t.0 + 1) false) k (tops items) in
    let R : List TermId → Type 0 = λ k. Walk ns t (replicate (t.0 + 1) false) [] (tops k) in
    subst P (sym p) (subst Q (sym q) (subst R (sym r) (walk_start ns t)))

pub popped : (ns : List TermNode) (t : TermId) (seen : List Bool) (found items left : List TermId) (x : TermId) → items ≡ left ++ x ∷ [] → Walk ns t seen found (tops items)
    → Walk ns t seen found (x ∷ tops left)
popped ns t seen found items left x p w = let P : List TermId → Type 0 = λ s. Walk ns t seen found s in subst P (ap tops p ∙ tops_push left x) w

pub open_within : (ns : List TermNode) (t : TermId) (seen : List Bool) (found : List TermId) (x : TermId) (r : List TermId) → Walk ns t seen found (x ∷ r) → x.0 < t.0 + 1
open_within ns t seen found x r w = ltb-true x.0 (t.0 + 1) (here_in ns t seen found x r w)

pub two_more : (ns : List TermNode) (t : TermId) (seen : List Bool) (found left more all : List TermId) (a b : TermId) → more ≡ left ++ b ∷ [] → all ≡ more ++ a ∷ []
    → Walk ns t seen found (a ∷ b ∷ tops left) → Walk ns t seen found (tops all)
two_more ns t seen found left more all a b p q w =
    let P : List TermId → Type 0 = λ s. Walk ns t seen found s in
    subst P (sym (ap tops q ∙ tops_push more a ∙ ap (λ r. a ∷ r) (ap tops p ∙ tops_push left b))) w

pub one_found : (ns : List TermNode) (t : TermId) (seen : List Bool) (found more s : List TermId) (x : TermId) → more ≡ found ++ x ∷ [] → Walk ns t seen (found ++ x ∷ []) s → Walk ns t seen more s
one_found ns t seen found more s x p w = let P : List TermId → Type 0 = λ k. Walk ns t seen k s in subst P (sym p) w

pub fewer : (seen : List Bool) (x : TermId) (items left : List TermId) → slice_get seen x.0 ≡ Some false → items ≡ left ++ x ∷ []
    → 2 * unset (set seen x.0 true) + length left < 2 * unset seen + length items
fewer seen x items left e p = omega (arith, unset_falls seen x.0 e, ap length p, length-append left (x ∷ []))

pub fewer_but_two : (seen : List Bool) (x : TermId) (items left more all : List TermId) (a b : TermId) → slice_get seen x.0 ≡ Some false → items ≡ left ++ x ∷ [] → more ≡ left ++ b ∷ []
    → all ≡ more ++ a ∷ [] → 2 * unset (set seen x.0 true) + length all < 2 * unset seen + length items
fewer_but_two seen x items left more all a b e p q r =
    omega (arith, unset_falls seen x.0 e, ap length p, length-append left (x ∷ []), ap length q, length-append left (b ∷ []), ap length r, length-append more (a ∷ []))

pub none_left : (xs : List TermId) → length xs ≡ 0 → xs ≡ []
none_left [] e = refl
none_left (x ∷ xs) e = absurd (omega arith)

pub walk_ends : (ns : List TermNode) (t : TermId) (seen : List Bool) (found items : List TermId) → length items ≡ 0 → Walk ns t seen found (tops items)
    → trees_at ns found ≡ conjuncts_of (tree_at (trees ns) t)
walk_ends ns t seen found items e w = let P : List TermId → Type 0 = λ k. Walk ns t seen found (tops k) in let v = subst P (none_left items e) w in v.goes
