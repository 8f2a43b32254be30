-- Terms in place of parts' values: their types and what they mean, and what stays as an arena grows.
use Rattle.std.proofs.Common.{◌≡◌, ℕ, zero, suc, ◌+◌, ◌-◌, ◌<◌, ◌≤◌, Result, Ok, Err, IfOk, List, [], ◌∷◌, ◌++◌, length, map, Bool, true, false, ◌&&◌, nat_lt, refl, ap, sym, ◌∙◌, subst, Some, arith, append_assoc, length-append, take, drop, get_or, slice_get, inl, inr, nat_eq, Option, drop-cons, drop_of_length-le, ltb-true, lt-ltb}
use Rattle.std.specs.Option.{is_some}
use Rattle.std.proofs.lemmas.Bool.{or_cases}
use Rattle.lh_types.specs.Same.{nat_eq-refl, nat_eq-is}
use Rattle.std.specs.Bool.{if◌then◌else◌}
use Rattle.std.proofs.lemmas.List.{append-nil}
use Rattle.std.specs.Cmp.{first_so, second_so}
use Rattle.lh_types.specs.Types.{TypeTree}
use Rattle.lh_types.specs.ValueOf.{datum_of}
use Rattle.lh_types.specs.Apply.{apply}
use Rattle.lh_types.specs.declared.op.Op.{Op}
use Rattle.lh_types.specs.declared.val.Val.{Val}
use Rattle.lh_types.proofs.Lists.{get_below}
use Rattle.lh_term.specs.Tree.{Tree, TreeRow, constant, past_of, now_of, operation, choice_of, no_trees, more_trees, tree_row, operation_on}
use Rattle.lh_term.specs.Types.{type_of, types_of, row_result, TakesTypes, Chooses, IsTyped, AreTyped}
use Rattle.lh_term.specs.Mean.{Valuation, IsFitting, chosen, means}
use Rattle.lh_term.specs.SameTree.{same_tree, same_tree-is}
use Rattle.lh_term.specs.Make.{make_operation, make_choice}
use Rattle.lh_term.specs.Arena.{tree_at, term_tree, trees_from, terms_in, trees, trees_at, ids_below, IsIn, AllTyped, StandsForTree, Grows}
use Rattle.lh_term.specs.Subst.{pairs_at, replaced, AreSwaps, SecondsTyped, PairsIn, swapped, swapped_row, past_with, now_with}
use Rattle.lh_term.specs.Reach.{operands_of, is_on, AllPass, AreReached, AllMade, OperandsMade, AreMade, MadeFor}
use Rattle.lh_term.specs.Laws.{SwapKeeps}
use Rattle.lh_term.specs.declared.part.Part.{Part}
use Rattle.lh_term.specs.declared.term.TermId.{TermId}
use Rattle.lh_term.specs.declared.term.Term.{Term}
use Rattle.lh_term.specs.declared.term.Term.TheVariants.{Op as Applied, Choice}
use Rattle.lh_term.specs.declared.term.TermNode.{TermNode}
use Rattle.lh_term.proofs.Arenas.{trees_grow, map_append, map_length, at_below}
use Rattle.lh_term.proofs.Sound.{operation_sound, choice_sound}
use Rattle.lh_term.proofs.TermWalks.{on_at, on_below, behind}

-- ---- types and meaning

replaced_typed : (by : List (Tree × Tree)) → AreSwaps by → SecondsTyped by → (t : Tree) → IsTyped t → IsTyped (replaced by t) × (type_of (replaced by t) ≡ type_of t)
replaced_typed [] s d t h = (h, refl)
replaced_typed (p ∷ ps) s d t h = choose (same_tree p.0 t) refl (replaced_typed ps s.3 d.1 t h)
  where
    choose : (b : Bool) → same_tree p.0 t ≡ b → IsTyped (replaced ps t) × (type_of (replaced ps t) ≡ type_of t) → IsTyped (if b then p.1 else replaced ps t)
        × (type_of (if b then p.1 else replaced ps t) ≡ type_of t)
    choose true e rest = (d.0, sym s.2 ∙ ap type_of (same_tree-is p.0 t e))
    choose false e rest = rest

-- operands with the values of parts replaced
record RowKeeps (by : List (Tree × Tree)) (ts : TreeRow) (xs : List Tree) : Type 0 where
  typed : AreTyped (tree_row xs)
  types : types_of (tree_row xs) ≡ types_of ts
  row_means : (past now : Valuation) → IsFitting past → IsFitting now → means past now (tree_row xs) ≡ means (past_with by past now) (now_with by past now) ts

module _ (by : List (Tree × Tree)) (s : AreSwaps by) (d : SecondsTyped by) where
  mutual
    pub swap_keeps : (t : Tree) → IsTyped t → SwapKeeps by t (swapped by t)
    swap_keeps (constant v) h = record { typed = h; type = refl; mean = λ past now p n. refl }
    swap_keeps (past_of q) h = let r = replaced_typed by s d (past_of q) h in record { typed = r.0; type = r.1; mean = λ past now p n. refl }
    swap_keeps (now_of q) h = let r = replaced_typed by s d (now_of q) h in record { typed = r.0; type = r.1; mean = λ past now p n. refl }
    swap_keeps (operation op ts) h =
        let k = row_keeps ts h.0 in
        let P : List TypeTree → Type 0 = TakesTypes op in
        let m = operation_sound op (swapped_row by ts) (k.typed, subst P (sym k.types) h.1) in
        record {
          typed = m.typed;
          type = m.type ∙ ap (row_result op) k.types;
          mean = λ past now p n. m.mean past now p n ∙ ap (apply op) (k.row_means past now p n);
        }
    swap_keeps (choice_of c f t) h =
        let kc = swap_keeps c h.0 in
        let kf = swap_keeps f h.1 in
        let kt = swap_keeps t h.2 in
        let m = choice_sound (swapped by c) (swapped by f) (swapped by t) (kc.typed, kf.typed, kt.typed, (kc.type ∙ h.3.0, kf.type ∙ h.3.1 ∙ sym kt.type)) in
        record {
          typed = m.typed;
          type = m.type ∙ kf.type;
          mean = λ past now p n. m.mean past now p n ∙ (λ i. chosen (kc.mean past now p n i) (kf.mean past now p n i) (kt.mean past now p n i));
        }

    row_keeps : (ts : TreeRow) → AreTyped ts → RowKeeps by ts (swapped_row by ts)
    row_keeps no_trees h = record { typed = tt; types = refl; row_means = λ past now p n. refl }
    row_keeps (more_trees t ts) h =
        let k = swap_keeps t h.0 in
        let r = row_keeps ts h.1 in
        record {
          typed = (k.typed, r.typed);
          types = λ i. k.type i ∷ r.types i;
          row_means = λ past now p n. λ i. k.mean past now p n i ∷ r.row_means past now p n i;
        }

-- ---- an arena that grew

from_count : (ts : List Tree) (xs : List Term) → length (trees_from ts xs) ≡ length ts + length xs
from_count ts [] = omega arith
from_count ts (x ∷ xs) = omega (arith, from_count (ts ++ term_tree ts x ∷ []) xs, length-append ts (term_tree ts x ∷ []))

pub trees_count : (ns : List TermNode) → length (trees ns) ≡ length ns
trees_count ns = omega (arith, from_count [] (terms_in ns), map_length (λ (n : TermNode). n.term) ns)

module _ (old cur : List TermNode) (g : Grows old cur) where
  pub tree_grown : (a : TermId) → IsIn old a → tree_at (trees cur) a ≡ tree_at (trees old) a
  tree_grown a h =
      let (rest, e) = trees_grow old cur g in
      ap (λ ts. tree_at ts a) e ∙ at_below (trees old) rest a (lt-ltb a.0 (length (trees old)) (omega (arith, trees_count old)))

  pub in_grown : (a : TermId) → IsIn old a → IsIn cur a
  in_grown a h = let (more, e) = g in omega (arith, ap length e, length-append old more)

  pub pairs_in_grown : (by : List (TermId × TermId)) → PairsIn old by → PairsIn cur by
  pairs_in_grown [] h = tt
  pairs_in_grown (p ∷ ps) h = (in_grown p.0 h.0, in_grown p.1 h.1, pairs_in_grown ps h.2)

  pub pairs_grown : (by : List (TermId × TermId)) → PairsIn old by → pairs_at cur by ≡ pairs_at old by
  pairs_grown [] h = refl
  pairs_grown (p ∷ ps) h =
      let a = tree_grown p.0 h.0 in
      let b = tree_grown p.1 h.1 in
      let c = pairs_grown ps h.2 in
      λ i. (a i, b i) ∷ c i

  pub term_grown : (i : ℕ) (k : Term) → i < length old → slice_get (terms_in cur) i ≡ Some k → slice_get (terms_in old) i ≡ Some k
  term_grown i k h e =
      let (more, f) = g in
      let T : TermNode → Term = λ (n : TermNode). n.term in
      let l : i < length (terms_in old) = omega (arith, map_length T old) in
      sym (get_below (terms_in old) (terms_in more) i l) ∙ ap (λ xs. slice_get xs i) (sym (map_append T old more) ∙ ap terms_in (sym f)) ∙ e

  pub stands_grown : (y : TermId) (z : Tree) → StandsForTree old y z → StandsForTree cur y z
  stands_grown y z s = record { is_in = in_grown y s.is_in; tree = tree_grown y s.is_in ∙ s.tree }

pub grows_on : (a b c : List TermNode) → Grows a b → Grows b c → Grows a c
grows_on a b c (m, e) (n, f) = (m ++ n, f ∙ ap (λ xs. xs ++ n) e ∙ append_assoc a m n)

pub term_there : (ns : List TermNode) (i : ℕ) → i < length ns → (k : Term) × (slice_get (terms_in ns) i ≡ Some k)
term_there [] i h = absurd (omega arith)
term_there (n ∷ ns) zero h = (n.term, refl)
term_there (n ∷ ns) (suc i) h = term_there ns i (omega arith)

-- ---- what was made so far

-- what was made for the term i
pub record MadeAt (old cur : List TermNode) (by : List (TermId × TermId)) (made : ℕ → Option TermId) (i : ℕ) : Type 0 where
  pub id : TermId
  pub at : made i ≡ Some id
  pub stands : StandsForTree cur id (swapped (pairs_at old by) (tree_at (trees old) (record { 0 = i })))

pub record Making (old cur : List TermNode) (by : List (TermId × TermId)) (made : ℕ → Option TermId) (done : List TermId) : Type 0 where
  pub grows : Grows old cur
  pub each : (i : ℕ) → is_on done i ≡ true → MadeAt old cur by made i

pub making_start : (old : List TermNode) (by : List (TermId × TermId)) (made : ℕ → Option TermId) (ids : List TermId) (k : ℕ) → length ids ≤ k → Making old old by made (drop k ids)
making_start old by made ids k l = subst (λ (xs : List TermId). Making old old by made xs) (sym (drop_of_length-le ids l)) (record { grows = ([], sym (append-nil old)); each = λ i o. cc })

pub same_swapped : (old cur : List TermNode) → Grows old cur → (by : List (TermId × TermId)) → PairsIn old by → (t : TermId) → IsIn old t
    → swapped (pairs_at cur by) (tree_at (trees cur) t) ≡ swapped (pairs_at old by) (tree_at (trees old) t)
same_swapped old cur g by p t h =
    let e = pairs_grown old cur g by p in
    let f = tree_grown old cur g t h in
    λ k. swapped (e k) (f k)

module _ (old cur : List TermNode) (by : List (TermId × TermId)) (made : ℕ → Option TermId) (done : List TermId) (m : Making old cur by made done) (p : PairsIn old by) where
  all_made : (xs : List TermId) → ids_below (length old) done ≡ true → AllPass (is_on done) xs → AllMade cur (pairs_at cur by) made xs
  all_made [] i h = tt
  all_made (x ∷ xs) i h =
      let a = m.each x.0 h.0 in
      let l : x.0 < length old = on_below (length old) done x.0 i h.0 in
      (a.id, a.at, subst (λ (t : Tree). StandsForTree cur a.id t) (sym (same_swapped old cur m.grows by p x l)) a.stands, all_made xs i h.1)

-- a turn of the substitution: the last term for which nothing was made yet
module _ (old cur : List TermNode) (by : List (TermId × TermId)) (made : ℕ → Option TermId) (t : TermId) (ids : List TermId) (k : ℕ) (d : TermId) (m : Making old cur by made (drop k ids))
    (r : AreReached operands_of old (t ∷ []) ids) (p : PairsIn old by) (s : AreSwaps (pairs_at old by)) (h : 0 < k) (l : k ≤ length ids) where
  abbrev x : TermId
  x = get_or ids (k - 1) d

  x_in : IsIn old x
  x_in = on_below (length old) ids x.0 r.are_in (on_at ids (k - 1) d (omega arith))

  step : k ≡ suc (k - 1)
  step = omega arith

  pub turn_in : IsIn cur (get_or ids (k - 1) d)
  turn_in = in_grown old cur m.grows x x_in

  pub turn_pairs : PairsIn cur by
  turn_pairs = pairs_in_grown old cur m.grows by p

  pub turn_swaps : AreSwaps (pairs_at cur by)
  turn_swaps = subst (λ (q : List (Tree × Tree)). AreSwaps q) (sym (pairs_grown old cur m.grows by p)) s

  pub turn_operands : OperandsMade cur (pairs_at cur by) (get_or ids (k - 1) d) made
  turn_operands z at =
      let b : slice_get (terms_in old) x.0 ≡ Some z = term_grown old cur m.grows x.0 z x_in at in
      let o : AllPass (is_on (drop (suc (k - 1)) ids)) (operands_of z) = behind operands_of old ids (k - 1) d z r.go_on (omega arith) b in
      let q : AllPass (is_on (drop k ids)) (operands_of z) = subst (λ (n : ℕ). AllPass (is_on (drop n ids)) (operands_of z)) (sym step) o in
      all_made old cur by made (drop k ids) m p (operands_of z) (below_drop (length old) ids k r.are_in) q
    where
      below_drop : (n : ℕ) (xs : List TermId) (i : ℕ) → ids_below n xs ≡ true → ids_below n (drop i xs) ≡ true
      below_drop n [] zero e = e
      below_drop n [] (suc i) e = e
      below_drop n (x ∷ xs) zero e = e
      below_drop n (x ∷ xs) (suc i) e = below_drop n xs i (second_so (nat_lt x.0 n) (ids_below n xs) e)

  pub turn_next : (new : List TermNode) (y : TermId) (more : ℕ → Option TermId) → Grows cur new → StandsForTree new y (swapped (pairs_at cur by) (tree_at (trees cur) (get_or ids (k - 1) d)))
      → ((q : ℕ) → more q ≡ (if nat_eq (get_or ids (k - 1) d).0 q then Some y else made q)) → Making old new by more (drop (k - 1) ids)
  turn_next new y more g e u = subst (λ (xs : List TermId). Making old new by more xs) (sym cut) (record {
    grows = grows_on old cur new m.grows g;
    each = λ i o. at i (nat_eq x.0 i) refl o;
  })
    where
      cut : drop (k - 1) ids ≡ x ∷ drop (suc (k - 1)) ids
      cut = drop-cons ids (k - 1) d (omega arith)

      mine : StandsForTree new y (swapped (pairs_at old by) (tree_at (trees old) x))
      mine = subst (λ (z : Tree). StandsForTree new y z) (same_swapped old cur m.grows by p x x_in) e

      at : (i : ℕ) (b : Bool) → nat_eq x.0 i ≡ b → is_on (x ∷ drop (suc (k - 1)) ids) i ≡ true → MadeAt old new by more i
      at i true q o =
          let same : x.0 ≡ i = nat_eq-is x.0 i q in
          record {
            id = y;
            at = u i ∙ ap (λ (b : Bool). if b then Some y else made i) q;
            stands = subst (λ (n : ℕ). StandsForTree new y (swapped (pairs_at old by) (tree_at (trees old) (record { 0 = n })))) same mine;
          }
      at i false q o = elim (or_cases (nat_eq i x.0) (is_on (drop (suc (k - 1)) ids) i) o) [
        | inl w ↦ let c : true ≡ false = sym (ap (λ n. nat_eq x.0 n) (nat_eq-is i x.0 w) ∙ nat_eq-refl x.0) ∙ q in cc
        | inr w ↦
            let a = m.each i (ap (λ n. is_on (drop n ids) i) step ∙ w) in
            record { id = a.id; at = u i ∙ ap (λ (b : Bool). if b then Some y else made i) q ∙ a.at; stands = stands_grown cur new g a.id (swapped (pairs_at old by) (tree_at (trees old) (record { 0 = i }))) a.stands }
      ]

pub record LastMade (old cur : List TermNode) (by : List (TermId × TermId)) (made : ℕ → Option TermId) (t : TermId) : Type 0 where
  pub there : is_some (made t.0) ≡ true
  pub stands : (y : TermId) → made t.0 ≡ Some y → StandsForTree cur y (swapped (pairs_at old by) (tree_at (trees old) t))

pub turn_last : (old cur : List TermNode) (by : List (TermId × TermId)) (made : ℕ → Option TermId) (t : TermId) (ids : List TermId) (k : ℕ) → Making old cur by made (drop k ids)
    → AreReached operands_of old (t ∷ []) ids → k ≡ 0 → LastMade old cur by made t
turn_last old cur by made t ids k m r z =
    let a = m.each t.0 (ap (λ n. is_on (drop n ids) t.0) z ∙ r.there.0) in
    record {
      there = ap is_some a.at;
      stands = λ y e. let f : Some a.id ≡ Some y = sym a.at ∙ e in let same : a.id ≡ y = cc in
          subst (λ (w : TermId). StandsForTree cur w (swapped (pairs_at old by) (tree_at (trees old) t))) same a.stands;
    }

-- ---- made anew

row_map : (by : List (Tree × Tree)) (ts : List Tree) → swapped_row by (tree_row ts) ≡ map (swapped by) ts
row_map by [] = refl
row_map by (t ∷ ts) = ap (λ r. swapped by t ∷ r) (row_map by ts)

made_trees : (ns : List TermNode) (by : List (Tree × Tree)) (made : ℕ → Option TermId) (xs ys : List TermId) → AllMade ns by made xs → MadeFor made xs ys → (ids_below (length ns) ys ≡ true)
    × (trees_at ns ys ≡ map (swapped by) (trees_at ns xs))
made_trees ns by made [] [] a f = (refl, refl)
made_trees ns by made [] (y ∷ ys) a f = absurd f
made_trees ns by made (x ∷ xs) [] a f = absurd f
made_trees ns by made (x ∷ xs) (y ∷ ys) a f =
    let s : Some a.0 ≡ Some y = sym a.1 ∙ f.0 in
    let same : a.0 ≡ y = cc in
    let P : TermId → Type 0 = λ z. StandsForTree ns z (swapped by (tree_at (trees ns) x)) in
    let q : StandsForTree ns y (swapped by (tree_at (trees ns) x)) = subst P same a.2 in
    let r = made_trees ns by made xs ys a.3 f.1 in
    let e = q.tree in
    let g = r.1 in
    (ids_cons (length ns) y ys (lt-ltb y.0 (length ns) q.is_in) r.0, λ i. e i ∷ g i)
  where
    ids_cons : (k : ℕ) (z : TermId) (zs : List TermId) → nat_lt z.0 k ≡ true → ids_below k zs ≡ true → ids_below k (z ∷ zs) ≡ true
    ids_cons k z zs p q = ap (λ b. b && ids_below k zs) p ∙ q

pub made_there : (ns : List TermNode) (by : List (Tree × Tree)) (made : ℕ → Option TermId) (xs : List TermId) → AllMade ns by made xs → AreMade made xs
made_there ns by made [] a = tt
made_there ns by made (x ∷ xs) a = (ap is_some a.1, made_there ns by made xs a.3)

-- an operation on what was made in place of its operands
module _ (ns : List TermNode) (by : List (Tree × Tree)) (s : AreSwaps by) (d : SecondsTyped by) (x : TermId) (op : Op) (xs ys : List TermId) (made : ℕ → Option TermId)
    (shown : operation_on op (trees_at ns xs) ≡ tree_at (trees ns) x) (h : IsTyped (tree_at (trees ns) x)) (a : AllMade ns by made xs) (f : MadeFor made xs ys) where
  typed_op : IsTyped (operation_on op (trees_at ns xs))
  typed_op = let P : Tree → Type 0 = IsTyped in subst P (sym shown) h

  made_row : trees_at ns ys ≡ swapped_row by (tree_row (trees_at ns xs))
  made_row = (made_trees ns by made xs ys a f).1 ∙ sym (row_map by (trees_at ns xs))

  pub op_within : ids_below (length ns) ys ≡ true
  op_within = (made_trees ns by made xs ys a f).0

  pub op_takes : TakesTypes op (types_of (tree_row (trees_at ns ys)))
  op_takes =
      let k = row_keeps by s d (tree_row (trees_at ns xs)) typed_op.0 in
      let P : List TypeTree → Type 0 = TakesTypes op in
      subst P (sym (ap (λ r. types_of (tree_row r)) made_row ∙ k.types)) typed_op.1

  pub op_made : make_operation op (trees_at ns ys) ≡ swapped by (tree_at (trees ns) x)
  op_made = ap (make_operation op) made_row ∙ ap (swapped by) shown

-- a choice of what was made in place of its operands
module _ (ns : List TermNode) (by : List (Tree × Tree)) (s : AreSwaps by) (d : SecondsTyped by) (x c f t : TermId) (made : ℕ → Option TermId)
    (shown : choice_of (tree_at (trees ns) c) (tree_at (trees ns) f) (tree_at (trees ns) t) ≡ tree_at (trees ns) x) (h : IsTyped (tree_at (trees ns) x)) (a : AllMade ns by made (c ∷ f ∷ t ∷ []))
    (u v w : TermId) (eu : made c.0 ≡ Some u) (ev : made f.0 ≡ Some v) (ew : made t.0 ≡ Some w) where
  typed_choice : IsTyped (choice_of (tree_at (trees ns) c) (tree_at (trees ns) f) (tree_at (trees ns) t))
  typed_choice = let P : Tree → Type 0 = IsTyped in subst P (sym shown) h

  rows : (ids_below (length ns) (u ∷ v ∷ w ∷ []) ≡ true) × (trees_at ns (u ∷ v ∷ w ∷ []) ≡ map (swapped by) (trees_at ns (c ∷ f ∷ t ∷ [])))
  rows = made_trees ns by made (c ∷ f ∷ t ∷ []) (u ∷ v ∷ w ∷ []) a (eu, (ev, (ew, tt)))

  pub choice_c : tree_at (trees ns) u ≡ swapped by (tree_at (trees ns) c)
  choice_c = let e = rows.1 in cc

  pub choice_f : tree_at (trees ns) v ≡ swapped by (tree_at (trees ns) f)
  choice_f = let e = rows.1 in cc

  pub choice_t : tree_at (trees ns) w ≡ swapped by (tree_at (trees ns) t)
  choice_t = let e = rows.1 in cc

  pub choice_in : (u.0 < length ns) × (v.0 < length ns) × (w.0 < length ns)
  choice_in =
      let b = rows.0 in
      let k = length ns in
      let r = second_so (nat_lt u.0 k) (nat_lt v.0 k && (nat_lt w.0 k && true)) b in (
        ltb-true u.0 k (first_so (nat_lt u.0 k) (nat_lt v.0 k && (nat_lt w.0 k && true)) b),
        ltb-true v.0 k (first_so (nat_lt v.0 k) (nat_lt w.0 k && true) r),
        ltb-true w.0 k (first_so (nat_lt w.0 k) true (second_so (nat_lt v.0 k) (nat_lt w.0 k && true) r)),
      )

  pub choice_fits : Chooses (type_of (tree_at (trees ns) u)) (type_of (tree_at (trees ns) v)) (type_of (tree_at (trees ns) w))
  choice_fits =
      let kc = swap_keeps by s d (tree_at (trees ns) c) typed_choice.0 in
      let kf = swap_keeps by s d (tree_at (trees ns) f) typed_choice.1 in
      let kt = swap_keeps by s d (tree_at (trees ns) t) typed_choice.2 in
      (ap type_of choice_c ∙ kc.type ∙ typed_choice.3.0, ap type_of choice_f ∙ kf.type ∙ typed_choice.3.1 ∙ sym (ap type_of choice_t ∙ kt.type))

  pub choice_made : make_choice (tree_at (trees ns) u) (tree_at (trees ns) v) (tree_at (trees ns) w) ≡ swapped by (tree_at (trees ns) x)
  choice_made = (λ i. make_choice (choice_c i) (choice_f i) (choice_t i)) ∙ ap (swapped by) shown

-- terms that have no operands
pub stays : (ns : List TermNode) (by : List (Tree × Tree)) (x : TermId) (v : Val) → IsIn ns x → constant (datum_of v) ≡ tree_at (trees ns) x → StandsForTree ns x (swapped by (tree_at (trees ns) x))
stays ns by x v i e = record { is_in = i; tree = sym e ∙ ap (swapped by) e }

pub past_made : (ns : List TermNode) (by : List (Tree × Tree)) (x y : TermId) (p : Part) → past_of p ≡ tree_at (trees ns) x → StandsForTree ns y (replaced by (tree_at (trees ns) x))
    → StandsForTree ns y (swapped by (tree_at (trees ns) x))
past_made ns by x y p e h = let P : Tree → Type 0 = λ z. StandsForTree ns y (replaced by z) → StandsForTree ns y (swapped by z) in subst P e (λ k. k) h

pub now_made : (ns : List TermNode) (by : List (Tree × Tree)) (x y : TermId) (p : Part) → now_of p ≡ tree_at (trees ns) x → StandsForTree ns y (replaced by (tree_at (trees ns) x))
    → StandsForTree ns y (swapped by (tree_at (trees ns) x))
now_made ns by x y p e h = let P : Tree → Type 0 = λ z. StandsForTree ns y (replaced by z) → StandsForTree ns y (swapped by z) in subst P e (λ k. k) h

-- the terms that take places are typed, as every term of the arena
pub seconds_typed : (ns : List TermNode) → AllTyped ns → (by : List (TermId × TermId)) → PairsIn ns by → SecondsTyped (pairs_at ns by)
seconds_typed ns a [] h = tt
seconds_typed ns a (p ∷ ps) h = (a p.1 h.1, seconds_typed ns a ps h.2)

-- ---- loops over operands

-- those before `left` have their names
pub record RenamedSoFar (made : ℕ → Option TermId) (xs left to : List TermId) : Type 0 where
  pub done : List TermId
  pub split : done ++ left ≡ xs
  pub there : AreMade made left
  pub names : MadeFor made done to

pub rename_first : (made : ℕ → Option TermId) (xs : List TermId) → AreMade made xs → RenamedSoFar made xs xs []
rename_first made xs h = record { done = []; split = refl; there = h; names = tt }

made_push : (made : ℕ → Option TermId) (xs ys : List TermId) (x y : TermId) → MadeFor made xs ys → made x.0 ≡ Some y → MadeFor made (xs ++ x ∷ []) (ys ++ y ∷ [])
made_push made [] [] x y h e = (e, tt)
made_push made [] (v ∷ ys) x y h e = absurd h
made_push made (u ∷ xs) [] x y h e = absurd h
made_push made (u ∷ xs) (v ∷ ys) x y h e = (h.0, made_push made xs ys x y h.1 e)

pub rename_there : (made : ℕ → Option TermId) (xs : List TermId) (x : TermId) (left to : List TermId) → RenamedSoFar made xs (x ∷ left) to → is_some (made x.0) ≡ true
rename_there made xs x left to r = r.there.0

pub rename_next : (made : ℕ → Option TermId) (xs : List TermId) (x : TermId) (left to : List TermId) (y : TermId) → RenamedSoFar made xs (x ∷ left) to → made x.0 ≡ Some y
    → RenamedSoFar made xs left (to ++ y ∷ [])
rename_next made xs x left to y r e =
    record {
      done = r.done ++ x ∷ [];
      split = append_assoc r.done (x ∷ []) left ∙ r.split;
      there = r.there.1;
      names = made_push made r.done to x y r.names e;
    }

pub rename_last : (made : ℕ → Option TermId) (xs to : List TermId) → RenamedSoFar made xs [] to → MadeFor made xs to
rename_last made xs to r = let P : List TermId → Type 0 = λ ys. MadeFor made ys to in subst P (sym (append-nil r.done) ∙ r.split) r.names

-- an answer of running out of memory or a term, taken over
pub if_ok_stands : {E : Type 0} (q : Result TermId E) (new : List TermNode) (x z : Tree) → ((y : TermId) → StandsForTree new y x → StandsForTree new y z) → IfOk q (λ y. StandsForTree new y x)
    → IfOk q (λ y. StandsForTree new y z)
if_ok_stands (Ok y) new x z f h = f y h
if_ok_stands (Err e) new x z f h = h

-- ---- the loops' lists, as the code takes them apart

pub take_whole : {X : Type 0} (xs : List X) → take (length xs) xs ≡ xs
take_whole [] = refl
take_whole (x ∷ xs) = ap (λ r. x ∷ r) (take_whole xs)

pub rest_of : (y : TermId) (r : List TermId) → take (length (y ∷ r) - 1) (drop 1 (y ∷ r)) ≡ r
rest_of y r = let e : length (y ∷ r) - 1 ≡ length r = omega arith in ap (λ n. take n (drop 1 (y ∷ r))) e ∙ take_whole r

pub rename_there_at : (made : ℕ → Option TermId) (xs left to : List TermId) (d : TermId) → RenamedSoFar made xs left to → 1 ≤ length left → is_some (made (get_or left 0 d).0) ≡ true
rename_there_at made xs [] to d r h = absurd (omega arith)
rename_there_at made xs (x ∷ q) to d r h = r.there.0

pub rename_next_at : (made : ℕ → Option TermId) (xs left to more : List TermId) (d y : TermId) → RenamedSoFar made xs left to → 1 ≤ length left → made (get_or left 0 d).0 ≡ Some y → more ≡ to ++ y ∷ []
    → RenamedSoFar made xs (take (length left - 1) (drop 1 left)) more
rename_next_at made xs [] to more d y r h e m = absurd (omega arith)
rename_next_at made xs (x ∷ q) to more d y r h e m =
    let P : List TermId → Type 0 = λ l. RenamedSoFar made xs l more in
    let Q : List TermId → Type 0 = λ n. RenamedSoFar made xs q n in
    subst P (sym (rest_of x q)) (subst Q (sym m) (rename_next made xs x q to y r e))

-- ---- what is remade, as the code takes the term apart

pub record OpFacts (ns : List TermNode) (by : List (Tree × Tree)) (x : TermId) (op : Op) (ys : List TermId) : Type 0 where
  pub within : ids_below (length ns) ys ≡ true
  pub takes : TakesTypes op (types_of (tree_row (trees_at ns ys)))
  pub made : make_operation op (trees_at ns ys) ≡ swapped by (tree_at (trees ns) x)

pub record ChoiceFacts (ns : List TermNode) (by : List (Tree × Tree)) (x u v w : TermId) : Type 0 where
  pub c_in : u.0 < length ns
  pub f_in : v.0 < length ns
  pub t_in : w.0 < length ns
  pub fits : Chooses (type_of (tree_at (trees ns) u)) (type_of (tree_at (trees ns) v)) (type_of (tree_at (trees ns) w))
  pub made : make_choice (tree_at (trees ns) u) (tree_at (trees ns) v) (tree_at (trees ns) w) ≡ swapped by (tree_at (trees ns) x)

module _ (ns : List TermNode) (by : List (Tree × Tree)) (x : TermId) (k : Term) (made : ℕ → Option TermId) (term : slice_get (terms_in ns) x.0 ≡ Some k) (operands : OperandsMade ns by x made) where
  all_of : (l : Term) → k ≡ l → AllMade ns by made (operands_of l)
  all_of l e = let P : Term → Type 0 = λ m. AllMade ns by made (operands_of m) in subst P e (operands k term)

  pub op_names : (op : Op) (xs ys : List TermId) → k ≡ Applied op xs → ys ≡ xs → AreMade made ys
  op_names op xs ys e f = subst (λ (l : List TermId). AreMade made l) (sym f) (made_there ns by made xs (all_of (Applied op xs) e))

  pub op_facts : AreSwaps by → SecondsTyped by → (op : Op) (xs : List TermId) → k ≡ Applied op xs → term_tree (trees ns) k ≡ tree_at (trees ns) x → IsTyped (tree_at (trees ns) x)
      → (qs ys zs : List TermId) → qs ≡ xs → MadeFor made qs ys → zs ≡ ys → OpFacts ns by x op zs
  op_facts s d op xs e shown h qs ys zs f m g =
      let P : List TermId → Type 0 = λ l. MadeFor made l ys in
      let Q : List TermId → Type 0 = λ l. OpFacts ns by x op l in
      let at : operation_on op (trees_at ns xs) ≡ tree_at (trees ns) x = sym (ap (term_tree (trees ns)) e) ∙ shown in
      let a = all_of (Applied op xs) e in
      let n : MadeFor made xs ys = subst P f m in
      subst Q (sym g) (record {
        within = op_within ns by s d x op xs ys made at h a n;
        takes = op_takes ns by s d x op xs ys made at h a n;
        made = op_made ns by s d x op xs ys made at h a n;
      })

  pub choice_names : (c f t : TermId) → k ≡ Choice c f t → (is_some (made c.0) ≡ true) × (is_some (made f.0) ≡ true) × (is_some (made t.0) ≡ true)
  choice_names c f t e =
      let a = all_of (Choice c f t) e in
      (ap is_some a.1, ap is_some a.3.1, ap is_some a.3.3.1)

  pub choice_facts : AreSwaps by → SecondsTyped by → (c f t : TermId) → k ≡ Choice c f t → term_tree (trees ns) k ≡ tree_at (trees ns) x → IsTyped (tree_at (trees ns) x) → (u v w : TermId)
      → made c.0 ≡ Some u → made f.0 ≡ Some v → made t.0 ≡ Some w → ChoiceFacts ns by x u v w
  choice_facts s d c f t e shown h u v w eu ev ew =
      let at : choice_of (tree_at (trees ns) c) (tree_at (trees ns) f) (tree_at (trees ns) t) ≡ tree_at (trees ns) x = sym (ap (term_tree (trees ns)) e) ∙ shown in
      let a = all_of (Choice c f t) e in
      let i = choice_in ns by s d x c f t made at h a u v w eu ev ew in
      record {
        c_in = i.0;
        f_in = i.1;
        t_in = i.2;
        fits = choice_fits ns by s d x c f t made at h a u v w eu ev ew;
        made = choice_made ns by s d x c f t made at h a u v w eu ev ew;
      }

pub if_ok_along : {E : Type 0} (q : Result TermId E) (new : List TermNode) (x z : Tree) → x ≡ z → IfOk q (λ y. StandsForTree new y x) → IfOk q (λ y. StandsForTree new y z)
if_ok_along q new x z e h = let P : Tree → Type 0 = λ w. IfOk q (λ y. StandsForTree new y w) in subst P e h
