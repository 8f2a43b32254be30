-- The values before that can be in a condition, each with the value now, by ids.
use Rattle.std.proofs.Common.{◌≡◌, ℕ, ◌+◌, ◌-◌, ◌<◌, ◌≤◌, Bool, true, false, not, ◌||◌, nat_eq, nat_lt, if◌then◌else◌, List, [], ◌∷◌, ◌++◌, length, map, take, drop, get_or, refl, sym, ap, ◌∙◌, subst, inl, inr, ◌⊎◌, arith, Option, Some, None, append-nil, ltb-true}
use Rattle.std.specs.List.{list_any}
use Rattle.std.specs.Cmp.{first_so, second_so}
use Rattle.lh_types.specs.Types.{int_type}
use Rattle.lh_term.specs.declared.part.Part.{Part}
use Rattle.lh_term.specs.declared.term.TermId.{TermId}
use Rattle.lh_term.specs.declared.term.Term.{Term}
use Rattle.lh_term.specs.declared.term.Term.TheVariants.{Konst, Past, Now, Op as Applied, Choice}
use Rattle.lh_term.specs.declared.term.TermNode.{TermNode}
use Rattle.lh_term.specs.Tree.{Tree, constant, past_of, now_of, operation, choice_of, tree_row}
use Rattle.lh_term.specs.Same.{same_part, same_part-is}
use Rattle.lh_types.specs.Same.{nat_eq-refl, nat_eq-is}
use Rattle.lh_term.specs.SameTree.{same_tree, same_tree-refl}
use Rattle.lh_term.specs.Make.{bit_of}
use Rattle.lh_term.specs.Arena.{tree_at, trees, term_tree, ids_below, IsIn, Grows, StandsForTree}
use Rattle.lh_term.specs.Subst.{PairsIn, pairs_at, is_first}
use Rattle.lh_term.specs.Reach.{operands_of, is_on, GoOn, none_left, AreReached}
use Rattle.lh_term.proofs.TermWalks.{on_push, on_at, on_below, pass_on, is_behind}
use Rattle.lh_term.proofs.Swaps.{tree_grown, in_grown, grows_on, pairs_grown, pairs_in_grown, term_there}
use Rattle.lh_edge.specs.Triggers.{pasts_in, pasts_in_row}
use Rattle.lh_edge.specs.Steps.{present_tree, IsPresent}
use Rattle.lh_edge.specs.Gates.{ArePresents, IsPresents, MakesGate, with_pair, with_present, Gathers}
use Rattle.lh_edge.proofs.Gate.{first_append, put_pair, put_has, SwapSoFar, swap_first, swap_next, gate_is}
use Rattle.lh_edge.proofs.Found.{take_all}
use Rattle.std.proofs.lemmas.List.{take_more}
use Rattle.std.proofs.lemmas.Bool.{or_cases, or_left, or_right}

-- ---- pairs of ids

pub pairs_append : (ns : List TermNode) (xs ys : List (TermId × TermId)) → pairs_at ns (xs ++ ys) ≡ pairs_at ns xs ++ pairs_at ns ys
pairs_append ns [] ys = refl
pairs_append ns (x ∷ xs) ys = ap (λ r. (tree_at (trees ns) x.0, tree_at (trees ns) x.1) ∷ r) (pairs_append ns xs ys)

in_append : (ns : List TermNode) (xs ys : List (TermId × TermId)) → PairsIn ns xs → PairsIn ns ys → PairsIn ns (xs ++ ys)
in_append ns [] ys h k = k
in_append ns (x ∷ xs) ys h k = (h.0, h.1, in_append ns xs ys h.2 k)

presents_append : (ps qs : List (Tree × Tree)) → ArePresents ps → ArePresents qs → ArePresents (ps ++ qs)
presents_append [] qs h k = k
presents_append (p ∷ ps) qs h k = (h.0, presents_append ps qs h.1 k)

-- ---- parts in a row of operands

pub record InRow (ts : List Tree) (xs : List TermId) (q : Part) : Type 0 where
  pub id : TermId
  pub is_one : is_on xs id.0 ≡ true
  pub there : list_any (same_part q) (pasts_in (tree_at ts id)) ≡ true

any_split : (q : Part) (xs ys : List Part) → list_any (same_part q) (xs ++ ys) ≡ true → (list_any (same_part q) xs ≡ true) ⊎ (list_any (same_part q) ys ≡ true)
any_split q [] ys h = inr h
any_split q (x ∷ xs) ys h = elim (or_cases (same_part q x) (list_any (same_part q) (xs ++ ys)) h) [
  | inl k ↦ inl (or_left _ _ k)
  | inr k ↦ elim (any_split q xs ys k) [ inl m ↦ inl (or_right _ _ m) | inr m ↦ inr m ]
]

in_row : (ts : List Tree) (xs : List TermId) (q : Part) → list_any (same_part q) (pasts_in_row (tree_row (map (tree_at ts) xs))) ≡ true → InRow ts xs q
in_row ts [] q h = cc
in_row ts (x ∷ xs) q h = elim (any_split q (pasts_in (tree_at ts x)) (pasts_in_row (tree_row (map (tree_at ts) xs))) h) [
  | inl k ↦ record { id = x; is_one = or_left (nat_eq x.0 x.0) (is_on xs x.0) (nat_eq-refl x.0); there = k }
  | inr k ↦ let r = in_row ts xs q k in record { id = r.id; is_one = or_right (nat_eq r.id.0 x.0) (is_on xs r.id.0) r.is_one; there = r.there }
]

-- a value before in a term is the term or in one of its operands
pub past_under : (ts : List Tree) (k : Term) (q : Part) → list_any (same_part q) (pasts_in (term_tree ts k)) ≡ true → (term_tree ts k ≡ past_of q) ⊎ InRow ts (operands_of k) q
past_under ts (Konst v) q h = cc
past_under ts (Now p) q h = cc
past_under ts (Past p) q h = elim (or_cases (same_part q p) false h) [ inl k ↦ inl (ap past_of (sym (same_part-is q p k))) | inr k ↦ cc ]
past_under ts (Applied op args) q h = inr (in_row ts args q h)
past_under ts (Choice c f t) q h =
    let e : pasts_in_row (tree_row (map (tree_at ts) (c ∷ f ∷ t ∷ []))) ≡ pasts_in (tree_at ts c) ++ (pasts_in (tree_at ts f) ++ pasts_in (tree_at ts t)) =
    ap (λ r. pasts_in (tree_at ts c) ++ (pasts_in (tree_at ts f) ++ r)) (append-nil (pasts_in (tree_at ts t))) in
    inr (in_row ts (c ∷ f ∷ t ∷ []) q (ap (list_any (same_part q)) e ∙ h))

-- ---- the pairs so far

pub record GatheredSoFar (old cur : List TermNode) (done : List TermId) (pairs : List (TermId × TermId)) : Type 0 where
  pub grows : Grows old cur
  pub pairs_in : PairsIn cur pairs
  pub each : ArePresents (pairs_at cur pairs)
  pub pasts : (j : ℕ) (q : Part) → is_on done j ≡ true → tree_at (trees old) (record { 0 = j }) ≡ past_of q → is_first (pairs_at cur pairs) (past_of q) ≡ true

pub gather_start : (ns : List TermNode) (pairs : List (TermId × TermId)) → pairs ≡ [] → GatheredSoFar ns ns [] pairs
gather_start ns pairs e = subst (λ (ps : List (TermId × TermId)). GatheredSoFar ns ns [] ps) (sym e) (record {
  grows = ([], sym (append-nil ns));
  pairs_in = tt;
  each = tt;
  pasts = λ j q o. cc;
})

present_part : (s t : Tree) → present_tree s ≡ Some t → (p : Part) × (s ≡ past_of p) × (t ≡ now_of p)
present_part (past_of p) t e = let f : now_of p ≡ t = cc in (p, refl, sym f)
present_part (constant v) t e = cc
present_part (now_of p) t e = cc
present_part (operation op us) t e = cc
present_part (choice_of a b c) t e = cc

module _ (old cur : List TermNode) (done : List TermId) (pairs : List (TermId × TermId)) (x : TermId) (s : GatheredSoFar old cur done pairs) (l : IsIn old x) where
  same : tree_at (trees cur) x ≡ tree_at (trees old) x
  same = tree_grown old cur s.grows x l

  pub gather_next : (new : List TermNode) (more : List (TermId × TermId)) → Grows cur new → Gathers cur new pairs x more → GatheredSoFar old new (done ++ x ∷ []) more
  gather_next new more g h = at h.found h.made h.added
    where
      grown : pairs_at new pairs ≡ pairs_at cur pairs
      grown = pairs_grown cur new g pairs s.pairs_in

      as_past : (j : ℕ) (q : Part) → j ≡ x.0 → tree_at (trees old) (record { 0 = j }) ≡ past_of q → tree_at (trees cur) x ≡ past_of q
      as_past j q p e = same ∙ ap (λ n. tree_at (trees old) (record { 0 = n })) (sym p) ∙ e

      at : (f : Option TermId) → IsPresent new (tree_at (trees cur) x) f → more ≡ with_present pairs x f → GatheredSoFar old new (done ++ x ∷ []) more
      at None is m = subst (λ (ps : List (TermId × TermId)). GatheredSoFar old new (done ++ x ∷ []) ps) (sym m) (record {
        grows = grows_on old cur new s.grows g;
        pairs_in = pairs_in_grown cur new g pairs s.pairs_in;
        each = subst ArePresents (sym grown) s.each;
        pasts = λ j q o e. elim (on_push done x j o) [
          | inl p ↦ let n : None ≡ Some (now_of q) = sym is ∙ ap present_tree (as_past j q p e) in cc
          | inr p ↦ ap (λ ps. is_first ps (past_of q)) grown ∙ s.pasts j q p e
        ];
      })
      at (Some y) is m =
          let X = tree_at (trees cur) x in
          let Y = tree_at (trees new) y in
          let (p, e, f) = present_part X Y is.1 in
          let x_in : IsIn cur x = in_grown old cur s.grows x l in
          let x_new : tree_at (trees new) x ≡ X = tree_grown cur new g x x_in in
          let all : pairs_at new (pairs ++ (x, y) ∷ []) ≡ pairs_at cur pairs ++ (X, Y) ∷ [] =
          pairs_append new pairs ((x, y) ∷ []) ∙ (λ j. grown j ++ (x_new j, Y) ∷ [])
          in
          subst (λ (ps : List (TermId × TermId)). GatheredSoFar old new (done ++ x ∷ []) ps) (sym m) (record {
            grows = grows_on old cur new s.grows g;
            pairs_in = in_append new pairs ((x, y) ∷ []) (pairs_in_grown cur new g pairs s.pairs_in) (in_grown cur new g x x_in, is.0, tt);
            each = subst ArePresents (sym all) (presents_append (pairs_at cur pairs) ((X, Y) ∷ []) s.each ((p, e, f), tt));
            pasts = λ j q o w. elim (on_push done x j o) [
              | inl b ↦
                  let t : same_tree X (past_of q) ≡ true = ap (λ u. same_tree u (past_of q)) (as_past j q b w) ∙ same_tree-refl (past_of q) in
                  ap (λ ps. is_first ps (past_of q)) all ∙ first_append (pairs_at cur pairs) ((X, Y) ∷ []) (past_of q) ∙ or_right _ _ (ap (λ (b : Bool). if b then true else false) t)
              | inr b ↦ ap (λ ps. is_first ps (past_of q)) all ∙ first_append (pairs_at cur pairs) ((X, Y) ∷ []) (past_of q) ∙ or_left _ _ (s.pasts j q b w)
            ];
          })

module _ (old cur : List TermNode) (ids : List TermId) (pairs : List (TermId × TermId)) (s : GatheredSoFar old cur ids pairs) (q : Part) where
  all_below : (left : List TermId) → ids_below (length old) left ≡ true → ((j : ℕ) → is_on left j ≡ true → is_on ids j ≡ true) → GoOn operands_of old none_left left → (j : ℕ) → is_on left j ≡ true
      → list_any (same_part q) (pasts_in (tree_at (trees old) (record { 0 = j }))) ≡ true → is_first (pairs_at cur pairs) (past_of q) ≡ true
  all_below [] i sub g j o h = cc
  all_below (x ∷ left) i sub g j o h =
      step (all_below left (second_so (nat_lt x.0 (length old)) (ids_below (length old) left) i) (λ m p. sub m (or_right (nat_eq m x.0) (is_on left m) p)) g.1)
    where
      x_in : x.0 < length old
      x_in = ltb-true x.0 (length old) (first_so (nat_lt x.0 (length old)) (ids_below (length old) left) i)

      Rest : Type 0
      Rest = (m : ℕ) → is_on left m ≡ true → list_any (same_part q) (pasts_in (tree_at (trees old) (record { 0 = m }))) ≡ true → is_first (pairs_at cur pairs) (past_of q) ≡ true

      here : Rest → list_any (same_part q) (pasts_in (tree_at (trees old) x)) ≡ true → is_first (pairs_at cur pairs) (past_of q) ≡ true
      here rest k =
          let (z, is) = term_there old x.0 x_in in
          let t = g.0 z is in
          elim (past_under (trees old) z q (ap (λ u. list_any (same_part q) (pasts_in u)) t.shown ∙ k)) [
            | inl e ↦ s.pasts x.0 q (sub x.0 (or_left (nat_eq x.0 x.0) (is_on left x.0) (nat_eq-refl x.0))) (sym t.shown ∙ e)
            | inr b ↦ rest b.id.0 (pass_on (is_on left) (operands_of z) b.id.0 (is_behind operands_of old x left z t) b.is_one) b.there
          ]

      step : Rest → is_first (pairs_at cur pairs) (past_of q) ≡ true
      step rest = elim (or_cases (nat_eq j x.0) (is_on left j) o) [
        | inl e ↦ here rest (ap (λ n. list_any (same_part q) (pasts_in (tree_at (trees old) (record { 0 = n })))) (sym (nat_eq-is j x.0 e)) ∙ h)
        | inr r ↦ rest j r h
      ]

pub gather_turn : (old cur new : List TermNode) (ids : List TermId) (pairs more : List (TermId × TermId)) (c : TermId) (n : ℕ) (d : TermId) → AreReached operands_of old (c ∷ []) ids → n < length ids
    → GatheredSoFar old cur (take n ids) pairs → Grows cur new → Gathers cur new pairs (get_or ids n d) more → GatheredSoFar old new (take (n + 1) ids) more
gather_turn old cur new ids pairs more c n d r l s g h =
    subst (λ (xs : List TermId). GatheredSoFar old new xs more) (sym (take_more ids n d l))
    (gather_next old cur (take n ids) pairs (get_or ids n d) s (on_below (length old) ids (get_or ids n d).0 r.are_in (on_at ids n d l)) new more g h)

-- the next term is in the arena as it has grown
pub gather_in : (old cur : List TermNode) (ids : List TermId) (pairs : List (TermId × TermId)) (c : TermId) (n : ℕ) (d : TermId) → AreReached operands_of old (c ∷ []) ids → n < length ids
    → GatheredSoFar old cur (take n ids) pairs → IsIn cur (get_or ids n d)
gather_in old cur ids pairs c n d r l s = in_grown old cur s.grows (get_or ids n d) (on_below (length old) ids (get_or ids n d).0 r.are_in (on_at ids n d l))

pub gathered_all : (old cur : List TermNode) (ids : List TermId) (pairs : List (TermId × TermId)) (c : TermId) (n : ℕ) → AreReached operands_of old (c ∷ []) ids → length ids ≤ n
    → GatheredSoFar old cur (take n ids) pairs → IsPresents cur (tree_at (trees old) c) pairs
gathered_all old cur ids pairs c n r z s =
    let w : GatheredSoFar old cur ids pairs = subst (λ (xs : List TermId). GatheredSoFar old cur xs pairs) (take_all ids n z) s in
    record {
      pairs_in = w.pairs_in;
      each = w.each;
      whole = λ q h. all_below old cur ids pairs w q ids r.are_in (λ j p. p) r.go_on c.0 r.there.0 h;
    }

-- ---- the pairs of a gate

pub record GateSoFar (old cur : List TermNode) (rise : Bool) (p : Part) (presents left swap : List (TermId × TermId)) : Type 0 where
  pub grows : Grows old cur
  pub swap_in : PairsIn cur swap
  pub left_in : PairsIn old left
  pub left_each : ArePresents (pairs_at old left)
  pub so_far : SwapSoFar rise p (pairs_at cur swap)
  pub done : (t : Tree) → is_first (pairs_at old presents) t ≡ true → (is_first (pairs_at cur swap) t || is_first (pairs_at old left) t) ≡ true

pub gate_start : (old cur : List TermNode) (rise : Bool) (p : Part) (c : Tree) (presents : List (TermId × TermId)) (past now before after : TermId) (swap : List (TermId × TermId)) → p.ty ≡ int_type 1
    → Grows old cur
    → IsPresents old c presents → StandsForTree cur past (past_of p) → StandsForTree cur now (now_of p) → StandsForTree cur before (bit_of (not rise)) → StandsForTree cur after (bit_of rise)
    → swap ≡ (past, before) ∷ (now, after) ∷ [] → GateSoFar old cur rise p presents presents swap
gate_start old cur rise p c presents past now before after swap t g i a b d f m =
    let e : pairs_at cur ((past, before) ∷ (now, after) ∷ []) ≡ (past_of p, bit_of (not rise)) ∷ (now_of p, bit_of rise) ∷ [] =
    λ j. (a.tree j, d.tree j) ∷ (b.tree j, f.tree j) ∷ []
    in
    subst (λ (ps : List (TermId × TermId)). GateSoFar old cur rise p presents presents ps) (sym m) (record {
      grows = g;
      swap_in = (a.is_in, d.is_in, (b.is_in, f.is_in, tt));
      left_in = i.pairs_in;
      left_each = i.each;
      so_far = subst (λ (ps : List (Tree × Tree)). SwapSoFar rise p ps) (sym e) (swap_first rise p t);
      done = λ u h. or_right _ _ h;
    })

pub with_is_put : (ns : List TermNode) (ps : List (TermId × TermId)) (x : TermId × TermId) → pairs_at ns (with_pair ns ps x) ≡ put_pair (pairs_at ns ps) (tree_at (trees ns) x.0, tree_at (trees ns) x.1)
with_is_put ns ps x = at (is_first (pairs_at ns ps) (tree_at (trees ns) x.0))
  where
    at : (b : Bool) → pairs_at ns (if b then ps else ps ++ x ∷ []) ≡ (if b then pairs_at ns ps else pairs_at ns ps ++ (tree_at (trees ns) x.0, tree_at (trees ns) x.1) ∷ [])
    at true = refl
    at false = pairs_append ns ps (x ∷ [])

with_in : (ns : List TermNode) (ps : List (TermId × TermId)) (x : TermId × TermId) → PairsIn ns ps → IsIn ns x.0 → IsIn ns x.1 → PairsIn ns (with_pair ns ps x)
with_in ns ps x h a b = at (is_first (pairs_at ns ps) (tree_at (trees ns) x.0))
  where
    at : (b : Bool) → PairsIn ns (if b then ps else ps ++ x ∷ [])
    at true = h
    at false = in_append ns ps (x ∷ []) h (a, b, tt)

gate_step : (old cur : List TermNode) (rise : Bool) (p : Part) (presents left swap : List (TermId × TermId)) (x : TermId × TermId) → GateSoFar old cur rise p presents (x ∷ left) swap
    → GateSoFar old cur rise p presents left (with_pair cur swap x)
gate_step old cur rise p presents left swap x s =
    let x0 : IsIn old x.0 = s.left_in.0 in
    let x1 : IsIn old x.1 = s.left_in.1 in
    let e0 : tree_at (trees cur) x.0 ≡ tree_at (trees old) x.0 = tree_grown old cur s.grows x.0 x0 in
    let e1 : tree_at (trees cur) x.1 ≡ tree_at (trees old) x.1 = tree_grown old cur s.grows x.1 x1 in
    let (q, f0, f1) = s.left_each.0 in
    let X : Tree × Tree = (tree_at (trees cur) x.0, tree_at (trees cur) x.1) in
    let put : pairs_at cur (with_pair cur swap x) ≡ put_pair (pairs_at cur swap) X = with_is_put cur swap x in
    record {
      grows = s.grows;
      swap_in = with_in cur swap x s.swap_in (in_grown old cur s.grows x.0 x0) (in_grown old cur s.grows x.1 x1);
      left_in = s.left_in.2;
      left_each = s.left_each.1;
      so_far = subst (λ (ps : List (Tree × Tree)). SwapSoFar rise p ps) (sym put) (swap_next rise p (pairs_at cur swap) X q (e0 ∙ f0) (e1 ∙ f1) s.so_far);
      done = λ t h.
          ap (λ ps. is_first ps t || is_first (pairs_at old left) t) put
          ∙ ap (λ b. b || is_first (pairs_at old left) t) (put_has (pairs_at cur swap) X t)
          ∙ moved (is_first (pairs_at cur swap) t) (same_tree (tree_at (trees cur) x.0) t) (is_first (pairs_at old left) t)
          (ap (λ u. is_first (pairs_at cur swap) t || (if same_tree u t then true else is_first (pairs_at old left) t)) e0 ∙ s.done t h);
    }
  where
    moved : (a b c : Bool) → (a || (if b then true else c)) ≡ true → ((a || b) || c) ≡ true
    moved true b c h = refl
    moved false true c h = refl
    moved false false c h = h

take_whole : (xs : List (TermId × TermId)) → take (length xs) xs ≡ xs
take_whole [] = refl
take_whole (x ∷ xs) = ap (λ r. x ∷ r) (take_whole xs)

rest_of : (y : TermId × TermId) (r : List (TermId × TermId)) → take (length (y ∷ r) - 1) (drop 1 (y ∷ r)) ≡ r
rest_of y r = let e : length (y ∷ r) - 1 ≡ length r = omega arith in ap (λ n. take n (drop 1 (y ∷ r))) e ∙ take_whole r

pub gate_next : (old cur : List TermNode) (rise : Bool) (p : Part) (presents left swap more : List (TermId × TermId)) (d : TermId × TermId) → GateSoFar old cur rise p presents left swap → 1 ≤ length left
    → more ≡ with_pair cur swap (get_or left 0 d)
    → GateSoFar old cur rise p presents (take (length left - 1) (drop 1 left)) more
gate_next old cur rise p presents [] swap more d s h m = absurd (omega arith)
gate_next old cur rise p presents (x ∷ left) swap more d s h m =
    subst (λ (r : List (TermId × TermId)). GateSoFar old cur rise p presents r more) (sym (rest_of x left))
    (subst (λ (w : List (TermId × TermId)). GateSoFar old cur rise p presents left w) (sym m) (gate_step old cur rise p presents left swap x s))

-- the first of what is left
pub gate_first : (old cur : List TermNode) (rise : Bool) (p : Part) (presents left swap : List (TermId × TermId)) (d : TermId × TermId) → GateSoFar old cur rise p presents left swap → 1 ≤ length left
    → IsIn cur (get_or left 0 d).0
gate_first old cur rise p presents [] swap d s h = absurd (omega arith)
gate_first old cur rise p presents (x ∷ left) swap d s h = in_grown old cur s.grows x.0 s.left_in.0

pub gate_last : (old cur : List TermNode) (rise : Bool) (p : Part) (c : Tree) (presents left swap : List (TermId × TermId)) → IsPresents old c presents → length left ≡ 0
    → GateSoFar old cur rise p presents left swap → MakesGate cur rise p c swap
gate_last old cur rise p c presents (x ∷ left) swap i n s = absurd (omega arith)
gate_last old cur rise p c presents [] swap i n s = record {
  pairs_in = s.swap_in;
  swaps = s.so_far.swaps;
  gate = gate_is rise p c (pairs_at cur swap) s.so_far (λ q h. last (is_first (pairs_at cur swap) (past_of q)) (s.done (past_of q) (i.whole q h)));
}
  where
    last : (b : Bool) → (b || false) ≡ true → b ≡ true
    last true e = refl
    last false e = cc
