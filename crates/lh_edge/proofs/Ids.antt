-- Terms by their ids: their operands, and whether values before are in them.
use Rattle.std.proofs.Common.{◌≡◌, ℕ, zero, suc, ◌+◌, ◌-◌, ◌<◌, ◌≤◌, Bool, true, false, ◌&&◌, ◌||◌, nat_eq, nat_lt, if◌then◌else◌, List, [], ◌∷◌, ◌++◌, length, take, drop, get_or, refl, sym, ap, ◌∙◌, subst, inl, inr, arith, Some, slice_get, length-append, ltb-true}
use Rattle.std.specs.List.{list_any, filter}
use Rattle.std.specs.Cmp.{first_so, second_so}
use Rattle.std.proofs.lemmas.Bool.{and_from}
use Rattle.lh_types.specs.declared.op.Op.{Op}
use Rattle.lh_types.specs.declared.op.Op.TheVariants.{Not, And, Or, Xor, Eq, Neq}
use Rattle.lh_types.specs.Types.{int_type}
use Rattle.lh_term.specs.declared.term.TermId.{TermId}
use Rattle.lh_term.specs.declared.term.Term.{Term}
use Rattle.lh_term.specs.declared.term.Term.TheVariants.{Konst, Past, Now, Op as Applied, Choice}
use Rattle.lh_term.specs.declared.term.TermNode.{TermNode}
use Rattle.lh_term.specs.Tree.{Tree, tree_row}
use Rattle.lh_term.specs.Types.{IsTyped, type_of}
use Rattle.lh_term.specs.Arena.{tree_at, trees, trees_at, terms_in, term_tree, term_below, ids_below, IsIn, AreIn, Grows, StandsForTree}
use Rattle.lh_term.specs.Conjuncts.{conjuncts_of, conjunction, conjunction_from}
use Rattle.lh_term.specs.Make.{make_operation, bit_of}
use Rattle.lh_term.specs.Reach.{operands_of}
use Rattle.lh_types.specs.Same.{nat_eq-refl, nat_eq-is}
use Rattle.lh_term.proofs.Arenas.{ids_more}
use Rattle.lh_term.proofs.Sound.{IntTerm, operation_sound, bit_typed}
use Rattle.lh_term.proofs.Conditions.{AllBits, conjuncts_are_bits, and_typed}
use Rattle.lh_term.proofs.Swaps.{tree_grown, in_grown, grows_on, rest_of}
use Rattle.lh_edge.specs.Atoms.{contains_past, some_past, edge_part}
use Rattle.lh_edge.specs.Valuations.{connected}
use Rattle.lh_edge.specs.Reached.{TellsPassed, TellsNext}
use Rattle.lh_edge.specs.Steps.{TellPasts, values_at}
use Rattle.lh_edge.proofs.Numbers.{here_or_before}

-- ---- operands

pub op_below : (n i : ℕ) (k : Term) (op : Op) (args ys : List TermId) → k ≡ Applied op args → ys ≡ args → term_below i k ≡ true → i ≤ n → ids_below n ys ≡ true
op_below n i k op args ys e f h l = ids_more i n l ys (ap (ids_below i) f ∙ ap (term_below i) (sym e) ∙ h)

row_past : (ts : List Tree) → list_any contains_past ts ≡ some_past (tree_row ts)
row_past [] = refl
row_past (t ∷ ts) = ap (λ b. contains_past t || b) (row_past ts)

pub op_past : (ns : List TermNode) (x : TermId) (k : Term) (op : Op) (args ys : List TermId) → k ≡ Applied op args → ys ≡ args → term_tree (trees ns) k ≡ tree_at (trees ns) x
    → list_any contains_past (trees_at ns ys) ≡ contains_past (tree_at (trees ns) x)
op_past ns x k op args ys e f shown =
    ap (λ xs. list_any contains_past (trees_at ns xs)) f ∙ row_past (trees_at ns args) ∙ ap contains_past (ap (term_tree (trees ns)) (sym e) ∙ shown)

-- ---- connectives of three operands and more

many_operands : (op : Op) (a b c : Bool) (bs : List Bool) → false ≡ connected op (a ∷ b ∷ c ∷ bs)
many_operands Not a b c bs = refl
many_operands And a b c bs = refl
many_operands Or a b c bs = refl
many_operands Xor a b c bs = refl
many_operands Eq a b c bs = refl
many_operands Neq a b c bs = refl
many_operands op a b c bs = refl

pub many_connected : (op : Op) (values : ℕ → Bool) (args : List TermId) → 3 ≤ length args → false ≡ connected op (values_at values args)
many_connected op values [] h = absurd (omega arith)
many_connected op values (a ∷ []) h = absurd (omega arith)
many_connected op values (a ∷ b ∷ []) h = absurd (omega arith)
many_connected op values (a ∷ b ∷ c ∷ more) h = many_operands op (values a.0) (values b.0) (values c.0) (values_at values more)

-- ---- flags of values before

get_old : (xs : List Bool) (b : Bool) (j : ℕ) → j < length xs → slice_get (xs ++ b ∷ []) j ≡ slice_get xs j
get_old [] b j l = absurd (omega arith)
get_old (x ∷ xs) b zero l = refl
get_old (x ∷ xs) b (suc j) l = get_old xs b j (omega arith)

get_end : (xs : List Bool) (b : Bool) (j : ℕ) → j ≡ length xs → slice_get (xs ++ b ∷ []) j ≡ Some b
get_end [] b zero e = refl
get_end [] b (suc j) e = absurd (omega arith)
get_end (x ∷ xs) b zero e = absurd (omega arith)
get_end (x ∷ xs) b (suc j) e = get_end xs b j (omega arith)

-- the flags of the first i terms, which is told of these
pub record TellSoFar (ns : List TermNode) (flags : List Bool) (f : ℕ → Bool) (i : ℕ) : Type 0 where
  pub len : length flags ≡ i
  pub tell : TellPasts ns flags
  pub told : (j : ℕ) → j < i → f j ≡ contains_past (tree_at (trees ns) (record { 0 = j }))

pub tell_start : (ns : List TermNode) (flags : List Bool) (f : ℕ → Bool) → flags ≡ [] → TellSoFar ns flags f 0
tell_start ns flags f e = subst (λ (fs : List Bool). TellSoFar ns fs f 0) (sym e) (record { len = refl; tell = λ i l. absurd (omega arith); told = λ j l. absurd (omega arith) })

tells_below : (ns : List TermNode) (f : ℕ → Bool) (i : ℕ) → ((j : ℕ) → j < i → f j ≡ contains_past (tree_at (trees ns) (record { 0 = j }))) → (xs : List TermId) → ids_below i xs ≡ true
    → TellsPassed ns contains_past f xs
tells_below ns f i h [] b = tt
tells_below ns f i h (x ∷ xs) b = (h x.0 (ltb-true x.0 i (first_so (nat_lt x.0 i) (ids_below i xs) b)), tells_below ns f i h xs (second_so (nat_lt x.0 i) (ids_below i xs) b))

operands_below : (i : ℕ) (k : Term) → term_below i k ≡ true → ids_below i (operands_of k) ≡ true
operands_below i (Konst v) h = refl
operands_below i (Past p) h = refl
operands_below i (Now p) h = refl
operands_below i (Applied op args) h = h
operands_below i (Choice c f t) h =
    let r = second_so (nat_lt c.0 i) (nat_lt f.0 i && nat_lt t.0 i) h in
    and_from _ _ (first_so (nat_lt c.0 i) (nat_lt f.0 i && nat_lt t.0 i) h) (and_from _ _ (first_so (nat_lt f.0 i) (nat_lt t.0 i) r) (and_from _ _ (second_so (nat_lt f.0 i) (nat_lt t.0 i) r) refl))

-- it is told of the operands of the next term
pub tells_operands : (ns : List TermNode) (flags : List Bool) (f : ℕ → Bool) (i : ℕ) (k : Term) → slice_get (terms_in ns) i ≡ Some k → term_below i k ≡ true → TellSoFar ns flags f i
    → TellsNext operands_of ns contains_past f (record { 0 = i })
tells_operands ns flags f i k at b t = λ m is. let e : Some k ≡ Some m = sym at ∙ is in let same : k ≡ m = cc in
    tells_below ns f i t.told (operands_of m) (operands_below i m (ap (term_below i) (sym same) ∙ b))

pub tell_next : (ns : List TermNode) (flags more : List Bool) (f g : ℕ → Bool) (i : ℕ) (b : Bool) → TellSoFar ns flags f i → b ≡ contains_past (tree_at (trees ns) (record { 0 = i })) → more ≡ flags ++ b ∷ []
    → ((q : ℕ) → g q ≡ (if nat_eq i q then contains_past (tree_at (trees ns) (record { 0 = i })) else f q)) → TellSoFar ns more g (i + 1)
tell_next ns flags more f g i b t e m h = subst (λ (fs : List Bool). TellSoFar ns fs g (i + 1)) (sym m) (record {
  len = omega (arith, length-append flags (b ∷ []), t.len);
  tell = λ j l. elim (here_or_before j i (omega (arith, length-append flags (b ∷ []), t.len))) [
    | inl p ↦ get_end flags b j (p ∙ sym t.len) ∙ ap Some e ∙ ap (λ n. Some (contains_past (tree_at (trees ns) (record { 0 = n })))) (sym p)
    | inr p ↦ get_old flags b j (omega (arith, t.len)) ∙ t.tell j (omega (arith, t.len))
  ];
  told = λ j l. at j l (nat_eq i j) refl;
})
  where
    at : (j : ℕ) → j < i + 1 → (c : Bool) → nat_eq i j ≡ c → g j ≡ contains_past (tree_at (trees ns) (record { 0 = j }))
    at j l true q = h j ∙ ap (λ (c : Bool). if c then contains_past (tree_at (trees ns) (record { 0 = i })) else f j) q ∙ ap (λ n. contains_past (tree_at (trees ns) (record { 0 = n }))) (nat_eq-is i j q)
    at j l false q = elim (here_or_before j i l) [
      | inl p ↦ let w : true ≡ false = sym (ap (nat_eq i) p ∙ nat_eq-refl i) ∙ q in cc
      | inr p ↦ h j ∙ ap (λ (c : Bool). if c then contains_past (tree_at (trees ns) (record { 0 = i })) else f j) q ∙ t.told j p
    ]

-- ---- the conjunction so far

pub record Conjoining (old cur : List TermNode) (f : ℕ → Bool) (xs left : List TermId) (all : TermId) : Type 0 where
  pub grows : Grows old cur
  pub all_in : IsIn cur all
  pub bit : IntTerm (tree_at (trees cur) all) 1
  pub left_in : AreIn old left
  pub bits : AllBits (trees_at old left)
  pub tells : TellsPassed old contains_past f left
  pub same : conjunction_from (tree_at (trees cur) all) (filter contains_past (trees_at old left)) ≡ conjunction (filter contains_past (trees_at old xs))

pub conjoin_start : (old cur : List TermNode) (f : ℕ → Bool) (xs : List TermId) (all : TermId) → Grows old cur → StandsForTree cur all (bit_of true) → AreIn old xs → AllBits (trees_at old xs)
    → TellsPassed old contains_past f xs → Conjoining old cur f xs xs all
conjoin_start old cur f xs all g s i b w = record {
  grows = g;
  all_in = s.is_in;
  bit = subst (λ (t : Tree). IntTerm t 1) (sym s.tree) (record { typed = bit_typed true; type = refl });
  left_in = i;
  bits = b;
  tells = w;
  same = ap (λ t. conjunction_from t (filter contains_past (trees_at old xs))) s.tree;
}

take_whole : (xs : List TermId) → take (length xs) xs ≡ xs
take_whole [] = refl
take_whole (x ∷ xs) = ap (λ r. x ∷ r) (take_whole xs)

-- what is known of the first of what is left
pub record FirstLeft (old cur : List TermNode) (f : ℕ → Bool) (x : TermId) : Type 0 where
  pub old_in : IsIn old x
  pub x_in : IsIn cur x
  pub same : tree_at (trees cur) x ≡ tree_at (trees old) x
  pub bit : IntTerm (tree_at (trees cur) x) 1
  pub told : f x.0 ≡ contains_past (tree_at (trees old) x)

pub first_left : (old cur : List TermNode) (f : ℕ → Bool) (xs left : List TermId) (all d : TermId) → Conjoining old cur f xs left all → 1 ≤ length left
    → FirstLeft old cur f (get_or left 0 d)
first_left old cur f xs [] all d c h = absurd (omega arith)
first_left old cur f xs (x ∷ left) all d c h =
    let i : x.0 < length old = ltb-true x.0 (length old) (first_so (nat_lt x.0 (length old)) (ids_below (length old) left) c.left_in) in
    let s = tree_grown old cur c.grows x i in
    record {
      old_in = i;
      x_in = in_grown old cur c.grows x i;
      same = s;
      bit = subst (λ (u : Tree). IntTerm u 1) (sym s) c.bits.0;
      told = c.tells.0;
    }

conjoin_rest : (old cur : List TermNode) (f : ℕ → Bool) (xs left : List TermId) (x all : TermId) → Conjoining old cur f xs (x ∷ left) all
    → conjunction_from (tree_at (trees cur) all) (filter contains_past (trees_at old left)) ≡ conjunction (filter contains_past (trees_at old xs)) → Conjoining old cur f xs left all
conjoin_rest old cur f xs left x all c e = record {
  grows = c.grows;
  all_in = c.all_in;
  bit = c.bit;
  left_in = second_so (nat_lt x.0 (length old)) (ids_below (length old) left) c.left_in;
  bits = c.bits.1;
  tells = c.tells.1;
  same = e;
}

pub conjoin_skip : (old cur : List TermNode) (f : ℕ → Bool) (xs left : List TermId) (all d : TermId) → Conjoining old cur f xs left all → 1 ≤ length left
    → f (get_or left 0 d).0 ≡ false → Conjoining old cur f xs (take (length left - 1) (drop 1 left)) all
conjoin_skip old cur f xs [] all d c h n = absurd (omega arith)
conjoin_skip old cur f xs (x ∷ left) all d c h m =
    let k = first_left old cur f xs (x ∷ left) all d c h in
    let n : contains_past (tree_at (trees old) x) ≡ false = sym k.told ∙ m in
    let e : filter contains_past (trees_at old (x ∷ left)) ≡ filter contains_past (trees_at old left) = rw n refl in
    subst (λ (r : List TermId). Conjoining old cur f xs r all) (sym (rest_of x left))
    (conjoin_rest old cur f xs left x all c (ap (conjunction_from (tree_at (trees cur) all)) (sym e) ∙ c.same))

pub conjoin_next : (old cur new : List TermNode) (f : ℕ → Bool) (xs left : List TermId) (all more d : TermId) → Conjoining old cur f xs left all → 1 ≤ length left
    → f (get_or left 0 d).0 ≡ true
    → Grows cur new → StandsForTree new more (make_operation And (tree_at (trees cur) all ∷ tree_at (trees cur) (get_or left 0 d) ∷ []))
    → Conjoining old new f xs (take (length left - 1) (drop 1 left)) more
conjoin_next old cur new f xs [] all more d c h m g s = absurd (omega arith)
conjoin_next old cur new f xs (x ∷ left) all more d c h m g s =
    let k = first_left old cur f xs (x ∷ left) all d c h in
    let n : contains_past (tree_at (trees old) x) ≡ true = sym k.told ∙ m in
    let A = tree_at (trees cur) all in
    let X = tree_at (trees cur) x in
    let e : filter contains_past (trees_at old (x ∷ left)) ≡ tree_at (trees old) x ∷ filter contains_past (trees_at old left) = rw n refl in
    let o = operation_sound And (A ∷ X ∷ []) (and_typed A X c.bit k.bit) in
    let b : IntTerm (make_operation And (A ∷ X ∷ [])) 1 = record { typed = o.typed; type = o.type ∙ c.bit.type } in
    subst (λ (r : List TermId). Conjoining old new f xs r more) (sym (rest_of x left)) (record {
      grows = grows_on old cur new c.grows g;
      all_in = s.is_in;
      bit = subst (λ (u : Tree). IntTerm u 1) (sym s.tree) b;
      left_in = second_so (nat_lt x.0 (length old)) (ids_below (length old) left) c.left_in;
      bits = c.bits.1;
      tells = c.tells.1;
      same = ap (λ u. conjunction_from u (filter contains_past (trees_at old left))) (s.tree ∙ ap (λ u. make_operation And (A ∷ u ∷ [])) k.same)
          ∙ ap (conjunction_from A) (sym e) ∙ c.same;
    })

pub conjoin_end : (old cur : List TermNode) (f : ℕ → Bool) (xs left : List TermId) (all : TermId) → length left ≡ 0 → Conjoining old cur f xs left all
    → StandsForTree cur all (conjunction (filter contains_past (trees_at old xs)))
conjoin_end old cur f xs [] all n c = record { is_in = c.all_in; tree = c.same }
conjoin_end old cur f xs (x ∷ left) all n c = absurd (omega arith)

-- ---- the edge part

pub edge_bits : (ns : List TermNode) (x : TermId) (xs ys : List TermId) → IsTyped (tree_at (trees ns) x) → type_of (tree_at (trees ns) x) ≡ int_type 1
    → trees_at ns xs ≡ conjuncts_of (tree_at (trees ns) x) → ys ≡ xs → AllBits (trees_at ns ys)
edge_bits ns x xs ys h e c f = subst AllBits (sym (ap (trees_at ns) f ∙ c)) (conjuncts_are_bits (tree_at (trees ns) x) h e)

pub edge_is : (ns : List TermNode) (x : TermId) (xs ys : List TermId) → trees_at ns xs ≡ conjuncts_of (tree_at (trees ns) x) → ys ≡ xs
    → conjunction (filter contains_past (trees_at ns ys)) ≡ edge_part (tree_at (trees ns) x)
unfolding edge_part
edge_is ns x xs ys c f = ap (λ ts. conjunction (filter contains_past ts)) (ap (trees_at ns) f ∙ c)
