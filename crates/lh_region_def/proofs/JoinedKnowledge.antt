-- Where edges join, what is known is typed, what is there is known, and it is what is held by the edge that is taken.
use Rattle.std.proofs.Common.{◌≡◌, inl, inr, ℕ, List, [], ◌∷◌, Bool, true, false, ◌&&◌, Option, Some, None, IsSome, is_some, unwrap_or, refl, ap, sym, ◌∙◌, subst}
use Rattle.std.specs.Bool.{if◌then◌else◌}
use Rattle.std.specs.Option.{option_and_then, option_map}
use Rattle.std.proofs.lemmas.Bool.{false≢true}
use Rattle.std.proofs.lemmas.Option.{same_Some, none-some}
use Rattle.lh_types.specs.Types.{TypeTree, time_type, int_type, void_type, array_type, tuple_type, signal_type, pointer_type}
use Rattle.lh_types.specs.Values.{Datum}
use Rattle.lh_unit.specs.Contents.{BlockText, UnitText}
use Rattle.lh_unit.specs.Typing.{value_type, is_value_type, or_else, pointed}
use Rattle.lh_unit.specs.Held.{front}
use Rattle.lh_unit.specs.Within.{Each}
use Rattle.lh_eval_laws.proofs.OperandsFound.{some-of}
use Rattle.lh_term.specs.Tree.{Tree, constant, choice_of}
use Rattle.lh_term.specs.Make.{is_bit, make_not, make_choice}
use Rattle.lh_term.specs.SameTree.{same_tree, same_tree-refl}
use Rattle.lh_term.specs.Mean.{Valuation, IsFitting, mean}
use Rattle.lh_term.specs.declared.part.Part.{Part}
use Rattle.lh_region_def.specs.Known.{Known, known_value, known_cell, known_part, Knowledge, as_value, as_cell, as_part, value_known, cell_known, part_known}
use Rattle.lh_region_def.specs.Joins.{RegionEdge, selector, chosen_from, on_each, merged, merged_by, first_one, joined}
use Rattle.lh_region_def.specs.Typed.{Among, known_type, IsTypedKnown, KnowsTyped, KnowsThere, IsOfType, JoinEdge}
use Rattle.lh_flat_laws.proofs.Members.{in-each}
use Rattle.lh_region_def.proofs.MergedValues.{EachCondition, AllOf, EachMeans, taken, merged-typed, merged-means}
use Rattle.lh_region_def.proofs.Operations.{value-known, cell-known, part-known}

-- ---- what each edge gives

-- each edge gives its item
abbrev pub GiveEach : {A : Type 0} → (RegionEdge → Option A) → List RegionEdge → List A → Type 0
GiveEach f [] [] = Unit {0}
GiveEach f (e ∷ es) (x ∷ xs) = (f e ≡ Some x) × GiveEach f es xs
GiveEach f _ _ = ⊥

pub given-each : {A : Type 0} (f : RegionEdge → Option A) (es : List RegionEdge) (xs : List A) → on_each f es ≡ Some xs → GiveEach f es xs
given-each f [] xs q = subst (GiveEach f []) (same_Some [] xs q) tt
given-each f (e ∷ es) xs q = by (given-each f es) (f e) refl (on_each f es) refl q
  where
    by : ((ys : List _) → on_each f es ≡ Some ys → GiveEach f es ys) → (a : Option _) → f e ≡ a → (b : Option (List _)) → on_each f es ≡ b → front a b ≡ Some xs → GiveEach f (e ∷ es) xs
    by go None p b g h = absurd (none-some xs h)
    by go (Some x) p None g h = absurd (none-some xs h)
    by go (Some x) p (Some ys) g h = subst (GiveEach f (e ∷ es)) (same_Some (x ∷ ys) xs h) (p, go ys g)

pub each-given : {A : Type 0} (f : RegionEdge → Option A) (es : List RegionEdge) → ((e : RegionEdge) → Among e es → IsSome (f e)) → (xs : List A) × (on_each f es ≡ Some xs) × GiveEach f es xs
each-given f [] go = ([], refl, tt)
each-given f (e ∷ es) go =
    let x = some-of (f e) (go e (inl refl)) in
    let r = each-given f es (λ y a. go y (inr a)) in
    (x.0 ∷ r.0, ap (λ o. front o (on_each f es)) x.1 ∙ ap (front (Some x.0)) r.1, (x.1, r.2))

of-each : (f : RegionEdge → Option Tree) (ty : TypeTree) (es : List RegionEdge) (ts : List Tree) → GiveEach f es ts → ((e : RegionEdge) → Among e es → (t : Tree) → f e ≡ Some t → IsOfType ty t)
    → AllOf ty ts
of-each f ty [] [] g go = tt
of-each f ty [] (t ∷ ts) g go = absurd g
of-each f ty (e ∷ es) [] g go = absurd g
of-each f ty (e ∷ es) (t ∷ ts) g go = (go e (inl refl) t g.0, of-each f ty es ts g.1 (λ x a. go x (inr a)))

pub merged-there : (f : RegionEdge → Option Tree) (e : RegionEdge) (es : List RegionEdge) → ((x : RegionEdge) → Among x (e ∷ es) → IsSome (f x)) → IsSome (merged_by f (e ∷ es))
merged-there f e es go = by (each-given f (e ∷ es) go)
  where
    by : (ts : List Tree) × (on_each f (e ∷ es) ≡ Some ts) × GiveEach f (e ∷ es) ts → IsSome (merged_by f (e ∷ es))
    by ([], q, g) = absurd g
    by (t ∷ ts, q, g) = ap is_some (ap (option_and_then (merged (e ∷ es))) q)

-- what the edges give, merged
pub record MergedOf (f : RegionEdge → Option Tree) (es : List RegionEdge) (t : Tree) : Type 0 where
  pub trees : List Tree
  pub each : GiveEach f es trees
  pub is : merged es trees ≡ Some t

pub merged-of : (f : RegionEdge → Option Tree) (es : List RegionEdge) (t : Tree) → merged_by f es ≡ Some t → MergedOf f es t
merged-of f es t q = by (on_each f es) refl q
  where
    by : (o : Option (List Tree)) → on_each f es ≡ o → option_and_then (merged es) o ≡ Some t → MergedOf f es t
    by None p g = absurd (none-some t g)
    by (Some ts) p g = record { trees = ts; each = given-each f es ts p; is = g }

pub merged-of-type : (f : RegionEdge → Option Tree) (es : List RegionEdge) (t : Tree) (ty : TypeTree) → EachCondition es → ((e : RegionEdge) → Among e es → (x : Tree) → f e ≡ Some x → IsOfType ty x)
    → merged_by f es ≡ Some t → IsOfType ty t
merged-of-type f es t ty c go q = let m = merged-of f es t q in merged-typed es m.trees t ty c (of-each f ty es m.trees m.each go) m.is

module _ (past now : Valuation) (p : IsFitting past) (n : IsFitting now) where
  means-each : (f : RegionEdge → Option Tree) (d : Datum) (es : List RegionEdge) (ts : List Tree) → GiveEach f es ts
      → ((e : RegionEdge) → Among e es → taken past now p n e ≡ true → (t : Tree) → f e ≡ Some t → mean past now t ≡ d) → EachMeans past now p n d es ts
  means-each f d [] [] g go = tt
  means-each f d [] (t ∷ ts) g go = absurd g
  means-each f d (e ∷ es) [] g go = absurd g
  means-each f d (e ∷ es) (t ∷ ts) g go = (λ h. go e (inl refl) h t g.0, means-each f d es ts g.1 (λ x a. go x (inr a)))

  pub merged-by-means : (f : RegionEdge → Option Tree) (es : List RegionEdge) (x : RegionEdge) → Among x es → taken past now p n x ≡ true → EachCondition es → (ty : TypeTree)
      → ((e : RegionEdge) → Among e es → (t : Tree) → f e ≡ Some t → IsOfType ty t)
      → (d : Datum) → ((e : RegionEdge) → Among e es → taken past now p n e ≡ true → (t : Tree) → f e ≡ Some t → mean past now t ≡ d) → (t : Tree) → merged_by f es ≡ Some t → mean past now t ≡ d
  merged-by-means f es x a h c ty go d gives t q =
      let m = merged-of f es t q in
      merged-means past now p n es x a h c m.trees ty (of-each f ty es m.trees m.each go) d (means-each f d es m.trees m.each gives) t m.is

-- where each edge gives one term, that is what they give merged
AllAre : Tree → List Tree → Type 0
AllAre x ts = Each (λ (t : Tree). t ≡ x) ts

pub choice-same : (c x : Tree) → make_choice c x x ≡ x
choice-same c x = by (is_bit 0 c) (is_bit 1 c) (same_tree x x) (same_tree-refl x)
  where
    by : (a b d : Bool) → d ≡ true → (if a then x else if b then x else if d then x else if is_bit 0 x && is_bit 1 x then c else if is_bit 1 x && is_bit 0 x then make_not c else choice_of c x x) ≡ x
    by true b d e = refl
    by false true d e = refl
    by false false true e = refl
    by false false false e = absurd (false≢true e)

chosen-same : (x : Tree) (all es : List RegionEdge) (ts : List Tree) → AllAre x ts → chosen_from all x es ts ≡ x
unfolding AllAre
chosen-same x all [] ts h = refl
chosen-same x all (e ∷ es) [] h = refl
chosen-same x all (e ∷ es) (t ∷ ts) h = ap (λ y. chosen_from all y es ts) (ap (make_choice (selector all e) x) h.0 ∙ choice-same (selector all e) x) ∙ chosen-same x all es ts h.1

merged-same : (x : Tree) (es : List RegionEdge) (ts : List Tree) → AllAre x ts → (t : Tree) → merged es ts ≡ Some t → t ≡ x
unfolding AllAre
merged-same x [] ts h t q = absurd (none-some t q)
merged-same x (e ∷ es) [] h t q = absurd (none-some t q)
merged-same x (e ∷ es) (y ∷ ts) h t q = sym (same_Some (chosen_from (e ∷ es) y es ts) t q) ∙ ap (λ z. chosen_from (e ∷ es) z es ts) h.0 ∙ chosen-same x (e ∷ es) es ts h.1

all-same : (x : Tree) (f : RegionEdge → Option Tree) (es : List RegionEdge) (ts : List Tree) → GiveEach f es ts → ((e : RegionEdge) → Among e es → (t : Tree) → f e ≡ Some t → t ≡ x) → AllAre x ts
unfolding AllAre
all-same x f [] [] g go = tt
all-same x f [] (t ∷ ts) g go = absurd g
all-same x f (e ∷ es) [] g go = absurd g
all-same x f (e ∷ es) (t ∷ ts) g go = (go e (inl refl) t g.0, all-same x f es ts g.1 (λ y a. go y (inr a)))

-- ---- what is known of a name

abbrev pub value_on : List ℕ → RegionEdge → Option Tree
value_on n e = value_known e.known n

abbrev pub cell_on : List ℕ → RegionEdge → Option Tree
cell_on n e = cell_known e.known n

abbrev pub part_on : List ℕ → RegionEdge → Option Part
part_on n e = part_known e.known n

-- the three cases of what is known where edges join
pub data JoinCase (es : List RegionEdge) (n : List ℕ) : Known → Type 0 where
  of_value : (t : Tree) → merged_by (value_on n) es ≡ Some t → JoinCase es n (known_value t)
  of_cell : (t : Tree) → merged_by (cell_on n) es ≡ Some t → JoinCase es n (known_cell t)
  of_part : (p : Part) (ps : List Part) → on_each (part_on n) es ≡ Some ps → first_one ps ≡ Some p → JoinCase es n (known_part p)

pub join-case : (es : List RegionEdge) (n : List ℕ) (x : Known) → joined es n ≡ Some x → JoinCase es n x
join-case es n x q = by (merged_by (value_on n) es) refl (merged_by (cell_on n) es) refl (on_each (part_on n) es) refl q
  where
    part : (o : Option (List Part)) → on_each (part_on n) es ≡ o → option_map known_part (option_and_then first_one o) ≡ Some x → JoinCase es n x
    part None g h = absurd (none-some x h)
    part (Some []) g h = absurd (none-some x h)
    part (Some (r ∷ rs)) g h = subst (JoinCase es n) (same_Some (known_part r) x h) (of_part r (r ∷ rs) g refl)

    by : (a : Option Tree) → merged_by (value_on n) es ≡ a → (b : Option Tree) → merged_by (cell_on n) es ≡ b → (o : Option (List Part)) → on_each (part_on n) es ≡ o
        → or_else (option_map known_value a) (or_else (option_map known_cell b) (option_map known_part (option_and_then first_one o))) ≡ Some x → JoinCase es n x
    by (Some t) e b f o g h = subst (JoinCase es n) (same_Some (known_value t) x h) (of_value t e)
    by None e (Some t) f o g h = subst (JoinCase es n) (same_Some (known_cell t) x h) (of_cell t f)
    by None e None f o g h = part o g h

pub known-by-value : (k : Knowledge) (n : List ℕ) (t : Tree) → value_known k n ≡ Some t → k n ≡ Some (known_value t)
known-by-value k n t q = by (k n) q
  where
    by : (o : Option Known) → option_and_then as_value o ≡ Some t → o ≡ Some (known_value t)
    by None g = absurd (none-some t g)
    by (Some (known_value x)) g = ap (λ y. Some (known_value y)) (same_Some x t g)
    by (Some (known_cell x)) g = absurd (none-some t g)
    by (Some (known_part x)) g = absurd (none-some t g)

pub known-by-cell : (k : Knowledge) (n : List ℕ) (t : Tree) → cell_known k n ≡ Some t → k n ≡ Some (known_cell t)
known-by-cell k n t q = by (k n) q
  where
    by : (o : Option Known) → option_and_then as_cell o ≡ Some t → o ≡ Some (known_cell t)
    by None g = absurd (none-some t g)
    by (Some (known_cell x)) g = ap (λ y. Some (known_cell y)) (same_Some x t g)
    by (Some (known_value x)) g = absurd (none-some t g)
    by (Some (known_part x)) g = absurd (none-some t g)

pub known-by-part : (k : Knowledge) (n : List ℕ) (t : Part) → part_known k n ≡ Some t → k n ≡ Some (known_part t)
known-by-part k n t q = by (k n) q
  where
    by : (o : Option Known) → option_and_then as_part o ≡ Some t → o ≡ Some (known_part t)
    by None g = absurd (none-some t g)
    by (Some (known_part x)) g = ap (λ y. Some (known_part y)) (same_Some x t g)
    by (Some (known_value x)) g = absurd (none-some t g)
    by (Some (known_cell x)) g = absurd (none-some t g)

or-second : {A : Type 0} (a b : Option A) → IsSome b → IsSome (or_else a b)
or-second None b h = h
or-second (Some x) b h = refl

-- the type that a pointer points to
pub pointee : TypeTree → TypeTree
pointee t = unwrap_or (pointed t) void_type

pub first-among : (es : List RegionEdge) (ps : List Part) (p : Part) (f : RegionEdge → Option Part) → GiveEach f es ps → first_one ps ≡ Some p → (e : RegionEdge) × Among e es × (f e ≡ Some p)
first-among [] [] p f g q = absurd (none-some p q)
first-among [] (r ∷ rs) p f g q = absurd g
first-among (e ∷ es) [] p f g q = absurd g
first-among (e ∷ es) (r ∷ rs) p f g q = (e, inl refl, g.0 ∙ q)

module _ (u : UnitText) (b : BlockText) (e0 : RegionEdge) (more : List RegionEdge) (j : Each (JoinEdge u b) (e0 ∷ more)) where
  abbrev es : List RegionEdge
  es = e0 ∷ more

  pub join-at : (e : RegionEdge) → Among e es → JoinEdge u b e
  join-at e a = in-each (JoinEdge u b) es e j a

  pub join-conditions : EachCondition es
  join-conditions = conditions es j
    where
      conditions : (xs : List RegionEdge) → Each (JoinEdge u b) xs → EachCondition xs
      conditions [] h = tt
      conditions (x ∷ xs) h = (h.0.cond, conditions xs h.1)

  pub value-type-of : (n : List ℕ) (ty : TypeTree) → value_type u n ≡ Some ty → (e : RegionEdge) → Among e es → (t : Tree) → value_on n e ≡ Some t → IsOfType ty t
  value-type-of n ty v e a t q = let h = (join-at e a).known n (known_value t) ty (known-by-value e.known n t q) v in record { typed = h.0.0; type = h.1 }

  pub cell-type-of : (n : List ℕ) (ty : TypeTree) → value_type u n ≡ Some ty → (e : RegionEdge) → Among e es → (t : Tree) → cell_on n e ≡ Some t → IsOfType (pointee ty) t
  unfolding pointee
  cell-type-of n ty v e a t q = let h = (join-at e a).known n (known_cell t) ty (known-by-cell e.known n t q) v in record { typed = h.0; type = ap pointee h.1 }

  -- a cell's name is that of a pointer
  cell-pointer : (n : List ℕ) (ty : TypeTree) → value_type u n ≡ Some ty → (t : Tree) → cell_on n e0 ≡ Some t → pointer_type (pointee ty) ≡ ty
  unfolding pointee
  cell-pointer n ty v t q = let h = (j.0).known n (known_cell t) ty (known-by-cell e0.known n t q) v in ap (λ x. pointer_type (pointee x)) (sym h.1) ∙ h.1

  join-typed-case : (n : List ℕ) (x : Known) (ty : TypeTree) → value_type u n ≡ Some ty → JoinCase es n x → IsTypedKnown u n x × (known_type x ≡ ty)
  join-typed-case n _ ty v (of_value t q) = let h = merged-of-type (value_on n) es t ty join-conditions (value-type-of n ty v) q in
      let m = merged-of (value_on n) es t q in (
        (
          h.typed,
          λ d i. merged-same (constant d) es m.trees
              (all-same (constant d) (value_on n) es m.trees m.each (λ e a x y. ((join-at e a).known n (known_value x) ty (known-by-value e.known n x y) v).0.1 d i)) t m.is,
        ),
        h.type,
      )
  join-typed-case n _ ty v (of_cell t q) =
      let h = merged-of-type (cell_on n) es t (pointee ty) join-conditions (cell-type-of n ty v) q in
      let m = merged-of (cell_on n) es t q in
      (h.typed, ap pointer_type h.type ∙ pointer m.trees m.each)
    where
      pointer : (ts : List Tree) → GiveEach (cell_on n) es ts → pointer_type (pointee ty) ≡ ty
      pointer [] g = absurd g
      pointer (t ∷ ts) g = cell-pointer n ty v t g.0
  join-typed-case n _ ty v (of_part p ps q f) =
      let r = first-among es ps p (part_on n) (given-each (part_on n) es ps q) f in
      (join-at r.0 r.1).known n (known_part p) ty (known-by-part r.0.known n p r.2) v

  pub joined-typed : KnowsTyped u (joined es)
  joined-typed n x ty q v = join-typed-case n x ty v (join-case es n x q)

  pub joined-there : KnowsThere u b [] (joined es)
  joined-there n ty v w h = by ty v w
    where
      values : (ty : TypeTree) → value_type u n ≡ Some ty → is_value_type ty ≡ true → (ty ≡ void_type → ⊥) → IsSome (joined es n)
      values ty v i w =
          let m = some-of (merged_by (value_on n) es)
          (merged-there (value_on n) e0 more (λ e a. let r = value-known u e.known (join-at e a).known n ty v i ((join-at e a).there n ty v w h) in ap is_some r.1)) in
          ap is_some (ap (λ o. or_else (option_map known_value o)
          (or_else (option_map known_cell (merged_by (cell_on n) es)) (option_map known_part (option_and_then first_one (on_each (part_on n) es))))) m.1)

      cells : (ty : TypeTree) → value_type u n ≡ Some (pointer_type ty) → (pointer_type ty ≡ void_type → ⊥) → IsSome (joined es n)
      cells ty v w =
          let m = some-of (merged_by (cell_on n) es)
          (merged-there (cell_on n) e0 more (λ e a. let r = cell-known u e.known (join-at e a).known n ty v ((join-at e a).there n (pointer_type ty) v w h) in ap is_some r.1)) in
          or-second (option_map known_value (merged_by (value_on n) es)) _
          (ap is_some (ap (λ o. or_else (option_map known_cell o) (option_map known_part (option_and_then first_one (on_each (part_on n) es)))) m.1))

      parts : (ty : TypeTree) → value_type u n ≡ Some (signal_type ty) → (signal_type ty ≡ void_type → ⊥) → IsSome (joined es n)
      parts ty v w =
          let m = each-given (part_on n) es (λ e a. let r = part-known u e.known (join-at e a).known n ty v ((join-at e a).there n (signal_type ty) v w h) in ap is_some r.1) in
          or-second (option_map known_value (merged_by (value_on n) es)) _
          (or-second (option_map known_cell (merged_by (cell_on n) es)) _ (first m.0 m.1 m.2))
        where
          first : (ps : List Part) → on_each (part_on n) es ≡ Some ps → GiveEach (part_on n) es ps → IsSome (option_map known_part (option_and_then first_one (on_each (part_on n) es)))
          first [] q g = absurd g
          first (p ∷ ps) q g = ap is_some (ap (λ o. option_map known_part (option_and_then first_one o)) q)

      by : (ty : TypeTree) → value_type u n ≡ Some ty → (ty ≡ void_type → ⊥) → IsSome (joined es n)
      by (int_type m) v w = values (int_type m) v refl w
      by (array_type m t) v w = values (array_type m t) v refl w
      by (tuple_type ts) v w = values (tuple_type ts) v refl w
      by time_type v w = values time_type v refl w
      by (pointer_type t) v w = cells t v w
      by (signal_type t) v w = parts t v w
      by void_type v w = absurd (w refl)
