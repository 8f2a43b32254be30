-- Where edges join: control is there where some edge is taken, and each merged value is that of the edge that is taken.
use Rattle.std.proofs.Common.{◌≡◌, ◌⊎◌, inl, inr, List, [], ◌∷◌, Bool, true, false, ◌||◌, ◌&&◌, not, filter, refl, ap, sym, ◌∙◌, subst, Some, IsSome}
use Rattle.std.specs.Bool.{if◌then◌else◌}
use Rattle.std.specs.List.{list_any}
use Rattle.std.proofs.lemmas.Bool.{false≢true}
use Rattle.std.proofs.lemmas.Option.{same_Some, none-some}
use Rattle.std.proofs.Math.Bool.{or-false, or_assoc}
use Rattle.lh_types.specs.Types.{TypeTree, int_type, IsData}
use Rattle.lh_types.specs.Values.{Datum}
use Rattle.lh_types.specs.Apply.{apply, bit_value}
use Rattle.lh_types.specs.declared.op.Op.TheVariants.{Not, And, Or}
use Rattle.lh_ops.proofs.BooleanLemmas.{bits_are_boolean_lem}
use Rattle.lh_unit.specs.Within.{Each}
use Rattle.lh_term.specs.Tree.{Tree, operation_on, choice_of}
use Rattle.lh_term.specs.Types.{IsTyped}
use Rattle.lh_term.specs.Mean.{Valuation, IsFitting, chosen, mean}
use Rattle.lh_term.specs.SameTree.{same_tree, same_tree-is}
use Rattle.lh_term.specs.Make.{bit_of, make_operation, make_choice}
use Rattle.lh_term.specs.Conjuncts.{all_conjuncts, conjuncts_of, conjunction}
use Rattle.lh_term.proofs.Sound.{IntTerm, bit_mean, bit_typed, one_wide, operation_sound, choice_sound, not_typed}
use Rattle.lh_region_def.specs.Joins.{RegionEdge, or_any, any_taken, in_each, selector, chosen_from, merged}
use Rattle.lh_region_def.specs.Typed.{Among, IsCondition, IsOfType}
use Rattle.lh_region_def.specs.Means.{is_one}
use Rattle.lh_term.proofs.Conditions.{AllBits, one_bit, bit_one, holds, holds_with, conjuncts_are_bits, filter-bits, conjuncts_hold, and_typed, from_all}
use Rattle.lh_flat_laws.proofs.Members.{in-each}

as-bit : (t : Tree) → IsCondition t → IntTerm t 1
as-bit t c = record { typed = c.typed; type = c.type }

pub is-condition : (t : Tree) → IntTerm t 1 → IsCondition t
is-condition t c = record { typed = c.typed; type = c.type }

pub bit-condition : (b : Bool) → IsCondition (bit_of b)
bit-condition b = record { typed = bit_typed b; type = refl }

-- ---- two conditions

or_takes : (x y : Tree) → IsCondition x → IsCondition y → IsTyped (operation_on Or (x ∷ y ∷ []))
or_takes x y i j =
    let P : TypeTree → Type 0 = IsData in
    let e = i.type in
    let f = j.type in
    ((i.typed, (j.typed, tt)), record { gives = int_type 1; data_types = (subst P (sym e) one_wide, (subst P (sym f) one_wide, tt)); row = (1, (λ k. e k ∷ f k ∷ []), refl); is_data = one_wide })

pub or-condition : (x y : Tree) → IsCondition x → IsCondition y → IsCondition (make_operation Or (x ∷ y ∷ []))
or-condition x y i j = let s = operation_sound Or (x ∷ y ∷ []) (or_takes x y i j) in record { typed = s.typed; type = s.type ∙ i.type }

pub and-condition : (x y : Tree) → IsCondition x → IsCondition y → IsCondition (make_operation And (x ∷ y ∷ []))
and-condition x y i j = let s = operation_sound And (x ∷ y ∷ []) (and_typed x y (as-bit x i) (as-bit y j)) in record { typed = s.typed; type = s.type ∙ i.type }

pub not-condition : (x : Tree) → IsCondition x → IsCondition (make_operation Not (x ∷ []))
not-condition x i = let s = operation_sound Not (x ∷ []) (not_typed x i.typed i.type) in record { typed = s.typed; type = s.type ∙ i.type }

module _ (past now : Valuation) (p : IsFitting past) (n : IsFitting now) where
  -- whether a condition holds
  abbrev pub one : Tree → Bool
  one t = is_one (mean past now t)

  pub mean-bit : (t : Tree) → IsCondition t → mean past now t ≡ bit_value (one t)
  mean-bit t c = bit_one (mean past now t) (bit_mean t (as-bit t c) past now p n)

  pub or-one : (x y : Tree) → IsCondition x → IsCondition y → one (make_operation Or (x ∷ y ∷ [])) ≡ one x || one y
  or-one x y i j =
      let s = operation_sound Or (x ∷ y ∷ []) (or_takes x y i j) in
      let r = bits_are_boolean_lem.rows (one x) (one y) in
      ap is_one (s.mean past now p n ∙ (λ k. apply Or (mean-bit x i k ∷ mean-bit y j k ∷ [])) ∙ r.or_bits) ∙ one_bit (one x || one y)

  pub and-one : (x y : Tree) → IsCondition x → IsCondition y → one (make_operation And (x ∷ y ∷ [])) ≡ one x && one y
  and-one x y i j =
      let s = operation_sound And (x ∷ y ∷ []) (and_typed x y (as-bit x i) (as-bit y j)) in
      let r = bits_are_boolean_lem.rows (one x) (one y) in
      ap is_one (s.mean past now p n ∙ (λ k. apply And (mean-bit x i k ∷ mean-bit y j k ∷ [])) ∙ r.and_bits) ∙ one_bit (one x && one y)

  pub not-one : (x : Tree) → IsCondition x → one (make_operation Not (x ∷ [])) ≡ not (one x)
  not-one x i =
      let s = operation_sound Not (x ∷ []) (not_typed x i.typed i.type) in
      let r = bits_are_boolean_lem.rows (one x) (one x) in
      ap is_one (s.mean past now p n ∙ (λ k. apply Not (mean-bit x i k ∷ [])) ∙ r.not_bit) ∙ one_bit (not (one x))

-- ---- some edge is taken

abbrev pub EachCondition : List RegionEdge → Type 0
EachCondition es = Each (λ (e : RegionEdge). IsCondition e.cond) es

or_any-condition : (c : Tree) (es : List RegionEdge) → IsCondition c → EachCondition es → IsCondition (or_any c es)
or_any-condition c [] i h = i
or_any-condition c (e ∷ es) i h = or_any-condition (make_operation Or (c ∷ e.cond ∷ [])) es (or-condition c e.cond i h.0) h.1

pub any-condition : (es : List RegionEdge) → EachCondition es → IsCondition (any_taken es)
any-condition es h = or_any-condition (bit_of false) es (bit-condition false) h

module _ (past now : Valuation) (p : IsFitting past) (n : IsFitting now) where
  abbrev pub taken : RegionEdge → Bool
  taken e = one past now p n e.cond

  or_any-one : (c : Tree) (es : List RegionEdge) → IsCondition c → EachCondition es → one past now p n (or_any c es) ≡ one past now p n c || list_any taken es
  or_any-one c [] i h = sym (or-false (one past now p n c))
  or_any-one c (e ∷ es) i h =
      or_any-one (make_operation Or (c ∷ e.cond ∷ [])) es (or-condition c e.cond i h.0) h.1
      ∙ ap (λ b. b || list_any taken es) (or-one past now p n c e.cond i h.0)
      ∙ or_assoc (one past now p n c) (taken e) (list_any taken es)

  pub any-one : (es : List RegionEdge) → EachCondition es → one past now p n (any_taken es) ≡ list_any taken es
  any-one es h = or_any-one (bit_of false) es (bit-condition false) h

  pub any-taken : (es : List RegionEdge) (e : RegionEdge) → Among e es → taken e ≡ true → list_any taken es ≡ true
  any-taken [] e a h = absurd a
  any-taken (x ∷ es) e (inl q) h = rw (ap taken q ∙ h) refl
  any-taken (x ∷ es) e (inr a) h = at (taken x) (any-taken es e a h)
    where
      at : (b : Bool) → list_any taken es ≡ true → (b || list_any taken es) ≡ true
      at true g = refl
      at false g = g

  pub none-taken : (es : List RegionEdge) → ((e : RegionEdge) → Among e es → taken e ≡ false) → list_any taken es ≡ false
  none-taken [] h = refl
  none-taken (x ∷ es) h = rw (h x (inl refl)) (none-taken es (λ e a. h e (inr a)))

-- ---- selectors

pub bits-of : (t : Tree) → IsCondition t → AllBits (conjuncts_of t)
bits-of t c = conjuncts_are_bits t c.typed c.type

start-bit : IntTerm (bit_of true) 1
start-bit = record { typed = bit_typed true; type = refl }

pub selector-condition : (es : List RegionEdge) (e : RegionEdge) → IsCondition e.cond → IsCondition (selector es e)
selector-condition es e c =
    let r = from_all (bit_of true) (filter (λ c. not (in_each es c)) (conjuncts_of e.cond)) start-bit (filter-bits (λ c. not (in_each es c)) (conjuncts_of e.cond) (bits-of e.cond c)) in
    is-condition (selector es e) r.bit

module _ (past now : Valuation) (p : IsFitting past) (n : IsFitting now) where
  pub conjuncts-one : (t : Tree) → IsCondition t → holds past now (conjuncts_of t) ≡ one past now p n t
  conjuncts-one t c = holds_with past now [] (all_conjuncts t) ∙ conjuncts_hold past now p n t c.typed c.type

  -- one of terms that all hold holds
  held-one : (c : Tree) (ts : List Tree) → list_any (same_tree c) ts ≡ true → holds past now ts ≡ true → one past now p n c ≡ true
  held-one c [] a h = absurd (false≢true a)
  held-one c (t ∷ ts) a h = at (same_tree c t) refl (one past now p n t) refl a h (held-one c ts)
    where
      at : (b : Bool) → same_tree c t ≡ b → (x : Bool) → one past now p n t ≡ x → (b || list_any (same_tree c) ts) ≡ true → (x && holds past now ts) ≡ true
          → (list_any (same_tree c) ts ≡ true → holds past now ts ≡ true → one past now p n c ≡ true) → one past now p n c ≡ true
      at true q true r a h go = ap (one past now p n) (same_tree-is c t q) ∙ r
      at b q false r a h go = absurd (false≢true h)
      at false q true r a h go = go a h

  -- what stands in each edge's condition stands in that of one
  in-one : (es : List RegionEdge) (c : Tree) (e : RegionEdge) → Among e es → in_each es c ≡ true → list_any (same_tree c) (conjuncts_of e.cond) ≡ true
  in-one [] c e a h = absurd a
  in-one (x ∷ es) c e a h = at (in-one es c e) (list_any (same_tree c) (conjuncts_of x.cond)) refl h a
    where
      at : (Among e es → in_each es c ≡ true → list_any (same_tree c) (conjuncts_of e.cond) ≡ true) → (b : Bool) → list_any (same_tree c) (conjuncts_of x.cond) ≡ b → (b && in_each es c) ≡ true
          → Among e (x ∷ es) → list_any (same_tree c) (conjuncts_of e.cond) ≡ true
      at go false q h a = absurd (false≢true h)
      at go true q h (inl r) = subst (λ (y : RegionEdge). list_any (same_tree c) (conjuncts_of y.cond) ≡ true) r q
      at go true q h (inr b) = go b h

  -- terms that hold may be left out
  left-out : (f : Tree → Bool) → ((c : Tree) → f c ≡ true → one past now p n c ≡ true) → (ts : List Tree) → holds past now (filter (λ c. not (f c)) ts) ≡ holds past now ts
  left-out f go [] = refl
  left-out f go (t ∷ ts) = at (f t) refl (left-out f go ts)
    where
      at : (b : Bool) → f t ≡ b → holds past now (filter (λ c. not (f c)) ts) ≡ holds past now ts → holds past now (if not b then t ∷ filter (λ c. not (f c)) ts else filter (λ c. not (f c)) ts)
          ≡ one past now p n t && holds past now ts
      at true q ih = ih ∙ ap (λ b. b && holds past now ts) (sym (go t q))
      at false q ih = ap (λ b. one past now p n t && b) ih

  -- Where some edge is taken, the selector of an edge tells whether that one is.
  pub selector-one : (es : List RegionEdge) (e : RegionEdge) → IsCondition e.cond → (x : RegionEdge) → Among x es → IsCondition x.cond → taken past now p n x ≡ true
      → one past now p n (selector es e) ≡ taken past now p n e
  selector-one es e c x a d h =
      let f : Tree → Bool = in_each es in
      let r = from_all (bit_of true) (filter (λ c. not (f c)) (conjuncts_of e.cond)) start-bit (filter-bits (λ c. not (f c)) (conjuncts_of e.cond) (bits-of e.cond c)) in
      let all : holds past now (conjuncts_of x.cond) ≡ true = conjuncts-one x.cond d ∙ h in
      ap is_one (r.value past now p n) ∙ one_bit (holds past now (filter (λ c. not (f c)) (conjuncts_of e.cond)))
      ∙ left-out f (λ k q. held-one k (conjuncts_of x.cond) (in-one es k x a q) all) (conjuncts_of e.cond)
      ∙ conjuncts-one e.cond c

-- ---- the conjuncts that a further condition has

pub beyond-condition : (c d : Tree) → IsCondition d → IsCondition (conjunction (filter (λ k. not (list_any (same_tree k) (conjuncts_of c))) (conjuncts_of d)))
beyond-condition c d i =
    let f : Tree → Bool = λ k. not (list_any (same_tree k) (conjuncts_of c)) in
    let r = from_all (bit_of true) (filter f (conjuncts_of d)) start-bit (filter-bits f (conjuncts_of d) (bits-of d i)) in
    is-condition (conjunction (filter f (conjuncts_of d))) r.bit

module _ (past now : Valuation) (p : IsFitting past) (n : IsFitting now) where
  -- what a filter leaves holds where all do
  filter-holds : (f : Tree → Bool) (ts : List Tree) → holds past now ts ≡ true → holds past now (filter f ts) ≡ true
  filter-holds f [] h = refl
  filter-holds f (t ∷ ts) h = at (f t) (one past now p n t) refl h (filter-holds f ts)
    where
      at : (b x : Bool) → one past now p n t ≡ x → (x && holds past now ts) ≡ true → (holds past now ts ≡ true → holds past now (filter f ts) ≡ true)
          → holds past now (if b then t ∷ filter f ts else filter f ts) ≡ true
      at b false q h go = absurd (false≢true h)
      at true true q h go = rw q (go h)
      at false true q h go = go h

  -- where one of two conditions holds, the conjuncts that the second has beyond the first tell whether the second does
  pub beyond-one : (c d : Tree) → IsCondition c → IsCondition d → (one past now p n c || one past now p n d) ≡ true
      → one past now p n (conjunction (filter (λ k. not (list_any (same_tree k) (conjuncts_of c))) (conjuncts_of d))) ≡ one past now p n d
  beyond-one c d i j h =
      let f : Tree → Bool = λ k. list_any (same_tree k) (conjuncts_of c) in
      let r = from_all (bit_of true) (filter (λ k. not (f k)) (conjuncts_of d)) start-bit (filter-bits (λ k. not (f k)) (conjuncts_of d) (bits-of d j)) in
      ap is_one (r.value past now p n) ∙ one_bit (holds past now (filter (λ k. not (f k)) (conjuncts_of d))) ∙ at (one past now p n c) refl (one past now p n d) refl h
    where
      at : (x : Bool) → one past now p n c ≡ x → (y : Bool) → one past now p n d ≡ y → (x || y) ≡ true → holds past now (filter (λ k. not (list_any (same_tree k) (conjuncts_of c))) (conjuncts_of d))
          ≡ one past now p n d
      at true q y r h = left-out past now p n (λ k. list_any (same_tree k) (conjuncts_of c)) (λ k z. held-one past now p n k (conjuncts_of c) z (conjuncts-one past now p n c i ∙ q)) (conjuncts_of d)
          ∙ conjuncts-one past now p n d j
      at false q true r h = filter-holds (λ k. not (list_any (same_tree k) (conjuncts_of c))) (conjuncts_of d) (conjuncts-one past now p n d j ∙ r) ∙ sym r
      at false q false r h = absurd (false≢true h)

-- ---- merged values

choice-typed : (c f t : Tree) (ty : TypeTree) → IsCondition c → IsOfType ty f → IsOfType ty t → IsTyped (choice_of c f t)
choice-typed c f t ty i j k = (i.typed, j.typed, k.typed, (i.type, j.type ∙ sym k.type))

pub made-choice : (c f t : Tree) (ty : TypeTree) → IsCondition c → IsOfType ty f → IsOfType ty t → IsOfType ty (make_choice c f t)
made-choice c f t ty i j k = let s = choice_sound c f t (choice-typed c f t ty i j k) in record { typed = s.typed; type = s.type ∙ j.type }

-- what each edge gives is of the type
abbrev pub AllOf : TypeTree → List Tree → Type 0
AllOf ty ts = Each (IsOfType ty) ts

chosen-typed : (all : List RegionEdge) (t : Tree) (ty : TypeTree) → IsOfType ty t → (es : List RegionEdge) (ts : List Tree) → EachCondition es → AllOf ty ts → IsOfType ty (chosen_from all t es ts)
chosen-typed all t ty h [] ts c k = h
chosen-typed all t ty h (e ∷ es) [] c k = h
chosen-typed all t ty h (e ∷ es) (v ∷ vs) c k = chosen-typed all (make_choice (selector all e) t v) ty (made-choice (selector all e) t v ty (selector-condition all e c.0) h k.0) es vs c.1 k.1

pub merged-typed : (es : List RegionEdge) (ts : List Tree) (t : Tree) (ty : TypeTree) → EachCondition es → AllOf ty ts → merged es ts ≡ Some t → IsOfType ty t
merged-typed [] ts t ty c k e = absurd (none-some t e)
merged-typed (x ∷ es) [] t ty c k e = absurd (none-some t e)
merged-typed (x ∷ es) (v ∷ vs) t ty c k e = subst (IsOfType ty) (same_Some (chosen_from (x ∷ es) v es vs) t e) (chosen-typed (x ∷ es) v ty k.0 es vs c.1 k.1)

pub merged-some : (e : RegionEdge) (es : List RegionEdge) (v : Tree) (vs : List Tree) → IsSome (merged (e ∷ es) (v ∷ vs))
merged-some e es v vs = refl

module _ (past now : Valuation) (p : IsFitting past) (n : IsFitting now) where
  -- the edges with what they give: what a taken edge gives means d
  abbrev pub EachMeans : Datum → List RegionEdge → List Tree → Type 0
  EachMeans d [] [] = Unit {0}
  EachMeans d (e ∷ es) (t ∷ ts) = (taken past now p n e ≡ true → mean past now t ≡ d) × EachMeans d es ts
  EachMeans d _ _ = ⊥

  pub choose : (c f t : Tree) (ty : TypeTree) → IsCondition c → IsOfType ty f → IsOfType ty t → (b : Bool) → one past now p n c ≡ b
      → mean past now (make_choice c f t) ≡ (if b then mean past now t else mean past now f)
  choose c f t ty i j k b q =
      let s = choice_sound c f t (choice-typed c f t ty i j k) in
      s.mean past now p n ∙ ap (λ v. chosen v (mean past now f) (mean past now t)) (mean-bit past now p n c i ∙ ap bit_value q) ∙ by b
    where
      by : (b : Bool) → chosen (bit_value b) (mean past now f) (mean past now t) ≡ (if b then mean past now t else mean past now f)
      by true = refl
      by false = refl

  chosen-means : (all : List RegionEdge) (x : RegionEdge) → Among x all → IsCondition x.cond → taken past now p n x ≡ true → (d : Datum) (t : Tree) (ty : TypeTree) → IsOfType ty t
      → (es : List RegionEdge) (ts : List Tree) → EachCondition es → AllOf ty ts → EachMeans d es ts
      → (mean past now t ≡ d) ⊎ (list_any (taken past now p n) es ≡ true) → mean past now (chosen_from all t es ts) ≡ d
  chosen-means all x a c h d t ty i [] [] f k m (inl e) = e
  chosen-means all x a c h d t ty i [] [] f k m (inr e) = absurd (false≢true e)
  chosen-means all x a c h d t ty i [] (v ∷ vs) f k m e = absurd m
  chosen-means all x a c h d t ty i (y ∷ es) [] f k m e = absurd m
  chosen-means all x a c h d t ty i (y ∷ es) (v ∷ vs) f k m e =
      let s : one past now p n (selector all y) ≡ taken past now p n y = selector-one past now p n all y f.0 x a c h in
      let q = choose (selector all y) t v ty (selector-condition all y f.0) i k.0 in
      chosen-means all x a c h d (make_choice (selector all y) t v) ty (made-choice (selector all y) t v ty (selector-condition all y f.0) i k.0) es vs f.1 k.1 m.1
      (at (taken past now p n y) refl (λ b r. q b (s ∙ r)) e)
    where
      at : (b : Bool) → taken past now p n y ≡ b → ((b : Bool) → taken past now p n y ≡ b → mean past now (make_choice (selector all y) t v) ≡ (if b then mean past now v else mean past now t))
          → (mean past now t ≡ d) ⊎ ((b || list_any (taken past now p n) es) ≡ true) → (mean past now (make_choice (selector all y) t v) ≡ d) ⊎ (list_any (taken past now p n) es ≡ true)
      at true r q e = inl (q true r ∙ m.0 r)
      at false r q (inl e) = inl (q false r ∙ e)
      at false r q (inr e) = inr e

  -- The merged value is what the edge that is taken gives.
  pub merged-means : (es : List RegionEdge) (x : RegionEdge) → Among x es → taken past now p n x ≡ true → EachCondition es → (ts : List Tree) (ty : TypeTree) → AllOf ty ts → (d : Datum)
      → EachMeans d es ts → (t : Tree) → merged es ts ≡ Some t → mean past now t ≡ d
  merged-means [] x a h c ts ty k d m t e = absurd a
  merged-means (y ∷ es) x a h c [] ty k d m t e = absurd m
  merged-means (y ∷ es) x a h c (v ∷ vs) ty k d m t e =
      ap (mean past now) (sym (same_Some (chosen_from (y ∷ es) v es vs) t e))
      ∙ chosen-means (y ∷ es) x a (in-each (λ (z : RegionEdge). IsCondition z.cond) (y ∷ es) x c a) h d v ty k.0 es vs c.1 k.1 m.1 (first a)
    where
      first : Among x (y ∷ es) → (mean past now v ≡ d) ⊎ (list_any (taken past now p n) es ≡ true)
      first (inl q) = inl (m.0 (ap (taken past now p n) q ∙ h))
      first (inr b) = inr (any-taken past now p n es x b h)
