-- A place begins: what is told there is what its edges join.
use Rattle.std.proofs.Common.{◌≡◌, ◌≢◌, ℕ, zero, suc, ◌<◌, Bool, true, false, nat_eq, nat_lt, if◌then◌else◌, List, [], ◌∷◌, ◌++◌, length, map, Option, Some, None, slice_get, refl, ap, sym, ◌∙◌, subst, arith, ltb-true, lt-ltb}
use Rattle.std.specs.Option.{is_some, option_and_then, option_map, option_map_or}
use Rattle.std.proofs.lemmas.Bool.{cond-true, cond-false}
use Rattle.std.proofs.lemmas.Option.{slice_get_within}
use Rattle.std.proofs.Math.Nat.{ne_of_lt}
use Rattle.lh_types.specs.Types.{TypeTree}
use Rattle.lh_unit.specs.Held.{front}
use Rattle.lh_unit.specs.Typing.{or_else}
use Rattle.lh_unit.specs.Within.{Each}
use Rattle.lh_unit.proofs.Lists.{Same, same, other, same_or, nat_eq-refl, nat_eq-other, some_inj}
use Rattle.lh_types.proofs.Lists.{get_last}
use Rattle.lh_unit.proofs.Within.{Each-more}
use Rattle.lh_term.specs.Tree.{Tree}
use Rattle.lh_term.specs.Types.{IsTyped, type_of}
use Rattle.lh_term.specs.Arena.{StandsForTree}
use Rattle.lh_term.specs.declared.part.Part.{Part}
use Rattle.lh_term.specs.declared.term.TermId.{TermId}
use Rattle.lh_term.specs.declared.term.TermNode.{TermNode}
use Rattle.lh_region_def.specs.Known.{Known, known_value, known_cell, known_part, Knowledge, as_value, as_cell, value_known, cell_known, part_known}
use Rattle.lh_region_def.specs.Joins.{RegionEdge, selector, merged, on_each, merged_by, first_one, joined}
use Rattle.lh_region_def.specs.Typed.{IsCondition}
use Rattle.lh_region_joins.specs.declared.edge.Edge.{Edge}
use Rattle.lh_region_joins.specs.Joins.{AreConditions, edge_on, edges_on, after_first, chosen_by, on_conditions}
use Rattle.lh_region_joins.proofs.Conditions.{stands-condition}
use Rattle.lh_region_joins.proofs.Merged.{merged-by-conditions}
use Rattle.lh_region_places.specs.declared.state.PlaceState.{PlaceState}
use Rattle.lh_region_places.specs.Asked.{kept_by, kept_at, keeps, source_of, edges_at, sources, IsBelow, KnownTerms, AreOfOneType, Joins, IsJoin, Tells}
use Rattle.lh_region.specs.Walking.{as_term, term_known, Story, TellsKnown, AreEdges}
use Rattle.lh_region.specs.Begins.{told_by, with_place, AreOfType, CanBegin, IsBegun, StaysKnown, TellsJoined, BeginsJoined}
use Rattle.lh_region_places.proofs.PlaceLists.{kept-at, edges-of}

-- ---- what edges join, under one name

on-each-is : (f : RegionEdge → Option Tree) (xs : List RegionEdge) (vs : List Tree) → on_each f xs ≡ Some vs → map f xs ≡ map Some vs
on-each-is f [] vs e = let h : [] ≡ vs = some_inj [] vs e in ap (map Some) h
on-each-is f (x ∷ xs) vs e = by (λ ws g. on-each-is f xs ws g) (f x) refl (on_each f xs) refl e
  where
    by : ((ws : List Tree) → on_each f xs ≡ Some ws → map f xs ≡ map Some ws) → (o : Option Tree) → f x ≡ o → (r : Option (List Tree)) → on_each f xs ≡ r → front o r ≡ Some vs
        → f x ∷ map f xs ≡ map Some vs
    by rec None h None g k = absurd cc
    by rec None h (Some ws) g k = absurd cc
    by rec (Some v) h None g k = absurd cc
    by rec (Some v) h (Some ws) g k = let q : v ∷ ws ≡ vs = some_inj (v ∷ ws) vs k in let r = rec ws g in (λ i. h i ∷ r i) ∙ ap (map Some) q

-- the terms of all of them, merged
record AllGive (f : RegionEdge → Option Tree) (x : RegionEdge) (xs : List RegionEdge) (y : Tree) : Type 0 where
  pub first : Tree
  pub others : List Tree
  pub each : map f (x ∷ xs) ≡ map Some (first ∷ others)
  pub gives : y ≡ chosen_by (map (selector (on_conditions (x ∷ xs))) (on_conditions xs)) first others

merged-gives : (f : RegionEdge → Option Tree) (x : RegionEdge) (xs : List RegionEdge) (y : Tree) → merged_by f (x ∷ xs) ≡ Some y → AllGive f x xs y
merged-gives f x xs y e = by (on_each f (x ∷ xs)) refl e
  where
    by : (r : Option (List Tree)) → on_each f (x ∷ xs) ≡ r → option_and_then (merged (x ∷ xs)) r ≡ Some y → AllGive f x xs y
    by None g k = absurd cc
    by (Some []) g k = absurd cc
    by (Some (v ∷ vs)) g k =
        let law = merged-by-conditions x xs v vs in
        record { first = v; others = vs; each = on-each-is f (x ∷ xs) (v ∷ vs) g; gives = some_inj y (chosen_by (map (selector (on_conditions (x ∷ xs))) (on_conditions xs)) v vs) (sym k ∙ law) }

pub value-term : (o : Option Known) (t : Tree) → option_and_then as_value o ≡ Some t → option_and_then as_term o ≡ Some t
value-term None t e = absurd cc
value-term (Some (known_value x)) t e = e
value-term (Some (known_cell x)) t e = absurd cc
value-term (Some (known_part x)) t e = absurd cc

cell-term : (o : Option Known) (t : Tree) → option_and_then as_cell o ≡ Some t → option_and_then as_term o ≡ Some t
cell-term None t e = absurd cc
cell-term (Some (known_value x)) t e = absurd cc
cell-term (Some (known_cell x)) t e = e
cell-term (Some (known_part x)) t e = absurd cc

terms-each : (f h : RegionEdge → Option Tree) → ((x : RegionEdge) (t : Tree) → f x ≡ Some t → h x ≡ Some t) → (xs : List RegionEdge) (vs : List Tree) → map f xs ≡ map Some vs → map h xs ≡ map Some vs
terms-each f h k [] [] e = refl
terms-each f h k [] (v ∷ vs) e = absurd cc
terms-each f h k (x ∷ xs) [] e = absurd cc
terms-each f h k (x ∷ xs) (v ∷ vs) e =
    let a : f x ≡ Some v = cc in
    let b : map f xs ≡ map Some vs = cc in
    let c = k x v a in
    let d = terms-each f h k xs vs b in
    λ i. c i ∷ d i

abbrev term_on : List ℕ → RegionEdge → Option Tree
term_on n x = term_known x.known n

all-terms : (n : List ℕ) (f : RegionEdge → Option Tree) → ((x : RegionEdge) (t : Tree) → f x ≡ Some t → term_on n x ≡ Some t) → (x : RegionEdge) (xs : List RegionEdge) (y z : Tree) → y ≡ z
    → AllGive f x xs y → AllGive (term_on n) x xs z
all-terms n f k x xs y z e g = record { first = g.first; others = g.others; each = terms-each f (term_on n) k (x ∷ xs) (g.first ∷ g.others) g.each; gives = sym e ∙ g.gives }

joined-gives : (n : List ℕ) (x : RegionEdge) (xs : List RegionEdge) (z : Tree) → term_known (joined (x ∷ xs)) n ≡ Some z → AllGive (term_on n) x xs z
joined-gives n x xs z e = by (merged_by (λ d. value_known d.known n) (x ∷ xs)) refl (merged_by (λ d. cell_known d.known n) (x ∷ xs)) refl
    (option_and_then first_one (on_each (λ d. part_known d.known n) (x ∷ xs))) e
  where
    by : (a : Option Tree) → merged_by (λ d. value_known d.known n) (x ∷ xs) ≡ a → (b : Option Tree) → merged_by (λ d. cell_known d.known n) (x ∷ xs) ≡ b → (c : Option Part) →
        option_and_then as_term (or_else (option_map known_value a) (or_else (option_map known_cell b) (option_map known_part c))) ≡ Some z → AllGive (term_on n) x xs z
    by (Some y) h b g c k = all-terms n (λ d. value_known d.known n) (λ d t q. value-term (d.known n) t q) x xs y z (some_inj y z k) (merged-gives (λ d. value_known d.known n) x xs y h)
    by None h (Some y) g c k = all-terms n (λ d. cell_known d.known n) (λ d t q. cell-term (d.known n) t q) x xs y z (some_inj y z k) (merged-gives (λ d. cell_known d.known n) x xs y g)
    by None h None g None k = absurd cc
    by None h None g (Some p) k = absurd cc

-- ---- terms of one type

typed-each : (ty : TypeTree) (n : List ℕ) (xs : List RegionEdge) (vs : List Tree) → AreOfType ty n xs → map (term_on n) xs ≡ map Some vs → Each (λ (y : Tree). IsTyped y × (type_of y ≡ ty)) vs
typed-each ty n [] [] h e = tt
typed-each ty n [] (v ∷ vs) h e = absurd cc
typed-each ty n (x ∷ xs) [] h e = tt
typed-each ty n (x ∷ xs) (v ∷ vs) h e =
    let a : term_on n x ≡ Some v = cc in
    let b : map (term_on n) xs ≡ map Some vs = cc in
    (h.0 v a, typed-each ty n xs vs h.1 b)

alike-others : (ty u : TypeTree) (vs : List Tree) → u ≡ ty → Each (λ (y : Tree). IsTyped y × (type_of y ≡ ty)) vs → Each (λ (y : Tree). IsTyped y × (u ≡ type_of y)) vs
alike-others ty u [] e h = tt
alike-others ty u (v ∷ vs) e h = ((h.0.0, e ∙ sym h.0.1), alike-others ty u vs e h.1)

pub are-alike : (ty : TypeTree) (v : Tree) (vs : List Tree) → Each (λ (y : Tree). IsTyped y × (type_of y ≡ ty)) (v ∷ vs) → AreOfOneType v vs
are-alike ty v vs h = record { typed = h.0.0; others = alike-others ty (type_of v) vs h.0.1 h.1 }

-- ---- edges by ids

pub edges-on : (ns : List TermNode) (s : Story) (es : List Edge) (xs : List RegionEdge) → AreEdges ns s es xs → edges_on ns es ≡ on_conditions xs
edges-on ns s [] [] h = refl
edges-on ns s [] (x ∷ xs) h = absurd h
edges-on ns s (e ∷ es) [] h = absurd h
edges-on ns s (e ∷ es) (x ∷ xs) h = let a = h.0.cond.tree in let b = edges-on ns s es xs h.1 in λ i. edge_on (a i) ∷ b i

pub edges-below : (ns : List TermNode) (s : Story) (es : List Edge) (xs : List RegionEdge) → AreEdges ns s es xs → Each (IsBelow s.places) (map source_of es)
edges-below ns s [] [] h = tt
edges-below ns s [] (x ∷ xs) h = absurd h
edges-below ns s (e ∷ es) [] h = absurd h
edges-below ns s (e ∷ es) (x ∷ xs) h = (h.0.within, edges-below ns s es xs h.1)

pub edges-conditions : (ns : List TermNode) (s : Story) (es : List Edge) (xs : List RegionEdge) → AreEdges ns s es xs → Each (λ (x : RegionEdge). IsCondition x.cond) xs → AreConditions ns es
edges-conditions ns s [] [] h c = tt
edges-conditions ns s [] (x ∷ xs) h c = absurd h
edges-conditions ns s (e ∷ es) [] h c = absurd h
edges-conditions ns s (e ∷ es) (x ∷ xs) h c = (stands-condition ns e.cond x.cond h.0.cond c.0, edges-conditions ns s es xs h.1 c.1)

edges-told : (ns : List TermNode) (s : Story) (v : ℕ) → v < s.values → (es : List Edge) (xs : List RegionEdge) → AreEdges ns s es xs
    → map (λ (e : Edge). s.told e.from v) es ≡ map (term_on (s.naming.value_name v)) xs
edges-told ns s v l [] [] h = refl
edges-told ns s v l [] (x ∷ xs) h = absurd h
edges-told ns s v l (e ∷ es) [] h = absurd h
edges-told ns s v l (e ∷ es) (x ∷ xs) h = let a = h.0.told v l in let b = edges-told ns s v l es xs h.1 in λ i. a i ∷ b i

-- ---- one more place

push-other : (ps : List PlaceState) (p : PlaceState) (i : ℕ) → i ≢ length ps → slice_get (ps ++ p ∷ []) i ≡ slice_get ps i
push-other [] p zero n = absurd (n refl)
push-other [] p (suc i) n = refl
push-other (y ∷ ps) p zero n = refl
push-other (y ∷ ps) p (suc i) n = push-other ps p i (λ e. n (ap suc e))

push-length : (ps : List PlaceState) (p : PlaceState) → length (ps ++ p ∷ []) ≡ suc (length ps)
push-length [] p = refl
push-length (y ∷ ps) p = ap suc (push-length ps p)

sources-within : (ps : List PlaceState) (i : ℕ) → Each (IsBelow i) (sources ps i) → Each (IsBelow (length ps)) (sources ps i)
sources-within ps i h = by (slice_get ps i) refl
  where
    by : (o : Option PlaceState) → slice_get ps i ≡ o → Each (IsBelow (length ps)) (sources ps i)
    by None e = subst (Each (IsBelow (length ps))) (sym (ap (λ (o : Option PlaceState). map source_of (option_map_or (λ (p : PlaceState). p.edges.items) o [])) e)) tt
    by (Some p) e = let l = slice_get_within ps i p e in Each-more (IsBelow i) (IsBelow (length ps)) (sources ps i) (λ j k. omega (arith, l, k)) h

module _ (s : Story) (k : Knowledge) where
  abbrev told_now : KnownTerms
  told_now = (with_place s k).told

  pub told-old : (i v : ℕ) → i ≢ s.places → told_now i v ≡ s.told i v
  told-old i v n = cond-false (nat_eq i s.places) (told_by s k v) (s.told i v) (nat_eq-other i s.places n)

  pub told-new : (i v : ℕ) → i ≡ s.places → told_now i v ≡ told_by s k v
  told-new i v e = cond-true (nat_eq i s.places) (told_by s k v) (s.told i v) (subst (λ (j : ℕ). nat_eq i j ≡ true) e (nat_eq-refl i))

  pub told-within : (v : ℕ) → v < s.values → told_by s k v ≡ term_known k (s.naming.value_name v)
  told-within v l = cond-true (nat_lt v s.values) (term_known k (s.naming.value_name v)) None (lt-ltb v s.values l)

  pub told-some : (v : ℕ) (x : Tree) → told_by s k v ≡ Some x → (v < s.values) × (term_known k (s.naming.value_name v) ≡ Some x)
  told-some v x e = by (nat_lt v s.values) refl e
    where
      by : (b : Bool) → nat_lt v s.values ≡ b → (if b then term_known k (s.naming.value_name v) else None) ≡ Some x → (v < s.values) × (term_known k (s.naming.value_name v) ≡ Some x)
      by true h g = (ltb-true v s.values h, g)
      by false h g = absurd cc

  told-sources : (v : ℕ) (es : List Edge) → Each (IsBelow s.places) (map source_of es) → map (λ (e : Edge). told_now e.from v) es ≡ map (λ (e : Edge). s.told e.from v) es
  told-sources v [] h = refl
  told-sources v (e ∷ es) h = let a = told-old e.from v (ne_of_lt {a = e.from} {b = s.places} h.0) in let b = told-sources v es h.1 in λ i. a i ∷ b i

  joins-old : (ns : List TermNode) (v : ℕ) (es : List Edge) (x : Tree) → Each (IsBelow s.places) (map source_of es) → Joins ns s.told v es x → Joins ns told_now v es x
  joins-old ns v es x h j = record { first = j.first; others = j.others; each = told-sources v es h ∙ j.each; alike = j.alike; gives = j.gives }

  known-new : TellsKnown (with_place s k) s.places k
  known-new v l = told-new s.places v refl ∙ told-within v l

  known-old : StaysKnown s (with_place s k)
  known-old i j l t v m = told-old i v (ne_of_lt {a = i} {b = s.places} l) ∙ t v m

-- what the edges give at the new place
joins-new : (ns : List TermNode) (s : Story) (es : List Edge) (x : RegionEdge) (xs : List RegionEdge) → AreEdges ns s es (x ∷ xs) → CanBegin s (x ∷ xs) → (v : ℕ) (z : Tree)
    → told_by s (joined (x ∷ xs)) v ≡ Some z → Joins ns (with_place s (joined (x ∷ xs))).told v es z
joins-new ns s es x xs h c v z e =
    let k = joined (x ∷ xs) in
    let n = s.naming.value_name v in
    let (l, f) = told-some s k v z e in
    let g = joined-gives n x xs z f in
    let (ty, are) = c.typed v l in
    let on = edges-on ns s es (x ∷ xs) h in
    record {
      first = g.first;
      others = g.others;
      each = told-sources s k v es (edges-below ns s es (x ∷ xs) h) ∙ edges-told ns s v l es (x ∷ xs) h ∙ g.each;
      alike = are-alike ty g.first g.others (typed-each ty n (x ∷ xs) (g.first ∷ g.others) are g.each);
      gives = g.gives ∙ ap (λ (ds : List RegionEdge). chosen_by (map (selector ds) (after_first ds)) g.first g.others) (sym on);
    }

-- where a place stands among the places with one more
data Begun (s : Story) (ps qs : List PlaceState) (p : PlaceState) (i : ℕ) : Type 0 where
  new_place : i ≡ s.places → slice_get qs i ≡ Some p → Begun s ps qs p i
  old_place : i ≢ s.places → slice_get qs i ≡ slice_get ps i → Begun s ps qs p i

begun-at : (s : Story) (ps qs : List PlaceState) (p : PlaceState) → s.places ≡ length ps → qs ≡ ps ++ p ∷ [] → (i : ℕ) → Begun s ps qs p i
begun-at s ps qs p len e i = by (same_or i s.places)
  where
    by : Same i s.places → Begun s ps qs p i
    by (same h) = new_place h (ap (λ (xs : List PlaceState). slice_get xs i) e ∙ ap (slice_get (ps ++ p ∷ [])) (h ∙ len) ∙ get_last ps p)
    by (other n) = old_place n (ap (λ (xs : List PlaceState). slice_get xs i) e ∙ push-other ps p i (λ h. n (h ∙ sym len)))

module _ (ns : List TermNode) (ps qs : List PlaceState) (block : ℕ) (s : Story) (es : List Edge) (x : RegionEdge) (xs : List RegionEdge) (b : IsBegun ps block es qs) (t : Tells ns ps s.told)
    (len : s.places ≡ length ps) (h : AreEdges ns s es (x ∷ xs)) (c : CanBegin s (x ∷ xs)) where
  abbrev known_now : Knowledge
  known_now = joined (x ∷ xs)

  abbrev told_here : KnownTerms
  told_here = (with_place s known_now).told

  abbrev Where : ℕ → Type 0
  Where i = Begun s ps qs b.new i

  at : (i : ℕ) → Where i
  at i = begun-at s ps qs b.new len b.put i

  new-edges : (i : ℕ) → slice_get qs i ≡ Some b.new → edges_at qs i ≡ es
  new-edges i e = edges-of qs i b.new e ∙ b.edges_are

  old-edges : (i : ℕ) → slice_get qs i ≡ slice_get ps i → edges_at qs i ≡ edges_at ps i
  old-edges i e = ap (λ (o : Option PlaceState). option_map_or (λ (p : PlaceState). p.edges.items) o []) e

  old-kept : (i v : ℕ) → slice_get qs i ≡ slice_get ps i → kept_at qs v i ≡ kept_at ps v i
  old-kept i v e = ap (λ (o : Option PlaceState). option_and_then (kept_by v) o) e

  earlier-now : (i : ℕ) → Where i → Each (IsBelow i) (sources qs i)
  earlier-now i (new_place e g) = subst (λ (us : List Edge). Each (IsBelow i) (map source_of us)) (sym (new-edges i g))
      (subst (λ (j : ℕ). Each (IsBelow j) (map source_of es)) (sym e) (edges-below ns s es (x ∷ xs) h))
  earlier-now i (old_place n g) = subst (λ (us : List Edge). Each (IsBelow i) (map source_of us)) (sym (old-edges i g)) (t.earlier i)

  new-join : IsJoin ns b.new
  new-join = record {
    conds = subst (AreConditions ns) (sym b.edges_are) (edges-conditions ns s es (x ∷ xs) h c.conds);
    selectors = λ ts e. let q : None ≡ Some ts = sym b.no_selectors ∙ e in absurd cc;
  }

  places-now : (i : ℕ) (p : PlaceState) → slice_get qs i ≡ Some p → Where i → IsJoin ns p
  places-now i p e (new_place f g) = let q : b.new ≡ p = some_inj b.new p (sym g ∙ e) in subst (IsJoin ns) q new-join
  places-now i p e (old_place n g) = t.places i p (sym g ∙ e)

  kept-now : (i v : ℕ) (y : TermId) → kept_at qs v i ≡ Some y → Where i → (z : Tree) × (told_here i v ≡ Some z) × StandsForTree ns y z
  kept-now i v y e (new_place f g) = let q : None ≡ Some y = sym (b.kept v) ∙ sym (kept-at qs v i b.new g) ∙ e in absurd cc
  kept-now i v y e (old_place n g) = let (z, f, st) = t.kept i v y (sym (old-kept i v g) ∙ e) in (z, told-old s known_now i v n ∙ f, st)

  joins-now : (i v : ℕ) (z : Tree) → keeps qs v i ≡ false → told_here i v ≡ Some z → Where i → Joins ns told_here v (edges_at qs i) z
  joins-now i v z e f (new_place m g) = subst (λ (us : List Edge). Joins ns told_here v us z) (sym (new-edges i g)) (joins-new ns s es x xs h c v z (sym (told-new s known_now i v m) ∙ f))
  joins-now i v z e f (old_place n g) =
      let j = t.joins i v z (ap is_some (sym (old-kept i v g)) ∙ e) (sym (told-old s known_now i v n) ∙ f) in
      subst (λ (us : List Edge). Joins ns told_here v us z) (sym (old-edges i g))
      (joins-old s known_now ns v (edges_at ps i) z (subst (λ (m : ℕ). Each (IsBelow m) (sources ps i)) (sym len) (sources-within ps i (t.earlier i))) j)

  tells-begun : TellsJoined ns qs s (x ∷ xs)
  tells-begun = record {
    tells = record {
      earlier = λ i. earlier-now i (at i);
      places = λ i p e. places-now i p e (at i);
      kept = λ i v y e. kept-now i v y e (at i);
      joins = λ i v z e f. joins-now i v z e f (at i);
    };
    known = known-new s known_now;
    before = known-old s known_now;
    count = let q : length qs ≡ suc (length ps) = ap length b.put ∙ push-length ps b.new in omega (arith, len, q);
  }

pub begins-joined : (ps qs : List PlaceState) (block : ℕ) (es : List Edge) → IsBegun ps block es qs → BeginsJoined ps es qs
begins-joined ps qs block es b ns s x xs t len h c = tells-begun ns ps qs block s es x xs b t len h c

-- a place that was made so
pub begun-with : (ps qs : List PlaceState) (block : ℕ) (es : List Edge) (p : PlaceState) → qs ≡ ps ++ p ∷ [] → p.block ≡ block → p.edges.items ≡ es → p.selectors ≡ None
    → ((v : ℕ) → kept_by v p ≡ None) → IsBegun ps block es qs
begun-with ps qs block es p e f g h k = record { new = p; put = e; block_is = f; edges_are = g; no_selectors = h; kept = k }
