-- What is told stays told as terms are made, as selectors are kept and as values are merged.
use Rattle.std.proofs.Common.{◌≡◌, ℕ, suc, ◌-◌, ◌≤◌, Bool, true, false, ◌||◌, nat_eq, List, [], ◌∷◌, length, map, take, drop, get_or, Option, Some, None, Result, Ok, Err, slice_get, refl, ap, sym, ◌∙◌, subst, arith}
use Rattle.std.specs.HashMap.{get}
use Rattle.std.specs.List.{list_all}
use Rattle.std.specs.Result.{OnOk}
use Rattle.std.proofs.lemmas.List.{take_all}
use Rattle.std.specs.Option.{is_some, option_and_then, option_map_or}
use Rattle.lh_unit.specs.Within.{Each}
use Rattle.lh_unit.proofs.Lists.{Same, same, other, same_or, nat_eq-refl, nat_eq-other, nat_eq-is}
use Rattle.lh_term.specs.Tree.{Tree}
use Rattle.lh_term.specs.Types.{IsTyped, type_of}
use Rattle.lh_term.specs.Make.{make_choice}
use Rattle.lh_term.specs.Arena.{trees, tree_at, trees_at, IsIn, StandsForTree, Grows}
use Rattle.lh_term.specs.declared.term.TermId.{TermId}
use Rattle.lh_term.specs.declared.term.TermNode.{TermNode}
use Rattle.lh_types.specs.Same.{and_both}
use Rattle.lh_term.proofs.Arenas.{map_length}
use Rattle.lh_term.proofs.Swaps.{tree_grown, in_grown, stands_grown}
use Rattle.lh_region_def.specs.Joins.{RegionEdge, selector}
use Rattle.lh_region_joins.specs.declared.edge.Edge.{Edge}
use Rattle.lh_region_def.specs.Typed.{IsCondition}
use Rattle.lh_region_def.proofs.MergedValues.{selector-condition}
use Rattle.lh_region_def.proofs.JoinedKnowledge.{choice-same}
use Rattle.lh_region_joins.specs.Joins.{IsConditionAt, AreConditions, edge_on, edges_on, after_first, AreTerms, chosen_by, CanMerge}
use Rattle.lh_region_joins.proofs.Conditions.{conditions-grown, edges-grown, stands-condition}
use Rattle.lh_region_joins.proofs.Selectors.{terms-grown}
use Rattle.lh_region_places.specs.declared.state.PlaceState.{PlaceState}
use Rattle.lh_region_places.specs.declared.asking.Gap.{Gap}
use Rattle.lh_region_places.specs.Asked.{kept_by, kept_at, keeps, source_of, edges_at, sources, IsBelow, KnownTerms, selectors_on, AreOfOneType, Joins, IsJoin, Tells, SamePlaces, IsWith, IsReplaced, IsWithAt, IsSelected, IsSelectedAt, IsKeptAlso, AreKept, CanJoin, IsJoined}
use Rattle.lh_region_places.specs.Lacking.{AreTold, TellSame, CanFill, StillToldBy}
use Rattle.lh_region_places.proofs.PlaceLists.{kept-at, edges-of, replaced-here, replaced-other, replaced-same, same-edges, same-sources, Kept, new_one, old_one, kept-with, with-same}

-- ---- an arena that grows

pub selectors-grown : (ns ms : List TermNode) (es : List Edge) → Grows ns ms → AreConditions ns es → selectors_on ms es ≡ selectors_on ns es
selectors-grown ns ms es g c = ap (λ (xs : List RegionEdge). map (selector xs) (after_first xs)) (edges-grown ns ms es g c)

pub join-grown : (ns ms : List TermNode) (p : PlaceState) → Grows ns ms → IsJoin ns p → IsJoin ms p
join-grown ns ms p g j = record {
  conds = conditions-grown ns ms p.edges.items g j.conds;
  selectors = λ ts e. subst (AreTerms ms ts) (sym (selectors-grown ns ms p.edges.items g j.conds)) (terms-grown ns ms ts (selectors_on ns p.edges.items) g (j.selectors ts e));
}

pub conds-at : (ns : List TermNode) (ps : List PlaceState) → ((i : ℕ) (p : PlaceState) → slice_get ps i ≡ Some p → IsJoin ns p) → (i : ℕ) → AreConditions ns (edges_at ps i)
conds-at ns ps h i = by (slice_get ps i) refl
  where
    by : (o : Option PlaceState) → slice_get ps i ≡ o → AreConditions ns (edges_at ps i)
    by None e = subst (AreConditions ns) (sym (ap (λ (o : Option PlaceState). option_map_or (λ (x : PlaceState). x.edges.items) o []) e)) tt
    by (Some p) e = subst (AreConditions ns) (sym (edges-of ps i p e)) (h i p e).conds

joins-grown : (ns ms : List TermNode) (told : KnownTerms) (v : ℕ) (es : List Edge) (x : Tree) → Grows ns ms → AreConditions ns es → Joins ns told v es x → Joins ms told v es x
joins-grown ns ms told v es x g c j = record {
  first = j.first;
  others = j.others;
  each = j.each;
  alike = j.alike;
  gives = j.gives ∙ ap (λ (ss : List Tree). chosen_by ss j.first j.others) (sym (selectors-grown ns ms es g c));
}

pub tells-grown : (ns ms : List TermNode) (ps : List PlaceState) (told : KnownTerms) → Grows ns ms → Tells ns ps told → Tells ms ps told
tells-grown ns ms ps told g t = record {
  earlier = t.earlier;
  places = λ i p e. join-grown ns ms p g (t.places i p e);
  kept = λ i v k e. let (x, h, s) = t.kept i v k e in (x, h, stands_grown ns ms g k x s);
  joins = λ i v x e h. joins-grown ns ms told v (edges_at ps i) x g (conds-at ns ps t.places i) (t.joins i v x e h);
}

-- ---- selectors that are kept

selected-kept : (ms : List TermNode) (ps qs : List PlaceState) (i : ℕ) → IsSelectedAt ms ps i qs → (w j : ℕ) → kept_at qs w j ≡ kept_at ps w j
selected-kept ms ps qs i a w j = by (same_or i j)
  where
    here : i ≡ j → kept_at qs w j ≡ kept_at ps w j
    here e =
        kept-at qs w j a.new (subst (λ (k : ℕ). slice_get qs k ≡ Some a.new) e (replaced-here ps i a.old a.new qs a.replaced))
        ∙ (λ k. get nat_eq (a.selected.known k) w)
        ∙ sym (kept-at ps w j a.old (subst (λ (k : ℕ). slice_get ps k ≡ Some a.old) e a.replaced.was))

    by : Same i j → kept_at qs w j ≡ kept_at ps w j
    by (same e) = here e
    by (other n) = ap (λ (o : Option PlaceState). option_and_then (kept_by w) o) (replaced-other ps i j a.old a.new qs a.replaced n)

pub selected-same : (ms : List TermNode) (ps qs : List PlaceState) (i : ℕ) → IsSelectedAt ms ps i qs → SamePlaces ps qs
selected-same ms ps qs i a = replaced-same ps i a.old a.new qs a.replaced (λ k. (a.selected.block k, (a.selected.edges k).items))

-- the places, one of which is replaced by one that is as good
pub places-replaced : (ms : List TermNode) (ps qs : List PlaceState) (i : ℕ) (p q : PlaceState) → IsReplaced ps i p q qs → IsJoin ms q → ((j : ℕ) (x : PlaceState) → slice_get ps j ≡ Some x → IsJoin ms x)
    → (j : ℕ) (x : PlaceState) → slice_get qs j ≡ Some x → IsJoin ms x
places-replaced ms ps qs i p q r h f j x e = by (same_or i j)
  where
    here : i ≡ j → IsJoin ms x
    here k = let g : Some q ≡ Some x = sym (replaced-here ps i p q qs r) ∙ subst (λ (m : ℕ). slice_get qs m ≡ Some x) (sym k) e in let y : q ≡ x = cc in subst (IsJoin ms) y h

    by : Same i j → IsJoin ms x
    by (same k) = here k
    by (other n) = f j x (sym (replaced-other ps i j p q qs r n) ∙ e)

pub tells-selected : (ms : List TermNode) (ps qs : List PlaceState) (i : ℕ) (told : KnownTerms) → IsSelectedAt ms ps i qs → Tells ms ps told → Tells ms qs told
tells-selected ms ps qs i told a t =
    let k = selected-kept ms ps qs i a in
    let s = selected-same ms ps qs i a in
    record {
      earlier = λ j. subst (Each (IsBelow j)) (sym (same-sources ps qs s j)) (t.earlier j);
      places = places-replaced ms ps qs i a.old a.new a.replaced a.selected.join t.places;
      kept = λ j v x e. t.kept j v x (sym (k v j) ∙ e);
      joins = λ j v x e h. subst (λ (es : List Edge). Joins ms told v es x) (sym (same-edges ps qs s j)) (t.joins j v x (ap is_some (sym (k v j)) ∙ e) h);
    }

-- ---- a term that is kept

pub with-join : (ms : List TermNode) (p q : PlaceState) (v : ℕ) (t : TermId) → IsWith p v t q → IsJoin ms p → IsJoin ms q
with-join ms p q v t w j = record {
  conds = subst (AreConditions ms) (λ k. (sym w.edges k).items) j.conds;
  selectors = λ ts e. subst (λ (es : List Edge). AreTerms ms ts (selectors_on ms es)) (λ k. (sym w.edges k).items) (j.selectors ts (sym w.selectors ∙ e));
}

pub tells-with : (ms : List TermNode) (ps qs : List PlaceState) (i v : ℕ) (k : TermId) (told : KnownTerms) (x : Tree) → IsWithAt ps i v k qs → told i v ≡ Some x → StandsForTree ms k x → Tells ms ps told
    → Tells ms qs told
tells-with ms ps qs i v k told x a h s t =
    let m = with-same ps qs v i k a in
    record {
      earlier = λ j. subst (Each (IsBelow j)) (sym (same-sources ps qs m j)) (t.earlier j);
      places = places-replaced ms ps qs i a.old a.new a.replaced (with-join ms a.old a.new v k a.with_term (t.places i a.old a.replaced.was)) t.places;
      kept = λ j w y e. kept j w y e (kept-with ps qs v i k a w j);
      joins = λ j w y e f. subst (λ (es : List Edge). Joins ms told w es y) (sym (same-edges ps qs m j)) (t.joins j w y (lacks j w e (kept-with ps qs v i k a w j)) f);
    }
  where
    kept : (j w : ℕ) (y : TermId) → kept_at qs w j ≡ Some y → Kept ps qs v i k w j → (z : Tree) × (told j w ≡ Some z) × StandsForTree ms y z
    kept j w y e (new_one p q r) =
        let f : Some k ≡ Some y = sym r ∙ e in
        let g : k ≡ y = cc in
        (x, (λ l. told (sym p l) (sym q l)) ∙ h, subst (λ (u : TermId). StandsForTree ms u x) g s)
    kept j w y e (old_one r n) = t.kept j w y (sym r ∙ e)

    lacks : (j w : ℕ) → keeps qs w j ≡ false → Kept ps qs v i k w j → keeps ps w j ≡ false
    lacks j w e (new_one p q r) = let f : true ≡ false = sym (ap is_some r) ∙ e in absurd cc
    lacks j w e (old_one r n) = ap is_some (sym r) ∙ e

pub kept-also : (ps qs : List PlaceState) (i v : ℕ) (k : TermId) → IsWithAt ps i v k qs → IsKeptAlso ps v i qs
kept-also ps qs i v k a j = by (same_or i j) (kept-with ps qs v i k a v j)
  where
    by : Same i j → Kept ps qs v i k v j → keeps qs v j ≡ (nat_eq i j || keeps ps v j)
    by (same e) (new_one p q r) = ap is_some r ∙ sym (ap (λ (b : Bool). b || keeps ps v j) (subst (λ (m : ℕ). nat_eq i m ≡ true) e (nat_eq-refl i)))
    by (same e) (old_one r n) = absurd (n refl e)
    by (other n) (new_one p q r) = absurd (n p)
    by (other n) (old_one r m) = ap is_some r ∙ sym (ap (λ (b : Bool). b || keeps ps v j) (nat_eq-other i j n))

-- ---- what is told of the sources

pub some-of : {X : Type 0} (o : Option X) → is_some o ≡ true → (x : X) × (o ≡ Some x)
some-of (Some x) e = (x, refl)
some-of None e = absurd cc

told-sources : (told : KnownTerms) (v : ℕ) (es : List Edge) (ys : List Tree) → map (λ (e : Edge). told e.from v) es ≡ map Some ys → AreTold told v (map source_of es)
told-sources told v [] ys h = tt
told-sources told v (e ∷ es) [] h = absurd cc
told-sources told v (e ∷ es) (y ∷ ys) h =
    let a : told e.from v ≡ Some y = cc in
    let b : map (λ (x : Edge). told x.from v) es ≡ map Some ys = cc in
    (ap is_some a, told-sources told v es ys b)

-- where something is told of a value that a place lacks, so it is where edges to the place come from
pub told-passes : (ns : List TermNode) (ps : List PlaceState) (told : KnownTerms) (v : ℕ) → Tells ns ps told → (i : ℕ) → is_some (told i v) ≡ true → keeps ps v i ≡ false → AreTold told v (sources ps i)
told-passes ns ps told v t i h e = let (x, f) = some-of (told i v) h in let j = t.joins i v x e f in told-sources told v (edges_at ps i) (j.first ∷ j.others) j.each

-- ---- the values of a gap

made-of-kept : (ns : List TermNode) (ps : List PlaceState) (told : KnownTerms) (v : ℕ) → Tells ns ps told → (is : List ℕ) (ts : List TermId) (ys : List Tree) → AreKept ps v is ts
    → map (λ (i : ℕ). told i v) is ≡ map Some ys → AreTerms ns ts ys
made-of-kept ns ps told v t [] [] [] k h = tt
made-of-kept ns ps told v t [] [] (y ∷ ys) k h = absurd cc
made-of-kept ns ps told v t [] (a ∷ ts) ys k h = absurd cc
made-of-kept ns ps told v t (i ∷ is) [] ys k h = absurd cc
made-of-kept ns ps told v t (i ∷ is) (a ∷ ts) [] k h = absurd cc
made-of-kept ns ps told v t (i ∷ is) (a ∷ ts) (y ∷ ys) k h =
    let p : Some a ≡ kept_at ps v i = cc in
    let q : told i v ≡ Some y = cc in
    let (x, f, s) = t.kept i v a (sym p) in
    let g : Some x ≡ Some y = sym f ∙ q in
    let z : x ≡ y = cc in
    let ks : map Some ts ≡ map (kept_at ps v) is = cc in
    let hs : map (λ (i : ℕ). told i v) is ≡ map Some ys = cc in
    (subst (StandsForTree ns a) z s, made-of-kept ns ps told v t is ts ys ks hs)

told-from : (told : KnownTerms) (v : ℕ) (es : List Edge) → map (λ (i : ℕ). told i v) (map source_of es) ≡ map (λ (e : Edge). told e.from v) es
told-from told v [] = refl
told-from told v (e ∷ es) = let h = told-from told v es in λ i. told e.from v ∷ h i

pub made-trees : (ns : List TermNode) (ts : List TermId) (xs : List Tree) → AreTerms ns ts xs → trees_at ns ts ≡ xs
made-trees ns [] [] m = refl
made-trees ns [] (x ∷ xs) m = absurd m
made-trees ns (t ∷ ts) [] m = absurd m
made-trees ns (t ∷ ts) (x ∷ xs) m = let a = m.0.tree in let b = made-trees ns ts xs m.1 in λ i. a i ∷ b i

pub made-in : (ns : List TermNode) (ts : List TermId) (xs : List Tree) → AreTerms ns ts xs → Each (IsIn ns) ts
made-in ns [] [] m = tt
made-in ns [] (x ∷ xs) m = absurd m
made-in ns (t ∷ ts) [] m = absurd m
made-in ns (t ∷ ts) (x ∷ xs) m = (m.0.is_in, made-in ns ts xs m.1)

pub can-join : (ns : List TermNode) (p : PlaceState) (ts : List TermId) (x : Tree) (xs : List Tree) → AreTerms ns ts (x ∷ xs) → AreOfOneType x xs → length ts ≡ length p.edges.items → CanJoin ns p ts
can-join ns p [] x xs m a l = absurd m
can-join ns p (t ∷ ts) x xs m a l = record {
  first = t;
  others = ts;
  are = refl;
  long = l;
  first_in = m.0.is_in;
  others_in = made-in ns ts xs m.1;
  alike = subst (λ (y : Tree). AreOfOneType y (trees_at ns ts)) (sym m.0.tree) (subst (AreOfOneType x) (sym (made-trees ns ts xs m.1)) a);
}

kept-length : (ps : List PlaceState) (v : ℕ) (is : List ℕ) (ts : List TermId) → AreKept ps v is ts → length ts ≡ length is
kept-length ps v is ts k = let S : TermId → Option TermId = Some in sym (map_length S ts) ∙ ap length k ∙ map_length (kept_at ps v) is

same-long : (ps : List PlaceState) (told : KnownTerms) (v : ℕ) (g : Gap) → TellSame ps told v g → length g.from.items ≡ length (edges_at ps g.place)
same-long ps told v g s =
    let f : ℕ → Option Tree = λ (i : ℕ). told i v in
    sym (map_length f g.from.items) ∙ ap length (sym s) ∙ map_length f (sources ps g.place) ∙ map_length source_of (edges_at ps g.place)

-- ---- a gap is filled

module _ (ns : List TermNode) (ps : List PlaceState) (v : ℕ) (g : Gap) (ts : List TermId) (lacks : keeps ps v g.place ≡ false) (kept : AreKept ps v g.from.items ts) where
  made-by : (told : KnownTerms) → Tells ns ps told → TellSame ps told v g → (ys : List Tree) → map (λ (e : Edge). told e.from v) (edges_at ps g.place) ≡ map Some ys → AreTerms ns ts ys
  made-by told tells alike ys h = made-of-kept ns ps told v tells g.from.items ts ys kept (sym alike ∙ told-from told v (edges_at ps g.place) ∙ h)

  pub can-merge : CanFill ns ps v g → (p : PlaceState) → slice_get ps g.place ≡ Some p → IsJoin ns p × CanJoin ns p ts
  can-merge a p e =
      let (x, f) = some-of (a.told g.place v) a.there in
      let j = a.tells.joins g.place v x lacks f in
      let long = kept-length ps v g.from.items ts kept ∙ same-long ps a.told v g a.same ∙ ap length (edges-of ps g.place p e) in
      (a.tells.places g.place p e, can-join ns p ts j.first j.others (made-by a.told a.tells a.same (j.first ∷ j.others) j.each) j.alike long)

  pub merge-still : (ms : List TermNode) (qs rs : List PlaceState) (t : TermId) → Grows ns ms → IsSelectedAt ms ps g.place qs → IsJoined ns (edges_at ps g.place) ts ms t → IsWithAt qs g.place v t rs
      → StillToldBy ns ps ms rs v g
  merge-still ms qs rs t w s i a told tells there alike =
      let (x, f) = some-of (told g.place v) there in
      let j = tells.joins g.place v x lacks f in
      let m = made-by told tells alike (j.first ∷ j.others) j.each in
      let h = i j.first j.others (made-trees ns ts (j.first ∷ j.others) m) in
      tells-with ms qs rs g.place v t told x a f (subst (StandsForTree ms t) (sym j.gives) h) (tells-selected ms ps qs g.place told s (tells-grown ns ms ps told w tells))

pub merge-also : (ms : List TermNode) (ps qs rs : List PlaceState) (v at : ℕ) (t : TermId) → IsSelectedAt ms ps at qs → IsWithAt qs at v t rs → IsKeptAlso ps v at rs
merge-also ms ps qs rs v at t s w j = kept-also qs rs at v t w j ∙ ap (λ (o : Option TermId). nat_eq at j || is_some o) (selected-kept ms ps qs at s v j)

pub merge-same : (ms : List TermNode) (ps qs rs : List PlaceState) (v at : ℕ) (t : TermId) → IsSelectedAt ms ps at qs → IsWithAt qs at v t rs → SamePlaces ps rs
merge-same ms ps qs rs v at t s w = with-same qs rs v at t w ∙ selected-same ms ps qs at s

-- ---- values that are the same

pub same-chosen : (ss : List Tree) (x : Tree) (xs : List Tree) → Each (λ (y : Tree). y ≡ x) xs → chosen_by ss x xs ≡ x
same-chosen [] x xs h = refl
same-chosen (s ∷ ss) x [] h = refl
same-chosen (s ∷ ss) x (y ∷ ys) h = ap (λ (z : Tree). chosen_by ss z ys) (ap (make_choice s x) h.0 ∙ choice-same s x) ∙ same-chosen ss x ys h.1

same-trees : (ns : List TermNode) (t : TermId) (ts : List TermId) → list_all (λ (u : TermId). nat_eq t.0 u.0) ts ≡ true → Each (λ (y : Tree). y ≡ tree_at (trees ns) t) (trees_at ns ts)
same-trees ns t [] e = tt
same-trees ns t (u ∷ ts) e =
    let f = and_both (nat_eq t.0 u.0) (list_all (λ (u : TermId). nat_eq t.0 u.0) ts) e in
    let k : t.0 ≡ u.0 = nat_eq-is t.0 u.0 f.0 in
    (λ i. tree_at (trees ns) (record { 0 = sym k i }), same-trees ns t ts f.1)

-- one term for all the edges is what they give
pub same-joined : (ns : List TermNode) (es : List Edge) (vs : List TermId) (t : TermId) (ts : List TermId) → vs ≡ t ∷ ts → IsIn ns t → list_all (λ (u : TermId). nat_eq t.0 u.0) ts ≡ true
    → IsJoined ns es vs ns t
same-joined ns es vs t ts e i a x xs h =
    let g : tree_at (trees ns) t ∷ trees_at ns ts ≡ x ∷ xs = ap (trees_at ns) (sym e) ∙ h in
    let y : tree_at (trees ns) t ≡ x = cc in
    let ys : trees_at ns ts ≡ xs = cc in
    record {
      is_in = i;
      tree = y ∙ sym (same-chosen (selectors_on ns es) x xs
          (subst (Each (λ (z : Tree). z ≡ x)) ys (subst (λ (w : Tree). Each (λ (z : Tree). z ≡ w) (trees_at ns ts)) y (same-trees ns t ts a))));
    }

-- ---- selectors of conditions

edge-conditions : (ns : List TermNode) (all : List RegionEdge) (es : List Edge) → AreConditions ns es → Each (λ (s : Tree). IsCondition s) (map (selector all) (edges_on ns es))
edge-conditions ns all [] c = tt
edge-conditions ns all (e ∷ es) c = (selector-condition all (edge_on (tree_at (trees ns) e.cond)) c.0.cond, edge-conditions ns all es c.1)

pub selectors-conditions : (ns : List TermNode) (es : List Edge) → AreConditions ns es → Each (λ (s : Tree). IsCondition s) (selectors_on ns es)
selectors-conditions ns [] c = tt
selectors-conditions ns (e ∷ es) c = edge-conditions ns (edges_on ns (e ∷ es)) es c.1

conditions-made : (ns : List TermNode) (ts : List TermId) (xs : List Tree) → AreTerms ns ts xs → Each (λ (s : Tree). IsCondition s) xs → Each (IsConditionAt ns) ts
conditions-made ns [] [] m h = tt
conditions-made ns [] (x ∷ xs) m h = absurd m
conditions-made ns (t ∷ ts) [] m h = absurd m
conditions-made ns (t ∷ ts) (x ∷ xs) m h = (stands-condition ns t x m.0 h.0, conditions-made ns ts xs m.1 h.1)

pub made-length : (ns : List TermNode) (ts : List TermId) (xs : List Tree) → AreTerms ns ts xs → length ts ≡ length xs
made-length ns [] [] m = refl
made-length ns [] (x ∷ xs) m = absurd m
made-length ns (t ∷ ts) [] m = absurd m
made-length ns (t ∷ ts) (x ∷ xs) m = ap suc (made-length ns ts xs m.1)

later-length : (ns : List TermNode) (es : List Edge) (n : ℕ) → suc n ≡ length es → length (selectors_on ns es) ≡ n
later-length ns [] n e = absurd (omega (arith, e))
later-length ns (x ∷ es) n e = map_length (selector (edges_on ns (x ∷ es))) (edges_on ns es) ∙ map_length (λ (e : Edge). edge_on (tree_at (trees ns) e.cond)) es ∙ omega (arith, e)

each-alike : (ns : List TermNode) (x : Tree) (ts : List TermId) → Each (IsIn ns) ts → Each (λ (y : Tree). IsTyped y × (type_of x ≡ type_of y)) (trees_at ns ts)
    → Each (λ (v : TermId). IsIn ns v × IsTyped (tree_at (trees ns) v) × (type_of x ≡ type_of (tree_at (trees ns) v))) ts
each-alike ns x [] i h = tt
each-alike ns x (t ∷ ts) i h = ((i.0, h.0.0, h.0.1), each-alike ns x ts i.1 h.1)

in-grown : (ns ms : List TermNode) (ts : List TermId) → Grows ns ms → Each (IsIn ns) ts → Each (IsIn ms) ts
in-grown ns ms [] g h = tt
in-grown ns ms (t ∷ ts) g h = (in_grown ns ms g t h.0, in-grown ns ms ts g h.1)

trees-grown : (ns ms : List TermNode) (ts : List TermId) → Grows ns ms → Each (IsIn ns) ts → trees_at ms ts ≡ trees_at ns ts
trees-grown ns ms [] g h = refl
trees-grown ns ms (t ∷ ts) g h = let a = tree_grown ns ms g t h.0 in let b = trees-grown ns ms ts g h.1 in λ i. a i ∷ b i

-- the values of the edges can be merged by the selectors that the place keeps
module _ (ns ms : List TermNode) (p q : PlaceState) (vs : List TermId) (g : Grows ns ms) (c : CanJoin ns p vs) (s : IsSelected ms p q) (ss : List TermId) (k : q.selectors ≡ Some ss) (t : TermId)
    (ts : List TermId) (e : vs ≡ t ∷ ts) where
  first-is : c.first ≡ t
  first-is = let f : c.first ∷ c.others ≡ t ∷ ts = sym c.are ∙ e in cc

  others-are : c.others ≡ ts
  others-are = let f : c.first ∷ c.others ≡ t ∷ ts = sym c.are ∙ e in cc

  t-in : IsIn ns t
  t-in = subst (IsIn ns) first-is c.first_in

  ts-in : Each (IsIn ns) ts
  ts-in = subst (Each (IsIn ns)) others-are c.others_in

  edges-are : q.edges.items ≡ p.edges.items
  edges-are = λ i. (s.edges i).items

  alike-now : AreOfOneType (tree_at (trees ms) t) (trees_at ms ts)
  alike-now =
      subst (λ (x : Tree). AreOfOneType x (trees_at ms ts)) (sym (tree_grown ns ms g t t-in))
      (subst (AreOfOneType (tree_at (trees ns) t)) (sym (trees-grown ns ms ts g ts-in))
      (subst (λ (us : List TermId). AreOfOneType (tree_at (trees ns) t) (trees_at ns us)) others-are
      (subst (λ (u : TermId). AreOfOneType (tree_at (trees ns) u) (trees_at ns c.others)) first-is c.alike)))

  long-now : length ss ≡ length ts
  long-now =
      made-length ms ss (selectors_on ms q.edges.items) (s.join.selectors ss k)
      ∙ later-length ms q.edges.items (length ts) (ap length (sym e) ∙ c.long ∙ ap length (sym edges-are))

  pub can-merge-by : CanMerge ms ss t ts
  can-merge-by = record {
    long = long-now;
    conds = conditions-made ms ss (selectors_on ms q.edges.items) (s.join.selectors ss k) (selectors-conditions ms q.edges.items s.join.conds);
    first_in = in_grown ns ms g t t-in;
    typed = alike-now.typed;
    alike = each-alike ms (tree_at (trees ms) t) ts (in-grown ns ms ts g ts-in) alike-now.others;
  }

  pub merged-by : IsJoin ns p → (os : List TermNode) (r : TermId) → StandsForTree os r (chosen_by (trees_at ms ss) (tree_at (trees ms) t) (trees_at ms ts)) → IsJoined ns p.edges.items vs os r
  merged-by j os r m x xs h =
      let f : tree_at (trees ns) t ∷ trees_at ns ts ≡ x ∷ xs = ap (trees_at ns) (sym e) ∙ h in
      let a : tree_at (trees ns) t ≡ x = cc in
      let b : trees_at ns ts ≡ xs = cc in
      let sel : trees_at ms ss ≡ selectors_on ns p.edges.items = made-trees ms ss (selectors_on ms q.edges.items) (s.join.selectors ss k) ∙ ap (selectors_on ms) edges-are
      ∙ selectors-grown ns ms p.edges.items g j.conds in
      let y : tree_at (trees ms) t ≡ x = tree_grown ns ms g t t-in ∙ a in
      let ys : trees_at ms ts ≡ xs = trees-grown ns ms ts g ts-in ∙ b in
      subst (StandsForTree os r) (λ i. chosen_by (sel i) (y i) (ys i)) m

-- ---- selectors are made

pub select-made : (ns ms : List TermNode) (p q : PlaceState) (ts : List TermId) (es : List Edge) → Grows ns ms → IsJoin ns p → es ≡ p.edges.items → AreTerms ms ts (selectors_on ns es) → q.block ≡ p.block
    → q.edges ≡ p.edges → q.known ≡ p.known → q.selectors ≡ Some ts → IsSelected ms p q
select-made ns ms p q ts es g j e m b f k s = record {
  block = b;
  edges = f;
  known = k;
  join = record {
    conds = subst (AreConditions ms) (λ i. (sym f i).items) (conditions-grown ns ms p.edges.items g j.conds);
    selectors = λ us h.
        let x : Some ts ≡ Some us = sym s ∙ h in
        let y : ts ≡ us = cc in
        subst (λ (vs : List TermId). AreTerms ms vs (selectors_on ms q.edges.items)) y
        (subst (λ (xs : List Edge). AreTerms ms ts (selectors_on ms xs)) (λ i. (sym f i).items)
        (subst (AreTerms ms ts) (ap (selectors_on ns) e ∙ sym (selectors-grown ns ms p.edges.items g j.conds)) m));
  };
}

pub selected-grown : (ms os : List TermNode) (p q : PlaceState) → Grows ms os → IsSelected ms p q → IsSelected os p q
selected-grown ms os p q g s = record { block = s.block; edges = s.edges; known = s.known; join = join-grown ms os q g s.join }

-- ---- a list by its first item

whole : {X : Type 0} (x : X) (xs : List X) → take (length (x ∷ xs) - 1) xs ≡ xs
whole x xs = let e : length (x ∷ xs) - 1 ≡ length xs = omega arith in ap (λ (n : ℕ). take n xs) e ∙ take_all (length xs) xs (omega arith)

pub head-tail : {X : Type 0} (d : X) (xs : List X) → 1 ≤ length xs → xs ≡ get_or xs 0 d ∷ take (length xs - 1) (drop 1 xs)
head-tail d [] l = absurd (omega (arith, l))
head-tail d (x ∷ xs) l = ap (λ (ys : List _). x ∷ ys) (sym (whole x xs))

pub join-first : (ns : List TermNode) (p : PlaceState) (vs : List TermId) (t : TermId) (ts : List TermId) → CanJoin ns p vs → vs ≡ t ∷ ts → IsIn ns t
join-first ns p vs t ts c e = let f : c.first ∷ c.others ≡ t ∷ ts = sym c.are ∙ e in let g : c.first ≡ t = cc in subst (IsIn ns) g c.first_in

-- ---- results

pub ok-any : {A E : Type 0} (r : Result A E) (B : Type 0) → B → OnOk r B
ok-any (Ok x) B b = b
ok-any (Err x) B b = tt
