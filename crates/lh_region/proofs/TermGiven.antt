-- The last place gives a term to a value or a variable.
use Rattle.std.proofs.Common.{◌≡◌, ◌≢◌, ℕ, ◌+◌, ◌<◌, Bool, true, false, ◌&&◌, nat_eq, if◌then◌else◌, List, [], ◌∷◌, length, map, Option, Some, None, slice_get, refl, ap, sym, ◌∙◌, subst, arith}
use Rattle.std.specs.Option.{is_some, option_and_then, option_map_or}
use Rattle.std.proofs.lemmas.Bool.{cond-true, cond-false}
use Rattle.std.proofs.lemmas.Option.{slice_get_within}
use Rattle.std.proofs.Math.Nat.{ne_of_gt}
use Rattle.lh_unit_names.specs.Names.{same_name}
use Rattle.lh_unit.specs.Within.{Each}
use Rattle.lh_unit.proofs.Lists.{Same, same, other, same_or, nat_eq-refl, nat_eq-other}
use Rattle.lh_unit_names.proofs.NameLists.{same_name-is, same_name-refl}
use Rattle.lh_unit.proofs.Within.{Each-more}
use Rattle.lh_term.specs.Tree.{Tree}
use Rattle.lh_term.specs.Arena.{StandsForTree}
use Rattle.lh_term.specs.declared.term.TermId.{TermId}
use Rattle.lh_term.specs.declared.term.TermNode.{TermNode}
use Rattle.lh_region_def.specs.Known.{Known, Knowledge, with_known}
use Rattle.lh_region_joins.specs.declared.edge.Edge.{Edge}
use Rattle.lh_region_places.specs.declared.state.PlaceState.{PlaceState}
use Rattle.lh_region_places.specs.Asked.{kept_at, keeps, source_of, edges_at, sources, IsBelow, KnownTerms, Joins, Tells, SamePlaces, IsWithAt}
use Rattle.lh_region.specs.Walking.{as_term, term_known, Story, TellsKnown}
use Rattle.lh_region.specs.Gives.{with_term, ValuesDiffer, GivesTerm}
use Rattle.lh_region_places.proofs.PlaceLists.{same-edges, same-sources, Kept, new_one, old_one, kept-with, with-same}
use Rattle.lh_region_places.proofs.ToldValues.{places-replaced, with-join}

-- the sources of a place are below the last one
sources-last : (ps : List PlaceState) (i j : ℕ) → i + 1 ≡ length ps → Each (IsBelow j) (sources ps j) → Each (IsBelow i) (sources ps j)
sources-last ps i j n h = by (slice_get ps j) refl
  where
    by : (o : Option PlaceState) → slice_get ps j ≡ o → Each (IsBelow i) (sources ps j)
    by None e = subst (Each (IsBelow i)) (sym (ap (λ (o : Option PlaceState). map source_of (option_map_or (λ (p : PlaceState). p.edges.items) o [])) e)) tt
    by (Some p) e = let l = slice_get_within ps j p e in Each-more (IsBelow j) (IsBelow i) (sources ps j) (λ m k. omega (arith, l, k, n)) h

module _ (s : Story) (i v : ℕ) (x : Tree) where
  abbrev told_now : KnownTerms
  told_now = (with_term s i v x).told

  told-given : (j w : ℕ) → i ≡ j → v ≡ w → told_now j w ≡ Some x
  told-given j w e f =
      let a : nat_eq i j ≡ true = subst (λ (m : ℕ). nat_eq i m ≡ true) e (nat_eq-refl i) in
      let b : nat_eq v w ≡ true = subst (λ (m : ℕ). nat_eq v m ≡ true) f (nat_eq-refl v) in
      cond-true (nat_eq i j && nat_eq v w) (Some x) (s.told j w) (ap (λ (c : Bool). c && nat_eq v w) a ∙ b)

  told-place : (j w : ℕ) → i ≢ j → told_now j w ≡ s.told j w
  told-place j w n = cond-false (nat_eq i j && nat_eq v w) (Some x) (s.told j w) (ap (λ (c : Bool). c && nat_eq v w) (nat_eq-other i j n))

  told-value : (j w : ℕ) → i ≡ j → v ≢ w → told_now j w ≡ s.told j w
  told-value j w e n =
      let a : nat_eq i j ≡ true = subst (λ (m : ℕ). nat_eq i m ≡ true) e (nat_eq-refl i) in
      cond-false (nat_eq i j && nat_eq v w) (Some x) (s.told j w) (ap (λ (c : Bool). c && nat_eq v w) a ∙ nat_eq-other v w n)

  told-else : (j w : ℕ) → (v ≡ w → i ≡ j → ⊥) → told_now j w ≡ s.told j w
  told-else j w n = by (same_or i j) (same_or v w)
    where
      by : Same i j → Same v w → told_now j w ≡ s.told j w
      by (same e) (same f) = absurd (n f e)
      by (same e) (other m) = told-value j w e m
      by (other m) o = told-place j w m

  told-sources : (w : ℕ) (es : List Edge) → Each (IsBelow i) (map source_of es) → map (λ (e : Edge). told_now e.from w) es ≡ map (λ (e : Edge). s.told e.from w) es
  told-sources w [] h = refl
  told-sources w (e ∷ es) h = let a = told-place e.from w (ne_of_gt {a = i} {b = e.from} h.0) in let b = told-sources w es h.1 in λ k. a k ∷ b k

  joins-still : (ns : List TermNode) (w : ℕ) (es : List Edge) (y : Tree) → Each (IsBelow i) (map source_of es) → Joins ns s.told w es y → Joins ns told_now w es y
  joins-still ns w es y h j = record { first = j.first; others = j.others; each = told-sources w es h ∙ j.each; alike = j.alike; gives = j.gives }

  -- what is known now
  known-given : (k : Knowledge) (a : Known) → v < s.values → ValuesDiffer s → as_term a ≡ Some x → TellsKnown s i k → TellsKnown (with_term s i v x) i (with_known k (s.naming.value_name v) a)
  known-given k a l d e t w m = by (same_or v w)
    where
      here : v ≡ w → told_now i w ≡ term_known (with_known k (s.naming.value_name v) a) (s.naming.value_name w)
      here f =
          let g : same_name (s.naming.value_name v) (s.naming.value_name w)
          ≡ true = subst (λ (u : ℕ). same_name (s.naming.value_name v) (s.naming.value_name u) ≡ true) f (same_name-refl (s.naming.value_name v)) in
          told-given i w refl f ∙ sym e ∙ sym (ap (option_and_then as_term) (cond-true (same_name (s.naming.value_name v) (s.naming.value_name w)) (Some a) (k (s.naming.value_name w)) g))

      differs : v ≢ w → (b : Bool) → same_name (s.naming.value_name v) (s.naming.value_name w) ≡ b → told_now i w ≡ option_and_then as_term (if b then Some a else k (s.naming.value_name w))
      differs q true g = absurd (q (d v w l m (same_name-is (s.naming.value_name v) (s.naming.value_name w) g)))
      differs q false g = told-value i w refl q ∙ t w m

      by : Same v w → told_now i w ≡ term_known (with_known k (s.naming.value_name v) a) (s.naming.value_name w)
      by (same f) = here f
      by (other q) = differs q (same_name (s.naming.value_name v) (s.naming.value_name w)) refl

module _ (ns : List TermNode) (ps qs : List PlaceState) (s : Story) (i v : ℕ) (t : TermId) (x : Tree) (a : IsWithAt ps i v t qs) (tells : Tells ns ps s.told) (last : i + 1 ≡ length ps)
    (st : StandsForTree ns t x) where
  same_now : SamePlaces ps qs
  same_now = with-same ps qs v i t a

  kept-now : (j w : ℕ) (y : TermId) → kept_at qs w j ≡ Some y → Kept ps qs v i t w j → (z : Tree) × ((with_term s i v x).told j w ≡ Some z) × StandsForTree ns y z
  kept-now j w y e (new_one p q r) = let f : Some t ≡ Some y = sym r ∙ e in let g : t ≡ y = cc in (x, told-given s i v x j w p q, subst (λ (u : TermId). StandsForTree ns u x) g st)
  kept-now j w y e (old_one r n) = let (z, f, h) = tells.kept j w y (sym r ∙ e) in (z, told-else s i v x j w n ∙ f, h)

  joins-now : (j w : ℕ) (y : Tree) → keeps qs w j ≡ false → (with_term s i v x).told j w ≡ Some y → Kept ps qs v i t w j → Joins ns (with_term s i v x).told w (edges_at qs j) y
  joins-now j w y e f (new_one p q r) = let g : true ≡ false = sym (ap is_some r) ∙ e in absurd cc
  joins-now j w y e f (old_one r n) =
      subst (λ (es : List Edge). Joins ns (with_term s i v x).told w es y) (sym (same-edges ps qs same_now j))
      (joins-still s i v x ns w (edges_at ps j) y (sources-last ps i j last (tells.earlier j)) (tells.joins j w y (ap is_some (sym r) ∙ e) (sym (told-else s i v x j w n) ∙ f)))

  tells-given : Tells ns qs (with_term s i v x).told
  tells-given = record {
    earlier = λ j. subst (Each (IsBelow j)) (sym (same-sources ps qs same_now j)) (tells.earlier j);
    places = places-replaced ns ps qs i a.old a.new a.replaced (with-join ns a.old a.new v t a.with_term (tells.places i a.old a.replaced.was)) tells.places;
    kept = λ j w y e. kept-now j w y e (kept-with ps qs v i t a w j);
    joins = λ j w y e f. joins-now j w y e f (kept-with ps qs v i t a w j);
  }

pub gives-term : (ps qs : List PlaceState) (i v : ℕ) (t : TermId) → IsWithAt ps i v t qs → GivesTerm ps i v t qs
gives-term ps qs i v t w ns s k a x tells count last l d e st known = record {
  tells = tells-given ns ps qs s i v t x w tells (last ∙ count) st;
  known = known-given s i v x k a l d e known;
  before = λ j u m. told-place s i v x j u (ne_of_gt {a = i} {b = j} m);
}
