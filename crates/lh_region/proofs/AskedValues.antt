-- Several values are asked for one after the other.
use Rattle.std.proofs.Common.{◌≡◌, ℕ, zero, suc, ◌<◌, true, List, [], ◌∷◌, ◌++◌, length, map, get_or, Option, Some, refl, ap, sym, ◌∙◌, subst, arith, lt-ltb}
use Rattle.std.specs.Option.{is_some}
use Rattle.lh_types.specs.declared.op.Op.{Op}
use Rattle.lh_unit.specs.Within.{Each}
use Rattle.lh_unit.specs.declared.inst.Typed.{Typed}
use Rattle.lh_term.specs.Tree.{Tree, tree_row}
use Rattle.lh_term.specs.Types.{TakesTypes, types_of}
use Rattle.lh_term.specs.Make.{make_operation}
use Rattle.lh_term.specs.Arena.{trees_at, AreIn, StandsForTree, Grows}
use Rattle.lh_term.specs.declared.term.TermId.{TermId}
use Rattle.lh_term.specs.declared.term.TermNode.{TermNode}
use Rattle.lh_term.proofs.Swaps.{grows_on}
use Rattle.lh_region_joins.specs.Joins.{AreTerms}
use Rattle.lh_region_joins.proofs.Conditions.{grows-none}
use Rattle.lh_region_joins.proofs.Selectors.{terms-grown, terms-push}
use Rattle.lh_region_places.specs.declared.state.PlaceState.{PlaceState}
use Rattle.lh_region.specs.declared.taking.PlaceValue.{PlaceValue}
use Rattle.lh_region_places.specs.Asked.{KnownTerms, Tells, CanAsk, SamePlaces, StillTold, IsTold}
use Rattle.lh_region.specs.Taken.{told_of, AllValuesTold, CanAskAll, StillToldAll, ValuesAreTold, asks_at, IsOperation, IsOperated}
use Rattle.lh_region_places.proofs.PlaceLists.{same-length}
use Rattle.lh_region_places.proofs.ToldValues.{made-trees, tells-grown}

-- ---- lists

pub each-item : (P : PlaceValue → Type 0) (asks : List PlaceValue) (i : ℕ) (d : PlaceValue) → Each P asks → i < length asks → P (get_or asks i d)
each-item P [] i d h l = absurd (omega (arith, l))
each-item P (a ∷ asks) zero d h l = h.0
each-item P (a ∷ asks) (suc i) d h l = each-item P asks i d h.1 (omega (arith, l))

-- what is there of a list with one more item
record Split (f : PlaceValue → Option Tree) (seen : List PlaceValue) (a : PlaceValue) (ys : List Tree) : Type 0 where
  pub before : List Tree
  pub last : Tree
  pub are : ys ≡ before ++ last ∷ []
  pub each : map f seen ≡ map Some before
  pub one : f a ≡ Some last

split-more : (f : PlaceValue → Option Tree) (s : PlaceValue) (seen : List PlaceValue) (a : PlaceValue) (y : Tree) (ys : List Tree) → f s ≡ Some y → Split f seen a ys → Split f (s ∷ seen) a (y ∷ ys)
split-more f s seen a y ys h r = record { before = y ∷ r.before; last = r.last; are = ap (λ (zs : List Tree). y ∷ zs) r.are; each = λ i. h i ∷ r.each i; one = r.one }

split-last : (f : PlaceValue → Option Tree) (seen : List PlaceValue) (a : PlaceValue) (ys : List Tree) → map f (seen ++ a ∷ []) ≡ map Some ys → Split f seen a ys
split-last f [] a [] e = absurd cc
split-last f [] a (y ∷ []) e = let h : f a ≡ Some y = cc in record { before = []; last = y; are = refl; each = refl; one = h }
split-last f [] a (y ∷ z ∷ ys) e = let h : [] ≡ Some z ∷ map Some ys = cc in absurd cc
split-last f (s ∷ seen) a [] e = absurd cc
split-last f (s ∷ seen) a (y ∷ ys) e =
    let h : f s ≡ Some y = cc in
    let t : map f (seen ++ a ∷ []) ≡ map Some ys = cc in
    split-more f s seen a y ys h (split-last f seen a ys t)

pub there-from : (told : KnownTerms) (asks : List PlaceValue) (ys : List Tree) → map (told_of told) asks ≡ map Some ys → AllValuesTold told asks
there-from told [] ys e = tt
there-from told (a ∷ asks) [] e = absurd cc
there-from told (a ∷ asks) (y ∷ ys) e =
    let h : told_of told a ≡ Some y = cc in
    let t : map (told_of told) asks ≡ map Some ys = cc in
    (ap is_some h, there-from told asks ys t)

-- ---- one value after the other

pub record AskSoFar (old : List TermNode) (ps : List PlaceState) (now : List TermNode) (qs : List PlaceState) (asks seen : List PlaceValue) (ts : List TermId) : Type 0 where
  pub grows : Grows old now
  pub same : SamePlaces ps qs
  pub still : StillToldAll old ps now qs asks
  pub made : (told : KnownTerms) (ys : List Tree) → Tells old ps told → AllValuesTold told asks → map (told_of told) seen ≡ map Some ys → AreTerms now ts ys

none-made : (ns : List TermNode) (ys : List Tree) → [] ≡ map Some ys → AreTerms ns [] ys
none-made ns [] e = tt
none-made ns (y ∷ ys) e = absurd cc

pub ask-none : (ns : List TermNode) (ps : List PlaceState) (asks : List PlaceValue) → AskSoFar ns ps ns ps asks [] []
ask-none ns ps asks = record { grows = grows-none ns; same = refl; still = λ told t h. t; made = λ told ys t h e. none-made ns ys e }

module _ (old now : List TermNode) (ps qs : List PlaceState) (asks seen : List PlaceValue) (ts : List TermId) (i : ℕ) (d : PlaceValue) (l : i < length asks) (s : AskSoFar old ps now qs asks seen ts) where
  abbrev a : PlaceValue
  a = get_or asks i d

  pub ask-in : CanAskAll old ps asks → a.place < length qs
  ask-in c = subst (λ (n : ℕ). a.place < n) (sym (same-length ps qs s.same)) (each-item (λ (x : PlaceValue). x.place < length ps) asks i d c.within l)

  pub ask-told : CanAskAll old ps asks → CanAsk now qs a.value a.place
  ask-told c = record { told = c.told; tells = s.still c.told c.tells c.there; there = each-item (λ (x : PlaceValue). is_some (told_of c.told x) ≡ true) asks i d c.there l }

  pub ask-next : (new : List TermNode) (rs : List PlaceState) (after : List PlaceValue) (us : List TermId) (t : TermId) → after ≡ seen ++ a ∷ [] → us ≡ ts ++ t ∷ [] → Grows now new → SamePlaces qs rs
      → StillTold now qs new rs a.value a.place → IsTold now qs new a.value a.place t → AskSoFar old ps new rs asks after us
  ask-next new rs after us t e f g same still term = record {
    grows = grows_on old now new s.grows g;
    same = same ∙ s.same;
    still = λ told u h. still told (s.still told u h) (there told h);
    made = λ told ys u h m. made told ys u h (split-last (told_of told) seen a ys (ap (map (told_of told)) (sym e) ∙ m));
  }
    where
      there : (told : KnownTerms) → AllValuesTold told asks → is_some (told a.place a.value) ≡ true
      there told h = each-item (λ (x : PlaceValue). is_some (told_of told x) ≡ true) asks i d h l

      made : (told : KnownTerms) (ys : List Tree) → Tells old ps told → AllValuesTold told asks → Split (told_of told) seen a ys → AreTerms new us ys
      made told ys u h r =
          let (x, k, st) = term told (s.still told u h) (there told h) in
          let b : Some x ≡ Some r.last = sym k ∙ r.one in
          let z : x ≡ r.last = cc in
          subst (AreTerms new us) (sym r.are)
          (subst (λ (vs : List TermId). AreTerms new vs (r.before ++ r.last ∷ [])) (sym f)
          (terms-push new ts r.before t r.last (terms-grown now new ts r.before g (s.made told r.before u h r.each)) (subst (StandsForTree new t) z st)))

pub ask-end : (old now : List TermNode) (ps qs : List PlaceState) (asks seen : List PlaceValue) (ts : List TermId) → seen ≡ asks → AskSoFar old ps now qs asks seen ts → ValuesAreTold old ps now asks ts
ask-end old now ps qs asks seen ts e s told ys t m = s.made told ys t (there-from told asks ys m) (ap (map (told_of told)) e ∙ m)

-- ---- an operation

within-at : (n i : ℕ) (xs : List Typed) → i < n → Each (λ (a : PlaceValue). a.place < n) (asks_at i xs)
within-at n i [] l = tt
within-at n i (x ∷ xs) l = (l, within-at n i xs l)

pub operands-asked : (ns : List TermNode) (ps : List PlaceState) (i : ℕ) (o : Op) (xs : List Typed) → i < length ps → IsOperation ns ps i o xs → CanAskAll ns ps (asks_at i xs)
operands-asked ns ps i o xs l c = record { told = c.told; tells = c.tells; within = within-at (length ps) i xs l; there = there-from c.told (asks_at i xs) c.operands c.each }

made-below : (ns : List TermNode) (ts : List TermId) (xs : List Tree) → AreTerms ns ts xs → AreIn ns ts
made-below ns [] [] m = refl
made-below ns [] (x ∷ xs) m = absurd m
made-below ns (t ∷ ts) [] m = absurd m
made-below ns (t ∷ ts) (x ∷ xs) m = rw (lt-ltb t.0 (length ns) m.0.is_in) (made-below ns ts xs m.1)

module _ (ns ms : List TermNode) (ps : List PlaceState) (i : ℕ) (o : Op) (xs : List Typed) (ts : List TermId) (c : IsOperation ns ps i o xs) (m : ValuesAreTold ns ps ms (asks_at i xs) ts) where
  operands-made : AreTerms ms ts c.operands
  operands-made = m c.told c.operands c.tells c.each

  pub operands-in : AreIn ms ts
  operands-in = made-below ms ts c.operands operands-made

  pub operands-fit : TakesTypes o (types_of (tree_row (trees_at ms ts)))
  operands-fit = subst (λ (us : List Tree). TakesTypes o (types_of (tree_row us))) (sym (made-trees ms ts c.operands operands-made)) c.fits

  pub operated-is : (os : List TermNode) (t : TermId) → StandsForTree os t (make_operation o (trees_at ms ts)) → IsOperated ns ps os i o xs t
  operated-is os t s told ys u e = subst (λ (us : List Tree). StandsForTree os t (make_operation o us)) (made-trees ms ts ys (m told ys u e)) s

  pub operated-still : (os : List TermNode) (qs : List PlaceState) → Grows ms os → StillToldAll ns ps ms qs (asks_at i xs) → StillToldAll ns ps os qs (asks_at i xs)
  operated-still os qs g s told u h = tells-grown ms os qs told g (s told u h)
