-- Places in a list, and one of them replaced.
use Rattle.std.proofs.Common.{◌≡◌, ◌≢◌, ℕ, zero, suc, ◌<◌, ◌⊎◌, inl, inr, Bool, true, false, nat_eq, List, [], ◌∷◌, ◌++◌, length, map, Option, Some, slice_get, slice_set, get_or, refl, ap, sym, ◌∙◌, subst, arith}
use Rattle.std.specs.Option.{option_and_then, option_map_or}
use Rattle.std.proofs.lemmas.Bool.{or_cases, or_left, or_right, cond-true, cond-false}
use Rattle.std.proofs.lemmas.List.{map_push}
use Rattle.lh_unit.specs.Within.{Each}
use Rattle.lh_unit.proofs.Lists.{Same, same, other, same_or, nat_eq-refl, nat_eq-other, nat_eq-is}
use Rattle.lh_term.specs.declared.term.TermId.{TermId}
use Rattle.lh_term.proofs.Arenas.{map_length}
use Rattle.lh_region_joins.specs.declared.edge.Edge.{Edge}
use Rattle.lh_region_places.specs.declared.state.PlaceState.{PlaceState}
use Rattle.lh_region_places.specs.Asked.{kept_by, kept_at, keeps, source_of, edges_at, sources, is_on, shape_of, SamePlaces, IsReplaced, IsWithAt, AreKept}

-- ---- lists of numbers

pub each-front : {A : Type 0} (P : A → Type 0) (way : List A) (k : A) → Each P (way ++ k ∷ []) → Each P way
each-front P [] k h = tt
each-front P (x ∷ way) k h = (h.0, each-front P way k h.1)

pub each-last : {A : Type 0} (P : A → Type 0) (way : List A) (k : A) → Each P (way ++ k ∷ []) → P k
each-last P [] k h = h.0
each-last P (x ∷ way) k h = each-last P way k h.1

pub each-on : (P : ℕ → Type 0) (way : List ℕ) (i : ℕ) → Each P way → is_on way i ≡ true → P i
each-on P [] i h e = absurd cc
each-on P (x ∷ way) i h e = by (λ t. each-on P way i h.1 t) (or_cases (nat_eq i x) (is_on way i) e)
  where
    by : (is_on way i ≡ true → P i) → (nat_eq i x ≡ true) ⊎ (is_on way i ≡ true) → P i
    by f (inl t) = subst P (sym (nat_eq-is i x t)) h.0
    by f (inr t) = f t

pub each-itself : (way : List ℕ) (f : ℕ → Bool) → ((i : ℕ) → is_on way i ≡ true → f i ≡ true) → Each (λ (i : ℕ). f i ≡ true) way
each-itself [] f h = tt
each-itself (x ∷ way) f h = (h x (or_left (nat_eq x x) (is_on way x) (nat_eq-refl x)), each-itself way f (λ i e. h i (or_right (nat_eq i x) (is_on way i) e)))

pub on-more : (way : List ℕ) (k i : ℕ) → is_on way i ≡ true → is_on (way ++ k ∷ []) i ≡ true
on-more [] k i e = absurd cc
on-more (x ∷ way) k i e = by (λ t. on-more way k i t) (or_cases (nat_eq i x) (is_on way i) e)
  where
    by : (is_on way i ≡ true → is_on (way ++ k ∷ []) i ≡ true) → (nat_eq i x ≡ true) ⊎ (is_on way i ≡ true) → is_on ((x ∷ way) ++ k ∷ []) i ≡ true
    by f (inl t) = or_left (nat_eq i x) (is_on (way ++ k ∷ []) i) t
    by f (inr t) = or_right (nat_eq i x) (is_on (way ++ k ∷ []) i) (f t)

pub on-last : (way : List ℕ) (k : ℕ) → is_on (way ++ k ∷ []) k ≡ true
on-last [] k = or_left (nat_eq k k) false (nat_eq-refl k)
on-last (x ∷ way) k = or_right (nat_eq k x) (is_on (way ++ k ∷ []) k) (on-last way k)

-- one that is on the list with one more is on the list, or the last
pub on-split : (way : List ℕ) (k i : ℕ) → is_on (way ++ k ∷ []) i ≡ true → (is_on way i ≡ true) ⊎ (k ≡ i)
on-split [] k i e = by (or_cases (nat_eq i k) false e)
  where
    by : (nat_eq i k ≡ true) ⊎ (false ≡ true) → (false ≡ true) ⊎ (k ≡ i)
    by (inl t) = inr (sym (nat_eq-is i k t))
    by (inr t) = inl t
on-split (x ∷ way) k i e = by (λ t. on-split way k i t) (or_cases (nat_eq i x) (is_on (way ++ k ∷ []) i) e)
  where
    rest : (is_on way i ≡ true) ⊎ (k ≡ i) → (is_on (x ∷ way) i ≡ true) ⊎ (k ≡ i)
    rest (inl t) = inl (or_right (nat_eq i x) (is_on way i) t)
    rest (inr t) = inr t

    by : (is_on (way ++ k ∷ []) i ≡ true → (is_on way i ≡ true) ⊎ (k ≡ i)) → (nat_eq i x ≡ true) ⊎ (is_on (way ++ k ∷ []) i ≡ true) → (is_on (x ∷ way) i ≡ true) ⊎ (k ≡ i)
    by f (inl t) = inl (or_left (nat_eq i x) (is_on way i) t)
    by f (inr t) = rest (f t)

-- ---- the place of a number

pub place-at : (ps : List PlaceState) (i : ℕ) (p : PlaceState) → i < length ps → p ≡ get_or ps i p → slice_get ps i ≡ Some p
place-at [] i p l e = absurd (omega (arith, l))
place-at (x ∷ ps) zero p l e = ap Some (sym e)
place-at (x ∷ ps) (suc i) p l e = place-at ps i p (omega (arith, l)) e

pub kept-at : (ps : List PlaceState) (v i : ℕ) (p : PlaceState) → slice_get ps i ≡ Some p → kept_at ps v i ≡ kept_by v p
kept-at ps v i p e = ap (λ (o : Option PlaceState). option_and_then (kept_by v) o) e

pub edges-of : (ps : List PlaceState) (i : ℕ) (p : PlaceState) → slice_get ps i ≡ Some p → edges_at ps i ≡ p.edges.items
edges-of ps i p e = ap (λ (o : Option PlaceState). option_map_or (λ (x : PlaceState). x.edges.items) o []) e

-- ---- a place replaced

pub set-here : (ps : List PlaceState) (i : ℕ) (p q : PlaceState) → slice_get ps i ≡ Some p → slice_get (slice_set ps i q) i ≡ Some q
set-here [] i p q e = absurd cc
set-here (x ∷ ps) zero p q e = refl
set-here (x ∷ ps) (suc i) p q e = set-here ps i p q e

pub set-other : (ps : List PlaceState) (i j : ℕ) (q : PlaceState) → i ≢ j → slice_get (slice_set ps i q) j ≡ slice_get ps j
set-other [] i j q n = refl
set-other (x ∷ ps) zero zero q n = absurd (n refl)
set-other (x ∷ ps) zero (suc j) q n = refl
set-other (x ∷ ps) (suc i) zero q n = refl
set-other (x ∷ ps) (suc i) (suc j) q n = set-other ps i j q (λ e. n (ap suc e))

pub set-same : (ps : List PlaceState) (i : ℕ) (p q : PlaceState) → slice_get ps i ≡ Some p → shape_of q ≡ shape_of p → map shape_of (slice_set ps i q) ≡ map shape_of ps
set-same [] i p q e h = absurd cc
set-same (x ∷ ps) zero p q e h = let f : x ≡ p = cc in ap (λ (s : ℕ × List Edge). s ∷ map shape_of ps) (h ∙ ap shape_of (sym f))
set-same (x ∷ ps) (suc i) p q e h = ap (λ (ss : List (ℕ × List Edge)). shape_of x ∷ ss) (set-same ps i p q e h)

pub replaced-here : (ps : List PlaceState) (i : ℕ) (p q : PlaceState) (qs : List PlaceState) → IsReplaced ps i p q qs → slice_get qs i ≡ Some q
replaced-here ps i p q qs r = ap (λ (xs : List PlaceState). slice_get xs i) r.set ∙ set-here ps i p q r.was

pub replaced-other : (ps : List PlaceState) (i j : ℕ) (p q : PlaceState) (qs : List PlaceState) → IsReplaced ps i p q qs → i ≢ j → slice_get qs j ≡ slice_get ps j
replaced-other ps i j p q qs r n = ap (λ (xs : List PlaceState). slice_get xs j) r.set ∙ set-other ps i j q n

pub replaced-same : (ps : List PlaceState) (i : ℕ) (p q : PlaceState) (qs : List PlaceState) → IsReplaced ps i p q qs → shape_of q ≡ shape_of p → SamePlaces ps qs
replaced-same ps i p q qs r h = ap (map shape_of) r.set ∙ set-same ps i p q r.was h

-- ---- the same places

pub same-length : (ps qs : List PlaceState) → SamePlaces ps qs → length qs ≡ length ps
same-length ps qs e = sym (map_length shape_of qs) ∙ ap length e ∙ map_length shape_of ps

pub same-edges : (ps qs : List PlaceState) → SamePlaces ps qs → (i : ℕ) → edges_at qs i ≡ edges_at ps i
same-edges [] [] e i = refl
same-edges [] (q ∷ qs) e i = absurd cc
same-edges (p ∷ ps) [] e i = absurd cc
same-edges (p ∷ ps) (q ∷ qs) e zero = let h : shape_of q ≡ shape_of p = cc in ap (λ (s : ℕ × List Edge). s.1) h
same-edges (p ∷ ps) (q ∷ qs) e (suc i) = let h : map shape_of qs ≡ map shape_of ps = cc in same-edges ps qs h i

pub same-sources : (ps qs : List PlaceState) → SamePlaces ps qs → (i : ℕ) → sources qs i ≡ sources ps i
same-sources ps qs e i = ap (map source_of) (same-edges ps qs e i)

-- ---- one more term

-- what a place keeps of a value
pub data Kept (ps qs : List PlaceState) (v i : ℕ) (t : TermId) (w j : ℕ) : Type 0 where
  new_one : i ≡ j → v ≡ w → kept_at qs w j ≡ Some t → Kept ps qs v i t w j
  old_one : kept_at qs w j ≡ kept_at ps w j → ((v ≡ w) → i ≡ j → ⊥) → Kept ps qs v i t w j

pub kept-with : (ps qs : List PlaceState) (v i : ℕ) (t : TermId) → IsWithAt ps i v t qs → (w j : ℕ) → Kept ps qs v i t w j
kept-with ps qs v i t a w j = by (same_or i j)
  where
    here : i ≡ j → Same v w → Kept ps qs v i t w j
    here e (same f) = new_one e f (kept-at qs w j a.new (subst (λ (k : ℕ). slice_get qs k ≡ Some a.new) e (replaced-here ps i a.old a.new qs a.replaced)) ∙ a.with_term.known w
        ∙ cond-true (nat_eq v w) (Some t) (kept_by w a.old) (subst (λ (k : ℕ). nat_eq v k ≡ true) f (nat_eq-refl v)))
    here e (other n) =
        old_one
        (kept-at qs w j a.new (subst (λ (k : ℕ). slice_get qs k ≡ Some a.new) e (replaced-here ps i a.old a.new qs a.replaced)) ∙ a.with_term.known w
        ∙ cond-false (nat_eq v w) (Some t) (kept_by w a.old) (nat_eq-other v w n)
        ∙ sym (kept-at ps w j a.old (subst (λ (k : ℕ). slice_get ps k ≡ Some a.old) e a.replaced.was)))
        (λ f g. n f)

    by : Same i j → Kept ps qs v i t w j
    by (same e) = here e (same_or v w)
    by (other n) = old_one (ap (λ (o : Option PlaceState). option_and_then (kept_by w) o) (replaced-other ps i j a.old a.new qs a.replaced n)) (λ f g. n g)

pub with-same : (ps qs : List PlaceState) (v i : ℕ) (t : TermId) → IsWithAt ps i v t qs → SamePlaces ps qs
with-same ps qs v i t a = replaced-same ps i a.old a.new qs a.replaced (λ k. (a.with_term.block k, (a.with_term.edges k).items))

-- ---- what sources keep

pub keeps-below : (ps : List PlaceState) (v i : ℕ) → keeps ps v i ≡ true → i < length ps
keeps-below [] v i e = absurd cc
keeps-below (p ∷ ps) v zero e = omega arith
keeps-below (p ∷ ps) v (suc i) e = omega (arith, keeps-below ps v i e)

pub source-keeps : (ps : List PlaceState) (v : ℕ) (is : List ℕ) (k d : ℕ) → Each (λ (s : ℕ). keeps ps v s ≡ true) is → k < length is → keeps ps v (get_or is k d) ≡ true
source-keeps ps v [] k d h l = absurd (omega (arith, l))
source-keeps ps v (i ∷ is) zero d h l = h.0
source-keeps ps v (i ∷ is) (suc k) d h l = source-keeps ps v is k d h.1 (omega (arith, l))

pub kept-push : (ps : List PlaceState) (v : ℕ) (seen : List ℕ) (ts : List TermId) (i : ℕ) (t : TermId) → AreKept ps v seen ts → kept_at ps v i ≡ Some t → AreKept ps v (seen ++ i ∷ []) (ts ++ t ∷ [])
kept-push ps v seen ts i t h k = map_push Some ts t ∙ (λ j. h j ++ sym k j ∷ []) ∙ sym (map_push (kept_at ps v) seen i)

abbrev pub no_edge : Edge
no_edge = record { from = 0; block = 0; cond = record { 0 = 0 } }
