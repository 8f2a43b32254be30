-- The places of a region one after the other: those to which nothing leads are passed over.
use Rattle.std.proofs.Common.{◌≡◌, ◌≤◌, ◌<◌, ◌⊎◌, inl, inr, ℕ, zero, suc, Bool, true, false, if◌then◌else◌, List, [], ◌∷◌, ◌++◌, map, Option, Some, None, refl, ap, sym, ◌∙◌, subst, arith, append-nil}
use Rattle.std.specs.Prelude.{nat_eq}
use Rattle.std.specs.List.{flat_map}
use Rattle.std.proofs.Math.Path.{fun_ext}
use Rattle.std.proofs.lemmas.Bool.{cases_lt}
use Rattle.std.proofs.lemmas.List.Elements.{filter-append}
use Rattle.std.proofs.lemmas.Grind.{flat_map-append}
use Rattle.std.proofs.Math.Bool.{and-false}
use Rattle.lh_unit_names.specs.Names.{same_name}
use Rattle.lh_unit_names.proofs.NameLists.{same_name-is}
use Rattle.lh_region_def.specs.Known.{Known, known_value, known_cell, known_part, Knowledge, with_known}
use Rattle.lh_region_def.specs.Joins.{RegionPlace, RegionEdge, joined}
use Rattle.lh_region_def.specs.Places.{Region}
use Rattle.lh_region_def.specs.Regions.{Course, Coursed, stops, comes_to, then_course, is_place, edges_to, through_reached, through_all, numbers_below}

-- ---- what is known

-- where one edge leads, what is known on it
pub joined-one : (e : RegionEdge) → joined (e ∷ []) ≡ e.known
joined-one e = fun_ext (λ n. at n (e.known n) refl)
  where
    at : (n : List ℕ) (x : Option Known) → e.known n ≡ x → joined (e ∷ []) n ≡ e.known n
    at n None h = rw h refl
    at n (Some (known_value t)) h = rw h refl
    at n (Some (known_cell t)) h = rw h refl
    at n (Some (known_part p)) h = rw h refl

-- what is known already changes nothing
pub known-already : (k : Knowledge) (n : List ℕ) (x : Known) → k n ≡ Some x → with_known k n x ≡ k
known-already k n x h = fun_ext (λ m. at m (same_name n m) refl)
  where
    at : (m : List ℕ) (b : Bool) → same_name n m ≡ b → (if b then Some x else k m) ≡ k m
    at m true e = sym h ∙ ap k (same_name-is n m e)
    at m false e = refl

-- ---- places

abbrev pub place : (turns block : ℕ) → RegionPlace
place t b = record { turns = t; block = b }

-- those of one turn, where there are so many blocks, and those of the first turns
abbrev pub turn : (blocks : ℕ) → ℕ → List RegionPlace
turn n t = map (place t) (numbers_below n)

abbrev pub turns : (blocks : ℕ) → ℕ → List RegionPlace
turns n m = flat_map (turn n) (numbers_below m)

pub edges-more : (p : RegionPlace) (es : List RegionEdge) (e : RegionEdge) → edges_to p (es ++ e ∷ []) ≡ edges_to p es ++ edges_to p (e ∷ [])
edges-more p es e = filter-append (λ (x : RegionEdge). is_place x.to p) es (e ∷ [])

-- an edge to another turn, and to another block
pub other-turn : (e : RegionEdge) (t b : ℕ) → nat_eq e.to.turns t ≡ false → edges_to (place t b) (e ∷ []) ≡ []
other-turn e t b h = rw h refl

pub other-block : (e : RegionEdge) (t b : ℕ) → nat_eq e.to.block b ≡ false → edges_to (place t b) (e ∷ []) ≡ []
other-block e t b h = rw (h, and-false (nat_eq e.to.turns t)) refl

module _ (g : Region) where
  abbrev pub reached : RegionPlace → Course → Coursed
  reached p c = through_reached g p (edges_to p c.edges) c

  pub passed : (p : RegionPlace) (c : Course) → edges_to p c.edges ≡ [] → reached p c ≡ comes_to c
  passed p c h = ap (λ es. through_reached g p es c) h

  pub all-then : (ps qs : List RegionPlace) (c : Course) → through_all g (ps ++ qs) c ≡ then_course (through_all g ps c) (through_all g qs)
  all-then [] qs c = refl
  all-then (p ∷ ps) qs c = at (λ d. all-then ps qs d) (reached p c)
    where
      at : ((d : Course) → through_all g (ps ++ qs) d ≡ then_course (through_all g ps d) (through_all g qs)) → (x : Coursed) →
          then_course x (through_all g (ps ++ qs)) ≡ then_course (then_course x (through_all g ps)) (through_all g qs)
      at go (stops r) = refl
      at go (comes_to d) = go d

  -- one more turn
  pub turns-step : (n m : ℕ) (c d : Course) → through_all g (turns n m) c ≡ comes_to d → through_all g (turns n (suc m)) c ≡ through_all g (turn n m) d
  turns-step n m c d h =
      ap (λ ps. through_all g ps c) (flat_map-append (turn n) (numbers_below m) (m ∷ []) ∙ ap (λ ps. turns n m ++ ps) (append-nil (turn n m)))
      ∙ all-then (turns n m) (turn n m) c
      ∙ ap (λ x. then_course x (through_all g (turn n m))) h

  -- three places one after the other, and where the second stops
  pub three : (p q r : RegionPlace) (c d e f : Course) → reached p c ≡ comes_to d → reached q d ≡ comes_to e → reached r e ≡ comes_to f → through_all g (p ∷ q ∷ r ∷ []) c ≡ comes_to f
  three p q r c d e f x y z =
      ap (λ v. then_course v (through_all g (q ∷ r ∷ []))) x
      ∙ ap (λ v. then_course v (through_all g (r ∷ []))) y
      ∙ ap (λ v. then_course v (through_all g [])) z

  pub then-stops : (p q r : RegionPlace) (c d : Course) (x : Coursed) → reached p c ≡ comes_to d → reached q d ≡ x → through_all g (p ∷ q ∷ r ∷ []) c ≡ then_course x (through_all g (r ∷ []))
  then-stops p q r c d x h k = ap (λ v. then_course v (through_all g (q ∷ r ∷ []))) h ∙ ap (λ v. then_course v (through_all g (r ∷ []))) k

  -- nothing leads to a place of the turn a or a later one
  abbrev pub NoneFrom : ℕ → Course → Type 0
  NoneFrom a c = (t b : ℕ) → a ≤ t → edges_to (place t b) c.edges ≡ []

  numbers-passed : (t : ℕ) (bs : List ℕ) (c : Course) → ((b : ℕ) → edges_to (place t b) c.edges ≡ []) → through_all g (map (place t) bs) c ≡ comes_to c
  numbers-passed t [] c h = refl
  numbers-passed t (b ∷ bs) c h = ap (λ x. then_course x (through_all g (map (place t) bs))) (passed (place t b) c (h b)) ∙ numbers-passed t bs c h

  -- so the course stays as it is from there on
  pub rest-passed : (n a : ℕ) (c d : Course) → through_all g (turns n a) c ≡ comes_to d → NoneFrom a d → (m : ℕ) → a ≤ m → through_all g (turns n m) c ≡ comes_to d
  rest-passed n a c d h none zero l = let e : a ≡ zero = omega (arith, l) in subst (λ x. through_all g (turns n x) c ≡ comes_to d) e h
  rest-passed n a c d h none (suc m) l = at (λ k. rest-passed n a c d h none m k) (cases_lt m a)
    where
      at : (a ≤ m → through_all g (turns n m) c ≡ comes_to d) → (m < a) ⊎ (a ≤ m) → through_all g (turns n (suc m)) c ≡ comes_to d
      at go (inl x) = let e : a ≡ suc m = omega (arith, l, x) in subst (λ y. through_all g (turns n y) c ≡ comes_to d) e h
      at go (inr x) = turns-step n m c d (go x) ∙ numbers-passed m (numbers_below n) d (λ b. none m b x)
