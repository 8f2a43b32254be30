-- The first faulty instruction of a unit, from what its places say by ids.
use Rattle.std.proofs.Common.{◌≡◌, ℕ, ◌+◌, ◌<◌, ◌⊎◌, inl, inr, Bool, true, false, nat_eq, List, [], ◌∷◌, ◌++◌, length, map, Option, Some, None, refl, ap, sym, ◌∙◌, subst, arith}
use Rattle.std.specs.Option.{option_map}
use Rattle.std.proofs.lemmas.Grind.{common_steps}
use Rattle.lh_unit.specs.Contents.{UnitText, ItemText}
use Rattle.lh_unit.specs.Within.{Each}
use Rattle.lh_unit.specs.Places.{InstPlaceText, places}
use Rattle.lh_unit.specs.WellFormed.{FaultKind, number_of, undefined, wrong_kind, wrong_type, not_here, no_terminator, phi_edges, not_defined, arguments, Site, HasFault, NoneHasFault, LacksDefinition, has_local, has_paths}
use Rattle.lh_unit.specs.declared.inst.InstId.{InstId}
use Rattle.lh_verify.specs.FirstFound.{FirstIn, LacksFirst, is_at, found_or, first_at}
use Rattle.lh_verify.specs.Faults.{has_fault, lowest}
use Rattle.lh_verify.specs.declared.unit.InstFault.{InstFault}
use Rattle.lh_verify.specs.declared.spots.Spot.{Spot}
use Rattle.lh_verify_values.specs.declared.scope.Scope.{Scope}
use Rattle.lh_verify.proofs.Lowest.{IsLowest, of_eight, lowest-some, lowest-none}
use Rattle.lh_unit.proofs.Lists.{nat_eq-refl, nat_eq-next}

-- sites that are numbered one by one from k + 1
abbrev pub Numbered : ℕ → List InstPlaceText → Type 0
Numbered k [] = Unit {0}
Numbered k (p ∷ more) = (p.number ≡ k + 1) × Numbered (k + 1) more

-- whether each place lacks its definition, up to the first, of this number, that does
abbrev pub LackingOn : UnitText → Bool → Option ℕ → List InstPlaceText → Type 0
LackingOn u paths n [] = Unit {0}
LackingOn u paths None (p ∷ more) = ¬ ((paths ≡ true) × LacksDefinition u p) × LackingOn u paths None more
LackingOn u paths (Some n) (p ∷ more) = ((nat_eq n p.number ≡ true) × (paths ≡ true) × LacksDefinition u p)
    ⊎ ((nat_eq n p.number ≡ false) × ¬ ((paths ≡ true) × LacksDefinition u p) × LackingOn u paths (Some n) more)

lacking-none : (u : UnitText) (paths : Bool) (ps : List InstPlaceText) → (paths ≡ true → Each (λ p. ¬ LacksDefinition u p) ps) → LackingOn u paths None ps
lacking-none u paths [] h = tt
lacking-none u paths (p ∷ ps) h = ((λ q. (h q.0).0 q.1), lacking-none u paths ps (λ e. (h e).1))

number-at : (k : ℕ) (before : List InstPlaceText) (p : InstPlaceText) (after : List InstPlaceText) → Numbered k (before ++ p ∷ after) → p.number ≡ k + length before + 1
number-at k [] p after n = omega (arith, n.0)
number-at k (x ∷ before) p after n = omega (arith, number-at (k + 1) before p after n.1)

other-number : (n m : ℕ) → m < n → nat_eq n m ≡ false
other-number n m h = grind (arith, common_steps)

lacking-some : (u : UnitText) (paths : Bool) (k n : ℕ) (before : List InstPlaceText) (p : InstPlaceText) (after : List InstPlaceText) → paths ≡ true → Numbered k (before ++ p ∷ after) → p.number ≡ n
    → Each (λ q. ¬ LacksDefinition u q) before → LacksDefinition u p → LackingOn u paths (Some n) (before ++ p ∷ after)
lacking-some u paths k n [] p after e m q b l = inl (ap (nat_eq n) q ∙ nat_eq-refl n, e, l)
lacking-some u paths k n (x ∷ before) p after e m q b l =
    let z : x.number < n = omega (arith, m.0, number-at (k + 1) before p after m.1, q) in
    inr (other-number n x.number z, (λ r. b.0 r.1), lacking-some u paths (k + 1) n before p after e m.1 q b.1 l)

pub lacking : (items : List ItemText) (u : UnitText) (lacks : Option InstId) → Numbered 0 (places u) → LacksFirst items u lacks
    → LackingOn u (has_paths items u) (option_map (λ (i : InstId). i.0 + 1) lacks) (places u)
lacking items u None m l = lacking-none u (has_paths items u) (places u) l
lacking items u (Some i) m l =
    let P : List InstPlaceText → Type 0 = LackingOn u (has_paths items u) (Some (i.0 + 1)) in
    subst P (sym l.1.split) (lacking-some u (has_paths items u) 0 (i.0 + 1) l.1.before l.1.place l.1.after l.0 (subst (Numbered 0) l.1.split m) l.1.at l.1.none_before l.1.holds)

-- one more site in front, without a fault
front-first : (items : List ItemText) (s : Site) (all : List Site) (site : Site) (k : FaultKind) → ((j : FaultKind) → ¬ HasFault items s j) → FirstIn items all site k → FirstIn items (s ∷ all) site k
front-first items s all site k n f = record {
  before = s ∷ f.before;
  after = f.after;
  split = ap (λ l. s ∷ l) f.split;
  has = f.has;
  lowest = f.lowest;
  none_before = (n, f.none_before);
}

-- the sites of places
abbrev pub sites_of : UnitText → List InstPlaceText → List Site
sites_of u ps = map (λ p. record { unit = u; place = p }) ps

-- what is found among places of a unit
pub record FoundAmong (items : List ItemText) (u : UnitText) (ps : List InstPlaceText) (f : InstFault) : Type 0 where
  pub site : Site
  pub kind : FaultKind
  pub first : FirstIn items (sites_of u ps) site kind
  pub of_unit : site.unit ≡ u
  pub at : site.place.number ≡ f.inst.0 + 1
  pub number : number_of kind ≡ f.number

abbrev pub FindsAmong : List ItemText → UnitText → List InstPlaceText → Option InstFault → Type 0
FindsAmong items u ps None = NoneHasFault items (sites_of u ps)
FindsAmong items u ps (Some f) = FoundAmong items u ps f

-- a place and its spot have the same faults
pub record Matches (s : Scope) (items : List ItemText) (u : UnitText) (p : InstPlaceText) (x : Spot) : Type 0 where
  pub local : (k : FaultKind) → has_local items (record { unit = u; place = p }) k ≡ has_fault s x k
  pub number : p.number ≡ x.inst.0 + 1

abbrev pub AllMatch : Scope → List ItemText → UnitText → List InstPlaceText → List Spot → Type 0
AllMatch s items u [] [] = Unit {0}
AllMatch s items u (p ∷ ps) (x ∷ xs) = Matches s items u p x × AllMatch s items u ps xs
AllMatch s items u _ _ = ⊥

module _ (s : Scope) (items : List ItemText) (u : UnitText) where
  abbrev test : Spot → Bool → FaultKind → Bool
  test x l = of_eight (has_fault s x undefined) (has_fault s x wrong_kind) (has_fault s x wrong_type) (has_fault s x not_here) (has_fault s x no_terminator) (has_fault s x phi_edges) l
      (has_fault s x arguments)

  -- where it is known whether a site lacks its definition, its tests say its faults
  module _ (p : InstPlaceText) (x : Spot) (m : Matches s items u p x) (l : Bool) where
    holds : (l ≡ true → HasFault items (record { unit = u; place = p }) not_defined) → (k : FaultKind) → test x l k ≡ true → HasFault items (record { unit = u; place = p }) k
    holds d undefined e = m.local undefined ∙ e
    holds d wrong_kind e = m.local wrong_kind ∙ e
    holds d wrong_type e = m.local wrong_type ∙ e
    holds d not_here e = m.local not_here ∙ e
    holds d no_terminator e = m.local no_terminator ∙ e
    holds d phi_edges e = m.local phi_edges ∙ e
    holds d not_defined e = d e
    holds d arguments e = m.local arguments ∙ e

    fails : (l ≡ false → ¬ HasFault items (record { unit = u; place = p }) not_defined) → (k : FaultKind) → test x l k ≡ false → ¬ HasFault items (record { unit = u; place = p }) k
    fails d undefined e h = let q : true ≡ false = sym h ∙ m.local undefined ∙ e in cc
    fails d wrong_kind e h = let q : true ≡ false = sym h ∙ m.local wrong_kind ∙ e in cc
    fails d wrong_type e h = let q : true ≡ false = sym h ∙ m.local wrong_type ∙ e in cc
    fails d not_here e h = let q : true ≡ false = sym h ∙ m.local not_here ∙ e in cc
    fails d no_terminator e h = let q : true ≡ false = sym h ∙ m.local no_terminator ∙ e in cc
    fails d phi_edges e h = let q : true ≡ false = sym h ∙ m.local phi_edges ∙ e in cc
    fails d not_defined e h = d e h
    fails d arguments e h = let q : true ≡ false = sym h ∙ m.local arguments ∙ e in cc

  -- what is found, behind a place without a fault
  behind : (p : InstPlaceText) (ps : List InstPlaceText) (o : Option InstFault) → ((k : FaultKind) → ¬ HasFault items (record { unit = u; place = p }) k) → FindsAmong items u ps o
      → FindsAmong items u (p ∷ ps) o
  behind p ps None n f = (n, f)
  behind p ps (Some g) n f = record {
    site = f.site;
    kind = f.kind;
    first = front-first items (record { unit = u; place = p }) (sites_of u ps) f.site f.kind n f.first;
    of_unit = f.of_unit;
    at = f.at;
    number = f.number;
  }

  -- what is found at a place, or else behind it
  found-at : (p : InstPlaceText) (ps : List InstPlaceText) (x : Spot) (l : Bool) (o : Option InstFault) → Matches s items u p x
      → (l ≡ true → HasFault items (record { unit = u; place = p }) not_defined) → (l ≡ false → ¬ HasFault items (record { unit = u; place = p }) not_defined) → (l ≡ false → FindsAmong items u ps o)
      → (k : Option FaultKind) → lowest s x l ≡ k → FindsAmong items u (p ∷ ps) (found_or x k o)
  found-at p ps x l o m h n rest None e =
      let none : (k : FaultKind) → test x l k ≡ false = lowest-none (has_fault s x undefined) (has_fault s x wrong_kind) (has_fault s x wrong_type) (has_fault s x not_here) (has_fault s x
      no_terminator) (has_fault s x phi_edges) l (has_fault s x arguments) e in
      behind p ps o (λ k. fails p x m l n k (none k)) (rest (none not_defined))
  found-at p ps x l o m h n rest (Some k) e =
      let low : IsLowest (test x l) k = lowest-some (has_fault s x undefined) (has_fault s x wrong_kind) (has_fault s x wrong_type) (has_fault s x not_here) (has_fault s x no_terminator)
      (has_fault s x phi_edges) l (has_fault s x arguments) k e in
      record {
        site = record { unit = u; place = p };
        kind = k;
        first = record { before = []; after = sites_of u ps; split = refl; has = holds p x m l h k low.0; lowest = λ j q. fails p x m l n j (low.1 j q); none_before = tt };
        of_unit = refl;
        at = m.number;
        number = refl;
      }

  -- what `lacks` says of the place in front, and of those behind it
  pub record Head (lacks : Option InstId) (p : InstPlaceText) (ps : List InstPlaceText) (x : Spot) : Type 0 where
    pub lacking : is_at lacks x ≡ true → HasFault items (record { unit = u; place = p }) not_defined
    pub defined : is_at lacks x ≡ false → ¬ HasFault items (record { unit = u; place = p }) not_defined
    pub rest : is_at lacks x ≡ false → LackingOn u (has_paths items u) (option_map (λ (i : InstId). i.0 + 1) lacks) ps

  head-some : (i : InstId) (p : InstPlaceText) (ps : List InstPlaceText) (x : Spot) → nat_eq (i.0 + 1) p.number ≡ nat_eq i.0 x.inst.0
      → (((nat_eq (i.0 + 1) p.number ≡ true) × (has_paths items u ≡ true) × LacksDefinition u p) ⊎ ((nat_eq (i.0 + 1) p.number ≡ false) × ¬ ((has_paths items u ≡ true) × LacksDefinition u p)
      × LackingOn u (has_paths items u) (Some (i.0 + 1)) ps)) → Head (Some i) p ps x
  head-some i p ps x q (inl h) = record {
    lacking = λ e. (h.1, h.2);
    defined = λ e. let z : true ≡ false = sym h.0 ∙ q ∙ e in absurd cc;
    rest = λ e. let z : true ≡ false = sym h.0 ∙ q ∙ e in absurd cc;
  }
  head-some i p ps x q (inr h) = record {
    lacking = λ e. let z : false ≡ true = sym h.0 ∙ q ∙ e in absurd cc;
    defined = λ e. h.1;
    rest = λ e. h.2;
  }

  head : (lacks : Option InstId) (p : InstPlaceText) (ps : List InstPlaceText) (x : Spot) → p.number ≡ x.inst.0 + 1
      → LackingOn u (has_paths items u) (option_map (λ (i : InstId). i.0 + 1) lacks) (p ∷ ps) → Head lacks p ps x
  head None p ps x n l = record { lacking = λ e. absurd cc; defined = λ e. l.0; rest = λ e. l.1 }
  head (Some i) p ps x n l = head-some i p ps x (ap (nat_eq (i.0 + 1)) n ∙ nat_eq-next i.0 x.inst.0) l

  -- the first of the places that has a fault
  pub finds : (lacks : Option InstId) (ps : List InstPlaceText) (xs : List Spot) → AllMatch s items u ps xs → LackingOn u (has_paths items u) (option_map (λ (i : InstId). i.0 + 1) lacks) ps
      → FindsAmong items u ps (first_at s lacks xs)
  finds lacks [] [] m l = tt
  finds lacks [] (x ∷ xs) m l = absurd m
  finds lacks (p ∷ ps) [] m l = absurd m
  finds lacks (p ∷ ps) (x ∷ xs) m l =
      found-at p ps x (is_at lacks x) (first_at s lacks xs) m.0 (head lacks p ps x m.0.number l).lacking (head lacks p ps x m.0.number l).defined
      (λ e. finds lacks ps xs m.1 ((head lacks p ps x m.0.number l).rest e)) (lowest s x (is_at lacks x)) refl
