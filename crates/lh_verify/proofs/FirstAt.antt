-- The first faulty place, at a step of a loop over the places; and what it says where there is none.
use Rattle.std.proofs.Common.{◌≡◌, Bool, false, ◌||◌, ℕ, ◌+◌, ◌<◌, List, [], ◌∷◌, length, get_or, drop, Option, Some, None, refl, ap, sym, ◌∙◌}
use Rattle.std.specs.Option.{option_map}
use Rattle.std.specs.List.{list_any}
use Rattle.lh_unit.specs.WellFormed.{FaultKind, number_of, undefined, wrong_kind, wrong_type, not_here, no_terminator, phi_edges, arguments}
use Rattle.lh_unit.specs.declared.inst.InstId.{InstId}
use Rattle.lh_verify_values.specs.declared.scope.Scope.{Scope}
use Rattle.lh_verify.specs.declared.spots.Spot.{Spot}
use Rattle.lh_verify.specs.declared.unit.InstFault.{InstFault}
use Rattle.lh_verify.specs.FirstFound.{is_at, found_or, first_at}
use Rattle.lh_verify.specs.Faults.{has_fault, lowest, hides_paths}
use Rattle.lh_verify.proofs.Lowest.{lowest_of_eight, lowest-none}
use Rattle.std.proofs.lemmas.List.{drop_more}

found-number : (x : Spot) (k : Option FaultKind) (n : ℕ) (more : Option InstFault) → Some n ≡ option_map number_of k → Some (record { inst = x.inst; number = n }) ≡ found_or x k more
found-number x None n more e = absurd cc
found-number x (Some k) n more e = let q : n ≡ number_of k = cc in ap (λ z. Some (record { inst = x.inst; number = z })) q

found-none : (x : Spot) (k : Option FaultKind) (more : Option InstFault) → None ≡ option_map number_of k → more ≡ found_or x k more
found-none x None more e = refl
found-none x (Some k) more e = absurd cc

-- a fault at the place, and none there
pub found-here : (s : Scope) (lacks : Option InstId) (xs : List Spot) (i : ℕ) (d : Spot) (b : Bool) (n : ℕ) (all : Option InstFault) → i < length xs → b ≡ is_at lacks (get_or xs i d)
    → Some n ≡ option_map number_of (lowest s (get_or xs i d) b) → first_at s lacks (drop i xs) ≡ all → Some (record { inst = (get_or xs i d).inst; number = n }) ≡ all
found-here s lacks xs i d b n all h q e a =
    found-number (get_or xs i d) (lowest s (get_or xs i d) (is_at lacks (get_or xs i d))) n (first_at s lacks (drop (i + 1) xs)) (e ∙ ap (λ z. option_map number_of (lowest s (get_or xs i d) z)) q)
    ∙ ap (first_at s lacks) (sym (drop_more xs i d h))
    ∙ a

pub found-later : (s : Scope) (lacks : Option InstId) (xs : List Spot) (i : ℕ) (d : Spot) (b : Bool) (all : Option InstFault) → i < length xs → b ≡ is_at lacks (get_or xs i d)
    → None ≡ option_map number_of (lowest s (get_or xs i d) b) → first_at s lacks (drop i xs) ≡ all → first_at s lacks (drop (i + 1) xs) ≡ all
found-later s lacks xs i d b all h q e a =
    found-none (get_or xs i d) (lowest s (get_or xs i d) (is_at lacks (get_or xs i d))) (first_at s lacks (drop (i + 1) xs)) (e ∙ ap (λ z. option_map number_of (lowest s (get_or xs i d) z)) q)
    ∙ ap (first_at s lacks) (sym (drop_more xs i d h))
    ∙ a

-- where no place has a fault, none hides the paths
not-hiding : (a b d e g h l m : Bool) → lowest_of_eight a b d e g h l m ≡ None → ((a || g) || h) ≡ false
not-hiding a b d e g h l m p =
    ap (λ v. (v || g) || h) (lowest-none a b d e g h l m p undefined)
    ∙ ap (λ v. v || h) (lowest-none a b d e g h l m p no_terminator)
    ∙ lowest-none a b d e g h l m p phi_edges

pub none-hides : (s : Scope) (xs : List Spot) → first_at s None xs ≡ None → list_any (hides_paths s) xs ≡ false
none-hides s [] e = refl
none-hides s (x ∷ xs) e = by (lowest s x false) refl e (none-hides s xs)
  where
    by : (k : Option FaultKind) → lowest s x false ≡ k → found_or x k (first_at s None xs) ≡ None → (first_at s None xs ≡ None → list_any (hides_paths s) xs ≡ false)
        → list_any (hides_paths s) (x ∷ xs) ≡ false
    by None q r f =
        ap (λ b. b || list_any (hides_paths s) xs)
        (not-hiding (has_fault s x undefined) (has_fault s x wrong_kind) (has_fault s x wrong_type) (has_fault s x not_here) (has_fault s x no_terminator) (has_fault s x phi_edges) false
        (has_fault s x arguments) q)
        ∙ f r
    by (Some k) q r f = cc
