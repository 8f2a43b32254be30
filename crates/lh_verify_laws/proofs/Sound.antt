-- What is known of an instruction of a module without a fault.
use Rattle.std.proofs.Common.{◌≡◌, List, [], ◌∷◌, ◌++◌, map, Bool, true, false, not, ◌||◌, refl, ap, ◌∙◌}
use Rattle.std.specs.List.{list_any, All, Contains}
use Rattle.std.proofs.lemmas.List.Elements.{All-nil, All-cons, All-contains}
use Rattle.std.proofs.lemmas.Bool.{false_from_ne_true}
use Rattle.lh_unit.specs.Contents.{UnitText, ItemText, unit_text, declare_text}
use Rattle.lh_unit.specs.Places.{InstPlaceText, places}
use Rattle.lh_unit.specs.WellFormed.{FaultKind, undefined, no_terminator, phi_edges, Site, sites, has_local, hides_paths, has_paths, HasFault, NoneHasFault, IsFaultless}

abbrev pub site_in : UnitText → InstPlaceText → Site
site_in u p = record { unit = u; place = p }

pub record Sound (items : List ItemText) (s : Site) : Type 0 where
  pub none : (k : FaultKind) → ¬ HasFault items s k
  pub paths : has_paths items s.unit ≡ true
  pub others : NoneHasFault items (map (site_in s.unit) (places s.unit))

pub none-append : (items : List ItemText) (xs ys : List Site) → NoneHasFault items (xs ++ ys) → NoneHasFault items xs × NoneHasFault items ys
none-append items [] ys n = (tt, n)
none-append items (x ∷ xs) ys n = let r = none-append items xs ys n.1 in ((n.0, r.0), r.1)

hides_none : (items : List ItemText) (s : Site) → ((k : FaultKind) → ¬ HasFault items s k) → hides_paths items s ≡ false
hides_none items s n = at (has_local items s undefined) (has_local items s no_terminator) (has_local items s phi_edges) (false_from_ne_true (has_local items s undefined) (n undefined))
    (false_from_ne_true (has_local items s no_terminator) (n no_terminator)) (false_from_ne_true (has_local items s phi_edges) (n phi_edges))
  where
    at : (a b c : Bool) → a ≡ false → b ≡ false → c ≡ false → (a || b || c) ≡ false
    at false false false p q r = refl
    at false false true p q r = r
    at false true c p q r = q
    at true b c p q r = p

unit_paths : (items : List ItemText) (u : UnitText) (ps : List InstPlaceText) → NoneHasFault items (map (site_in u) ps) → list_any (λ p. hides_paths items (site_in u p)) ps ≡ false
unit_paths items u [] n = refl
unit_paths items u (p ∷ ps) n = ap (λ b. b || list_any (λ q. hides_paths items (site_in u q)) ps) (hides_none items (site_in u p) n.0) ∙ unit_paths items u ps n.1

all_sound : (items : List ItemText) (u : UnitText) → has_paths items u ≡ true → NoneHasFault items (map (site_in u) (places u)) → (ps : List InstPlaceText) → NoneHasFault items (map (site_in u) ps)
    → (more : List Site) → All (Sound items) more → All (Sound items) (map (site_in u) ps ++ more)
all_sound items u e w [] n more a = a
all_sound items u e w (p ∷ ps) n more a = All-cons (Sound items) (site_in u p) (map (site_in u) ps ++ more) (record { none = n.0; paths = e; others = w }) (all_sound items u e w ps n.1 more a)

sites_sound : (items xs : List ItemText) → NoneHasFault items (sites xs) → All (Sound items) (sites xs)
sites_sound items [] n = All-nil (Sound items)
sites_sound items (unit_text u ∷ more) n =
    let r = none-append items (map (site_in u) (places u)) (sites more) n in
    all_sound items u (ap not (unit_paths items u (places u) r.0)) r.0 (places u) r.0 (sites more) (sites_sound items more r.1)
sites_sound items (declare_text d ∷ more) n = sites_sound items more n

pub at_site : (items : List ItemText) (s : Site) → IsFaultless items → Contains (sites items) s → Sound items s
at_site items s f c = All-contains (Sound items) (sites items) s (sites_sound items items f) c
