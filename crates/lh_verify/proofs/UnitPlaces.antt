-- The places of a unit and what is known of it, all together.
use Rattle.std.proofs.Common.{◌≡◌, ℕ, ◌+◌, ◌<◌, ◌≤◌, zero, suc, true, false, not, ◌&&◌, ◌||◌, if◌then◌else◌, List, [], ◌∷◌, map, get_or, Option, Some, None, slice_get, refl, ap, sym, ◌∙◌, subst, arith}
use Rattle.std.specs.List.{list_any}
use Rattle.lh_unit.specs.WellFormed as wf
use Rattle.lh_defined.specs.Lacking.{AllDefined, IsNotDefined}
use Rattle.lh_unit.specs.Contents.{InstText}
use Rattle.lh_unit.specs.Places.{InstPlaceText, places, is_terminator}
use Rattle.lh_unit.specs.Naming.{inst_text}
use Rattle.lh_unit.specs.Within.{Each}
use Rattle.lh_unit.specs.Table.{no_line}
use Rattle.lh_unit.specs.declared.table.TableLine.{TableLine}
use Rattle.lh_unit.proofs.Lists.{some_inj}
use Rattle.lh_unit.specs.Arena.{IsArena, InstPlaced, naming, table_at, unit_text_at, unit_count, inst_count, inst_at}
use Rattle.lh_unit.specs.ById.{inst_line_text, place_text, arg_being, inst_making}
use Rattle.lh_unit.specs.ById as byid
use Rattle.lh_unit.specs.WellFormed.{FaultKind, number_of, undefined, wrong_kind, wrong_type, not_here, no_terminator, phi_edges, not_defined, arguments, has_local, in_entity, has_paths}
use Rattle.lh_unit.specs.declared.inst.InstId.{InstId}
use Rattle.lh_unit.specs.declared.inst.Inst.{Inst}
use Rattle.lh_unit.proofs.ByIdPlaces.{InUnit, places-by_id, inst_place-at}
use Rattle.lh_verify_values.specs.declared.scope.Scope.{Scope}
use Rattle.lh_verify.specs.declared.spots.Spot.{Spot}
use Rattle.lh_verify.specs.declared.unit.InstFault.{InstFault}
use Rattle.lh_verify.specs.FirstFound.{FindsFault, FirstLacks, LacksFirst, is_at, found_or, first_at}
use Rattle.lh_verify.specs.Faults.{has_fault, lowest, hides_paths, text_of}
use Rattle.lh_verify.specs.Spots.{spots_of}
use Rattle.lh_verify.specs.SpotsWithin.{SpotWithin}
use Rattle.lh_verify_values.specs.Facts.{text_in, naming_in, items_in}
use Rattle.lh_verify.proofs.PlacesById.{spot_of, spots-map, empty-is, phi-is}
use Rattle.lh_verify.proofs.FirstFaults.{Numbered, AllMatch, FindsAmong, finds, lacking}

-- each instruction of a unit is in place
any-placed : (P : Inst → Type 0) (ls : List TableLine) → ((j : ℕ) (l : TableLine) → slice_get ls j ≡ Some l → P l.inst) → P no_line.inst → (i : ℕ) → P (get_or ls i no_line).inst
any-placed P [] h z i = by i
  where
    by : (j : ℕ) → P (get_or [] j no_line).inst
    by zero = z
    by (suc j) = z
any-placed P (l ∷ ls) h z zero = h 0 l refl
any-placed P (l ∷ ls) h z (suc i) = any-placed P ls (λ j m e. h (suc j) m e) z i

module _ (s : Scope) (o : IsArena s.module.now) (h : s.unit.0 < unit_count s.module.now) where
  has-is : (p : byid.InstPlace) → InUnit (table_at s.module.now s.unit.0) p → (k : FaultKind)
      → has_local (items_in s) (record { unit = text_in s; place = place_text (naming_in s) (table_at s.module.now s.unit.0) p }) k ≡ has_fault s (spot_of (table_at s.module.now s.unit.0) p) k
  unfolding text_of text_in naming_in items_in
  has-is p w undefined = refl
  has-is p w wrong_kind = refl
  has-is p w wrong_type = refl
  has-is p w not_here = refl
  has-is p w no_terminator =
      let i : InstText = inst_text (naming s.module.now s.unit.0) (inst_at s.module.now s.unit.0 p.inst.0) in
      ap (λ b. not (in_entity (unit_text_at s.module.now s.unit.0).kind) && not (if b then is_terminator i else not (is_terminator i)))
      (empty-is (inst_line_text (naming s.module.now s.unit.0) (table_at s.module.now s.unit.0)) p.after)
  has-is p w phi_edges = phi-is s.module.now s.unit.0 o h p w (inst_at s.module.now s.unit.0 p.inst.0)
      (any-placed (InstPlaced s.module.now s.unit.0) (table_at s.module.now s.unit.0).lines (λ j l e. o.placed s.unit.0 j l e) tt p.inst.0)
  has-is p w not_defined = refl
  has-is p w arguments = refl

  all-match : (ps : List byid.InstPlace) → ((j : ℕ) (p : byid.InstPlace) → slice_get ps j ≡ Some p → (p.number ≡ p.inst.0 + 1) × InUnit (table_at s.module.now s.unit.0) p)
      → AllMatch s (items_in s) (text_in s) (map (place_text (naming_in s) (table_at s.module.now s.unit.0)) ps) (map (spot_of (table_at s.module.now s.unit.0)) ps)
  all-match [] g = tt
  all-match (p ∷ ps) g = (record { local = has-is p (g 0 p refl).1; number = (g 0 p refl).0 }, all-match ps (λ j q e. g (suc j) q e))

  numbered : (k : ℕ) (ps : List byid.InstPlace) → ((j : ℕ) (p : byid.InstPlace) → slice_get ps j ≡ Some p → p.number ≡ k + j + 1)
      → Numbered k (map (place_text (naming_in s) (table_at s.module.now s.unit.0)) ps)
  numbered k [] g = tt
  numbered k (p ∷ ps) g = (let e : p.number ≡ k + 0 + 1 = g 0 p refl in omega (arith, e), numbered (k + 1) ps (λ j q e. let z : q.number ≡ k + suc j + 1 = g (suc j) q e in omega (arith, z)))

  places-in : places (text_in s) ≡ map (place_text (naming_in s) (table_at s.module.now s.unit.0)) (byid.inst_places (table_at s.module.now s.unit.0))
  unfolding text_in naming_in
  places-in = places-by_id s.module.now s.unit.0

  spot-here : (j : ℕ) (p : byid.InstPlace) → slice_get (byid.inst_places (table_at s.module.now s.unit.0)) j ≡ Some p → (p.number ≡ p.inst.0 + 1) × InUnit (table_at s.module.now s.unit.0) p
  spot-here j p e = let r = inst_place-at (table_at s.module.now s.unit.0) j p (o.tables s.unit.0 h) e in (omega (arith, r.0, r.1), r.2)

  within-first : (n : ℕ) (lacks : Option InstId) (xs : List Spot) (f : InstFault) → Each (SpotWithin n) xs → first_at s lacks xs ≡ Some f → f.inst.0 < n
  within-first n lacks [] f w e = absurd cc
  within-first n lacks (x ∷ xs) f w e = by (lowest s x (is_at lacks x)) e (within-first n lacks xs f w.1)
    where
      by : (k : Option FaultKind) → found_or x k (first_at s lacks xs) ≡ Some f → (first_at s lacks xs ≡ Some f → f.inst.0 < n) → f.inst.0 < n
      by None g r = r g
      by (Some k) g r = let q : record { inst = x.inst; number = number_of k } ≡ f = some_inj (record { inst = x.inst; number = number_of k }) f g in subst (λ (y : InstFault). y.inst.0 < n) q w.0

  conclude : (found : Option InstFault) → ((f : InstFault) → found ≡ Some f → f.inst.0 < 65536) → FindsAmong (items_in s) (text_in s) (places (text_in s)) found
      → FindsFault (items_in s) (text_in s) found
  conclude None b g = g
  conclude (Some f) b g = record { site = g.site; kind = g.kind; first = g.first; of_unit = g.of_unit; at = g.at; number = g.number; few = b f refl }

  -- what the code finds is the first fault of the unit
  pub unit-law : (lacks : Option InstId) (found : Option InstFault) (xs : List Spot) → xs ≡ spots_of (table_at s.module.now s.unit.0) → Each (SpotWithin (inst_count s.module.now s.unit.0)) xs
      → LacksFirst (items_in s) (text_in s) lacks → found ≡ first_at s lacks xs → FindsFault (items_in s) (text_in s) found
  unit-law lacks found xs e w l q =
      let t = table_at s.module.now s.unit.0 in
      let m : Numbered 0 (places (text_in s)) = subst (Numbered 0) (sym places-in)
      (numbered 0 (byid.inst_places t) (λ j p g. let r = inst_place-at t j p (o.tables s.unit.0 h) g in omega (arith, r.0))) in
      let a : AllMatch s (items_in s) (text_in s) (places (text_in s)) xs =
      subst (λ (ps : List InstPlaceText). AllMatch s (items_in s) (text_in s) ps xs) (sym places-in)
      (subst (AllMatch s (items_in s) (text_in s) (map (place_text (naming_in s) t) (byid.inst_places t))) (spots-map t ∙ sym e) (all-match (byid.inst_places t) spot-here)) in
      let few : inst_count s.module.now s.unit.0 ≤ 65536 = (o.tables s.unit.0 h).few in
      conclude found
      (λ f g. omega (arith, within-first (inst_count s.module.now s.unit.0) lacks xs f w (sym q ∙ g), few))
      (subst (FindsAmong (items_in s) (text_in s) (places (text_in s))) (sym q) (finds s (items_in s) (text_in s) lacks (places (text_in s)) xs a (lacking (items_in s) (text_in s) lacks m l)))

  any-match : (ps : List InstPlaceText) (xs : List Spot) → AllMatch s (items_in s) (text_in s) ps xs
      → list_any (λ (p : InstPlaceText). wf.hides_paths (items_in s) (record { unit = text_in s; place = p })) ps ≡ list_any (hides_paths s) xs
  any-match [] [] m = refl
  any-match [] (x ∷ xs) m = absurd m
  any-match (p ∷ ps) [] m = absurd m
  any-match (p ∷ ps) (x ∷ xs) m =
      let r : list_any (λ (q : InstPlaceText). wf.hides_paths (items_in s) (record { unit = text_in s; place = q })) ps ≡ list_any (hides_paths s) xs = any-match ps xs m.1 in
      λ i. ((m.0.local undefined i || m.0.local no_terminator i) || m.0.local phi_edges i) || r i

  -- paths are asked for where no instruction hides them
  paths-in : (xs : List Spot) → xs ≡ spots_of (table_at s.module.now s.unit.0) → has_paths (items_in s) (text_in s) ≡ not (list_any (hides_paths s) xs)
  paths-in xs e =
      let t = table_at s.module.now s.unit.0 in
      ap not (any-match (places (text_in s)) xs
      (subst (λ (ps : List InstPlaceText). AllMatch s (items_in s) (text_in s) ps xs) (sym places-in)
      (subst (AllMatch s (items_in s) (text_in s) (map (place_text (naming_in s) t) (byid.inst_places t))) (spots-map t ∙ sym e) (all-match (byid.inst_places t) spot-here))))

  pub lacks-hidden : (xs : List Spot) → xs ≡ spots_of (table_at s.module.now s.unit.0) → list_any (hides_paths s) xs ≡ true → LacksFirst (items_in s) (text_in s) None
  lacks-hidden xs e z p = let q : true ≡ false = sym p ∙ paths-in xs e ∙ ap not z in absurd cc

  pub lacks-nothing : AllDefined (unit_text_at s.module.now s.unit.0) → LacksFirst (items_in s) (text_in s) None
  unfolding text_in
  lacks-nothing d p = d

  first-lacks : (i : InstId) (n : List ℕ) → IsNotDefined (unit_text_at s.module.now s.unit.0) i.0 n → FirstLacks (text_in s) i
  unfolding text_in
  first-lacks i n d = record {
    place = d.place;
    before = d.first.before;
    after = d.first.after;
    split = d.first.all;
    holds = d.first.holds;
    none_before = d.first.none_before;
    at = d.number;
  }

  pub lacks-at : (i : InstId) (n : List ℕ) (xs : List Spot) → xs ≡ spots_of (table_at s.module.now s.unit.0) → list_any (hides_paths s) xs ≡ false
      → IsNotDefined (unit_text_at s.module.now s.unit.0) i.0 n → LacksFirst (items_in s) (text_in s) (Some i)
  lacks-at i n xs e z d = (paths-in xs e ∙ ap not z, first-lacks i n d)
