-- The shape of a unit of a module without a fault.
use Rattle.std.proofs.Common.{◌≡◌, ℕ, ◌+◌, List, [], ◌∷◌, ◌++◌, length, map, Bool, true, false, not, ◌&&◌, ◌||◌, nat_eq, if◌then◌else◌, Some, refl, sym, subst, arith}
use Rattle.std.proofs.lemmas.Grind.{common_steps}
use Rattle.std.specs.List.{list_any}
use Rattle.std.proofs.lemmas.Bool.{false≢true, true≢false, false_from_ne_true, not-false}
use Rattle.lh_unit.specs.Contents.{InstText, phi_text, LineText, BlockText, UnitText, ItemText, unit_text, declare_text, is_result_name, defines_label_in, defines_label, defines_value, defines_unit}
use Rattle.lh_unit.specs.Named.{block_of, label_or}
use Rattle.lh_unit_names.specs.UnitNames.{is_assert}
use Rattle.lh_unit.specs.Places.{InstPlaceText, places_in, places_from, places, is_terminator, has_edge}
use Rattle.lh_unit.specs.Within.{Each}
use Rattle.lh_unit.specs.WellFormed.{undefined, not_here, no_terminator, phi_edges, Site, sites, values_named, labels_named, units_named, is_undefined, is_allowed, in_entity, is_empty, ends_wrong, is_phi, edges_naming, names_predecessors, phi_is_wrong, NoneHasFault}
use Rattle.lh_verify_laws.specs.Shape.{EndsRight, TerminatorsEnd, EndsOnce, EachUnit, BlocksEndOnce, LabelsAreBlocks, PhiIsRight, PhisAreRight, AllAllowed}
use Rattle.lh_verify_laws.proofs.Bools.{none_of_three, each_passes}
use Rattle.lh_verify_laws.proofs.Sound.{site_in, none-append, at_site}
use Rattle.lh_unit.proofs.Within.{Each-more}
use Rattle.lh_unit.proofs.Lists.{Each-fails}

abbrev IsNil : List LineText → Type 0
IsNil [] = Unit {0}
IsNil (l ∷ more) = ⊥

not_nil : (l : LineText) (more : List LineText) → l ∷ more ≡ [] → ⊥
not_nil l more h = subst IsNil (sym h) tt

ends_at : (e : Bool) (after : List LineText) (t : Bool) → e ≡ false → (not e && not (if is_empty after then t else not t)) ≡ false → (after ≡ [] → t ≡ true) × (t ≡ true → after ≡ [])
ends_at false [] true p q = (λ h. refl, λ h. refl)
ends_at false [] false p q = absurd (true≢false q)
ends_at false (l ∷ more) true p q = absurd (true≢false q)
ends_at false (l ∷ more) false p q = (λ h. absurd (not_nil l more h), λ h. absurd (false≢true h))
ends_at true after t p q = absurd (true≢false p)

ends_right : (s : Site) → ends_wrong s.unit s.place ≡ false → in_entity s.unit.kind ≡ false → EndsRight s
ends_right s w h = let r = ends_at (in_entity s.unit.kind) s.place.after (is_terminator s.place.line.inst) h w in record { last_ends = r.0; ends_last = r.1 }

pub terminators_end : TerminatorsEnd
terminators_end items s f c h = ends_right s (false_from_ne_true (ends_wrong s.unit s.place) ((at_site items s f c).none no_terminator)) h

block_ends : (items : List ItemText) (u : UnitText) → in_entity u.kind ≡ false → (k : ℕ) (e : Bool) (b : BlockText) (before rest : List LineText)
    → NoneHasFault items (map (site_in u) (places_in k e b before rest)) → EndsOnce rest
block_ends items u h k e b before [] n = tt
block_ends items u h k e b before (l ∷ []) n =
    let s : Site = site_in u (record { number = k; in_entry = e; block = b; before = before; line = l; after = [] }) in
    (ends_right s (false_from_ne_true (ends_wrong s.unit s.place) (n.0 no_terminator)) h).last_ends refl
block_ends items u h k e b before (l ∷ m ∷ more) n =
    let s : Site = site_in u (record { number = k; in_entry = e; block = b; before = before; line = l; after = m ∷ more }) in (
      false_from_ne_true (is_terminator l.inst) (λ t. not_nil m more ((ends_right s (false_from_ne_true (ends_wrong s.unit s.place) (n.0 no_terminator)) h).ends_last t)),
      block_ends items u h (k + 1) e b (before ++ l ∷ []) (m ∷ more) n.1,
    )

pub none-places : (items : List ItemText) (u : UnitText) (ps qs : List InstPlaceText) → NoneHasFault items (map (site_in u) (ps ++ qs)) → NoneHasFault items (map (site_in u) ps)
    × NoneHasFault items (map (site_in u) qs)
none-places items u [] qs n = (tt, n)
none-places items u (p ∷ ps) qs n = let r = none-places items u ps qs n.1 in ((n.0, r.0), r.1)

blocks_end : (items : List ItemText) (u : UnitText) → in_entity u.kind ≡ false → (k : ℕ) (e : Bool) (bs : List BlockText) → NoneHasFault items (map (site_in u) (places_from k e bs))
    → Each (λ (b : BlockText). EndsOnce b.lines) bs
blocks_end items u h k e [] n = tt
blocks_end items u h k e (b ∷ more) n =
    let r = none-places items u (places_in k e b [] b.lines) (places_from (k + length b.lines) false more) n in
    (block_ends items u h k e b [] b.lines r.0, blocks_end items u h (k + length b.lines) false more r.1)

units_end : (items xs : List ItemText) → NoneHasFault items (sites xs) → EachUnit (λ u. in_entity u.kind ≡ false → Each (λ (b : BlockText). EndsOnce b.lines) u.blocks) xs
units_end items [] n = tt
units_end items (unit_text u ∷ more) n =
    let r = none-append items (map (site_in u) (places u)) (sites more) n in
    (λ h. blocks_end items u h 1 true u.blocks r.0, units_end items more r.1)
units_end items (declare_text d ∷ more) n = units_end items more n

pub blocks_end_once : BlocksEndOnce
blocks_end_once items f = units_end items items f

block_found : (n : List ℕ) (bs : List BlockText) → defines_label_in n bs ≡ true → (b : BlockText) × (block_of n bs ≡ Some b)
block_found n [] h = absurd (false≢true h)
block_found n (b ∷ more) h = at (is_result_name n b.label) (block_found n more) h
  where
    at : (x : Bool) → (defines_label_in n more ≡ true → (c : BlockText) × (block_of n more ≡ Some c)) → (x || defines_label_in n more) ≡ true → (c : BlockText)
        × ((if x then Some b else block_of n more) ≡ Some c)
    at true r g = (b, refl)
    at false r g = r g

-- nothing that an instruction names is undefined
pub all_found : (items : List ItemText) (u : UnitText) (i : InstText) → is_undefined items u i ≡ false
    → Each (λ n. not (defines_value n u) ≡ false) (values_named i) × Each (λ n. not (defines_label n u) ≡ false) (labels_named i)
    × Each (λ n. not (defines_unit n items || is_assert n) ≡ false) (units_named i)
all_found items u i h =
    let r = none_of_three (list_any (λ n. not (defines_value n u)) (values_named i)) (list_any (λ n. not (defines_label n u)) (labels_named i))
    (list_any (λ n. not (defines_unit n items || is_assert n)) (units_named i)) h in (
      Each-fails (λ n. not (defines_value n u)) (values_named i) r.0,
      Each-fails (λ n. not (defines_label n u)) (labels_named i) r.1,
      Each-fails (λ n. not (defines_unit n items || is_assert n))
          (units_named i) r.2,
    )

pub labels_are_blocks : LabelsAreBlocks
labels_are_blocks items s f c =
    let u = s.unit in let i = s.place.line.inst in
    let r = all_found items u i (false_from_ne_true (is_undefined items u i) ((at_site items s f c).none undefined)) in
    Each-more (λ n. not (defines_label n u) ≡ false) (λ n. (b : BlockText) × (block_of n u.blocks ≡ Some b)) (labels_named i) (λ n g. block_found n u.blocks (not-false (defines_label n u) g)) r.1

once : (a : Bool) (m n : ℕ) → (not a || nat_eq m n) ≡ true → a ≡ true → m ≡ n
once true m n h e = let g : nat_eq m n ≡ true = h in grind (arith, common_steps)
once false m n h e = absurd (false≢true e)

phi_right : (u : UnitText) (p : InstPlaceText) (i : InstText) → phi_is_wrong u p i ≡ false → PhiIsRight u p i
phi_right u p (phi_text ty edges) h =
    let to = label_or p.block.label in
    let r = none_of_three (list_any (λ (l : LineText). not (is_phi l.inst)) p.before) p.in_entry (not (names_predecessors u to edges)) h in (
      Each-more (λ (l : LineText). not (is_phi l.inst) ≡ false) (λ (l : LineText). is_phi l.inst ≡ true) p.before (λ l g. not-false (is_phi l.inst) g)
          (Each-fails (λ (l : LineText). not (is_phi l.inst)) p.before r.0),
      r.1,
      Each-more (λ (b : BlockText). (not (has_edge b to) || nat_eq (edges_naming (label_or b.label) edges) 1) ≡ true)
          (λ (b : BlockText). has_edge b to ≡ true → edges_naming (label_or b.label) edges ≡ 1)
          u.blocks (λ b g e. once (has_edge b to) (edges_naming (label_or b.label) edges) 1 g e)
          (each_passes (λ (b : BlockText). not (has_edge b to) || nat_eq (edges_naming (label_or b.label) edges) 1) u.blocks (not-false (names_predecessors u to edges) r.2)),
    )
phi_right u p _ h = tt

pub phis_are_right : PhisAreRight
phis_are_right items s f c = phi_right s.unit s.place s.place.line.inst (false_from_ne_true (phi_is_wrong s.unit s.place s.place.line.inst) ((at_site items s f c).none phi_edges))

pub all_allowed : AllAllowed
all_allowed items s f c =
    let a = is_allowed s.unit.kind s.place.line.inst in
    not-false a (false_from_ne_true (not a) ((at_site items s f c).none not_here))
