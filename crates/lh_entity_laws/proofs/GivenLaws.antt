-- The rows of the three shapes are such as the laws of emitted entities ask for.
use Rattle.std.proofs.Common.{◌≡◌, List, [], ◌∷◌, map, Bool, true, false, not, Option, Some, None, refl, ap, sym, ◌∙◌, subst}
use Rattle.std.specs.Bool.{if◌then◌else◌}
use Rattle.std.specs.Option.{option_map_or}
use Rattle.std.specs.List.{filter, list_any}
use Rattle.lh_types.specs.declared.op.Op.TheVariants.{Or}
use Rattle.lh_types.specs.Same.{and_both}
use Rattle.lh_unit_names.specs.declared.name.UnitName.{UnitName}
use Rattle.lh_unit.specs.Within.{Each}
use Rattle.lh_unit.proofs.Lists.{Each-append}
use Rattle.lh_flat_laws.specs.Formed.{IsFormed}
use Rattle.lh_flat.specs.Flat.{FlatText, flat_unit}
use Rattle.lh_term.specs.Tree.{Tree, now_of}
use Rattle.lh_term.specs.Same.{same_part, same_part-is}
use Rattle.lh_term.specs.SameTree.{same_tree}
use Rattle.lh_term.specs.Conjuncts.{conjuncts_of}
use Rattle.lh_term.specs.Laws.{SwapsKeepMeaning}
use Rattle.lh_term.specs.declared.part.Part.{Part}
use Rattle.lh_term_cover.specs.Bits.{covers}
use Rattle.lh_region_def.specs.Rows.{Drive, RegionEnd, Rows}
use Rattle.lh_region_def.specs.Regions.{waited_parts}
use Rattle.lh_region_def.specs.Adjacent.{beyond, drive_merged}
use Rattle.lh_region_def.specs.Right.{DriveTyped}
use Rattle.lh_region_def.proofs.Adjacent.{merged-drives-typed}
use Rattle.lh_region_def.proofs.Activations.{rows-are-typed}
use Rattle.lh_region_def.proofs.Second.{now-typed}
use Rattle.lh_shape.specs.Merging.{are_alike, merged_from, merged_drives}
use Rattle.lh_shape.specs.Reasons.{parts_waited, second_drives}
use Rattle.lh_shape.specs.Shapes.{comb, edge, once, left, edge_row}
use Rattle.lh_emit_def.specs.Emitted.{Source}
use Rattle.lh_term.specs.Leaves.{AllParts}
use Rattle.lh_emit_def.specs.Ways.{IsReached, WaitIsGiven, DriveIsGiven, RowIsGiven}
use Rattle.lh_region_def.specs.Rows.{DriveReads}
use Rattle.lh_entity_laws.specs.Given.{source_in, CombGiven, CombIsGiven, EdgeIsGiven, OnceIsGiven}
use Rattle.lh_entity_laws.proofs.GivenTrees.{make-in, choice-in, conjuncts-in, conjunction-in, filter-in}
use Rattle.lh_entity_laws.proofs.GivenTriggers.{triggers-given}
use Rattle.lh_entity_laws.proofs.GivenRows.{DriveFine, EndFine, CourseFine}
use Rattle.lh_region_laws.proofs.Second.{second-typed}
use Rattle.lh_entity_laws.proofs.GivenRegions.{now-probe, first_of, second_of, first-with, first-reached, second-reached}
use Rattle.lh_entity_laws.proofs.GivenShapes.{HasRows, has-rows, SecondOf, CombOf, comb-of, edge-of, OnceOf, once-of, probes-covered}

-- ---- drives as one

beyond-in : (P : Part → Type 0) (c d : Tree) → AllParts P d → AllParts P (beyond c d)
beyond-in P c d h = conjunction-in P (filter (λ k. not (list_any (same_tree k) (conjuncts_of c))) (conjuncts_of d))
    (filter-in P (λ k. not (list_any (same_tree k) (conjuncts_of c))) (conjuncts_of d) (conjuncts-in P d h))

one-reads : (P : Part → Type 0) (a b : Drive) → DriveReads P a → DriveReads P b → DriveReads P (drive_merged a b)
one-reads P a b h k = record {
  cond = make-in P Or (a.cond ∷ b.cond ∷ []) (h.cond, (k.cond, tt));
  value = choice-in P (beyond a.cond b.cond) a.value b.value (beyond-in P a.cond b.cond k.cond) h.value k.value;
  delay = h.delay;
}

from-reads : (P : Part → Type 0) (a : Drive) (ds : List Drive) → DriveReads P a → Each (DriveReads P) ds → Each (DriveReads P) (merged_from a ds)
from-reads P a [] h k = (h, tt)
from-reads P a (b ∷ ds) h k = by (are_alike a b) (from-reads P (drive_merged a b) ds (one-reads P a b h k.0) k.1) (from-reads P b ds k.0 k.1)
  where
    by : (x : Bool) → Each (DriveReads P) (merged_from (drive_merged a b) ds) → Each (DriveReads P) (merged_from b ds)
        → Each (DriveReads P) (if x then merged_from (drive_merged a b) ds else a ∷ merged_from b ds)
    by true p q = p
    by false p q = (h, q)

-- merged drives read what the drives read
merged-reads : (P : Part → Type 0) (ds : List Drive) → Each (DriveReads P) ds → Each (DriveReads P) (merged_drives ds)
merged-reads P [] h = tt
merged-reads P (a ∷ ds) h = from-reads P a ds h.0 h.1

drive-typed : (s : Source) (d : Drive) → DriveIsGiven s d → DriveTyped d
drive-typed s d h = record {
  cond = record { typed = h.cond.typed; type = h.is_condition };
  part = h.carries;
  value = record { typed = h.value.typed; type = h.is_value };
  delay = record { typed = h.delay.typed; type = h.is_delay };
}

drive-reads : (s : Source) (d : Drive) → DriveIsGiven s d → DriveReads (IsReached s) d
drive-reads s d h = record { cond = h.cond.parts; value = h.value.parts; delay = h.delay.parts }

-- a drive is given where it is typed and its parts are reached
given-by : (s : Source) (d : Drive) → DriveTyped d → DriveReads (IsReached s) d → IsReached s d.part → DriveIsGiven s d
given-by s d t r p = record {
  cond = record { typed = t.cond.typed; parts = r.cond };
  is_condition = t.cond.type;
  is_value = t.value.type;
  is_delay = t.delay.type;
  carries = t.part;
  value = record { typed = t.value.typed; parts = r.value };
  delay = record { typed = t.delay.typed; parts = r.delay };
  part = p;
}

one-given : (s : Source) (a b : Drive) → DriveIsGiven s a → DriveIsGiven s b → are_alike a b ≡ true → DriveIsGiven s (drive_merged a b)
one-given s a b h k e =
    let same : a.part ≡ b.part = same_part-is a.part b.part (and_both (same_part a.part b.part) (same_tree a.delay b.delay) e).0 in
    given-by s (drive_merged a b) (merged-drives-typed a b (drive-typed s a h) (drive-typed s b k) (sym same)) (one-reads (IsReached s) a b (drive-reads s a h) (drive-reads s b k)) h.part

from-given : (s : Source) (a : Drive) (ds : List Drive) → DriveIsGiven s a → Each (DriveIsGiven s) ds → Each (DriveIsGiven s) (merged_from a ds)
from-given s a [] h k = (h, tt)
from-given s a (b ∷ ds) h k = by (are_alike a b) refl (λ g. from-given s (drive_merged a b) ds g k.1) (from-given s b ds k.0 k.1)
  where
    by : (x : Bool) → are_alike a b ≡ x → (DriveIsGiven s (drive_merged a b) → Each (DriveIsGiven s) (merged_from (drive_merged a b) ds)) → Each (DriveIsGiven s) (merged_from b ds)
        → Each (DriveIsGiven s) (if x then merged_from (drive_merged a b) ds else a ∷ merged_from b ds)
    by true e go q = go (one-given s a b h k.0 e)
    by false e go q = (h, q)

merged-given : (s : Source) (ds : List Drive) → Each (DriveIsGiven s) ds → Each (DriveIsGiven s) (merged_drives ds)
merged-given s [] h = tt
merged-given s (a ∷ ds) h = from-given s a ds h.0 h.1

-- ---- the rows of a region

waits-given : (s : Source) (P : RegionEnd → Type 0) → ((x : RegionEnd) → P x → Each (WaitIsGiven s) (waited_parts x.way)) → (xs : List RegionEnd) → Each P xs → Each (WaitIsGiven s) (parts_waited xs)
waits-given s P go [] h = tt
waits-given s P go (x ∷ xs) h = Each-append (WaitIsGiven s) (waited_parts x.way) (parts_waited xs) (go x h.0) (waits-given s P go xs h.1)

drives-given : (s : Source) (P : Drive → Type 0) → ((d : Drive) → P d → DriveReads (IsReached s) d × IsReached s d.part) → (ds : List Drive) → Each DriveTyped ds → Each P ds → Each (DriveIsGiven s) ds
drives-given s P go [] t h = tt
drives-given s P go (d ∷ ds) t h = let z = go d h.0 in (given-by s d t.0 z.0 z.1, drives-given s P go ds t.1 h.1)

drives-read : (T : Part → Type 0) (P : Drive → Type 0) → ((d : Drive) → P d → DriveReads T d) → (ds : List Drive) → Each P ds → Each (DriveReads T) ds
drives-read T P go [] h = tt
drives-read T P go (d ∷ ds) h = (go d h.0, drives-read T P go ds h.1)

module _ (name : UnitName) (t : FlatText) (f : IsFormed (flat_unit name t)) (h : HasRows t) where
  abbrev s : Source
  s = source_in name t

  abbrev fine : CourseFine (flat_unit name t) (IsReached s) (first_of name t f now_of) (now-probe (IsReached s)) h.course
  fine = first-reached name t f now_of now-probe now-typed h.course h.comes

  first-given : Each (DriveIsGiven s) h.course.rows.drives
  first-given =
      drives-given s (DriveFine (flat_unit name t) (IsReached s) (first_of name t f now_of) (now-probe (IsReached s)))
      (λ d k. (record { cond = k.cond; value = k.value; delay = k.delay }, k.part.part)) h.course.rows.drives (rows-are-typed name t f h.plain now_of now-typed h.course h.comes).0 fine.rows.drives

  first-waits : Each (WaitIsGiven s) (parts_waited h.course.rows.ends)
  first-waits = waits-given s (EndFine (flat_unit name t) (IsReached s) (first_of name t f now_of) (now-probe (IsReached s))) (λ x k. k.way) h.course.rows.ends fine.rows.ends

  -- its drives read only what is probed
  first-reads : (T : Part → Type 0) → Each T h.course.rows.probes → Each (DriveReads T) h.course.rows.drives
  first-reads T k =
      drives-read T (DriveFine (flat_unit name t) T (first_of name t f now_of) (now-probe T)) (λ d j. record { cond = j.cond; value = j.value; delay = j.delay }) h.course.rows.drives
      (first-with name t f now_of now-probe now-typed h.course h.comes T k).rows.drives

  comb-rows : (waited : List Part) (ds : List Drive) → CombOf h.regions waited ds → CombGiven s waited ds
  comb-rows waited ds o =
      let waits : parts_waited h.course.rows.ends ≡ waited = ap (λ (r : Rows). parts_waited r.ends) (sym h.first) ∙ o.waits in
      let drives : merged_drives h.course.rows.drives ≡ ds = ap (λ (r : Rows). merged_drives r.drives) (sym h.first) ∙ o.drives in
      let covered : Each (λ p. covers (parts_waited h.course.rows.ends) p ≡ true) h.course.rows.probes = subst (λ (r : Rows). Each (λ p. covers (parts_waited r.ends) p ≡ true) r.probes) h.first
      (probes-covered h.regions.first o.sensitive) in
      record {
        waits = subst (Each (WaitIsGiven s)) waits first-waits;
        drives = subst (Each (DriveIsGiven s)) drives (merged-given s h.course.rows.drives first-given);
        reads = subst (Each (DriveReads (λ p. covers waited p ≡ true))) drives
            (merged-reads (λ p. covers waited p ≡ true) h.course.rows.drives
            (first-reads (λ p. covers waited p ≡ true) (subst (λ ws. Each (λ p. covers ws p ≡ true) h.course.rows.probes) waits covered)));
      }

  once-rows : (ds : List Drive) → OnceOf h.regions ds → Each (DriveIsGiven s) ds × Each (DriveReads (λ p. ⊥)) ds
  once-rows ds o =
      let drives : h.course.rows.drives ≡ ds = ap (λ (r : Rows). r.drives) (sym h.first) ∙ o.drives in
      let none : h.course.rows.probes ≡ [] = ap (λ (r : Rows). r.probes) (sym h.first) ∙ o.no_probe in
      (subst (Each (DriveIsGiven s)) drives first-given, subst (Each (DriveReads (λ p. ⊥))) drives (first-reads (λ p. ⊥) (subst (Each (λ p. ⊥)) (sym none) tt)))

  -- ---- the second region

  module _ (laws : SwapsKeepMeaning) (waited : List Part) where
    row-given : (d : Drive) → DriveIsGiven s d → RowIsGiven s (edge_row waited d)
    row-given d k = record {
      is_value = k.is_value;
      is_delay = k.is_delay;
      carries = k.carries;
      value = k.value;
      delay = k.delay;
      part = k.part;
      triggers = triggers-given laws s d.cond k.cond.typed k.is_condition k.cond.parts waited;
    }

    rows-given : (ds : List Drive) → Each (DriveIsGiven s) ds → Each (RowIsGiven s) (map (edge_row waited) ds)
    rows-given [] k = tt
    rows-given (d ∷ ds) k = (row-given d k.0, rows-given ds k.1)

    second-given : (r : Rows) → SecondOf t h.course r → Each (DriveIsGiven s) r.drives
    second-given r o =
        let k = second-reached name t f h.plain h.course h.comes o.target o.is_target o.course o.comes in
        let typed = second-typed name t f h.plain h.course h.comes o.target o.is_target o.course o.comes in
        subst (λ (x : Rows). Each (DriveIsGiven s) x.drives) o.rows_are
        (drives-given s (DriveFine (flat_unit name t) (IsReached s) (second_of name t f) (now-probe (IsReached s))) (λ d j. (record { cond = j.cond; value = j.value; delay = j.delay }, j.part.part))
        o.course.rows.drives typed.0 k.rows.drives)

    all-given : (o : Option Rows) → h.regions.second ≡ o → Each (DriveIsGiven s) (option_map_or (λ (x : Rows). x.drives) o [])
    all-given None q = tt
    all-given (Some r) q = second-given r (h.second r q)

    pub edge-rows : Each (RowIsGiven s) (map (edge_row waited) (second_drives h.regions))
    edge-rows = rows-given (second_drives h.regions) (all-given h.regions.second refl)

-- ---- the laws

pub comb-given : CombIsGiven
comb-given name t f waited ds e = let h = has-rows t (λ x q. let z : comb waited ds ≡ left x = sym e ∙ q in absurd cc) in comb-rows name t f h waited ds (comb-of h.regions waited ds (sym h.shape ∙ e))

pub once-given : OnceIsGiven
once-given name t f ds e = let h = has-rows t (λ x q. let z : once ds ≡ left x = sym e ∙ q in absurd cc) in once-rows name t f h ds (once-of h.regions ds (sym h.shape ∙ e))

pub edge-given : SwapsKeepMeaning → EdgeIsGiven
edge-given laws name t f rs e =
    let h = has-rows t (λ x q. let z : edge rs ≡ left x = sym e ∙ q in absurd cc) in
    subst (Each (RowIsGiven (source_in name t))) (edge-of h.regions rs (sym h.shape ∙ e)) (edge-rows name t f h laws (parts_waited h.regions.first.ends))
