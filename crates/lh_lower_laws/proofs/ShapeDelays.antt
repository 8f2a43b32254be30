-- The delays of the shape of a flat text can be written where its constants can.
use Rattle.std.proofs.Common.{◌≡◌, ℕ, List, [], ◌∷◌, map, Bool, true, false, nat_eq, Option, Some, None, refl, sym, ◌∙◌, subst}
use Rattle.std.specs.Bool.{if◌then◌else◌}
use Rattle.std.specs.Prelude.{zero, suc}
use Rattle.std.specs.Option.{option_map_or}
use Rattle.lh_types.specs.Types.{IsData}
use Rattle.lh_types.specs.Values.{Datum, int_value, time_value, array_value, tuple_value}
use Rattle.lh_unit_names.specs.declared.name.UnitName.{UnitName}
use Rattle.lh_unit.specs.Within.{Each}
use Rattle.lh_flat_laws.specs.Formed.{IsFormed}
use Rattle.lh_flat.specs.Flat.{FlatBlockText, FlatText, flat_unit}
use Rattle.lh_term.specs.Tree.{Tree, constant, past_of, now_of, operation, choice_of}
use Rattle.lh_term.specs.declared.part.Part.{Part}
use Rattle.lh_region_def.specs.Known.{nothing_known, with_arguments}
use Rattle.lh_region_def.specs.Rows.{Drive, RegionEnd, Rows}
use Rattle.lh_region_def.specs.Places.{Region}
use Rattle.lh_region_def.specs.Regions.{lines_at, head_of, known_first, edge_into, edges_of_ends, Course, Coursed, stops, comes_to, then_course, region_from, first_region, second_region}
use Rattle.lh_region_def.specs.Adjacent.{drive_merged}
use Rattle.lh_region_def.specs.Typed.{IsOfType}
use Rattle.lh_region_def.proofs.Courses.{stops-not}
use Rattle.lh_region_def.proofs.Second.{past-typed, now-typed}
use Rattle.lh_shape.specs.Merging.{are_alike, merged_from, merged_drives}
use Rattle.lh_shape.specs.Reasons.{parts_waited, second_drives}
use Rattle.lh_shape.specs.Shapes.{ShapeText, comb, edge, once, left, edge_row, shape_of_text}
use Rattle.lh_emit_def.specs.Printed.{TimeIsWritable, DelayIsWritable, DriveIsWritable, RowIsWritable}
use Rattle.lh_entity_laws.proofs.GivenShapes.{HasRows, has-rows, SecondOf, comb-of, edge-of, once-of}
use Rattle.lh_lower_laws.specs.Delays.{ShapeIsWritable}
use Rattle.lh_lower_laws.proofs.Times.{Writable, LineFine}
use Rattle.lh_lower_laws.proofs.Constants.{In}
use Rattle.lh_lower_laws.proofs.WrittenConstants.{KnowsFine, constants-fine, arguments-fine, nothing-fine, EdgeFine, BlockFine, merge-fine, EndFine, CourseFine, region-fine}

-- ---- delays

time-written : (v : Datum) → Writable v → TimeIsWritable v
time-written (int_value n a) h = tt
time-written (time_value d) h = h
time-written (array_value vs) h = tt
time-written (tuple_value vs) h = tt

delay-written : (t : Tree) → In t → DelayIsWritable t
delay-written (constant v) h = time-written v h
delay-written (past_of p) h = tt
delay-written (now_of p) h = tt
delay-written (operation o ts) h = tt
delay-written (choice_of c f t) h = tt

abbrev DelayFine : Drive → Type 0
DelayFine d = In d.delay

drives-written : (ds : List Drive) → Each DelayFine ds → Each DriveIsWritable ds
drives-written [] h = tt
drives-written (d ∷ ds) h = (delay-written d.delay h.0, drives-written ds h.1)

rows-written : (waited : List Part) (ds : List Drive) → Each DelayFine ds → Each RowIsWritable (map (edge_row waited) ds)
rows-written waited [] h = tt
rows-written waited (d ∷ ds) h = (delay-written d.delay h.0, rows-written waited ds h.1)

-- the first of the drives that are merged has the delay
from-fine : (a : Drive) (ds : List Drive) → DelayFine a → Each DelayFine ds → Each DelayFine (merged_from a ds)
from-fine a [] h k = (h, tt)
from-fine a (b ∷ ds) h k = by (are_alike a b) (from-fine (drive_merged a b) ds h k.1) (from-fine b ds k.0 k.1)
  where
    by : (x : Bool) → Each DelayFine (merged_from (drive_merged a b) ds) → Each DelayFine (merged_from b ds) → Each DelayFine (if x then merged_from (drive_merged a b) ds else a ∷ merged_from b ds)
    by true p q = p
    by false p q = (h, q)

merged-fine : (ds : List Drive) → Each DelayFine ds → Each DelayFine (merged_drives ds)
merged-fine [] h = tt
merged-fine (d ∷ ds) h = from-fine d ds h.0 h.1

-- ---- regions

at-fine : (bs : List FlatBlockText) (k : ℕ) → Each BlockFine bs → Each LineFine (lines_at bs k)
at-fine [] k h = tt
at-fine (b ∷ bs) zero h = merge-fine b.merge b.lines h.0
at-fine (b ∷ bs) (suc k) h = at-fine bs k h.1

module _ (name : UnitName) (t : FlatText) (f : IsFormed (flat_unit name t)) (written : Each BlockFine t.blocks) where
  abbrev first_of : (Part → Tree) → Region
  first_of probe = record { blocks = t.blocks; head = head_of t.blocks; probe = probe; ends_at_head = false }

  abbrev second_of : Region
  second_of = record { blocks = t.blocks; head = head_of t.blocks; probe = now_of; ends_at_head = true }

  entry-fine : (b : Bool) → Each LineFine (if b then [] else lines_at t.blocks 0)
  entry-fine true = tt
  entry-fine false = at-fine t.blocks 0 written

  head-fine : KnowsFine (known_first t)
  head-fine =
      constants-fine (with_arguments nothing_known 0 t.args) (if nat_eq (head_of t.blocks) 0 then [] else lines_at t.blocks 0) (entry-fine (nat_eq (head_of t.blocks) 0))
      (arguments-fine nothing_known 0 t.args nothing-fine)

  first-fine : (probe : Part → Tree) (probed : (p : Part) → In (probe p)) → ((p : Part) → IsData p.ty → IsOfType p.ty (probe p)) → (c : Course) → first_region t probe ≡ comes_to c
      → CourseFine (first_of probe) probed c
  first-fine probe probed typed c e =
      region-fine (first_of probe) probed (flat_unit name t) (record { formed = f; blocks = refl; probe = typed }) written (head_of t.blocks)
      (edge_into (head_of t.blocks) [] (constant (int_value 1 1)) (known_first t) ∷ []) c
      (record { cond = tt; known = head-fine }, tt) e

  past-in : (p : Part) → In (past_of p)
  past-in p = tt

  now-in : (p : Part) → In (now_of p)
  now-in p = tt

  edges-fine : (n : ℕ) (xs : List RegionEnd) → Each (EndFine (first_of past_of) past-in) xs → Each EdgeFine (edges_of_ends n xs)
  edges-fine n [] h = tt
  edges-fine n (x ∷ xs) h = (record { cond = h.0.cond; known = h.0.known }, edges-fine n xs h.1)

  second-fine : (n : ℕ) (d : Course) → second_region t n ≡ comes_to d → CourseFine second_of now-in d
  second-fine n d e = by (first_region t past_of) refl e
    where
      by : (x : Coursed) → first_region t past_of ≡ x → then_course x (λ (c : Course). region_from second_of n (edges_of_ends n c.rows.ends)) ≡ comes_to d → CourseFine second_of now-in d
      by (stops z) q w = stops-not z d w
      by (comes_to c) q w =
          region-fine second_of now-in (flat_unit name t) (record { formed = f; blocks = refl; probe = now-typed }) written n (edges_of_ends n c.rows.ends) d
          (edges-fine n c.rows.ends (first-fine past_of past-in past-typed c q).ends) w

  -- ---- shapes

  module _ (h : HasRows t) where
    first-drives : Each DelayFine h.regions.first.drives
    first-drives = subst (λ (r : Rows). Each DelayFine r.drives) (sym h.first) (first-fine now_of now-in now-typed h.course h.comes).drives

    second-by : (o : Option Rows) → h.regions.second ≡ o → Each DelayFine (option_map_or (λ (x : Rows). x.drives) o [])
    second-by None q = tt
    second-by (Some r) q = let s : SecondOf t h.course r = h.second r q in subst (λ (x : Rows). Each DelayFine x.drives) s.rows_are (second-fine s.target s.course s.comes).drives

  pub shape-written : (z : ShapeText) → shape_of_text t ≡ z → ShapeIsWritable z
  shape-written (comb waited ds) e =
      let h = has-rows t (λ x q. let w : comb waited ds ≡ left x = sym e ∙ q in absurd cc) in
      subst (Each DriveIsWritable) (comb-of h.regions waited ds (sym h.shape ∙ e)).drives (drives-written (merged_drives h.regions.first.drives) (merged-fine h.regions.first.drives (first-drives h)))
  shape-written (once ds) e =
      let h = has-rows t (λ x q. let w : once ds ≡ left x = sym e ∙ q in absurd cc) in
      subst (Each DriveIsWritable) (once-of h.regions ds (sym h.shape ∙ e)).drives (drives-written h.regions.first.drives (first-drives h))
  shape-written (edge rs) e =
      let h = has-rows t (λ x q. let w : edge rs ≡ left x = sym e ∙ q in absurd cc) in
      subst (Each RowIsWritable) (edge-of h.regions rs (sym h.shape ∙ e)) (rows-written (parts_waited h.regions.first.ends) (second_drives h.regions) (second-by h h.regions.second refl))
  shape-written (left r) e = tt
