-- What it means that a flat text has a shape: which regions it has, and that no reason to leave it holds.
use Rattle.std.proofs.Common.{◌≡◌, ℕ, List, map, Bool, true, false, not, ◌&&◌, if◌then◌else◌, Option, Some, None, refl, ap, sym, ◌∙◌}
use Rattle.std.specs.List.{list_any}
use Rattle.lh_unit.specs.Within.{Each}
use Rattle.lh_term.specs.Tree.{now_of}
use Rattle.lh_term.specs.Make.{is_constant}
use Rattle.lh_term.specs.declared.part.Part.{Part}
use Rattle.lh_edge.specs.Atoms.{contains_past}
use Rattle.lh_edge.specs.Shown.{is_edge_shown}
use Rattle.lh_edge.specs.Triggers.{EdgeRowTree}
use Rattle.lh_flat.specs.Flat.{FlatText}
use Rattle.lh_region_def.specs.Rows.{Drive, RegionEnd, Rows}
use Rattle.lh_region_def.specs.Regions.{head_of, begins_with_phi, lines_at, RegionRefusal, Course, Coursed, stops, comes_to, first_region, second_region, one_target, Regions, Regioned, no_regions, has_regions, head_phi, with_second, second_if, with_first, regions_of}
use Rattle.lh_shape.specs.declared.reason.Reason.{Reason}
use Rattle.lh_shape.specs.Merging.{merged_drives}
use Rattle.lh_shape.specs.Reasons.{ends_halted, is_empty, is_once, in_some, is_timed, is_wait, are_mixed, waits_for_head, parts_waited, second_drives, second_ends, reasons, first_holding, region_reason}
use Rattle.lh_shape.specs.Shapes.{ShapeText, comb, edge, once, left, edge_row, shaped, unless_left, shape_by_rows, shape_by_regions, shape_of_text}
use Rattle.lh_entity_laws.proofs.GivenShapes.{first-none}

-- ---- the regions

-- the walk through the regions of a flat text
pub record Walked (t : FlatText) (r : Regions) : Type 0 where
  pub plain : begins_with_phi (lines_at t.blocks (head_of t.blocks)) ≡ false
  pub course : Course
  pub first : first_region t now_of ≡ comes_to course
  pub rows : course.rows ≡ r.first
  pub second : second_if t course.rows (one_target course.rows.ends) ≡ has_regions r

no-regions-not : {A : Type 0} (x : RegionRefusal) (r : Regions) → no_regions x ≡ has_regions r → A
no-regions-not x r e = cc

same-regions : (x y : Regions) → has_regions x ≡ has_regions y → x ≡ y
same-regions x y e = cc

module _ (t : FlatText) (r : Regions) where
  with-rows : (first : Rows) (x : Coursed) → with_second first x ≡ has_regions r → first ≡ r.first
  with-rows first (stops z) e = no-regions-not z r e
  with-rows first (comes_to s) e = ap (λ (y : Regions). y.first) (same-regions (record { first = first; second = Some s.rows }) r e)

  if-rows : (first : Rows) (o : Option ℕ) → second_if t first o ≡ has_regions r → first ≡ r.first
  if-rows first None e = ap (λ (y : Regions). y.first) (same-regions (record { first = first; second = None }) r e)
  if-rows first (Some n) e = with-rows first (second_region t n) e

  pub walked : regions_of t ≡ has_regions r → Walked t r
  walked e = by (begins_with_phi (lines_at t.blocks (head_of t.blocks))) refl e
    where
      at : begins_with_phi (lines_at t.blocks (head_of t.blocks)) ≡ false → (x : Coursed) → first_region t now_of ≡ x → with_first t x ≡ has_regions r → Walked t r
      at p (stops z) q f = no-regions-not z r f
      at p (comes_to c) q f = record { plain = p; course = c; first = q; rows = if-rows c.rows (one_target c.rows.ends) f; second = f }

      by : (b : Bool) → begins_with_phi (lines_at t.blocks (head_of t.blocks)) ≡ b → (if b then no_regions head_phi else with_first t (first_region t now_of)) ≡ has_regions r → Walked t r
      by true p f = no-regions-not head_phi r f
      by false p f = at p (first_region t now_of) refl f

  -- the second region, where there is one
  pub record SecondWalk (n : ℕ) : Type 0 where
    pub course : Course
    pub is : second_region t n ≡ comes_to course
    pub rows : r.second ≡ Some course.rows

  pub second-walk : (w : Walked t r) (n : ℕ) → one_target w.course.rows.ends ≡ Some n → SecondWalk n
  second-walk w n q = at (second_region t n) refl (ap (second_if t w.course.rows) (sym q) ∙ w.second)
    where
      at : (x : Coursed) → second_region t n ≡ x → with_second w.course.rows x ≡ has_regions r → SecondWalk n
      at (stops z) p f = no-regions-not z r f
      at (comes_to s) p f = record { course = s; is = p; rows = sym (ap (λ (y : Regions). y.second) (same-regions (record { first = w.course.rows; second = Some s.rows }) r f)) }

-- ---- the reasons

-- no reason holds
pub record NoReason (r : Regions) : Type 0 where
  pub halts : in_some (λ (s : Rows). list_any ends_halted s.ends) r ≡ false
  pub asserts : in_some (λ (s : Rows). not (is_empty s.asserts)) r ≡ false
  pub timed : list_any (λ (e : RegionEnd). is_timed e.way) r.first.ends ≡ false
  pub mixed : are_mixed r.first.ends ≡ false
  pub delays : in_some (λ (s : Rows). list_any (λ (d : Drive). not (is_constant d.delay)) s.drives) r ≡ false
  pub before : (not (waits_for_head r.first.ends) && not (is_empty r.first.drives)) ≡ false
  pub twice : list_any (λ (e : RegionEnd). is_wait e.way) (second_ends r) ≡ false
  pub past : list_any (λ (d : Drive). contains_past d.value) (second_drives r) ≡ false
  pub edges : list_any (λ (d : Drive). not (is_edge_shown (parts_waited r.first.ends) d.cond)) (second_drives r) ≡ false

no-reason : (r : Regions) → first_holding (reasons r) ≡ None → NoReason r
no-reason r e =
    let h : Each (λ (x : Bool × Reason). x.0 ≡ false) (reasons r) = first-none (reasons r) e in
    record {
      halts = h.0;
      asserts = h.1.0;
      timed = h.1.1.0;
      mixed = h.1.1.1.0;
      delays = h.1.1.1.1.1.0;
      before = h.1.1.1.1.1.1.0;
      twice = h.1.1.1.1.1.1.1.0;
      past = h.1.1.1.1.1.1.1.1.0;
      edges = h.1.1.1.1.1.1.1.1.1.1.0;
    }

-- ---- the shapes

pub record OnceRegions (t : FlatText) (ds : List Drive) : Type 0 where
  pub regions : Regions
  pub walk : Walked t regions
  pub is : is_once regions.first ≡ true
  pub drives : regions.first.drives ≡ ds

pub record CombRegions (t : FlatText) (waited : List Part) (ds : List Drive) : Type 0 where
  pub regions : Regions
  pub walk : Walked t regions
  pub none : NoReason regions
  pub head : waits_for_head regions.first.ends ≡ true
  pub waits : parts_waited regions.first.ends ≡ waited
  pub drives : merged_drives regions.first.drives ≡ ds

pub record EdgeRegions (t : FlatText) (rs : List EdgeRowTree) : Type 0 where
  pub regions : Regions
  pub walk : Walked t regions
  pub none : NoReason regions
  pub head : waits_for_head regions.first.ends ≡ false
  pub rows : map (edge_row (parts_waited regions.first.ends)) (second_drives regions) ≡ rs

left-not-once : {A : Type 0} (x : Reason) (ds : List Drive) → left x ≡ once ds → A
left-not-once x ds e = cc

left-not-comb : {A : Type 0} (x : Reason) (ws : List Part) (ds : List Drive) → left x ≡ comb ws ds → A
left-not-comb x ws ds e = cc

left-not-edge : {A : Type 0} (x : Reason) (rs : List EdgeRowTree) → left x ≡ edge rs → A
left-not-edge x rs e = cc

once-not-comb : {A : Type 0} (x : List Drive) (ws : List Part) (ds : List Drive) → once x ≡ comb ws ds → A
once-not-comb x ws ds e = cc

once-not-edge : {A : Type 0} (x : List Drive) (rs : List EdgeRowTree) → once x ≡ edge rs → A
once-not-edge x rs e = cc

comb-not-once : {A : Type 0} (ws : List Part) (ds x : List Drive) → comb ws ds ≡ once x → A
comb-not-once ws ds x e = cc

edge-not-once : {A : Type 0} (rs : List EdgeRowTree) (x : List Drive) → edge rs ≡ once x → A
edge-not-once rs x e = cc

comb-not-edge : {A : Type 0} (ws : List Part) (ds : List Drive) (rs : List EdgeRowTree) → comb ws ds ≡ edge rs → A
comb-not-edge ws ds rs e = cc

edge-not-comb : {A : Type 0} (ws : List Part) (ds : List Drive) (rs : List EdgeRowTree) → edge rs ≡ comb ws ds → A
edge-not-comb ws ds rs e = cc

once-is : (x y : List Drive) → once x ≡ once y → x ≡ y
once-is x y e = cc

comb-waits : (v w : List Part) (x y : List Drive) → comb v x ≡ comb w y → v ≡ w
comb-waits v w x y e = cc

comb-drives : (v w : List Part) (x y : List Drive) → comb v x ≡ comb w y → x ≡ y
comb-drives v w x y e = cc

edge-is : (x y : List EdgeRowTree) → edge x ≡ edge y → x ≡ y
edge-is x y e = cc

-- the regions that give a shape
module _ (t : FlatText) (s : ShapeText) (e : shape_of_text t ≡ s) (kept : (x : Reason) → left x ≡ s → ⊥) where
  pub record HasRegions : Type 0 where
    pub regions : Regions
    pub walk : Walked t regions
    pub shape : shape_by_rows regions ≡ s

  pub has-regions : HasRegions
  has-regions = by (regions_of t) refl e
    where
      by : (x : Regioned) → regions_of t ≡ x → shape_by_regions x ≡ s → HasRegions
      by (no_regions z) q f = absurd (kept (region_reason z) f)
      by (has_regions r) q f = record { regions = r; walk = walked t r q; shape = f }

  -- either it runs once, or no reason holds
  pub data Cases (r : Regions) : Type 0 where
    runs_once : is_once r.first ≡ true → once r.first.drives ≡ s → Cases r
    no_reason : NoReason r → shaped r ≡ s → Cases r

  pub cases : (r : Regions) → shape_by_rows r ≡ s → Cases r
  cases r f = by (is_once r.first) refl f
    where
      at : (o : Option Reason) → first_holding (reasons r) ≡ o → unless_left o (shaped r) ≡ s → Cases r
      at (Some x) q g = absurd (kept x g)
      at None q g = no_reason (no-reason r q) g

      by : (b : Bool) → is_once r.first ≡ b → (if b then once r.first.drives else unless_left (first_holding (reasons r)) (shaped r)) ≡ s → Cases r
      by true q g = runs_once q g
      by false q g = at (first_holding (reasons r)) refl g

pub once-regions : (t : FlatText) (ds : List Drive) → shape_of_text t ≡ once ds → OnceRegions t ds
once-regions t ds e =
    let h = has-regions t (once ds) e (λ x f. left-not-once x ds f) in
    at h.regions h.walk (cases t (once ds) e (λ x f. left-not-once x ds f) h.regions h.shape)
  where
    shaped-not : (r : Regions) (b : Bool) → (if b then comb (parts_waited r.first.ends) (merged_drives r.first.drives) else edge (map (edge_row (parts_waited r.first.ends)) (second_drives r)))
        ≡ once ds → OnceRegions t ds
    shaped-not r true f = comb-not-once (parts_waited r.first.ends) (merged_drives r.first.drives) ds f
    shaped-not r false f = edge-not-once (map (edge_row (parts_waited r.first.ends)) (second_drives r)) ds f

    at : (r : Regions) → Walked t r → Cases t (once ds) e (λ x f. left-not-once x ds f) r → OnceRegions t ds
    at r w (runs_once q f) = record { regions = r; walk = w; is = q; drives = once-is r.first.drives ds f }
    at r w (no_reason n f) = shaped-not r (waits_for_head r.first.ends) f

pub comb-regions : (t : FlatText) (ws : List Part) (ds : List Drive) → shape_of_text t ≡ comb ws ds → CombRegions t ws ds
comb-regions t ws ds e =
    let h = has-regions t (comb ws ds) e (λ x f. left-not-comb x ws ds f) in
    at h.regions h.walk (cases t (comb ws ds) e (λ x f. left-not-comb x ws ds f) h.regions h.shape)
  where
    by : (r : Regions) → Walked t r → NoReason r → (b : Bool) → waits_for_head r.first.ends ≡ b
        → (if b then comb (parts_waited r.first.ends) (merged_drives r.first.drives) else edge (map (edge_row (parts_waited r.first.ends)) (second_drives r))) ≡ comb ws ds → CombRegions t ws ds
    by r w n true q f = record {
      regions = r;
      walk = w;
      none = n;
      head = q;
      waits = comb-waits (parts_waited r.first.ends) ws (merged_drives r.first.drives) ds f;
      drives = comb-drives (parts_waited r.first.ends) ws (merged_drives r.first.drives) ds f;
    }
    by r w n false q f = edge-not-comb ws ds (map (edge_row (parts_waited r.first.ends)) (second_drives r)) f

    at : (r : Regions) → Walked t r → Cases t (comb ws ds) e (λ x f. left-not-comb x ws ds f) r → CombRegions t ws ds
    at r w (runs_once q f) = once-not-comb r.first.drives ws ds f
    at r w (no_reason n f) = by r w n (waits_for_head r.first.ends) refl f

pub edge-regions : (t : FlatText) (rs : List EdgeRowTree) → shape_of_text t ≡ edge rs → EdgeRegions t rs
edge-regions t rs e =
    let h = has-regions t (edge rs) e (λ x f. left-not-edge x rs f) in
    at h.regions h.walk (cases t (edge rs) e (λ x f. left-not-edge x rs f) h.regions h.shape)
  where
    by : (r : Regions) → Walked t r → NoReason r → (b : Bool) → waits_for_head r.first.ends ≡ b
        → (if b then comb (parts_waited r.first.ends) (merged_drives r.first.drives) else edge (map (edge_row (parts_waited r.first.ends)) (second_drives r))) ≡ edge rs → EdgeRegions t rs
    by r w n true q f = comb-not-edge (parts_waited r.first.ends) (merged_drives r.first.drives) rs f
    by r w n false q f = record { regions = r; walk = w; none = n; head = q; rows = edge-is (map (edge_row (parts_waited r.first.ends)) (second_drives r)) rs f }

    at : (r : Regions) → Walked t r → Cases t (edge rs) e (λ x f. left-not-edge x rs f) r → EdgeRegions t rs
    at r w (runs_once q f) = once-not-edge r.first.drives rs f
    at r w (no_reason n f) = by r w n (waits_for_head r.first.ends) refl f
