-- What a shape tells of the rows of a flat text.
use Rattle.std.proofs.Common.{◌≡◌, ℕ, List, [], ◌∷◌, map, Bool, true, false, not, ◌&&◌, Option, Some, None, refl, ap, sym, ◌∙◌}
use Rattle.std.specs.Bool.{if◌then◌else◌}
use Rattle.std.specs.List.{list_any, list_all}
use Rattle.std.proofs.lemmas.Bool.{false≢true, or_parts}
use Rattle.std.specs.Cmp.{second_so, first_so}
use Rattle.lh_unit.specs.Within.{Each}
use Rattle.lh_flat.specs.Flat.{FlatText}
use Rattle.lh_term.specs.Tree.{now_of}
use Rattle.lh_term.specs.declared.part.Part.{Part}
use Rattle.lh_term_cover.specs.Bits.{covers}
use Rattle.lh_edge.specs.Triggers.{EdgeRowTree}
use Rattle.lh_region_def.specs.Rows.{Drive, Rows}
use Rattle.lh_region_def.specs.Regions.{begins_with_phi, lines_at, head_of, head_phi, Course, Coursed, stops, comes_to, first_region, second_region, one_target, Regions, no_regions, with_second, second_if, with_first, regions_of}
use Rattle.lh_shape.specs.Merging.{merged_drives}
use Rattle.lh_shape.specs.Reasons.{ends_halted, is_empty, is_once, waits_for_head, parts_waited, is_insensitive, second_drives, reasons, first_holding, region_reason}
use Rattle.lh_shape.specs.Shapes.{comb, edge, once, left, edge_row, shaped, unless_left, shape_by_rows, shape_by_regions, shape_of_text}
use Rattle.lh_shape.specs.declared.reason.Reason.{Reason}

-- ---- a text that has a shape has rows

-- the rows of the second region
pub record SecondOf (t : FlatText) (c : Course) (rows : Rows) : Type 0 where
  pub target : ℕ
  pub is_target : one_target c.rows.ends ≡ Some target
  pub course : Course
  pub comes : second_region t target ≡ comes_to course
  pub rows_are : course.rows ≡ rows

pub record HasRows (t : FlatText) : Type 0 where
  pub plain : begins_with_phi (lines_at t.blocks (head_of t.blocks)) ≡ false
  pub course : Course
  pub comes : first_region t now_of ≡ comes_to course
  pub regions : Regions
  pub first : regions.first ≡ course.rows
  pub second : (rows : Rows) → regions.second ≡ Some rows → SecondOf t course rows
  pub shape : shape_of_text t ≡ shape_by_rows regions

module _ (t : FlatText) (stays : (x : Reason) → shape_of_text t ≡ left x → ⊥) where
  module _ (plain : begins_with_phi (lines_at t.blocks (head_of t.blocks)) ≡ false) (c : Course) (e : first_region t now_of ≡ comes_to c) where
    regions-are : regions_of t ≡ second_if t c.rows (one_target c.rows.ends)
    regions-are = ap (λ b. if b then no_regions head_phi else with_first t (first_region t now_of)) plain ∙ ap (with_first t) e

    none-second : (rows : Rows) → None ≡ Some rows → SecondOf t c rows
    none-second rows q = absurd cc

    with-target : (n : ℕ) → one_target c.rows.ends ≡ Some n → (x : Coursed) → second_region t n ≡ x → HasRows t
    with-target n to (stops r) q = absurd (stays (region_reason r) (ap shape_by_regions (regions-are ∙ ap (second_if t c.rows) to ∙ ap (with_second c.rows) q)))
    with-target n to (comes_to d) q = record {
      plain = plain;
      course = c;
      comes = e;
      regions = record { first = c.rows; second = Some d.rows };
      first = refl;
      second = λ rows z. record { target = n; is_target = to; course = d; comes = q; rows_are = let g : d.rows ≡ rows = cc in g };
      shape = ap shape_by_regions (regions-are ∙ ap (second_if t c.rows) to ∙ ap (with_second c.rows) q);
    }

    by-target : (o : Option ℕ) → one_target c.rows.ends ≡ o → HasRows t
    by-target None to = record {
      plain = plain;
      course = c;
      comes = e;
      regions = record { first = c.rows; second = None };
      first = refl;
      second = none-second;
      shape = ap shape_by_regions (regions-are ∙ ap (second_if t c.rows) to);
    }
    by-target (Some n) to = with-target n to (second_region t n) refl

  by-first : begins_with_phi (lines_at t.blocks (head_of t.blocks)) ≡ false → (x : Coursed) → first_region t now_of ≡ x → HasRows t
  by-first plain (stops r) q = absurd (stays (region_reason r) (ap shape_by_regions (ap (λ b. if b then no_regions head_phi else with_first t (first_region t now_of)) plain ∙ ap (with_first t) q)))
  by-first plain (comes_to c) q = by-target plain c q (one_target c.rows.ends) refl

  pub has-rows : HasRows t
  has-rows = by (begins_with_phi (lines_at t.blocks (head_of t.blocks))) refl
    where
      by : (b : Bool) → begins_with_phi (lines_at t.blocks (head_of t.blocks)) ≡ b → HasRows t
      by true q = absurd (stays (region_reason head_phi) (ap (λ b. shape_by_regions (if b then no_regions head_phi else with_first t (first_region t now_of))) q))
      by false q = by-first q (first_region t now_of) refl

-- ---- which shape

pub first-none : (xs : List (Bool × Reason)) → first_holding xs ≡ None → Each (λ (x : Bool × Reason). x.0 ≡ false) xs
first-none [] h = tt
first-none (x ∷ xs) h = by x.0 refl h (first-none xs)
  where
    by : (b : Bool) → x.0 ≡ b → (if b then Some x.1 else first_holding xs) ≡ None → (first_holding xs ≡ None → Each (λ (y : Bool × Reason). y.0 ≡ false) xs)
        → Each (λ (y : Bool × Reason). y.0 ≡ false) (x ∷ xs)
    by true q g go = absurd cc
    by false q g go = (q, go g)

-- what is combinational
pub record CombOf (r : Regions) (waited : List Part) (ds : List Drive) : Type 0 where
  pub waits : parts_waited r.first.ends ≡ waited
  pub drives : merged_drives r.first.drives ≡ ds
  pub sensitive : is_insensitive r.first ≡ false

pub comb-of : (r : Regions) (waited : List Part) (ds : List Drive) → shape_by_rows r ≡ comb waited ds → CombOf r waited ds
comb-of r waited ds h = by (is_once r.first) h
  where
    sensitive : waits_for_head r.first.ends ≡ true → first_holding (reasons r) ≡ None → is_insensitive r.first ≡ false
    sensitive q n = ap (λ b. b && is_insensitive r.first) (sym q) ∙ (first-none (reasons r) n).1.1.1.1.0

    headed : first_holding (reasons r) ≡ None → (b : Bool) → waits_for_head r.first.ends ≡ b
        → (if b then comb (parts_waited r.first.ends) (merged_drives r.first.drives) else edge (map (edge_row (parts_waited r.first.ends)) (second_drives r))) ≡ comb waited ds → CombOf r waited ds
    headed n true q e = record { waits = cc; drives = cc; sensitive = sensitive q n }
    headed n false q e = absurd cc

    held : (o : Option Reason) → first_holding (reasons r) ≡ o → unless_left o (shaped r) ≡ comb waited ds → CombOf r waited ds
    held (Some x) q e = absurd cc
    held None q e = headed q (waits_for_head r.first.ends) refl e

    by : (b : Bool) → (if b then once r.first.drives else unless_left (first_holding (reasons r)) (shaped r)) ≡ comb waited ds → CombOf r waited ds
    by true e = absurd cc
    by false e = held (first_holding (reasons r)) refl e

-- what reacts to edges
pub edge-of : (r : Regions) (rs : List EdgeRowTree) → shape_by_rows r ≡ edge rs → map (edge_row (parts_waited r.first.ends)) (second_drives r) ≡ rs
edge-of r rs h = by (is_once r.first) h
  where
    headed : (b : Bool) → (if b then comb (parts_waited r.first.ends) (merged_drives r.first.drives) else edge (map (edge_row (parts_waited r.first.ends)) (second_drives r))) ≡ edge rs
        → map (edge_row (parts_waited r.first.ends)) (second_drives r) ≡ rs
    headed true e = absurd cc
    headed false e = cc

    held : (o : Option Reason) → unless_left o (shaped r) ≡ edge rs → map (edge_row (parts_waited r.first.ends)) (second_drives r) ≡ rs
    held (Some x) e = absurd cc
    held None e = headed (waits_for_head r.first.ends) e

    by : (b : Bool) → (if b then once r.first.drives else unless_left (first_holding (reasons r)) (shaped r)) ≡ edge rs → map (edge_row (parts_waited r.first.ends)) (second_drives r) ≡ rs
    by true e = absurd cc
    by false e = held (first_holding (reasons r)) e

-- what runs once
pub record OnceOf (r : Regions) (ds : List Drive) : Type 0 where
  pub drives : r.first.drives ≡ ds
  pub no_probe : r.first.probes ≡ []

pub empty-is : {A : Type 0} (xs : List A) → is_empty xs ≡ true → xs ≡ []
empty-is [] h = refl
empty-is (x ∷ xs) h = absurd (false≢true h)

pub once-of : (r : Regions) (ds : List Drive) → shape_by_rows r ≡ once ds → OnceOf r ds
once-of r ds h = by (is_once r.first) refl h
  where
    headed : (b : Bool) → (if b then comb (parts_waited r.first.ends) (merged_drives r.first.drives) else edge (map (edge_row (parts_waited r.first.ends)) (second_drives r))) ≡ once ds → OnceOf r ds
    headed true e = absurd cc
    headed false e = absurd cc

    held : (o : Option Reason) → unless_left o (shaped r) ≡ once ds → OnceOf r ds
    held (Some x) e = absurd cc
    held None e = headed (waits_for_head r.first.ends) e

    by : (b : Bool) → is_once r.first ≡ b → (if b then once r.first.drives else unless_left (first_holding (reasons r)) (shaped r)) ≡ once ds → OnceOf r ds
    by true q e = record {
      drives = cc;
      no_probe = empty-is r.first.probes (first_so (is_empty r.first.probes) (is_empty r.first.asserts)
          (second_so (list_all ends_halted r.first.ends) (is_empty r.first.probes && is_empty r.first.asserts) q));
    }
    by false q e = held (first_holding (reasons r)) e

-- ---- what is waited on

not-covered : (ps : List Part) (b : Bool) → not b ≡ false → b ≡ true
not-covered ps true h = refl
not-covered ps false h = absurd (false≢true (sym h))

all-covered : (waited : List Part) (ps : List Part) → list_any (λ p. not (covers waited p)) ps ≡ false → Each (λ p. covers waited p ≡ true) ps
all-covered waited [] h = tt
all-covered waited (p ∷ ps) h =
    let z = or_parts (not (covers waited p)) (list_any (λ p. not (covers waited p)) ps) h in
    (not-covered ps (covers waited p) z.0, all-covered waited ps z.1)

-- each part that is probed is waited on
pub probes-covered : (r : Rows) → is_insensitive r ≡ false → Each (λ p. covers (parts_waited r.ends) p ≡ true) r.probes
probes-covered r h = all-covered (parts_waited r.ends) r.probes h
