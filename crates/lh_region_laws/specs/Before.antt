-- The first region of a flat text by the values that parts had before, beside the one by their values now; and the second region, which stands on it.
use Rattle.std.specs.Prelude.{◌≡◌, ℕ, length, map, false, Some}
use Rattle.lh_unit_names.specs.declared.name.UnitName.{UnitName}
use Rattle.lh_unit.specs.Within.{Each}
use Rattle.lh_flat_laws.specs.Formed.{IsFormed}
use Rattle.lh_flat.specs.Flat.{FlatText, flat_unit}
use Rattle.lh_term.specs.Tree.{past_of, now_of}
use Rattle.lh_region_def.specs.Rows.{Drive, RegionEnd, Rows}
use Rattle.lh_region_def.specs.Regions.{begins_with_phi, lines_at, head_of, RegionRefusal, Course, stops, comes_to, first_region, second_region, waits_for, one_target}
use Rattle.lh_region_def.specs.Laws.{EndTyped}
use Rattle.lh_region_def.specs.Right.{DriveTyped}

-- ---- the first region, with values before and with values now

-- The rows are alike but for their terms: the same parts are probed and driven, as many conditions are asserted, and the ends are the same, in the same order.
pub record RowsAreAlike (x y : Rows) : Type 0 where
  pub probes : x.probes ≡ y.probes
  pub driven : map (λ (d : Drive). d.part) x.drives ≡ map (λ (d : Drive). d.part) y.drives
  pub asserted : length x.asserts ≡ length y.asserts
  pub ways : map (λ (e : RegionEnd). e.way) x.ends ≡ map (λ (e : RegionEnd). e.way) y.ends
  pub from : map (λ (e : RegionEnd). e.from) x.ends ≡ map (λ (e : RegionEnd). e.from) y.ends

-- Where the first region by values now comes to an end, the one by values before does, with rows alike.
abbrev pub RegionsAreAlike : Type 0
RegionsAreAlike = (t : FlatText) (c : Course) → first_region t now_of ≡ comes_to c → (p : Course) × (first_region t past_of ≡ comes_to p) × RowsAreAlike p.rows c.rows

-- Where it stops, the other stops for the same reason.
abbrev pub RefusalsAreAlike : Type 0
RefusalsAreAlike = (t : FlatText) (r : RegionRefusal) → first_region t now_of ≡ stops r → first_region t past_of ≡ stops r

-- Where the ends by values now all wait for one block, each end by values before waits for it.
abbrev pub TargetsAreAlike : Type 0
TargetsAreAlike = (t : FlatText) (c p : Course) → first_region t now_of ≡ comes_to c → first_region t past_of ≡ comes_to p → (target : ℕ) → one_target c.rows.ends ≡ Some target → Each (λ (e : RegionEnd). waits_for e.way ≡ Some target) p.rows.ends

-- ---- the second region

-- Where the ends of the first region all wait for one block, every term of the rows from that block on is typed.
abbrev pub SecondRowsAreTyped : Type 0
SecondRowsAreTyped = (name : UnitName) (t : FlatText) → IsFormed (flat_unit name t) → begins_with_phi (lines_at t.blocks (head_of t.blocks)) ≡ false →
    (c : Course) → first_region t now_of ≡ comes_to c → (target : ℕ) → one_target c.rows.ends ≡ Some target → (second : Course) → second_region t target ≡ comes_to second →
    Each DriveTyped second.rows.drives × Each (EndTyped (flat_unit name t)) second.rows.ends
