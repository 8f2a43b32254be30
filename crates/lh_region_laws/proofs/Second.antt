-- Every term of the second region is typed: its edges are the ends of the first region by the values that parts had before, which all wait for its first block.
use Rattle.std.proofs.Common.{◌≡◌, ℕ, List, [], ◌∷◌, map, true, false, Some, refl, ap, sym, ◌∙◌, subst}
use Rattle.std.proofs.lemmas.Option.{same_Some, none-some}
use Rattle.lh_unit_names.specs.declared.name.UnitName.{UnitName}
use Rattle.lh_unit.specs.Contents.{UnitText}
use Rattle.lh_unit.specs.Within.{Each}
use Rattle.lh_unit.proofs.Within.{Each-more}
use Rattle.lh_flat_laws.specs.Formed.{IsFormed}
use Rattle.lh_flat.specs.Flat.{FlatBlockText, FlatText, flat_unit, as_block}
use Rattle.lh_term.specs.Tree.{Tree, past_of, now_of}
use Rattle.lh_term.specs.declared.part.Part.{Part}
use Rattle.lh_region_def.specs.Known.{Knowledge}
use Rattle.lh_region_def.specs.Rows.{Way, halts, enters_head, waits, RegionEnd}
use Rattle.lh_region_def.specs.Places.{Region}
use Rattle.lh_region_def.specs.Regions.{begins_with_phi, lines_at, head_of, edge_into, edges_of_ends, waits_for, one_target, Course, comes_to, then_course, region_from, first_region, second_region}
use Rattle.lh_region_def.specs.Typed.{JoinEdge}
use Rattle.lh_region_def.specs.Laws.{EndTyped}
use Rattle.lh_region_def.specs.Right.{DriveTyped, BlockAt, JoinsAt, WayRight}
use Rattle.lh_region_def.proofs.Steps.{RegionOf}
use Rattle.lh_region_def.proofs.Second.{past-typed, now-typed}
use Rattle.lh_region_def.proofs.Activations as Activations
use Rattle.lh_region_def.proofs.Courses as Courses
use Rattle.lh_region_laws.specs.Before.{SecondRowsAreTyped}
use Rattle.lh_region_laws.proofs.Regions.{regions-are-alike, targets-are-alike, has-end}

pub way-joins : (u : UnitText) (g : Region) (w : Way) (n : ℕ) (from : List ℕ) (k : Knowledge) → waits_for w ≡ Some n → WayRight u g w from k → JoinsAt u g n from k
way-joins u g halts n from k q h = absurd (none-some n q)
way-joins u g enters_head n from k q h = absurd (none-some n q)
way-joins u g (waits m true ps timed) n from k q h = absurd (none-some n q)
way-joins u g (waits m false ps true) n from k q h = absurd (none-some n q)
way-joins u g (waits m false ps false) n from k q h = subst (λ x. JoinsAt u g x from k) (same_Some m n q) h

module _ (name : UnitName) (t : FlatText) (f : IsFormed (flat_unit name t)) where
  abbrev pub u : UnitText
  u = flat_unit name t

  abbrev pub first_of : (Part → Tree) → Region
  first_of probe = record { blocks = t.blocks; head = head_of t.blocks; probe = probe; ends_at_head = false }

  abbrev pub second_of : Region
  second_of = record { blocks = t.blocks; head = head_of t.blocks; probe = now_of; ends_at_head = true }

  pub second-region-of : RegionOf u second_of
  second-region-of = record { formed = f; blocks = refl; probe = now-typed }

  module _ (plain : begins_with_phi (lines_at t.blocks (head_of t.blocks)) ≡ false) (c : Course) (e : first_region t now_of ≡ comes_to c) (n : ℕ) (to : one_target c.rows.ends ≡ Some n) where
    abbrev pub past : Course
    past = (regions-are-alike t c e).0

    pub past-comes : first_region t past_of ≡ comes_to past
    past-comes = (regions-are-alike t c e).1

    pub past-waits : Each (λ (x : RegionEnd). waits_for x.way ≡ Some n) past.rows.ends
    past-waits = targets-are-alike t c past e past-comes n to

    no-end : (xs : List RegionEnd) → map (λ (x : RegionEnd). x.way) [] ≡ map (λ (x : RegionEnd). x.way) xs → (x : RegionEnd) × (more : List RegionEnd) × (xs ≡ x ∷ more) → ⊥
    no-end xs q h = let z : [] ≡ h.0.way ∷ map (λ (x : RegionEnd). x.way) h.1 = q ∙ ap (map (λ (x : RegionEnd). x.way)) h.2 in cc

    pub some-end : past.rows.ends ≡ [] → ⊥
    some-end q = no-end c.rows.ends (ap (map (λ (x : RegionEnd). x.way)) (sym q) ∙ (regions-are-alike t c e).2.ways) (has-end c.rows.ends n to)

    -- the ends join at the first block
    abbrev pub r1 : RegionOf u (first_of past_of)
    r1 = Activations.r name t f plain past_of past-typed past past-comes

    abbrev pub RightEnd : RegionEnd → Type 0
    RightEnd = Courses.EndFine u (first_of past_of) r1

    pub past-ends : Each RightEnd past.rows.ends
    past-ends = (Activations.first-fine name t f plain past_of past-typed past past-comes).ends

    pub all-join : (b : FlatBlockText) → BlockAt t.blocks n b → (xs : List RegionEnd) → Each RightEnd xs → Each (λ (x : RegionEnd). waits_for x.way ≡ Some n) xs
        → Each (JoinEdge u (as_block b)) (edges_of_ends n xs)
    all-join b at [] h w = tt
    all-join b at (x ∷ xs) h w =
        let j = way-joins u (first_of past_of) x.way n x.from x.known w.0 h.0.way in
        let one : JoinEdge u (as_block j.0) (edge_into n x.from x.cond x.known) = j.2 (edge_into n x.from x.cond x.known) refl refl h.0.cond in
        (subst (λ (y : FlatBlockText). JoinEdge u (as_block y) (edge_into n x.from x.cond x.known)) (same_Some j.0 b (sym j.1.at ∙ at.at)) one, all-join b at xs h.1 w.1)

    module _ (second : Course) (e2 : second_region t n ≡ comes_to second) where
      pub second-is : region_from second_of n (edges_of_ends n past.rows.ends) ≡ comes_to second
      second-is = ap (λ x. then_course x (λ (d : Course). region_from second_of n (edges_of_ends n d.rows.ends))) (sym past-comes) ∙ e2

      by-ends : (xs : List RegionEnd) → past.rows.ends ≡ xs → Each RightEnd xs → Each (λ (x : RegionEnd). waits_for x.way ≡ Some n) xs → Courses.CourseFine u second_of second-region-of second
      by-ends [] q h w = absurd (some-end q)
      by-ends (x ∷ xs) q h w =
          let j = way-joins u (first_of past_of) x.way n x.from x.known w.0 h.0.way in
          Courses.region-fine u second_of second-region-of n j.0 j.1 (edge_into n x.from x.cond x.known) (edges_of_ends n xs) (all-join j.0 j.1 (x ∷ xs) h w) second
          (ap (λ ys. region_from second_of n (edges_of_ends n ys)) (sym q) ∙ second-is)

      pub second-right : Courses.CourseFine u second_of second-region-of second
      second-right = by-ends past.rows.ends refl past-ends past-waits

      pub second-typed : Each DriveTyped second.rows.drives × Each (EndTyped u) second.rows.ends
      second-typed = (
        second-right.drives,
        Each-more (Courses.EndFine u second_of second-region-of) (EndTyped u) second.rows.ends (λ x k. record { cond = k.cond; known = k.known }) second-right.ends,
      )

pub second-rows-typed : SecondRowsAreTyped
second-rows-typed name t f plain c e n to second e2 = second-typed name t f plain c e n to second e2
