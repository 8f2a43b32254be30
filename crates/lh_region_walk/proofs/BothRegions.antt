-- The answer: the rows of both regions, or why there are none.
use Rattle.std.proofs.Common.{◌≡◌, ℕ, zero, suc, ◌<◌, Bool, true, if◌then◌else◌, List, [], ◌∷◌, length, map, Option, Some, None, Ok, Err, slice_get, get_or, refl, ap, sym, ◌∙◌, subst, arith}
use Rattle.std.specs.Option.{option_map_or}
use Rattle.lh_unit.specs.Naming.{Naming}
use Rattle.lh_flat.specs.declared.flat.FlatBlock.{FlatBlock}
use Rattle.lh_flat.specs.declared.flat.Flat.{Flat}
use Rattle.lh_flat.specs.Flat.{FlatText}
use Rattle.lh_flat.specs.Reads.{flat_text}
use Rattle.lh_term.specs.Tree.{now_of}
use Rattle.lh_term.specs.Arena.{Grows}
use Rattle.lh_term.specs.declared.term.TermNode.{TermNode}
use Rattle.lh_region_def.specs.Rows as text
use Rattle.lh_region_def.specs.Regions as texts
use Rattle.lh_region_def.specs.Regions.{lines_at, RegionRefusal, head_phi, Course, comes_to, first_region, second_region, one_target, no_regions, with_first, with_second, second_if, regions_of}
use Rattle.lh_region_walk.specs.declared.walk.Region.{Region}
use Rattle.lh_region_walk.specs.declared.walk.Walk.{Walk}
use Rattle.lh_region.specs.declared.rows.EndRow.{EndRow}
use Rattle.lh_region.specs.declared.rows.Rows.{Rows}
use Rattle.lh_region.specs.declared.rows.Regions.{Regions}
use Rattle.lh_region.specs.declared.rows.RegionFault.{RegionFault}
use Rattle.lh_region.specs.declared.rows.RegionFault.TheVariants as fault
use Rattle.lh_region.specs.Effects.{probed}
use Rattle.lh_region.specs.Forms.{Names, HasForm}
use Rattle.lh_region.specs.Heads.{head_in, begins_with_phi}
use Rattle.lh_region.specs.Stands.{AreEnds, AreRows, MaybeRows, refusal_of, IsRefused, RegionsOrReason, DrivesFit, RegionsFit}
use Rattle.lh_region.specs.Targets.{ways_of, target_by}
use Rattle.lh_region_walk.specs.Walked.{IsRegion, StopsFor}
use Rattle.lh_region_walk.specs.Both.{HasRegion, IsHere, GoesFirst, FirstStops, IsTarget, HasTarget, SecondRows, SecondStops}
use Rattle.lh_region_walk.proofs.First.{plain}
use Rattle.lh_region_walk.proofs.DriveTypes.{drives-fit, fit-grown}
use Rattle.lh_region_walk.proofs.FormedText.{head-is, phi-agrees}
use Rattle.lh_region.proofs.RowLists.{rows-grown}
use Rattle.lh_region.proofs.OneTarget.{target-by-ways}

pub block-read : (bs : List FlatBlock) (k : ℕ) (b : FlatBlock) → k < length bs → b ≡ get_or bs k b → slice_get bs k ≡ Some b
block-read [] k b l e = absurd (omega (arith, l))
block-read (c ∷ bs) zero b l e = ap Some (sym e)
block-read (c ∷ bs) (suc k) b l e = block-read bs k b (omega (arith, l)) e

-- ---- the head begins with a `phi`

pub answer-phi : (ns : List TermNode) (t : Flat) (b : FlatBlock) → HasForm t → slice_get t.blocks (head_in t.blocks) ≡ Some b → begins_with_phi b ≡ true → (f : Naming) → Names t f
    → RegionsOrReason ns (regions_of (flat_text f t)) (Err fault.HeadPhi)
answer-phi ns t b h e p f n =
    ap (λ (x : Bool). if x then no_regions head_phi else with_first (flat_text f t) (first_region (flat_text f t) now_of))
    (ap (λ k. texts.begins_with_phi (lines_at (flat_text f t).blocks k)) (head-is f (f.unit_name 0) t h.below n) ∙ phi-agrees f t (head_in t.blocks) b e ∙ p)

pub answer-memory : (ns : List TermNode) (t : Flat) (e : RegionFault) → e ≡ fault.OutOfMemory → (f : Naming) → Names t f → RegionsOrReason ns (regions_of (flat_text f t)) (Err e)
answer-memory ns t e q f n = subst (λ x. IsRefused (regions_of (flat_text f t)) (refusal_of x)) (sym q) tt

-- ---- a region

pub is-region : (r : Region) → IsHere r → (f : Naming) → Names r.flat.now f → IsRegion f r
is-region r h f n = record { names = n; below = h.form.below; table = h.table; head = h.head; plain = h.plain }

pub has-region : (r : Region) → IsHere r → HasRegion r
has-region r h = record { naming = h.form.naming; region = is-region r h h.form.naming h.form.names }

module _ (r : Region) (h : IsHere r) where
  abbrev t : Naming → FlatText
  t f = flat_text f r.flat.now

  -- where the head begins with no `phi`
  by-first : (f : Naming) → Names r.flat.now f → regions_of (t f) ≡ with_first (t f) (first_region (t f) now_of)
  by-first f n = ap (λ (x : Bool). if x then no_regions head_phi else with_first (t f) (first_region (t f) now_of)) (plain f (f.unit_name 0) r (is-region r h f n))

  refused-first : (f : Naming) (o : Option RegionRefusal) → StopsFor (first_region (t f) now_of) o → IsRefused (with_first (t f) (first_region (t f) now_of)) o
  refused-first f None k = tt
  refused-first f (Some y) k = ap (with_first (t f)) k

  -- the first region stops
  pub answer-first : (ns : List TermNode) (e : RegionFault) → FirstStops r e → (f : Naming) → Names r.flat.now f → RegionsOrReason ns (regions_of (t f)) (Err e)
  answer-first ns e k f n =
      subst (λ x. IsRefused x (refusal_of e)) (sym (by-first f n)) (refused-first f (refusal_of e)
      (subst (λ (b : Bool). StopsFor (first_region (t f) (probed b)) (refusal_of e)) h.now (k f (is-region r h f n))))

  module _ (ns : List TermNode) (w : Walk) (first : GoesFirst r ns w) where
    record Gone (f : Naming) : Type 0 where
      course : Course
      is : first_region (t f) now_of ≡ comes_to course
      rows : AreRows ns w.rows course.rows
      fit : DrivesFit ns w.rows.drives

    gone : (f : Naming) → Names r.flat.now f → Gone f
    gone f n =
        let x = first f (f.unit_name 0) (is-region r h f n) in
        record {
          course = x.1.1;
          is = subst (λ (b : Bool). first_region (t f) (probed b) ≡ comes_to x.1.1) h.now x.1.2;
          rows = x.1.3.course.so_far.rows;
          fit = drives-fit ns w.rows.drives x.1.1.rows.drives x.1.3.course.so_far.rows.drives x.1.3.fine.drives;
        }

    ways-are : (es : List EndRow) (xs : List text.RegionEnd) → AreEnds ns es xs → ways_of es ≡ map (λ (x : text.RegionEnd). x.way) xs
    ways-are [] [] a = refl
    ways-are [] (x ∷ xs) a = absurd a
    ways-are (e ∷ es) [] a = absurd a
    ways-are (e ∷ es) (x ∷ xs) a = let p = a.0.way in let q = ways-are es xs a.1 in λ i. p i ∷ q i

    -- where all ends wait, by ids and in the text
    target-is : (f : Naming) (n : Names r.flat.now f) (o : Option ℕ) → o ≡ target_by (ways_of w.rows.ends) → one_target (gone f n).course.rows.ends ≡ o
    target-is f n o e = target-by-ways (gone f n).course.rows.ends ∙ sym (ap target_by (ways-are w.rows.ends (gone f n).course.rows.ends (gone f n).rows.ends)) ∙ sym e

    second-of : (f : Naming) (n : Names r.flat.now f) (o : Option ℕ) → o ≡ target_by (ways_of w.rows.ends) → regions_of (t f) ≡ second_if (t f) (gone f n).course.rows o
    second-of f n o e = by-first f n ∙ ap (with_first (t f)) (gone f n).is ∙ ap (second_if (t f) (gone f n).course.rows) (target-is f n o e)

    -- there is no second region
    pub answer-one : (ms : List TermNode) (a : Regions) (o : Option ℕ) → o ≡ target_by (ways_of w.rows.ends) → o ≡ None → Grows ns ms → a.first ≡ w.rows → a.second ≡ None → (f : Naming)
        → Names r.flat.now f → RegionsOrReason ms (regions_of (t f)) (Ok a)
    answer-one ms a o e none g first_is second_is f n = (
      record { first = (gone f n).course.rows; second = None },
      second-of f n o e ∙ ap (second_if (t f) (gone f n).course.rows) none,
      record {
        first = subst (λ x. AreRows ms x (gone f n).course.rows) (sym first_is) (rows-grown ns ms w.rows (gone f n).course.rows g (gone f n).rows);
        second = subst (λ x. MaybeRows ms x None) (sym second_is) tt;
      },
    )

    pub fit-one : (ms : List TermNode) (a : Regions) → Grows ns ms → a.first ≡ w.rows → a.second ≡ None → RegionsFit ms a
    fit-one ms a g first_is second_is = record {
      first = subst (λ x. DrivesFit ms x.drives) (sym first_is) (fit-grown ns ms w.rows.drives g (gone h.form.naming h.form.names).fit);
      second = subst (λ x. DrivesFit ms (option_map_or (λ (s : Rows). s.drives) x [])) (sym second_is) tt;
    }

    module _ (target : ℕ) (o : Option ℕ) (e : o ≡ target_by (ways_of w.rows.ends)) (some : o ≡ Some target) where
      is-target : (f : Naming) → Names r.flat.now f → IsTarget f r target
      is-target f n = record { course = (gone f n).course; comes = (gone f n).is; one = target-is f n o e ∙ some }

      pub has-target : HasTarget r target
      has-target = record { naming = h.form.naming; region = is-region r h h.form.naming h.form.names; is = is-target h.form.naming h.form.names }

      -- the second region stops
      pub answer-stops : (ms : List TermNode) (z : RegionFault) → SecondStops r target z → (f : Naming) → Names r.flat.now f → RegionsOrReason ms (regions_of (t f)) (Err z)
      answer-stops ms z k f n =
          subst (λ x. IsRefused x (refusal_of z)) (sym (second-of f n o e ∙ ap (second_if (t f) (gone f n).course.rows) some)) (by (refusal_of z) (k f (is-region r h f n) (is-target f n)))
        where
          by : (y : Option RegionRefusal) → StopsFor (second_region (t f) target) y → IsRefused (with_second (gone f n).course.rows (second_region (t f) target)) y
          by None s = tt
          by (Some y) s = ap (with_second (gone f n).course.rows) s

      pub answer-both : (ms : List TermNode) (a : Regions) (rows : Rows) → SecondRows r target ms rows → Grows ns ms → a.first ≡ w.rows → a.second ≡ Some rows → (f : Naming) → Names r.flat.now f
          → RegionsOrReason ms (regions_of (t f)) (Ok a)
      answer-both ms a rows k g first_is second_is f n =
          let x = k f (is-region r h f n) (is-target f n) in (
            record { first = (gone f n).course.rows; second = Some x.0.rows },
            second-of f n o e ∙ ap (second_if (t f) (gone f n).course.rows) some ∙ ap (with_second (gone f n).course.rows) x.1,
            record {
              first = subst (λ y. AreRows ms y (gone f n).course.rows) (sym first_is) (rows-grown ns ms w.rows (gone f n).course.rows g (gone f n).rows);
              second = subst (λ y. MaybeRows ms y (Some x.0.rows)) (sym second_is) x.2;
            },
          )

      pub fit-both : (ms : List TermNode) (a : Regions) (rows : Rows) → SecondRows r target ms rows → Grows ns ms → a.first ≡ w.rows → a.second ≡ Some rows → RegionsFit ms a
      fit-both ms a rows k g first_is second_is =
          let f = h.form.naming in
          record {
            first = subst (λ x. DrivesFit ms x.drives) (sym first_is) (fit-grown ns ms w.rows.drives g (gone f h.form.names).fit);
            second = subst (λ x. DrivesFit ms (option_map_or (λ (s : Rows). s.drives) x [])) (sym second_is) (k f (is-region r h f h.form.names) (is-target f h.form.names)).3;
          }

pub none-of : (o : Option ℕ) → ((n : ℕ) → o ≡ Some n → ⊥) → o ≡ None
none-of None h = refl
none-of (Some n) h = absurd (h n refl)
