-- The shape of the loop, and what becomes of its process.
use Rattle.std.proofs.Common.{◌≡◌, ◌≤◌, ℕ, zero, suc, ◌+◌, ◌*◌, Bool, true, false, ◌&&◌, List, [], ◌∷◌, length, refl, ap, ◌∙◌, arith}
use Rattle.std.specs.Prelude.{nat_lt}
use Rattle.std.proofs.lemmas.Bool.Decides.{nat_tests}
use Rattle.lh_unit.specs.Contents.{LineText, UnitText, ItemText, unit_text}
use Rattle.lh_term.specs.Tree.{now_of}
use Rattle.lh_term.specs.declared.part.Part.{Part}
use Rattle.lh_flat.specs.Flat.{flattened, flat_in, flat_of, flat_unit}
use Rattle.lh_region_def.specs.Rows.{Rows}
use Rattle.lh_region_def.specs.Regions.{first_region, one_target, second_if, with_first, regions_of}
use Rattle.lh_shape.specs.declared.reason.Reason.TheVariants as reason
use Rattle.lh_shape.specs.Shapes.{comb, shape_by_regions, shape_of_text, shape_by_text}
use Rattle.lh_emit_def.specs.Emitted.{PartStep, source_of}
use Rattle.lh_emit_def.specs.Entities as made
use Rattle.lh_emit_def.specs.Entities.{Emission, within_limits, comb_emission, drive_fits}
use Rattle.lh_emit_def.specs.Reached.{steps_in}
use Rattle.lh_lower_def.specs.declared.report.Kind.TheVariants as kind
use Rattle.lh_lower_def.specs.declared.report.Verdict.{Verdict}
use Rattle.lh_lower_def.specs.declared.report.Verdict.TheVariants as verdict
use Rattle.lh_lower_def.specs.Report.{RowText}
use Rattle.lh_lower_def.specs.Lowering.{stays, outcome_of_emission, outcome_of_shape, outcome_of_text, outcome_in, in_place, verdict_of}
use Rattle.lh_lower_def.specs.Modules.{global, lp_unit}
use Rattle.lh_lower_def.specs.Loops.{whole, sum_of, LoopShape, LoopLowers, LongLoopStays}
use Rattle.lh_lower_def.proofs.Loops.{loop_text, Finished, finish, goes-on}
use Rattle.lh_lower_def.proofs.LoopEntity.{drive_of, entity-at-most, drive-fits}

abbrev module_of : ℕ → List ItemText
module_of n = unit_text (lp_unit n) ∷ []

-- it has no calls
flat-is : (n : ℕ) → flat_of (module_of n) (lp_unit n) ≡ flattened (loop_text n)
unfolding flat_in
flat-is n = refl

regions-are : (n : ℕ) → regions_of (loop_text n) ≡ with_first (loop_text n) (first_region (loop_text n) now_of)
regions-are n = refl

-- the shape of its rows
shape-by : (k : ℕ) (f : Finished k) → shape_by_regions (second_if (loop_text (suc k)) f.course.rows (one_target f.course.rows.ends)) ≡ comb (whole 0 ∷ []) (drive_of (sum_of (suc k)) ∷ [])
shape-by k f = ap (λ (r : Rows). shape_by_regions (second_if (loop_text (suc k)) r (one_target r.ends))) f.rows

text-shape : (k : ℕ) → k ≤ 256 → shape_of_text (loop_text (suc k)) ≡ comb (whole 0 ∷ []) (drive_of (sum_of (suc k)) ∷ [])
text-shape k l =
    let f : Finished k = finish k l in
    ap shape_by_regions (regions-are (suc k)) ∙ ap (λ c. shape_by_regions (with_first (loop_text (suc k)) c)) f.is ∙ shape-by k f

pub loop-shape : LoopShape
loop-shape zero a b = absurd (omega (arith, a))
loop-shape (suc k) a b = ap shape_by_text (flat-is (suc k)) ∙ text-shape k (omega (arith, b))

-- ---- the entity

abbrev steps_for : ℕ → Part → List PartStep
steps_for n = steps_in (flat_unit (global "lp") (loop_text n))

no-steps : (n i : ℕ) → steps_for n (whole i) ≡ []
no-steps n i = refl

-- within the limits the process is lowered
within-lowers : (u : UnitText) (fits : Bool) → fits ≡ true → (ls : List LineText) → nat_lt 65536 (length ls) ≡ false → verdict_of (outcome_of_emission kind.Comb (within_limits u fits ls))
    ≡ verdict.Lowered kind.Comb
within-lowers u fits h ls k = rw (h, k) refl

emission-lowers : (k : ℕ) → k ≤ 257 → verdict_of (outcome_of_emission kind.Comb (comb_emission (lp_unit k) (steps_for k) (whole 0 ∷ []) (drive_of (sum_of k) ∷ []))) ≡ verdict.Lowered kind.Comb
emission-lowers k l =
    let ls = (made.comb (source_of (lp_unit k) (steps_for k)) (whole 0 ∷ []) (drive_of (sum_of k) ∷ [])).lines in
    let m : length (made.comb (source_of (lp_unit k) (steps_for k)) (whole 0 ∷ []) (drive_of (sum_of k) ∷ [])).lines ≤ 2 * k
    + 4 = entity-at-most (source_of (lp_unit k) (steps_for k)) (no-steps k) k in
    let b : nat_lt 65536 (length (made.comb (source_of (lp_unit k) (steps_for k)) (whole 0 ∷ []) (drive_of (sum_of k) ∷ [])).lines) ≡ false = grind (arith, nat_tests, m, l) in
    within-lowers (lp_unit k) (drive_fits (drive_of (sum_of k)) && true) (rw (drive-fits k) refl) ls b

outcome-lowers : (k : ℕ) → k ≤ 256 → verdict_of (outcome_in (module_of (suc k)) (lp_unit (suc k))) ≡ verdict.Lowered kind.Comb
outcome-lowers k l =
    ap (λ f. verdict_of (outcome_of_text (lp_unit (suc k)) f)) (flat-is (suc k))
    ∙ ap (λ x. verdict_of (outcome_of_shape (lp_unit (suc k)) (steps_for (suc k)) x)) (text-shape k l)
    ∙ emission-lowers (suc k) (omega (arith, l))

abbrev row_with : Verdict → List RowText
row_with v = record { unit = global "lp"; verdict = v } ∷ []

pub loop-lowers : LoopLowers
loop-lowers zero a b = absurd (omega (arith, a))
loop-lowers (suc k) a b = ap row_with (outcome-lowers k (omega (arith, b)))

-- ---- more turns than there may be

long-stays : (n : ℕ) → 258 ≤ n → outcome_in (module_of n) (lp_unit n) ≡ stays reason.TooManyTurns
long-stays n l =
    ap (outcome_of_text (lp_unit n)) (flat-is n)
    ∙ ap (λ x. outcome_of_shape (lp_unit n) (steps_for n) (shape_by_regions x)) (regions-are n ∙ ap (with_first (loop_text n)) (goes-on n l))

pub long-loop-stays : LongLoopStays
long-loop-stays n l = (ap (λ o. unit_text (in_place (lp_unit n) o) ∷ []) (long-stays n l), ap (λ o. row_with (verdict_of o)) (long-stays n l))
