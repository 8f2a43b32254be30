-- Calls that nest 64 deep. All that the flat text does is to branch forward, so no place of a later turn is reached.
use Rattle.std.proofs.Common.{◌≡◌, ◌≤◌, ℕ, Bool, true, false, List, [], ◌∷◌, length, refl, ap, ◌∙◌, arith}
use Rattle.std.specs.Prelude.{nat_eq}
use Rattle.std.specs.Fmt.{digits}
use Rattle.std.specs.List.{list_all}
use Rattle.std.proofs.lemmas.Bool.Decides.{nat_tests}
use Rattle.lh_types.specs.Apply.{apply}
use Rattle.lh_types.specs.ApplyInt.{integer_row, row_width}
use Rattle.lh_types.specs.Same.{and_both}
use Rattle.lh_unit.specs.Contents.{ItemText}
use Rattle.lh_unit.specs.Activation.{functions}
use Rattle.lh_term.specs.Tree.{now_of}
use Rattle.lh_term.specs.Make.{bit_of}
use Rattle.lh_flat.specs.Flat.{FlatText, flattened, flat_in, flat_of, flat_unit, text_of}
use Rattle.lh_region_def.specs.Joins.{RegionEdge}
use Rattle.lh_region_def.specs.Places.{Region}
use Rattle.lh_region_def.specs.Regions.{Course, Coursed, stops, comes_to, then_course, no_course, through, through_all, edges_to, edge_into, head_of, begins_with_phi, lines_at, known_first, region_from, first_region, all_places, one_target, second_if, with_first}
use Rattle.lh_shape.specs.Shapes.{comb, shape_by_regions, shape_of_text}
use Rattle.lh_emit_def.specs.Reached.{steps_in}
use Rattle.lh_lower_def.specs.declared.report.Verdict.{Verdict}
use Rattle.lh_lower_def.specs.Report.{RowText}
use Rattle.lh_lower_def.specs.Lowering.{outcome_of_shape, outcome_of_text, verdict_of}
use Rattle.lh_lower_def.specs.Modules.{global, caller, caller_unit, chain}
use Rattle.lh_lower_def.specs.Worked.{DeepCallsLower}
use Rattle.lh_lower_def.proofs.Turns.{place, turns, rest-passed}

-- ---- a text whose edges all lead forward

abbrev region_in : FlatText → Region
region_in t = record { blocks = t.blocks; head = 0; probe = now_of; ends_at_head = false }

abbrev edges_in : FlatText → List RegionEdge
edges_in t = edge_into 0 [] (bit_of true) (known_first t) ∷ []

abbrev leads_forward : RegionEdge → Bool
leads_forward e = nat_eq 0 e.to.turns

none-later : (es : List RegionEdge) → list_all leads_forward es ≡ true → (t b : ℕ) → 1 ≤ t → edges_to (place t b) es ≡ []
none-later [] h t b l = refl
none-later (e ∷ es) h t b l =
    let k = and_both (leads_forward e) (list_all leads_forward es) h in
    let z : nat_eq e.to.turns t ≡ false = later e.to.turns k.0 in
    let more : edges_to (place t b) es ≡ [] = none-later es k.1 t b l in
    rw (z, more) refl
  where
    later : (n : ℕ) → nat_eq 0 n ≡ true → nat_eq n t ≡ false
    later n p = grind (arith, nat_tests, l)

region-as : (g : Region) (es : List RegionEdge) (n : ℕ) (c : Course) → length g.blocks ≡ n → through g (place 0 0) (bit_of true) es no_course ≡ comes_to c →
    region_from g 0 es ≡ through_all g (turns n 257) c
unfolding region_from
region-as g es n c l h =
    ap (λ m. then_course (through g (place 0 0) (bit_of true) es no_course) (through_all g (all_places m))) l
    ∙ ap (λ x. then_course x (through_all g (turns n 257))) h

first-as : (t : FlatText) (n : ℕ) (c d : Course) → head_of t.blocks ≡ 0 → length t.blocks ≡ n → through (region_in t) (place 0 0) (bit_of true) (edges_in t) no_course ≡ comes_to c →
    through_all (region_in t) (turns n 1) c ≡ comes_to d → list_all leads_forward d.edges ≡ true → first_region t now_of ≡ comes_to d
first-as t n c d e l h k f =
    ap (λ b. region_from (record { blocks = t.blocks; head = b; probe = now_of; ends_at_head = false }) b (edge_into b [] (bit_of true) (known_first t) ∷ [])) e
    ∙ region-as (region_in t) (edges_in t) n c l h
    ∙ rest-passed (region_in t) n 1 c d k (λ u b a. none-later d.edges f u b a) 257 (omega arith)

shape-as : (t : FlatText) (d : Course) → begins_with_phi (lines_at t.blocks (head_of t.blocks)) ≡ false → first_region t now_of ≡ comes_to d →
    shape_of_text t ≡ shape_by_regions (second_if t d.rows (one_target d.rows.ends))
shape-as t d p h = rw p (ap (λ c. shape_by_regions (with_first t c)) h)

-- ---- the chain of calls

abbrev deep_items : List ItemText
deep_items = caller "f0" ∷ chain 64 0

abbrev deep_text : FlatText
deep_text = text_of (functions deep_items) (caller_unit "f0")

abbrev course_in : Coursed → Course
course_in (stops r) = no_course
course_in (comes_to c) = c

abbrev has_course : Coursed → Bool
has_course (stops r) = false
has_course (comes_to c) = true

-- No course is computed to compare it with itself: what is known on its edges would be compared at each of them.
comes-to : (x : Coursed) → has_course x ≡ true → x ≡ comes_to (course_in x)
comes-to (stops r) h = absurd cc
comes-to (comes_to c) h = refl

abbrev begun : Course
begun = course_in (through (region_in deep_text) (place 0 0) (bit_of true) (edges_in deep_text) no_course)

abbrev ended : Course
ended = course_in (through_all (region_in deep_text) (turns 129 1) begun)

flat-is : flat_of deep_items (caller_unit "f0") ≡ flattened deep_text
unfolding flat_in digits
flat-is = refl

head-is : head_of deep_text.blocks ≡ 0
unfolding digits
head-is = refl

length-is : length deep_text.blocks ≡ 129
unfolding digits
length-is = refl

no-phi : begins_with_phi (lines_at deep_text.blocks (head_of deep_text.blocks)) ≡ false
unfolding digits
no-phi = refl

begins-so : has_course (through (region_in deep_text) (place 0 0) (bit_of true) (edges_in deep_text) no_course) ≡ true
unfolding digits
begins-so = refl

ends-so : has_course (through_all (region_in deep_text) (turns 129 1) begun) ≡ true
unfolding digits apply integer_row row_width
ends-so = refl

forward-so : list_all leads_forward ended.edges ≡ true
unfolding digits apply integer_row row_width
forward-so = refl

rows-so : shape_by_regions (second_if deep_text ended.rows (one_target ended.rows.ends)) ≡ comb [] []
unfolding digits apply integer_row row_width
rows-so = refl

deep-shape : shape_of_text deep_text ≡ comb [] []
deep-shape =
    shape-as deep_text ended no-phi
    (first-as deep_text 129 begun ended head-is length-is
    (comes-to (through (region_in deep_text) (place 0 0) (bit_of true) (edges_in deep_text) no_course) begins-so)
    (comes-to (through_all (region_in deep_text) (turns 129 1) begun) ends-so)
    forward-so)
    ∙ rows-so

abbrev row_with : Verdict → List RowText
row_with v = record { unit = global "p"; verdict = v } ∷ []

pub deep-calls-lower : DeepCallsLower
deep-calls-lower =
    ap (λ x. row_with (verdict_of (outcome_of_text (caller_unit "f0") x))) flat-is
    ∙ ap (λ x. row_with (verdict_of (outcome_of_shape (caller_unit "f0") (steps_in (flat_unit (global "p") deep_text)) x))) deep-shape
