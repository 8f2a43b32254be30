-- The regions of a flat text, with the values that parts have before and now exchanged.
use Rattle.std.proofs.Common.{◌≡◌, ℕ, ◌+◌, List, [], ◌∷◌, length, map, Bool, true, false, ◌||◌, nat_eq, nat_lt, Option, Some, None, refl, ap, sym, ◌∙◌, subst}
use Rattle.std.specs.Bool.{if◌then◌else◌}
use Rattle.std.specs.Prelude.{slice_get}
use Rattle.std.specs.Option.{option_and_then, option_map_or}
use Rattle.std.specs.List.{list_all}
use Rattle.std.proofs.lemmas.Bool.{false≢true, and_parts}
use Rattle.std.proofs.lemmas.Option.{same_Some, none-some}
use Rattle.lh_unit.specs.Contents.{InstText, const_text, LineText}
use Rattle.lh_unit.specs.Within.{Each}
use Rattle.lh_flat.specs.Flat.{FlatBlockText, FlatText, with_merge}
use Rattle.lh_term.specs.Tree.{Tree, constant, past_of, now_of}
use Rattle.lh_term.specs.Make.{bit_of}
use Rattle.lh_types.specs.Same.{nat_eq-is}
use Rattle.lh_term.specs.declared.part.Part.{Part}
use Rattle.lh_term.proofs.Arenas.{map_length}
use Rattle.lh_region_def.specs.Known.{Knowledge, known_value, nothing_known, with_arguments}
use Rattle.lh_region_def.specs.Rows.{Drive, Way, RegionEnd}
use Rattle.lh_region_def.specs.Joins.{RegionPlace, RegionEdge, any_taken, known_at}
use Rattle.lh_region_def.specs.Places.{Region, Midst, takes_all}
use Rattle.lh_region_def.specs.Regions.{with_constant, with_constants, head_of, lines_at, known_first, too_many_turns, region_too_large, Course, no_course, Coursed, stops, comes_to, then_course, max_turns, max_insts, turns_too_often, after_lines, through_block, through, is_place, edges_to, through_reached, through_all, all_places, region_from, edge_into, first_region, waits_for, waits_alike, is_that, target_if, one_target}
use Rattle.lh_region_def.proofs.Courses.{coursed-is}
use Rattle.lh_region_laws.specs.Before.{RegionsAreAlike, RefusalsAreAlike, TargetsAreAlike}
use Rattle.lh_region_laws.proofs.Trees.{turned}
use Rattle.lh_region_laws.proofs.Known.{all_known_turned, given-turned, arguments-turned, edge_turned, edges_turned, taken-turned, known-at-turned}
use Rattle.lh_region_laws.proofs.Rows.{drive_turned, end_turned, rows_turned, midst_turned}
use Rattle.lh_region_laws.proofs.Rows as Rows

abbrev course_turned : Course → Course
course_turned c = record { insts = c.insts; edges = edges_turned c.edges; rows = rows_turned c.rows }

abbrev coursed_turned : Coursed → Coursed
coursed_turned (stops r) = stops r
coursed_turned (comes_to c) = comes_to (course_turned c)

-- ---- what is known at the head

constant-stays : (k : Knowledge) (j : InstText) (r : Option (List ℕ)) → with_constant (all_known_turned k) j r ≡ all_known_turned (with_constant k j r)
constant-stays k (const_text d) r = given-turned k r (Some (known_value (constant d)))
constant-stays k j r = refl

constants-stay : (k : Knowledge) (ls : List LineText) → with_constants (all_known_turned k) ls ≡ all_known_turned (with_constants k ls)
constants-stay k [] = refl
constants-stay k (l ∷ ls) = ap (λ j. with_constants j ls) (constant-stays k l.inst l.result) ∙ constants-stay (with_constant k l.inst l.result) ls

head-stays : (t : FlatText) → all_known_turned (known_first t) ≡ known_first t
head-stays t =
    let ls : List LineText = if nat_eq (head_of t.blocks) 0 then [] else lines_at t.blocks 0 in
    sym (constants-stay (with_arguments nothing_known 0 t.args) ls) ∙ ap (λ k. with_constants k ls) (arguments-turned nothing_known 0 t.args)

-- ---- a region

often-turned : (es : List RegionEdge) → turns_too_often (edges_turned es) ≡ turns_too_often es
often-turned [] = refl
often-turned (e ∷ es) = ap (λ b. nat_lt max_turns e.to.turns || b) (often-turned es)

coursed-if : (b : Bool) (x y : Coursed) → (if b then coursed_turned x else coursed_turned y) ≡ coursed_turned (if b then x else y)
coursed-if true x y = refl
coursed-if false x y = refl

after-turned : (n : ℕ) (m : Midst) → after_lines n (midst_turned m) ≡ coursed_turned (after_lines n m)
after-turned n m =
    ap (λ b. if b then stops too_many_turns else comes_to (record { insts = n; edges = edges_turned m.edges; rows = rows_turned m.rows })) (often-turned m.edges)
    ∙ coursed-if (turns_too_often m.edges) (stops too_many_turns) (comes_to (record { insts = n; edges = m.edges; rows = m.rows }))

to-turned : (p : RegionPlace) (es : List RegionEdge) → edges_to p (edges_turned es) ≡ edges_turned (edges_to p es)
to-turned p [] = refl
to-turned p (e ∷ es) = by (is_place e.to p) (to-turned p es)
  where
    by : (b : Bool) → edges_to p (edges_turned es) ≡ edges_turned (edges_to p es) → (if b then edge_turned e ∷ edges_to p (edges_turned es) else edges_to p (edges_turned es))
        ≡ edges_turned (if b then e ∷ edges_to p es else edges_to p es)
    by true q = ap (λ xs. edge_turned e ∷ xs) q
    by false q = q

then-turned : (x : Coursed) (f' f : Course → Coursed) → ((c : Course) → f' (course_turned c) ≡ coursed_turned (f c)) → then_course (coursed_turned x) f' ≡ coursed_turned (then_course x f)
then-turned (stops r) f' f h = refl
then-turned (comes_to c) f' f h = h c

module _ (blocks : List FlatBlockText) (head : ℕ) (probe other : Part → Tree) (stops_there : Bool) (exchanged : (p : Part) → other p ≡ turned (probe p)) where
  abbrev g : Region
  g = Rows.g blocks head probe other stops_there exchanged

  abbrev g' : Region
  g' = Rows.g' blocks head probe other stops_there exchanged

  abbrev start : List RegionEdge → Course → FlatBlockText → Midst
  start es c b = record { known = known_at es (with_merge b.merge b.lines); edges = c.edges; rows = c.rows }

  start-turned : (es : List RegionEdge) (c : Course) (b : FlatBlockText) → start (edges_turned es) (course_turned c) b ≡ midst_turned (start es c b)
  start-turned es c b = λ i. record { known = known-at-turned es (with_merge b.merge b.lines) i; edges = edges_turned c.edges; rows = rows_turned c.rows }

  abbrev done : RegionPlace → Tree → List RegionEdge → Course → FlatBlockText → Midst
  done p q es c b = takes_all g (record { place = p; label = b.label; cond = q }) b.lines (start es c b)

  done-turned : (p : RegionPlace) (q : Tree) (es : List RegionEdge) (c : Course) (b : FlatBlockText)
      → takes_all g' (record { place = p; label = b.label; cond = turned q }) b.lines (start (edges_turned es) (course_turned c) b) ≡ midst_turned (done p q es c b)
  done-turned p q es c b =
      ap (takes_all g' (record { place = p; label = b.label; cond = turned q }) b.lines) (start-turned es c b)
      ∙ Rows.takes-all-turned blocks head probe other stops_there exchanged (record { place = p; label = b.label; cond = q }) b.lines (start es c b)

  block-turned : (p : RegionPlace) (q : Tree) (es : List RegionEdge) (c : Course) (b : FlatBlockText) → through_block g' p (turned q) (edges_turned es) (course_turned c) b
      ≡ coursed_turned (through_block g p q es c b)
  block-turned p q es c b =
      ap (λ m. if nat_lt max_insts (c.insts + length b.lines) then stops region_too_large else after_lines (c.insts + length b.lines) m) (done-turned p q es c b)
      ∙ ap (λ z. if nat_lt max_insts (c.insts + length b.lines) then stops region_too_large else z) (after-turned (c.insts + length b.lines) (done p q es c b))
      ∙ coursed-if (nat_lt max_insts (c.insts + length b.lines)) (stops region_too_large) (after_lines (c.insts + length b.lines) (done p q es c b))

  through-turned : (p : RegionPlace) (q : Tree) (es : List RegionEdge) (c : Course) → through g' p (turned q) (edges_turned es) (course_turned c) ≡ coursed_turned (through g p q es c)
  through-turned p q es c = by (slice_get blocks p.block)
    where
      by : (o : Option FlatBlockText) → option_map_or (through_block g' p (turned q) (edges_turned es) (course_turned c)) o (comes_to (course_turned c))
          ≡ coursed_turned (option_map_or (through_block g p q es c) o (comes_to c))
      by None = refl
      by (Some b) = block-turned p q es c b

  reached-turned : (p : RegionPlace) (es : List RegionEdge) (c : Course) → through_reached g' p (edges_turned es) (course_turned c) ≡ coursed_turned (through_reached g p es c)
  reached-turned p [] c = refl
  reached-turned p (e ∷ es) c = ap (λ q. through g' p q (edges_turned (e ∷ es)) (course_turned c)) (taken-turned (e ∷ es)) ∙ through-turned p (any_taken (e ∷ es)) (e ∷ es) c

  all-turned : (ps : List RegionPlace) (c : Course) → through_all g' ps (course_turned c) ≡ coursed_turned (through_all g ps c)
  all-turned [] c = refl
  all-turned (p ∷ ps) c =
      ap (λ es. then_course (through_reached g' p es (course_turned c)) (through_all g' ps)) (to-turned p c.edges)
      ∙ ap (λ x. then_course x (through_all g' ps)) (reached-turned p (edges_to p c.edges) c)
      ∙ then-turned (through_reached g p (edges_to p c.edges) c) (through_all g' ps) (through_all g ps) (all-turned ps)

  region-turned : (b : ℕ) (es : List RegionEdge) → region_from g' b (edges_turned es) ≡ coursed_turned (region_from g b es)
  unfolding region_from
  region-turned b es =
      ap (λ x. then_course x (through_all g' (all_places (length blocks)))) (through-turned (record { turns = 0; block = b }) (bit_of true) es no_course)
      ∙ then-turned (through g (record { turns = 0; block = b }) (bit_of true) es no_course) (through_all g' (all_places (length blocks))) (through_all g (all_places (length blocks))) (all-turned
      (all_places (length blocks)))

-- ---- the first region

-- by the values before it is the one by the values now, exchanged
pub first-turned : (t : FlatText) → first_region t past_of ≡ coursed_turned (first_region t now_of)
first-turned t =
    ap (λ k. region_from (record { blocks = t.blocks; head = head_of t.blocks; probe = past_of; ends_at_head = false }) (head_of t.blocks) (edge_into (head_of t.blocks) [] (bit_of true) k ∷ []))
    (sym (head-stays t))
    ∙ region-turned t.blocks (head_of t.blocks) now_of past_of false (λ p. refl) (head_of t.blocks) (edge_into (head_of t.blocks) [] (bit_of true) (known_first t) ∷ [])

parts-stay : (ds : List Drive) → map (λ (d : Drive). d.part) (map drive_turned ds) ≡ map (λ (d : Drive). d.part) ds
parts-stay [] = refl
parts-stay (d ∷ ds) = ap (λ ps. d.part ∷ ps) (parts-stay ds)

ways-stay : (xs : List RegionEnd) → map (λ (x : RegionEnd). x.way) (map end_turned xs) ≡ map (λ (x : RegionEnd). x.way) xs
ways-stay [] = refl
ways-stay (x ∷ xs) = ap (λ ws. x.way ∷ ws) (ways-stay xs)

labels-stay : (xs : List RegionEnd) → map (λ (x : RegionEnd). x.from) (map end_turned xs) ≡ map (λ (x : RegionEnd). x.from) xs
labels-stay [] = refl
labels-stay (x ∷ xs) = ap (λ ws. x.from ∷ ws) (labels-stay xs)

pub regions-are-alike : RegionsAreAlike
regions-are-alike t c e = (
  course_turned c,
  first-turned t ∙ ap coursed_turned e,
  record {
    probes = refl;
    driven = parts-stay c.rows.drives;
    asserted = map_length turned c.rows.asserts;
    ways = ways-stay c.rows.ends;
    from = labels-stay c.rows.ends;
  },
)

pub refusals-are-alike : RefusalsAreAlike
refusals-are-alike t r e = first-turned t ∙ ap coursed_turned e

-- ---- where the ends wait

target-is : (b : Bool) (n m : ℕ) → target_if b n ≡ Some m → (b ≡ true) × (n ≡ m)
target-is true n m h = (refl, same_Some n m h)
target-is false n m h = absurd (none-some m h)

that-is : (n : ℕ) (o : Option ℕ) → is_that n o ≡ true → o ≡ Some n
that-is n None h = absurd (false≢true h)
that-is n (Some m) h = ap Some (sym (nat_eq-is n m h))

alike-wait : (n : ℕ) (w : Way) (es : List RegionEnd) → list_all (λ (f : RegionEnd). waits_alike n w f.way) es ≡ true → Each (λ (e : RegionEnd). waits_for e.way ≡ Some n) es
alike-wait n w [] h = tt
alike-wait n w (e ∷ es) h =
    let z = and_parts (waits_alike n w e.way) (list_all (λ (f : RegionEnd). waits_alike n w f.way) es) h in
    let y = and_parts (is_that n (waits_for e.way)) _ z.0 in
    (that-is n (waits_for e.way) y.0, alike-wait n w es z.1)

-- each waits for the one block
pub each-waits : (es : List RegionEnd) (n : ℕ) → one_target es ≡ Some n → Each (λ (e : RegionEnd). waits_for e.way ≡ Some n) es
each-waits [] n h = tt
each-waits (e ∷ es) n h = by (waits_for e.way) refl h
  where
    by : (o : Option ℕ) → waits_for e.way ≡ o → option_and_then (λ m. target_if (list_all (λ (f : RegionEnd). waits_alike m e.way f.way) es) m) o ≡ Some n
        → Each (λ (e : RegionEnd). waits_for e.way ≡ Some n) (e ∷ es)
    by None q g = absurd (none-some n g)
    by (Some m) q g =
        let z = target-is (list_all (λ (f : RegionEnd). waits_alike m e.way f.way) es) m n g in
        (q ∙ ap Some z.1, alike-wait n e.way es (ap (λ k. list_all (λ (f : RegionEnd). waits_alike k e.way f.way) es) (sym z.1) ∙ z.0))

-- there is one
pub has-end : (es : List RegionEnd) (n : ℕ) → one_target es ≡ Some n → (e : RegionEnd) × (more : List RegionEnd) × (es ≡ e ∷ more)
has-end [] n h = absurd (none-some n h)
has-end (e ∷ es) n h = (e, es, refl)

waits-turned : (n : ℕ) (es : List RegionEnd) → Each (λ (e : RegionEnd). waits_for e.way ≡ Some n) es → Each (λ (e : RegionEnd). waits_for e.way ≡ Some n) (map end_turned es)
waits-turned n [] h = tt
waits-turned n (e ∷ es) h = (h.0, waits-turned n es h.1)

pub targets-are-alike : TargetsAreAlike
targets-are-alike t c p e f target h =
    let same : course_turned c ≡ p = coursed-is (course_turned c) p (sym (first-turned t ∙ ap coursed_turned e) ∙ f) in
    subst (λ (x : Course). Each (λ (e : RegionEnd). waits_for e.way ≡ Some target) x.rows.ends) same (waits-turned target c.rows.ends (each-waits c.rows.ends target h))
