-- The regions of a process: from its head to where it waits, and from there to where it waits again.
use Rattle.std.specs.Prelude.{ℕ, zero, suc, ◌+◌, List, [], ◌∷◌, ◌++◌, length, map, Bool, true, false, ◌&&◌, nat_eq, nat_lt, if◌then◌else◌, Option, Some, None, slice_get, unwrap_or}
use Rattle.std.specs.Option.{option_and_then, option_map_or}
use Rattle.std.specs.List.{list_any, list_all, filter, flat_map}
use Rattle.lh_unit.specs.Contents.{InstText, const_text, br_text, LineText}
use Rattle.lh_unit_names.specs.Names.{same_name}
use Rattle.lh_unit.specs.Places.{leads_to}
use Rattle.lh_unit.specs.WellFormed.{is_phi}
use Rattle.lh_term.specs.Tree.{Tree, constant, past_of, now_of}
use Rattle.lh_term.specs.Make.{bit_of}
use Rattle.lh_term.specs.declared.part.Part.{Part}
use Rattle.lh_flat.specs.Flat.{FlatBlockText, FlatText, with_merge}
use Rattle.lh_term_cover.specs.Bits.{same_bits}
use Rattle.lh_region_def.specs.Known.{Knowledge, known_value, nothing_known, with_given, with_arguments}
use Rattle.lh_region_def.specs.Rows.{Way, waits, RegionEnd, Rows, no_rows}
use Rattle.lh_region_def.specs.Joins.{RegionPlace, RegionEdge, any_taken, known_at}
use Rattle.lh_region_def.specs.Places.{Region, Midst, block_number, takes_all}

-- ---- the head

abbrev pub is_constant : InstText → Bool
is_constant (const_text d) = true
is_constant _ = false

-- where a branch without condition leads
abbrev pub branched_to : InstText → Option (List ℕ)
branched_to (br_text to) = Some to
branched_to _ = None

-- where lines lead that are constants and a branch alone
abbrev pub leads_on : List LineText → Option (List ℕ)
leads_on [] = None
leads_on (l ∷ []) = branched_to l.inst
leads_on (l ∷ more) = if is_constant l.inst then leads_on more else None

-- a line of these blocks leads to the label
abbrev pub is_led_to : List ℕ → List FlatBlockText → Bool
is_led_to n blocks = list_any (λ (b : FlatBlockText). list_any (λ (l : LineText). list_any (same_name n) (leads_to l.inst)) b.lines) blocks

-- the block to which the entry leads, where the entry holds constants alone and nothing leads to it
abbrev pub head_after : List FlatBlockText → Option ℕ
head_after [] = None
head_after (entry ∷ more) = if is_led_to entry.label (entry ∷ more) then None else option_and_then (λ n. block_number n (entry ∷ more)) (leads_on entry.lines)

-- The head: that block, else the entry.
abbrev pub head_of : List FlatBlockText → ℕ
head_of blocks = unwrap_or (head_after blocks) 0

-- the first of these lines is a `phi`
abbrev pub begins_with_phi : List LineText → Bool
begins_with_phi [] = false
begins_with_phi (l ∷ more) = is_phi l.inst

abbrev pub with_constant : Knowledge → InstText → Option (List ℕ) → Knowledge
with_constant k (const_text d) result = with_given k result (Some (known_value (constant d)))
with_constant k _ result = k

-- the constants of these lines
abbrev pub with_constants : Knowledge → List LineText → Knowledge
with_constants k [] = k
with_constants k (l ∷ more) = with_constants (with_constant k l.inst l.result) more

-- the lines of the block of a number, with its merge
abbrev pub lines_at : List FlatBlockText → ℕ → List LineText
lines_at blocks k = option_map_or (λ (b : FlatBlockText). with_merge b.merge b.lines) (slice_get blocks k) []

-- what is known at the head: the arguments, and the constants of the entry, where this is not the head
abbrev pub known_first : FlatText → Knowledge
known_first t =
    with_constants (with_arguments nothing_known 0 t.args) (if nat_eq (head_of t.blocks) 0 then [] else lines_at t.blocks 0)

-- ---- a region

-- why a process has no rows
pub data RegionRefusal : Type 0 where
  head_phi : RegionRefusal
  too_many_turns : RegionRefusal
  region_too_large : RegionRefusal

-- how many instructions the places so far have, and the edges and rows
pub record Course : Type 0 where
  pub insts : ℕ
  pub edges : List RegionEdge
  pub rows : Rows

abbrev pub no_course : Course
no_course = record { insts = 0; edges = []; rows = no_rows }

pub data Coursed : Type 0 where
  stops : RegionRefusal → Coursed
  comes_to : Course → Coursed

abbrev pub then_course : Coursed → (Course → Coursed) → Coursed
then_course (stops r) f = stops r
then_course (comes_to c) f = f c

-- a region has at most this many turns
abbrev pub max_turns : ℕ
max_turns = 256

-- the places of a region have at most this many instructions
abbrev pub max_insts : ℕ
max_insts = 65536

-- an edge leads to more turns than there may be
abbrev pub turns_too_often : List RegionEdge → Bool
turns_too_often es = list_any (λ (e : RegionEdge). nat_lt max_turns e.to.turns) es

-- the course after a place whose lines were taken; this many instructions are counted by then
abbrev pub after_lines : (insts : ℕ) → Midst → Coursed
after_lines n m = if turns_too_often m.edges then stops too_many_turns else comes_to (record { insts = n; edges = m.edges; rows = m.rows })

-- the lines of a block at a place, on this condition, where these edges lead to it
abbrev pub through_block : Region → RegionPlace → Tree → List RegionEdge → Course → FlatBlockText → Coursed
through_block g p q es c b =
    if nat_lt max_insts (c.insts + length b.lines) then stops region_too_large
    else after_lines (c.insts + length b.lines)
    (takes_all g (record { place = p; label = b.label; cond = q }) b.lines
    (record { known = known_at es (with_merge b.merge b.lines); edges = c.edges; rows = c.rows }))

-- the place is treated
abbrev pub through : Region → RegionPlace → Tree → List RegionEdge → Course → Coursed
through g p q es c = option_map_or (through_block g p q es c) (slice_get g.blocks p.block) (comes_to c)

abbrev pub is_place : RegionPlace → RegionPlace → Bool
is_place p q = nat_eq p.turns q.turns && nat_eq p.block q.block

-- the edges that lead to a place
abbrev pub edges_to : RegionPlace → List RegionEdge → List RegionEdge
edges_to p es = filter (λ (e : RegionEdge). is_place e.to p) es

-- the place is treated, if these edges lead there
abbrev pub through_reached : Region → RegionPlace → List RegionEdge → Course → Coursed
through_reached g p [] c = comes_to c
through_reached g p (e ∷ more) c = through g p (any_taken (e ∷ more)) (e ∷ more) c

-- these places one after the other
abbrev pub through_all : Region → List RegionPlace → Course → Coursed
through_all g [] c = comes_to c
through_all g (p ∷ more) c = then_course (through_reached g p (edges_to p c.edges) c) (through_all g more)

-- the numbers below n
abbrev pub numbers_below : ℕ → List ℕ
numbers_below zero = []
numbers_below (suc n) = numbers_below n ++ n ∷ []

-- all places, in their order
abbrev pub all_places : (blocks : ℕ) → List RegionPlace
all_places n = flat_map (λ t. map (λ b. record { turns = t; block = b }) (numbers_below n)) (numbers_below (max_turns + 1))

-- A region that starts at a block with what is known where these edges join: control is there without condition, and every edge leads to
-- a later place.
unfoldable pub region_from : Region → (start : ℕ) → List RegionEdge → Coursed
region_from g b es = then_course (through g (record { turns = 0; block = b }) (bit_of true) es no_course) (through_all g (all_places (length g.blocks)))

-- ---- both regions of a process

-- an edge to a block that begins a region
abbrev pub edge_into : (block : ℕ) → (from : List ℕ) → (cond : Tree) → Knowledge → RegionEdge
edge_into b n c k = record { to = record { turns = 0; block = b }; from = n; cond = c; known = k }

-- the first region: from the head on
abbrev pub first_region : FlatText → (probe : Part → Tree) → Coursed
first_region t probe =
    region_from (record { blocks = t.blocks; head = head_of t.blocks; probe = probe; ends_at_head = false })
    (head_of t.blocks) (edge_into (head_of t.blocks) [] (bit_of true) (known_first t) ∷ [])

-- the block for which an end waits, where it is not the head and no time is named, and the parts that it waits on
abbrev pub waits_for : Way → Option ℕ
waits_for (waits target false parts false) = Some target
waits_for _ = None

abbrev pub waited_parts : Way → List Part
waited_parts (waits target to_head parts timed) = parts
waited_parts _ = []

abbrev pub is_that : ℕ → Option ℕ → Bool
is_that n (Some m) = nat_eq n m
is_that n None = false

-- the second way waits for this block too, on the same bits
abbrev pub waits_alike : (target : ℕ) → Way → Way → Bool
waits_alike n w v = is_that n (waits_for v) && same_bits (waited_parts w) (waited_parts v)

abbrev pub target_if : Bool → ℕ → Option ℕ
target_if b n = if b then Some n else None

-- the one block for which all these ends wait, not the head, without time and on the same bits
abbrev pub one_target : List RegionEnd → Option ℕ
one_target [] = None
one_target (e ∷ more) = option_and_then (λ n. target_if (list_all (λ (f : RegionEnd). waits_alike n e.way f.way) more) n) (waits_for e.way)

-- the ends of the first region as edges into the second
abbrev pub edges_of_ends : (block : ℕ) → List RegionEnd → List RegionEdge
edges_of_ends b es = map (λ (e : RegionEnd). edge_into b e.from e.cond e.known) es

-- the second region: from this block on, with what the first one leaves; a probe in the first one gives the value of its part then
abbrev pub second_region : FlatText → (target : ℕ) → Coursed
second_region t n =
    then_course (first_region t past_of) (λ c.
    region_from (record { blocks = t.blocks; head = head_of t.blocks; probe = now_of; ends_at_head = true }) n (edges_of_ends n c.rows.ends))

-- the rows from the head on, and from the one block for which they all wait, where it is not the head
pub record Regions : Type 0 where
  pub first : Rows
  pub second : Option Rows

pub data Regioned : Type 0 where
  no_regions : RegionRefusal → Regioned
  has_regions : Regions → Regioned

abbrev pub with_second : Rows → Coursed → Regioned
with_second first (stops r) = no_regions r
with_second first (comes_to c) = has_regions (record { first = first; second = Some c.rows })

abbrev pub second_if : FlatText → Rows → Option ℕ → Regioned
second_if t first None = has_regions (record { first = first; second = None })
second_if t first (Some n) = with_second first (second_region t n)

abbrev pub with_first : FlatText → Coursed → Regioned
with_first t (stops r) = no_regions r
with_first t (comes_to c) = second_if t c.rows (one_target c.rows.ends)

-- The regions of a flat text, or what is met first of the reasons why it has none.
abbrev pub regions_of : FlatText → Regioned
regions_of t = if begins_with_phi (lines_at t.blocks (head_of t.blocks)) then no_regions head_phi else with_first t (first_region t now_of)
