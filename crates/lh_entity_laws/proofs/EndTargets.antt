-- How the ends of a region lead: a `wait` for the head says so, and only a region that ends at the head enters it.
use Rattle.std.proofs.Common.{◌≡◌, ℕ, ◌+◌, List, [], ◌∷◌, ◌++◌, length, Bool, true, false, ◌&&◌, nat_eq, nat_lt, Option, Some, None, refl, subst}
use Rattle.std.specs.Bool.{if◌then◌else◌}
use Rattle.std.specs.Prelude.{slice_get}
use Rattle.std.specs.Option.{option_map_or, is_some}
use Rattle.std.specs.Cmp.{first_so}
use Rattle.lh_unit.specs.Within.{Each}
use Rattle.lh_unit.specs.Contents.{InstText, const_text, pure_text, var_text, ld_text, st_text, sig_text, prb_text, drv_text, reg_text, child_text, call_text, phi_text, br_text, branch_text, wait_text, halt_text, ret_text, LineText}
use Rattle.lh_unit.proofs.Lists.{Each-append}
use Rattle.lh_flat.specs.Flat.{FlatBlockText, FlatText, with_merge}
use Rattle.lh_term.specs.Tree.{Tree}
use Rattle.lh_term.specs.Make.{is_zero, bit_of, make_operation}
use Rattle.lh_term.specs.declared.part.Part.{Part}
use Rattle.lh_types.specs.declared.op.Op.TheVariants.{Not}
use Rattle.lh_region_def.specs.Known.{value_known, part_known, values_known, parts_known}
use Rattle.lh_region_def.specs.Rows.{Drive, Way, halts, enters_head, waits, RegionEnd}
use Rattle.lh_region_def.specs.Joins.{RegionPlace, RegionEdge, any_taken, known_at}
use Rattle.lh_region_def.specs.Places.{Region, Here, Midst, block_number, both, probes, drive_cond, drives, asserts, ends, next_place, goes, goes_if, leads, branches, wait_way, ends_if, takes, takes_all}
use Rattle.lh_region_def.specs.Regions.{Course, no_course, Coursed, stops, comes_to, then_course, turns_too_often, too_many_turns, region_too_large, max_insts, after_lines, through_block, through, edges_to, through_reached, through_all, all_places, region_from, head_of, edge_into, known_first, first_region}

-- a way leads as it says
abbrev pub WayFits : Region → Way → Type 0
WayFits g halts = Unit {0}
WayFits g enters_head = g.ends_at_head ≡ true
WayFits g (waits target to_head parts timed) = to_head ≡ nat_eq target g.head

module _ (g : Region) where
  abbrev pub EndsFit : List RegionEnd → Type 0
  EndsFit es = Each (λ (e : RegionEnd). WayFits g e.way) es

  abbrev MidstFits : Midst → Type 0
  MidstFits m = EndsFit m.rows.ends

  probes-fit : (m : Midst) (n : Option (List ℕ)) (p : Option Part) → MidstFits m → MidstFits (probes g m n p)
  probes-fit m n None h = h
  probes-fit m n (Some p) h = h

  drive-fits : (m : Midst) (d : Drive) (b : Bool) → MidstFits m → MidstFits (if b then m else record m { rows = record m.rows { drives = m.rows.drives ++ d ∷ [] } })
  drive-fits m d true h = h
  drive-fits m d false h = h

  drives-fit : (m : Midst) (c : Option Tree) (p : Option Part) (v d : Option Tree) → MidstFits m → MidstFits (drives m c p v d)
  drives-fit m None p v d h = h
  drives-fit m (Some c) None v d h = h
  drives-fit m (Some c) (Some p) None d h = h
  drives-fit m (Some c) (Some p) (Some v) None h = h
  drives-fit m (Some c) (Some p) (Some v) (Some d) h = drive-fits m (record { cond = c; part = p; value = v; delay = d }) (is_zero c) h

  asserts-fit : (m : Midst) (ts : Option (List Tree)) → MidstFits m → MidstFits (asserts m ts)
  asserts-fit m None h = h
  asserts-fit m (Some ts) h = h

  ends-fit : (h : Here) (c : Tree) (m : Midst) (w : Way) → WayFits g w → MidstFits m → MidstFits (ends h c m w)
  ends-fit h c m w f k = Each-append (λ (e : RegionEnd). WayFits g e.way) m.rows.ends (record { cond = c; way = w; from = h.label; known = m.known } ∷ []) k (f, tt)

  goes-fit : (h : Here) (c : Tree) (m : Midst) (b : ℕ) → MidstFits m → MidstFits (goes g h c m b)
  goes-fit h c m b k = at (g.ends_at_head && nat_eq b g.head) (λ e. first_so g.ends_at_head (nat_eq b g.head) e)
    where
      at : (x : Bool) → (x ≡ true → g.ends_at_head ≡ true)
          → MidstFits (if x then ends h c m enters_head else record m { edges = m.edges ++ record { to = next_place h.place b; from = h.label; cond = c; known = m.known } ∷ [] })
      at true f = ends-fit h c m enters_head (f refl) k
      at false f = k

  goes-if-fit : (h : Here) (c : Tree) (m : Midst) (o : Option ℕ) → MidstFits m → MidstFits (goes_if g h c m o)
  goes-if-fit h c m None k = k
  goes-if-fit h c m (Some b) k = goes-fit h c m b k

  leads-fit : (h : Here) (c : Tree) (n : List ℕ) (m : Midst) → MidstFits m → MidstFits (leads g h c n m)
  leads-fit h c n m k = at (is_zero c)
    where
      at : (b : Bool) → MidstFits (if b then m else goes_if g h c m (block_number n g.blocks))
      at true = k
      at false = goes-if-fit h c m (block_number n g.blocks) k

  branches-fit : (h : Here) (c : Option Tree) (a b : List ℕ) (m : Midst) → MidstFits m → MidstFits (branches g h c a b m)
  branches-fit h None a b m k = k
  branches-fit h (Some c) a b m k = leads-fit h (both h.cond c) b (leads g h (both h.cond (make_operation Not (c ∷ []))) a m) (leads-fit h (both h.cond (make_operation Not (c ∷ []))) a m k)

  waits-fit : (h : Here) (m : Midst) (timed : Bool) (to : Option ℕ) (ps : Option (List Part)) → MidstFits m → MidstFits (ends_if h m (wait_way g timed to ps))
  waits-fit h m timed None ps k = k
  waits-fit h m timed (Some b) None k = k
  waits-fit h m timed (Some b) (Some ps) k = ends-fit h h.cond m (waits b (nat_eq b g.head) ps timed) refl k

  takes-fits : (h : Here) (i : InstText) (n : Option (List ℕ)) (m : Midst) → MidstFits m → MidstFits (takes g h i n m)
  takes-fits h (const_text d) n m k = k
  takes-fits h (pure_text o args) n m k = k
  takes-fits h (var_text a) n m k = k
  takes-fits h (ld_text a) n m k = k
  takes-fits h (st_text to value) n m k = k
  takes-fits h (prb_text a) n m k = probes-fit m n (part_known m.known a.value) k
  takes-fits h (drv_text to value after cond) n m k = drives-fit m (drive_cond m.known h.cond cond) (part_known m.known to.value) (value_known m.known value) (value_known m.known after) k
  takes-fits h (call_text f ty args) n m k = asserts-fit m (values_known m.known args) k
  takes-fits h (br_text to) n m k = leads-fit h h.cond to m k
  takes-fits h (branch_text c a b) n m k = branches-fit h (value_known m.known c) a b m k
  takes-fits h (wait_text to after signals) n m k = waits-fit h m (is_some after) (block_number to g.blocks) (parts_known m.known signals) k
  takes-fits h halt_text n m k = ends-fit h h.cond m halts tt k
  takes-fits h (sig_text a) n m k = k
  takes-fits h (reg_text to triggers) n m k = k
  takes-fits h (child_text u inputs outputs) n m k = k
  takes-fits h (phi_text ty edges) n m k = k
  takes-fits h (ret_text o) n m k = k

  all-fit : (h : Here) (ls : List LineText) (m : Midst) → MidstFits m → MidstFits (takes_all g h ls m)
  all-fit h [] m k = k
  all-fit h (l ∷ ls) m k = all-fit h ls (takes g h l.inst l.result m) (takes-fits h l.inst l.result m k)

  -- ---- the course of a region

  abbrev CourseFits : Course → Type 0
  CourseFits c = EndsFit c.rows.ends

  abbrev CoursedFits : Coursed → Type 0
  CoursedFits (stops r) = Unit {0}
  CoursedFits (comes_to c) = CourseFits c

  after-fits : (n : ℕ) (m : Midst) → MidstFits m → CoursedFits (after_lines n m)
  after-fits n m k = at (turns_too_often m.edges)
    where
      at : (b : Bool) → CoursedFits (if b then stops too_many_turns else comes_to (record { insts = n; edges = m.edges; rows = m.rows }))
      at true = tt
      at false = k

  block-fits : (p : RegionPlace) (q : Tree) (es : List RegionEdge) (c : Course) (b : FlatBlockText) → CourseFits c → CoursedFits (through_block g p q es c b)
  block-fits p q es c b k =
      at (nat_lt max_insts (c.insts + length b.lines)) (c.insts + length b.lines)
      (takes_all g (record { place = p; label = b.label; cond = q }) b.lines (record { known = known_at es (with_merge b.merge b.lines); edges = c.edges; rows = c.rows }))
      (all-fit (record { place = p; label = b.label; cond = q }) b.lines (record { known = known_at es (with_merge b.merge b.lines); edges = c.edges; rows = c.rows }) k)
    where
      at : (x : Bool) (n : ℕ) (m : Midst) → MidstFits m → CoursedFits (if x then stops region_too_large else after_lines n m)
      at true n m j = tt
      at false n m j = after-fits n m j

  through-fits : (p : RegionPlace) (q : Tree) (es : List RegionEdge) (c : Course) → CourseFits c → CoursedFits (through g p q es c)
  through-fits p q es c k = at (slice_get g.blocks p.block)
    where
      at : (o : Option FlatBlockText) → CoursedFits (option_map_or (through_block g p q es c) o (comes_to c))
      at None = k
      at (Some b) = block-fits p q es c b k

  reached-fits : (p : RegionPlace) (es : List RegionEdge) (c : Course) → CourseFits c → CoursedFits (through_reached g p es c)
  reached-fits p [] c k = k
  reached-fits p (e ∷ es) c k = through-fits p (any_taken (e ∷ es)) (e ∷ es) c k

  then-fits : (x : Coursed) (f : Course → Coursed) → CoursedFits x → ((c : Course) → CourseFits c → CoursedFits (f c)) → CoursedFits (then_course x f)
  then-fits (stops r) f k go = tt
  then-fits (comes_to c) f k go = go c k

  through-all-fits : (ps : List RegionPlace) (c : Course) → CourseFits c → CoursedFits (through_all g ps c)
  through-all-fits [] c k = k
  through-all-fits (p ∷ ps) c k = then-fits (through_reached g p (edges_to p c.edges) c) (through_all g ps) (reached-fits p (edges_to p c.edges) c k) (λ d j. through-all-fits ps d j)

  region-fits : (b : ℕ) (es : List RegionEdge) → CoursedFits (region_from g b es)
  unfolding region_from
  region-fits b es =
      then-fits (through g (record { turns = 0; block = b }) (bit_of true) es no_course) (through_all g (all_places (length g.blocks)))
      (through-fits (record { turns = 0; block = b }) (bit_of true) es no_course tt) (λ c k. through-all-fits (all_places (length g.blocks)) c k)

-- the region from the head on
abbrev pub from_head : FlatText → (Part → Tree) → Region
from_head t probe = record { blocks = t.blocks; head = head_of t.blocks; probe = probe; ends_at_head = false }

pub first-ends : (t : FlatText) (probe : Part → Tree) (c : Course) → first_region t probe ≡ comes_to c → EndsFit (from_head t probe) c.rows.ends
first-ends t probe c e = subst (CoursedFits (from_head t probe)) e (region-fits (from_head t probe) (head_of t.blocks) (edge_into (head_of t.blocks) [] (bit_of true) (known_first t) ∷ []))
