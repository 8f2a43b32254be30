-- A region solves its equations: what a place adds depends on the edges that lead to it alone, and all of these come from earlier places.
use Rattle.std.proofs.Common.{◌≡◌, ℕ, ◌+◌, List, [], ◌∷◌, ◌++◌, length, map, Bool, true, false, ◌&&◌, nat_eq, nat_lt, Option, Some, None, is_some, refl, ap, sym, ◌∙◌, subst, append_assoc, append-nil}
use Rattle.std.specs.Bool.{if◌then◌else◌}
use Rattle.std.specs.Prelude.{slice_get}
use Rattle.std.specs.List.{flat_map}
use Rattle.std.specs.Option.{option_map_or}
use Rattle.lh_types.specs.declared.op.Op.TheVariants.{Not}
use Rattle.lh_unit.specs.Contents.{InstText, const_text, pure_text, var_text, ld_text, st_text, prb_text, drv_text, call_text, br_text, branch_text, wait_text, halt_text, LineText}
use Rattle.lh_unit.specs.Within.{Each}
use Rattle.lh_unit.proofs.Lists.{Each-append}
use Rattle.lh_unit.proofs.Within.{Each-more}
use Rattle.lh_flat.specs.Flat.{FlatBlockText, with_merge}
use Rattle.lh_term.specs.Tree.{Tree}
use Rattle.lh_term.specs.Make.{is_zero, make_operation, bit_of}
use Rattle.lh_term.specs.declared.part.Part.{Part}
use Rattle.lh_region_def.specs.Known.{value_known, part_known, values_known, parts_known}
use Rattle.lh_region_def.specs.Rows.{Drive, Way, enters_head, Rows, no_rows}
use Rattle.lh_region_def.specs.Joins.{RegionPlace, RegionEdge, any_taken, known_at}
use Rattle.lh_region_def.specs.Places.{Region, Here, Midst, block_number, both, probes, drive_cond, with_drive, drives, asserts, ends, next_place, goes, goes_if, leads, branches, wait_way, ends_if, takes, takes_all}
use Rattle.lh_region_def.specs.Regions.{Course, no_course, Coursed, stops, comes_to, then_course, max_insts, region_too_large, too_many_turns, turns_too_often, after_lines, through_block, through, is_place, edges_to, through_reached, through_all, all_places, region_from}
use Rattle.lh_region_def.specs.Solved.{gives_nothing, block_gives, place_gives, reached_gives, rows_behind, rows_of, IsSolved, RegionIsSolved}
use Rattle.lh_region_def.proofs.Courses.{coursed-is, stops-not}
use Rattle.lh_region_def.proofs.Ordered.{Before, never-before, before-trans, Sorted, places-sorted, next-later, place-is}

-- ---- what lines add depends on nothing that was added before

-- the same in the middle of a block, with these edges and rows in front
abbrev behind : List RegionEdge → Rows → Midst → Midst
behind es r m = record { known = m.known; edges = es ++ m.edges; rows = rows_behind r m.rows }

module _ (es : List RegionEdge) (r : Rows) where
  abbrev after : Midst → Midst
  after m = behind es r m

  probes-after : (g : Region) (m : Midst) (result : Option (List ℕ)) (o : Option Part) → probes g (after m) result o ≡ after (probes g m result o)
  probes-after g m result None = refl
  probes-after g m result (Some p) = ap (λ ps. record (after (probes g m result (Some p))) { rows = record (rows_behind r m.rows) { probes = ps } }) (append_assoc r.probes m.rows.probes (p ∷ []))

  with-drive-after : (m : Midst) (d : Drive) → with_drive (after m) d ≡ after (with_drive m d)
  with-drive-after m d = by (is_zero d.cond)
    where
      by : (b : Bool) → (if b then after m else record (after m) { rows = record (rows_behind r m.rows) { drives = (r.drives ++ m.rows.drives) ++ d ∷ [] } })
          ≡ after (if b then m else record m { rows = record m.rows { drives = m.rows.drives ++ d ∷ [] } })
      by true = refl
      by false = ap (λ ds. record (after m) { rows = record (rows_behind r m.rows) { drives = ds } }) (append_assoc r.drives m.rows.drives (d ∷ []))

  drives-after : (m : Midst) (c : Option Tree) (p : Option Part) (v d : Option Tree) → drives (after m) c p v d ≡ after (drives m c p v d)
  drives-after m (Some c) (Some p) (Some v) (Some d) = with-drive-after m (record { cond = c; part = p; value = v; delay = d })
  drives-after m (Some c) (Some p) (Some v) None = refl
  drives-after m (Some c) (Some p) None d = refl
  drives-after m (Some c) None v d = refl
  drives-after m None p v d = refl

  asserts-after : (m : Midst) (o : Option (List Tree)) → asserts (after m) o ≡ after (asserts m o)
  asserts-after m None = refl
  asserts-after m (Some ts) = ap (λ xs. record (after m) { rows = record (rows_behind r m.rows) { asserts = xs } }) (append_assoc r.asserts m.rows.asserts ts)

  ends-after : (h : Here) (c : Tree) (m : Midst) (w : Way) → ends h c (after m) w ≡ after (ends h c m w)
  ends-after h c m w = ap (λ xs. record (after m) { rows = record (rows_behind r m.rows) { ends = xs } })
      (append_assoc r.ends m.rows.ends (record { cond = c; way = w; from = h.label; known = m.known } ∷ []))

  goes-after : (g : Region) (h : Here) (c : Tree) (m : Midst) (b : ℕ) → goes g h c (after m) b ≡ after (goes g h c m b)
  goes-after g h c m b = by (g.ends_at_head && nat_eq b g.head)
    where
      to : RegionEdge
      to = record { to = next_place h.place b; from = h.label; cond = c; known = m.known }

      by : (x : Bool) → (if x then ends h c (after m) enters_head else record (after m) { edges = (es ++ m.edges) ++ to ∷ [] })
          ≡ after (if x then ends h c m enters_head else record m { edges = m.edges ++ to ∷ [] })
      by true = ends-after h c m enters_head
      by false = ap (λ xs. record (after m) { edges = xs }) (append_assoc es m.edges (to ∷ []))

  leads-after : (g : Region) (h : Here) (c : Tree) (n : List ℕ) (m : Midst) → leads g h c n (after m) ≡ after (leads g h c n m)
  leads-after g h c n m = by (is_zero c) (block_number n g.blocks)
    where
      by : (x : Bool) (o : Option ℕ) → (if x then after m else goes_if g h c (after m) o) ≡ after (if x then m else goes_if g h c m o)
      by true o = refl
      by false None = refl
      by false (Some b) = goes-after g h c m b

  branches-after : (g : Region) (h : Here) (o : Option Tree) (first second : List ℕ) (m : Midst) → branches g h o first second (after m) ≡ after (branches g h o first second m)
  branches-after g h None first second m = refl
  branches-after g h (Some c) first second m =
      ap (leads g h (both h.cond c) second) (leads-after g h (both h.cond (make_operation Not (c ∷ []))) first m)
      ∙ leads-after g h (both h.cond c) second (leads g h (both h.cond (make_operation Not (c ∷ []))) first m)

  ends-if-after : (h : Here) (m : Midst) (o : Option Way) → ends_if h (after m) o ≡ after (ends_if h m o)
  ends-if-after h m None = refl
  ends-if-after h m (Some w) = ends-after h h.cond m w

  takes-after : (g : Region) (h : Here) (i : InstText) (result : Option (List ℕ)) (m : Midst) → takes g h i result (after m) ≡ after (takes g h i result m)
  takes-after g h (const_text d) result m = refl
  takes-after g h (pure_text o args) result m = refl
  takes-after g h (var_text a) result m = refl
  takes-after g h (ld_text a) result m = refl
  takes-after g h (st_text to value) result m = refl
  takes-after g h (prb_text a) result m = probes-after g m result (part_known m.known a.value)
  takes-after g h (drv_text to value delay cond) result m =
      drives-after m (drive_cond m.known h.cond cond) (part_known m.known to.value) (value_known m.known value) (value_known m.known delay)
  takes-after g h (call_text f ty args) result m = asserts-after m (values_known m.known args)
  takes-after g h (br_text to) result m = leads-after g h h.cond to m
  takes-after g h (branch_text cond first second) result m = branches-after g h (value_known m.known cond) first second m
  takes-after g h (wait_text to delay signals) result m = ends-if-after h m (wait_way g (is_some delay) (block_number to g.blocks) (parts_known m.known signals))
  takes-after g h halt_text result m = ends-after h h.cond m _
  takes-after g h _ result m = refl

  all-after : (g : Region) (h : Here) (ls : List LineText) (m : Midst) → takes_all g h ls (after m) ≡ after (takes_all g h ls m)
  all-after g h [] m = refl
  all-after g h (l ∷ ls) m = ap (takes_all g h ls) (takes-after g h l.inst l.result m) ∙ all-after g h ls (takes g h l.inst l.result m)

-- ---- edges lead to later places

abbrev Later : RegionPlace → RegionEdge → Type 0
Later p e = Before p e.to

module _ (g : Region) (h : Here) where
  abbrev AllLater : Midst → Type 0
  AllLater m = Each (Later h.place) m.edges

  goes-later : (c : Tree) (m : Midst) (b : ℕ) → AllLater m → AllLater (goes g h c m b)
  goes-later c m b a = by (g.ends_at_head && nat_eq b g.head)
    where
      to : RegionEdge
      to = record { to = next_place h.place b; from = h.label; cond = c; known = m.known }

      by : (x : Bool) → AllLater (if x then ends h c m enters_head else record m { edges = m.edges ++ to ∷ [] })
      by true = a
      by false = Each-append (Later h.place) m.edges (to ∷ []) a (next-later h.place (next_place h.place b) refl, tt)

  leads-later : (c : Tree) (n : List ℕ) (m : Midst) → AllLater m → AllLater (leads g h c n m)
  leads-later c n m a = by (is_zero c) (block_number n g.blocks)
    where
      by : (x : Bool) (o : Option ℕ) → AllLater (if x then m else goes_if g h c m o)
      by true o = a
      by false None = a
      by false (Some b) = goes-later c m b a

  branches-later : (o : Option Tree) (first second : List ℕ) (m : Midst) → AllLater m → AllLater (branches g h o first second m)
  branches-later None first second m a = a
  branches-later (Some c) first second m a =
      leads-later (both h.cond c) second (leads g h (both h.cond (make_operation Not (c ∷ []))) first m) (leads-later (both h.cond (make_operation Not (c ∷ []))) first m a)

  drives-later : (m : Midst) (c : Option Tree) (p : Option Part) (v d : Option Tree) → AllLater m → AllLater (drives m c p v d)
  drives-later m (Some c) (Some p) (Some v) (Some d) a = by (is_zero c)
    where
      by : (x : Bool) → AllLater (if x then m else record m { rows = record m.rows { drives = m.rows.drives ++ record { cond = c; part = p; value = v; delay = d } ∷ [] } })
      by true = a
      by false = a
  drives-later m (Some c) (Some p) (Some v) None a = a
  drives-later m (Some c) (Some p) None d a = a
  drives-later m (Some c) None v d a = a
  drives-later m None p v d a = a

  takes-later : (i : InstText) (result : Option (List ℕ)) (m : Midst) → AllLater m → AllLater (takes g h i result m)
  takes-later (prb_text x) result m a = by (part_known m.known x.value)
    where
      by : (o : Option Part) → AllLater (probes g m result o)
      by None = a
      by (Some p) = a
  takes-later (drv_text to value delay cond) result m a =
      drives-later m (drive_cond m.known h.cond cond) (part_known m.known to.value) (value_known m.known value) (value_known m.known delay) a
  takes-later (call_text f ty args) result m a = by (values_known m.known args)
    where
      by : (o : Option (List Tree)) → AllLater (asserts m o)
      by None = a
      by (Some ts) = a
  takes-later (br_text to) result m a = leads-later h.cond to m a
  takes-later (branch_text cond first second) result m a = branches-later (value_known m.known cond) first second m a
  takes-later (wait_text to delay signals) result m a = by (wait_way g (is_some delay) (block_number to g.blocks) (parts_known m.known signals))
    where
      by : (o : Option Way) → AllLater (ends_if h m o)
      by None = a
      by (Some w) = a
  takes-later _ result m a = a

  all-later : (ls : List LineText) (m : Midst) → AllLater m → AllLater (takes_all g h ls m)
  all-later [] m a = a
  all-later (l ∷ ls) m a = all-later ls (takes g h l.inst l.result m) (takes-later l.inst l.result m a)

-- ---- a place

-- a course that gained what this says
record Gains (c c' : Course) (m : Midst) : Type 0 where
  edges : c'.edges ≡ c.edges ++ m.edges
  rows : c'.rows ≡ rows_behind c.rows m.rows

rows-end : (r : Rows) → rows_behind r no_rows ≡ r
rows-end r = λ i. record { probes = append-nil r.probes i; drives = append-nil r.drives i; asserts = append-nil r.asserts i; ends = append-nil r.ends i }

gains-nothing : (c c' : Course) → c ≡ c' → Gains c c' gives_nothing
gains-nothing c c' e = record { edges = ap (λ (x : Course). x.edges) (sym e) ∙ sym (append-nil c.edges); rows = ap (λ (x : Course). x.rows) (sym e) ∙ sym (rows-end c.rows) }

module _ (g : Region) where
  block-gains : (p : RegionPlace) (q : Tree) (es : List RegionEdge) (c c' : Course) (b : FlatBlockText) → through_block g p q es c b ≡ comes_to c' → Gains c c' (block_gives g p q es b)
  block-gains p q es c c' b e = by (nat_lt max_insts (c.insts + length b.lines)) e
    where
      here : Here
      here = record { place = p; label = b.label; cond = q }

      bare : Midst
      bare = record { known = known_at es (with_merge b.merge b.lines); edges = []; rows = no_rows }

      start : Midst
      start = record { known = known_at es (with_merge b.merge b.lines); edges = c.edges; rows = c.rows }

      is-start : behind c.edges c.rows bare ≡ start
      is-start = λ i. record { known = known_at es (with_merge b.merge b.lines); edges = append-nil c.edges i; rows = rows-end c.rows i }

      lines-add : takes_all g here b.lines start ≡ behind c.edges c.rows (takes_all g here b.lines bare)
      lines-add = ap (takes_all g here b.lines) (sym is-start) ∙ all-after c.edges c.rows g here b.lines bare

      at : (m : Midst) → m ≡ behind c.edges c.rows (takes_all g here b.lines bare) → (x : Bool)
          → (if x then stops too_many_turns else comes_to (record { insts = c.insts + length b.lines; edges = m.edges; rows = m.rows })) ≡ comes_to c' → Gains c c' (takes_all g here b.lines bare)
      at m s true f = stops-not too_many_turns c' f
      at m s false f =
          let same = coursed-is (record { insts = c.insts + length b.lines; edges = m.edges; rows = m.rows }) c' f in
          record { edges = ap (λ (x : Course). x.edges) (sym same) ∙ ap (λ (x : Midst). x.edges) s; rows = ap (λ (x : Course). x.rows) (sym same) ∙ ap (λ (x : Midst). x.rows) s }

      by : (x : Bool) → (if x then stops region_too_large else after_lines (c.insts + length b.lines) (takes_all g here b.lines start)) ≡ comes_to c'
          → Gains c c' (takes_all g here b.lines bare)
      by true f = stops-not region_too_large c' f
      by false f = at (takes_all g here b.lines start) lines-add (turns_too_often (takes_all g here b.lines start).edges) f

  place-gains : (p : RegionPlace) (q : Tree) (es : List RegionEdge) (c c' : Course) → through g p q es c ≡ comes_to c' → Gains c c' (place_gives g p q es)
  place-gains p q es c c' e = by (slice_get g.blocks p.block) e
    where
      by : (o : Option FlatBlockText) → option_map_or (through_block g p q es c) o (comes_to c) ≡ comes_to c' → Gains c c' (option_map_or (block_gives g p q es) o gives_nothing)
      by None f = gains-nothing c c' (coursed-is c c' f)
      by (Some b) f = block-gains p q es c c' b f

  reached-gains : (p : RegionPlace) (es : List RegionEdge) (c c' : Course) → through_reached g p es c ≡ comes_to c' → Gains c c' (reached_gives g p es)
  reached-gains p [] c c' e = gains-nothing c c' (coursed-is c c' e)
  reached-gains p (x ∷ more) c c' e = place-gains p (any_taken (x ∷ more)) (x ∷ more) c c' e

  place-later : (p : RegionPlace) (q : Tree) (es : List RegionEdge) → Each (Later p) (place_gives g p q es).edges
  place-later p q es = by (slice_get g.blocks p.block)
    where
      by : (o : Option FlatBlockText) → Each (Later p) (option_map_or (block_gives g p q es) o gives_nothing).edges
      by None = tt
      by (Some b) = all-later g (record { place = p; label = b.label; cond = q }) b.lines (record { known = known_at es (with_merge b.merge b.lines); edges = []; rows = no_rows }) tt

  reached-later : (p : RegionPlace) (es : List RegionEdge) → Each (Later p) (reached_gives g p es).edges
  reached-later p [] = tt
  reached-later p (x ∷ more) = place-later p (any_taken (x ∷ more)) (x ∷ more)

  -- ---- later places change nothing at an earlier one

  to-append : (p : RegionPlace) (xs ys : List RegionEdge) → edges_to p (xs ++ ys) ≡ edges_to p xs ++ edges_to p ys
  to-append p [] ys = refl
  to-append p (x ∷ xs) ys = by (is_place x.to p) (to-append p xs ys)
    where
      by : (b : Bool) → edges_to p (xs ++ ys) ≡ edges_to p xs ++ edges_to p ys → (if b then x ∷ edges_to p (xs ++ ys) else edges_to p (xs ++ ys))
          ≡ (if b then x ∷ edges_to p xs else edges_to p xs) ++ edges_to p ys
      by true e = ap (λ zs. x ∷ zs) e
      by false e = e

  none-to : (p : RegionPlace) (es : List RegionEdge) → Each (Later p) es → edges_to p es ≡ []
  none-to p [] h = refl
  none-to p (e ∷ es) h = by (is_place e.to p) refl (none-to p es h.1)
    where
      by : (b : Bool) → is_place e.to p ≡ b → edges_to p es ≡ [] → (if b then e ∷ edges_to p es else edges_to p es) ≡ []
      by true q r = absurd (never-before p (subst (Before p) (place-is e.to p q) h.0))
      by false q r = r

  stays : (p : RegionPlace) (c c' : Course) (m : Midst) → Gains c c' m → Each (Later p) m.edges → edges_to p c.edges ≡ edges_to p c'.edges
  stays p c c' m s a = sym (ap (edges_to p) s.edges ∙ to-append p c.edges m.edges ∙ ap (λ xs. edges_to p c.edges ++ xs) (none-to p m.edges a) ∙ append-nil (edges_to p c.edges))

  -- the course after one place, where that of the places goes on
  record Onward (p : RegionPlace) (ps : List RegionPlace) (c c' : Course) : Type 0 where
    course : Course
    gains : Gains c course (reached_gives g p (edges_to p c.edges))
    there : through_all g ps course ≡ comes_to c'

  onward : (p : RegionPlace) (ps : List RegionPlace) (c c' : Course) → through_all g (p ∷ ps) c ≡ comes_to c' → Onward p ps c c'
  onward p ps c c' e = by (through_reached g p (edges_to p c.edges) c) refl e
    where
      by : (x : Coursed) → through_reached g p (edges_to p c.edges) c ≡ x → then_course x (through_all g ps) ≡ comes_to c' → Onward p ps c c'
      by (stops z) q f = stops-not z c' f
      by (comes_to d) q f = record { course = d; gains = reached-gains p (edges_to p c.edges) c d q; there = f }

  all-stay : (p : RegionPlace) (ps : List RegionPlace) (c c' : Course) → Each (Before p) ps → through_all g ps c ≡ comes_to c' → edges_to p c.edges ≡ edges_to p c'.edges
  all-stay p [] c c' b e = ap (λ (x : Course). edges_to p x.edges) (coursed-is c c' e)
  all-stay p (q ∷ ps) c c' b e =
      let o = onward q ps c c' e in
      stays p c o.course (reached_gives g q (edges_to q c.edges)) o.gains
      (Each-more (Later q) (Later p) (reached_gives g q (edges_to q c.edges)).edges (λ x l. before-trans p q x.to b.0 l) (reached-later q (edges_to q c.edges)))
      ∙ all-stay p ps o.course c' b.1 o.there

  -- ---- all places

  abbrev given : Course → RegionPlace → Midst
  given c p = reached_gives g p (edges_to p c.edges)

  record AllGain (ps : List RegionPlace) (c c' : Course) : Type 0 where
    edges : c'.edges ≡ c.edges ++ flat_map (λ p. (given c' p).edges) ps
    rows : c'.rows ≡ rows_behind c.rows (rows_of (map (λ p. (given c' p).rows) ps))

  rows-assoc : (r s t : Rows) → rows_behind (rows_behind r s) t ≡ rows_behind r (rows_behind s t)
  rows-assoc r s t = λ i. record {
    probes = append_assoc r.probes s.probes t.probes i;
    drives = append_assoc r.drives s.drives t.drives i;
    asserts = append_assoc r.asserts s.asserts t.asserts i;
    ends = append_assoc r.ends s.ends t.ends i;
  }

  all-gain : (ps : List RegionPlace) (c c' : Course) → Sorted ps → through_all g ps c ≡ comes_to c' → AllGain ps c c'
  all-gain [] c c' s e = let n = gains-nothing c c' (coursed-is c c' e) in record { edges = n.edges; rows = n.rows }
  all-gain (p ∷ ps) c c' s e =
      let o = onward p ps c c' e in
      let rest = all-gain ps o.course c' s.1 o.there in
      let same : edges_to p c.edges ≡ edges_to p c'.edges =
      stays p c o.course (reached_gives g p (edges_to p c.edges)) o.gains (reached-later p (edges_to p c.edges)) ∙ all-stay p ps o.course c' s.0 o.there in
      record {
        edges = rest.edges ∙ ap (λ xs. xs ++ flat_map (λ p. (given c' p).edges) ps) (o.gains.edges ∙ ap (λ xs. c.edges ++ (reached_gives g p xs).edges) same)
            ∙ append_assoc c.edges (given c' p).edges (flat_map (λ p. (given c' p).edges) ps);
        rows = rest.rows ∙ ap (λ x. rows_behind x (rows_of (map (λ p. (given c' p).rows) ps))) (o.gains.rows ∙ ap (λ xs. rows_behind c.rows (reached_gives g p xs).rows) same)
            ∙ rows-assoc c.rows (given c' p).rows (rows_of (map (λ p. (given c' p).rows) ps));
      }

  solved : (b : ℕ) (es : List RegionEdge) (c : Course) → region_from g b es ≡ comes_to c → IsSolved g b es c
  unfolding region_from
  solved b es c e = by (through g (record { turns = 0; block = b }) (bit_of true) es no_course) refl e
    where
      by : (x : Coursed) → through g (record { turns = 0; block = b }) (bit_of true) es no_course ≡ x → then_course x (through_all g (all_places (length g.blocks))) ≡ comes_to c → IsSolved g b es c
      by (stops z) q f = stops-not z c f
      by (comes_to d) q f =
          let first = place-gains (record { turns = 0; block = b }) (bit_of true) es no_course d q in
          let rest = all-gain (all_places (length g.blocks)) d c (places-sorted (length g.blocks)) f in
          record {
            edges = rest.edges ∙ ap (λ xs. xs ++ flat_map (λ p. (given c p).edges) (all_places (length g.blocks))) first.edges;
            rows = rest.rows ∙ ap (λ x. rows_behind x (rows_of (map (λ p. (given c p).rows) (all_places (length g.blocks))))) first.rows;
          }

pub region-solved : RegionIsSolved
region-solved g b es c e = solved g b es c e
