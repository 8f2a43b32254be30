-- The rows of a region: each part is reached, and each term has only parts that are probed.
use Rattle.std.proofs.Common.{◌≡◌, ℕ, List, [], ◌∷◌, ◌++◌, length, Bool, true, false, ◌&&◌, nat_eq, Option, Some, None, refl, ap, sym, ◌∙◌, subst}
use Rattle.std.specs.Bool.{if◌then◌else◌}
use Rattle.std.specs.Prelude.{slice_get}
use Rattle.std.specs.Option.{option_map, option_map_or, is_some}
use Rattle.std.proofs.lemmas.Option.{same_Some, none-some}
use Rattle.lh_types.specs.declared.op.Op.TheVariants.{Not, And}
use Rattle.lh_unit.specs.Contents.{InstText, const_text, pure_text, var_text, ld_text, st_text, prb_text, drv_text, call_text, br_text, branch_text, wait_text, halt_text, LineText, UnitText}
use Rattle.lh_unit.specs.Within.{Each}
use Rattle.lh_unit.proofs.Lists.{Each-append, Each-left, Each-right}
use Rattle.lh_flat.specs.Flat.{FlatBlockText, with_merge, as_block}
use Rattle.lh_term.specs.Tree.{Tree, constant}
use Rattle.lh_term.specs.Make.{is_zero, bit_of, make_operation}
use Rattle.lh_term.specs.declared.part.Part.{Part}
use Rattle.lh_region_def.specs.Known.{Known, known_value, known_cell, Knowledge, value_known, cell_known, part_known, values_known, parts_known}
use Rattle.lh_region_def.specs.Rows.{Drive, Way, halts, enters_head, waits, RegionEnd, Rows}
use Rattle.lh_region_def.specs.Joins.{RegionPlace, RegionEdge, any_taken}
use Rattle.lh_region_def.specs.Places.{Region, Here, Midst, block_number, operated, gives, probes, both, drive_cond, with_drive, drives, asserts, ends, next_place, goes, goes_if, leads, branches, wait_way, ends_if, takes, takes_all}
use Rattle.lh_region_def.specs.Regions.{Course, no_course, Coursed, stops, comes_to, then_course, through_block, through, is_place, edges_to, through_reached, through_all, all_places, region_from, waited_parts}
use Rattle.lh_region_def.proofs.Courses.{coursed-is, stops-not}
use Rattle.lh_region_def.proofs.Courses as Courses
use Rattle.lh_region_def.proofs.Sites.{LineGood, good-lines}
use Rattle.lh_region_def.proofs.Labels.{block-text}
use Rattle.lh_region_def.proofs.Steps.{RegionOf}
use Rattle.lh_term.specs.Leaves.{AllParts}
use Rattle.lh_entity_laws.proofs.GivenTrees.{In, make-in}
use Rattle.lh_entity_laws.proofs.GivenKnown.{PartFine, part-fine, KnownFine, KnowsFine, value-fine, cell-fine, part-known-fine, parts-fine, given-fine, some-value, some-cell, operated-fine, EdgeFine, taken-fine, known-at-fine}

-- ---- what is probed stays so

module _ (T : Part → Type 0) (g : Region) where
  abbrev pub Probed : Rows → Type 0
  Probed r = Each T r.probes

  with-probed : (m : Midst) (d : Drive) → Probed (with_drive m d).rows → Probed m.rows
  with-probed m d h = by (is_zero d.cond) h
    where
      by : (b : Bool) → Probed (if b then m else record m { rows = record m.rows { drives = m.rows.drives ++ d ∷ [] } }).rows → Probed m.rows
      by true k = k
      by false k = k

  drives-probed : (m : Midst) (c : Option Tree) (p : Option Part) (v d : Option Tree) → Probed (drives m c p v d).rows → Probed m.rows
  drives-probed m None p v d h = h
  drives-probed m (Some c) None v d h = h
  drives-probed m (Some c) (Some p) None d h = h
  drives-probed m (Some c) (Some p) (Some v) None h = h
  drives-probed m (Some c) (Some p) (Some v) (Some d) h = with-probed m (record { cond = c; part = p; value = v; delay = d }) h

  asserts-probed : (m : Midst) (o : Option (List Tree)) → Probed (asserts m o).rows → Probed m.rows
  asserts-probed m None h = h
  asserts-probed m (Some ts) h = h

  probes-probed : (m : Midst) (r : Option (List ℕ)) (o : Option Part) → Probed (probes g m r o).rows → Probed m.rows
  probes-probed m r None h = h
  probes-probed m r (Some p) h = Each-left T m.rows.probes (p ∷ []) h

  goes-probed : (h : Here) (c : Tree) (m : Midst) (b : ℕ) → Probed (goes g h c m b).rows → Probed m.rows
  goes-probed h c m b k = by (g.ends_at_head && nat_eq b g.head) k
    where
      by : (x : Bool) → Probed (if x then ends h c m enters_head else record m { edges = m.edges ++ record { to = next_place h.place b; from = h.label; cond = c; known = m.known } ∷ [] }).rows
          → Probed m.rows
      by true z = z
      by false z = z

  goes-if-probed : (h : Here) (c : Tree) (m : Midst) (b : Option ℕ) → Probed (goes_if g h c m b).rows → Probed m.rows
  goes-if-probed h c m None k = k
  goes-if-probed h c m (Some b) k = goes-probed h c m b k

  leads-probed : (h : Here) (c : Tree) (n : List ℕ) (m : Midst) → Probed (leads g h c n m).rows → Probed m.rows
  leads-probed h c n m k = by (is_zero c) k
    where
      by : (x : Bool) → Probed (if x then m else goes_if g h c m (block_number n g.blocks)).rows → Probed m.rows
      by true z = z
      by false z = goes-if-probed h c m (block_number n g.blocks) z

  branches-probed : (h : Here) (o : Option Tree) (first second : List ℕ) (m : Midst) → Probed (branches g h o first second m).rows → Probed m.rows
  branches-probed h None first second m k = k
  branches-probed h (Some c) first second m k =
      leads-probed h (both h.cond (make_operation Not (c ∷ []))) first m (leads-probed h (both h.cond c) second (leads g h (both h.cond (make_operation Not (c ∷ []))) first m) k)

  ends-if-probed : (h : Here) (m : Midst) (w : Option Way) → Probed (ends_if h m w).rows → Probed m.rows
  ends-if-probed h m None k = k
  ends-if-probed h m (Some w) k = k

  pub takes-probed : (h : Here) (j : InstText) (r : Option (List ℕ)) (m : Midst) → Probed (takes g h j r m).rows → Probed m.rows
  takes-probed h (prb_text a) r m k = probes-probed m r (part_known m.known a.value) k
  takes-probed h (drv_text to value after cond) r m k = drives-probed m (drive_cond m.known h.cond cond) (part_known m.known to.value) (value_known m.known value) (value_known m.known after) k
  takes-probed h (call_text f ty os) r m k = asserts-probed m (values_known m.known os) k
  takes-probed h (br_text to) r m k = leads-probed h h.cond to m k
  takes-probed h (branch_text cond first second) r m k = branches-probed h (value_known m.known cond) first second m k
  takes-probed h (wait_text to after on) r m k = ends-if-probed h m (wait_way g (is_some after) (block_number to g.blocks) (parts_known m.known on)) k
  takes-probed h j r m k = k

  pub lines-probed : (h : Here) (ls : List LineText) (m : Midst) → Probed (takes_all g h ls m).rows → Probed m.rows
  lines-probed h [] m k = k
  lines-probed h (l ∷ ls) m k = takes-probed h l.inst l.result m (lines-probed h ls (takes g h l.inst l.result m) k)

-- ---- a place

module _ (u : UnitText) (T : Part → Type 0) (g : Region) (probed : (p : Part) → T p → AllParts T (g.probe p)) where
  pub record DriveFine (d : Drive) : Type 0 where
    pub cond : AllParts T d.cond
    pub part : PartFine u d.part
    pub value : AllParts T d.value
    pub delay : AllParts T d.delay

  pub record EndFine (x : RegionEnd) : Type 0 where
    pub cond : AllParts T x.cond
    pub known : KnowsFine u T x.known
    pub way : Each (PartFine u) (waited_parts x.way)

  pub record RowsFine (r : Rows) : Type 0 where
    pub probes : Each (PartFine u) r.probes
    pub drives : Each DriveFine r.drives
    pub ends : Each EndFine r.ends

  pub record MidstFine (m : Midst) : Type 0 where
    pub known : KnowsFine u T m.known
    pub edges : Each (EdgeFine u T) m.edges
    pub rows : RowsFine m.rows

  gives-fine : (m : Midst) (r : Option (List ℕ)) (o : Option Known) → MidstFine m → ((n : List ℕ) (x : Known) → r ≡ Some n → o ≡ Some x → KnownFine u T n x) → MidstFine (gives m r o)
  gives-fine m r o h f = record { known = given-fine u T m.known r o h.known f; edges = h.edges; rows = h.rows }

  probes-fine : (m : Midst) (r : Option (List ℕ)) (o : Option Part) → MidstFine m → ((p : Part) → o ≡ Some p → PartFine u p) → Probed T g (probes g m r o).rows → MidstFine (probes g m r o)
  probes-fine m r None h f k = h
  probes-fine m r (Some p) h f k =
      let m1 : Midst = record m { rows = record m.rows { probes = m.rows.probes ++ p ∷ [] } } in
      let fine1 : MidstFine m1 = record {
        known = h.known;
        edges = h.edges;
        rows = record { probes = Each-append (PartFine u) m.rows.probes (p ∷ []) h.rows.probes (f p refl, tt); drives = h.rows.drives; ends = h.rows.ends };
      } in
      gives-fine m1 r (Some (known_value (g.probe p))) fine1 (λ n x q e. subst (KnownFine u T n) (same_Some (known_value (g.probe p)) x e) (probed p (Each-right T m.rows.probes (p ∷ []) k).0))

  with-fine : (m : Midst) (d : Drive) → MidstFine m → DriveFine d → MidstFine (with_drive m d)
  with-fine m d h f = by (is_zero d.cond)
    where
      by : (b : Bool) → MidstFine (if b then m else record m { rows = record m.rows { drives = m.rows.drives ++ d ∷ [] } })
      by true = h
      by false = record { known = h.known; edges = h.edges; rows = record { probes = h.rows.probes; drives = Each-append DriveFine m.rows.drives (d ∷ []) h.rows.drives (f, tt); ends = h.rows.ends } }

  asserts-fine : (m : Midst) (o : Option (List Tree)) → MidstFine m → MidstFine (asserts m o)
  asserts-fine m None h = h
  asserts-fine m (Some ts) h = record { known = h.known; edges = h.edges; rows = record { probes = h.rows.probes; drives = h.rows.drives; ends = h.rows.ends } }

  both-fine : (c d : Tree) → In T c → In T d → In T (both c d)
  both-fine c d h k = make-in T And (c ∷ d ∷ []) (h, (k, tt))

  module _ (h : Here) (hc : In T h.cond) where
    cond-fine : (k : Knowledge) → KnowsFine u T k → (o : Option (List ℕ)) (c : Tree) → drive_cond k h.cond o ≡ Some c → In T c
    cond-fine k f None c q = subst (In T) (same_Some h.cond c q) hc
    cond-fine k f (Some n) c q = by (value_known k n) refl q
      where
        by : (x : Option Tree) → value_known k n ≡ x → option_map (both h.cond) x ≡ Some c → In T c
        by None e z = absurd (none-some c z)
        by (Some d) e z = subst (In T) (same_Some (both h.cond d) c z) (both-fine h.cond d hc (value-fine u T k f n d e))

    drives-fine : (m : Midst) (c : Option Tree) (p : Option Part) (v d : Option Tree) → MidstFine m → ((t : Tree) → c ≡ Some t → In T t) → ((q : Part) → p ≡ Some q → PartFine u q)
        → ((t : Tree) → v ≡ Some t → In T t) → ((t : Tree) → d ≡ Some t → In T t) → MidstFine (drives m c p v d)
    drives-fine m None p v d f hc' hp hv hd = f
    drives-fine m (Some c) None v d f hc' hp hv hd = f
    drives-fine m (Some c) (Some p) None d f hc' hp hv hd = f
    drives-fine m (Some c) (Some p) (Some v) None f hc' hp hv hd = f
    drives-fine m (Some c) (Some p) (Some v) (Some d) f hc' hp hv hd =
        with-fine m (record { cond = c; part = p; value = v; delay = d }) f (record { cond = hc' c refl; part = hp p refl; value = hv v refl; delay = hd d refl })

    ends-fine : (c : Tree) (m : Midst) (w : Way) → In T c → MidstFine m → Each (PartFine u) (waited_parts w) → MidstFine (ends h c m w)
    ends-fine c m w i f k = record {
      known = f.known;
      edges = f.edges;
      rows = record {
        probes = f.rows.probes;
        drives = f.rows.drives;
        ends = Each-append EndFine m.rows.ends (record { cond = c; way = w; from = h.label; known = m.known } ∷ []) f.rows.ends
            (record { cond = i; known = f.known; way = k }, tt);
      };
    }

    goes-fine : (c : Tree) (m : Midst) (b : ℕ) → In T c → MidstFine m → MidstFine (goes g h c m b)
    goes-fine c m b i f = by (g.ends_at_head && nat_eq b g.head)
      where
        by : (x : Bool) → MidstFine (if x then ends h c m enters_head else record m { edges = m.edges ++ record { to = next_place h.place b; from = h.label; cond = c; known = m.known } ∷ [] })
        by true = ends-fine c m enters_head i f tt
        by false = record {
          known = f.known;
          edges = Each-append (EdgeFine u T) m.edges (record { to = next_place h.place b; from = h.label; cond = c; known = m.known } ∷ []) f.edges
              (record { cond = i; known = f.known }, tt);
          rows = f.rows;
        }

    goes-if-fine : (c : Tree) (m : Midst) (b : Option ℕ) → In T c → MidstFine m → MidstFine (goes_if g h c m b)
    goes-if-fine c m None i f = f
    goes-if-fine c m (Some b) i f = goes-fine c m b i f

    leads-fine : (c : Tree) (n : List ℕ) (m : Midst) → In T c → MidstFine m → MidstFine (leads g h c n m)
    leads-fine c n m i f = by (is_zero c)
      where
        by : (x : Bool) → MidstFine (if x then m else goes_if g h c m (block_number n g.blocks))
        by true = f
        by false = goes-if-fine c m (block_number n g.blocks) i f

    branches-fine : (o : Option Tree) (first second : List ℕ) (m : Midst) → ((t : Tree) → o ≡ Some t → In T t) → MidstFine m → MidstFine (branches g h o first second m)
    branches-fine None first second m i f = f
    branches-fine (Some c) first second m i f =
        let n : Tree = make_operation Not (c ∷ []) in
        leads-fine (both h.cond c) second (leads g h (both h.cond n) first m) (both-fine h.cond c hc (i c refl))
        (leads-fine (both h.cond n) first m (both-fine h.cond n hc (make-in T Not (c ∷ []) (i c refl, tt))) f)

    ends-if-fine : (m : Midst) (timed : Bool) (b : Option ℕ) (ps : Option (List Part)) → MidstFine m → ((qs : List Part) → ps ≡ Some qs → Each (PartFine u) qs)
        → MidstFine (ends_if h m (wait_way g timed b ps))
    ends-if-fine m timed None ps f k = f
    ends-if-fine m timed (Some b) None f k = f
    ends-if-fine m timed (Some b) (Some ps) f k = ends-fine h.cond m (waits b (nat_eq b g.head) ps timed) hc f (k ps refl)

    part-found : (m : Midst) → MidstFine m → (n : List ℕ) (p : Part) → part_known m.known n ≡ Some p → PartFine u p
    part-found m f n p q = part-fine u n p (part-known-fine u T m.known f.known n p q)

    -- an instruction
    takes-fine : (l : LineText) → LineGood u l → (m : Midst) → MidstFine m → Probed T g (takes g h l.inst l.result m).rows → MidstFine (takes g h l.inst l.result m)
    takes-fine l good m f k = by l.inst refl k
      where
        by : (j : InstText) → l.inst ≡ j → Probed T g (takes g h j l.result m).rows → MidstFine (takes g h j l.result m)
        by (const_text d) e k = gives-fine m l.result (Some (known_value (constant d))) f (λ n x q z. subst (KnownFine u T n) (same_Some (known_value (constant d)) x z) tt)
        by (pure_text o os) e k = gives-fine m l.result (operated m.known o os) f (λ n x q z. operated-fine u T m.known f.known l good n q o os e x z)
        by (var_text a) e k = gives-fine m l.result (option_map known_cell (value_known m.known a.value)) f
            (λ n x q z. some-cell u T (value_known m.known a.value) (λ t w. value-fine u T m.known f.known a.value t w) n x z)
        by (ld_text a) e k = gives-fine m l.result (option_map known_value (cell_known m.known a.value)) f
            (λ n x q z. some-value u T (cell_known m.known a.value) (λ t w. cell-fine u T m.known f.known a.value t w) n x z)
        by (st_text to value) e k = gives-fine m (Some to.value) (option_map known_cell (value_known m.known value)) f
            (λ n x q z. some-cell u T (value_known m.known value) (λ t w. value-fine u T m.known f.known value t w) n x z)
        by (prb_text a) e k = probes-fine m l.result (part_known m.known a.value) f (λ p q. part-found m f a.value p q) k
        by (drv_text to value after cond) e k =
            drives-fine m (drive_cond m.known h.cond cond) (part_known m.known to.value) (value_known m.known value) (value_known m.known after) f (λ t q. cond-fine m.known f.known cond t q)
            (λ p q. part-found m f to.value p q) (λ t q. value-fine u T m.known f.known value t q) (λ t q. value-fine u T m.known f.known after t q)
        by (call_text v ty os) e k = asserts-fine m (values_known m.known os) f
        by (br_text to) e k = leads-fine h.cond to m hc f
        by (branch_text cond first second) e k = branches-fine (value_known m.known cond) first second m (λ t q. value-fine u T m.known f.known cond t q) f
        by (wait_text to after on) e k = ends-if-fine m (is_some after) (block_number to g.blocks) (parts_known m.known on) f (λ ps q. parts-fine u T m.known f.known on ps q)
        by halt_text e k = ends-fine h.cond m halts hc f tt
        by j e k = f

    lines-fine : (ls : List LineText) → Each (LineGood u) ls → (m : Midst) → MidstFine m → Probed T g (takes_all g h ls m).rows → MidstFine (takes_all g h ls m)
    lines-fine [] good m f k = f
    lines-fine (l ∷ ls) good m f k =
        let m1 : Midst = takes g h l.inst l.result m in
        lines-fine ls good.1 m1 (takes-fine l good.0 m f (lines-probed T g h ls m1 k)) k

  -- ---- the places of a region

  pub record CourseFine (c : Course) : Type 0 where
    pub edges : Each (EdgeFine u T) c.edges
    pub rows : RowsFine c.rows

  module _ (r : RegionOf u g) where
    block-good : (k : ℕ) (b : FlatBlockText) → slice_get g.blocks k ≡ Some b → Each (LineGood u) (with_merge b.merge b.lines)
    block-good k b q = good-lines u r.formed k (as_block b) (ap (λ bs. slice_get bs k) r.blocks ∙ block-text g.blocks k b q)

    to-fine : (p : RegionPlace) (es : List RegionEdge) → Each (EdgeFine u T) es → Each (EdgeFine u T) (edges_to p es)
    to-fine p [] h = tt
    to-fine p (e ∷ es) h = by (is_place e.to p) (to-fine p es h.1)
      where
        by : (b : Bool) → Each (EdgeFine u T) (edges_to p es) → Each (EdgeFine u T) (if b then e ∷ edges_to p es else edges_to p es)
        by true z = (h.0, z)
        by false z = z

    abbrev in-course : Course → Type 0
    in-course c = Probed T g c.rows

    -- what a place comes to
    rows-after : (p : RegionPlace) (q : Tree) (es : List RegionEdge) (c c1 : Course) (b : FlatBlockText) → through_block g p q es c b ≡ comes_to c1
        → c1.rows ≡ (takes_all g (Courses.here_at u g r p q b) (with_merge b.merge b.lines) (Courses.start_at u g r es c b)).rows
    rows-after p q es c c1 b e = let t = Courses.treated u g r p q es c b c1 e in t.rows ∙ ap (λ (m : Midst). m.rows) t.is

    edges-after : (p : RegionPlace) (q : Tree) (es : List RegionEdge) (c c1 : Course) (b : FlatBlockText) → through_block g p q es c b ≡ comes_to c1
        → c1.edges ≡ (takes_all g (Courses.here_at u g r p q b) (with_merge b.merge b.lines) (Courses.start_at u g r es c b)).edges
    edges-after p q es c c1 b e = let t = Courses.treated u g r p q es c b c1 e in t.edges ∙ ap (λ (m : Midst). m.edges) t.is

    -- ---- no probe is taken back

    block-probed : (p : RegionPlace) (q : Tree) (es : List RegionEdge) (c c1 : Course) (b : FlatBlockText) → through_block g p q es c b ≡ comes_to c1 → in-course c1 → in-course c
    block-probed p q es c c1 b e k = lines-probed T g (Courses.here_at u g r p q b) (with_merge b.merge b.lines) (Courses.start_at u g r es c b) (subst (Probed T g) (rows-after p q es c c1 b e) k)

    through-probed : (p : RegionPlace) (q : Tree) (es : List RegionEdge) (c c1 : Course) → through g p q es c ≡ comes_to c1 → in-course c1 → in-course c
    through-probed p q es c c1 e k = by (slice_get g.blocks p.block) e
      where
        by : (o : Option FlatBlockText) → option_map_or (through_block g p q es c) o (comes_to c) ≡ comes_to c1 → in-course c
        by None w = subst in-course (sym (coursed-is c c1 w)) k
        by (Some b) w = block-probed p q es c c1 b w k

    reached-probed : (p : RegionPlace) (es : List RegionEdge) (c c1 : Course) → through_reached g p es c ≡ comes_to c1 → in-course c1 → in-course c
    reached-probed p [] c c1 e k = subst in-course (sym (coursed-is c c1 e)) k
    reached-probed p (x ∷ es) c c1 e k = through-probed p (any_taken (x ∷ es)) (x ∷ es) c c1 e k

    all-probed : (ps : List RegionPlace) (c c' : Course) → through_all g ps c ≡ comes_to c' → in-course c' → in-course c
    all-probed [] c c' e k = subst in-course (sym (coursed-is c c' e)) k
    all-probed (p ∷ ps) c c' e k = let o = Courses.onward u g r p ps c c' e in reached-probed p (edges_to p c.edges) c o.course o.here (all-probed ps o.course c' o.there k)

    -- ---- what is known and added is fine

    block-fine : (p : RegionPlace) (q : Tree) (es : List RegionEdge) (c c1 : Course) (b : FlatBlockText) → slice_get g.blocks p.block ≡ Some b → In T q → Each (EdgeFine u T) es
        → through_block g p q es c b ≡ comes_to c1 → CourseFine c → in-course c1 → CourseFine c1
    block-fine p q es c c1 b at hq he e f k =
        let ls : List LineText = with_merge b.merge b.lines in
        let m = lines-fine (Courses.here_at u g r p q b) hq ls (block-good p.block b at) (Courses.start_at u g r es c b) (record { known = known-at-fine u T es ls he; edges = f.edges; rows = f.rows })
        (subst (Probed T g) (rows-after p q es c c1 b e) k) in
        record { edges = subst (Each (EdgeFine u T)) (sym (edges-after p q es c c1 b e)) m.edges; rows = subst RowsFine (sym (rows-after p q es c c1 b e)) m.rows }

    through-fine : (p : RegionPlace) (q : Tree) (es : List RegionEdge) (c c1 : Course) → In T q → Each (EdgeFine u T) es → through g p q es c ≡ comes_to c1 → CourseFine c → in-course c1
        → CourseFine c1
    through-fine p q es c c1 hq he e f k = by (slice_get g.blocks p.block) refl e
      where
        by : (o : Option FlatBlockText) → slice_get g.blocks p.block ≡ o → option_map_or (through_block g p q es c) o (comes_to c) ≡ comes_to c1 → CourseFine c1
        by None z w = subst CourseFine (coursed-is c c1 w) f
        by (Some b) z w = block-fine p q es c c1 b z hq he w f k

    reached-fine : (p : RegionPlace) (es : List RegionEdge) (c c1 : Course) → Each (EdgeFine u T) es → through_reached g p es c ≡ comes_to c1 → CourseFine c → in-course c1 → CourseFine c1
    reached-fine p [] c c1 he e f k = subst CourseFine (coursed-is c c1 e) f
    reached-fine p (x ∷ es) c c1 he e f k = through-fine p (any_taken (x ∷ es)) (x ∷ es) c c1 (taken-fine u T (x ∷ es) he) he e f k

    all-fine : (ps : List RegionPlace) (c c' : Course) → CourseFine c → through_all g ps c ≡ comes_to c' → in-course c' → CourseFine c'
    all-fine [] c c' f e k = subst CourseFine (coursed-is c c' e) f
    all-fine (p ∷ ps) c c' f e k =
        let o = Courses.onward u g r p ps c c' e in
        all-fine ps o.course c' (reached-fine p (edges_to p c.edges) c o.course (to-fine p c.edges f.edges) o.here f (all-probed ps o.course c' o.there k)) o.there k

    none-fine : CourseFine no_course
    none-fine = record { edges = tt; rows = record { probes = tt; drives = tt; ends = tt } }

    -- Where what is known on the edges into a region is fine, so is what it comes to.
    pub region-fine : (b : ℕ) (es : List RegionEdge) (c' : Course) → Each (EdgeFine u T) es → region_from g b es ≡ comes_to c' → in-course c' → CourseFine c'
    unfolding region_from
    region-fine b es c' he e k = by (through g (record { turns = 0; block = b }) (bit_of true) es no_course) refl e
      where
        by : (x : Coursed) → through g (record { turns = 0; block = b }) (bit_of true) es no_course ≡ x → then_course x (through_all g (all_places (length g.blocks))) ≡ comes_to c' → CourseFine c'
        by (stops z) q w = stops-not z c' w
        by (comes_to c) q w =
            all-fine (all_places (length g.blocks)) c c'
            (through-fine (record { turns = 0; block = b }) (bit_of true) es no_course c tt he q none-fine (all-probed (all_places (length g.blocks)) c c' w k)) w k
