-- What is known on the way through a region has names with types: each result of a formed process has one, and so has each argument.
use Rattle.std.proofs.Common.{◌≡◌, ℕ, ◌+◌, Bool, true, false, ◌&&◌, nat_eq, List, [], ◌∷◌, ◌++◌, Option, Some, None, IsSome, is_some, slice_get, refl, ap, sym, ◌∙◌, subst}
use Rattle.std.specs.Bool.{if◌then◌else◌}
use Rattle.std.specs.Option.{option_map, option_map_or}
use Rattle.lh_types.specs.Types.{TypeTree}
use Rattle.lh_types.specs.declared.op.Op.TheVariants.{Not}
use Rattle.lh_unit.specs.Contents.{InstText, const_text, pure_text, var_text, ld_text, st_text, prb_text, drv_text, call_text, phi_text, br_text, branch_text, wait_text, halt_text, LineText, BlockText, ArgText, UnitText}
use Rattle.lh_unit_names.specs.Names.{same_name}
use Rattle.lh_unit_names.specs.declared.name.UnitName.{UnitName}
use Rattle.lh_unit.specs.Kinds.{uses}
use Rattle.lh_unit.specs.Typing.{value_type, carried}
use Rattle.lh_unit.specs.Within.{Each}
use Rattle.lh_unit_names.proofs.NameLists.{same_name-is}
use Rattle.lh_unit.proofs.Lists.{Each-append}
use Rattle.lh_flat_laws.specs.Formed.{IsFormed}
use Rattle.lh_verify_laws.specs.KindsOf.{HasTypeOfKind}
use Rattle.lh_eval_laws.specs.Units.{HasItsType}
use Rattle.lh_flat.specs.Flat.{FlatBlockText, FlatText, with_merge, flat_unit, as_block}
use Rattle.lh_term.specs.Tree.{Tree}
use Rattle.lh_term.specs.Make.{is_zero, make_operation}
use Rattle.lh_term.specs.declared.part.Part.{Part}
use Rattle.lh_region_def.specs.Known.{Known, known_value, known_cell, known_part, Knowledge, nothing_known, with_known, with_given, value_known, part_known, with_arguments}
use Rattle.lh_term.specs.Parts.{whole_argument}
use Rattle.lh_region_def.specs.Rows.{Drive, Way, enters_head, RegionEnd, Rows}
use Rattle.lh_region_def.specs.Joins.{RegionPlace, RegionEdge, joined, with_phi, with_phis, known_at}
use Rattle.lh_region_def.specs.Places.{Region, Here, Midst, gives, probes, with_drive, drive_cond, drives, asserts, ends, goes, goes_if, both, leads, branches, ends_if, block_number, next_place, takes, takes_all}
use Rattle.lh_region_def.specs.Regions.{Course, comes_to, is_place, edges_to, edges_of_ends, through_block, through, through_reached, head_of, with_constant, with_constants, lines_at, known_first}
use Rattle.lh_region_def.proofs.Sites.{block-lines}
use Rattle.lh_region_def.proofs.Labels.{block-text}
use Rattle.lh_region_def.proofs.JoinedKnowledge.{GiveEach, given-each, value_on, cell_on, part_on, JoinCase, of_value, of_cell, of_part, join-case, merged-of, known-by-value, known-by-cell, known-by-part}
use Rattle.lh_region_def.proofs.Steps.{RegionOf}
use Rattle.lh_region_def.proofs.Courses.{coursed-is, treated}
use Rattle.lh_region_walk.specs.Named.{KnowsNamed, EdgesNamed, CourseNamed}

-- a result has a type, if it has a name
abbrev ResultNamed : UnitText → Option (List ℕ) → Type 0
ResultNamed u r = (n : List ℕ) → r ≡ Some n → IsSome (value_type u n)

-- so has the variable in which an instruction stores
abbrev StoreNamed : UnitText → InstText → Type 0
StoreNamed u (st_text to value) = IsSome (value_type u to.value)
StoreNamed u _ = Unit {0}

abbrev LineNamed : UnitText → LineText → Type 0
LineNamed u l = ResultNamed u l.result × StoreNamed u l.inst

abbrev EndNamed : UnitText → RegionEnd → Type 0
EndNamed u x = KnowsNamed u x.known

abbrev EdgeNamed : UnitText → RegionEdge → Type 0
EdgeNamed u e = KnowsNamed u e.known

-- what is known in the middle of a place, and on the edges and at the ends so far
record MidstNamed (u : UnitText) (m : Midst) : Type 0 where
  known : KnowsNamed u m.known
  edges : EdgesNamed u m.edges
  ends : Each (EndNamed u) m.rows.ends

module _ (u : UnitText) where
  -- ---- more is known

  named-with : (k : Knowledge) (m : List ℕ) (x : Known) → KnowsNamed u k → IsSome (value_type u m) → KnowsNamed u (with_known k m x)
  named-with k m x h t n y e = by (same_name m n) refl e
    where
      by : (b : Bool) → same_name m n ≡ b → (if b then Some x else k n) ≡ Some y → IsSome (value_type u n)
      by true q f = subst (λ (z : List ℕ). IsSome (value_type u z)) (same_name-is m n q) t
      by false q f = h n y f

  named-given : (k : Knowledge) (r : Option (List ℕ)) (x : Option Known) → KnowsNamed u k → ResultNamed u r → KnowsNamed u (with_given k r x)
  named-given k None x h t = h
  named-given k (Some m) None h t = h
  named-given k (Some m) (Some x) h t = named-with k m x h (t m refl)

  some-result : (n : List ℕ) → IsSome (value_type u n) → ResultNamed u (Some n)
  some-result n h m e = let q : n ≡ m = cc in subst (λ (z : List ℕ). IsSome (value_type u z)) q h

  -- ---- where edges join

  joined-named : (e : RegionEdge) (es : List RegionEdge) → EdgesNamed u (e ∷ es) → KnowsNamed u (joined (e ∷ es))
  joined-named e es h n x q = by x (join-case (e ∷ es) n x q)
    where
      first-value : (ts : List Tree) → GiveEach (value_on n) (e ∷ es) ts → IsSome (value_type u n)
      first-value [] g = absurd g
      first-value (t ∷ ts) g = h.0 n (known_value t) (known-by-value e.known n t g.0)

      first-cell : (ts : List Tree) → GiveEach (cell_on n) (e ∷ es) ts → IsSome (value_type u n)
      first-cell [] g = absurd g
      first-cell (t ∷ ts) g = h.0 n (known_cell t) (known-by-cell e.known n t g.0)

      first-part : (ps : List Part) → GiveEach (part_on n) (e ∷ es) ps → IsSome (value_type u n)
      first-part [] g = absurd g
      first-part (p ∷ ps) g = h.0 n (known_part p) (known-by-part e.known n p g.0)

      by : (y : Known) → JoinCase (e ∷ es) n y → IsSome (value_type u n)
      by _ (of_value t m) = let a = merged-of (value_on n) (e ∷ es) t m in first-value a.trees a.each
      by _ (of_cell t m) = let a = merged-of (cell_on n) (e ∷ es) t m in first-cell a.trees a.each
      by _ (of_part p ps m f) = first-part ps (given-each (part_on n) (e ∷ es) ps m)

  phi-named : (es : List RegionEdge) (i : InstText) (r : Option (List ℕ)) (k : Knowledge) → KnowsNamed u k → ResultNamed u r → KnowsNamed u (with_phi es i r k)
  phi-named es (phi_text ty ops) r k h t = named-given k r _ h t
  phi-named es _ r k h t = h

  phis-named : (es : List RegionEdge) (ls : List LineText) (k : Knowledge) → Each (LineNamed u) ls → KnowsNamed u k → KnowsNamed u (with_phis es ls k)
  phis-named es [] k t h = h
  phis-named es (l ∷ ls) k t h = phi-named es l.inst l.result (with_phis es ls k) (phis-named es ls k t.1 h) t.0.0

  -- ---- what one line does

  gives-named : (m : Midst) (r : Option (List ℕ)) (x : Option Known) → MidstNamed u m → ResultNamed u r → MidstNamed u (gives m r x)
  gives-named m r x s t = record { known = named-given m.known r x s.known t; edges = s.edges; ends = s.ends }

  probes-named : (g : Region) (m : Midst) (r : Option (List ℕ)) (p : Option Part) → MidstNamed u m → ResultNamed u r → MidstNamed u (probes g m r p)
  probes-named g m r None s t = s
  probes-named g m r (Some p) s t = record { known = named-given m.known r (Some (known_value (g.probe p))) s.known t; edges = s.edges; ends = s.ends }

  drive-named : (m : Midst) (d : Drive) → MidstNamed u m → MidstNamed u (with_drive m d)
  drive-named m d s = by (is_zero d.cond)
    where
      by : (b : Bool) → MidstNamed u (if b then m else record m { rows = record m.rows { drives = m.rows.drives ++ d ∷ [] } })
      by true = s
      by false = record { known = s.known; edges = s.edges; ends = s.ends }

  drives-named : (m : Midst) (c : Option Tree) (p : Option Part) (v d : Option Tree) → MidstNamed u m → MidstNamed u (drives m c p v d)
  drives-named m None p v d s = s
  drives-named m (Some c) None v d s = s
  drives-named m (Some c) (Some p) None d s = s
  drives-named m (Some c) (Some p) (Some v) None s = s
  drives-named m (Some c) (Some p) (Some v) (Some d) s = drive-named m (record { cond = c; part = p; value = v; delay = d }) s

  asserts-named : (m : Midst) (ts : Option (List Tree)) → MidstNamed u m → MidstNamed u (asserts m ts)
  asserts-named m None s = s
  asserts-named m (Some ts) s = record { known = s.known; edges = s.edges; ends = s.ends }

  ends-named : (h : Here) (c : Tree) (m : Midst) (w : Way) → MidstNamed u m → MidstNamed u (ends h c m w)
  ends-named h c m w s = record {
    known = s.known;
    edges = s.edges;
    ends = Each-append (EndNamed u) m.rows.ends (record { cond = c; way = w; from = h.label; known = m.known } ∷ []) s.ends
        (s.known, tt);
  }

  goes-named : (g : Region) (h : Here) (c : Tree) (m : Midst) (b : ℕ) → MidstNamed u m → MidstNamed u (goes g h c m b)
  goes-named g h c m b s = by (g.ends_at_head && nat_eq b g.head)
    where
      by : (t : Bool) → MidstNamed u (if t then ends h c m enters_head else record m { edges = m.edges ++ record { to = next_place h.place b; from = h.label; cond = c; known = m.known } ∷ [] })
      by true = ends-named h c m enters_head s
      by false = record {
        known = s.known;
        edges = Each-append (EdgeNamed u) m.edges (record { to = next_place h.place b; from = h.label; cond = c; known = m.known } ∷ []) s.edges (s.known, tt);
        ends = s.ends;
      }

  leads-named : (g : Region) (h : Here) (c : Tree) (label : List ℕ) (m : Midst) → MidstNamed u m → MidstNamed u (leads g h c label m)
  leads-named g h c label m s = by (is_zero c) (block_number label g.blocks)
    where
      by : (t : Bool) (o : Option ℕ) → MidstNamed u (if t then m else goes_if g h c m o)
      by true o = s
      by false None = s
      by false (Some b) = goes-named g h c m b s

  branches-named : (g : Region) (h : Here) (c : Option Tree) (a b : List ℕ) (m : Midst) → MidstNamed u m → MidstNamed u (branches g h c a b m)
  branches-named g h None a b m s = s
  branches-named g h (Some c) a b m s =
      let d = both h.cond (make_operation Not (c ∷ [])) in
      leads-named g h (both h.cond c) b (leads g h d a m) (leads-named g h d a m s)

  end-named : (h : Here) (m : Midst) (w : Option Way) → MidstNamed u m → MidstNamed u (ends_if h m w)
  end-named h m None s = s
  end-named h m (Some w) s = ends-named h h.cond m w s

  takes-named : (g : Region) (h : Here) (i : InstText) (r : Option (List ℕ)) (m : Midst) → MidstNamed u m → ResultNamed u r → StoreNamed u i → MidstNamed u (takes g h i r m)
  takes-named g h (const_text d) r m s t w = gives-named m r _ s t
  takes-named g h (pure_text o os) r m s t w = gives-named m r _ s t
  takes-named g h (var_text a) r m s t w = gives-named m r _ s t
  takes-named g h (ld_text a) r m s t w = gives-named m r _ s t
  takes-named g h (st_text to v) r m s t w = gives-named m (Some to.value) _ s (some-result to.value w)
  takes-named g h (prb_text a) r m s t w = probes-named g m r _ s t
  takes-named g h (drv_text to v d c) r m s t w = drives-named m (drive_cond m.known h.cond c) (part_known m.known to.value) (value_known m.known v) (value_known m.known d) s
  takes-named g h (call_text f ty os) r m s t w = asserts-named m _ s
  takes-named g h (br_text to) r m s t w = leads-named g h h.cond to m s
  takes-named g h (branch_text c a b) r m s t w = branches-named g h _ a b m s
  takes-named g h (wait_text to d on) r m s t w = end-named h m _ s
  takes-named g h halt_text r m s t w = ends-named h h.cond m _ s
  takes-named g h _ r m s t w = s

  lines-named : (g : Region) (h : Here) (ls : List LineText) (m : Midst) → Each (LineNamed u) ls → MidstNamed u m → MidstNamed u (takes_all g h ls m)
  lines-named g h [] m t s = s
  lines-named g h (l ∷ ls) m t s = lines-named g h ls (takes g h l.inst l.result m) t.1 (takes-named g h l.inst l.result m s t.0.0 t.0.1)

  -- ---- the lines of a formed process

  store-named : (i : InstText) → Each (HasTypeOfKind u) (uses i) → StoreNamed u i
  store-named (st_text to v) k = let (t, a, e, f, g) = k.0 in ap is_some e
  store-named _ k = tt

  lines-are : (ls : List LineText) → Each (λ (l : LineText). ResultNamed u l.result) ls → Each (λ (l : LineText). Each (HasTypeOfKind u) (uses l.inst)) ls → Each (LineNamed u) ls
  lines-are [] a b = tt
  lines-are (l ∷ ls) a b = ((a.0, store-named l.inst b.0), lines-are ls a.1 b.1)

  block-named : IsFormed u → (i : ℕ) (b : BlockText) → slice_get u.blocks i ≡ Some b → Each (LineNamed u) b.lines
  block-named f i b q =
      lines-are b.lines (block-lines (λ (l : LineText). ResultNamed u l.result) u.blocks i b f.given q) (block-lines (λ (l : LineText). Each (HasTypeOfKind u) (uses l.inst)) u.blocks i b f.kinds q)

  -- ---- edges

  pub named-to : (p : RegionPlace) (es : List RegionEdge) → EdgesNamed u es → EdgesNamed u (edges_to p es)
  named-to p [] h = tt
  named-to p (e ∷ es) h = by (is_place e.to p) (named-to p es h.1)
    where
      by : (b : Bool) → EdgesNamed u (edges_to p es) → EdgesNamed u (if b then e ∷ edges_to p es else edges_to p es)
      by true t = (h.0, t)
      by false t = t

  pub named-ends : (b : ℕ) (xs : List RegionEnd) → Each (EndNamed u) xs → EdgesNamed u (edges_of_ends b xs)
  named-ends b [] h = tt
  named-ends b (x ∷ xs) h = (h.0, named-ends b xs h.1)

  -- ---- places

  module _ (g : Region) (r : RegionOf u g) where
    named-lines : (i : ℕ) (b : FlatBlockText) → slice_get g.blocks i ≡ Some b → Each (LineNamed u) (with_merge b.merge b.lines)
    named-lines i b q = block-named r.formed i (as_block b) (ap (λ (bs : List BlockText). slice_get bs i) r.blocks ∙ block-text g.blocks i b q)

    -- A place that is treated makes known what has names with types.
    pub named-place : (p : RegionPlace) (q : Tree) (e : RegionEdge) (es : List RegionEdge) (c d : Course) (b : FlatBlockText) → slice_get g.blocks p.block ≡ Some b → EdgesNamed u (e ∷ es)
        → CourseNamed u c → through_block g p q (e ∷ es) c b ≡ comes_to d → CourseNamed u d
    named-place p q e es c d b at h n t =
        let z = treated u g r p q (e ∷ es) c b d t in
        let ls = named-lines p.block b at in
        let m : Midst = record { known = known_at (e ∷ es) (with_merge b.merge b.lines); edges = c.edges; rows = c.rows } in
        let s : MidstNamed u m = record { known = phis-named (e ∷ es) (with_merge b.merge b.lines) (joined (e ∷ es)) ls (joined-named e es h); edges = n.edges; ends = n.ends } in
        let w = subst (MidstNamed u) (sym z.is) (lines-named g (record { place = p; label = b.label; cond = q }) (with_merge b.merge b.lines) m ls s) in
        record {
          edges = subst (EdgesNamed u) (sym z.edges) w.edges;
          ends = subst (λ (x : Rows). Each (EndNamed u) x.ends) (sym z.rows) w.ends;
        }

    pub named-through : (p : RegionPlace) (q : Tree) (e : RegionEdge) (es : List RegionEdge) (c d : Course) → EdgesNamed u (e ∷ es) → CourseNamed u c → through g p q (e ∷ es) c ≡ comes_to d
        → CourseNamed u d
    named-through p q e es c d h n t = by (slice_get g.blocks p.block) refl t
      where
        by : (o : Option FlatBlockText) → slice_get g.blocks p.block ≡ o → option_map_or (through_block g p q (e ∷ es) c) o (comes_to c) ≡ comes_to d → CourseNamed u d
        by None a f = subst (CourseNamed u) (coursed-is c d f) n
        by (Some b) a f = named-place p q e es c d b a h n f

    pub named-reached : (p : RegionPlace) (c d : Course) → CourseNamed u c → through_reached g p (edges_to p c.edges) c ≡ comes_to d → CourseNamed u d
    named-reached p c d n t = by (edges_to p c.edges) (named-to p c.edges n.edges) t
      where
        by : (es : List RegionEdge) → EdgesNamed u es → through_reached g p es c ≡ comes_to d → CourseNamed u d
        by [] h f = subst (CourseNamed u) (coursed-is c d f) n
        by (e ∷ es) h f = named-through p _ e es c d h n f

  -- ---- where a process starts

  args-named : (k : Knowledge) (i : ℕ) (xs : List ArgText) → Each (HasItsType u) xs → KnowsNamed u k → KnowsNamed u (with_arguments k i xs)
  args-named k i [] t h = h
  args-named k i (a ∷ xs) t h =
      let x = option_map (λ (ty : TypeTree). known_part (whole_argument i ty)) (carried a.ty) in
      args-named (with_given k (Some a.name) x) (i + 1) xs t.1 (named-given k (Some a.name) x h (some-result a.name (ap is_some t.0)))

  constant-named : (k : Knowledge) (i : InstText) (r : Option (List ℕ)) → KnowsNamed u k → ResultNamed u r → KnowsNamed u (with_constant k i r)
  constant-named k (const_text d) r h t = named-given k r _ h t
  constant-named k _ r h t = h

  constants-named : (k : Knowledge) (ls : List LineText) → Each (LineNamed u) ls → KnowsNamed u k → KnowsNamed u (with_constants k ls)
  constants-named k [] t h = h
  constants-named k (l ∷ ls) t h = constants-named (with_constant k l.inst l.result) ls t.1 (constant-named k l.inst l.result h t.0.0)

-- what is known at the head has names with types
pub named-start : (name : UnitName) (t : FlatText) → IsFormed (flat_unit name t) → KnowsNamed (flat_unit name t) (known_first t)
named-start name t f =
    constants-named (flat_unit name t) (with_arguments nothing_known 0 t.args) (if nat_eq (head_of t.blocks) 0 then [] else lines_at t.blocks 0)
    (left (nat_eq (head_of t.blocks) 0)) (args-named (flat_unit name t) nothing_known 0 t.args f.args (λ n x e. cc))
  where
    entry : (o : Option FlatBlockText) → slice_get t.blocks 0 ≡ o → Each (LineNamed (flat_unit name t)) (option_map_or (λ (b : FlatBlockText). with_merge b.merge b.lines) o [])
    entry None q = tt
    entry (Some b) q = block-named (flat_unit name t) f 0 (as_block b) (block-text t.blocks 0 b q)

    left : (b : Bool) → Each (LineNamed (flat_unit name t)) (if b then [] else lines_at t.blocks 0)
    left true = tt
    left false = entry (slice_get t.blocks 0) refl
