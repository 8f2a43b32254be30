-- The places of a region, with the values that parts have before and now exchanged.
use Rattle.std.proofs.Common.{◌≡◌, ℕ, ◌+◌, List, [], ◌∷◌, ◌++◌, map, Bool, true, false, ◌&&◌, nat_eq, Option, Some, None, refl, ap, sym, ◌∙◌}
use Rattle.std.specs.Bool.{if◌then◌else◌}
use Rattle.std.specs.Option.{option_and_then, option_map, is_some}
use Rattle.std.proofs.lemmas.List.{map_push}
use Rattle.lh_types.specs.Types.{TypeTree}
use Rattle.lh_types.specs.Parts.{range_of}
use Rattle.lh_types.specs.declared.op.Op.{Op}
use Rattle.lh_types.specs.declared.op.Op.TheVariants.{Not, And}
use Rattle.lh_types.specs.declared.part.Range.{Range}
use Rattle.lh_types.specs.declared.part.Step.{Step}
use Rattle.lh_unit.specs.Contents.{OperandText, InstText, const_text, pure_text, var_text, ld_text, st_text, prb_text, drv_text, call_text, br_text, branch_text, wait_text, halt_text, LineText}
use Rattle.lh_unit.specs.Effects.{step_of}
use Rattle.lh_unit.specs.Typing.{carried, or_else}
use Rattle.lh_flat.specs.Flat.{FlatBlockText}
use Rattle.lh_term.specs.Tree.{Tree, constant}
use Rattle.lh_term.specs.Make.{is_zero, make_operation}
use Rattle.lh_term.specs.declared.part.Part.{Part}
use Rattle.lh_term.proofs.Arenas.{map_append}
use Rattle.lh_region_def.specs.Known.{Known, known_value, known_cell, known_part, Knowledge, value_known, cell_known, part_known, values_known, parts_known}
use Rattle.lh_region_def.specs.Rows.{Drive, Way, halts, enters_head, RegionEnd, Rows}
use Rattle.lh_region_def.specs.Places.{Region, Here, Midst, block_number, stepped, part_stepped, operated, gives, probes, both, drive_cond, with_drive, drives, asserts, ends, next_place, goes, goes_if, leads, branches, wait_way, ends_if, takes, takes_all}
use Rattle.lh_region_laws.proofs.Trees.{turned, all_turned, zero-turned, make-turned}
use Rattle.lh_region_laws.proofs.Known.{known_turned, all_known_turned, value-known-turned, cell-known-turned, part-known-turned, values-known-turned, parts-known-turned, given-turned, edge_turned, edges_turned, value-if}

-- ---- rows

abbrev pub drive_turned : Drive → Drive
drive_turned d = record { cond = turned d.cond; part = d.part; value = turned d.value; delay = turned d.delay }

abbrev pub end_turned : RegionEnd → RegionEnd
end_turned x = record { cond = turned x.cond; way = x.way; from = x.from; known = all_known_turned x.known }

abbrev pub rows_turned : Rows → Rows
rows_turned r = record { probes = r.probes; drives = map drive_turned r.drives; asserts = all_turned r.asserts; ends = map end_turned r.ends }

abbrev pub here_turned : Here → Here
here_turned h = record { place = h.place; label = h.label; cond = turned h.cond }

abbrev pub midst_turned : Midst → Midst
midst_turned m = record { known = all_known_turned m.known; edges = edges_turned m.edges; rows = rows_turned m.rows }

midst-if : (b : Bool) (x y : Midst) → (if b then midst_turned x else midst_turned y) ≡ midst_turned (if b then x else y)
midst-if true x y = refl
midst-if false x y = refl

-- ---- what is given

step-turned : (p : Option Part) (t : Option TypeTree) (s : Option Step) → option_map known_turned (stepped p t s) ≡ stepped p t s
step-turned None t s = refl
step-turned (Some p) None s = refl
step-turned (Some p) (Some t) None = refl
step-turned (Some p) (Some t) (Some s) = by (range_of p.ty (s ∷ []))
  where
    by : (o : Option Range) → option_map known_turned (option_map (λ r. known_part (record { arg = p.arg; lo = p.lo + r.lo; ty = t })) o)
        ≡ option_map (λ r. known_part (record { arg = p.arg; lo = p.lo + r.lo; ty = t })) o
    by None = refl
    by (Some r) = refl

part-stepped-turned : (k : Knowledge) (o : Op) (os : List OperandText) → part_stepped (all_known_turned k) o os ≡ option_map known_turned (part_stepped k o os)
part-stepped-turned k o [] = refl
part-stepped-turned k o (x ∷ y ∷ os) = refl
part-stepped-turned k o (x ∷ []) =
    ap (λ p. stepped p (option_and_then carried x.ty) (step_of o)) (part-known-turned k x.value)
    ∙ sym (step-turned (part_known k x.value) (option_and_then carried x.ty) (step_of o))

operated-of : (o : Op) (ts : Option (List Tree)) (p : Option Known) →
    or_else (option_map (λ ts. known_value (make_operation o ts)) (option_map all_turned ts)) (option_map known_turned p)
    ≡ option_map known_turned (or_else (option_map (λ ts. known_value (make_operation o ts)) ts) p)
operated-of o None p = refl
operated-of o (Some ts) p = ap (λ t. Some (known_value t)) (sym (make-turned o ts))

operated-turned : (k : Knowledge) (o : Op) (os : List OperandText) → operated (all_known_turned k) o os ≡ option_map known_turned (operated k o os)
operated-turned k o os =
    (λ i. or_else (option_map (λ ts. known_value (make_operation o ts)) (values-known-turned k os i)) (part-stepped-turned k o os i))
    ∙ operated-of o (values_known k os) (part_stepped k o os)

gives-turned : (m : Midst) (r : Option (List ℕ)) (x : Option Known) → gives (midst_turned m) r (option_map known_turned x) ≡ midst_turned (gives m r x)
gives-turned m r x = λ i. record { known = given-turned m.known r x i; edges = edges_turned m.edges; rows = rows_turned m.rows }

cells-of : (o : Option Tree) → option_map known_cell (option_map turned o) ≡ option_map known_turned (option_map known_cell o)
cells-of None = refl
cells-of (Some t) = refl

-- ---- what is driven and asserted

both-turned : (c d : Tree) → both (turned c) (turned d) ≡ turned (both c d)
both-turned c d = sym (make-turned And (c ∷ d ∷ []))

both-of : (c : Tree) (o : Option Tree) → option_map (both (turned c)) (option_map turned o) ≡ option_map turned (option_map (both c) o)
both-of c None = refl
both-of c (Some d) = ap Some (both-turned c d)

cond-turned : (k : Knowledge) (c : Tree) (o : Option (List ℕ)) → drive_cond (all_known_turned k) (turned c) o ≡ option_map turned (drive_cond k c o)
cond-turned k c None = refl
cond-turned k c (Some n) = ap (option_map (both (turned c))) (value-known-turned k n) ∙ both-of c (value_known k n)

abbrev more_drives : Midst → Drive → Midst
more_drives m d = record m { rows = record m.rows { drives = m.rows.drives ++ d ∷ [] } }

more-drives-turned : (m : Midst) (d : Drive) → more_drives (midst_turned m) (drive_turned d) ≡ midst_turned (more_drives m d)
more-drives-turned m d = λ i. record {
  known = all_known_turned m.known;
  edges = edges_turned m.edges;
  rows = record { probes = m.rows.probes; drives = sym (map_push drive_turned m.rows.drives d) i; asserts = all_turned m.rows.asserts; ends = map end_turned m.rows.ends };
}

with-drive-turned : (m : Midst) (d : Drive) → with_drive (midst_turned m) (drive_turned d) ≡ midst_turned (with_drive m d)
with-drive-turned m d = (λ i. if zero-turned d.cond i then midst_turned m else more-drives-turned m d i) ∙ midst-if (is_zero d.cond) m (more_drives m d)

drives-turned : (m : Midst) (c : Option Tree) (p : Option Part) (v d : Option Tree) → drives (midst_turned m) (option_map turned c) p (option_map turned v) (option_map turned d)
    ≡ midst_turned (drives m c p v d)
drives-turned m None p v d = refl
drives-turned m (Some c) None v d = refl
drives-turned m (Some c) (Some p) None d = refl
drives-turned m (Some c) (Some p) (Some v) None = refl
drives-turned m (Some c) (Some p) (Some v) (Some d) = with-drive-turned m (record { cond = c; part = p; value = v; delay = d })

asserts-turned : (m : Midst) (o : Option (List Tree)) → asserts (midst_turned m) (option_map all_turned o) ≡ midst_turned (asserts m o)
asserts-turned m None = refl
asserts-turned m (Some ts) = λ i. record {
  known = all_known_turned m.known;
  edges = edges_turned m.edges;
  rows = record { probes = m.rows.probes; drives = map drive_turned m.rows.drives; asserts = sym (map_append turned m.rows.asserts ts) i; ends = map end_turned m.rows.ends };
}

-- ---- where control goes

ends-turned : (h : Here) (c : Tree) (m : Midst) (w : Way) → ends (here_turned h) (turned c) (midst_turned m) w ≡ midst_turned (ends h c m w)
ends-turned h c m w = λ i. record {
  known = all_known_turned m.known;
  edges = edges_turned m.edges;
  rows = record {
    probes = m.rows.probes;
    drives = map drive_turned m.rows.drives;
    asserts = all_turned m.rows.asserts;
    ends = sym (map_push end_turned m.rows.ends (record { cond = c; way = w; from = h.label; known = m.known })) i;
  };
}

ends-if-turned : (h : Here) (m : Midst) (w : Option Way) → ends_if (here_turned h) (midst_turned m) w ≡ midst_turned (ends_if h m w)
ends-if-turned h m None = refl
ends-if-turned h m (Some w) = ends-turned h h.cond m w

-- two regions of the same blocks, the probes of one of which give those of the other exchanged
module _ (blocks : List FlatBlockText) (head : ℕ) (probe other : Part → Tree) (stops_there : Bool) (exchanged : (p : Part) → other p ≡ turned (probe p)) where
  abbrev pub g : Region
  g = record { blocks = blocks; head = head; probe = probe; ends_at_head = stops_there }

  abbrev pub g' : Region
  g' = record { blocks = blocks; head = head; probe = other; ends_at_head = stops_there }

  probes-turned : (m : Midst) (r : Option (List ℕ)) (o : Option Part) → probes g' (midst_turned m) r o ≡ midst_turned (probes g m r o)
  probes-turned m r None = refl
  probes-turned m r (Some p) =
      let m1 : Midst = record m { rows = record m.rows { probes = m.rows.probes ++ p ∷ [] } } in
      ap (λ t. gives (midst_turned m1) r (Some (known_value t))) (exchanged p) ∙ gives-turned m1 r (Some (known_value (probe p)))

  abbrev one_edge : Here → Tree → Midst → ℕ → Midst
  one_edge h c m b = record m { edges = m.edges ++ record { to = next_place h.place b; from = h.label; cond = c; known = m.known } ∷ [] }

  one-edge-turned : (h : Here) (c : Tree) (m : Midst) (b : ℕ) → one_edge (here_turned h) (turned c) (midst_turned m) b ≡ midst_turned (one_edge h c m b)
  one-edge-turned h c m b = λ i. record {
    known = all_known_turned m.known;
    edges = sym (map_push edge_turned m.edges (record { to = next_place h.place b; from = h.label; cond = c; known = m.known })) i;
    rows = rows_turned m.rows;
  }

  goes-turned : (h : Here) (c : Tree) (m : Midst) (b : ℕ) → goes g' (here_turned h) (turned c) (midst_turned m) b ≡ midst_turned (goes g h c m b)
  goes-turned h c m b =
      (λ i. if stops_there && nat_eq b head then ends-turned h c m enters_head i else one-edge-turned h c m b i)
      ∙ midst-if (stops_there && nat_eq b head) (ends h c m enters_head) (one_edge h c m b)

  goes-if-turned : (h : Here) (c : Tree) (m : Midst) (b : Option ℕ) → goes_if g' (here_turned h) (turned c) (midst_turned m) b ≡ midst_turned (goes_if g h c m b)
  goes-if-turned h c m None = refl
  goes-if-turned h c m (Some b) = goes-turned h c m b

  leads-turned : (h : Here) (c : Tree) (n : List ℕ) (m : Midst) → leads g' (here_turned h) (turned c) n (midst_turned m) ≡ midst_turned (leads g h c n m)
  leads-turned h c n m =
      (λ i. if zero-turned c i then midst_turned m else goes-if-turned h c m (block_number n blocks) i)
      ∙ midst-if (is_zero c) m (goes_if g h c m (block_number n blocks))

  branches-turned : (h : Here) (o : Option Tree) (first second : List ℕ) (m : Midst) → branches g' (here_turned h) (option_map turned o) first second (midst_turned m)
      ≡ midst_turned (branches g h o first second m)
  branches-turned h None first second m = refl
  branches-turned h (Some c) first second m =
      let m1 : Midst = leads g h (both h.cond (make_operation Not (c ∷ []))) first m in
      let other-way : both (turned h.cond) (make_operation Not (turned c ∷ [])) ≡ turned (both h.cond (make_operation Not (c ∷ []))) = ap (both (turned h.cond)) (sym (make-turned Not (c ∷ [])))
      ∙ both-turned h.cond (make_operation Not (c ∷ [])) in
      ap (λ z. leads g' (here_turned h) (both (turned h.cond) (turned c)) second (leads g' (here_turned h) z first (midst_turned m))) other-way
      ∙ ap (leads g' (here_turned h) (both (turned h.cond) (turned c)) second) (leads-turned h (both h.cond (make_operation Not (c ∷ []))) first m)
      ∙ ap (λ z. leads g' (here_turned h) z second (midst_turned m1)) (both-turned h.cond c)
      ∙ leads-turned h (both h.cond c) second m1

  pub takes-turned : (h : Here) (j : InstText) (r : Option (List ℕ)) (m : Midst) → takes g' (here_turned h) j r (midst_turned m) ≡ midst_turned (takes g h j r m)
  takes-turned h (const_text d) r m = gives-turned m r (Some (known_value (constant d)))
  takes-turned h (pure_text o os) r m = ap (gives (midst_turned m) r) (operated-turned m.known o os) ∙ gives-turned m r (operated m.known o os)
  takes-turned h (var_text a) r m =
      ap (λ z. gives (midst_turned m) r (option_map known_cell z)) (value-known-turned m.known a.value)
      ∙ ap (gives (midst_turned m) r) (cells-of (value_known m.known a.value))
      ∙ gives-turned m r (option_map known_cell (value_known m.known a.value))
  takes-turned h (ld_text a) r m =
      ap (λ z. gives (midst_turned m) r (option_map known_value z)) (cell-known-turned m.known a.value)
      ∙ ap (gives (midst_turned m) r) (value-if (cell_known m.known a.value))
      ∙ gives-turned m r (option_map known_value (cell_known m.known a.value))
  takes-turned h (st_text to value) r m =
      ap (λ z. gives (midst_turned m) (Some to.value) (option_map known_cell z)) (value-known-turned m.known value)
      ∙ ap (gives (midst_turned m) (Some to.value)) (cells-of (value_known m.known value))
      ∙ gives-turned m (Some to.value) (option_map known_cell (value_known m.known value))
  takes-turned h (prb_text a) r m = ap (probes g' (midst_turned m) r) (part-known-turned m.known a.value) ∙ probes-turned m r (part_known m.known a.value)
  takes-turned h (drv_text to value after cond) r m =
      (λ i. drives (midst_turned m) (cond-turned m.known h.cond cond i) (part-known-turned m.known to.value i) (value-known-turned m.known value i) (value-known-turned m.known after i))
      ∙ drives-turned m (drive_cond m.known h.cond cond) (part_known m.known to.value) (value_known m.known value) (value_known m.known after)
  takes-turned h (call_text f ty os) r m = ap (asserts (midst_turned m)) (values-known-turned m.known os) ∙ asserts-turned m (values_known m.known os)
  takes-turned h (br_text to) r m = leads-turned h h.cond to m
  takes-turned h (branch_text cond first second) r m =
      ap (λ z. branches g' (here_turned h) z first second (midst_turned m)) (value-known-turned m.known cond)
      ∙ branches-turned h (value_known m.known cond) first second m
  takes-turned h (wait_text to after on) r m =
      ap (λ z. ends_if (here_turned h) (midst_turned m) (wait_way g (is_some after) (block_number to blocks) z)) (parts-known-turned m.known on)
      ∙ ends-if-turned h m (wait_way g (is_some after) (block_number to blocks) (parts_known m.known on))
  takes-turned h halt_text r m = ends-turned h h.cond m halts
  takes-turned h j r m = refl

  pub takes-all-turned : (h : Here) (ls : List LineText) (m : Midst) → takes_all g' (here_turned h) ls (midst_turned m) ≡ midst_turned (takes_all g h ls m)
  takes-all-turned h [] m = refl
  takes-all-turned h (l ∷ ls) m = ap (takes_all g' (here_turned h) ls) (takes-turned h l.inst l.result m) ∙ takes-all-turned h ls (takes g h l.inst l.result m)
