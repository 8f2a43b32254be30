-- The constants of the terms of a region can be written, where those of its blocks and of what is known on the edges into it can.
use Rattle.std.proofs.Common.{◌≡◌, ℕ, ◌+◌, List, [], ◌∷◌, ◌++◌, length, filter, Bool, true, false, not, ◌&&◌, nat_eq, Option, Some, None, refl, ap, sym, ◌∙◌, subst}
use Rattle.std.specs.Bool.{if◌then◌else◌}
use Rattle.std.specs.Prelude.{slice_get, zero, suc}
use Rattle.std.specs.Option.{option_and_then, option_map, option_map_or, is_some}
use Rattle.std.proofs.lemmas.Option.{same_Some, none-some}
use Rattle.lh_types.specs.Types.{TypeTree}
use Rattle.lh_types.specs.Parts.{range_of}
use Rattle.lh_types.specs.declared.part.Range.{Range}
use Rattle.lh_types.specs.declared.part.Step.{Step}
use Rattle.lh_types.specs.declared.op.Op.{Op}
use Rattle.lh_types.specs.declared.op.Op.TheVariants.{Not, And, Or}
use Rattle.lh_unit.specs.Contents.{OperandText, EdgeText, InstText, const_text, pure_text, var_text, ld_text, st_text, prb_text, drv_text, call_text, phi_text, br_text, branch_text, wait_text, halt_text, LineText, ArgText, UnitText}
use Rattle.lh_unit_names.specs.Names.{same_name}
use Rattle.lh_unit.specs.Activation.{edge_from}
use Rattle.lh_unit.specs.Effects.{step_of}
use Rattle.lh_unit.specs.Held.{front}
use Rattle.lh_unit.specs.Typing.{carried, or_else}
use Rattle.lh_unit.specs.Within.{Each}
use Rattle.lh_unit.proofs.Lists.{Each-append}
use Rattle.lh_flat.specs.Flat.{MergeText, FlatBlockText, with_merge}
use Rattle.lh_term.specs.Tree.{Tree, constant}
use Rattle.lh_term.specs.Make.{is_zero, bit_of, make_operation, make_choice}
use Rattle.lh_term.specs.Conjuncts.{conjuncts_of}
use Rattle.lh_term.specs.declared.part.Part.{Part}
use Rattle.lh_region_def.specs.Known.{Known, known_value, known_cell, known_part, Knowledge, nothing_known, with_given, value_known, cell_known, part_known, values_known, parts_known, with_arguments}
use Rattle.lh_term.specs.Parts.{whole_argument}
use Rattle.lh_region_def.specs.Rows.{Drive, Way, halts, enters_head, RegionEnd, Rows}
use Rattle.lh_region_def.specs.Joins.{RegionPlace, RegionEdge, or_any, any_taken, in_each, selector, chosen_from, merged, merged_by, joined, phi_on, with_phi, with_phis, known_at}
use Rattle.lh_region_def.specs.Places.{Region, Here, Midst, block_number, stepped, part_stepped, operated, gives, probes, both, drive_cond, with_drive, drives, asserts, ends, next_place, goes, goes_if, leads, branches, wait_way, ends_if, takes, takes_all}
use Rattle.lh_region_def.specs.Regions.{with_constant, with_constants, Course, no_course, Coursed, stops, comes_to, then_course, through_block, through, is_place, edges_to, through_reached, through_all, all_places, region_from}
use Rattle.lh_region_def.proofs.Courses.{coursed-is, stops-not}
use Rattle.lh_region_def.proofs.Courses as Courses
use Rattle.lh_region_def.proofs.JoinedKnowledge.{GiveEach, merged-of, value_on, cell_on, JoinCase, of_value, of_cell, of_part, join-case, known-by-value, known-by-cell}
use Rattle.lh_region_def.proofs.Steps.{RegionOf}
use Rattle.lh_lower_laws.proofs.Times.{InstFine, LineFine}
use Rattle.lh_lower_laws.proofs.Constants.{In, AllIn, make-in, choice-in, conjuncts-in, conjunction-in, filter-in}

-- ---- what is known

abbrev pub KnownFine : Known → Type 0
KnownFine (known_value t) = In t
KnownFine (known_cell t) = In t
KnownFine (known_part p) = Unit {0}

abbrev pub KnowsFine : Knowledge → Type 0
KnowsFine k = (n : List ℕ) (x : Known) → k n ≡ Some x → KnownFine x

value-fine : (k : Knowledge) → KnowsFine k → (n : List ℕ) (t : Tree) → value_known k n ≡ Some t → In t
value-fine k h n t q = h n (known_value t) (known-by-value k n t q)

cell-fine : (k : Knowledge) → KnowsFine k → (n : List ℕ) (t : Tree) → cell_known k n ≡ Some t → In t
cell-fine k h n t q = h n (known_cell t) (known-by-cell k n t q)

values-fine : (k : Knowledge) → KnowsFine k → (os : List OperandText) (ts : List Tree) → values_known k os ≡ Some ts → AllIn ts
values-fine k h [] ts q = subst AllIn (same_Some [] ts q) tt
values-fine k h (o ∷ os) ts q = by (λ xs. values-fine k h os xs) (value_known k o.value) refl (values_known k os) refl q
  where
    by : ((xs : List Tree) → values_known k os ≡ Some xs → AllIn xs) → (a : Option Tree) → value_known k o.value ≡ a → (b : Option (List Tree)) → values_known k os ≡ b → front a b ≡ Some ts → AllIn ts
    by go None p b g e = absurd (none-some ts e)
    by go (Some x) p None g e = absurd (none-some ts e)
    by go (Some x) p (Some xs) g e = subst AllIn (same_Some (x ∷ xs) ts e) (value-fine k h o.value x p, go xs g)

given-fine : (k : Knowledge) (r : Option (List ℕ)) (o : Option Known) → KnowsFine k → ((x : Known) → o ≡ Some x → KnownFine x) → KnowsFine (with_given k r o)
given-fine k None o h f n y q = h n y q
given-fine k (Some m) None h f n y q = h n y q
given-fine k (Some m) (Some x) h f n y q = by (same_name m n) q
  where
    by : (b : Bool) → (if b then Some x else k n) ≡ Some y → KnownFine y
    by true g = subst KnownFine (same_Some x y g) (f x refl)
    by false g = h n y g

some-value : (o : Option Tree) → ((t : Tree) → o ≡ Some t → In t) → (x : Known) → option_map known_value o ≡ Some x → KnownFine x
some-value None h x q = absurd (none-some x q)
some-value (Some t) h x q = subst KnownFine (same_Some (known_value t) x q) (h t refl)

some-cell : (o : Option Tree) → ((t : Tree) → o ≡ Some t → In t) → (x : Known) → option_map known_cell o ≡ Some x → KnownFine x
some-cell None h x q = absurd (none-some x q)
some-cell (Some t) h x q = subst KnownFine (same_Some (known_cell t) x q) (h t refl)

-- ---- what an operation gives

ranged-fine : (p : Part) (t : TypeTree) (o : Option Range) (y : Known) → option_map (λ (r : Range). known_part (record { arg = p.arg; lo = p.lo + r.lo; ty = t })) o ≡ Some y → KnownFine y
ranged-fine p t None y q = absurd (none-some y q)
ranged-fine p t (Some r) y q = subst KnownFine (same_Some (known_part (record { arg = p.arg; lo = p.lo + r.lo; ty = t })) y q) tt

stepped-fine : (o : Option Part) (t : Option TypeTree) (s : Option Step) (y : Known) → stepped o t s ≡ Some y → KnownFine y
stepped-fine None t s y q = absurd (none-some y q)
stepped-fine (Some p) None s y q = absurd (none-some y q)
stepped-fine (Some p) (Some t) None y q = absurd (none-some y q)
stepped-fine (Some p) (Some t) (Some s) y q = ranged-fine p t (range_of p.ty (s ∷ [])) y q

part-stepped-fine : (k : Knowledge) (o : Op) (os : List OperandText) (y : Known) → part_stepped k o os ≡ Some y → KnownFine y
part-stepped-fine k o [] y q = absurd (none-some y q)
part-stepped-fine k o (x ∷ []) y q = stepped-fine (part_known k x.value) (option_and_then carried x.ty) (step_of o) y q
part-stepped-fine k o (x ∷ z ∷ os) y q = absurd (none-some y q)

operated-fine : (k : Knowledge) → KnowsFine k → (o : Op) (os : List OperandText) (y : Known) → operated k o os ≡ Some y → KnownFine y
operated-fine k h o os y q = by (values_known k os) refl q
  where
    by : (a : Option (List Tree)) → values_known k os ≡ a → or_else (option_map (λ ts. known_value (make_operation o ts)) a) (part_stepped k o os) ≡ Some y → KnownFine y
    by None p g = part-stepped-fine k o os y g
    by (Some ts) p g = subst KnownFine (same_Some (known_value (make_operation o ts)) y g) (make-in o ts (values-fine k h os ts p))

-- ---- before the first instruction

constant-fine : (k : Knowledge) (j : InstText) (r : Option (List ℕ)) → InstFine j → KnowsFine k → KnowsFine (with_constant k j r)
constant-fine k (const_text d) r w h = given-fine k r (Some (known_value (constant d))) h (λ x q. subst KnownFine (same_Some (known_value (constant d)) x q) w)
constant-fine k j r w h = h

pub constants-fine : (k : Knowledge) (ls : List LineText) → Each LineFine ls → KnowsFine k → KnowsFine (with_constants k ls)
constants-fine k [] w h = h
constants-fine k (l ∷ ls) w h = constants-fine (with_constant k l.inst l.result) ls w.1 (constant-fine k l.inst l.result w.0 h)

carried-fine : (i : ℕ) (o : Option TypeTree) (x : Known) → option_map (λ t. known_part (whole_argument i t)) o ≡ Some x → KnownFine x
carried-fine i None x q = absurd (none-some x q)
carried-fine i (Some t) x q = subst KnownFine (same_Some (known_part (whole_argument i t)) x q) tt

pub arguments-fine : (k : Knowledge) (i : ℕ) (xs : List ArgText) → KnowsFine k → KnowsFine (with_arguments k i xs)
arguments-fine k i [] h = h
arguments-fine k i (a ∷ xs) h =
    arguments-fine (with_given k (Some a.name) (option_map (λ t. known_part (whole_argument i t)) (carried a.ty))) (i + 1) xs
    (given-fine k (Some a.name) (option_map (λ t. known_part (whole_argument i t)) (carried a.ty)) h (λ x q. carried-fine i (carried a.ty) x q))

pub nothing-fine : KnowsFine nothing_known
nothing-fine n x q = absurd (none-some x q)

-- ---- edges

pub record EdgeFine (e : RegionEdge) : Type 0 where
  pub cond : In e.cond
  pub known : KnowsFine e.known

or-fine : (c : Tree) (es : List RegionEdge) → In c → Each EdgeFine es → In (or_any c es)
or-fine c [] h j = h
or-fine c (e ∷ es) h j = or-fine (make_operation Or (c ∷ e.cond ∷ [])) es (make-in Or (c ∷ e.cond ∷ []) (h, (j.0.cond, tt))) j.1

taken-fine : (es : List RegionEdge) → Each EdgeFine es → In (any_taken es)
taken-fine es j = or-fine (bit_of false) es tt j

selector-fine : (es : List RegionEdge) (e : RegionEdge) → EdgeFine e → In (selector es e)
selector-fine es e h = conjunction-in (filter (λ c. not (in_each es c)) (conjuncts_of e.cond)) (filter-in (λ c. not (in_each es c)) (conjuncts_of e.cond) (conjuncts-in e.cond h.cond))

chosen-fine : (all : List RegionEdge) (t : Tree) (es : List RegionEdge) (vs : List Tree) → In t → Each EdgeFine es → AllIn vs → In (chosen_from all t es vs)
chosen-fine all t [] vs h j k = h
chosen-fine all t (e ∷ es) [] h j k = h
chosen-fine all t (e ∷ es) (v ∷ vs) h j k = chosen-fine all (make_choice (selector all e) t v) es vs (choice-in (selector all e) t v (selector-fine all e j.0) h k.0) j.1 k.1

merged-fine : (es : List RegionEdge) (vs : List Tree) (t : Tree) → Each EdgeFine es → AllIn vs → merged es vs ≡ Some t → In t
merged-fine [] vs t j k q = absurd (none-some t q)
merged-fine (e ∷ es) [] t j k q = absurd (none-some t q)
merged-fine (e ∷ es) (v ∷ vs) t j k q = subst In (same_Some (chosen_from (e ∷ es) v es vs) t q) (chosen-fine (e ∷ es) v es vs k.0 j.1 k.1)

each-fine : (f : RegionEdge → Option Tree) → ((e : RegionEdge) → EdgeFine e → (t : Tree) → f e ≡ Some t → In t) → (es : List RegionEdge) (ts : List Tree) → Each EdgeFine es → GiveEach f es ts
    → AllIn ts
each-fine f h [] [] j g = tt
each-fine f h [] (t ∷ ts) j g = absurd g
each-fine f h (e ∷ es) [] j g = absurd g
each-fine f h (e ∷ es) (t ∷ ts) j g = (h e j.0 t g.0, each-fine f h es ts j.1 g.1)

merged-by-fine : (f : RegionEdge → Option Tree) → ((e : RegionEdge) → EdgeFine e → (t : Tree) → f e ≡ Some t → In t) → (es : List RegionEdge) → Each EdgeFine es → (t : Tree) → merged_by f es ≡ Some t
    → In t
merged-by-fine f h es j t q = let m = merged-of f es t q in merged-fine es m.trees t j (each-fine f h es m.trees j m.each) m.is

joined-fine : (es : List RegionEdge) → Each EdgeFine es → KnowsFine (joined es)
joined-fine es j n x q = by x (join-case es n x q)
  where
    by : (x : Known) → JoinCase es n x → KnownFine x
    by _ (of_value t e) = merged-by-fine (value_on n) (λ z h t g. value-fine z.known h.known n t g) es j t e
    by _ (of_cell t e) = merged-by-fine (cell_on n) (λ z h t g. cell-fine z.known h.known n t g) es j t e
    by _ (of_part p ps e g) = tt

phi-edge-fine : (os : List EdgeText) (e : RegionEdge) → EdgeFine e → (t : Tree) → phi_on os e ≡ Some t → In t
phi-edge-fine os e h t q = by (edge_from e.from os) q
  where
    by : (o : Option (List ℕ)) → option_and_then (value_known e.known) o ≡ Some t → In t
    by None g = absurd (none-some t g)
    by (Some n) g = value-fine e.known h.known n t g

phi-fine : (es : List RegionEdge) → Each EdgeFine es → (j : InstText) (r : Option (List ℕ)) (k : Knowledge) → KnowsFine k → KnowsFine (with_phi es j r k)
phi-fine es e (phi_text ty os) r k h =
    given-fine k r (option_map known_value (merged_by (phi_on os) es)) h
    (λ x q. some-value (merged_by (phi_on os) es) (λ t g. merged-by-fine (phi_on os) (λ z i t w. phi-edge-fine os z i t w) es e t g) x q)
phi-fine es e j r k h = h

phis-fine : (es : List RegionEdge) → Each EdgeFine es → (ls : List LineText) (k : Knowledge) → KnowsFine k → KnowsFine (with_phis es ls k)
phis-fine es e [] k h = h
phis-fine es e (l ∷ ls) k h = phi-fine es e l.inst l.result (with_phis es ls k) (phis-fine es e ls k h)

known-at-fine : (es : List RegionEdge) (ls : List LineText) → Each EdgeFine es → KnowsFine (known_at es ls)
known-at-fine es ls e = phis-fine es e ls (joined es) (joined-fine es e)

-- ---- blocks

abbrev pub BlockFine : FlatBlockText → Type 0
BlockFine b = Each LineFine b.lines

pub merge-fine : (m : Option MergeText) (ls : List LineText) → Each LineFine ls → Each LineFine (with_merge m ls)
merge-fine None ls h = h
merge-fine (Some m) ls h = (tt, h)

pub block-at : (bs : List FlatBlockText) (k : ℕ) (b : FlatBlockText) → Each BlockFine bs → slice_get bs k ≡ Some b → BlockFine b
block-at [] k b h q = absurd (none-some b q)
block-at (c ∷ bs) zero b h q = subst BlockFine (same_Some c b q) h.0
block-at (c ∷ bs) (suc k) b h q = block-at bs k b h.1 q

-- ---- the rows of a region

module _ (g : Region) (probed : (p : Part) → In (g.probe p)) where
  abbrev pub DriveFine : Drive → Type 0
  DriveFine d = In d.delay

  pub record EndFine (x : RegionEnd) : Type 0 where
    pub cond : In x.cond
    pub known : KnowsFine x.known

  pub record MidstFine (m : Midst) : Type 0 where
    pub known : KnowsFine m.known
    pub edges : Each EdgeFine m.edges
    pub drives : Each DriveFine m.rows.drives
    pub ends : Each EndFine m.rows.ends

  gives-fine : (m : Midst) (r : Option (List ℕ)) (o : Option Known) → MidstFine m → ((x : Known) → o ≡ Some x → KnownFine x) → MidstFine (gives m r o)
  gives-fine m r o h f = record { known = given-fine m.known r o h.known f; edges = h.edges; drives = h.drives; ends = h.ends }

  probes-fine : (m : Midst) (r : Option (List ℕ)) (o : Option Part) → MidstFine m → MidstFine (probes g m r o)
  probes-fine m r None h = h
  probes-fine m r (Some p) h =
      let m1 : Midst = record m { rows = record m.rows { probes = m.rows.probes ++ p ∷ [] } } in
      let fine1 : MidstFine m1 = record { known = h.known; edges = h.edges; drives = h.drives; ends = h.ends } in
      gives-fine m1 r (Some (known_value (g.probe p))) fine1 (λ x e. subst KnownFine (same_Some (known_value (g.probe p)) x e) (probed p))

  with-fine : (m : Midst) (d : Drive) → MidstFine m → DriveFine d → MidstFine (with_drive m d)
  with-fine m d h f = by (is_zero d.cond)
    where
      by : (b : Bool) → MidstFine (if b then m else record m { rows = record m.rows { drives = m.rows.drives ++ d ∷ [] } })
      by true = h
      by false = record { known = h.known; edges = h.edges; drives = Each-append DriveFine m.rows.drives (d ∷ []) h.drives (f, tt); ends = h.ends }

  drives-fine : (m : Midst) (c : Option Tree) (p : Option Part) (v d : Option Tree) → MidstFine m → ((t : Tree) → d ≡ Some t → In t) → MidstFine (drives m c p v d)
  drives-fine m None p v d f hd = f
  drives-fine m (Some c) None v d f hd = f
  drives-fine m (Some c) (Some p) None d f hd = f
  drives-fine m (Some c) (Some p) (Some v) None f hd = f
  drives-fine m (Some c) (Some p) (Some v) (Some d) f hd = with-fine m (record { cond = c; part = p; value = v; delay = d }) f (hd d refl)

  asserts-fine : (m : Midst) (o : Option (List Tree)) → MidstFine m → MidstFine (asserts m o)
  asserts-fine m None h = h
  asserts-fine m (Some ts) h = record { known = h.known; edges = h.edges; drives = h.drives; ends = h.ends }

  both-fine : (c d : Tree) → In c → In d → In (both c d)
  both-fine c d h k = make-in And (c ∷ d ∷ []) (h, (k, tt))

  module _ (h : Here) (hc : In h.cond) where
    ends-fine : (c : Tree) (m : Midst) (w : Way) → In c → MidstFine m → MidstFine (ends h c m w)
    ends-fine c m w i f = record {
      known = f.known;
      edges = f.edges;
      drives = f.drives;
      ends = Each-append EndFine m.rows.ends (record { cond = c; way = w; from = h.label; known = m.known } ∷ []) f.ends (record { cond = i; known = f.known }, tt);
    }

    goes-fine : (c : Tree) (m : Midst) (b : ℕ) → In c → MidstFine m → MidstFine (goes g h c m b)
    goes-fine c m b i f = by (g.ends_at_head && nat_eq b g.head)
      where
        by : (x : Bool) → MidstFine (if x then ends h c m enters_head else record m { edges = m.edges ++ record { to = next_place h.place b; from = h.label; cond = c; known = m.known } ∷ [] })
        by true = ends-fine c m enters_head i f
        by false = record {
          known = f.known;
          edges = Each-append EdgeFine m.edges (record { to = next_place h.place b; from = h.label; cond = c; known = m.known } ∷ []) f.edges
              (record { cond = i; known = f.known }, tt);
          drives = f.drives;
          ends = f.ends;
        }

    goes-if-fine : (c : Tree) (m : Midst) (b : Option ℕ) → In c → MidstFine m → MidstFine (goes_if g h c m b)
    goes-if-fine c m None i f = f
    goes-if-fine c m (Some b) i f = goes-fine c m b i f

    leads-fine : (c : Tree) (n : List ℕ) (m : Midst) → In c → MidstFine m → MidstFine (leads g h c n m)
    leads-fine c n m i f = by (is_zero c)
      where
        by : (x : Bool) → MidstFine (if x then m else goes_if g h c m (block_number n g.blocks))
        by true = f
        by false = goes-if-fine c m (block_number n g.blocks) i f

    branches-fine : (o : Option Tree) (first second : List ℕ) (m : Midst) → ((t : Tree) → o ≡ Some t → In t) → MidstFine m → MidstFine (branches g h o first second m)
    branches-fine None first second m i f = f
    branches-fine (Some c) first second m i f =
        let n : Tree = make_operation Not (c ∷ []) in
        leads-fine (both h.cond c) second (leads g h (both h.cond n) first m) (both-fine h.cond c hc (i c refl))
        (leads-fine (both h.cond n) first m (both-fine h.cond n hc (make-in Not (c ∷ []) (i c refl, tt))) f)

    ends-if-fine : (m : Midst) (w : Option Way) → MidstFine m → MidstFine (ends_if h m w)
    ends-if-fine m None f = f
    ends-if-fine m (Some w) f = ends-fine h.cond m w hc f

    takes-fine : (j : InstText) (r : Option (List ℕ)) → InstFine j → (m : Midst) → MidstFine m → MidstFine (takes g h j r m)
    takes-fine (const_text d) r w m f = gives-fine m r (Some (known_value (constant d))) f (λ x z. subst KnownFine (same_Some (known_value (constant d)) x z) w)
    takes-fine (pure_text o os) r w m f = gives-fine m r (operated m.known o os) f (λ x z. operated-fine m.known f.known o os x z)
    takes-fine (var_text a) r w m f = gives-fine m r (option_map known_cell (value_known m.known a.value)) f
        (λ x z. some-cell (value_known m.known a.value) (λ t q. value-fine m.known f.known a.value t q) x z)
    takes-fine (ld_text a) r w m f = gives-fine m r (option_map known_value (cell_known m.known a.value)) f
        (λ x z. some-value (cell_known m.known a.value) (λ t q. cell-fine m.known f.known a.value t q) x z)
    takes-fine (st_text to value) r w m f = gives-fine m (Some to.value) (option_map known_cell (value_known m.known value)) f
        (λ x z. some-cell (value_known m.known value) (λ t q. value-fine m.known f.known value t q) x z)
    takes-fine (prb_text a) r w m f = probes-fine m r (part_known m.known a.value) f
    takes-fine (drv_text to value after cond) r w m f =
        drives-fine m (drive_cond m.known h.cond cond) (part_known m.known to.value) (value_known m.known value) (value_known m.known after) f (λ t q. value-fine m.known f.known after t q)
    takes-fine (call_text v ty os) r w m f = asserts-fine m (values_known m.known os) f
    takes-fine (br_text to) r w m f = leads-fine h.cond to m hc f
    takes-fine (branch_text cond first second) r w m f = branches-fine (value_known m.known cond) first second m (λ t q. value-fine m.known f.known cond t q) f
    takes-fine (wait_text to after on) r w m f = ends-if-fine m (wait_way g (is_some after) (block_number to g.blocks) (parts_known m.known on)) f
    takes-fine halt_text r w m f = ends-fine h.cond m halts hc f
    takes-fine j r w m f = f

    lines-fine : (ls : List LineText) → Each LineFine ls → (m : Midst) → MidstFine m → MidstFine (takes_all g h ls m)
    lines-fine [] w m f = f
    lines-fine (l ∷ ls) w m f = lines-fine ls w.1 (takes g h l.inst l.result m) (takes-fine l.inst l.result w.0 m f)

  -- ---- the places of a region

  pub record CourseFine (c : Course) : Type 0 where
    pub edges : Each EdgeFine c.edges
    pub drives : Each DriveFine c.rows.drives
    pub ends : Each EndFine c.rows.ends

  module _ (u : UnitText) (r : RegionOf u g) (written : Each BlockFine g.blocks) where
    to-fine : (p : RegionPlace) (es : List RegionEdge) → Each EdgeFine es → Each EdgeFine (edges_to p es)
    to-fine p [] h = tt
    to-fine p (e ∷ es) h = by (is_place e.to p) (to-fine p es h.1)
      where
        by : (b : Bool) → Each EdgeFine (edges_to p es) → Each EdgeFine (if b then e ∷ edges_to p es else edges_to p es)
        by true z = (h.0, z)
        by false z = z

    block-fine : (p : RegionPlace) (q : Tree) (es : List RegionEdge) (c c1 : Course) (b : FlatBlockText) → BlockFine b → In q → Each EdgeFine es → through_block g p q es c b ≡ comes_to c1
        → CourseFine c → CourseFine c1
    block-fine p q es c c1 b at hq he e f =
        let ls : List LineText = with_merge b.merge b.lines in
        let t = Courses.treated u g r p q es c b c1 e in
        let m0 : Midst = takes_all g (Courses.here_at u g r p q b) ls (Courses.start_at u g r es c b) in
        let m : MidstFine m0 = lines-fine (Courses.here_at u g r p q b) hq ls (merge-fine b.merge b.lines at) (Courses.start_at u g r es c b)
        (record { known = known-at-fine es ls he; edges = f.edges; drives = f.drives; ends = f.ends }) in
        let rows : m0.rows ≡ c1.rows = sym (t.rows ∙ ap (λ (x : Midst). x.rows) t.is) in
        let edges : m0.edges ≡ c1.edges = sym (t.edges ∙ ap (λ (x : Midst). x.edges) t.is) in
        record { edges = subst (Each EdgeFine) edges m.edges; drives = subst (λ (x : Rows). Each DriveFine x.drives) rows m.drives; ends = subst (λ (x : Rows). Each EndFine x.ends) rows m.ends }

    through-fine : (p : RegionPlace) (q : Tree) (es : List RegionEdge) (c c1 : Course) → In q → Each EdgeFine es → through g p q es c ≡ comes_to c1 → CourseFine c → CourseFine c1
    through-fine p q es c c1 hq he e f = by (slice_get g.blocks p.block) refl e
      where
        by : (o : Option FlatBlockText) → slice_get g.blocks p.block ≡ o → option_map_or (through_block g p q es c) o (comes_to c) ≡ comes_to c1 → CourseFine c1
        by None z w = subst CourseFine (coursed-is c c1 w) f
        by (Some b) z w = block-fine p q es c c1 b (block-at g.blocks p.block b written z) hq he w f

    reached-fine : (p : RegionPlace) (es : List RegionEdge) (c c1 : Course) → Each EdgeFine es → through_reached g p es c ≡ comes_to c1 → CourseFine c → CourseFine c1
    reached-fine p [] c c1 he e f = subst CourseFine (coursed-is c c1 e) f
    reached-fine p (x ∷ es) c c1 he e f = through-fine p (any_taken (x ∷ es)) (x ∷ es) c c1 (taken-fine (x ∷ es) he) he e f

    all-fine : (ps : List RegionPlace) (c c' : Course) → CourseFine c → through_all g ps c ≡ comes_to c' → CourseFine c'
    all-fine [] c c' f e = subst CourseFine (coursed-is c c' e) f
    all-fine (p ∷ ps) c c' f e =
        let o = Courses.onward u g r p ps c c' e in
        all-fine ps o.course c' (reached-fine p (edges_to p c.edges) c o.course (to-fine p c.edges f.edges) o.here f) o.there

    none-fine : CourseFine no_course
    none-fine = record { edges = tt; drives = tt; ends = tt }

    pub region-fine : (b : ℕ) (es : List RegionEdge) (c' : Course) → Each EdgeFine es → region_from g b es ≡ comes_to c' → CourseFine c'
    unfolding region_from
    region-fine b es c' he e = by (through g (record { turns = 0; block = b }) (bit_of true) es no_course) refl e
      where
        by : (x : Coursed) → through g (record { turns = 0; block = b }) (bit_of true) es no_course ≡ x → then_course x (through_all g (all_places (length g.blocks))) ≡ comes_to c' → CourseFine c'
        by (stops z) q w = stops-not z c' w
        by (comes_to c) q w = all-fine (all_places (length g.blocks)) c c' (through-fine (record { turns = 0; block = b }) (bit_of true) es no_course c tt he q none-fine) w
