-- A place is left: one more edge or end, by ids and in the definition.
use Rattle.std.proofs.Common.{◌≡◌, ◌⊎◌, inl, inr, ℕ, ◌+◌, ◌<◌, ◌≤◌, Bool, true, false, ◌&&◌, ◌||◌, nat_eq, nat_lt, if◌then◌else◌, List, [], ◌∷◌, ◌++◌, length, map, Option, Some, None, is_some, Result, Ok, Err, OnOk, IfErr, refl, ap, sym, ◌∙◌, subst, arith}
use Rattle.std.proofs.lemmas.Bool.Decides.{nat_tests}
use Rattle.std.proofs.lemmas.Bool.{or_left, or_right}
use Rattle.lh_unit.specs.Naming.{Naming}
use Rattle.lh_unit.specs.declared.inst.ValueId.{ValueId}
use Rattle.lh_term.specs.Tree.{Tree}
use Rattle.lh_term.specs.Make.{is_zero}
use Rattle.lh_term.specs.Arena.{trees, tree_at, StandsForTree, Grows}
use Rattle.lh_term.specs.declared.part.Part.{Part}
use Rattle.lh_term.specs.declared.term.TermId.{TermId}
use Rattle.lh_term.specs.declared.term.TermNode.{TermNode}
use Rattle.lh_flat_parts.specs.Steps.{part_at}
use Rattle.lh_region_def.specs.Rows as text
use Rattle.lh_region_def.specs.Joins.{RegionPlace, RegionEdge}
use Rattle.lh_region_def.specs.Places.{Region as RegionText, Here, Midst, next_place, block_number, both, ends, goes, goes_if, leads}
use Rattle.lh_region_def.proofs.MergedValues.{and-condition, not-condition}
use Rattle.lh_region_def.specs.Regions.{max_turns, turns_too_often, edge_into, edges_of_ends}
use Rattle.lh_region_joins.specs.Joins.{IsConditionAt}
use Rattle.lh_region_joins.proofs.Conditions.{stands-condition}
use Rattle.lh_region_joins.specs.declared.edge.Edge.{Edge}
use Rattle.lh_region_places.specs.declared.state.PlaceState.{PlaceState}
use Rattle.lh_region.specs.declared.ahead.Ahead.{Ahead}
use Rattle.lh_region.specs.declared.rows.Rows.{Rows}
use Rattle.lh_region.specs.declared.rows.Way.{Way}
use Rattle.lh_region.specs.declared.rows.Way.TheVariants as way
use Rattle.lh_region.specs.declared.rows.RegionFault.{RegionFault}
use Rattle.lh_region.specs.declared.rows.RegionFault.TheVariants as fault
use Rattle.lh_region_walk.specs.declared.walk.Region.{Region}
use Rattle.lh_region_walk.specs.declared.walk.Walk.{Walk}
use Rattle.lh_region_walk.specs.declared.walk.WalkPoint.{WalkPoint}
use Rattle.lh_region_places.specs.Asked.{Tells, SamePlaces, StillTold}
use Rattle.lh_region.specs.Branches.{CanTest, negation, IsAnd, IsAndNot}
use Rattle.lh_region.specs.Effects.{IsEnded}
use Rattle.lh_region.specs.Stands.{AreRows, way_text}
use Rattle.lh_region.specs.Walking.{Story, TellsKnown, IsEdge, AreEdges, place_of, AreAhead, AreSources, LeadsOn}
use Rattle.lh_region_walk.specs.Walked.{region_text, course_at}
use Rattle.lh_region_walk.specs.Leaving.{IsLeaving, edge_from, EndsThere, CanLead, LeadsThere, LeadsNot, Branches, BranchesNot, PartsOf, Waits}
use Rattle.lh_region.proofs.LeadingEdges.{edges-push}
use Rattle.lh_region_places.proofs.PlaceLists.{same-length}
use Rattle.lh_region_walk.proofs.StoryLaws.{so-far-grown}

-- ---- one more end

ends-edges : (xs : List text.RegionEnd) (x : text.RegionEnd) → edges_of_ends 0 (xs ++ x ∷ []) ≡ edges_of_ends 0 xs ++ edge_into 0 x.from x.cond x.known ∷ []
ends-edges [] x = refl
ends-edges (y ∷ ys) x = ap (λ (zs : List RegionEdge). edge_into 0 y.from y.cond y.known ∷ zs) (ends-edges ys x)

-- the edge by which an end of the place goes on
module _ (ns : List TermNode) (f : Naming) (r : Region) (w : Walk) (at : WalkPoint) (s : Story) (h : Here) (insts : ℕ) (m : Midst) (i : IsLeaving ns f r w at s h insts m) (cond : TermId) (c : Tree)
    (st : StandsForTree ns cond c) where
  edge-is : (x : RegionEdge) → x.from ≡ h.label → x.cond ≡ c → x.known ≡ m.known → IsEdge ns s (edge_from at cond) x
  edge-is x a b k = record {
    within = i.within;
    of_text = subst (λ (n : ℕ). at.block < n) (sym i.course.so_far.blocks) i.of_text;
    block = ap (λ (g : Naming). g.label_name at.block) i.course.so_far.naming ∙ sym i.label ∙ sym a;
    cond = subst (StandsForTree ns cond) (sym b) st;
    told = subst (TellsKnown s at.place) (sym k) i.known;
  }

  ended-sources : (way : text.Way) → AreSources ns s (w.sources ++ edge_from at cond ∷ []) (ends h c m way).rows.ends
  ended-sources way =
      subst (AreEdges ns s (w.sources ++ edge_from at cond ∷ [])) (sym (ends-edges m.rows.ends (record { cond = c; way = way; from = h.label; known = m.known })))
      (edges-push ns s w.sources (edges_of_ends 0 m.rows.ends) (edge_from at cond) (edge_into 0 h.label c m.known) i.course.so_far.sources (edge-is (edge_into 0 h.label c m.known) refl refl refl))

pub ended-there : (w q : Walk) (at : WalkPoint) (cond : TermId) (way : Way) → q.places.items ≡ w.places.items → q.ahead ≡ w.ahead → q.insts ≡ w.insts → q.sources ≡ w.sources ++ edge_from at cond ∷ []
    → IsEnded w.rows q.rows cond way → EndsThere w at cond (way_text way) q
ended-there w q at cond way ep ea en es e ns f r s h insts m c i st = record {
  course = record {
    so_far = record {
      naming = i.course.so_far.naming;
      values = i.course.so_far.values;
      blocks = i.course.so_far.blocks;
      here_long = ap (λ (a : Ahead). length a.here.items) ea ∙ i.course.so_far.here_long;
      next_long = ap (λ (a : Ahead). length a.next.items) ea ∙ i.course.so_far.next_long;
      ahead = subst (λ (a : Ahead). AreAhead ns s at.turns (at.block + 1) a m.edges) (sym ea) i.course.so_far.ahead;
      few = i.course.so_far.few;
      insts = en ∙ i.course.so_far.insts;
      rows = e ns h c m st i.course.so_far.rows;
      sources = subst (λ (es : List Edge). AreSources ns s es (ends h c m (way_text way)).rows.ends) (sym es) (ended-sources ns f r w at s h insts m i cond c st (way_text way));
    };
    places = i.course.places ∙ sym (ap length ep);
    tells = subst (λ (ps : List PlaceState). Tells ns ps s.told) (sym ep) i.course.tells;
  };
  within = i.within;
  of_text = i.of_text;
  numbers = i.numbers;
  place = i.place;
  label = i.label;
  known = i.known;
}

-- ---- where control is led

leads-never : (g : RegionText) (h : Here) (c : Tree) (n : List ℕ) (m : Midst) → is_zero c ≡ true → leads g h c n m ≡ m
leads-never g h c n m z = ap (λ (b : Bool). if b then m else goes_if g h c m (block_number n g.blocks)) z

leads-goes : (g : RegionText) (h : Here) (c : Tree) (n : List ℕ) (m : Midst) (k : ℕ) → is_zero c ≡ false → block_number n g.blocks ≡ Some k → leads g h c n m ≡ goes g h c m k
leads-goes g h c n m k z e = ap (λ (b : Bool). if b then m else goes_if g h c m (block_number n g.blocks)) z ∙ ap (goes_if g h c m) e

-- the edge that is added
abbrev new_edge : Here → Tree → Midst → ℕ → RegionEdge
new_edge h c m k = record { to = next_place h.place k; from = h.label; cond = c; known = m.known }

abbrev with_edge : Here → Tree → Midst → ℕ → Midst
with_edge h c m k = record m { edges = m.edges ++ new_edge h c m k ∷ [] }

goes-head : (g : RegionText) (h : Here) (c : Tree) (m : Midst) (k : ℕ) → (g.ends_at_head && nat_eq k g.head) ≡ true → goes g h c m k ≡ ends h c m text.enters_head
goes-head g h c m k e = ap (λ (b : Bool). if b then ends h c m text.enters_head else with_edge h c m k) e

goes-edge : (g : RegionText) (h : Here) (c : Tree) (m : Midst) (k : ℕ) → (g.ends_at_head && nat_eq k g.head) ≡ false → goes g h c m k ≡ with_edge h c m k
goes-edge g h c m k e = ap (λ (b : Bool). if b then ends h c m text.enters_head else with_edge h c m k) e

-- ---- turns

often-push : (xs : List RegionEdge) (x : RegionEdge) → turns_too_often (xs ++ x ∷ []) ≡ (turns_too_often xs || nat_lt max_turns x.to.turns)
often-push [] x = or-false (nat_lt max_turns x.to.turns)
  where
    or-false : (b : Bool) → (b || false) ≡ b
    or-false true = refl
    or-false false = refl
often-push (y ∷ ys) x = ap (λ (b : Bool). nat_lt max_turns y.to.turns || b) (often-push ys x) ∙ or-or (nat_lt max_turns y.to.turns)
  where
    or-or : (a : Bool) → (a || (turns_too_often ys || nat_lt max_turns x.to.turns)) ≡ ((a || turns_too_often ys) || nat_lt max_turns x.to.turns)
    or-or true = refl
    or-or false = refl

few-push : (xs : List RegionEdge) (x : RegionEdge) → turns_too_often xs ≡ false → x.to.turns ≤ max_turns → turns_too_often (xs ++ x ∷ []) ≡ false
few-push xs x e l = let n : nat_lt max_turns x.to.turns ≡ false = grind (arith, nat_tests) in often-push xs x ∙ (λ j. e j || n j)

many-push : (xs : List RegionEdge) (x : RegionEdge) → max_turns < x.to.turns → turns_too_often (xs ++ x ∷ []) ≡ true
many-push xs x l = let n : nat_lt max_turns x.to.turns ≡ true = grind (arith, nat_tests) in often-push xs x ∙ or_right (turns_too_often xs) (nat_lt max_turns x.to.turns) n

-- too many turns stay too many
still-many : (g : RegionText) (h : Here) (c : Tree) (n : List ℕ) (m : Midst) → turns_too_often m.edges ≡ true → turns_too_often (leads g h c n m).edges ≡ true
still-many g h c n m t = by (is_zero c) (block_number n g.blocks)
  where
    goes-many : (k : ℕ) (b : Bool) → turns_too_often (if b then ends h c m text.enters_head else with_edge h c m k).edges ≡ true
    goes-many k true = t
    goes-many k false = often-push m.edges (new_edge h c m k) ∙ or_left (turns_too_often m.edges) (nat_lt max_turns (next_place h.place k).turns) t

    by : (z : Bool) (o : Option ℕ) → turns_too_often (if z then m else goes_if g h c m o).edges ≡ true
    by true o = t
    by false None = t
    by false (Some k) = goes-many k (g.ends_at_head && nat_eq k g.head)

-- ---- one more edge

abbrev turns_of : WalkPoint → ℕ → ℕ
turns_of at to = (next_place (place_of at.turns at.block) to).turns

module _ (ns : List TermNode) (r : Region) (w q : Walk) (at : WalkPoint) (cond : TermId) (to : ℕ) (can : CanLead w.ahead to) where
  -- an edge that is never taken
  pub leads-nowhere : is_zero (tree_at (trees ns) cond) ≡ true → LeadsThere ns r w at cond to w
  leads-nowhere z f s h insts m c i st = subst (IsLeaving ns f r w at s h insts) (sym (leads-never (region_text f r) h c (f.label_name to) m (ap is_zero (sym st.tree) ∙ z))) i

  numbered : (f : Naming) (s : Story) (h : Here) (insts : ℕ) (m : Midst) → IsLeaving ns f r w at s h insts m → block_number (f.label_name to) (region_text f r).blocks ≡ Some to
  numbered f s h insts m i = i.numbers to (subst (λ (n : ℕ). to < n) i.course.so_far.here_long can.here)

  module _ (z : is_zero (tree_at (trees ns) cond) ≡ false) where
    led-is : (f : Naming) (s : Story) (h : Here) (insts : ℕ) (m : Midst) (c : Tree) → IsLeaving ns f r w at s h insts m → StandsForTree ns cond c
        → leads (region_text f r) h c (f.label_name to) m ≡ goes (region_text f r) h c m to
    led-is f s h insts m c i st = leads-goes (region_text f r) h c (f.label_name to) m to (ap is_zero (sym st.tree) ∙ z) (numbered f s h insts m i)

    -- one by which the region ends at its head
    pub leads-head : (r.ends_at_head && nat_eq to r.head) ≡ true → EndsThere w at cond text.enters_head q → LeadsThere ns r w at cond to q
    leads-head e x f s h insts m c i st = subst (IsLeaving ns f r q at s h insts) (sym (led-is f s h insts m c i st ∙ goes-head (region_text f r) h c m to e)) (x ns f r s h insts m c i st)

    module _ (e : (r.ends_at_head && nat_eq to r.head) ≡ false) where
      edge-added : (f : Naming) (s : Story) (h : Here) (insts : ℕ) (m : Midst) (c : Tree) → IsLeaving ns f r w at s h insts m → StandsForTree ns cond c
          → leads (region_text f r) h c (f.label_name to) m ≡ with_edge h c m to
      edge-added f s h insts m c i st = led-is f s h insts m c i st ∙ goes-edge (region_text f r) h c m to e

      turns-are : (f : Naming) (s : Story) (h : Here) (insts : ℕ) (m : Midst) → IsLeaving ns f r w at s h insts m → (next_place h.place to).turns ≡ turns_of at to
      turns-are f s h insts m i = ap (λ (p : RegionPlace). (next_place p to).turns) i.place

      pub leads-edge : q.places.items ≡ w.places.items → q.insts ≡ w.insts → q.rows ≡ w.rows → q.sources ≡ w.sources → length q.ahead.here.items ≡ length w.ahead.here.items
          → length q.ahead.next.items ≡ length w.ahead.next.items → LeadsOn w.ahead at.turns to (edge_from at cond) q.ahead → turns_of at to ≤ max_turns
          → LeadsThere ns r w at cond to q
      leads-edge ep en er es lh ln on few f s h insts m c i st =
          let ahead = on ns s (region_text f r) h c m i.place (i.label ∙ sym (ap (λ (g : Naming). g.label_name at.block) i.course.so_far.naming)) i.within
          (subst (λ (n : ℕ). at.block < n) (sym i.course.so_far.blocks) i.of_text) st i.known e i.course.so_far.ahead in
          subst (IsLeaving ns f r q at s h insts) (sym (edge-added f s h insts m c i st)) (record {
            course = record {
              so_far = record {
                naming = i.course.so_far.naming;
                values = i.course.so_far.values;
                blocks = i.course.so_far.blocks;
                here_long = lh ∙ i.course.so_far.here_long;
                next_long = ln ∙ i.course.so_far.next_long;
                ahead = subst (λ (x : Midst). AreAhead ns s at.turns (at.block + 1) q.ahead x.edges) (goes-edge (region_text f r) h c m to e) ahead;
                few = few-push m.edges (new_edge h c m to) i.course.so_far.few (subst (λ (n : ℕ). n ≤ max_turns) (sym (turns-are f s h insts m i)) few);
                insts = en ∙ i.course.so_far.insts;
                rows = subst (λ (x : Rows). AreRows ns x m.rows) (sym er) i.course.so_far.rows;
                sources = subst (λ (x : List Edge). AreSources ns s x m.rows.ends) (sym es) i.course.so_far.sources;
              };
              places = i.course.places ∙ sym (ap length ep);
              tells = subst (λ (ps : List PlaceState). Tells ns ps s.told) (sym ep) i.course.tells;
            };
            within = i.within;
            of_text = i.of_text;
            numbers = i.numbers;
            place = i.place;
            label = i.label;
            known = i.known;
          })

      pub leads-not : (x : RegionFault) → (x ≡ fault.OutOfMemory) ⊎ ((x ≡ fault.TooManyTurns) × (max_turns < turns_of at to)) → LeadsNot ns r w at cond to x
      leads-not x (inl a) = inl a
      leads-not x (inr a) = inr (
        a.0,
        λ f s h insts m c i st.
            subst (λ (y : Midst). turns_too_often y.edges ≡ true) (sym (edge-added f s h insts m c i st))
            (many-push m.edges (new_edge h c m to) (subst (λ (n : ℕ). max_turns < n) (sym (turns-are f s h insts m i)) a.1)),
      )

-- what `lead` says, of an edge that is this one
module _ (ns : List TermNode) (r : Region) (w q : Walk) (at : WalkPoint) (cond : TermId) (to : ℕ) (can : CanLead w.ahead to) (z : is_zero (tree_at (trees ns) cond) ≡ false)
    (e : (r.ends_at_head && nat_eq to r.head) ≡ false) (edge : Edge) (is : edge ≡ edge_from at cond) where
  pub led-edge : q.places.items ≡ w.places.items → q.insts ≡ w.insts → q.rows ≡ w.rows → q.sources ≡ w.sources → {A E : Type 0} (x : Result A E)
      → OnOk x (length q.ahead.here.items ≡ length w.ahead.here.items) → OnOk x (length q.ahead.next.items ≡ length w.ahead.next.items)
      → OnOk x (LeadsOn w.ahead at.turns to edge q.ahead) → OnOk x ((next_place (place_of at.turns edge.block) to).turns ≤ max_turns) → OnOk x (LeadsThere ns r w at cond to q)
  led-edge ep en er es (Err f) lh ln on few = tt
  led-edge ep en er es (Ok u) lh ln on few =
      leads-edge ns r w q at cond to can z e ep en er es lh ln (subst (λ (d : Edge). LeadsOn w.ahead at.turns to d q.ahead) is on)
      (subst (λ (d : Edge). (next_place (place_of at.turns d.block) to).turns ≤ max_turns) is few)

  pub led-edge-not : {A : Type 0} (x : Result A RegionFault) → IfErr x (λ f. (f ≡ fault.OutOfMemory) ⊎ ((f ≡ fault.TooManyTurns) × (max_turns < (next_place (place_of at.turns edge.block) to).turns)))
      → IfErr x (LeadsNot ns r w at cond to)
  led-edge-not (Ok u) h = tt
  led-edge-not (Err f) h = leads-not ns r w q at cond to can z e f
      (subst (λ (d : Edge). (f ≡ fault.OutOfMemory) ⊎ ((f ≡ fault.TooManyTurns) × (max_turns < (next_place (place_of at.turns d.block) to).turns))) is h)

-- ---- a branch

-- the conditions of its edges were made
module _ (ns ms : List TermNode) (r : Region) (w p : Walk) (at : WalkPoint) (v first second : ℕ) (lo hi : TermId) (gr : Grows ns ms) (same : SamePlaces w.places.items p.places.items)
    (still : StillTold ns w.places.items ms p.places.items v at.place)
    (ea : p.ahead ≡ w.ahead) (en : p.insts ≡ w.insts) (er : p.rows ≡ w.rows) (es : p.sources ≡ w.sources)
    (low : IsAndNot ns w.places.items ms v at.place (tree_at (trees ns) at.cond) lo) (high : IsAnd ns w.places.items ms v at.place (tree_at (trees ns) at.cond) hi) where
  tested : (f : Naming) (s : Story) (h : Here) (insts : ℕ) (m : Midst) (x : Tree) → IsLeaving ns f r w at s h insts m → s.told at.place v ≡ Some x → IsLeaving ms f r p at s h insts m
  tested f s h insts m x i e =
      let c = so-far-grown ns ms f r w at.turns (at.block + 1) s (course_at insts m) gr i.course.so_far in
      record {
        course = record {
          so_far = record {
            naming = c.naming;
            values = c.values;
            blocks = c.blocks;
            here_long = ap (λ (a : Ahead). length a.here.items) ea ∙ c.here_long;
            next_long = ap (λ (a : Ahead). length a.next.items) ea ∙ c.next_long;
            ahead = subst (λ (a : Ahead). AreAhead ms s at.turns (at.block + 1) a m.edges) (sym ea) c.ahead;
            few = c.few;
            insts = en ∙ c.insts;
            rows = subst (λ (a : Rows). AreRows ms a m.rows) (sym er) c.rows;
            sources = subst (λ (a : List Edge). AreSources ms s a m.rows.ends) (sym es) c.sources;
          };
          places = i.course.places ∙ sym (same-length w.places.items p.places.items same);
          tells = still s.told i.course.tells (ap is_some e);
        };
        within = i.within;
        of_text = i.of_text;
        numbers = i.numbers;
        place = i.place;
        label = i.label;
        known = i.known;
      }

  low-stands : (f : Naming) (s : Story) (h : Here) (insts : ℕ) (m : Midst) (x : Tree) → IsLeaving ns f r w at s h insts m → StandsForTree ns at.cond h.cond → s.told at.place v ≡ Some x
      → StandsForTree ms lo (both h.cond (negation x))
  low-stands f s h insts m x i st e = subst (λ (c : Tree). StandsForTree ms lo (both c (negation x))) st.tree (low s.told x i.course.tells e)

  high-stands : (f : Naming) (s : Story) (h : Here) (insts : ℕ) (m : Midst) (x : Tree) → IsLeaving ns f r w at s h insts m → StandsForTree ns at.cond h.cond → s.told at.place v ≡ Some x
      → StandsForTree ms hi (both h.cond x)
  high-stands f s h insts m x i st e = subst (λ (c : Tree). StandsForTree ms hi (both c x)) st.tree (high s.told x i.course.tells e)

  pub low-not : (x : RegionFault) → LeadsNot ms r p at lo first x → BranchesNot ns r w at v first second x
  low-not x (inl a) = inl a
  low-not x (inr a) = inr (
    a.0,
    λ f s h insts m y i st e.
        still-many (region_text f r) h (both h.cond y) (f.label_name second) (leads (region_text f r) h (both h.cond (negation y)) (f.label_name first) m)
        (a.1 f s h insts m (both h.cond (negation y)) (tested f s h insts m y i e) (low-stands f s h insts m y i st e)),
  )

  module _ (q : Walk) (done : LeadsThere ms r p at lo first q) where
    led-low : (f : Naming) (s : Story) (h : Here) (insts : ℕ) (m : Midst) (x : Tree) → IsLeaving ns f r w at s h insts m → StandsForTree ns at.cond h.cond → s.told at.place v ≡ Some x
        → IsLeaving ms f r q at s h insts (leads (region_text f r) h (both h.cond (negation x)) (f.label_name first) m)
    led-low f s h insts m x i st e = done f s h insts m (both h.cond (negation x)) (tested f s h insts m x i e) (low-stands f s h insts m x i st e)

    pub high-not : (x : RegionFault) → LeadsNot ms r q at hi second x → BranchesNot ns r w at v first second x
    high-not x (inl a) = inl a
    high-not x (inr a) = inr (
      a.0,
      λ f s h insts m y i st e.
          a.1 f s h insts (leads (region_text f r) h (both h.cond (negation y)) (f.label_name first) m) (both h.cond y) (led-low f s h insts m y i st e) (high-stands f s h insts m y i st e),
    )

    pub branched : (z : Walk) → LeadsThere ms r q at hi second z → Branches ns r w at v first second ms z
    branched z more f s h insts m x i st e =
        more f s h insts (leads (region_text f r) h (both h.cond (negation x)) (f.label_name first) m) (both h.cond x) (led-low f s h insts m x i st e) (high-stands f s h insts m x i st e)

-- the conditions are such
pub low-condition : (ns ms : List TermNode) (ps : List PlaceState) (v i : ℕ) (cond lo : TermId) → IsConditionAt ns cond → CanTest ns ps v i → IsAndNot ns ps ms v i (tree_at (trees ns) cond) lo
    → IsConditionAt ms lo
low-condition ns ms ps v i cond lo c t low = stands-condition ms lo (both (tree_at (trees ns) cond) (negation t.cond)) (low t.told t.cond t.tells t.is)
    (and-condition (tree_at (trees ns) cond) (negation t.cond) c.cond (not-condition t.cond t.condition))

pub high-condition : (ns ms : List TermNode) (ps : List PlaceState) (v i : ℕ) (cond hi : TermId) → IsConditionAt ns cond → CanTest ns ps v i → IsAnd ns ps ms v i (tree_at (trees ns) cond) hi
    → IsConditionAt ms hi
high-condition ns ms ps v i cond hi c t high = stands-condition ms hi (both (tree_at (trees ns) cond) t.cond) (high t.told t.cond t.tells t.is)
    (and-condition (tree_at (trees ns) cond) t.cond c.cond t.condition)

-- ---- a wait

some-same : (xs ys : List Part) → map Some xs ≡ map Some ys → xs ≡ ys
some-same [] [] e = refl
some-same [] (y ∷ ys) e = absurd cc
some-same (x ∷ xs) [] e = absurd cc
some-same (x ∷ xs) (y ∷ ys) e =
    let a : x ≡ y = cc in
    let b : map Some xs ≡ map Some ys = cc in
    λ j. a j ∷ some-same xs ys b j

pub waited : (r : Region) (w q : Walk) (at : WalkPoint) (to : ℕ) (to_head timed : Bool) (vs : List ValueId) (parts : List Part) → to_head ≡ nat_eq to r.head → PartsOf r.parts.now.parts.items vs parts
    → EndsThere w at at.cond (way_text (way.Wait to to_head parts timed)) q → Waits r w at to timed vs q
waited r w q at to to_head timed vs parts e p x ps are =
    let same : parts ≡ ps = some-same parts ps (p ∙ sym are) in
    subst (λ (b : Bool). EndsThere w at at.cond (text.waits to b ps timed) q) e (subst (λ (y : List Part). EndsThere w at at.cond (text.waits to to_head y timed) q) same x)

-- ---- the parts of values, one by one

pub parts-push : (table : List (Option Part)) (vs : List ValueId) (ps : List Part) (v : ValueId) (p : Part) → PartsOf table vs ps → part_at table v.0 ≡ Some p
    → PartsOf table (vs ++ v ∷ []) (ps ++ p ∷ [])
parts-push table vs ps v p h e = some-push ps p ∙ ap (λ (xs : List (Option Part)). xs ++ Some p ∷ []) h ∙ ap (λ (o : Option Part). map (λ (u : ValueId). part_at table u.0) vs ++ o ∷ []) (sym e)
    ∙ sym (part-push vs)
  where
    some-push : (ps : List Part) (p : Part) → map Some (ps ++ p ∷ []) ≡ map Some ps ++ Some p ∷ []
    some-push [] p = refl
    some-push (q ∷ ps) p = ap (λ (xs : List (Option Part)). Some q ∷ xs) (some-push ps p)

    part-push : (us : List ValueId) → map (λ (u : ValueId). part_at table u.0) (us ++ v ∷ []) ≡ map (λ (u : ValueId). part_at table u.0) us ++ part_at table v.0 ∷ []
    part-push [] = refl
    part-push (u ∷ us) = ap (λ (xs : List (Option Part)). part_at table u.0 ∷ xs) (part-push us)
