-- A `phi` at the place that is treated gives what the definition merges, by the edges that lead there.
use Rattle.std.proofs.Common.{◌≡◌, ℕ, ◌<◌, Bool, true, false, nat_eq, if◌then◌else◌, List, [], ◌∷◌, length, map, Option, Some, None, refl, ap, sym, ◌∙◌, subst, arith}
use Rattle.std.specs.Option.{is_some, option_and_then, option_map, option_map_or}
use Rattle.lh_types.specs.Types.{TypeTree}
use Rattle.lh_unit.specs.Activation.{edge_from}
use Rattle.lh_unit.specs.Contents.{EdgeText, phi_text}
use Rattle.lh_unit.specs.Held.{front}
use Rattle.lh_unit.specs.Naming.{Naming, value_text, edge_text}
use Rattle.lh_unit.specs.Within.{Each}
use Rattle.lh_unit.specs.declared.inst.ValueId.{ValueId}
use Rattle.lh_unit.specs.declared.inst.PhiEdge.{PhiEdge}
use Rattle.lh_unit.proofs.Lists.{some_inj}
use Rattle.lh_term.specs.Tree.{Tree}
use Rattle.lh_term.specs.Types.{IsTyped, type_of}
use Rattle.lh_term.specs.Arena.{Grows}
use Rattle.lh_term.specs.declared.term.TermId.{TermId}
use Rattle.lh_term.specs.declared.term.TermNode.{TermNode}
use Rattle.lh_region_def.specs.Known.{known_value, Knowledge, value_known, with_given}
use Rattle.lh_region_def.specs.Joins.{RegionEdge, selector, merged, on_each, merged_by, phi_on}
use Rattle.lh_region_def.specs.Typed.{IsOfType, PhiKnown}
use Rattle.lh_region_joins.specs.declared.edge.Edge.{Edge}
use Rattle.lh_region_joins.specs.Joins.{after_first, chosen_by, on_conditions}
use Rattle.lh_region_joins.proofs.Merged.{merged-by-conditions}
use Rattle.lh_region_places.specs.declared.state.PlaceState.{PlaceState}
use Rattle.lh_region_places.specs.Asked.{edges_at, joined_by, SamePlaces, IsWithAt}
use Rattle.lh_region.specs.Gives.{with_term, ValuesDiffer, GivesTerm}
use Rattle.lh_region.specs.Heads.{LabelsDiffer}
use Rattle.lh_region.specs.Operands.{operand_in, AreFrom}
use Rattle.lh_region.specs.Taken.{told_of, phi_ask, phi_asks, NamesEach, StillToldAll, IsMerge, IsMerged}
use Rattle.lh_region.specs.Walking.{Story, TellsKnown, IsEdge, AreEdges}
use Rattle.lh_region_walk.specs.Walked.{ContinuesStory}
use Rattle.lh_region_walk.specs.Merges.{IsPhi, phi_given, CanTakePhi, TakesPhi}
use Rattle.lh_region_places.proofs.PlaceLists.{same-length, same-edges, with-same}
use Rattle.lh_region.proofs.AskedValues.{there-from}
use Rattle.lh_region.proofs.LeadingEdges.{edges-grown}
use Rattle.lh_region.proofs.Begun.{value-term, are-alike, edges-on}
use Rattle.lh_region.proofs.PhiOperands.{operands-agree}
use Rattle.lh_region_walk.proofs.StoryLaws as Continuing

-- ---- operands by ids

-- an operand that is found is a value of the text
operand-below : (n b : ℕ) (ops : List PhiEdge) (v : ValueId) → Each (λ (e : PhiEdge). e.value.0 < n) ops → operand_in b ops ≡ Some v → v.0 < n
operand-below n b [] v h e = absurd cc
operand-below n b (o ∷ ops) v h e = by (operand-below n b ops v h.1) (nat_eq b o.block.0) e
  where
    by : (operand_in b ops ≡ Some v → v.0 < n) → (t : Bool) → (if t then Some o.value else operand_in b ops) ≡ Some v → v.0 < n
    by rec true f = subst (λ (u : ValueId). u.0 < n) (some_inj o.value v f) h.0
    by rec false f = rec f

module _ (ns : List TermNode) (s : Story) (ops : List PhiEdge) (labels : LabelsDiffer s.naming s.blocks) (from : AreFrom s.blocks ops) (below : Each (λ (e : PhiEdge). e.value.0 < s.values) ops) where
  abbrev texts : List EdgeText
  texts = map (edge_text s.naming) ops

  operand-on : (e : Edge) (x : RegionEdge) → IsEdge ns s e x → edge_from x.from texts ≡ option_map (value_text s.naming) (operand_in e.block ops)
  operand-on e x i = ap (λ (l : List ℕ). edge_from l texts) (sym i.block) ∙ operands-agree s.naming s.blocks e.block ops labels i.of_text from

  phi-read : (e : Edge) (x : RegionEdge) (t : Tree) → IsEdge ns s e x → phi_on texts x ≡ Some t → option_and_then (value_known x.known) (option_map (value_text s.naming) (operand_in e.block ops))
      ≡ Some t
  phi-read e x t i h = sym (ap (option_and_then (value_known x.known)) (operand-on e x i)) ∙ h

  phi-there : (e : Edge) (x : RegionEdge) (t : Tree) → IsEdge ns s e x → phi_on texts x ≡ Some t → is_some (operand_in e.block ops) ≡ true
  phi-there e x t i h = by (operand_in e.block ops) (phi-read e x t i h)
    where
      by : (o : Option ValueId) → option_and_then (value_known x.known) (option_map (value_text s.naming) o) ≡ Some t → is_some o ≡ true
      by None k = absurd cc
      by (Some v) k = refl

  phi-told : (e : Edge) (x : RegionEdge) (t : Tree) → IsEdge ns s e x → phi_on texts x ≡ Some t → told_of s.told (phi_ask ops e) ≡ Some t
  phi-told e x t i h = by (operand_in e.block ops) refl (phi-read e x t i h)
    where
      by : (o : Option ValueId) → operand_in e.block ops ≡ o → option_and_then (value_known x.known) (option_map (value_text s.naming) o) ≡ Some t → told_of s.told (phi_ask ops e) ≡ Some t
      by None g k = absurd cc
      by (Some v) g k =
          ap (λ (p : Option ValueId). s.told e.from (option_map_or (λ (u : ValueId). u.0) p 0)) g
          ∙ i.told v.0 (operand-below s.values e.block ops v below g) ∙ value-term (x.known (s.naming.value_name v.0)) t k

  phi-names : (ty : TypeTree) (es : List Edge) (xs : List RegionEdge) → AreEdges ns s es xs → Each (λ (x : RegionEdge). PhiKnown x (phi_text ty texts)) xs → NamesEach ops es
  phi-names ty [] [] h k = tt
  phi-names ty [] (x ∷ xs) h k = absurd h
  phi-names ty (e ∷ es) [] h k = absurd h
  phi-names ty (e ∷ es) (x ∷ xs) h k = let g = k.0 in (phi-there e x g.0 h.0 g.1, phi-names ty es xs h.1 k.1)

  phi-all : (es : List Edge) (xs : List RegionEdge) (ts : List Tree) → AreEdges ns s es xs → map (phi_on texts) xs ≡ map Some ts → map (told_of s.told) (phi_asks ops es) ≡ map Some ts
  phi-all [] [] [] h e = refl
  phi-all [] [] (t ∷ ts) h e = absurd cc
  phi-all [] (x ∷ xs) ts h e = absurd h
  phi-all (d ∷ es) [] ts h e = absurd h
  phi-all (d ∷ es) (x ∷ xs) [] h e = absurd cc
  phi-all (d ∷ es) (x ∷ xs) (t ∷ ts) h e =
      let a : phi_on texts x ≡ Some t = cc in
      let b : map (phi_on texts) xs ≡ map Some ts = cc in
      let c = phi-told d x t h.0 a in
      let f = phi-all es xs ts h.1 b in
      λ i. c i ∷ f i

-- ---- what the edges give

-- each edge gives a term of one type
record EachGives (f : RegionEdge → Option Tree) (ty : TypeTree) (xs : List RegionEdge) : Type 0 where
  pub trees : List Tree
  pub on : on_each f xs ≡ Some trees
  pub each : map f xs ≡ map Some trees
  pub typed : Each (λ (y : Tree). IsTyped y × (type_of y ≡ ty)) trees

each-gives : (f : RegionEdge → Option Tree) (ty : TypeTree) (xs : List RegionEdge) → Each (λ (x : RegionEdge). (t : Tree) × (f x ≡ Some t) × IsOfType ty t) xs → EachGives f ty xs
each-gives f ty [] h = record { trees = []; on = refl; each = refl; typed = tt }
each-gives f ty (x ∷ xs) h =
    let r = each-gives f ty xs h.1 in
    let (t, e, o) = h.0 in
    record {
      trees = t ∷ r.trees;
      on = ap (λ (a : Option Tree). front a (on_each f xs)) e ∙ ap (front (Some t)) r.on;
      each = λ i. e i ∷ r.each i;
      typed = ((o.typed, o.type), r.typed);
    }

-- and so all of them together, merged
record MergedGives (f : RegionEdge → Option Tree) (ty : TypeTree) (x : RegionEdge) (xs : List RegionEdge) : Type 0 where
  pub first : Tree
  pub others : List Tree
  pub each : map f (x ∷ xs) ≡ map Some (first ∷ others)
  pub typed : Each (λ (y : Tree). IsTyped y × (type_of y ≡ ty)) (first ∷ others)
  pub is : merged_by f (x ∷ xs) ≡ Some (chosen_by (map (selector (on_conditions (x ∷ xs))) (on_conditions xs)) first others)

merged-gives : (f : RegionEdge → Option Tree) (ty : TypeTree) (x : RegionEdge) (xs : List RegionEdge) → Each (λ (y : RegionEdge). (t : Tree) × (f y ≡ Some t) × IsOfType ty t) (x ∷ xs)
    → MergedGives f ty x xs
merged-gives f ty x xs h = let r = each-gives f ty (x ∷ xs) h in by r.trees r.on r.each r.typed
  where
    by : (ts : List Tree) → on_each f (x ∷ xs) ≡ Some ts → map f (x ∷ xs) ≡ map Some ts → Each (λ (y : Tree). IsTyped y × (type_of y ≡ ty)) ts → MergedGives f ty x xs
    by [] o e t = absurd cc
    by (v ∷ vs) o e t = record { first = v; others = vs; each = e; typed = t; is = ap (option_and_then (merged (x ∷ xs))) o ∙ merged-by-conditions x xs v vs }

-- ---- a story that goes on

phi-on : (s r : Story) (es : List RegionEdge) (v : ℕ) (ty : TypeTree) (ops : List PhiEdge) → ContinuesStory s r → IsPhi s es v ty ops → IsPhi r es v ty ops
phi-on s r es v ty ops c p = record {
  value = subst (λ (n : ℕ). v < n) (sym c.values) p.value;
  from = subst (λ (n : ℕ). AreFrom n ops) (sym c.blocks) p.from;
  values = subst (λ (n : ℕ). Each (λ (e : PhiEdge). e.value.0 < n) ops) (sym c.values) p.values;
  known = subst (λ (f : Naming). Each (λ (x : RegionEdge). PhiKnown x (phi_text ty (map (edge_text f) ops))) es) (sym c.naming) p.known;
}

values-on : (s r : Story) → ContinuesStory s r → ValuesDiffer s → ValuesDiffer r
values-on s r c d v w l m e = d v w (subst (λ (n : ℕ). v < n) c.values l) (subst (λ (n : ℕ). w < n) c.values m) (subst (λ (f : Naming). f.value_name v ≡ f.value_name w) c.naming e)

labels-on : (s r : Story) → ContinuesStory s r → LabelsDiffer s.naming s.blocks → LabelsDiffer r.naming r.blocks
labels-on s r c d = subst (λ (f : Naming). LabelsDiffer f r.blocks) (sym c.naming) (subst (LabelsDiffer s.naming) (sym c.blocks) d)

-- ---- a `phi` that is taken

-- what a `phi` asks for is told, and of one type
pub phi-merges : (ns : List TermNode) (ps : List PlaceState) (i v : ℕ) (ops : List PhiEdge) → CanTakePhi ns ps i v ops → IsMerge ns ps i ops
phi-merges ns ps i v ops c =
    let m = c.merging in
    let s = m.now in
    let p = phi-on c.before s (c.first ∷ c.more) v c.ty ops m.continues c.phi in
    let l = labels-on c.before s m.continues m.labels in
    let es = Continuing.edges-on ns c.before s m.continues (edges_at ps i) (c.first ∷ c.more) m.edges in
    let g = merged-gives (phi_on (map (edge_text s.naming) ops)) c.ty c.first c.more p.known in
    record {
      told = s.told;
      tells = m.tells;
      names = phi-names ns s ops l p.from p.values c.ty (edges_at ps i) (c.first ∷ c.more) es p.known;
      first = g.first;
      others = g.others;
      each = phi-all ns s ops l p.from p.values (edges_at ps i) (c.first ∷ c.more) (g.first ∷ g.others) es g.each;
      alike = are-alike c.ty g.first g.others g.typed;
    }

-- the place before which the `phi` is taken is the last one
pub phi-within : (ns : List TermNode) (ps : List PlaceState) (i v : ℕ) (ops : List PhiEdge) → CanTakePhi ns ps i v ops → i < length ps
phi-within ns ps i v ops c = let m = c.merging in omega (arith, m.is, m.places)

module _ (ns ms : List TermNode) (ps qs rs : List PlaceState) (i v : ℕ) (ops : List PhiEdge) (t : TermId) (grows : Grows ns ms) (same : SamePlaces ps qs)
    (still : StillToldAll ns ps ms qs (phi_asks ops (edges_at ps i))) (made : IsMerged ns ps ms i ops t) (put : IsWithAt qs i v t rs) (gives : GivesTerm qs i v t rs) where
  same-now : SamePlaces ps rs
  same-now = with-same qs rs v i t put ∙ same

  -- what is known after the `phi`, where this is its term
  given-now : (s r : Story) (es : List RegionEdge) (ty : TypeTree) (k : Knowledge) (y : Tree) → ContinuesStory s r → merged_by (phi_on (map (edge_text r.naming) ops)) es ≡ Some y
      → with_given k (Some (r.naming.value_name v)) (Some (known_value y)) ≡ phi_given s es v ty ops k
  given-now s r es ty k y c e =
      sym (ap (λ (o : Option Tree). with_given k (Some (r.naming.value_name v)) (option_map known_value o)) e)
      ∙ ap (λ (f : Naming). with_given k (Some (f.value_name v)) (option_map known_value (merged_by (phi_on (map (edge_text f) ops)) es))) c.naming

  pub takes-phi : TakesPhi ns ps i v ops ms rs
  takes-phi before x xs k ty m h =
      let s = m.now in
      let p = phi-on before s (x ∷ xs) v ty ops m.continues h in
      let l = labels-on before s m.continues m.labels in
      let es = Continuing.edges-on ns before s m.continues (edges_at ps i) (x ∷ xs) m.edges in
      let g = merged-gives (phi_on (map (edge_text s.naming) ops)) ty x xs p.known in
      let told = phi-all ns s ops l p.from p.values (edges_at ps i) (x ∷ xs) (g.first ∷ g.others) es g.each in
      let y = joined_by ns (edges_at ps i) g.first g.others in
      let is : merged_by (phi_on (map (edge_text s.naming) ops)) (x ∷ xs) ≡ Some y = g.is
      ∙ ap (λ (ds : List RegionEdge). Some (chosen_by (map (selector ds) (after_first ds)) g.first g.others)) (sym (edges-on ns s (edges_at ps i) (x ∷ xs) es)) in
      let tells = still s.told m.tells (there-from s.told (phi_asks ops (edges_at ps i)) (g.first ∷ g.others) told) in
      let given = gives ms s k (known_value y) y tells (m.places ∙ sym (same-length ps qs same)) (sym m.is) p.value (values-on before s m.continues m.values) refl
      (made s.told g.first g.others m.tells told) m.known in
      record {
        now = with_term s i v y;
        continues = Continuing.continues-given ms rs before s i v k (known_value y) y m.was m.continues given;
        was = m.was;
        is = m.is;
        places = m.places ∙ sym (same-length ps rs same-now);
        tells = given.tells;
        known = subst (TellsKnown (with_term s i v y) i) (given-now before s (x ∷ xs) ty k y m.continues is) given.known;
        values = m.values;
        labels = m.labels;
        edges = subst (λ (us : List Edge). AreEdges ms before us (x ∷ xs)) (sym (same-edges ps rs same-now i)) (edges-grown ns ms before (edges_at ps i) (x ∷ xs) grows m.edges);
      }
