-- A place that has begun: what its block merges, and what is known before its lines.
use Rattle.std.proofs.Common.{◌≡◌, ◌⊎◌, inl, inr, ℕ, zero, suc, ◌+◌, ◌<◌, Bool, true, false, ◌||◌, List, [], ◌∷◌, ◌++◌, length, map, Option, Some, None, slice_get, get_or, refl, ap, sym, ◌∙◌, subst, append_assoc}
use Rattle.std.specs.Option.{is_some, option_map}
use Rattle.std.proofs.lemmas.Option.{same_Some, none-some}
use Rattle.lh_unit_names.specs.declared.name.UnitName.{UnitName}
use Rattle.lh_unit.specs.declared.inst.ValueId.{ValueId}
use Rattle.lh_unit.specs.declared.inst.BlockId.{BlockId}
use Rattle.lh_unit.specs.declared.inst.PhiEdge.{PhiEdge}
use Rattle.lh_unit.specs.declared.inst.Inst.{Inst}
use Rattle.lh_unit.specs.declared.inst.Inst.TheVariants as inst
use Rattle.lh_unit.specs.ById.{maybe_id, values_used, blocks_named}
use Rattle.lh_unit.specs.Contents.{InstText, phi_text, LineText, BlockText, UnitText}
use Rattle.lh_unit.specs.Naming.{Naming, edge_text, inst_text}
use Rattle.lh_unit.specs.WellFormed.{is_phi}
use Rattle.lh_unit.specs.Within.{Each}
use Rattle.lh_unit.proofs.Lists.{Each-get}
use Rattle.lh_flat_laws.specs.Formed.{PhiFormed}
use Rattle.lh_flat.specs.declared.flat.MergeEdge.{MergeEdge}
use Rattle.lh_flat.specs.declared.flat.Merge.{Merge}
use Rattle.lh_flat.specs.declared.flat.FlatInst.{FlatInst}
use Rattle.lh_flat.specs.declared.flat.FlatBlock.{FlatBlock}
use Rattle.lh_flat.specs.Below.{ValuesBelow, InstBelow, EdgeBelow, MaybeBelow, BlockBelow}
use Rattle.lh_flat.specs.Flat.{MergeText, FlatBlockText, with_merge, as_block}
use Rattle.lh_flat.specs.Reads.{merge_edge_text, merge_text, flat_line_text, flat_block_text, flat_blocks_text}
use Rattle.lh_term.specs.Arena.{Grows}
use Rattle.lh_term.specs.declared.term.TermNode.{TermNode}
use Rattle.lh_term.proofs.Swaps.{stands_grown}
use Rattle.lh_region_def.specs.Known.{Knowledge}
use Rattle.lh_region_def.specs.Joins.{RegionEdge, joined, with_phi, with_phis, known_at}
use Rattle.lh_region_def.specs.Places.{Here}
use Rattle.lh_region_def.specs.Regions.{Course}
use Rattle.lh_region_def.specs.Typed.{KnowsThere, PhiKnown, JoinEdge}
use Rattle.lh_region_def.specs.Right.{PhisGiven}
use Rattle.lh_region_def.proofs.Sites.{LineGood, good-lines}
use Rattle.lh_region_def.proofs.Labels.{block-text}
use Rattle.lh_region_def.proofs.KnowledgeChanges.{there-past}
use Rattle.lh_region_def.proofs.Phis.{known-typed-at, known-there-at, phis-given-at}
use Rattle.lh_region_places.specs.declared.state.PlaceState.{PlaceState}
use Rattle.lh_region_walk.specs.declared.walk.Region.{Region}
use Rattle.lh_region_walk.specs.declared.walk.Walk.{Walk}
use Rattle.lh_region_walk.specs.declared.walk.WalkPoint.{WalkPoint}
use Rattle.lh_region_places.specs.Asked.{edges_at}
use Rattle.lh_region.specs.Gives.{ValuesDiffer}
use Rattle.lh_region.specs.Heads as heads
use Rattle.lh_region.specs.Heads.{begins_with_phi, starts_with_phi, LabelsDiffer}
use Rattle.lh_region.specs.Operands.{AreFrom}
use Rattle.lh_region.specs.Walking.{Story, TellsKnown, AreEdges}
use Rattle.lh_region_walk.specs.Walked.{process_by, IsSoFar, KnowsFor, IsBetween, IsOpened}
use Rattle.lh_region_walk.specs.Merges.{IsMerging, IsPhi, PhiFits, LineFits, CanTakeLines, phis_given, TakesPhis, as_phis, MergeFits, CanTakeMerge, merge_given, TakesMerge, merge_lines, midst_at}
use Rattle.lh_region_walk.proofs.StoryLaws.{so-far-grown}
use Rattle.lh_region_walk.proofs.Regional.{block-text-at, site-of}

-- the line that a merge is
abbrev merge_line : MergeText → LineText
merge_line m = record { result = Some m.value; inst = phi_text m.ty m.edges }

-- ---- what each edge has for each line

abbrev PhisKnown : List LineText → RegionEdge → Type 0
PhisKnown ls e = Each (λ (l : LineText). PhiKnown e l.inst) ls

phis-head : (l : LineText) (ls : List LineText) (es : List RegionEdge) → Each (PhisKnown (l ∷ ls)) es → Each (λ (e : RegionEdge). PhiKnown e l.inst) es
phis-head l ls [] h = tt
phis-head l ls (e ∷ es) h = (h.0.0, phis-head l ls es h.1)

phis-tail : (l : LineText) (ls : List LineText) (es : List RegionEdge) → Each (PhisKnown (l ∷ ls)) es → Each (PhisKnown ls) es
phis-tail l ls [] h = tt
phis-tail l ls (e ∷ es) h = (h.0.1, phis-tail l ls es h.1)

join-phis : (u : UnitText) (b : BlockText) (es : List RegionEdge) → Each (JoinEdge u b) es → Each (PhisKnown b.lines) es
join-phis u b [] h = tt
join-phis u b (e ∷ es) h = (h.0.phis, join-phis u b es h.1)

-- ---- the ids of a `phi`

blocks-from : (n : ℕ) (ops : List PhiEdge) → Each (λ (b : BlockId). b.0 < n) (map (λ (e : PhiEdge). e.block) ops) → AreFrom n ops
blocks-from n [] h = tt
blocks-from n (o ∷ ops) h = (h.0, blocks-from n ops h.1)

values-below : (n : ℕ) (ops : List PhiEdge) → ValuesBelow n (map (λ (e : PhiEdge). e.value) ops) → Each (λ (e : PhiEdge). e.value.0 < n) ops
values-below n [] h = tt
values-below n (o ∷ ops) h = (h.0, values-below n ops h.1)

merge-from : (n m : ℕ) (es : List MergeEdge) → Each (EdgeBelow n m) es → AreFrom m (as_phis es)
merge-from n m [] h = tt
merge-from n m (e ∷ es) h = (h.0.block, merge-from n m es h.1)

merge-below : (n m : ℕ) (es : List MergeEdge) → Each (EdgeBelow n m) es → Each (λ (e : PhiEdge). e.value.0 < n) (as_phis es)
merge-below n m [] h = tt
merge-below n m (e ∷ es) h = (h.0.value, merge-below n m es h.1)

merge-edges : (f : Naming) (es : List MergeEdge) → map (edge_text f) (as_phis es) ≡ map (merge_edge_text f) es
merge-edges f [] = refl
merge-edges f (e ∷ es) = let t = merge-edges f es in λ i. merge_edge_text f e ∷ t i

module _ (f : Naming) (n m : ℕ) (s : Story) (naming : s.naming ≡ f) (values : s.values ≡ n) (blocks : s.blocks ≡ m) (es : List RegionEdge) where
  phi-by : (v : ℕ) (ops : List PhiEdge) → v < n → AreFrom m ops → Each (λ (e : PhiEdge). e.value.0 < n) ops → (ty : _) → Each (λ (e : RegionEdge). PhiKnown e (phi_text ty (map (edge_text f) ops))) es
      → IsPhi s es v ty ops
  phi-by v ops l a b ty k = record {
    value = subst (λ (i : ℕ). v < i) (sym values) l;
    from = subst (λ (i : ℕ). AreFrom i ops) (sym blocks) a;
    values = subst (λ (i : ℕ). Each (λ (e : PhiEdge). e.value.0 < i) ops) (sym values) b;
    known = subst (λ (g : Naming). Each (λ (e : RegionEdge). PhiKnown e (phi_text ty (map (edge_text g) ops))) es) (sym naming) k;
  }

  line-fits : (r : Option ValueId) (i : Inst) → ValuesBelow n (maybe_id r) → ValuesBelow n (values_used i) → Each (λ (b : BlockId). b.0 < m) (blocks_named i)
      → Each (λ (e : RegionEdge). PhiKnown e (inst_text f i)) es → PhiFits s es r i
  line-fits None i a u d k = tt
  line-fits (Some v) (inst.Phi ty ops) a u d k = phi-by v.0 ops a.0 (blocks-from m ops d) (values-below n ops u) ty k
  line-fits (Some v) _ a u d k = tt

  lines-fit : (ls : List FlatInst) → Each (InstBelow n m) ls → Each (PhisKnown (map (flat_line_text f) ls)) es → Each (LineFits s es) ls
  lines-fit [] h k = tt
  lines-fit (l ∷ ls) h k = (
    line-fits l.result l.inst h.0.result h.0.used h.0.named (phis-head (flat_line_text f l) (map (flat_line_text f) ls) es k),
    lines-fit ls h.1 (phis-tail (flat_line_text f l) (map (flat_line_text f) ls) es k),
  )

  merge-fits : (o : Option Merge) (ls : List LineText) → MaybeBelow n m o → Each (PhisKnown (with_merge (option_map (merge_text f) o) ls)) es → MergeFits s es o
  merge-fits None ls h k = tt
  merge-fits (Some g) ls h k =
      phi-by g.value.0 (as_phis g.edges) h.value (merge-from n m g.edges h.edges) (merge-below n m g.edges h.edges) g.ty
      (subst (λ (ops : List _). Each (λ (e : RegionEdge). PhiKnown e (phi_text g.ty ops)) es) (sym (merge-edges f g.edges)) (phis-head (merge_line (merge_text f g)) ls es k))

  lines-part : (o : Option MergeText) (ls : List LineText) → Each (PhisKnown (with_merge o ls)) es → Each (PhisKnown ls) es
  lines-part None ls k = k
  lines-part (Some g) ls k = phis-tail (merge_line g) ls es k

  -- what is known after the lines and the merge is what the definition knows before the lines
  merged-known : (o : Option Merge) (ls : List FlatInst) (k : Knowledge)
      → merge_given s es o (phis_given s es ls k) ≡ with_phis es (with_merge (option_map (merge_text f) o) (map (flat_line_text f) ls)) k
  merged-known None ls k = ap (λ (g : Naming). with_phis es (map (flat_line_text g) ls) k) naming
  merged-known (Some a) ls k =
      ap (λ (g : Naming). with_phi es (phi_text a.ty (map (edge_text g) (as_phis a.edges))) (Some (g.value_name a.value.0)) (with_phis es (map (flat_line_text g) ls) k)) naming
      ∙ ap (λ (ops : List _). with_phi es (phi_text a.ty ops) (Some (f.value_name a.value.0)) (with_phis es (map (flat_line_text f) ls) k)) (merge-edges f a.edges)

-- ---- a walk of which only the places change

pub so-far-same : (ns : List TermNode) (f : Naming) (r : Region) (w q : Walk) (turns block : ℕ) (s : Story) (c : Course) → q.ahead ≡ w.ahead → q.insts ≡ w.insts → q.rows ≡ w.rows → q.sources ≡ w.sources
    → IsSoFar ns f r w turns block s c → IsSoFar ns f r q turns block s c
so-far-same ns f r w q turns block s c a n b d h =
    subst (λ (p : Walk). IsSoFar ns f r p turns block s c) (λ i. record { places = q.places; ahead = sym a i; insts = sym n i; rows = sym b i; sources = sym d i })
    (record {
      naming = h.naming;
      values = h.values;
      blocks = h.blocks;
      here_long = h.here_long;
      next_long = h.next_long;
      ahead = h.ahead;
      few = h.few;
      insts = h.insts;
      rows = h.rows;
      sources = h.sources;
    })

-- ---- what is known before the lines

merge-split : (o : Option MergeText) (ls : List LineText) → with_merge o ls ≡ merge_lines o ++ ls
merge-split None ls = refl
merge-split (Some m) ls = refl

merge-there : (u : UnitText) (b : BlockText) (o : Option MergeText) (ls : List LineText) (k : Knowledge) → KnowsThere u b [] k → PhisGiven k (with_merge o ls) → KnowsThere u b (merge_lines o) k
    × PhisGiven k ls
merge-there u b None ls k t p = (t, p)
merge-there u b (Some m) ls k t p = (there-past u b [] (merge_line m) k k t (λ n z. z) (λ n ty v w q. p.0 n q), p.1)

module _ (ns : List TermNode) (f : Naming) (name : UnitName) (r : Region) (w : Walk) (at : WalkPoint) (before : Story) (h : Here) (b : FlatBlock) (x : RegionEdge) (xs : List RegionEdge) (c : Course)
    (o : IsOpened ns f name r w at before h b x xs c) where
  abbrev text : FlatBlockText
  text = flat_block_text f at.block b

  abbrev unit : UnitText
  unit = process_by name f r.flat.now

  pub block-below : BlockBelow r.flat.now.values (length r.flat.now.blocks) b
  block-below = Each-get (BlockBelow r.flat.now.values (length r.flat.now.blocks)) r.flat.now.blocks at.block b o.region.below.blocks o.stands.block

  -- ---- a block that merges

  values-differ : ValuesDiffer before
  values-differ v u l m e =
      o.region.names.values v u (subst (λ (n : ℕ). v < n) o.midst.so_far.values l) (subst (λ (n : ℕ). u < n) o.midst.so_far.values m)
      (subst (λ (g : Naming). g.value_name v ≡ g.value_name u) o.midst.so_far.naming e)

  labels-differ : LabelsDiffer before.naming before.blocks
  labels-differ = subst (λ (g : Naming). LabelsDiffer g before.blocks) (sym o.midst.so_far.naming) (subst (LabelsDiffer f) (sym o.midst.so_far.blocks) o.region.names.labels)

  pub begins-merging : begins_with_phi b ≡ true → IsMerging ns w.places.items at.place before x xs (joined (x ∷ xs))
  begins-merging e = record {
    now = o.midst.now;
    continues = o.midst.continues;
    was = o.midst.was;
    is = o.midst.is;
    places = o.midst.places;
    tells = o.midst.tells;
    known = o.midst.known;
    values = values-differ;
    labels = labels-differ;
    edges = by o.edges;
  }
    where
      by : (begins_with_phi b ≡ false) ⊎ AreEdges ns before (edges_at w.places.items at.place) (x ∷ xs) → AreEdges ns before (edges_at w.places.items at.place) (x ∷ xs)
      by (inl g) = let q : true ≡ false = sym e ∙ g in absurd cc
      by (inr g) = g

  pub block-fits : Each (LineFits before (x ∷ xs)) b.insts × MergeFits before (x ∷ xs) b.merge
  block-fits =
      let so = o.midst.so_far in
      let k = join-phis unit (as_block text) (x ∷ xs) o.join in
      let l = block-below in (
        lines-fit f r.flat.now.values (length r.flat.now.blocks) before so.naming so.values so.blocks (x ∷ xs) b.insts l.insts
            (lines-part f r.flat.now.values (length r.flat.now.blocks) before so.naming so.values so.blocks (x ∷ xs) text.merge text.lines k),
        merge-fits f r.flat.now.values (length r.flat.now.blocks) before so.naming so.values so.blocks (x ∷ xs) b.merge text.lines l.merge k,
      )

  -- ---- before the lines

  block-good : Each (LineGood unit) (as_block text).lines
  block-good = good-lines unit (o.region.names.formed name) at.block (as_block text)
      (block-text (flat_blocks_text f 0 r.flat.now.blocks) at.block text (block-text-at f r.flat.now.blocks at.block b o.stands.block))

  knows-before : KnowsFor unit text (merge_lines text.merge) text.lines (known_at (x ∷ xs) (with_merge text.merge text.lines))
  knows-before =
      let k = known_at (x ∷ xs) (with_merge text.merge text.lines) in
      let t = merge-there unit (as_block text) text.merge text.lines k (known-there-at unit (as_block text) x xs o.join block-good) (phis-given-at unit (as_block text) x xs o.join block-good) in
      record {
        split = merge-split text.merge text.lines;
        typed = known-typed-at unit (as_block text) x xs o.join block-good;
        there = t.0;
        phis = t.1;
      }

  -- the place once its block was merged
  pub merged-between : (ms : List TermNode) (q : Walk) → Grows ns ms → q.ahead ≡ w.ahead → q.insts ≡ w.insts → q.rows ≡ w.rows → q.sources ≡ w.sources → (k : Knowledge)
      → k ≡ (midst_at f at b (x ∷ xs) c).known → IsMerging ms q.places.items at.place before x xs k
      → IsBetween ms f name r q at before h c.insts b (merge_lines text.merge) text.lines (midst_at f at b (x ∷ xs) c)
  merged-between ms q g a n d e k is m = record {
    region = o.region;
    stands = o.stands;
    midst = record {
      so_far = so-far-same ms f r w q at.turns (at.block + 1) before _ a n d e (so-far-grown ns ms f r w at.turns (at.block + 1) before _ g o.midst.so_far);
      now = m.now;
      continues = m.continues;
      was = m.was;
      is = m.is;
      places = m.places;
      tells = m.tells;
      known = subst (TellsKnown m.now at.place) is m.known;
      cond = stands_grown ns ms g at.cond h.cond o.midst.cond;
      condition = o.midst.condition;
    };
    knows = knows-before;
  }

  pub merged-is : merge_given before (x ∷ xs) b.merge (phis_given before (x ∷ xs) b.insts (joined (x ∷ xs))) ≡ (midst_at f at b (x ∷ xs) c).known
  merged-is = let so = o.midst.so_far in merged-known f r.flat.now.values (length r.flat.now.blocks) before so.naming so.values so.blocks (x ∷ xs) b.merge b.insts (joined (x ∷ xs))

  -- the block as it is read
  module _ (d : FlatBlock) (same : b ≡ d) (begins : begins_with_phi d ≡ true) (ls : List FlatInst) (are : ls ≡ d.insts) where
    merging : IsMerging ns w.places.items at.place before x xs (joined (x ∷ xs))
    merging = begins-merging (ap begins_with_phi same ∙ begins)

    fit-lines : Each (LineFits before (x ∷ xs)) ls
    fit-lines = subst (Each (LineFits before (x ∷ xs))) (ap (λ (y : FlatBlock). y.insts) same ∙ sym are) block-fits.0

    fit-merge : MergeFits before (x ∷ xs) d.merge
    fit-merge = subst (λ (y : FlatBlock). MergeFits before (x ∷ xs) y.merge) same block-fits.1

    pub lines-before : CanTakeLines ns w.places.items at.place ls
    lines-before = record { before = before; first = x; more = xs; knows = joined (x ∷ xs); merging = merging; fits = fit-lines }

    module _ (ms : List TermNode) (qs : List PlaceState) (t : TakesPhis ns w.places.items at.place ls ms qs) where
      pub merge-before : CanTakeMerge ms qs at.place d.merge
      merge-before = record {
        before = before;
        first = x;
        more = xs;
        knows = phis_given before (x ∷ xs) ls (joined (x ∷ xs));
        merging = t before x xs (joined (x ∷ xs)) merging fit-lines;
        fits = fit-merge;
      }

      pub merges-taken : (os : List TermNode) (q : Walk) → Grows ns os → q.ahead ≡ w.ahead → q.insts ≡ w.insts → q.rows ≡ w.rows → q.sources ≡ w.sources
          → TakesMerge ms qs at.place d.merge os q.places.items
          → IsBetween os f name r q at before h c.insts b (merge_lines text.merge) text.lines (midst_at f at b (x ∷ xs) c)
      merges-taken os q g a n u e p =
          merged-between os q g a n u e (merge_given before (x ∷ xs) d.merge (phis_given before (x ∷ xs) ls (joined (x ∷ xs))))
          ((λ i. merge_given before (x ∷ xs) (sym same i).merge (phis_given before (x ∷ xs) ((are ∙ ap (λ (y : FlatBlock). y.insts) (sym same)) i) (joined (x ∷ xs)))) ∙ merged-is)
          (p before x xs (phis_given before (x ∷ xs) ls (joined (x ∷ xs))) (t before x xs (joined (x ∷ xs)) merging fit-lines) fit-merge)

  -- ---- a block that merges nothing

  phi-same : (i : Inst) → is_phi (inst_text f i) ≡ heads.is_phi i
  phi-same (inst.Phi ty ops) = refl
  phi-same (inst.Ret None) = refl
  phi-same (inst.Ret (Some v)) = refl
  phi-same _ = refl

  skip-phi : (i : InstText) (res : Option (List ℕ)) (k : Knowledge) → is_phi i ≡ false → with_phi (x ∷ xs) i res k ≡ k
  skip-phi (phi_text ty ops) res k e = cc
  skip-phi _ res k e = refl

  -- the first line is no `phi`
  abbrev NoFirst : Type 0
  NoFirst = (l : LineText) (rest : List LineText) → (as_block text).lines ≡ l ∷ rest → is_phi l.inst ≡ false

  line-plain : NoFirst → (seen : List LineText) (l : LineText) (rest : List LineText) → (as_block text).lines ≡ seen ++ l ∷ rest → is_phi l.inst ≡ false
  line-plain first seen l rest e = let s = site-of f name r o.region at h b o.stands seen l rest e in by l.inst refl s.number s.entry s.phi
    where
      none : (ys : List LineText) → (as_block text).lines ≡ ys ++ l ∷ rest → is_phi l.inst ≡ true → Each (λ (y : LineText). is_phi y.inst ≡ true) ys → ⊥
      none [] g p q = let z : true ≡ false = sym p ∙ first l rest g in cc
      none (y ∷ ys) g p q = let z : true ≡ false = sym q.0 ∙ first y (ys ++ l ∷ rest) g in cc

      by : (i : InstText) → l.inst ≡ i → (k : ℕ) (d : Bool) → PhiFormed unit (record { number = k; in_entry = d; block = as_block text; before = seen; line = l; after = rest }) i → is_phi i ≡ false
      by (phi_text ty ops) q k d p = absurd (none seen e (ap is_phi q) p.first)
      by _ q k d p = refl

  no-phis : NoFirst → (seen ls : List LineText) (k : Knowledge) → (as_block text).lines ≡ seen ++ ls → with_phis (x ∷ xs) ls k ≡ k
  no-phis first seen [] k e = refl
  no-phis first seen (l ∷ ls) k e =
      skip-phi l.inst l.result (with_phis (x ∷ xs) ls k) (line-plain first seen l ls e)
      ∙ no-phis first (seen ++ l ∷ []) ls k (e ∙ sym (append_assoc seen (l ∷ []) ls))

  first-plain : (m : Option Merge) (ls : List FlatInst) → (is_some m || starts_with_phi ls) ≡ false → (l : LineText) (rest : List LineText)
      → with_merge (option_map (merge_text f) m) (map (flat_line_text f) ls) ≡ l ∷ rest → is_phi l.inst ≡ false
  first-plain (Some m) ls n l rest e = cc
  first-plain None [] n l rest e = cc
  first-plain None (j ∷ ls) n l rest e = let q : flat_line_text f j ≡ l = cc in ap (λ (y : LineText). is_phi y.inst) (sym q) ∙ phi-same j.inst ∙ n

  -- nothing is merged where the block begins with no `phi`
  pub plain-between : begins_with_phi b ≡ false → IsBetween ns f name r w at before h c.insts b (merge_lines text.merge) text.lines (midst_at f at b (x ∷ xs) c)
  plain-between n =
      let is : joined (x ∷ xs) ≡ (midst_at f at b (x ∷ xs) c).known = sym (no-phis (first-plain b.merge b.insts n) [] (as_block text).lines (joined (x ∷ xs)) refl) in
      let m = o.midst in
      record {
        region = o.region;
        stands = o.stands;
        midst = record {
          so_far = m.so_far;
          now = m.now;
          continues = m.continues;
          was = m.was;
          is = m.is;
          places = m.places;
          tells = m.tells;
          known = subst (TellsKnown m.now at.place) is m.known;
          cond = m.cond;
          condition = m.condition;
        };
        knows = knows-before;
      }

-- ---- what is read

pub block-read : (bs : List FlatBlock) (i : ℕ) (b d : FlatBlock) → slice_get bs i ≡ Some b → d ≡ get_or bs i d → b ≡ d
block-read [] i b d e h = absurd (none-some b e)
block-read (c ∷ bs) zero b d e h = sym (same_Some c b e) ∙ sym h
block-read (c ∷ bs) (suc i) b d e h = block-read bs i b d e h
