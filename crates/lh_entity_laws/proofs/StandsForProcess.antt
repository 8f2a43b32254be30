-- Any entity that does what the rows of a shape say may stand for the process.
use Rattle.std.proofs.Common.{◌≡◌, ℕ, ◌<◌, ◌≤◌, List, [], ◌∷◌, map, length, Bool, Some, refl, ap, sym, ◌∙◌, subst}
use Rattle.lh_time.specs.declared.Instant.{Instant}
use Rattle.lh_types.specs.Types.{bit_count}
use Rattle.lh_types.specs.Wish.{Wish, no_wish}
use Rattle.lh_types.specs.declared.part.Range.{Range}
use Rattle.lh_unit_names.specs.declared.name.UnitName.{UnitName}
use Rattle.lh_unit.specs.declared.inst.UnitKind.TheVariants as kind
use Rattle.lh_unit.specs.Activation.{Scene, ProcessState, Activated, activate, functions}
use Rattle.lh_unit.specs.Arena.{Arena, IsArena, contents, unit_count, kind_at, unit_text_at}
use Rattle.lh_unit.specs.Contents.{ArgText, UnitText}
use Rattle.lh_unit.specs.Hierarchy.{Instance, SignalText, hierarchy_by, hierarchy_of}
use Rattle.lh_unit.specs.Naming.{kind_text}
use Rattle.lh_unit.specs.WellFormed.{IsWellFormed}
use Rattle.lh_unit.specs.Within.{Each}
use Rattle.lh_unit.specs.World.{Rules, rules_of, begun}
use Rattle.lh_trace_laws.specs.Replacing.{HasWidths, MayStand}
use Rattle.lh_trace_laws.proofs.Simulation.{SimulationRelation, same_answers}
use Rattle.lh_trace_laws.proofs.CombLaw.{comb_simulation}
use Rattle.lh_trace_laws.proofs.EdgeLaw.{edge_simulation}
use Rattle.lh_trace_laws.proofs.OnceLaw.{once_simulation}
use Rattle.lh_eval_laws.specs.Ranges.{RangesFit, arg_types}
use Rattle.lh_flat_laws.specs.Formed.{IsFormed}
use Rattle.lh_flat_laws.specs.Activates.{EndsAlike}
use Rattle.lh_flat_laws.proofs.FlatActivations.{flat-is}
use Rattle.lh_flat_state_laws.specs.Formed.{FlatTextsAreFormed}
use Rattle.lh_flat.specs.Flat.{FlatText, flattened, flat_of, flat_unit}
use Rattle.lh_term.specs.Tree.{now_of}
use Rattle.lh_term.specs.Mean.{Valuation, IsFitting}
use Rattle.lh_term.specs.declared.part.Part.{Part}
use Rattle.lh_term.specs.Laws.{SwapsKeepMeaning}
use Rattle.lh_edge.specs.Triggers.{EdgeRowTree}
use Rattle.lh_region_def.specs.Rows.{Drive, Rows}
use Rattle.lh_region_def.specs.Means.{range_in, reads, with_rows}
use Rattle.lh_region_def.specs.Right.{DriveTyped}
use Rattle.lh_region_def.proofs.PartReads.{reads-fit}
use Rattle.lh_region_def.proofs.Activations.{rows-are-typed}
use Rattle.lh_region_def.proofs.Second.{now-typed}
use Rattle.lh_shape.specs.Merging.{merged_drives}
use Rattle.lh_shape.specs.Shapes.{comb, edge, once, shape_of_text}
use Rattle.lh_emit_def.specs.Emitted.{Source}
use Rattle.lh_emit_def.specs.Ways.{RowIsGiven}
use Rattle.lh_region_laws.specs.Before.{RegionsAreAlike, SecondRowsAreTyped}
use Rattle.lh_entity_laws.specs.Given.{source_in, EdgeIsGiven}
use Rattle.lh_entity_laws.specs.Stands.{IsFlattened, IsEnough}
use Rattle.lh_entity_laws.specs.AnyEntity.{IsEntityLike, AreWide, DoesComb, DoesOnce, DoesEdge, OnceStandsFor, CombStandsFor, EdgeStandsFor}
use Rattle.lh_entity_laws.proofs.PartBits.{with_zeros, ZerosAreMissing, ZerosReadAlike}
use Rattle.lh_entity_laws.proofs.Shaped.{comb-regions, edge-regions}
use Rattle.lh_entity_laws.proofs.Route.{seen, Follows, Pads}
use Rattle.lh_entity_laws.proofs.OnceActivations.{once-for}
use Rattle.lh_entity_laws.proofs.CombActivations.{comb-for}
use Rattle.lh_entity_laws.proofs.Edges.{edge-drives, edge-for}

-- ---- what may stand

-- an entity that is one with a process to elaboration may stand for it, where it simulates it in each instance
like-stands : (r : Rules) (x y : UnitText) → x.kind ≡ kind.Proc → IsEntityLike x y → ((i : Instance) → HasWidths (hierarchy_of x) i → SimulationRelation r x y i) → MayStand r x y
like-stands r x y p like sim = record {
  name = like.name;
  hierarchy = like.hierarchy;
  no_function = ap (λ k. (hierarchy_by k x).function) p;
  alike = λ i w frames. same_answers r x y i (sim i w) frames;
}

-- ---- what an instance has

no-ranges : (rs : List Range) → map (λ (r : Range). r.len) rs ≡ [] → rs ≡ []
no-ranges [] e = refl
no-ranges (r ∷ rs) e = cc

no-signals : (x : UnitText) (i : Instance) → x.kind ≡ kind.Proc → HasWidths (hierarchy_of x) i → i.sigs ≡ []
no-signals x i k w = no-ranges i.sigs (w.sigs ∙ ap (λ j. map (λ (s : SignalText). bit_count s.ty) (hierarchy_by j x).signals) k)

-- the arguments have the widths of their types
abbrev pub HaveWidths : List Range → List ArgText → Type 0
HaveWidths args xs = map (λ (r : Range). r.len) args ≡ map (λ (x : ArgText). bit_count x.ty) xs

arg-widths : (x : UnitText) (i : Instance) → x.kind ≡ kind.Proc → HasWidths (hierarchy_of x) i → HaveWidths i.args x.args
arg-widths x i k w = w.args ∙ ap (λ j. map (λ (a : ArgText). bit_count a.ty) (hierarchy_by j x).args) k

-- merged drives wish what the drives wish
abbrev pub MergedWish : Type 0
MergedWish = (past now : Valuation) → IsFitting past → IsFitting now → (args : List Range) (at : Instant) (w : Wish) (ds : List Drive) → Each DriveTyped ds
    → with_rows past now args at w (merged_drives ds) ≡ with_rows past now args at w ds

-- each activation is the same with more zeros
abbrev pub ZerosActAlike : Type 0
ZerosActAlike = (bound : ℕ) (s : Scene) (n : ℕ) (u : UnitText) (p : ProcessState) → activate bound s u p ≡ activate bound (record s { now = with_zeros s.now n }) u p

-- with some zeros more the arguments lie within the signals
abbrev pub ZerosReach : Type 0
ZerosReach = (args : List Range) (xs : List ArgText) (now : List Bool) → HaveWidths args xs → (n : ℕ) × RangesFit (length (with_zeros now n)) args (arg_types xs)

-- a relation of a process and its flat text between two activations
abbrev pub Between : Type 1
Between = (a : Arena) (u : ℕ) (text : FlatText) (args : List Range) (process flat : ProcessState) → Type 0

abbrev pub BetweenBegins : Between → Type 0
BetweenBegins L = (a : Arena) (u : ℕ) (name : UnitName) (text : FlatText) (args : List Range) → IsArena a → IsWellFormed (contents a) → u < unit_count a → kind_at a u ≡ Some kind.Proc
    → flat_of (contents a) (unit_text_at a u) ≡ flattened text →
    HaveWidths args (unit_text_at a u).args → L a u text args (begun (unit_text_at a u) args) (begun (flat_unit name text) args)

abbrev pub BetweenActs : Between → Type 0
BetweenActs L = (a : Arena) (u : ℕ) (name : UnitName) (text : FlatText) (args : List Range) (process flat : ProcessState) (now : List Bool) (t : Instant) (bound limit : ℕ) (done : Activated) →
    L a u text args process flat → bound ≤ limit → activate bound (seen (functions (contents a)) now t) (flat_unit name text) flat ≡ Some done →
    (d : Activated) × (activate limit (seen (functions (contents a)) now t) (unit_text_at a u) process ≡ Some d) × EndsAlike (functions (contents a)) (unit_text_at a u) d done
    × L a u text args d.state done.state

-- ---- a process and its flat text

module _ (L : Between) (begins : BetweenBegins L) (acts : BetweenActs L) (zeros : ZerosAreMissing) (zero-reads : ZerosReadAlike) (zero-acts : ZerosActAlike) (reach : ZerosReach)
    (flat-formed : FlatTextsAreFormed) (a : Arena) (u : ℕ) (t : FlatText) (fl : IsFlattened a u t) where
  abbrev x : UnitText
  x = unit_text_at a u

  abbrev f : UnitText
  f = flat_unit x.name t

  is-process : x.kind ≡ kind.Proc
  is-process = ap kind_text fl.process

  same-args : t.args ≡ x.args
  same-args = ap (λ (z : FlatText). z.args) (sym (flat-is (functions (contents a)) x t fl.flat).same)

  formed : IsFormed f
  formed = flat-formed a u x.name t fl.arena fl.formed fl.named fl.within fl.process fl.flat

  follows : (i : Instance) → HasWidths (hierarchy_of x) i → Follows (functions (contents a)) x f i.args
  follows i w = record {
    Last = L a u t i.args;
    begins = begins a u x.name t i.args fl.arena fl.formed fl.within fl.process fl.flat (arg-widths x i is-process w);
    acts = λ process flat l now at bound limit h done e. acts a u x.name t i.args process flat now at bound limit done l h e;
  }

  pads-by : (i : Instance) → HaveWidths i.args t.args → Pads (functions (contents a)) f i.args
  pads-by i w = record {
    pad = λ now. with_zeros now (reach i.args t.args now w).0;
    ranges = λ now. (reach i.args t.args now w).1;
    reading = λ now p. sym (zero-reads p.ty now (range_in i.args p) (reach i.args t.args now w).0);
    acting = λ bound now at p. sym (zero-acts bound (seen (functions (contents a)) now at) (reach i.args t.args now w).0 f p);
  }

  pads : (i : Instance) → HasWidths (hierarchy_of x) i → Pads (functions (contents a)) f i.args
  pads i w = pads-by i (subst (HaveWidths i.args) (sym same-args) (arg-widths x i is-process w))

  -- ---- a process that drives once

  pub once-stands-for : (y : UnitText) (bound : ℕ) (ds : List Drive) → shape_of_text t ≡ once ds → IsEntityLike x y → ((args : List Range) → AreWide args x → DoesOnce ds y args) → IsEnough bound t
      → MayStand (rules_of bound (contents a)) x y
  once-stands-for y bound ds shape like does enough =
      like-stands (rules_of bound (contents a)) x y is-process like (λ i w.
      let d = does i.args (arg-widths x i is-process w) in
      once_simulation (rules_of bound (contents a)) x y i
      (once-for (functions (contents a)) bound x y i x.name t formed (pads i w) (follows i w) is-process like.entity (no-signals x i is-process w) enough ds shape d.wish d.senses))

  -- ---- a combinational process

  pub comb-stands-for : MergedWish → (y : UnitText) (bound : ℕ) (waited : List Part) (ds : List Drive) → shape_of_text t ≡ comb waited ds → IsEntityLike x y
      → ((args : List Range) → AreWide args x → DoesComb waited ds y args) → IsEnough bound t → MayStand (rules_of bound (contents a)) x y
  comb-stands-for merged y bound waited ds shape like does enough =
      let s = comb-regions t waited ds shape in
      let typed = (rows-are-typed x.name t formed s.walk.plain now_of now-typed s.walk.course s.walk.first).0 in
      let same : (now : List Bool) (args : List Range) (at : Instant)
      → with_rows (reads args now) (reads args now) args at no_wish ds ≡ with_rows (reads args now) (reads args now) args at no_wish s.walk.course.rows.drives =
      λ now args at. ap (with_rows (reads args now) (reads args now) args at no_wish) (sym s.drives ∙ ap (λ (z : Rows). merged_drives z.drives) (sym s.walk.rows))
      ∙ merged (reads args now) (reads args now) (reads-fit args now) (reads-fit args now) args at no_wish s.walk.course.rows.drives typed in
      like-stands (rules_of bound (contents a)) x y is-process like (λ i w.
      let d = does i.args (arg-widths x i is-process w) in
      comb_simulation (rules_of bound (contents a)) x y i
      (comb-for (functions (contents a)) bound x y i x.name t formed (pads i w) (follows i w) is-process like.entity (no-signals x i is-process w) enough waited ds s
      (λ now memory at. d.wish now memory at ∙ same now i.args at) d.senses))

  -- ---- a process that reacts to edges

  pub edge-stands-for : EdgeIsGiven → RegionsAreAlike → SecondRowsAreTyped → SwapsKeepMeaning → (y : UnitText) (bound : ℕ) (rs : List EdgeRowTree) → shape_of_text t ≡ edge rs → IsEntityLike x y
      → ((args : List Range) → AreWide args x → DoesEdge rs y args) → IsEnough bound t → MayStand (rules_of bound (contents a)) x y
  edge-stands-for given alike second-typed swaps y bound rs shape like does enough =
      let source : Source = source_in x.name t in
      let g : Each (RowIsGiven source) rs = given x.name t formed rs shape in
      let s = edge-regions t rs shape in
      let p = alike t s.walk.course s.walk.first in
      like-stands (rules_of bound (contents a)) x y is-process like (λ i w.
      edge_simulation (rules_of bound (contents a)) x y i
      (edge-for (functions (contents a)) bound x y i x.name t formed (pads i w) (follows i w) is-process like.entity (no-signals x i is-process w) enough rs s p.0 p.1 p.2
      swaps source zeros zero-reads
      (edge-drives (functions (contents a)) bound x y i x.name t formed (pads i w) (follows i w) is-process like.entity (no-signals x i is-process w) enough rs s p.0 p.1 p.2 second-typed
      source g)
      (does i.args (arg-widths x i is-process w))))

-- ---- each shape

module _ (L : Between) (begins : BetweenBegins L) (acts : BetweenActs L) (zeros : ZerosAreMissing) (zero-reads : ZerosReadAlike) (zero-acts : ZerosActAlike) (reach : ZerosReach)
    (flat-formed : FlatTextsAreFormed) where
  pub each-once : OnceStandsFor
  each-once a u t y bound ds fl shape like does enough = once-stands-for L begins acts zeros zero-reads zero-acts reach flat-formed a u t fl y bound ds shape like does enough

  pub each-comb : MergedWish → CombStandsFor
  each-comb merged a u t y bound waited ds fl shape like does enough =
      comb-stands-for L begins acts zeros zero-reads zero-acts reach flat-formed a u t fl merged y bound waited ds shape like does enough

  pub each-edge : EdgeIsGiven → RegionsAreAlike → SecondRowsAreTyped → SwapsKeepMeaning → EdgeStandsFor
  each-edge given alike second-typed swaps a u t y bound rs fl shape like does enough =
      edge-stands-for L begins acts zeros zero-reads zero-acts reach flat-formed a u t fl given alike second-typed swaps y bound rs shape like does enough
