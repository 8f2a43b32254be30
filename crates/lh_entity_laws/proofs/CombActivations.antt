-- A combinational process: from whichever `wait` it begins, an activation gives on all values what a pass of its entity gives.
use Rattle.std.proofs.Common.{◌≡◌, ℕ, ◌+◌, ◌≤◌, List, [], ◌∷◌, map, length, Bool, false, not, nat_eq, Option, Some, None, refl, ap, sym, ◌∙◌, subst, arith, le_refl, eqb-true}
use Rattle.std.specs.Prelude.{slice_get}
use Rattle.std.specs.List.{list_any}
use Rattle.std.specs.Option.{option_map_or}
use Rattle.std.proofs.lemmas.Bool.{false≢true}
use Rattle.lh_time.specs.declared.Instant.{Instant}
use Rattle.lh_types.specs.Wish.{no_wish}
use Rattle.lh_types.specs.declared.part.Range.{Range}
use Rattle.lh_types.proofs.Tests.{or_false_left}
use Rattle.lh_unit_names.specs.declared.name.UnitName.{UnitName}
use Rattle.lh_unit.specs.declared.inst.UnitKind.TheVariants as kind
use Rattle.lh_unit.specs.Contents.{UnitText}
use Rattle.lh_unit.specs.Held.{Env}
use Rattle.lh_unit.specs.Activation as machine
use Rattle.lh_unit.specs.Activation.{ProcessState, Activated, activate}
use Rattle.lh_unit.specs.Hierarchy.{Instance}
use Rattle.lh_unit.specs.Pass.{pass, probes}
use Rattle.lh_unit.specs.World.{Rules, bit_numbers, begun}
use Rattle.lh_trace_laws.proofs.BitSets.{SameSet}
use Rattle.lh_trace_laws.proofs.StandsFor.{fresh, waiting_at, EndsAt, sensed, CombFor}
use Rattle.lh_flat_laws.specs.Formed.{IsFormed}
use Rattle.lh_flat_laws.specs.Activates.{EndsAlike}
use Rattle.lh_flat.specs.Flat.{FlatBlockText, FlatText, flat_unit}
use Rattle.lh_term.specs.Tree.{now_of}
use Rattle.lh_term.specs.Mean.{Valuation}
use Rattle.lh_term.specs.declared.part.Part.{Part}
use Rattle.lh_region_def.specs.Rows as way
use Rattle.lh_region_def.specs.Rows.{Drive, RegionEnd, Rows}
use Rattle.lh_region_def.specs.Regions.{lines_at, head_of, known_first, waited_parts, Regions}
use Rattle.lh_region_def.specs.Typed.{Among}
use Rattle.lh_region_def.specs.Means.{range_in, reads, KnowledgeAgrees, with_rows}
use Rattle.lh_region_def.specs.Laws.{max_steps, EndsAs, WaitsForHead}
use Rattle.lh_region_def.proofs.PartReads.{reads-fit}
use Rattle.lh_region_def.proofs.Activations.{head-stays-known}
use Rattle.lh_region_def.proofs.Second.{now-typed}
use Rattle.lh_shape.specs.Reasons.{ends_halted, is_empty, in_some, is_timed, are_mixed, waits_for_head, parts_waited}
use Rattle.lh_entity_laws.specs.Stands.{IsEnough}
use Rattle.lh_entity_laws.proofs.Bits.{bits_of}
use Rattle.lh_entity_laws.proofs.Shaped.{CombRegions}
use Rattle.lh_entity_laws.proofs.EndTargets.{first-ends}
use Rattle.lh_entity_laws.proofs.WaitEnds.{AllWait, wait-all, head-is, free-ends}
use Rattle.lh_entity_laws.proofs.Route.{seen, Follows, Pads, label_at, stood, process-stood, waits-alike, Ends, first-acts, again-acts}
use Rattle.lh_entity_laws.proofs.OnceActivations.{one-region}

-- what holds of no region does not hold of the first
pub not-first : (test : Rows → Bool) (r : Regions) → in_some test r ≡ false → test r.first ≡ false
not-first test r e = or_false_left (test r.first) (option_map_or test r.second false) e

pub no-items : {X : Type 0} (xs : List X) → not (is_empty xs) ≡ false → xs ≡ []
no-items [] e = refl
no-items (x ∷ xs) e = absurd (false≢true (sym e))

pub same-set : (xs ys zs : List ℕ) → SameSet xs ys → SameSet ys zs → SameSet xs zs
same-set xs ys zs a b k = a k ∙ b k

pub steps-enough : (a b n : ℕ) → (a + a) + b ≤ n → a ≤ n
steps-enough a b n h = omega (arith, h)

module _ (functions : List UnitText) (bound : ℕ) (x y : UnitText) (i : Instance) (name : UnitName) (t : FlatText) (formed : IsFormed (flat_unit name t))
    (pads : Pads functions (flat_unit name t) i.args) (k : Follows functions x (flat_unit name t) i.args)
    (xk : x.kind ≡ kind.Proc) (yk : y.kind ≡ kind.Entity) (sigs : i.sigs ≡ []) (enough : IsEnough bound t) (waited : List Part) (ds : List Drive) (s : CombRegions t waited ds)
    (passes : (now : List Bool) (memory : Option (List Bool)) (at : Instant)
    → (pass y i.args [] now memory at).wish ≡ with_rows (reads i.args now) (reads i.args now) i.args at no_wish s.walk.course.rows.drives)
    (senses : SameSet (bits_of i.args waited) (bit_numbers (probes y i.args []))) where
  abbrev f : UnitText
  f = flat_unit name t

  abbrev r : Rules
  r = record { bound = bound; functions = functions }

  abbrev rows : Rows
  rows = s.walk.course.rows

  abbrev head : ℕ
  head = head_of t.blocks

  abbrev to : List ℕ
  to = label_at t.blocks head

  no-asserts : rows.asserts ≡ []
  no-asserts = ap (λ (z : Rows). z.asserts) s.walk.rows ∙ no-items s.regions.first.asserts (not-first (λ (z : Rows). not (is_empty z.asserts)) s.regions s.none.asserts)

  waits-all : (e : RegionEnd) → Among e rows.ends → AllWait i.args head rows.ends
  waits-all e a =
      wait-all i.args head rows.ends e a
      (free-ends t now_of rows.ends (ap (λ (z : Rows). list_any ends_halted z.ends) s.walk.rows ∙ not-first (λ (z : Rows). list_any ends_halted z.ends) s.regions s.none.halts)
      (ap (λ (z : Rows). list_any (λ (e : RegionEnd). is_timed e.way) z.ends) s.walk.rows ∙ s.none.timed) (first-ends t now_of s.walk.course s.walk.first))
      (ap (λ (z : Rows). are_mixed z.ends) s.walk.rows ∙ s.none.mixed)

  pass-wish : (now : List Bool) (memory : Option (List Bool)) (at : Instant) → with_rows (reads i.args now) (reads i.args now) i.args at no_wish rows.drives ≡ (pass y i.args i.sigs now memory at).wish
  pass-wish now memory at = sym (passes now memory at) ∙ ap (λ z. (pass y i.args z now memory at).wish) (sym sigs)

  -- the entity senses what the process waits on
  sensed-bits : SameSet (bits_of i.args (parts_waited rows.ends)) (sensed y i)
  sensed-bits =
      let is : sensed y i ≡ bit_numbers (probes y i.args []) = ap (λ z. bit_numbers (probes y i.args z)) sigs in
      let all : parts_waited rows.ends ≡ waited = ap (λ (z : Rows). parts_waited z.ends) s.walk.rows ∙ s.waits in
      subst (λ ps. SameSet (bits_of i.args ps) (sensed y i)) (sym all) (subst (SameSet (bits_of i.args waited)) (sym is) senses)

  -- the process waits in this block for the head, as its flat text does, and what is known at the head is held
  record Stays (block : List ℕ) (e : Env) : Type 0 where
    parts : List Range
    flat : ProcessState
    last : k.Last (waiting_at block to parts e) flat
    start : FlatBlockText
    is : slice_get t.blocks head ≡ Some start
    from : List ℕ
    on : List Range
    stand : flat.stand ≡ machine.waits from start.label on None
    known : (past now : Valuation) → KnowledgeAgrees f past now i.args (known_first t) flat.held

  ends-at : (p flat : ProcessState) → k.Last p flat → (now : List Bool) (at : Instant) (memory : Option (List Bool))
      → Ends functions name t i.args formed s.walk.plain pads (reads i.args now) (reads i.args now) now at rows bound flat
      → EndsAt Stays to (sensed y i) (pass y i.args i.sigs now memory at).wish (activate bound (seen functions now at) x p)
  ends-at p flat l now at memory z = by z.0 z.2 (k.acts p flat l now at bound bound (le_refl bound) z.0 z.1)
    where
      by : (done : Activated) → EndsAs f t (reads i.args now) (reads i.args now) i.args at no_wish [] rows done
          → (d : Activated) × (activate bound (seen functions now at) x p ≡ Some d) × EndsAlike functions x d done × k.Last d.state done.state
          → EndsAt Stays to (sensed y i) (pass y i.args i.sigs now memory at).wish (activate bound (seen functions now at) x p)
      by done e a =
          let all : AllWait i.args head rows.ends = waits-all e.end e.came.among in
          let w = all.each e.end e.came.among in
          let target : all.target ≡ head = eqb-true all.target head (head-is i.args head rows.ends e.end e.came.among all ∙ ap (λ (z : Rows). waits_for_head z.ends) s.walk.rows ∙ s.head) in
          let led : e.end.way ≡ way.waits head (nat_eq all.target head) w.parts false = w.is ∙ ap (λ n. way.waits n (nat_eq all.target head) w.parts false) target in
          let flat-stood = stood t.blocks i.args head (nat_eq all.target head) w.parts e.end.way e.end.from done.state.stand led e.stands in
          let process = process-stood functions x t.blocks i.args head w.parts e.end.from a.0.state done.state flat-stood a.2.state in
          let wish : a.0.wish ≡ (pass y i.args i.sigs now memory at).wish = sym a.2.wish ∙ e.wish ∙ pass-wish now memory at in
          let told : a.0.outcomes ≡ [] = sym a.2.outcomes ∙ e.outcomes no-asserts in
          record {
            block = process.block;
            held = a.0.state.held;
            parts = map (range_in i.args) w.parts;
            known = record {
              parts = map (range_in i.args) w.parts;
              flat = done.state;
              last = subst (λ q. k.Last q done.state) process.is a.3;
              start = flat-stood.block;
              is = flat-stood.at;
              from = e.end.from;
              on = map (range_in i.args) w.parts;
              stand = flat-stood.stand;
              known = λ past now'. head-stays-known name t formed s.walk.plain now_of now-typed s.walk.course s.walk.first e.end e.came.among (nat_eq all.target head) w.parts false led i.args
                  (reads i.args now) (reads i.args now) past now' done.state.held e.came.known;
            };
            same_parts = subst (λ ps. SameSet (bits_of i.args ps) (sensed y i)) (ap waited_parts led)
                (same-set (bits_of i.args (waited_parts e.end.way)) (bits_of i.args (parts_waited rows.ends)) (sensed y i) (all.same e.end e.came.among) sensed-bits);
            is = a.1 ∙ (λ j. Some (record { state = process.is j; wish = wish j; outcomes = told j }));
          }

  comb-first : (now : List Bool) (at : Instant) (memory : Option (List Bool))
      → EndsAt Stays to (sensed y i) (pass y i.args i.sigs now memory at).wish (activate bound (seen functions now at) x (fresh x i))
  comb-first now at memory =
      ends-at (begun x i.args) (begun f i.args) k.begins now at memory
      (first-acts functions name t i.args formed s.walk.plain pads now_of now-typed (reads i.args now) (reads i.args now) (reads-fit i.args now) (reads-fit i.args now) now (λ p. refl) s.walk.course
      s.walk.first at bound
      (one-region max_steps (length (lines_at t.blocks 0)) bound enough))

  comb-later : (now : List Bool) (at : Instant) (memory : Option (List Bool)) (block : List ℕ) (e : Env) (on : List Range) → Stays block e
      → EndsAt Stays to (sensed y i) (pass y i.args i.sigs now memory at).wish (activate bound (seen functions now at) x (waiting_at block to on e))
  comb-later now at memory block e on h =
      let w : WaitsForHead f t (reads i.args now) (reads i.args now) i.args h.flat = record
      { head = h.start; is = h.is; from = h.from; on = h.on; wake = None; stand = h.stand; known = h.known (reads i.args now) (reads i.args now) } in
      subst (EndsAt Stays to (sensed y i) (pass y i.args i.sigs now memory at).wish) (waits-alike bound (seen functions now at) x block to h.parts on None None e)
      (ends-at (waiting_at block to h.parts e) h.flat h.last now at memory
      (again-acts functions name t i.args formed s.walk.plain pads now_of now-typed (reads i.args now) (reads i.args now) (reads-fit i.args now) (reads-fit i.args now) now (λ p. refl) s.walk.course
      s.walk.first at bound
      (steps-enough max_steps (length (lines_at t.blocks 0)) bound enough) h.flat w))

  pub comb-for : CombFor r x y i
  comb-for = record { is_process = xk; is_entity = yk; to = to; holds = Stays; first = comb-first; later = comb-later }
