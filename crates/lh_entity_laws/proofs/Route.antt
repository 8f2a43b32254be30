-- What is known of a process and its flat text, and the law of rows where bits of the signals may be missing.
use Rattle.std.proofs.Common.{◌≡◌, ◌⊎◌, ℕ, ◌+◌, ◌≤◌, List, [], map, length, Bool, false, Option, Some, None, refl, ap, sym, ◌∙◌, subst}
use Rattle.std.specs.Prelude.{slice_get}
use Rattle.std.specs.Option.{option_map_or}
use Rattle.lh_time.specs.declared.Instant.{Instant}
use Rattle.lh_types.specs.Types.{IsData}
use Rattle.lh_types.specs.Wish.{no_wish}
use Rattle.lh_types.specs.declared.part.Range.{Range}
use Rattle.lh_unit_names.specs.declared.name.UnitName.{UnitName}
use Rattle.lh_unit.specs.Contents.{UnitText}
use Rattle.lh_unit.specs.Held.{Env}
use Rattle.lh_unit.specs.Within.{Each}
use Rattle.lh_unit.specs.Activation as machine
use Rattle.lh_unit.specs.Activation.{Scene, Stand, is_new, halted, ProcessState, Activated, activate}
use Rattle.lh_eval_laws.specs.Ranges.{RangesFit, arg_types}
use Rattle.lh_trace_laws.proofs.StandsFor.{waiting_at}
use Rattle.lh_flat_laws.specs.Formed.{IsFormed}
use Rattle.lh_flat_laws.specs.Activates.{flat_stand, StandsAlike, EndsAlike}
use Rattle.lh_unit.specs.World.{begun}
use Rattle.lh_flat.specs.Copies.{top_copy, last_piece_of}
use Rattle.lh_flat.specs.Flat.{FlatBlockText, FlatText, flat_unit}
use Rattle.lh_term.specs.Tree.{Tree, past_of}
use Rattle.lh_term.specs.Mean.{Valuation, IsFitting, mean}
use Rattle.lh_term.specs.declared.part.Part.{Part}
use Rattle.lh_region_def.specs.Rows as rows
use Rattle.lh_region_def.specs.Rows.{Way, RegionEnd, Rows}
use Rattle.lh_region_def.specs.Regions.{begins_with_phi, lines_at, head_of, Course, comes_to, first_region, second_region, waits_for}
use Rattle.lh_region_def.specs.Typed.{IsOfType}
use Rattle.lh_region_def.specs.Means.{range_in, reads}
use Rattle.lh_region_def.specs.Ending.{StandsAs}
use Rattle.lh_region_def.specs.Laws.{IsInstance, Probes, EndsAs, max_steps, WaitsForHead, WaitsAfter, ThenFirst}
use Rattle.lh_region_def.proofs.Activations.{first-activation, again-from-head}
use Rattle.lh_region_def.proofs.Second.{second-region}

-- what an activation sees
abbrev pub seen : List UnitText → List Bool → Instant → Scene
seen functions now t = record { functions = functions; now = now; at = t }

-- a process and its flat text stand alike from the first activation on
pub record Follows (functions : List UnitText) (x f : UnitText) (args : List Range) : Type 1 where
  pub Last : (process flat : ProcessState) → Type 0
  pub begins : Last (begun x args) (begun f args)
  pub acts : (process flat : ProcessState) → Last process flat → (now : List Bool) (t : Instant) (bound limit : ℕ) → bound ≤ limit → (done : Activated)
      → activate bound (seen functions now t) f flat ≡ Some done →
      (d : Activated) × (activate limit (seen functions now t) x process ≡ Some d) × EndsAlike functions x d done × Last d.state done.state

-- more bits with which the arguments lie within the signals, and nothing is done otherwise
pub record Pads (functions : List UnitText) (f : UnitText) (args : List Range) : Type 0 where
  pub pad : List Bool → List Bool
  pub ranges : (now : List Bool) → RangesFit (length (pad now)) args (arg_types f.args)
  pub reading : (now : List Bool) (p : Part) → reads args (pad now) p ≡ reads args now p
  pub acting : (bound : ℕ) (now : List Bool) (t : Instant) (p : ProcessState) → activate bound (seen functions (pad now) t) f p ≡ activate bound (seen functions now t) f p

-- ---- stands

waits-not-new : {A : Type 0} (from to : List ℕ) (on : List Range) (wake : Option Instant) → machine.waits from to on wake ≡ is_new → A
waits-not-new from to on wake e = cc

waits-not-halted : {A : Type 0} (from to : List ℕ) (on : List Range) (wake : Option Instant) → machine.waits from to on wake ≡ halted → A
waits-not-halted from to on wake e = cc

waits-same : (from to from' to' : List ℕ) (on on' : List Range) (wake wake' : Option Instant) → machine.waits from to on wake ≡ machine.waits from' to' on' wake' → (to ≡ to') × (on ≡ on')
    × (wake ≡ wake')
waits-same from to from' to' on on' wake wake' e = (cc, cc, cc)

-- a process waits where its flat text does
pub process-waits : (functions : List UnitText) (u : UnitText) (s : Stand) (from to : List ℕ) (on : List Range) (wake : Option Instant) → machine.waits from to on wake ≡ flat_stand functions u s
    → (block : List ℕ) × (s ≡ machine.waits block to on wake)
process-waits functions u is_new from to on wake e = waits-not-new from to on wake e
process-waits functions u halted from to on wake e = waits-not-halted from to on wake e
process-waits functions u (machine.waits block to' on' wake') from to on wake e =
    let z = waits-same from to (last_piece_of functions (top_copy u) block) to' on on' wake wake' e in
    (block, λ i. machine.waits block (sym z.0 i) (sym z.1 i) (sym z.2 i))

halted-not-new : {A : Type 0} → halted ≡ is_new → A
halted-not-new e = cc

-- and is halted where that is
pub process-halts : (functions : List UnitText) (u : UnitText) (s : Stand) → halted ≡ flat_stand functions u s → s ≡ halted
process-halts functions u is_new e = halted-not-new e
process-halts functions u halted e = refl
process-halts functions u (machine.waits block to on wake) e = waits-not-halted (last_piece_of functions (top_copy u) block) to on wake (sym e)

-- the label of the block of a number
abbrev pub label_at : List FlatBlockText → ℕ → List ℕ
label_at blocks n = option_map_or (λ (b : FlatBlockText). b.label) (slice_get blocks n) []

-- a flat text that came to a `wait` for a block, without time
pub record Stood (blocks : List FlatBlockText) (args : List Range) (target : ℕ) (parts : List Part) (from : List ℕ) (st : Stand) : Type 0 where
  pub block : FlatBlockText
  pub at : slice_get blocks target ≡ Some block
  pub stand : st ≡ machine.waits from block.label (map (range_in args) parts) None

pub stood : (blocks : List FlatBlockText) (args : List Range) (target : ℕ) (h : Bool) (parts : List Part) (w : Way) (from : List ℕ) (st : Stand) → w ≡ rows.waits target h parts false
    → StandsAs blocks args w from st → Stood blocks args target parts from st
stood blocks args target h parts w from st e s = at (subst (λ v. StandsAs blocks args v from st) e s)
  where
    at : StandsAs blocks args (rows.waits target h parts false) from st → Stood blocks args target parts from st
    at z = record { block = z.0; at = z.1; stand = z.3 ∙ ap (machine.waits from z.0.label (map (range_in args) parts)) (z.4 refl) }

-- the process waits there too
pub record ProcessStood (to : List ℕ) (on : List Range) (p : ProcessState) : Type 0 where
  pub block : List ℕ
  pub is : p ≡ waiting_at block to on p.held

pub process-stood : (functions : List UnitText) (u : UnitText) (blocks : List FlatBlockText) (args : List Range) (target : ℕ) (parts : List Part) (from : List ℕ) (process flat : ProcessState) →
    Stood blocks args target parts from flat.stand → StandsAlike functions u process flat → ProcessStood (label_at blocks target) (map (range_in args) parts) process
process-stood functions u blocks args target parts from process flat s a =
    let z = process-waits functions u process.stand from s.block.label (map (range_in args) parts) None (sym s.stand ∙ a.stand) in
    let label : s.block.label ≡ label_at blocks target = sym (ap (λ o. option_map_or (λ (b : FlatBlockText). b.label) o []) s.at) in
    let stand : process.stand ≡ machine.waits z.0 (label_at blocks target) (map (range_in args) parts) None = z.1 ∙ ap (λ n. machine.waits z.0 n (map (range_in args) parts) None) label in
    record { block = z.0; is = λ j. record { stand = stand j; held = process.held } }

-- an activation does not ask for which parts and until when the process waits
pub waits-alike : (bound : ℕ) (s : Scene) (u : UnitText) (block to : List ℕ) (on on' : List Range) (wake wake' : Option Instant) (e : Env) →
    activate bound s u (record { stand = machine.waits block to on wake; held = e }) ≡ activate bound s u (record { stand = machine.waits block to on' wake'; held = e })
unfolding activate
waits-alike bound s u block to on on' wake wake' e = refl

-- ---- the law of rows

-- where the values before, and those now, are these
abbrev pub Means : (probe : Part → Tree) (past now : Valuation) (args : List Range) (bits : List Bool) → Type 0
Means probe past now args bits = (p : Part) → mean past now (probe p) ≡ reads args bits p

module _ (functions : List UnitText) (name : UnitName) (t : FlatText) (args : List Range) (formed : IsFormed (flat_unit name t))
    (plain : begins_with_phi (lines_at t.blocks (head_of t.blocks)) ≡ false) (pads : Pads functions (flat_unit name t) args) where
  abbrev f : UnitText
  f = flat_unit name t

  instance-of : (now : List Bool) → IsInstance name t args (pads.pad now)
  instance-of now = record { formed = formed; plain = plain; ranges = pads.ranges now }

  probes-of : (probe : Part → Tree) (typed : (p : Part) → IsData p.ty → IsOfType p.ty (probe p)) (past now : Valuation) → IsFitting past → IsFitting now → (bits : List Bool)
      → Means probe past now args bits → Probes probe past now args (pads.pad bits)
  probes-of probe typed past now p n bits m = record { past_fits = p; now_fits = n; typed = typed; means = λ q. m q ∙ sym (pads.reading bits q) }

  -- an activation that ends as these rows say
  abbrev pub Ends : (past now : Valuation) → List Bool → Instant → Rows → (bound : ℕ) → ProcessState → Type 0
  Ends past now bits at rows bound p = (done : Activated) × (activate bound (seen functions bits at) f p ≡ Some done) × EndsAs f t past now args at no_wish [] rows done

  module _ (probe : Part → Tree) (typed : (p : Part) → IsData p.ty → IsOfType p.ty (probe p)) (past now : Valuation) (p : IsFitting past) (n : IsFitting now) (bits : List Bool)
      (m : Means probe past now args bits) (c : Course) (e : first_region t probe ≡ comes_to c) (at : Instant) (bound : ℕ) where
    pub first-acts : max_steps + length (lines_at t.blocks 0) ≤ bound → Ends past now bits at c.rows bound (begun f args)
    first-acts h =
        let z = first-activation name t args (seen functions (pads.pad bits) at) (instance-of bits) probe past now (probes-of probe typed past now p n bits m) c e bound h in
        (z.0, sym (pads.acting bound bits at (begun f args)) ∙ z.1, z.2)

    pub again-acts : max_steps ≤ bound → (s : ProcessState) → WaitsForHead f t past now args s → Ends past now bits at c.rows bound s
    again-acts h s w =
        let z = again-from-head name t args (seen functions (pads.pad bits) at) (instance-of bits) probe past now (probes-of probe typed past now p n bits m) c e s w bound h in
        (z.0, sym (pads.acting bound bits at s) ∙ z.1, z.2)

  -- the second region, and then the first one again
  abbrev pub SecondEnds : (past now : Valuation) (second : Rows) (past' now' : Valuation) (first : Rows) → List Bool → Instant → (bound : ℕ) → ProcessState → Type 0
  SecondEnds past now second past' now' first bits at bound s = (done : Activated) × (activate bound (seen functions bits at) f s ≡ Some done) ×
      (EndsAs f t past now args at no_wish [] second done ⊎ ThenFirst f t past now second past' now' first args at done)

  module _ (past : Valuation) (fits : IsFitting past) (c : Course) (e : first_region t past_of ≡ comes_to c) (target : ℕ) (ways : Each (λ (x : RegionEnd). waits_for x.way ≡ Some target) c.rows.ends)
      (second : Course) (e2 : second_region t target ≡ comes_to second) (bits : List Bool) (at : Instant) (bound : ℕ) (h : max_steps + max_steps ≤ bound) where
    padded-reads : reads args (pads.pad bits) ≡ reads args bits
    padded-reads = λ i q. pads.reading bits q i

    pub second-acts : (s : ProcessState) → WaitsAfter f t past (reads args bits) args c.rows s
        → (probe : Part → Tree) (typed : (p : Part) → IsData p.ty → IsOfType p.ty (probe p)) (past' now' : Valuation) → IsFitting past' → IsFitting now' → Means probe past' now' args bits →
        (first : Course) → first_region t probe ≡ comes_to first → SecondEnds past (reads args bits) second.rows past' now' first.rows bits at bound s
    second-acts s w probe typed past' now' p n m first e3 =
        let w' = subst (λ (v : Valuation). WaitsAfter f t past v args c.rows s) (sym padded-reads) w in
        let z = second-region name t args (seen functions (pads.pad bits) at) (instance-of bits) past fits c e target ways second e2 s w' probe past' now' (probes-of probe typed past' now' p n bits m)
        first e3 bound h in
        let ends = subst (λ (v : Valuation). EndsAs f t past v args at no_wish [] second.rows z.0 ⊎ ThenFirst f t past v second.rows past' now' first.rows args at z.0) padded-reads z.2 in
        (z.0, sym (pads.acting bound bits at s) ∙ z.1, ends)

-- ---- probes
