-- A process that drives once: its one activation gives what the one pass of its entity gives.
use Rattle.std.proofs.Common.{◌≡◌, inl, inr, ℕ, ◌+◌, ◌≤◌, List, [], ◌∷◌, length, Bool, true, ◌&&◌, Some, None, refl, ap, sym, ◌∙◌, arith, le_refl}
use Rattle.std.specs.List.{list_all}
use Rattle.std.proofs.lemmas.Bool.{false≢true}
use Rattle.std.specs.Cmp.{first_so, second_so}
use Rattle.lh_time.specs.declared.Instant.{Instant}
use Rattle.lh_types.specs.Wish.{no_wish}
use Rattle.lh_types.specs.declared.part.Range.{Range}
use Rattle.lh_unit_names.specs.declared.name.UnitName.{UnitName}
use Rattle.lh_unit.specs.declared.inst.UnitKind.TheVariants as kind
use Rattle.lh_unit.specs.Contents.{UnitText}
use Rattle.lh_unit.specs.Activation.{Stand, halted, Activated, activate}
use Rattle.lh_unit.specs.Hierarchy.{Instance}
use Rattle.lh_unit.specs.Pass.{pass, probes}
use Rattle.lh_unit.specs.World.{Rules, bit_numbers, begun}
use Rattle.lh_trace_laws.proofs.StandsFor.{fresh, Halts, OnceFor}
use Rattle.lh_flat_laws.specs.Formed.{IsFormed}
use Rattle.lh_flat_laws.specs.Activates.{EndsAlike}
use Rattle.lh_flat.specs.Flat.{FlatBlockText, FlatText, flat_unit}
use Rattle.lh_term.specs.Tree.{now_of}
use Rattle.lh_region_def.specs.Rows.{Drive, Way, halts, enters_head, waits, Rows}
use Rattle.lh_region_def.specs.Regions.{lines_at}
use Rattle.lh_region_def.specs.Typed.{Among}
use Rattle.lh_region_def.specs.Means.{reads, with_rows}
use Rattle.lh_region_def.specs.Ending.{StandsAs}
use Rattle.lh_region_def.specs.Laws.{max_steps, EndsAs}
use Rattle.lh_region_def.proofs.PartReads.{reads-fit}
use Rattle.lh_region_def.proofs.Second.{now-typed}
use Rattle.lh_shape.specs.Reasons.{is_halt, ends_halted, is_empty}
use Rattle.lh_shape.specs.Shapes.{once, shape_of_text}
use Rattle.lh_entity_laws.specs.Stands.{IsEnough}
use Rattle.lh_entity_laws.proofs.Shaped.{OnceRegions, once-regions}
use Rattle.lh_entity_laws.proofs.Route.{seen, Follows, Pads, process-halts, first-acts}
use Rattle.lh_entity_laws.proofs.GivenShapes.{empty-is}

pub all-of : {X : Type 0} (p : X → Bool) (xs : List X) (x : X) → list_all p xs ≡ true → Among x xs → p x ≡ true
all-of p [] x h a = absurd a
all-of p (y ∷ ys) x h (inl e) = ap p (sym e) ∙ first_so (p y) (list_all p ys) h
all-of p (y ∷ ys) x h (inr a) = all-of p ys x (second_so (p y) (list_all p ys) h) a

pub one-region : (a b n : ℕ) → (a + a) + b ≤ n → a + b ≤ n
one-region a b n h = omega (arith, h)

-- where a region ended at `halt`
halts-there : (blocks : List FlatBlockText) (args : List Range) (w : Way) (from : List ℕ) (s : Stand) → is_halt w ≡ true → StandsAs blocks args w from s → s ≡ halted
halts-there blocks args halts from s h z = z
halts-there blocks args enters_head from s h z = absurd (false≢true h)
halts-there blocks args (waits to to_head parts timed) from s h z = absurd (false≢true h)

module _ (functions : List UnitText) (bound : ℕ) (x y : UnitText) (i : Instance) (name : UnitName) (t : FlatText) (formed : IsFormed (flat_unit name t))
    (pads : Pads functions (flat_unit name t) i.args) (k : Follows functions x (flat_unit name t) i.args)
    (xk : x.kind ≡ kind.Proc) (yk : y.kind ≡ kind.Entity) (sigs : i.sigs ≡ []) (enough : IsEnough bound t) (ds : List Drive) (shape : shape_of_text t ≡ once ds)
    (passes : (now : List Bool) (at : Instant) → (pass y i.args [] now None at).wish ≡ with_rows (reads i.args now) (reads i.args now) i.args at no_wish ds)
    (senses : probes y i.args [] ≡ []) where
  abbrev f : UnitText
  f = flat_unit name t

  abbrev r : Rules
  r = record { bound = bound; functions = functions }

  shaped : OnceRegions t ds
  shaped = once-regions t ds shape

  abbrev rows : Rows
  rows = shaped.walk.course.rows

  rows-drives : rows.drives ≡ ds
  rows-drives = ap (λ (z : Rows). z.drives) shaped.walk.rows ∙ shaped.drives

  all-halt : list_all ends_halted rows.ends ≡ true
  all-halt =
      let q = shaped.regions.first in
      ap (λ (z : Rows). list_all ends_halted z.ends) shaped.walk.rows ∙ first_so (list_all ends_halted q.ends) (is_empty q.probes && is_empty q.asserts) shaped.is

  no-asserts : rows.asserts ≡ []
  no-asserts =
      let q = shaped.regions.first in
      ap (λ (z : Rows). z.asserts) shaped.walk.rows
      ∙ empty-is q.asserts (second_so (is_empty q.probes) (is_empty q.asserts) (second_so (list_all ends_halted q.ends) (is_empty q.probes && is_empty q.asserts) shaped.is))

  pass-wish : (now : List Bool) (at : Instant) → with_rows (reads i.args now) (reads i.args now) i.args at no_wish rows.drives ≡ (pass y i.args i.sigs now None at).wish
  pass-wish now at =
      ap (with_rows (reads i.args now) (reads i.args now) i.args at no_wish) rows-drives ∙ sym (passes now at) ∙ ap (λ z. (pass y i.args z now None at).wish) (sym sigs)

  once-halts : (now : List Bool) (at : Instant) → Halts (pass y i.args i.sigs now None at).wish (activate bound (seen functions now at) x (fresh x i))
  once-halts now at =
      let z = first-acts functions name t i.args formed shaped.walk.plain pads now_of now-typed (reads i.args now) (reads i.args now) (reads-fit i.args now) (reads-fit i.args now) now (λ p. refl)
      shaped.walk.course shaped.walk.first at bound
      (one-region max_steps (length (lines_at t.blocks 0)) bound enough) in
      by z.0 z.2 (k.acts (begun x i.args) (begun f i.args) k.begins now at bound bound (le_refl bound) z.0 z.1)
    where
      by : (done : Activated) → EndsAs f t (reads i.args now) (reads i.args now) i.args at no_wish [] rows done
          → (d : Activated) × (activate bound (seen functions now at) x (begun x i.args) ≡ Some d) × EndsAlike functions x d done × k.Last d.state done.state
          → Halts (pass y i.args i.sigs now None at).wish (activate bound (seen functions now at) x (fresh x i))
      by done e a =
          let way : is_halt e.end.way ≡ true = all-of ends_halted rows.ends e.end all-halt e.came.among in
          let flat : done.state.stand ≡ halted = halts-there t.blocks i.args e.end.way e.end.from done.state.stand way e.stands in
          let stand : a.0.state.stand ≡ halted = process-halts functions x a.0.state.stand (sym flat ∙ a.2.state.stand) in
          let wish : a.0.wish ≡ (pass y i.args i.sigs now None at).wish = sym a.2.wish ∙ e.wish ∙ pass-wish now at in
          let told : a.0.outcomes ≡ [] = sym a.2.outcomes ∙ e.outcomes no-asserts in
          record { held = a.0.state.held; is = a.1 ∙ (λ j. Some (record { state = record { stand = stand j; held = a.0.state.held }; wish = wish j; outcomes = told j })) }

  pub once-for : OnceFor r x y i
  once-for = record {
    is_process = xk;
    is_entity = yk;
    probes_nothing = ap (λ z. bit_numbers (probes y i.args z)) sigs ∙ ap bit_numbers senses;
    once = once-halts;
  }
