-- A process and its flat text stand alike from one activation to the next.
use Rattle.std.proofs.Common.{◌≡◌, ◌<◌, ◌≤◌, ℕ, List, [], ◌∷◌, length, map, replicate, Bool, false, Option, Some, IsSome, refl, ap, sym, ◌∙◌, subst, arith}
use Rattle.std.proofs.lemmas.List.{length-append, length-replicate}
use Rattle.lh_time.specs.declared.Instant.{Instant}
use Rattle.lh_types.specs.Types.{TypeTree, signal_type, pointer_type}
use Rattle.lh_types.specs.declared.part.Range.{Range}
use Rattle.lh_unit_names.specs.declared.name.UnitName.{UnitName}
use Rattle.lh_unit.specs.declared.inst.UnitKind.{UnitKind}
use Rattle.lh_unit.specs.declared.inst.UnitKind.TheVariants as kind
use Rattle.lh_unit.specs.Contents.{LineText, ArgText, UnitText, wait_text}
use Rattle.lh_unit.specs.Held.{Held, datum_held, cell_held, part_held, Env, nothing_held, with_args}
use Rattle.lh_unit.specs.Activation.{Stand, is_new, waits, halted, ProcessState, Control, Activated, control_from, start_point, run, activate, functions}
use Rattle.lh_unit.specs.World.{waited, wake_at, begun}
use Rattle.lh_unit.specs.Arena.{Arena, IsArena, contents, unit_count, kind_at, unit_text_at}
use Rattle.lh_unit.specs.Naming.{kind_text}
use Rattle.lh_unit.specs.WellFormed.{in_entity, IsWellFormed}
use Rattle.lh_verify_laws.proofs.There.{first-name}
use Rattle.lh_eval.specs.Fitting.{FitsHeld, Fits}
use Rattle.lh_eval_laws.specs.Ranges.{RangesFit, arg_types}
use Rattle.lh_eval_laws.proofs.FindingPass as passes
use Rattle.lh_eval_laws.proofs.FitLaws.{of-unit, unit-is-sound, process-begins}
use Rattle.lh_eval_laws.proofs.SoundLines.{items-printable}
use Rattle.lh_exec.specs.Standing.{scene_of}
use Rattle.lh_exec.specs.Sound.{UnitRight, PointFits, DoneFits, StandHolds}
use Rattle.lh_exec.proofs.Rights.{unit-right, functions-right}
use Rattle.lh_exec.proofs.Placed.{UnitSteady, FunctionsSteady, PlacesIn, places-of-items, unit-steady, functions-steady}
use Rattle.lh_exec.proofs.KeepsFit.{Placed, entered-fits, entry-fits}
use Rattle.lh_exec.proofs.Paths.{ControlHolds, entry-holds, line-in, edge-holds}
use Rattle.lh_exec.proofs.Steady.{PointHolds}
use Rattle.lh_exec.proofs.Reached.{reached, run-holds}
use Rattle.lh_exec.proofs.Begins.{process-blocks, activation-is}
use Rattle.lh_flat.specs.Flat.{FlatText, flat_unit}
use Rattle.lh_flat_laws.specs.Activates.{flat_stand, StandsAlike, EndsAlike}
use Rattle.lh_flat_laws.proofs.FlatActivations.{flat-is, activates_alike, begins_alike}
use Rattle.lh_flat_laws.proofs.TidyUnits.{functions_are_tidy, processes_are_tidy}
use Rattle.lh_flat_state_laws.specs.Padding.{padded, reach}
use Rattle.lh_flat_state_laws.specs.Lasting.{ServesAt, Lasting, LastingBegins, LastingActs, LastingWaits, StandsFrom, LastingStands}
use Rattle.lh_flat_state_laws.proofs.ZeroPadding.{padded_activations, widths_fit}
use Rattle.lh_flat_state_laws.proofs.FlatActivations.{goes-on, halted-none}
use Rattle.lh_flat_state_laws.proofs.ActivationEnds.{run-old, run-fits}

-- ---- what fits so many bits fits more

held-wider : (w x : ℕ) → w ≤ x → (h : Held) (t : TypeTree) → FitsHeld w h t → FitsHeld x h t
held-wider w x l (datum_held d) t f = f
held-wider w x l (cell_held d) (pointer_type t) f = f
held-wider w x l (part_held r) (signal_type t) f = (f.0, f.1, omega (arith, f.2, l))
held-wider w x l _ t f = absurd f

fits-wider : (u : UnitText) (w x : ℕ) → w ≤ x → (e : Env) → Fits u w e → Fits u x e
fits-wider u w x l e f n h t p q = held-wider w x l h t (f n h t p q)

ranges-wider : (w x : ℕ) → w ≤ x → (rs : List Range) (ts : List TypeTree) → RangesFit w rs ts → RangesFit x rs ts
ranges-wider w x l [] [] f = tt
ranges-wider w x l [] (t ∷ ts) f = absurd f
ranges-wider w x l (r ∷ rs) [] f = absurd f
ranges-wider w x l (r ∷ rs) (t ∷ ts) f = (f.0, omega (arith, f.1, l), ranges-wider w x l rs ts f.2)

-- ---- where an activation begins

module _ (a : Arena) (u : ℕ) (o : IsArena a) (h : u < unit_count a) (process : kind_at a u ≡ Some kind.Proc) (g : IsWellFormed (contents a)) where
  is-kind : (unit_text_at a u).kind ≡ kind.Proc
  is-kind = ap kind_text process

  defined : IsSome (kind_at a u)
  defined = subst (λ (k : Option UnitKind). IsSome k) (sym process) refl

  steady : UnitSteady (unit_text_at a u)
  steady = unit-steady (unit_text_at a u) (ap in_entity is-kind) (unit-is-sound a u o h g defined).printable (of-unit a u o h g defined PlacesIn (places-of-items (contents a) g.1))

  functions-hold : FunctionsSteady (contents a)
  functions-hold = functions-steady (contents a) (places-of-items (contents a) g.1) (items-printable (contents a) g.0)

  right : UnitRight (contents a) (unit_text_at a u)
  right = unit-right a o g u h (process-blocks a u process)

  -- an activation begins at a place where each value that is there is held, and fits
  abbrev Starts : (width : ℕ) → Env → Stand → Type 0
  Starts w e s = (c : Control) × (control_from (unit_text_at a u) e s ≡ Some c) × PointHolds (start_point c) × PointFits (contents a) w (unit_text_at a u) (start_point c)

  start-holds : (c : Control) → c.unit ≡ unit_text_at a u → ControlHolds c → PointHolds (start_point c)
  start-holds c e k = record { control = k; callers = ap (λ (v : UnitText). v.kind) e ∙ is-kind }

  start-fits : (w : ℕ) (c : Control) → Placed (contents a) w (unit_text_at a u) c → PointFits (contents a) w (unit_text_at a u) (start_point c)
  start-fits w c k = record { control = k.0; callers = tt; began = k.1; wish = tt }

  starts : (w : ℕ) (args : List Range) → RangesFit w args (arg_types (unit_text_at a u).args) → (e : Env) → Fits (unit_text_at a u) w e → (s : Stand) → ServesAt (unit_text_at a u) args e s
      → (s ≡ halted → ⊥) → Starts w e s
  starts w args r e f is_new k no_halt =
      let v = unit_text_at a u in
      let z = entry-holds v (contents a) steady right e (λ n d. subst (λ (x : Env). IsSome (x n)) (sym k) (passes.args-held w nothing_held v.args args r n d)) in
      (z.0, z.1, start-holds z.0 z.2 z.3, start-fits w z.0 (entry-fits (contents a) w v e z.0 right f z.1))
  starts w args r e f (waits from to on wake) k no_halt =
      let v = unit_text_at a u in
      let x = k.0 in
      let l : LineText = record { result = x.name; inst = wait_text to x.delay x.signals } in
      let label = (line-in (contents a) v right from x.text x.stands x.before l x.after x.split).labels.0 in
      let z = edge-holds (contents a) w v steady right e f from x.text x.stands x.before l x.after x.split refl k.1 to label.0 label.1 (first-name to []) in
      (z.0, z.1, start-holds z.0 z.2 z.3, start-fits w z.0 (entered-fits (contents a) w v e from to z.0 right f z.1))
  starts w args r e f halted k no_halt = absurd (no_halt refl)

-- ---- from one activation to the next

-- what a process that waits or has halted holds serves there
serves-again : (u : UnitText) (args : List Range) (e : Env) (s : Stand) → (s ≡ is_new → ⊥) → StandHolds u e s → ServesAt u args e s
serves-again u args e is_new n k = absurd (n refl)
serves-again u args e (waits block to on wake) n k = k
serves-again u args e halted n k = tt

module _ (a : Arena) (u : ℕ) (name : UnitName) (text : FlatText) (args : List Range) (process flat : ProcessState) (now : List Bool) (t : Instant) (bound limit : ℕ) (done : Activated)
    (k : Lasting a u text args process flat) (m : bound ≤ limit) where
  abbrev enough : List Bool
  enough = padded now k.going.width

  -- the ends of both, and that they last
  abbrev Goal : Type 0
  Goal = (d : Activated) × (activate limit (scene_of a now t) (unit_text_at a u) process ≡ Some d) × EndsAlike (functions (contents a)) (unit_text_at a u) d done
      × Lasting a u text args d.state done.state

  is-enough : k.going.width ≤ length enough
  is-enough = omega (arith, length-append now (replicate k.going.width false), length-replicate k.going.width false)

  ranges : RangesFit (length enough) args (arg_types (unit_text_at a u).args)
  ranges = ranges-wider k.going.width (length enough) is-enough args (arg_types (unit_text_at a u).args) k.going.ranges

  fits : Fits (unit_text_at a u) (length enough) process.held
  fits = fits-wider (unit_text_at a u) k.going.width (length enough) is-enough process.held k.going.fits

  lasts : Starts a u k.arena k.within k.is_process k.formed (length enough) process.held process.stand → (d : Activated) → activate limit (scene_of a enough t) (unit_text_at a u) process ≡ Some d
      → EndsAlike (functions (contents a)) (unit_text_at a u) d done → Lasting a u text args d.state done.state
  lasts z d e b =
      let fs = functions-right a k.arena k.formed in
      let ran : run limit (scene_of a enough t) (start_point z.0) ≡ Some d = activation-is limit (scene_of a enough t) (unit_text_at a u) process z.0 z.1 ∙ e in
      let holds : StandHolds (unit_text_at a u) d.state.held d.state.stand =
      run-holds (contents a) enough t fs (functions-hold a u k.arena k.within k.is_process k.formed) (unit_text_at a u) limit (start_point z.0) z.3 z.2 d ran in
      let fit : DoneFits (length enough) t (unit_text_at a u) d = run-fits (contents a) enough t fs (unit_text_at a u) limit (start_point z.0) z.3 d ran in
      record {
        arena = k.arena;
        formed = k.formed;
        within = k.within;
        is_process = k.is_process;
        flattens = k.flattens;
        alike = b.state;
        going = record {
          serves = serves-again (unit_text_at a u) args d.state.held d.state.stand (run-old limit (scene_of a enough t) (start_point z.0) d ran) holds;
          width = length enough;
          ranges = ranges;
          fits = fit.held;
        };
      }

  acts : activate bound (scene_of a enough t) (flat_unit name text) flat ≡ Some done → (process.stand ≡ halted → ⊥) → Goal
  acts r no_halt =
      let z = starts a u k.arena k.within k.is_process k.formed (length enough) args ranges process.held fits process.stand k.going.serves no_halt in
      let fs = functions-right a k.arena k.formed in
      let hold = functions-hold a u k.arena k.within k.is_process k.formed in
      let e = activates_alike (scene_of a enough t) (unit_text_at a u) name text process flat bound limit done k.flattens (processes_are_tidy a u k.arena k.formed k.within k.is_process)
      (functions_are_tidy (contents a) k.formed) k.alike m
      record {
        control = z.0;
        begins = z.1;
        goes_on = goes-on limit (scene_of a enough t) (length enough) (start_point z.0) (λ points q x. reached (contents a) enough t fs hold (unit_text_at a u) points (start_point z.0) q z.3 z.2 x);
      }
      r in
      (e.0, padded_activations limit (scene_of a now t) k.going.width (unit_text_at a u) process ∙ e.1, e.2, lasts z e.0 e.1 e.2)

  goal : activate bound (scene_of a enough t) (flat_unit name text) flat ≡ Some done → Goal
  goal r = by process.stand refl
    where
      by : (s : Stand) → process.stand ≡ s → Goal
      by halted q = absurd (halted-none bound (scene_of a enough t) (flat_unit name text) flat done (k.alike.stand ∙ ap (flat_stand (functions (contents a)) (unit_text_at a u)) q) r)
      by is_new q = acts r (λ h. absurd cc)
      by (waits block to on wake) q = acts r (λ h. absurd cc)

pub lasting_acts : LastingActs
lasting_acts a u name text args process flat now t bound limit done k m r =
    goal a u name text args process flat now t bound limit done k m (sym (padded_activations bound (scene_of a now t) k.going.width (flat_unit name text) flat) ∙ r)

pub lasting_begins : LastingBegins
lasting_begins a u name text args o g h process e w =
    let v = unit_text_at a u in
    let fs = functions (contents a) in
    let same : v.args ≡ text.args = ap (λ (x : FlatText). x.args) (flat-is fs v text e).same in
    record {
      arena = o;
      formed = g;
      within = h;
      is_process = process;
      flattens = e;
      alike = subst (λ (xs : List ArgText). StandsAlike fs v (begun v args) (record { stand = is_new; held = with_args nothing_held xs (map part_held args) })) same
          (begins_alike fs v args (processes_are_tidy a u o g h process));
      going = record { serves = refl; width = reach args; ranges = widths_fit args v.args w; fits = process-begins a u o h g process args (reach args) (widths_fit args v.args w) };
    }

-- what both wait for, by where the process stands
waits-alike : (fs : List UnitText) (u : UnitText) (s : Stand) → (waited s ≡ waited (flat_stand fs u s)) × (wake_at s ≡ wake_at (flat_stand fs u s))
waits-alike fs u is_new = (refl, refl)
waits-alike fs u (waits block to on wake) = (refl, refl)
waits-alike fs u halted = (refl, refl)

pub lasting_waits : LastingWaits
lasting_waits a u text args process flat k =
    let z = waits-alike (functions (contents a)) (unit_text_at a u) process.stand in
    (z.0 ∙ ap waited (sym k.alike.stand), z.1 ∙ ap wake_at (sym k.alike.stand))

stands-from : (fs : List UnitText) (u : UnitText) (s : Stand) → StandsFrom s (flat_stand fs u s)
stands-from fs u is_new = refl
stands-from fs u (waits block to on wake) = (block, refl)
stands-from fs u halted = refl

pub lasting_stands : LastingStands
lasting_stands a u text args process flat k = subst (StandsFrom process.stand) (sym k.alike.stand) (stands-from (functions (contents a)) (unit_text_at a u) process.stand)
