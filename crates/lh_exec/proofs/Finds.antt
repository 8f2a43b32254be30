-- Each instruction of an activation finds what it looks for.
use Rattle.std.proofs.Common.{◌≡◌, ◌⊎◌, inl, inr, ℕ, List, [], ◌∷◌, length, map, Bool, true, false, Option, Some, None, IsSome, refl, ap, sym, ◌∙◌, subst}
use Rattle.std.specs.List.{list_any}
use Rattle.std.specs.Option.{option_and_then, option_map}
use Rattle.std.proofs.lemmas.List.{length-map}
use Rattle.std.proofs.lemmas.Option.{same_Some, none-some}
use Rattle.lh_time.specs.declared.Instant.{Instant}
use Rattle.lh_types.specs.Types.{TypeTree}
use Rattle.lh_types.specs.Values.{Datum}
use Rattle.lh_unit_names.specs.declared.name.UnitName.{UnitName}
use Rattle.lh_unit.specs.Contents.{OperandText, InstText, const_text, pure_text, var_text, ld_text, st_text, sig_text, prb_text, drv_text, reg_text, child_text, call_text, phi_text, br_text, branch_text, wait_text, halt_text, ret_text, LineText, UnitText, ItemText}
use Rattle.lh_unit_names.specs.Names.{same_name}
use Rattle.lh_unit.specs.Named.{function_named}
use Rattle.lh_unit_names.specs.UnitNames.{is_assert}
use Rattle.lh_unit.specs.Held.{datum_held, Env, nothing_held, with_args, datum_at, cell_at, data_at, parts_at, test_at}
use Rattle.lh_unit.specs.Kinds.{used, uses, all_used, maybe_used, data_or_time_needed, time_needed, signal_needed}
use Rattle.lh_unit.specs.WellFormed.{in_function, values_named, assert_args}
use Rattle.lh_unit.specs.Places.{is_terminator, leads_to}
use Rattle.lh_unit.specs.Activation.{Scene, waits, Control, Caller, Point, entered, asserted, called, given_back, chosen, waiting, wake_at, functions}
use Rattle.lh_unit.specs.Within.{Each}
use Rattle.lh_verify_laws.specs.Calls.{ArgumentsAre, FunctionIsRight, AssertIsRight}
use Rattle.lh_verify_laws.specs.KindsOf.{HasTypeOfKind}
use Rattle.lh_verify_laws.specs.Operands.{ReturnIs}
use Rattle.lh_verify_laws.proofs.EachItem.{each-split}
use Rattle.lh_eval_laws.proofs.OperandsFound.{some-of, is-some, value-at, test-at}
use Rattle.lh_eval_laws.proofs.FindingPass.{AllHeld, finds-one}
use Rattle.lh_verify_laws.specs.Defined.{IsThere}
use Rattle.lh_verify_laws.proofs.AtPlaces.{place-at}
use Rattle.lh_verify_laws.proofs.There.{first-name, second-name}
use Rattle.lh_eval_laws.specs.Finding as sound
use Rattle.lh_eval_laws.proofs.FindingPass.{held-split}
use Rattle.lh_exec.specs.Sound.{LineRight, IsLabel, CallersFit, FunctionsRight, PointFits}
use Rattle.lh_exec.specs.Steady.{FindsOperands}
use Rattle.lh_exec.proofs.KeepsFit.{function-is}
use Rattle.lh_exec.proofs.Placed.{PlaceRight, FunctionsSteady}
use Rattle.lh_exec.proofs.Paths.{args-held, ControlHolds, entry-holds}
use Rattle.lh_exec.proofs.Steady.{PointHolds, cell-there, data-used, parts-used, wake-used, as-many, value-is, entity-apart, no-callers, some-caller, here-place, here-right, here-held, leads}

module _ (items : List ItemText) (now : List Bool) (t : Instant) (fs : FunctionsRight items) (ss : FunctionsSteady items) (u : UnitText) where
  abbrev pub scene : Scene
  scene = record { functions = functions items; now = now; at = t }

  abbrev line : Option (List ℕ) → InstText → LineText
  line r i = record { result = r; inst = i }

  -- what a call of a function begins
  pub calls : (v : UnitText) (e : Env) (name : UnitName) (ty : TypeTree) (os : List OperandText) (ds : List Datum) → data_at e os ≡ Some ds → length ds ≡ length os
      → (r : FunctionIsRight items v name ty os)
      → (c : Control) × (called (function_named name (functions items)) (data_at e os) ≡ Some c) × (c.unit ≡ r.of) × ControlHolds c
  calls v e name ty os ds q n r =
      let g : UnitText = r.of in
      let named : function_named name (functions items) ≡ Some g = function-is name items g r.named r.function in
      let many : length (map datum_held ds) ≡ length g.args = length-map ds datum_held ∙ n ∙ as-many v os g.args r.args_are in
      let z = entry-holds g items (ss name g named) (fs name g named).0 (with_args nothing_held g.args (map datum_held ds)) (args-held nothing_held g.args (map datum_held ds) many) in
      (z.0, ap (λ o. called o (data_at e os)) named ∙ ap (called (Some g)) q ∙ z.1, z.2, z.3)

  module _ (p : Point) (f : PointFits items (length now) u p) (k : PointHolds p) where
    abbrev here : Env
    here = p.control.held

    assertion : (os : List OperandText) → ArgumentsAre p.control.unit os assert_args → Each (λ (o : OperandText). IsSome (here o.value)) os → IsSome (asserted here os)
    assertion [] a h = absurd a
    assertion (o ∷ []) a h = test-at p.control.unit (length now) here f.control.fits o.value a.0 h.0
    assertion (o ∷ x ∷ os) a h = absurd a.1

    of-operands : (os : List OperandText) → AllHeld here (all_used data_or_time_needed os) → Each (λ (o : OperandText). IsSome (here o.value)) os
    of-operands [] h = tt
    of-operands (o ∷ os) h = (h.0, of-operands os h.1)

    back : (o : Option OperandText) (c : Caller) → ReturnIs p.control.unit p.control.unit.result o → IsSome p.control.unit.result → ((a : OperandText) → o ≡ Some a → IsSome (here a.value))
        → IsSome (given_back here o c)
    back None c row some h = refl
    back (Some a) c row some h = by p.control.unit.result row some
      where
        by : (x : Option TypeTree) → ReturnIs p.control.unit x (Some a) → IsSome x → IsSome (given_back here (Some a) c)
        by None q i = absurd cc
        by (Some ty) q i = let d = value-at p.control.unit (length now) here f.control.fits a.value ty q.1.1 q.0 (h a refl) in is-some (given_back here (Some a) c) _ (ap (option_map _) d.1)

    -- where an instruction stands, and what it names
    abbrev At : InstText → Type 0
    At i = (r : Option (List ℕ)) × (rest : List LineText) × (p.control.rest ≡ line r i ∷ rest)

    place : (i : InstText) (x : At i) → (j : ℕ) × (d : Bool) × PlaceRight p.control.unit (place-at j d k.control.text k.control.before (line x.0 i) x.1)
    place i x = here-place items now t fs ss u p f k (line x.0 i) x.1 x.2

    right : (i : InstText) (x : At i) → LineRight items p.control.unit (line x.0 i)
    right i x = here-right items now t fs ss u p f k (line x.0 i) x.1 x.2

    held : (i : InstText) (x : At i) → Each (IsThere p.control.unit k.control.text k.control.before) (values_named i) → AllHeld here (uses i)
    held i x h = here-held items now t fs ss u p f k (line x.0 i) x.1 x.2 (uses i) (place i x).2.defined h

    edge : (i : InstText) (x : At i) → is_terminator i ≡ true → (to : List ℕ) → IsLabel p.control.unit to → list_any (λ m. same_name m to) (leads_to i) ≡ true
        → IsSome (entered p.control.unit here p.control.block to)
    edge i x e to b n = let z = leads items now t fs ss u p f k (line x.0 i) x.1 x.2 e to b n in is-some (entered p.control.unit here p.control.block to) z.0 z.1

    one : (i : InstText) (x : At i) → Each (IsThere p.control.unit k.control.text k.control.before) (values_named i)
        → sound.FindsInPass p.control.unit now t (record { held = here; seen = []; wish = p.wish }) i
    one i x h = finds-one p.control.unit now None t (record { held = here; seen = []; wish = p.wish }) f.control.fits i (right i x).sound.row (right i x).sound.part (held i x h)

    branches : (cond first second : List ℕ) (x : At (branch_text cond first second)) → (b : Bool) → test_at here cond ≡ Some b
        → IsSome (option_and_then (entered p.control.unit here p.control.block) (chosen (test_at here cond) first second))
    branches cond first second x b q =
        subst (λ o. IsSome (option_and_then (entered p.control.unit here p.control.block) (chosen o first second))) (sym q) (at b)
      where
        labels : Each (IsLabel p.control.unit) (first ∷ second ∷ [])
        labels = (right (branch_text cond first second) x).labels

        at : (c : Bool) → IsSome (option_and_then (entered p.control.unit here p.control.block) (chosen (Some c) first second))
        at false = edge (branch_text cond first second) x refl first labels.0 (first-name first (second ∷ []))
        at true = edge (branch_text cond first second) x refl second labels.1.0 (second-name first second)

    waits-there : (to : List ℕ) (after : Option (List ℕ)) (on : List (List ℕ)) (x : At (wait_text to after on)) → AllHeld here (uses (wait_text to after on))
        → IsSome (waiting p.control.block to (parts_at here on) (wake_at t here after))
    waits-there to after on x h =
        let both = held-split here (maybe_used time_needed after) (map (used signal_needed) on) h in
        let q = right (wait_text to after on) x in
        let ks = each-split (HasTypeOfKind p.control.unit) (maybe_used time_needed after) (map (used signal_needed) on) q.kinds in
        let rs = parts-used p.control.unit (length now) here f.control.fits on ks.1 both.1 in
        let o = wake-used p.control.unit (length now) here f.control.fits t after q.sound.row both.0 in
        is-some (waiting p.control.block to (parts_at here on) (wake_at t here after)) (waits p.control.block to rs.0 o.0)
        (ap (λ z. waiting p.control.block to z (wake_at t here after)) rs.1 ∙ ap (waiting p.control.block to (Some rs.0)) o.1)

    gives-back : (o : Option OperandText) (x : At (ret_text o)) → ((a : OperandText) → o ≡ Some a → IsSome (here a.value)) → in_function p.control.unit.kind ≡ true → (c : Caller)
        × (more : List Caller) × (p.callers ≡ c ∷ more) × IsSome (given_back here o c)
    gives-back o x h i =
        let c = some-caller p.control.unit p.callers k.callers i in
        (c.0, c.1, c.2, back o c.0 (right (ret_text o) x).sound.row (subst (CallersFit items (length now) p.control.unit) c.2 f.callers).1.0 h)

    returned : (o : Option OperandText) → AllHeld here (uses (ret_text o)) → (a : OperandText) → o ≡ Some a → IsSome (here a.value)
    returned None h a q = absurd (none-some a q)
    returned (Some b) h a q = subst (λ (y : OperandText). IsSome (here y.value)) (same_Some b a q) h.0

    pub data-found : (g : UnitName) (ty : TypeTree) (os : List OperandText) (x : At (call_text g ty os)) → (ds : List Datum) × (data_at here os ≡ Some ds) × (length ds ≡ length os)
    data-found g ty os x =
        let i = call_text g ty os in
        data-used p.control.unit (length now) here f.control.fits os (right i x).kinds (held i x ((place i x).2.there k.control.steady.runs))

    pub finds : (i : InstText) → At i → FindsOperands scene p i
    finds (const_text d) x = tt
    finds (pure_text o os) x = one (pure_text o os) x ((place (pure_text o os) x).2.there k.control.steady.runs)
    finds (var_text a) x =
        let row = (right (var_text a) x).sound.row in
        let d = value-at p.control.unit (length now) here f.control.fits a.value row.0 row.2.1 row.1 (held (var_text a) x ((place (var_text a) x).2.there k.control.steady.runs)).0 in
        is-some (datum_at here a.value) d.0 d.1
    finds (ld_text a) x =
        let row = (right (ld_text a) x).sound.row in
        let d = cell-there p.control.unit (length now) here f.control.fits a.value row.0 row.1.1 (held (ld_text a) x ((place (ld_text a) x).2.there k.control.steady.runs)).0 in
        is-some (cell_at here a.value) d.0 d.1
    finds (st_text to value) x =
        let row = (right (st_text to value) x).sound.row in
        let h = held (st_text to value) x ((place (st_text to value) x).2.there k.control.steady.runs) in
        let c = cell-there p.control.unit (length now) here f.control.fits to.value row.0 row.1.1 h.0 in
        let d = value-at p.control.unit (length now) here f.control.fits value row.0 row.2 (value-is row.0 c.2) h.1.0 in
        (is-some (cell_at here to.value) c.0 c.1, is-some (datum_at here value) d.0 d.1)
    finds (prb_text a) x = one (prb_text a) x ((place (prb_text a) x).2.there k.control.steady.runs)
    finds (drv_text to value after cond) x = one (drv_text to value after cond) x ((place (drv_text to value after cond) x).2.there k.control.steady.runs)
    finds (call_text g ty os) x = by (right (call_text g ty os) x).named
      where
        h : AllHeld here (uses (call_text g ty os))
        h = held (call_text g ty os) x ((place (call_text g ty os) x).2.there k.control.steady.runs)

        by : ((is_assert g ≡ true) × AssertIsRight p.control.unit ty os) ⊎ ((is_assert g ≡ false) × FunctionIsRight items p.control.unit g ty os) → FindsOperands scene p (call_text g ty os)
        by (inl a) = inl (a.0, assertion os a.1.args_are (of-operands os h))
        by (inr a) =
            let ds = data-found g ty os x in
            let z = calls p.control.unit here g ty os ds.0 ds.1 ds.2 a.1 in
            inr (a.0, is-some (called (function_named g (functions items)) (data_at here os)) z.0 z.1)
    finds (phi_text ty es) x = tt
    finds (br_text to) x = edge (br_text to) x refl to (right (br_text to) x).labels.0 (first-name to [])
    finds (branch_text cond first second) x =
        let b = some-of (test_at here cond) (test-at p.control.unit (length now) here f.control.fits cond (right (branch_text cond first second) x).sound.row
        (held (branch_text cond first second) x ((place (branch_text cond first second) x).2.there k.control.steady.runs)).0) in
        branches cond first second x b.0 b.1
    finds (wait_text to after on) x = (
      no-callers p.control.unit p.callers k.callers (place (wait_text to after on) x).2.allowed,
      waits-there to after on x (held (wait_text to after on) x ((place (wait_text to after on) x).2.there k.control.steady.runs)),
    )
    finds halt_text x = no-callers p.control.unit p.callers k.callers (place halt_text x).2.allowed
    finds (ret_text o) x = gives-back o x (returned o (held (ret_text o) x ((place (ret_text o) x).2.there k.control.steady.runs))) (place (ret_text o) x).2.allowed
    finds (sig_text a) x = entity-apart p.control.unit.kind k.control.steady.runs (place (sig_text a) x).2.allowed
    finds (reg_text to gs) x = entity-apart p.control.unit.kind k.control.steady.runs (place (reg_text to gs) x).2.allowed
    finds (child_text v is os) x = entity-apart p.control.unit.kind k.control.steady.runs (place (child_text v is os) x).2.allowed
