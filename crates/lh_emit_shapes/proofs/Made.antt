-- The bodies of the three shapes: what was emitted is the entity of the definition, and fits the limits; or this is too large.
use Rattle.std.proofs.Common.{◌≡◌, ◌⊎◌, ℕ, ◌<◌, ◌≤◌, ◌^◌, Bool, true, false, nat_lt, List, [], ◌++◌, length, inl, inr, refl, ap, sym, ◌∙◌, subst, arith, append-nil}
use Rattle.std.specs.Prelude.{Result, Ok, Err}
use Rattle.std.specs.Result.{IsErrAnd}
use Rattle.std.specs.List.{list_all, flat_map}
use Rattle.lh_unit.specs.Contents.{ArgText, LineText, UnitText}
use Rattle.lh_unit.specs.Naming.{Naming}
use Rattle.lh_unit_names.specs.declared.name.UnitName.{UnitName}
use Rattle.lh_unit.specs.Reads.{args_repeat}
use Rattle.lh_unit.specs.Within.{Each}
use Rattle.lh_unit.specs.Hierarchy.{lines_of}
use Rattle.lh_text_laws.specs.Printable.{results_repeat}
use Rattle.lh_term.specs.Arena.{Grows}
use Rattle.lh_term.specs.declared.part.Part.{Part}
use Rattle.lh_term.specs.declared.term.TermNode.{TermNode}
use Rattle.lh_edge.specs.declared.triggers.EdgeRow.{EdgeRow}
use Rattle.lh_flat.specs.Reads.{flat_text}
use Rattle.lh_region_def.specs.Rows.{Drive}
use Rattle.lh_region.specs.declared.rows.DriveRow.{DriveRow}
use Rattle.lh_emit_def.specs.Emitted.{Source, Emitted, source_of, nothing_emitted}
use Rattle.lh_emit_def.specs.Entities.{Emission, too_large, emits, entity_with, max_lines, within_limits, comb, edge, once, emit_probes, drive_fits, row_fits, comb_emission, edge_emission, once_emission}
use Rattle.lh_emit_def.specs.Ways.{WaitIsGiven, DriveIsGiven, RowIsGiven}
use Rattle.lh_emit_def.specs.Laws.{HasApartArgs, CombIsRight, EdgeIsRight, OnceIsRight}
use Rattle.lh_emit_body.specs.Lines.{most_lines, arg_names, result_name}
use Rattle.lh_emit_source.specs.Origins.{source_by, IsOrigin}
use Rattle.lh_emit.specs.Emitting.{ArgumentsFirst, IsEmitted}
use Rattle.lh_emit_shapes.specs.Putting.{CanPutDrives, PutsDrives, PutsDrivesNot, CanPutProbes, PutsProbes, PutsProbesNot, CanPutRegisters, PutsRegisters, PutsRegistersNot}
use Rattle.lh_emit_shapes.specs.Bodies.{NamesDiffer, IsBody, BodyOrTooLarge, IsFlatOf, steps_of, DrivesGiven, DrivesCanBeEmitted, IsComb, IsOnceBody, CanRegister, IsRegisterBody}
use Rattle.lh_emit_body.specs.declared.body.Body.{Body}
use Rattle.lh_emit_source.specs.declared.origin.Origin.{Origin}
use Rattle.lh_emit.specs.declared.emitter.Emitter.{Emitter}
use Rattle.lh_emit_body.specs.declared.lines.EmitFault.{EmitFault}
use Rattle.lh_emit_body.specs.declared.lines.EmitFault.TheVariants as fault
use Rattle.lh_emit_shapes.proofs.Apart.{names-differ}
use Rattle.lh_emit_shapes.proofs.Driven.{as-long}
use Rattle.lh_emit_shapes.proofs.EntityGrowth.{drives-extends}
use Rattle.lh_emit_shapes.proofs.RowGrowth.{drives-grown}

-- ---- limits

not-over : (n : ℕ) → n ≤ 65536 → nat_lt max_lines n ≡ false
not-over n h = grind (arith, h)

over : (n : ℕ) → max_lines < n → nat_lt max_lines n ≡ true
over n h = grind (arith, h)

pub in-limits : (u : UnitText) (fits : Bool) (lines : List LineText) → fits ≡ true → length lines ≤ 65536 → within_limits u fits lines ≡ emits (entity_with u lines)
in-limits u fits lines f h = rw (f, not-over (length lines) h) refl

pub beyond-limits : (u : UnitText) (fits : Bool) (lines : List LineText) → (fits ≡ false) ⊎ (max_lines < length lines) → within_limits u fits lines ≡ too_large
beyond-limits u fits lines (inl f) = rw f refl
beyond-limits u true lines (inr h) = rw (over (length lines) h) refl
beyond-limits u false lines (inr h) = refl

-- ---- an entity that was emitted

module _ (u : UnitText) (f : Naming) (o : Origin) (flat : IsFlatOf u f o) where
  -- the source of the unit is that by its flat text
  source-is : source_by u.name f o.flat.now ≡ source_of u (steps_of u f o)
  source-is = λ i. record { args = sym flat.arguments i; steps = steps_of u f o }

  pub once-named : args_repeat [] (flat_text f o.flat.now).args ≡ false
  once-named = ap (args_repeat []) (sym flat.arguments) ∙ flat.once

  module _ (ns : List TermNode) (y : Emitter) (e : Emitted) (is : IsEmitted ns (source_by u.name f o.flat.now) y e) where
    pub short : length e.lines ≤ 65536
    unfolding most_lines
    short = let a = as-long ns (source_by u.name f o.flat.now) y e is in let b = is.room.short in omega (arith, a, b)

    pub apart-args : HasApartArgs u
    apart-args =
        let a : y.lines.fresh.count ≡ length (flat_text f o.flat.now).args = is.says.fresh.count in
        let b : length u.args ≡ length (flat_text f o.flat.now).args = ap length flat.arguments in
        let c = is.room.few in
        record { few = subst (λ (n : ℕ). n < 2 ^ 32) (a ∙ sym b) c; once = flat.once }

    pub is-body : (b : Body) → b.names ≡ y.lines.names → b.lines ≡ y.lines.lines → results_repeat u.args [] (lines_of (entity_with u e.lines).blocks) ≡ false → IsBody u.args b e.lines
    is-body b bn bl new =
        let same = flat.arguments in
        let results : results_repeat u.args [] e.lines ≡ false = ap (results_repeat u.args []) (sym (append-nil e.lines)) ∙ new in
        let names : y.lines.names ≡ arg_names u.args ++ flat_map result_name e.lines = is.says.names ∙ ap (λ (xs : List ArgText). arg_names xs ++ flat_map result_name e.lines) (sym same) in
        let made : IsBody u.args (record { names = y.lines.names; lines = y.lines.lines }) e.lines = record {
          says = is.says.lines;
          arguments = subst (λ (xs : List ArgText). ArgumentsFirst xs y.lines.names) (sym same) is.arguments;
          apart = subst NamesDiffer (sym names) (names-differ u.args e.lines flat.once results);
          within = is.room.named;
        } in
        subst (λ (z : Body). IsBody u.args z e.lines) (λ i. record { names = sym bn i; lines = sym bl i }) made

-- what `Emitter::new` answers
abbrev pub IsNew : Origin → Emitter → Type 0
IsNew o x =
    (ns : List TermNode) (name : UnitName) (f : Naming) → IsOrigin f o → args_repeat [] (flat_text f o.flat.now).args ≡ false →
    IsEmitted ns (source_by name f o.flat.now) x (nothing_emitted (source_by name f o.flat.now))

answers-err : (u : UnitText) (x : Emission) (r : Result Body EmitFault) (g : EmitFault) → IsErrAnd r (λ e. e ≡ g) → BodyOrTooLarge u x (Err g) → BodyOrTooLarge u x r
answers-err u x (Ok b) g h a = absurd h
answers-err u x (Err e) g h a = subst (λ (z : EmitFault). BodyOrTooLarge u x (Err z)) (sym h) a

-- ---- combinational

module _ (o : Origin) (waited : List Part) (drives : List DriveRow) (ns : List TermNode) where
  pub comb-memory : (r : Result Body EmitFault) → IsErrAnd r (λ e. e ≡ fault.OutOfMemory) → IsComb ns o waited drives r
  comb-memory r h u f ds flat d w = answers-err u _ r fault.OutOfMemory h tt

  module _ (x : Emitter) (new : IsNew o x) where
    pub comb-can-probes : DrivesCanBeEmitted ns o waited drives → CanPutProbes ns o x waited
    comb-can-probes c =
        let s = source_by c.unit.name c.naming o.flat.now in
        record {
          name = c.unit.name;
          naming = c.naming;
          emitted = nothing_emitted s;
          origin = c.flat.origin;
          is = new ns c.unit.name c.naming c.flat.origin (once-named c.unit c.naming o c.flat);
          given = c.waits_given;
        }

    pub comb-probes-not : (g : EmitFault) → PutsProbesNot ns o x waited g → (r : Result Body EmitFault) → IsErrAnd r (λ e. e ≡ g) → IsComb ns o waited drives r
    comb-probes-not g p r h u f ds flat d w = answers-err u _ r g h (by g p)
      where
        by : (g : EmitFault) → PutsProbesNot ns o x waited g → BodyOrTooLarge u (comb_emission u (steps_of u f o) waited ds) (Err g)
        by fault.OutOfMemory p = tt
        by fault.EntityTooLarge p =
            let s = source_by u.name f o.flat.now in
            let k = p (record { name = u.name; naming = f; emitted = nothing_emitted s; origin = flat.origin; is = new ns u.name f flat.origin (once-named u f o flat); given = w }) in
            let l = (drives-extends s ds (emit_probes s waited (nothing_emitted s))).longer in
            let z : max_lines < length (comb s waited ds).lines = omega (arith, k, l) in
            beyond-limits u (list_all drive_fits ds) (comb (source_of u (steps_of u f o)) waited ds).lines
            (inr (subst (λ (q : Source). max_lines < length (comb q waited ds).lines) (source-is u f o flat) z))

    module _ (m1 : List TermNode) (x1 : Emitter) (g1 : Grows ns m1) (p1 : PutsProbes ns o x waited m1 x1) where
      drives-put : (u : UnitText) (f : Naming) (ds : List Drive) → IsFlatOf u f o → DrivesGiven ns u f o drives ds → Each (WaitIsGiven (source_by u.name f o.flat.now)) waited
          → CanPutDrives m1 o x1 drives
      drives-put u f ds flat d w =
          let s = source_by u.name f o.flat.now in
          record {
            name = u.name;
            naming = f;
            emitted = emit_probes s waited (nothing_emitted s);
            drives = ds;
            origin = flat.origin;
            is = p1 (record { name = u.name; naming = f; emitted = nothing_emitted s; origin = flat.origin; is = new ns u.name f flat.origin (once-named u f o flat); given = w });
            are = drives-grown ns m1 g1 drives ds d.are;
            given = d.given;
          }

      pub comb-can-drives : DrivesCanBeEmitted ns o waited drives → CanPutDrives m1 o x1 drives
      comb-can-drives c = drives-put c.unit c.naming c.texts c.flat c.drives_given c.waits_given

      pub comb-drives-not : (g : EmitFault) → PutsDrivesNot m1 o x1 drives g → (r : Result Body EmitFault) → IsErrAnd r (λ e. e ≡ g) → IsComb ns o waited drives r
      comb-drives-not g p r h u f ds flat d w = answers-err u _ r g h (by g p)
        where
          large : (list_all drive_fits ds ≡ false) ⊎ (max_lines < length (comb (source_by u.name f o.flat.now) waited ds).lines) →
              (list_all drive_fits ds ≡ false) ⊎ (max_lines < length (comb (source_of u (steps_of u f o)) waited ds).lines)
          large (inl q) = inl q
          large (inr k) = inr (subst (λ (q : Source). max_lines < length (comb q waited ds).lines) (source-is u f o flat) k)

          by : (g : EmitFault) → PutsDrivesNot m1 o x1 drives g → BodyOrTooLarge u (comb_emission u (steps_of u f o) waited ds) (Err g)
          by fault.OutOfMemory p = tt
          by fault.EntityTooLarge p =
              let z = source_by u.name f o.flat.now in
              beyond-limits u (list_all drive_fits ds) (comb (source_of u (steps_of u f o)) waited ds).lines
              (large (p (record {
                name = u.name;
                naming = f;
                emitted = emit_probes z waited (nothing_emitted z);
                drives = ds;
                origin = flat.origin;
                is = p1 (record { name = u.name; naming = f; emitted = nothing_emitted z; origin = flat.origin; is = new ns u.name f flat.origin (once-named u f o flat); given = w });
                are = drives-grown ns m1 g1 drives ds d.are;
                given = d.given;
              })))

      pub comb-made : CombIsRight → (m2 : List TermNode) (x2 : Emitter) → PutsDrives m1 o x1 drives m2 x2 → (b : Body) → b.names ≡ x2.lines.names → b.lines ≡ x2.lines.lines
          → IsComb ns o waited drives (Ok b)
      comb-made right m2 x2 p b bn bl u f ds flat d w =
          let s = source_by u.name f o.flat.now in
          let same = source-is u f o flat in
          let e = comb s waited ds in
          let r = p (record {
            name = u.name;
            naming = f;
            emitted = emit_probes s waited (nothing_emitted s);
            drives = ds;
            origin = flat.origin;
            is = p1 (record { name = u.name; naming = f; emitted = nothing_emitted s; origin = flat.origin; is = new ns u.name f flat.origin (once-named u f o flat); given = w });
            are = drives-grown ns m1 g1 drives ds d.are;
            given = d.given;
          }) in
          let gives : comb_emission u (steps_of u f o) waited ds ≡ emits (entity_with u e.lines) =
          subst (λ (q : Source). within_limits u (list_all drive_fits ds) (comb q waited ds).lines ≡ emits (entity_with u e.lines)) same
          (in-limits u (list_all drive_fits ds) e.lines r.fits (short u f o flat m2 x2 e r.is)) in
          let k = right u (entity_with u e.lines) (steps_of u f o) waited ds gives (apart-args u f o flat m2 x2 e r.is) (subst (λ (q : Source). Each (WaitIsGiven q) waited) same w)
          (subst (λ (q : Source). Each (DriveIsGiven q) ds) same d.given) in
          (e.lines, gives, is-body u f o flat m2 x2 e r.is b bn bl k.new_results)

-- ---- once

module _ (o : Origin) (drives : List DriveRow) (ns : List TermNode) where
  pub once-memory : (r : Result Body EmitFault) → IsErrAnd r (λ e. e ≡ fault.OutOfMemory) → IsOnceBody ns o drives r
  once-memory r h u f ds flat d = answers-err u _ r fault.OutOfMemory h tt

  module _ (x : Emitter) (new : IsNew o x) where
    pub once-can-drives : DrivesCanBeEmitted ns o [] drives → CanPutDrives ns o x drives
    once-can-drives c = record {
      name = c.unit.name;
      naming = c.naming;
      emitted = nothing_emitted (source_by c.unit.name c.naming o.flat.now);
      drives = c.texts;
      origin = c.flat.origin;
      is = new ns c.unit.name c.naming c.flat.origin (once-named c.unit c.naming o c.flat);
      are = c.drives_given.are;
      given = c.drives_given.given;
    }

    pub once-drives-not : (g : EmitFault) → PutsDrivesNot ns o x drives g → (r : Result Body EmitFault) → IsErrAnd r (λ e. e ≡ g) → IsOnceBody ns o drives r
    once-drives-not g p r h u f ds flat d = answers-err u _ r g h (by g p)
      where
        large : (list_all drive_fits ds ≡ false) ⊎ (max_lines < length (once (source_by u.name f o.flat.now) ds).lines) →
            (list_all drive_fits ds ≡ false) ⊎ (max_lines < length (once (source_of u (steps_of u f o)) ds).lines)
        large (inl q) = inl q
        large (inr k) = inr (subst (λ (q : Source). max_lines < length (once q ds).lines) (source-is u f o flat) k)

        by : (g : EmitFault) → PutsDrivesNot ns o x drives g → BodyOrTooLarge u (once_emission u (steps_of u f o) ds) (Err g)
        by fault.OutOfMemory p = tt
        by fault.EntityTooLarge p =
            let z = source_by u.name f o.flat.now in
            beyond-limits u (list_all drive_fits ds) (once (source_of u (steps_of u f o)) ds).lines
            (large (p (record {
              name = u.name;
              naming = f;
              emitted = nothing_emitted z;
              drives = ds;
              origin = flat.origin;
              is = new ns u.name f flat.origin (once-named u f o flat);
              are = d.are;
              given = d.given;
            })))

    pub once-made : OnceIsRight → (m2 : List TermNode) (x2 : Emitter) → PutsDrives ns o x drives m2 x2 → (b : Body) → b.names ≡ x2.lines.names → b.lines ≡ x2.lines.lines → IsOnceBody ns o drives (Ok b)
    once-made right m2 x2 p b bn bl u f ds flat d =
        let s = source_by u.name f o.flat.now in
        let same = source-is u f o flat in
        let e = once s ds in
        let r = p (record {
          name = u.name;
          naming = f;
          emitted = nothing_emitted s;
          drives = ds;
          origin = flat.origin;
          is = new ns u.name f flat.origin (once-named u f o flat);
          are = d.are;
          given = d.given;
        }) in
        let gives : once_emission u (steps_of u f o) ds ≡ emits (entity_with u e.lines) =
        subst (λ (q : Source). within_limits u (list_all drive_fits ds) (once q ds).lines ≡ emits (entity_with u e.lines)) same
        (in-limits u (list_all drive_fits ds) e.lines r.fits (short u f o flat m2 x2 e r.is)) in
        let k = right u (entity_with u e.lines) (steps_of u f o) ds gives (apart-args u f o flat m2 x2 e r.is) (subst (λ (q : Source). Each (DriveIsGiven q) ds) same d.given) in
        (e.lines, gives, is-body u f o flat m2 x2 e r.is b bn bl k.new_results)

-- ---- registers

module _ (o : Origin) (rows : List EdgeRow) (ns : List TermNode) where
  pub edge-memory : (r : Result Body EmitFault) → IsErrAnd r (λ e. e ≡ fault.OutOfMemory) → IsRegisterBody ns o rows r
  edge-memory r h u f rs flat d = answers-err u _ r fault.OutOfMemory h tt

  module _ (x : Emitter) (new : IsNew o x) where
    pub edge-can-registers : CanRegister ns o rows → CanPutRegisters ns o x rows
    edge-can-registers c = record {
      name = c.unit.name;
      naming = c.naming;
      emitted = nothing_emitted (source_by c.unit.name c.naming o.flat.now);
      registers = c.texts;
      origin = c.flat.origin;
      is = new ns c.unit.name c.naming c.flat.origin (once-named c.unit c.naming o c.flat);
      are = c.rows_given.are;
      given = c.rows_given.given;
    }

    pub edge-registers-not : (g : EmitFault) → PutsRegistersNot ns o x rows g → (r : Result Body EmitFault) → IsErrAnd r (λ e. e ≡ g) → IsRegisterBody ns o rows r
    edge-registers-not g p r h u f rs flat d = answers-err u _ r g h (by g p)
      where
        large : (list_all row_fits rs ≡ false) ⊎ (max_lines < length (edge (source_by u.name f o.flat.now) rs).lines) →
            (list_all row_fits rs ≡ false) ⊎ (max_lines < length (edge (source_of u (steps_of u f o)) rs).lines)
        large (inl q) = inl q
        large (inr k) = inr (subst (λ (q : Source). max_lines < length (edge q rs).lines) (source-is u f o flat) k)

        by : (g : EmitFault) → PutsRegistersNot ns o x rows g → BodyOrTooLarge u (edge_emission u (steps_of u f o) rs) (Err g)
        by fault.OutOfMemory p = tt
        by fault.EntityTooLarge p =
            let z = source_by u.name f o.flat.now in
            beyond-limits u (list_all row_fits rs) (edge (source_of u (steps_of u f o)) rs).lines
            (large (p (record {
              name = u.name;
              naming = f;
              emitted = nothing_emitted z;
              registers = rs;
              origin = flat.origin;
              is = new ns u.name f flat.origin (once-named u f o flat);
              are = d.are;
              given = d.given;
            })))

    pub edge-made : EdgeIsRight → (m2 : List TermNode) (x2 : Emitter) → PutsRegisters ns o x rows m2 x2 → (b : Body) → b.names ≡ x2.lines.names → b.lines ≡ x2.lines.lines → IsRegisterBody ns o rows (Ok b)
    edge-made right m2 x2 p b bn bl u f rs flat d =
        let s = source_by u.name f o.flat.now in
        let same = source-is u f o flat in
        let e = edge s rs in
        let r = p (record {
          name = u.name;
          naming = f;
          emitted = nothing_emitted s;
          registers = rs;
          origin = flat.origin;
          is = new ns u.name f flat.origin (once-named u f o flat);
          are = d.are;
          given = d.given;
        }) in
        let gives : edge_emission u (steps_of u f o) rs ≡ emits (entity_with u e.lines) =
        subst (λ (q : Source). within_limits u (list_all row_fits rs) (edge q rs).lines ≡ emits (entity_with u e.lines)) same
        (in-limits u (list_all row_fits rs) e.lines r.fits (short u f o flat m2 x2 e r.is)) in
        let k = right u (entity_with u e.lines) (steps_of u f o) rs gives (apart-args u f o flat m2 x2 e r.is) (subst (λ (q : Source). Each (RowIsGiven q) rs) same d.given) in
        (e.lines, gives, is-body u f o flat m2 x2 e r.is b bn bl k.new_results)
