-- A drive that is put: its value, delay, condition and part, and then the `drv`.
use Rattle.std.proofs.Common.{◌≡◌, ◌⊎◌, ◌<◌, ◌+◌, true, false, ◌&&◌, List, length, Option, Some, inl, inr, ap, sym, ◌∙◌, subst, arith, length-append}
use Rattle.std.specs.Prelude.{Result, Ok, Err, IfOk, IfErr}
use Rattle.std.proofs.lemmas.List.{length-map}
use Rattle.std.proofs.lemmas.Bool.{and_from, and_right}
use Rattle.lh_types.specs.Types.{IsData, signal_type}
use Rattle.lh_unit.specs.Contents.{InstText, drv_text}
use Rattle.lh_unit.specs.Naming.{inst_text}
use Rattle.lh_unit.specs.Within.{InstWithin}
use Rattle.lh_unit.specs.declared.inst.ValueId.{ValueId}
use Rattle.lh_unit.specs.declared.inst.Typed.{Typed}
use Rattle.lh_unit.specs.declared.inst.Inst.{Inst}
use Rattle.lh_unit.specs.declared.inst.Inst.TheVariants as inst
use Rattle.lh_term.specs.Arena.{Grows}
use Rattle.lh_term.specs.declared.part.Part.{Part}
use Rattle.lh_term.specs.declared.term.TermNode.{TermNode}
use Rattle.lh_region_def.specs.Rows.{Drive}
use Rattle.lh_region.specs.declared.rows.DriveRow.{DriveRow}
use Rattle.lh_emit_def.specs.Emitted.{Source, Emitted, puts, term_name, signal, need_part}
use Rattle.lh_emit_def.specs.Needs.{need}
use Rattle.lh_emit_def.specs.Entities.{max_lines, need_cond, cond_name, emit_drive, choices_fit, drive_fits}
use Rattle.lh_emit_def.specs.Ways.{IsReached}
use Rattle.lh_emit_body.specs.Lines.{most_lines, naming, values_alone, LinesHaveRoom, NamesGrow}
use Rattle.lh_emit.specs.Operands.{with_type}
use Rattle.lh_emit_source.specs.Origins.{source_by}
use Rattle.lh_emit.specs.Emitting.{IsEmitted, IsNeeded, CanNeed, NeedsTerm, IsTooLarge, NeedsNot, CanReach, IsPartNeeded, NeedsPart, NeedsPartNot}
use Rattle.lh_emit_shapes.specs.Putting.{PutsInst, IsTested, TestsTerm, TestsTermNot, IsIdOfTerm, TellsCond, CanPutDrive, PutsDrive, DriveTooLarge, PutsDriveNot}
use Rattle.lh_emit_source.specs.declared.origin.Origin.{Origin}
use Rattle.lh_emit.specs.declared.emitter.Emitter.{Emitter}
use Rattle.lh_emit_body.specs.declared.lines.EmitFault.{EmitFault}
use Rattle.lh_emit_body.specs.declared.lines.EmitFault.TheVariants as fault
use Rattle.lh_emit_shapes.proofs.EntityGrowth.{Extends, extends-then, puts-extends, need-extends, cond-extends, part-extends}
use Rattle.lh_emit_shapes.proofs.Tells.{names-then, tells-needed, tells-on, cond-on, tells-tested, cond-text, cond-within}
use Rattle.lh_emit_shapes.proofs.RowGrowth.{drive-grown}
use Rattle.lh_emit_shapes.proofs.ConditionNeeds.{is-given, needed-at, not-needed-at, tested-at, not-tested-at}

-- ---- one instruction too many

-- as many instructions as the definition has
pub as-long : (ns : List TermNode) (s : Source) (x : Emitter) (e : Emitted) → IsEmitted ns s x e → length x.lines.lines ≡ length e.lines
as-long ns s x e h = sym (length-map x.lines.lines _) ∙ ap length h.says.lines

pub one-too-many : (ns : List TermNode) (s : Source) (x : Emitter) (e : Emitted) (i : InstText) → IsEmitted ns s x e → length x.lines.lines ≡ most_lines → max_lines < length (puts i e).lines
unfolding most_lines
one-too-many ns s x e i h q =
    let a = as-long ns s x e h in
    let b : length (puts i e).lines ≡ length e.lines + 1 = length-append e.lines _ in
    omega (arith, a, b, q)

-- ---- stages of a drive

module _ (s : Source) (d : Drive) (e : Emitted) where
  abbrev one : Emitted
  one = need s d.value e

  abbrev two : Emitted
  two = need s d.delay one

  abbrev three : Emitted
  three = need_cond s d.cond two

  abbrev four : Emitted
  four = need_part s d.part three

  four-last : Extends four (emit_drive s e d)
  four-last = puts-extends _ four

  three-four : Extends three four
  three-four = part-extends s d.part three

  two-four : Extends two four
  two-four = extends-then two three four (cond-extends s d.cond two) three-four

  one-four : Extends one four
  one-four = extends-then one two four (need-extends s d.delay one) two-four

  longer : (z : Emitted) → Extends z four → max_lines < length z.lines → DriveTooLarge s d e
  longer z k h = let w = k.longer in let v = four-last.longer in inr (omega (arith, w, v, h))

  value-large : IsTooLarge s d.value e → DriveTooLarge s d e
  value-large (inl q) = inl (ap (λ b. b && (choices_fit d.delay && choices_fit d.cond)) q)
  value-large (inr h) = longer one one-four h

  delay-large : IsTooLarge s d.delay one → DriveTooLarge s d e
  delay-large (inl q) = inl (and_right (choices_fit d.value) _ (ap (λ b. b && choices_fit d.cond) q))
  delay-large (inr h) = longer two two-four h

  cond-large : (choices_fit d.cond ≡ false) ⊎ (max_lines < length three.lines) → DriveTooLarge s d e
  cond-large (inl q) = inl (and_right (choices_fit d.value) _ (and_right (choices_fit d.delay) _ q))
  cond-large (inr h) = longer three three-four h

-- ---- the calls

module _ (o : Origin) (row : DriveRow) (ns : List TermNode) (x : Emitter) where
  pub can-value : CanPutDrive ns o x row → CanNeed ns o x row.value
  can-value c = record {
    name = c.name;
    naming = c.naming;
    emitted = c.emitted;
    origin = c.origin;
    is = c.is;
    within = c.are.value.is_in;
    given = is-given ns o x row.value c.name c.naming c.emitted c.origin c.is c.drive.value c.are.value.tree c.given.value;
  }

  pub can-delay : CanPutDrive ns o x row → CanNeed ns o x row.delay
  can-delay c = record {
    name = c.name;
    naming = c.naming;
    emitted = c.emitted;
    origin = c.origin;
    is = c.is;
    within = c.are.delay.is_in;
    given = is-given ns o x row.delay c.name c.naming c.emitted c.origin c.is c.drive.delay c.are.delay.tree c.given.delay;
  }

  pub can-cond : CanPutDrive ns o x row → CanNeed ns o x row.cond
  can-cond c = record {
    name = c.name;
    naming = c.naming;
    emitted = c.emitted;
    origin = c.origin;
    is = c.is;
    within = c.are.cond.is_in;
    given = is-given ns o x row.cond c.name c.naming c.emitted c.origin c.is c.drive.cond c.are.cond.tree c.given.cond;
  }

  pub can-part : CanPutDrive ns o x row → CanReach ns o x row.part
  can-part c = record {
    name = c.name;
    naming = c.naming;
    emitted = c.emitted;
    origin = c.origin;
    is = c.is;
    given = subst (IsReached (source_by c.name c.naming o.flat.now)) (sym c.are.part) c.given.part;
  }

  pub is-data : CanPutDrive ns o x row → IsData row.part.ty
  is-data c = subst (λ (p : Part). IsData p.ty) (sym c.are.part) c.given.carries

  pub value-not : (f : EmitFault) → NeedsNot ns o x row.value f → PutsDriveNot ns o x row f
  value-not fault.OutOfMemory h = tt
  value-not fault.EntityTooLarge h = λ c.
      value-large (source_by c.name c.naming o.flat.now) c.drive c.emitted
      (not-needed-at ns o x row.value c.name c.naming c.emitted c.origin c.is c.drive.value c.are.value.tree c.given.value h)

  module _ (m1 : List TermNode) (x1 : Emitter) (v1 : ValueId) (g1 : Grows ns m1) (n1 : NeedsTerm ns o x row.value m1 x1 v1) where
    pub value-is : (c : CanPutDrive ns o x row) → IsNeeded m1 (source_by c.name c.naming o.flat.now) c.drive.value c.emitted x1 v1
    value-is c = needed-at ns o x row.value c.name c.naming c.emitted c.origin c.is c.drive.value c.are.value.tree c.given.value m1 x1 v1 n1

    abbrev pub after-value : CanPutDrive ns o x row → CanPutDrive m1 o x1 row
    after-value c = record {
      name = c.name;
      naming = c.naming;
      emitted = need (source_by c.name c.naming o.flat.now) c.drive.value c.emitted;
      drive = c.drive;
      origin = c.origin;
      is = (value-is c).is;
      are = drive-grown ns m1 g1 row c.drive c.are;
      given = c.given;
    }

    pub delay-not : (f : EmitFault) → NeedsNot m1 o x1 row.delay f → PutsDriveNot ns o x row f
    delay-not fault.OutOfMemory h = tt
    delay-not fault.EntityTooLarge h = λ c.
        let b = after-value c in
        delay-large (source_by c.name c.naming o.flat.now) c.drive c.emitted
        (not-needed-at m1 o x1 row.delay b.name b.naming b.emitted b.origin b.is b.drive.delay b.are.delay.tree b.given.delay h)

    module _ (m2 : List TermNode) (x2 : Emitter) (v2 : ValueId) (g2 : Grows m1 m2) (n2 : NeedsTerm m1 o x1 row.delay m2 x2 v2) where
      pub delay-is : (c : CanPutDrive ns o x row) →
          IsNeeded m2 (source_by c.name c.naming o.flat.now) c.drive.delay (need (source_by c.name c.naming o.flat.now) c.drive.value c.emitted) x2 v2
      delay-is c = let b = after-value c in needed-at m1 o x1 row.delay b.name b.naming b.emitted b.origin b.is b.drive.delay b.are.delay.tree b.given.delay m2 x2 v2 n2

      abbrev pub after-delay : CanPutDrive ns o x row → CanPutDrive m2 o x2 row
      after-delay c = record {
        name = c.name;
        naming = c.naming;
        emitted = two (source_by c.name c.naming o.flat.now) c.drive c.emitted;
        drive = c.drive;
        origin = c.origin;
        is = (delay-is c).is;
        are = drive-grown m1 m2 g2 row c.drive (drive-grown ns m1 g1 row c.drive c.are);
        given = c.given;
      }

      pub cond-not : (f : EmitFault) → TestsTermNot m2 o x2 row.cond f → PutsDriveNot ns o x row f
      cond-not fault.OutOfMemory h = tt
      cond-not fault.EntityTooLarge h = λ c.
          let b = after-delay c in
          cond-large (source_by c.name c.naming o.flat.now) c.drive c.emitted
          (not-tested-at m2 o x2 row.cond b.name b.naming b.emitted b.origin b.is b.drive.cond b.are.cond.tree b.given.cond h)

      module _ (m3 : List TermNode) (x3 : Emitter) (v3 : Option ValueId) (g3 : Grows m2 m3) (n3 : TestsTerm m2 o x2 row.cond m3 x3 v3) where
        pub cond-is : (c : CanPutDrive ns o x row) →
            IsTested m3 (source_by c.name c.naming o.flat.now) c.drive.cond (two (source_by c.name c.naming o.flat.now) c.drive c.emitted) x3 v3
        cond-is c = let b = after-delay c in tested-at m2 o x2 row.cond b.name b.naming b.emitted b.origin b.is b.drive.cond b.are.cond.tree b.given.cond m3 x3 v3 n3

        abbrev pub after-cond : CanPutDrive ns o x row → CanPutDrive m3 o x3 row
        after-cond c = record {
          name = c.name;
          naming = c.naming;
          emitted = three (source_by c.name c.naming o.flat.now) c.drive c.emitted;
          drive = c.drive;
          origin = c.origin;
          is = (cond-is c).is;
          are = drive-grown m2 m3 g3 row c.drive (drive-grown m1 m2 g2 row c.drive (drive-grown ns m1 g1 row c.drive c.are));
          given = c.given;
        }

        pub part-not : (f : EmitFault) → NeedsPartNot m3 o x3 row.part f → PutsDriveNot ns o x row f
        part-not fault.OutOfMemory h = tt
        part-not fault.EntityTooLarge h = λ c.
            let s = source_by c.name c.naming o.flat.now in
            let b = after-cond c in
            let k = h b.name b.naming b.emitted b.origin b.is (subst (IsReached s) (sym b.are.part) b.given.part) in
            let w : max_lines < length (four s c.drive c.emitted).lines = subst (λ (p : Part). max_lines < length (need_part s p b.emitted).lines) b.are.part k in
            let v = (four-last s c.drive c.emitted).longer in
            inr (omega (arith, v, w))

        module _ (x4 : Emitter) (v4 : ValueId) (n4 : NeedsPart m3 o x3 row.part x4 v4) where
          part-is : (c : CanPutDrive ns o x row) →
              IsPartNeeded m3 (source_by c.name c.naming o.flat.now) c.drive.part (three (source_by c.name c.naming o.flat.now) c.drive c.emitted) x4 v4
          part-is c =
              let s = source_by c.name c.naming o.flat.now in
              let b = after-cond c in
              subst (λ (p : Part). IsPartNeeded m3 s p b.emitted x4 v4) b.are.part (n4 b.name b.naming b.emitted b.origin b.is (subst (IsReached s) (sym b.are.part) b.given.part))

          pub has-room : CanPutDrive ns o x row → LinesHaveRoom x4.lines
          has-room c = (part-is c).is.room

          put-not : (f : EmitFault) (i : Inst) (y : Emitter) → PutsInst x4 i y (Err f) → PutsDriveNot ns o x row f
          put-not fault.OutOfMemory i y h = tt
          put-not fault.EntityTooLarge i y h = λ c.
              let s = source_by c.name c.naming o.flat.now in
              inr (one-too-many m3 s x4 (four s c.drive c.emitted) _ (part-is c).is h)

          module _ (l2 : NamesGrow x1.lines.names x2.lines.names) (l3 : NamesGrow x2.lines.names x3.lines.names) (l4 : NamesGrow x3.lines.names x4.lines.names) (to : Typed)
              (is_to : to ≡ with_type (signal_type row.part.ty) v4) (c : CanPutDrive ns o x row) where
            abbrev src : Source
            src = source_by c.name c.naming o.flat.now

            abbrev last : Emitted
            last = four src c.drive c.emitted

            value-told : IsIdOfTerm x4.lines.names last c.drive.value v1
            value-told =
                tells-on x1.lines.names x4.lines.names (one src c.drive c.emitted) last (names-then _ _ _ l2 (names-then _ _ _ l3 l4)) (one-four src c.drive c.emitted) c.drive.value v1
                (tells-needed m1 src c.drive.value c.emitted x1 v1 (value-is c))

            delay-told : IsIdOfTerm x4.lines.names last c.drive.delay v2
            delay-told =
                tells-on x2.lines.names x4.lines.names (two src c.drive c.emitted) last (names-then _ _ _ l3 l4) (two-four src c.drive c.emitted) c.drive.delay v2
                (tells-needed m2 src c.drive.delay (one src c.drive c.emitted) x2 v2 (delay-is c))

            cond-told : TellsCond x4.lines.names last c.drive.cond v3
            cond-told =
                cond-on x3.lines.names x4.lines.names (three src c.drive c.emitted) last l4 (three-four src c.drive c.emitted) c.drive.cond v3
                (tells-tested m3 src c.drive.cond (two src c.drive c.emitted) x3 v3 (cond-is c))

            pub drv-within : InstWithin (values_alone (length x4.lines.names)) (inst.Drv to v1 v2 v3)
            drv-within =
                let to_within : to.value.0 < length x4.lines.names = subst (λ (t : Typed). t.value.0 < length x4.lines.names) (sym is_to) (part-is c).within in
                (to_within, value-told.within, delay-told.within, cond-within x4.lines.names last c.drive.cond v3 cond-told)

            drv-is : inst_text (naming x4.lines.names) (inst.Drv to v1 v2 v3)
                ≡ drv_text (signal last c.drive.part) (term_name last c.drive.value) (term_name last c.drive.delay) (cond_name last c.drive.cond)
            drv-is =
                let p = (part-is c).name in
                let q = c.are.part in
                let a = value-told.name in
                let b = delay-told.name in
                let k = cond-text x4.lines.names last c.drive.cond v3 cond-told in
                ap (λ (t : Typed). inst_text (naming x4.lines.names) (inst.Drv t v1 v2 v3)) is_to
                ∙ (λ i. drv_text (record { value = p i; ty = Some (signal_type (q i).ty) }) (a i) (b i) (k i))

            pub is-driven : (y : Emitter) → PutsInst x4 (inst.Drv to v1 v2 v3) y (Ok tt) → IsEmitted m3 src y (emit_drive src c.emitted c.drive)
            is-driven y h = subst (λ i. IsEmitted m3 src y (puts i last)) drv-is (h m3 src last (part-is c).is)

            pub drive-fits : drive_fits c.drive ≡ true
            drive-fits = and_from (choices_fit c.drive.value) _ (value-is c).fits (and_from (choices_fit c.drive.delay) _ (delay-is c).fits (cond-is c).fits)

          -- what the last call answers
          pub put-ok : (l2 : NamesGrow x1.lines.names x2.lines.names) (l3 : NamesGrow x2.lines.names x3.lines.names) (l4 : NamesGrow x3.lines.names x4.lines.names) (to : Typed)
              (is_to : to ≡ with_type (signal_type row.part.ty) v4) (y : Emitter) (r : Result (Unit {0}) EmitFault) → PutsInst x4 (inst.Drv to v1 v2 v3) y r → IfOk r (λ _. PutsDrive ns o x row m3 y)
          put-ok l2 l3 l4 to is_to y (Err f) h = tt
          put-ok l2 l3 l4 to is_to y (Ok u) h = λ c. record { is = is-driven l2 l3 l4 to is_to c y h; fits = drive-fits l2 l3 l4 to is_to c }

          pub put-err : (i : Inst) (y : Emitter) (r : Result (Unit {0}) EmitFault) → PutsInst x4 i y r → IfErr r (PutsDriveNot ns o x row)
          put-err i y (Ok u) h = tt
          put-err i y (Err f) h = put-not f i y h
