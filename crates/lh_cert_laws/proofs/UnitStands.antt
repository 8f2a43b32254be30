-- An entity without a cause may stand for the process in whose place it is.
use Rattle.std.proofs.Common.{◌≡◌, List, [], ◌∷◌, map, fold, Bool, true, false, Option, Some, None, refl, ap, sym, ◌∙◌, subst}
use Rattle.std.proofs.lemmas.Bool.{false≢true, or_parts}
use Rattle.lh_time.specs.declared.Instant.{Instant}
use Rattle.lh_types.specs.Wish.{no_wish}
use Rattle.lh_types.specs.declared.part.Range.{Range}
use Rattle.lh_unit.specs.Contents.{InstText, sig_text, child_text, LineText, UnitText}
use Rattle.lh_unit.specs.Hierarchy.{lines_of}
use Rattle.lh_unit.specs.Pass.{pass}
use Rattle.lh_unit.specs.Within.{Each}
use Rattle.lh_unit.specs.World.{bit_numbers}
use Rattle.lh_trace_laws.proofs.BitSets.{SameSet, IsWithin}
use Rattle.lh_trace_laws.proofs.MayStandLaw.{is_plain, AllPlain}
use Rattle.lh_term.specs.Mean.{Valuation}
use Rattle.lh_term.specs.declared.part.Part.{Part}
use Rattle.lh_term_cover.specs.Bits.{same_bits}
use Rattle.lh_edge.specs.Triggers.{EdgeRowTree}
use Rattle.lh_region_def.specs.Rows.{Drive}
use Rattle.lh_region_def.specs.Means.{range_in, reads, with_rows}
use Rattle.lh_region_def.specs.Right.{DriveTyped}
use Rattle.lh_region_def.specs.Typed.{Among}
use Rattle.lh_region_def.proofs.PartReads.{reads-fit}
use Rattle.lh_shape.specs.Laws.{MergedDrivesWish, MergedDrivesAreTyped}
use Rattle.lh_shape.specs.Reasons.{is_empty}
use Rattle.lh_emit_def.specs.Emitted.{Source}
use Rattle.lh_emit_def.specs.Registers.{registers_wish}
use Rattle.lh_emit_def.specs.Ways.{DriveIsGiven, RowIsGiven}
use Rattle.lh_entity_laws.specs.AnyEntity.{DoesComb, DoesOnce, DoesEdge}
use Rattle.lh_entity_laws.proofs.Bits.{bits_of, both-within, same-left, same-right, there-bits}
use Rattle.lh_cert_terms.specs.Laws.{RebuiltKeepsMeaning}
use Rattle.lh_cert_agree.specs.Laws.{AgreedTermsMeanSame}
use Rattle.lh_cert_rows.specs.Rows.{drives_in, registers_in}
use Rattle.lh_cert_rows.specs.Means.{rows_wish, seen_by}
use Rattle.lh_cert_rows.specs.Reading.{read}
use Rattle.lh_cert_rows.specs.Passing.{IsPlain, SaysTypedRows, PassDoesRows}
use Rattle.lh_cert_def.specs.Headers.{adds_hierarchy, has_hierarchy, has_drive, has_register}
use Rattle.lh_cert_def.specs.KeptRows.{rebuilt_drive, kept_drives, register_of, kept_registers}
use Rattle.lh_cert_def.specs.Causes.{has_these_drives, has_these_registers}
use Rattle.lh_cert_laws.proofs.DriveWishes.{all-rebuilt-typed, kept-typed, rebuilt-wish, kept-wish, agreed-wish}
use Rattle.lh_cert_laws.proofs.EntityRows.{drives-alone, registers-alone, drives-wish, Register, made, registers-made, drives-typed, RegisterTyped, registers-typed, registers-read, pass-alike}
use Rattle.lh_cert_laws.proofs.KeptRegisters.{registers-kept, kept-registers-typed}
use Rattle.lh_cert_laws.proofs.AgreedRegisters.{registers-same}
use Rattle.lh_cert_laws.proofs.Edges.{process-typed, process-made, parts_of, process-among, first-edges, second-edges, first-run, registers-alike, registers-rest, matched-parts, kept-reads}

-- ---- lines without `sig` and `inst`

plain-inst : (i : InstText) → adds_hierarchy i ≡ false → IsPlain i × (is_plain i ≡ true)
plain-inst (sig_text a) e = absurd (false≢true (sym e))
plain-inst (child_text v inputs outputs) e = absurd (false≢true (sym e))
plain-inst _ e = (tt, refl)

pub lines-plain : (ls : List LineText) → has_hierarchy ls ≡ false → Each (λ (l : LineText). IsPlain l.inst) ls × AllPlain ls
lines-plain [] e = (tt, tt)
lines-plain (l ∷ ls) e =
    let z = or_parts (adds_hierarchy l.inst) (has_hierarchy ls) e in
    let a = plain-inst l.inst z.0 in
    let b = lines-plain ls z.1 in
    ((a.0, b.0), (a.1, b.1))

-- ---- drives that are typed

pub given-typed : (s : Source) (ds : List Drive) → Each (DriveIsGiven s) ds → Each DriveTyped ds
given-typed s [] h = tt
given-typed s (d ∷ ds) h = (
  record {
    cond = record { typed = h.0.cond.typed; type = h.0.is_condition };
    part = h.0.carries;
    value = record { typed = h.0.value.typed; type = h.0.is_value };
    delay = record { typed = h.0.delay.typed; type = h.0.is_delay };
  },
  given-typed s ds h.1,
)

-- the bits of parts that cover each other
same-sensed : (args : List Range) (ps qs : List Part) → same_bits ps qs ≡ true → SameSet (bits_of args ps) (bits_of args qs)
same-sensed args ps qs e = both-within (bits_of args ps) (bits_of args qs) (same-left args ps qs e) (same-right args ps qs e)

empty-is : {X : Type 0} (xs : List X) → is_empty xs ≡ true → xs ≡ []
empty-is [] e = refl
empty-is (x ∷ xs) e = absurd (false≢true e)

module _ (agrees : AgreedTermsMeanSame) (rebuilds : RebuiltKeepsMeaning) (y : UnitText) (typed : SaysTypedRows y) where
  -- ---- drives

  module _ (merges : MergedDrivesWish) (merged-typed : MergedDrivesAreTyped) (none : has_register (lines_of y.blocks) ≡ false) (ds : List Drive) (right : Each DriveTyped ds)
      (same : has_these_drives ds (read y) ≡ true) where
    abbrev es : List Drive
    es = drives_in (read y).rows

    -- the drives of the shape wish what the rows of the entity wish
    drives-same : (args : List Range) (now : List Bool) (t : Instant)
        → rows_wish None (reads args now) args t (read y).rows ≡ with_rows (reads args now) (reads args now) args t no_wish ds
    drives-same args now t =
        let v : Valuation = reads args now in
        let fit = reads-fit args now in
        let rs = map rebuilt_drive ds in
        let k = all-rebuilt-typed rebuilds ds right in
        let l = drives-typed (read y).rows typed.typed in
        drives-wish None v args t no_wish (read y).rows (drives-alone y none)
        ∙ sym (kept-wish v fit args t merges no_wish es l)
        ∙ sym (agreed-wish v fit args t agrees no_wish (kept_drives rs) (kept_drives es) (kept-typed merged-typed rs k) (kept-typed merged-typed es l) same)
        ∙ kept-wish v fit args t merges no_wish rs k
        ∙ rebuilt-wish v fit args t rebuilds no_wish ds right

    pub pass-wish : (args : List Range) → PassDoesRows y args → (now : List Bool) (memory : Option (List Bool)) (t : Instant)
        → (pass y args [] now memory t).wish ≡ with_rows (reads args now) (reads args now) args t no_wish ds
    pass-wish args does now memory t = ap (λ p. p.wish) (pass-alike y now memory None t args none) ∙ does.wish None now t ∙ drives-same args now t

    pub does-comb : (waited : List Part) → same_bits waited (read y).probes ≡ true → (args : List Range) → PassDoesRows y args → DoesComb waited ds y args
    does-comb waited bits args does = record {
      wish = pass-wish args does;
      senses = subst (λ rs. SameSet (bits_of args waited) (bit_numbers rs)) (sym does.senses) (same-sensed args waited (read y).probes bits);
    }

    pub does-once : is_empty (read y).probes ≡ true → (args : List Range) → PassDoesRows y args → DoesOnce ds y args
    does-once nothing args does = record {
      wish = λ now t. pass-wish args does now None t;
      senses = does.senses ∙ ap (map (range_in args)) (empty-is (read y).probes nothing);
    }

  -- ---- registers

  module _ (s : Source) (none : has_drive (lines_of y.blocks) ≡ false) (rs : List EdgeRowTree) (given : Each (RowIsGiven s) rs) (same : has_these_registers rs (read y) ≡ true) where
    -- what is kept of the registers of the process, and of the entity
    abbrev xs : List Register
    xs = kept_registers (map register_of rs)

    abbrev ys : List Register
    ys = kept_registers (registers_in (read y).rows)

    xs-typed : Each RegisterTyped xs
    xs-typed = kept-registers-typed (map register_of rs) (process-typed rebuilds s rs given)

    ys-typed : Each RegisterTyped ys
    ys-typed = kept-registers-typed (registers_in (read y).rows) (registers-typed (read y).rows typed.typed)

    -- the rows of the entity wish what is kept of its registers
    rows-kept : (past : Option Valuation) (v : Valuation) (args : List Range) (t : Instant) → rows_wish past v args t (read y).rows ≡ fold (made past v args t) no_wish ys
    rows-kept past v args t =
        registers-made past v args t no_wish (read y).rows (registers-alone y none) ∙ sym (registers-kept past v args t no_wish (registers_in (read y).rows))

    -- so do the rows of the process
    process-kept : (past : Valuation) (args : List Range) (now : List Bool) (t : Instant)
        → registers_wish past (reads args now) args t rs ≡ fold (made (Some past) (reads args now) args t) no_wish xs
    process-kept past args now t =
        sym (process-made rebuilds s past (reads args now) (reads-fit args now) args t no_wish rs given) ∙ sym (registers-kept (Some past) (reads args now) args t no_wish (map register_of rs))

    entity-wish : (past : Valuation) (args : List Range) (now : List Bool) (t : Instant)
        → rows_wish (Some past) (reads args now) args t (read y).rows ≡ registers_wish past (reads args now) args t rs
    entity-wish past args now t =
        rows-kept (Some past) (reads args now) args t
        ∙ sym (registers-same agrees (Some past) (reads args now) (reads-fit args now) args t no_wish xs ys xs-typed ys-typed same)
        ∙ sym (process-kept past args now t)

    pub does-edge : (args : List Range) → PassDoesRows y args → DoesEdge rs y args
    does-edge args does = record {
      parts = parts_of xs;
      among = process-among rs;
      senses = subst (λ zs. IsWithin (bits_of args (parts_of xs)) (bit_numbers zs)) (sym does.senses)
          (there-bits args (read y).probes (parts_of xs)
          (matched-parts (λ p. Among p (read y).probes) xs ys same
          (kept-reads (λ p. Among p (read y).probes) (registers_in (read y).rows) (registers-read (λ p. Among p (read y).probes) (read y).rows typed.probed))));
      seen_at = λ now. seen_by (reads args now) (read y).rows;
      seen = does.seen;
      first = λ now t. does.wish None now t ∙ rows-kept None (reads args now) args t ∙ first-run (reads args now) args t no_wish ys (second-edges xs ys same);
      later = λ past now t. does.wish (Some (reads args past)) now t ∙ entity-wish (reads args past) args now t;
      rests = λ past now t h. process-kept (reads args past) args now t ∙ registers-rest (reads args now) args t (reads args past) no_wish xs (first-edges xs ys same) h;
      alike = λ before past now t h. process-kept (reads args before) args now t
          ∙ registers-alike (reads args now) args t (reads args before) (reads args past) no_wish xs (first-edges xs ys same) h ∙ sym (process-kept (reads args past) args now t);
    }
