-- A pass of an entity does its rows, line by line.
use Rattle.std.proofs.Common.{◌≡◌, inl, inr, ℕ, ◌+◌, suc, Bool, true, false, if◌then◌else◌, List, [], ◌∷◌, ◌++◌, length, Option, Some, None, refl, ap, sym, ◌∙◌, subst, append_assoc, append-nil, length-append}
use Rattle.std.specs.Prelude.{unwrap_or}
use Rattle.std.proofs.lemmas.Grind.{fold-append, flat_map-append}
use Rattle.std.proofs.lemmas.Option.{same_Some, none-some}
use Rattle.lh_time.specs.declared.Instant.{Instant}
use Rattle.lh_types.specs.Wish.{no_wish}
use Rattle.lh_types.specs.declared.op.Op.{Op}
use Rattle.lh_types.specs.declared.part.Range.{Range}
use Rattle.lh_unit.specs.Contents.{OperandText, InstText, prb_text, drv_text, reg_text, LineText, UnitText}
use Rattle.lh_unit_names.specs.Names.{same_name}
use Rattle.lh_unit.specs.Held.{Held, datum_held, Env}
use Rattle.lh_unit.specs.Effects as effects
use Rattle.lh_unit.specs.Effects.{driven}
use Rattle.lh_unit.specs.Hierarchy.{if_held}
use Rattle.lh_unit.specs.Pass.{Passed, passes, pass_from, triggers_from}
use Rattle.lh_unit.specs.Within.{Each}
use Rattle.lh_unit.specs.WellFormed.{values_named}
use Rattle.lh_eval_laws.proofs.FindingPass.{KnownNames, known_after, NamesKnown}
use Rattle.lh_term.specs.Mean.{Valuation, IsFitting, mean}
use Rattle.lh_term.specs.Tree.{constant, now_of}
use Rattle.lh_term.specs.declared.part.Part.{Part}
use Rattle.lh_region_def.specs.Known.{Known, known_value, Knowledge, with_given, part_known}
use Rattle.lh_region_def.specs.Means.{range_in, reads, held_as}
use Rattle.lh_region_def.proofs.PartReads.{reads-fit}
use Rattle.lh_cert_rows.specs.Rows.{TriggerRow, EntityRow, driven_by, registered}
use Rattle.lh_cert_rows.specs.Reading.{EntityText, gives, probed, with_row, triggers_known, register_row, reads_line, reads_lines}
use Rattle.lh_cert_rows.specs.Means.{rows_wish, row_made, row_seen, seen_by, triggers_seen}
use Rattle.lh_cert_rows.specs.Laws.{IsHeld, Remembers, no_run, a_run}
use Rattle.lh_cert_rows.specs.Passing.{memory_of}
use Rattle.lh_cert_rows.proofs.Registers.{part-held, registers-do}
use Rattle.lh_cert_rows.proofs.Lines.{drives-do, operation-means, operations-do, probes-do}
use Rattle.lh_cert_rows.proofs.EntityUnits.{LineFine}
use Rattle.lh_cert_rows.proofs.OperationTerms.{Gives, gives_term, gives_part, built-means, part-done}
use Rattle.lh_cert_rows.proofs.LineRows.{ReadFine, UsesKnown, uses-known, operation-of, drive-of, register-of, probe-of, LineKind, a_constant, an_operation, a_probe, a_drive, a_register, line-kind, line-fine}

-- ---- rows, one more

seen-more : (v : Valuation) (rows : List EntityRow) (r : EntityRow) → seen_by v (rows ++ r ∷ []) ≡ seen_by v rows ++ row_seen v r
seen-more v rows r = flat_map-append (row_seen v) rows (r ∷ []) ∙ ap (λ xs. seen_by v rows ++ xs) (append-nil (row_seen v r))

wish-more : (past : Option Valuation) (v : Valuation) (args : List Range) (t : Instant) (rows : List EntityRow) (r : EntityRow)
    → rows_wish past v args t (rows ++ r ∷ []) ≡ row_made past v args t (rows_wish past v args t rows) r
wish-more past v args t rows r = fold-append (row_made past v args t) no_wish rows (r ∷ [])

-- as many values are seen whenever
triggers-length : (v w : Valuation) (gs : List TriggerRow) → length (triggers_seen v gs) ≡ length (triggers_seen w gs)
triggers-length v w [] = refl
triggers-length v w (g ∷ gs) = ap suc (triggers-length v w gs)

row-length : (v w : Valuation) (r : EntityRow) → length (row_seen v r) ≡ length (row_seen w r)
row-length v w (driven_by d) = refl
row-length v w (registered p gs) = triggers-length v w gs

seen-length : (v w : Valuation) (rows : List EntityRow) → length (seen_by v rows) ≡ length (seen_by w rows)
seen-length v w [] = refl
seen-length v w (r ∷ rows) =
    length-append (row_seen v r) (seen_by v rows) ∙ (λ i. row-length v w r i + seen-length v w rows i) ∙ sym (length-append (row_seen w r) (seen_by w rows))

-- the rows after some lines begin with those before
record Grows (old new : List EntityRow) : Type 0 where
  more : List EntityRow
  is : new ≡ old ++ more

with-grows : (e : EntityText) (o : Option EntityRow) → Grows e.rows (with_row e o).rows
with-grows e None = record { more = []; is = sym (append-nil e.rows) }
with-grows e (Some r) = record { more = r ∷ []; is = refl }

probed-grows : (e : EntityText) (r : Option (List ℕ)) (o : Option Part) → Grows e.rows (probed e r o).rows
probed-grows e r None = record { more = []; is = sym (append-nil e.rows) }
probed-grows e r (Some p) = record { more = []; is = sym (append-nil e.rows) }

line-grows : (e : EntityText) (i : InstText) (r : Option (List ℕ)) → Grows e.rows (reads_line e i r).rows
line-grows e (prb_text s) r = probed-grows e r (part_known e.known s.value)
line-grows e (drv_text to value after cond) r = with-grows e _
line-grows e (reg_text to gs) r = with-grows e (register_row (part_known e.known to.value) (triggers_known e.known gs))
line-grows e _ r = record { more = []; is = sym (append-nil e.rows) }

rows-grow : (ls : List LineText) (e : EntityText) → Grows e.rows (reads_lines e ls).rows
rows-grow [] e = record { more = []; is = sym (append-nil e.rows) }
rows-grow (l ∷ ls) e =
    let a = line-grows e l.inst l.result in
    let b = rows-grow ls (reads_line e l.inst l.result) in
    record { more = a.more ++ b.more; is = b.is ∙ ap (λ rs. rs ++ b.more) a.is ∙ append_assoc e.rows a.more b.more }

-- ---- a line

-- what is given is held
given-held : (v : Valuation) (args : List Range) (k : Knowledge) (e : Env) (r : Option (List ℕ)) (x : Known) (o : Option Held) → o ≡ Some (held_as (mean v v) (range_in args) x) → IsHeld v args k e
    → IsHeld v args (with_given k r (Some x)) (if_held e r o)
given-held v args k e r x None q h = absurd (none-some (held_as (mean v v) (range_in args) x) q)
given-held v args k e None x (Some y) q h = λ n z g. h n z g
given-held v args k e (Some m) x (Some y) q h = λ n z g. at n z (same_name m n) g
  where
    at : (n : List ℕ) (z : Known) (b : Bool) → (if b then Some x else k n) ≡ Some z → (if b then Some y else e n) ≡ Some (held_as (mean v v) (range_in args) z)
    at n z true g = q ∙ ap (λ w. Some (held_as (mean v v) (range_in args) w)) (same_Some x z g)
    at n z false g = h n z g

module _ (u : UnitText) (args : List Range) (now : List Bool) (t : Instant) (past : Option Valuation) (memory : Option (List Bool)) where
  abbrev pub v : Valuation
  v = reads args now

  fit : IsFitting v
  fit = reads-fit args now

  -- the pass holds what is known, has seen the triggers of the rows so far, and wishes what they wish
  pub record Matches (e : EntityText) (p : Passed) : Type 0 where
    pub held : IsHeld v args e.known p.held
    pub seen : p.seen ≡ seen_by v e.rows
    pub wish : p.wish ≡ rows_wish past v args t e.rows

  -- the memory is that of rows of which these are the first
  abbrev Recalls : List EntityRow → Type 0
  Recalls rows = (more : List EntityRow) × (memory ≡ memory_of past (rows ++ more))

  module _ (names : KnownNames) (l : LineText) (fine : LineFine u l) (e : EntityText) (f : ReadFine u names e) (p : Passed) (m : Matches e p) where
    given-matches : (e1 : EntityText) → e1.known ≡ e.known → e1.rows ≡ e.rows → (x : Known) (o : Option Held) → o ≡ Some (held_as (mean v v) (range_in args) x)
        → Matches (gives e1 l.result (Some x)) (record p { held = if_held p.held l.result o })
    given-matches e1 k r x o q = record {
      held = given-held v args e1.known p.held l.result x o q (subst (λ j. IsHeld v args j p.held) (sym k) m.held);
      seen = m.seen ∙ ap (seen_by v) (sym r);
      wish = m.wish ∙ ap (rows_wish past v args t) (sym r);
    }

    operation-given : (o : Op) (os : List OperandText) (x : Known) → Gives u e.known o os x → effects.operated u p.held o os ≡ Some (held_as (mean v v) (range_in args) x)
    operation-given o os _ (gives_term ts q (inl h)) = operations-do v fit args e.known p.held m.held u o os ts q h
    operation-given o os _ (gives_term ts q (inr b)) = operation-means v fit args e.known p.held m.held u o os ts q (built-means o b v v ts)
    operation-given o os _ (gives_part x) = part-done u e.known args p.held o os x (part-held v args e.known p.held m.held x.operand.value x.whole x.known)

    -- the registers before are recalled, and then these triggers
    recalls-triggers : (q : Part) (gs : List TriggerRow) → Recalls (e.rows ++ registered q gs ∷ []) → Remembers past memory p.seen gs
    recalls-triggers q gs r = by past r.1
      where
        rows : List EntityRow
        rows = e.rows ++ registered q gs ∷ []

        apart : (w : Valuation) → seen_by w (rows ++ r.0) ≡ seen_by w e.rows ++ (triggers_seen w gs ++ seen_by w r.0)
        apart w = flat_map-append (row_seen w) rows r.0 ∙ ap (λ xs. xs ++ seen_by w r.0) (seen-more w e.rows (registered q gs)) ∙ append_assoc (seen_by w e.rows) (triggers_seen w gs) (seen_by w r.0)

        by : (o : Option Valuation) → memory ≡ memory_of o (rows ++ r.0) → Remembers o memory p.seen gs
        by None z = subst (λ (y : Option (List Bool)). Remembers None y p.seen gs) (sym z) (no_run p.seen gs)
        by (Some w) z =
            subst (λ (y : Option (List Bool)). Remembers (Some w) y p.seen gs) (sym (z ∙ ap Some (apart w)))
            (a_run w (seen_by w e.rows) (seen_by w r.0) p.seen gs (seen-length w v e.rows ∙ sym (ap length m.seen)))

    row-matches : (r : EntityRow) (new : Passed) → new.held ≡ p.held → new.seen ≡ p.seen ++ row_seen v r → new.wish ≡ row_made past v args t p.wish r
        → Matches (record e { rows = e.rows ++ r ∷ [] }) new
    row-matches r new h s w = record {
      held = subst (λ (x : Env). IsHeld v args e.known x) (sym h) m.held;
      seen = s ∙ ap (λ xs. xs ++ row_seen v r) m.seen ∙ sym (seen-more v e.rows r);
      wish = w ∙ ap (λ x. row_made past v args t x r) m.wish ∙ sym (wish-more past v args t e.rows r);
    }

    matches-by : (i : InstText) → l.inst ≡ i → LineKind i → UsesKnown e i → Recalls (reads_line e i l.result).rows
        → Matches (reads_line e i l.result) (passes u now memory t i l.result p)
    matches-by _ q (a_constant d) h r = given-matches e refl refl (known_value (constant d)) (Some (datum_held d)) refl
    matches-by _ q (an_operation o os) h r =
        let x = operation-of u names l fine e f o os q h in
        subst (λ y. Matches (gives e l.result y) (record p { held = if_held p.held l.result (effects.operated u p.held o os) })) (sym x.is)
        (given-matches e refl refl x.known (effects.operated u p.held o os) (operation-given o os x.known x.gives))
    matches-by _ q (a_probe s) h r =
        let x = probe-of u names l fine e f s q h in
        subst (λ y. Matches (probed e l.result y) (record p { held = if_held p.held l.result (effects.probed now p.held s) })) (sym x.is)
        (given-matches (record e { probes = e.probes ++ x.part ∷ [] }) refl refl (known_value (now_of x.part)) (effects.probed now p.held s)
        (probes-do args now e.known p.held s x.part m.held x.is x.written))
    matches-by _ q (a_drive to value after cond) h r =
        let x = drive-of u names l fine e f to value after cond q h in
        subst (λ y. Matches (with_row e y) (record p { wish = unwrap_or (driven t p.held p.wish to value after cond) p.wish })) (sym x.is)
        (row-matches (driven_by x.drive) (record p { wish = unwrap_or (driven t p.held p.wish to value after cond) p.wish }) refl (sym (append-nil p.seen))
        (drives-do v fit args e.known p.held m.held past t p.wish to value after cond x.drive x.is x.typed.cond))
    matches-by _ q (a_register to gs) h r =
        let x = register-of u names l fine e f to gs q h in
        let is : register_row (part_known e.known to.value) (triggers_known e.known gs) ≡ Some (registered x.part x.rows) = λ i. register_row (x.part_is i) (x.rows_are i) in
        let recalls : Recalls (e.rows ++ registered x.part x.rows ∷ []) = subst (λ y. Recalls (with_row e y).rows) is r in
        let d = registers-do past v args t memory e.known to gs p x.part x.rows m.held x.part_is x.rows_are (recalls-triggers x.part x.rows recalls) in
        subst (λ y. Matches (with_row e y) (triggers_from memory t to false p gs)) (sym is)
        (row-matches (registered x.part x.rows) (triggers_from memory t to false p gs) d.held d.seen d.wish)

    line-matches : Each (λ n. names n ≡ true) (values_named l.inst) → Recalls (reads_line e l.inst l.result).rows → Matches (reads_line e l.inst l.result) (passes u now memory t l.inst l.result p)
    line-matches h r = matches-by l.inst refl (line-kind u names l fine e f) (uses-known u names l fine e f h) r

  -- ---- all lines

  pub lines-match : (ls : List LineText) (names : KnownNames) (e : EntityText) (p : Passed) → Each (LineFine u) ls → NamesKnown names ls → ReadFine u names e → Matches e p
      → memory ≡ memory_of past (reads_lines e ls).rows → Matches (reads_lines e ls) (pass_from u now memory t p ls)
  lines-match [] names e p fs ns f m z = m
  lines-match (l ∷ ls) names e p fs ns f m z =
      let e1 = reads_line e l.inst l.result in
      let g = rows-grow ls e1 in
      let recalls : Recalls e1.rows = (g.more, z ∙ ap (memory_of past) g.is) in
      lines-match ls (known_after names l) e1 (passes u now memory t l.inst l.result p) fs.1 ns.1 (line-fine u names l fs.0 e f ns.0) (line-matches names l fs.0 e f p m ns.0 recalls) z
