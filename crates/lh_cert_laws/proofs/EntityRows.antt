-- The rows of an entity without `reg`, and of one without `drv`.
use Rattle.std.proofs.Common.{◌≡◌, ℕ, List, [], ◌∷◌, fold, Bool, false, Option, Some, None, refl, ap, sym, ◌∙◌}
use Rattle.std.proofs.lemmas.Bool.{false≢true, or_parts}
use Rattle.lh_time.specs.declared.Instant.{Instant}
use Rattle.lh_types.specs.Wish.{Wish}
use Rattle.lh_types.specs.declared.part.Range.{Range}
use Rattle.lh_unit.specs.Contents.{InstText, const_text, pure_text, prb_text, drv_text, reg_text, LineText, UnitText}
use Rattle.lh_unit.specs.Hierarchy.{lines_of}
use Rattle.lh_unit.specs.Pass.{Passed, passes, pass_from, pass}
use Rattle.lh_unit.specs.Within.{Each}
use Rattle.lh_unit.proofs.Lists.{Each-append}
use Rattle.lh_term.specs.Tree.{Tree}
use Rattle.lh_term.specs.Mean.{Valuation}
use Rattle.lh_term.specs.declared.part.Part.{Part}
use Rattle.lh_region_def.specs.Means.{with_rows, with_row as row_wished}
use Rattle.lh_region_def.specs.Right.{DriveTyped}
use Rattle.lh_region_def.specs.Known.{part_known, value_known}
use Rattle.lh_cert_rows.specs.Rows.{TriggerRow, EntityRow, driven_by, registered, drives_in, registers_in}
use Rattle.lh_cert_rows.specs.Reading.{EntityText, probed, with_row, condition_known, drive_row, triggers_known, register_row, reads_line, reads_lines, read}
use Rattle.lh_cert_rows.specs.Means.{row_made, first_fired, stored}
use Rattle.lh_cert_rows.specs.Passing.{TriggerTyped, RowTyped, TriggerReads, RowReads}
use Rattle.lh_cert_def.specs.Headers.{is_drive, is_register, has_drive, has_register}

abbrev pub IsDriveRow : EntityRow → Type 0
IsDriveRow (driven_by d) = Unit {0}
IsDriveRow (registered p gs) = ⊥

abbrev pub IsRegisterRow : EntityRow → Type 0
IsRegisterRow (driven_by d) = ⊥
IsRegisterRow (registered p gs) = Unit {0}

-- ---- the rows of lines

probed-rows : (P : EntityRow → Type 0) (e : EntityText) (r : Option (List ℕ)) (o : Option Part) → Each P e.rows → Each P (probed e r o).rows
probed-rows P e r None h = h
probed-rows P e r (Some p) h = h

-- a line without `reg` adds no register
drive-added : (e : EntityText) (c : Option Tree) (p : Option Part) (v d : Option Tree) → Each IsDriveRow e.rows → Each IsDriveRow (with_row e (drive_row c p v d)).rows
drive-added e (Some c) (Some p) (Some v) (Some d) h = Each-append IsDriveRow e.rows _ h (tt, tt)
drive-added e None p v d h = h
drive-added e (Some c) None v d h = h
drive-added e (Some c) (Some p) None d h = h
drive-added e (Some c) (Some p) (Some v) None h = h

drive-line : (e : EntityText) (i : InstText) (r : Option (List ℕ)) → is_register i ≡ false → Each IsDriveRow e.rows → Each IsDriveRow (reads_line e i r).rows
drive-line e (prb_text s) r q h = probed-rows IsDriveRow e r (part_known e.known s.value) h
drive-line e (drv_text to value after cond) r q h = drive-added e (condition_known e.known cond) (part_known e.known to.value) (value_known e.known value) (value_known e.known after) h
drive-line e (reg_text to gs) r q h = absurd (false≢true (sym q))
drive-line e _ r q h = h

drive-lines : (ls : List LineText) (e : EntityText) → has_register ls ≡ false → Each IsDriveRow e.rows → Each IsDriveRow (reads_lines e ls).rows
drive-lines [] e q h = h
drive-lines (l ∷ ls) e q h =
    let z = or_parts (is_register l.inst) (has_register ls) q in
    drive-lines ls (reads_line e l.inst l.result) z.1 (drive-line e l.inst l.result z.0 h)

pub drives-alone : (y : UnitText) → has_register (lines_of y.blocks) ≡ false → Each IsDriveRow (read y).rows
unfolding read
drives-alone y q = drive-lines (lines_of y.blocks) _ q tt

-- a line without `drv` adds no drive
register-added : (e : EntityText) (p : Option Part) (gs : Option (List TriggerRow)) → Each IsRegisterRow e.rows → Each IsRegisterRow (with_row e (register_row p gs)).rows
register-added e (Some p) (Some gs) h = Each-append IsRegisterRow e.rows _ h (tt, tt)
register-added e None gs h = h
register-added e (Some p) None h = h

register-line : (e : EntityText) (i : InstText) (r : Option (List ℕ)) → is_drive i ≡ false → Each IsRegisterRow e.rows → Each IsRegisterRow (reads_line e i r).rows
register-line e (prb_text s) r q h = probed-rows IsRegisterRow e r (part_known e.known s.value) h
register-line e (reg_text to gs) r q h = register-added e (part_known e.known to.value) (triggers_known e.known gs) h
register-line e (drv_text to value after cond) r q h = absurd (false≢true (sym q))
register-line e _ r q h = h

register-lines : (ls : List LineText) (e : EntityText) → has_drive ls ≡ false → Each IsRegisterRow e.rows → Each IsRegisterRow (reads_lines e ls).rows
register-lines [] e q h = h
register-lines (l ∷ ls) e q h =
    let z = or_parts (is_drive l.inst) (has_drive ls) q in
    register-lines ls (reads_line e l.inst l.result) z.1 (register-line e l.inst l.result z.0 h)

pub registers-alone : (y : UnitText) → has_drive (lines_of y.blocks) ≡ false → Each IsRegisterRow (read y).rows
unfolding read
registers-alone y q = register-lines (lines_of y.blocks) _ q tt

-- ---- what they wish

pub drives-wish : (past : Option Valuation) (v : Valuation) (args : List Range) (t : Instant) (w : Wish) (rows : List EntityRow) → Each IsDriveRow rows
    → fold (row_made past v args t) w rows ≡ with_rows v v args t w (drives_in rows)
drives-wish past v args t w [] h = refl
drives-wish past v args t w (driven_by d ∷ rows) h = drives-wish past v args t (row_wished v v args t w d) rows h.1
drives-wish past v args t w (registered p gs ∷ rows) h = absurd h.0

-- a part with its triggers
abbrev pub Register : Type 0
Register = Part × List TriggerRow

-- the wish with what a register drives
abbrev pub made : (past : Option Valuation) → (now : Valuation) → List Range → Instant → Wish → Register → Wish
made past now args t w r = stored now args t r.0 w (first_fired past now r.1)

pub registers-made : (past : Option Valuation) (v : Valuation) (args : List Range) (t : Instant) (w : Wish) (rows : List EntityRow) → Each IsRegisterRow rows
    → fold (row_made past v args t) w rows ≡ fold (made past v args t) w (registers_in rows)
registers-made past v args t w [] h = refl
registers-made past v args t w (driven_by d ∷ rows) h = absurd h.0
registers-made past v args t w (registered p gs ∷ rows) h = registers-made past v args t (stored v args t p w (first_fired past v gs)) rows h.1

-- ---- they are typed

pub drives-typed : (rows : List EntityRow) → Each RowTyped rows → Each DriveTyped (drives_in rows)
drives-typed [] h = tt
drives-typed (driven_by d ∷ rows) h = (h.0, drives-typed rows h.1)
drives-typed (registered p gs ∷ rows) h = drives-typed rows h.1

abbrev pub RegisterTyped : Register → Type 0
RegisterTyped r = Each (TriggerTyped r.0.ty) r.1

pub registers-typed : (rows : List EntityRow) → Each RowTyped rows → Each RegisterTyped (registers_in rows)
registers-typed [] h = tt
registers-typed (driven_by d ∷ rows) h = registers-typed rows h.1
registers-typed (registered p gs ∷ rows) h = (h.0.1, registers-typed rows h.1)

pub registers-read : (P : Part → Type 0) (rows : List EntityRow) → Each (RowReads P) rows → Each (λ (r : Register). Each (TriggerReads P) r.1) (registers_in rows)
registers-read P [] h = tt
registers-read P (driven_by d ∷ rows) h = registers-read P rows h.1
registers-read P (registered p gs ∷ rows) h = (h.0, registers-read P rows h.1)

-- ---- without `reg` nothing is remembered

module _ (u : UnitText) (now : List Bool) (a b : Option (List Bool)) (t : Instant) where
  line-alike : (i : InstText) (r : Option (List ℕ)) (p : Passed) → is_register i ≡ false → passes u now a t i r p ≡ passes u now b t i r p
  line-alike (const_text d) r p q = refl
  line-alike (pure_text o os) r p q = refl
  line-alike (prb_text s) r p q = refl
  line-alike (drv_text to value after cond) r p q = refl
  line-alike (reg_text to gs) r p q = absurd (false≢true (sym q))
  line-alike _ r p q = refl

  lines-alike : (ls : List LineText) (p : Passed) → has_register ls ≡ false → pass_from u now a t p ls ≡ pass_from u now b t p ls
  lines-alike [] p q = refl
  lines-alike (l ∷ ls) p q =
      let z = or_parts (is_register l.inst) (has_register ls) q in
      lines-alike ls (passes u now a t l.inst l.result p) z.1 ∙ ap (λ x. pass_from u now b t x ls) (line-alike l.inst l.result p z.0)

  pub pass-alike : (args : List Range) → has_register (lines_of u.blocks) ≡ false → pass u args [] now a t ≡ pass u args [] now b t
  unfolding pass
  pass-alike args q = lines-alike (lines_of u.blocks) _ q
