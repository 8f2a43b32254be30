-- What is read by ids stands for what an entity says, line by line.
use Rattle.std.proofs.Common.{◌≡◌, ℕ, ◌<◌, List, [], ◌∷◌, ◌++◌, Option, Some, None, refl, ap, sym, subst}
use Rattle.lh_unit.specs.Arena.{Arena, IsArena, naming, unit_count}
use Rattle.lh_unit.specs.Naming.{maybe_text}
use Rattle.lh_unit.specs.declared.inst.ValueId.{ValueId}
use Rattle.lh_term.specs.Tree.{Tree}
use Rattle.lh_term.specs.Arena.{Grows}
use Rattle.lh_term.specs.declared.part.Part.{Part}
use Rattle.lh_term.specs.declared.term.TermId.{TermId}
use Rattle.lh_term.specs.declared.term.TermNode.{TermNode}
use Rattle.lh_region_def.specs.Known as text
use Rattle.lh_region_def.specs.Known.{known_value}
use Rattle.lh_region_def.specs.Rows.{Drive}
use Rattle.lh_region.specs.Stands.{IsDrive, AreDrives}
use Rattle.lh_region.specs.declared.rows.DriveRow.{DriveRow}
use Rattle.lh_region.proofs.RowLists.{drives-grown, drives-push}
use Rattle.lh_cert_rows.specs.Rows.{TriggerRow, EntityRow, driven_by, registered, drives_in, registers_in}
use Rattle.lh_cert_rows.specs.Reading.{EntityText, gives, with_row, drive_row, register_row}
use Rattle.lh_cert_read.specs.Known.{given, MaybeIn, IsKnown, Knows}
use Rattle.lh_cert_read.specs.Rows.{IsRegister, AreRegisters, Says}
use Rattle.lh_cert_read.specs.Lines.{IsReading, MaybeTerm, MaybeTriggers, drive_by, register_by}
use Rattle.lh_cert_read.specs.declared.known.Known.{Known}
use Rattle.lh_cert_read.specs.declared.known.Known.TheVariants as known
use Rattle.lh_cert_read.specs.declared.known.KnownValues.{KnownValues}
use Rattle.lh_cert_read.specs.declared.reading.Reading.{Reading}
use Rattle.lh_cert_read.specs.declared.rows.EntityRows.{EntityRows}
use Rattle.lh_cert_read.specs.declared.rows.RegisterRow.{RegisterRow}
use Rattle.lh_cert_read.specs.declared.rows.RegisterTrigger.{RegisterTrigger}
use Rattle.lh_cert_read.proofs.Found.{knows-given, knows-grown}
use Rattle.lh_cert_read.proofs.Triggers.{triggers-grown}

-- ---- rows

registers-grown : (ns ms : List TermNode) → Grows ns ms → (rs : List RegisterRow) (xs : List (Part × List TriggerRow)) → AreRegisters ns rs xs → AreRegisters ms rs xs
registers-grown ns ms g [] [] h = tt
registers-grown ns ms g (r ∷ rs) (x ∷ xs) h = (record { part = h.0.part; triggers = triggers-grown ns ms g r.triggers x.1 h.0.triggers }, registers-grown ns ms g rs xs h.1)
registers-grown ns ms g [] (x ∷ xs) h = absurd h
registers-grown ns ms g (r ∷ rs) [] h = absurd h

registers-push : (ns : List TermNode) (rs : List RegisterRow) (xs : List (Part × List TriggerRow)) (r : RegisterRow) (x : Part × List TriggerRow) → AreRegisters ns rs xs → IsRegister ns r x
    → AreRegisters ns (rs ++ r ∷ []) (xs ++ x ∷ [])
registers-push ns [] [] r x h i = (i, tt)
registers-push ns (q ∷ qs) (y ∷ ys) r x h i = (h.0, registers-push ns qs ys r x h.1 i)
registers-push ns [] (y ∷ ys) r x h i = absurd h
registers-push ns (q ∷ qs) [] r x h i = absurd h

pub says-grown : (ns ms : List TermNode) → Grows ns ms → (r : EntityRows) (e : EntityText) → Says ns r e → Says ms r e
says-grown ns ms g r e h = record {
  probes = h.probes;
  drives = drives-grown ns ms r.drives (drives_in e.rows) g h.drives;
  registers = registers-grown ns ms g r.registers (registers_in e.rows) h.registers;
}

drives-last : (rows : List EntityRow) (d : Drive) → drives_in (rows ++ driven_by d ∷ []) ≡ drives_in rows ++ d ∷ []
drives-last [] d = refl
drives-last (driven_by x ∷ rows) d = ap (λ (ds : List Drive). x ∷ ds) (drives-last rows d)
drives-last (registered p gs ∷ rows) d = drives-last rows d

drives-same : (rows : List EntityRow) (p : Part) (gs : List TriggerRow) → drives_in (rows ++ registered p gs ∷ []) ≡ drives_in rows
drives-same [] p gs = refl
drives-same (driven_by x ∷ rows) p gs = ap (λ (ds : List Drive). x ∷ ds) (drives-same rows p gs)
drives-same (registered q hs ∷ rows) p gs = drives-same rows p gs

registers-last : (rows : List EntityRow) (p : Part) (gs : List TriggerRow) → registers_in (rows ++ registered p gs ∷ []) ≡ registers_in rows ++ (p, gs) ∷ []
registers-last [] p gs = refl
registers-last (driven_by x ∷ rows) p gs = registers-last rows p gs
registers-last (registered q hs ∷ rows) p gs = ap (λ (rs : List (Part × List TriggerRow)). (q, hs) ∷ rs) (registers-last rows p gs)

registers-same : (rows : List EntityRow) (d : Drive) → registers_in (rows ++ driven_by d ∷ []) ≡ registers_in rows
registers-same [] d = refl
registers-same (driven_by x ∷ rows) d = registers-same rows d
registers-same (registered q hs ∷ rows) d = ap (λ (rs : List (Part × List TriggerRow)). (q, hs) ∷ rs) (registers-same rows d)

-- the drive, if there is one, is that one
abbrev pub MaybeDrive : List TermNode → Option DriveRow → Option EntityRow → Type 0
MaybeDrive ns None None = Unit {0}
MaybeDrive ns (Some d) (Some (driven_by x)) = IsDrive ns d x
MaybeDrive ns _ _ = ⊥

-- the register, if there is one, is that one
abbrev pub MaybeRegister : List TermNode → Option RegisterRow → Option EntityRow → Type 0
MaybeRegister ns None None = Unit {0}
MaybeRegister ns (Some r) (Some (registered p gs)) = IsRegister ns r (p, gs)
MaybeRegister ns _ _ = ⊥

pub drive-made : (ns : List TermNode) (oc : Option TermId) (op : Option Part) (ov od : Option TermId) (c : Option Tree) (p : Option Part) (v d : Option Tree) → MaybeTerm ns oc c → op ≡ p → MaybeTerm ns ov v
    → MaybeTerm ns od d → MaybeDrive ns (drive_by oc op ov od) (drive_row c p v d)
drive-made ns oc op ov od c p v d mc mp mv md = subst (λ (q : Option Part). MaybeDrive ns (drive_by oc op ov od) (drive_row c q v d)) mp (by oc op ov od c v d mc mv md)
  where
    by : (oc : Option TermId) (op : Option Part) (ov od : Option TermId) (c v d : Option Tree) → MaybeTerm ns oc c → MaybeTerm ns ov v → MaybeTerm ns od d → MaybeDrive ns (drive_by oc op ov od) (drive_row c op v d)
    by (Some oc) (Some op) (Some ov) (Some od) (Some c) (Some v) (Some d) mc mv md = record { cond = mc; part = refl; value = mv; delay = md }
    by None op ov od None v d mc mv md = tt
    by (Some oc) None ov od (Some c) v d mc mv md = tt
    by (Some oc) (Some op) None od (Some c) None d mc mv md = tt
    by (Some oc) (Some op) (Some ov) None (Some c) (Some v) None mc mv md = tt
    by None op ov od (Some c) v d mc mv md = absurd mc
    by (Some oc) None ov od None v d mc mv md = absurd mc
    by (Some oc) (Some op) None od None v d mc mv md = absurd mc
    by (Some oc) (Some op) None od (Some c) (Some v) d mc mv md = absurd mv
    by (Some oc) (Some op) (Some ov) od None v d mc mv md = absurd mc
    by (Some oc) (Some op) (Some ov) od (Some c) None d mc mv md = absurd mv
    by (Some oc) (Some op) (Some ov) None (Some c) (Some v) (Some d) mc mv md = absurd md
    by (Some oc) (Some op) (Some ov) (Some od) (Some c) (Some v) None mc mv md = absurd md

pub register-made : (ns : List TermNode) (op : Option Part) (og : Option (List RegisterTrigger)) (p : Option Part) (gs : Option (List TriggerRow)) → op ≡ p → MaybeTriggers ns og gs
    → MaybeRegister ns (register_by op og) (register_row p gs)
register-made ns op og p gs mp mg = subst (λ (q : Option Part). MaybeRegister ns (register_by op og) (register_row q gs)) mp (by op og gs mg)
  where
    by : (op : Option Part) (og : Option (List RegisterTrigger)) (gs : Option (List TriggerRow)) → MaybeTriggers ns og gs → MaybeRegister ns (register_by op og) (register_row op gs)
    by (Some p) (Some xs) (Some ys) m = record { part = refl; triggers = m }
    by None og gs m = tt
    by (Some p) None None m = tt
    by (Some p) None (Some ys) m = absurd m
    by (Some p) (Some xs) None m = absurd m

-- ---- a line

module _ (a : Arena) (u : ℕ) (ns ms : List TermNode) (grows : Grows ns ms) (was : Reading) (e : EntityText) (r : IsReading a u ns was e) where
  knows-still : Knows a u ms was.known.values.items e.known
  knows-still = knows-grown a u ns ms was.known.values.items e.known grows r.known

  says-still : Says ms was.rows e
  says-still = says-grown ns ms grows was.rows e r.says

  -- nothing was said
  pub still-read : IsReading a u ms was e
  still-read = record { known = knows-still; says = says-still }

  same-read : (is : Reading) → is.known.values.items ≡ was.known.values.items → is.rows ≡ was.rows → IsReading a u ms is e
  same-read is v s = record {
    known = subst (λ (vs : List (Option Known)). Knows a u ms vs e.known) (sym v) knows-still;
    says = subst (λ (rs : EntityRows). Says ms rs e) (sym s) says-still;
  }

  -- something is known of a result
  pub gives-read : (o : IsArena a) (hu : u < unit_count a) (name : Option ValueId) → MaybeIn was.known.values.items name → (x : Known) (y : text.Known) → IsKnown ms (Some x) (Some y) → (is : Reading)
      → is.known.values.items ≡ given was.known.values.items name (Some x) → is.rows ≡ was.rows → IsReading a u ms is (gives e (maybe_text (naming a u) name) (Some y))
  gives-read o hu name w x y i is v s = record {
    known = subst (λ (vs : List (Option Known)). Knows a u ms vs (text.with_given e.known (maybe_text (naming a u) name) (Some y))) (sym v)
        (knows-given a u o hu ms was.known.values.items e.known name x y knows-still w i);
    says = subst (λ (rs : EntityRows). Says ms rs (gives e (maybe_text (naming a u) name) (Some y))) (sym s)
        (record { probes = says-still.probes; drives = says-still.drives; registers = says-still.registers });
  }

  -- what is given, if anything is, is known of a result
  pub gives-maybe : (o : IsArena a) (hu : u < unit_count a) (name : Option ValueId) → MaybeIn was.known.values.items name → (x : Option Known) (y : Option text.Known) → IsKnown ms x y → (is : Reading)
      → is.known.values.items ≡ given was.known.values.items name x → is.rows ≡ was.rows → IsReading a u ms is (gives e (maybe_text (naming a u) name) y)
  gives-maybe o hu name w (Some x) (Some y) i is v s = gives-read o hu name w x y i is v s
  gives-maybe o hu None w None None i is v s = same-read is v s
  gives-maybe o hu (Some n) w None None i is v s = same-read is v s
  gives-maybe o hu name w None (Some y) i is v s = absurd i
  gives-maybe o hu name w (Some (known.Term t)) None i is v s = absurd i
  gives-maybe o hu name w (Some (known.Part t)) None i is v s = absurd i

  -- a drive is said
  pub drive-said : (o : Option DriveRow) (x : Option EntityRow) → MaybeDrive ms o x → (row : DriveRow) → o ≡ Some row → (is : Reading) → is.known ≡ was.known
      → is.rows ≡ record was.rows { drives = was.rows.drives ++ row ∷ [] } → IsReading a u ms is (with_row e x)
  drive-said o x m row q is k s = by x (subst (λ y. MaybeDrive ms y x) q m)
    where
      by : (x : Option EntityRow) → MaybeDrive ms (Some row) x → IsReading a u ms is (with_row e x)
      by None h = absurd h
      by (Some (registered p gs)) h = absurd h
      by (Some (driven_by new)) h = record {
        known = subst (λ (k : KnownValues). Knows a u ms k.values.items e.known) (sym k) knows-still;
        says = subst (λ (rs : EntityRows). Says ms rs (record e { rows = e.rows ++ driven_by new ∷ [] })) (sym s) (record {
          probes = says-still.probes;
          drives = subst (AreDrives ms (was.rows.drives ++ row ∷ [])) (sym (drives-last e.rows new)) (drives-push ms was.rows.drives (drives_in e.rows) row new says-still.drives h);
          registers = subst (AreRegisters ms was.rows.registers) (sym (registers-same e.rows new)) says-still.registers;
        });
      }

  pub no-drive-said : (o : Option DriveRow) (x : Option EntityRow) → MaybeDrive ms o x → o ≡ None → IsReading a u ms was (with_row e x)
  no-drive-said o x m q = by x (subst (λ y. MaybeDrive ms y x) q m)
    where
      by : (x : Option EntityRow) → MaybeDrive ms None x → IsReading a u ms was (with_row e x)
      by None h = still-read
      by (Some y) h = absurd h

  -- a register is said
  pub register-said : (o : Option RegisterRow) (x : Option EntityRow) → MaybeRegister ms o x → (row : RegisterRow) → o ≡ Some row → (is : Reading) → is.known ≡ was.known
      → is.rows ≡ record was.rows { registers = was.rows.registers ++ row ∷ [] } → IsReading a u ms is (with_row e x)
  register-said o x m row q is k s = by x (subst (λ y. MaybeRegister ms y x) q m)
    where
      by : (x : Option EntityRow) → MaybeRegister ms (Some row) x → IsReading a u ms is (with_row e x)
      by None h = absurd h
      by (Some (driven_by d)) h = absurd h
      by (Some (registered p gs)) h = record {
        known = subst (λ (k : KnownValues). Knows a u ms k.values.items e.known) (sym k) knows-still;
        says = subst (λ (rs : EntityRows). Says ms rs (record e { rows = e.rows ++ registered p gs ∷ [] })) (sym s) (record {
          probes = says-still.probes;
          drives = subst (AreDrives ms was.rows.drives) (sym (drives-same e.rows p gs)) says-still.drives;
          registers = subst (AreRegisters ms (was.rows.registers ++ row ∷ [])) (sym (registers-last e.rows p gs))
              (registers-push ms was.rows.registers (registers_in e.rows) row (p, gs) says-still.registers h);
        });
      }

  pub no-register-said : (o : Option RegisterRow) (x : Option EntityRow) → MaybeRegister ms o x → o ≡ None → IsReading a u ms was (with_row e x)
  no-register-said o x m q = by x (subst (λ y. MaybeRegister ms y x) q m)
    where
      by : (x : Option EntityRow) → MaybeRegister ms None x → IsReading a u ms was (with_row e x)
      by None h = still-read
      by (Some y) h = absurd h
