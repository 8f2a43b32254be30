-- An entity senses the parts that it probes: without any probe it holds its arguments and their parts.
use Rattle.std.proofs.Common.{◌≡◌, ◌⊎◌, inl, inr, ℕ, List, [], ◌∷◌, ◌++◌, map, Bool, true, false, if◌then◌else◌, Option, Some, None, refl, ap, sym, ◌∙◌, subst, append_assoc, append-nil}
use Rattle.std.specs.Option.{option_and_then, option_map_or}
use Rattle.std.proofs.lemmas.Bool.{false≢true, or_parts, or_left, or_right, or_cases}
use Rattle.std.proofs.lemmas.List.{map-append}
use Rattle.std.proofs.lemmas.Option.{same_Some, none-some}
use Rattle.lh_types.specs.declared.op.Op.{Op}
use Rattle.lh_types.specs.declared.part.Range.{Range}
use Rattle.lh_unit.specs.Contents.{OperandText, InstText, const_text, pure_text, prb_text, drv_text, reg_text, LineText, UnitText, is_result_name, lines_define, args_define}
use Rattle.lh_unit_names.specs.Names.{same_name}
use Rattle.lh_unit_names.proofs.NameLists.{same_name-is}
use Rattle.lh_unit.proofs.Defined.{lines_define-append}
use Rattle.lh_unit.specs.Held.{Held, datum_held, part_held, Env, as_part, part_at}
use Rattle.lh_unit.specs.Hierarchy.{if_held, static_of, static_from, probed_parts, part_if_probe}
use Rattle.lh_unit.specs.Within.{Each}
use Rattle.lh_unit.specs.WellFormed.{values_named}
use Rattle.lh_text_laws.specs.Printable.{result_repeats, results_repeat}
use Rattle.lh_eval_laws.proofs.FindingPass.{KnownNames, known_after, NamesKnown}
use Rattle.lh_term.specs.Tree.{constant, now_of}
use Rattle.lh_term.specs.declared.part.Part.{Part}
use Rattle.lh_region_def.specs.Known.{Known, known_value, known_cell, known_part, Knowledge, as_part as known_as_part, with_given, part_known}
use Rattle.lh_region_def.specs.Means.{range_in}
use Rattle.lh_cert_rows.specs.Reading.{EntityText, gives, probed, with_row, register_row, reads_line, reads_lines}
use Rattle.lh_cert_rows.proofs.EntityUnits.{LineFine}
use Rattle.lh_cert_rows.proofs.OperationTerms.{Gives, gives_term, gives_part, inner_part, part-done}
use Rattle.lh_cert_rows.proofs.LineRows.{ReadFine, UsesKnown, uses-known, operation-of, drive-of, register-of, probe-of, LineKind, a_constant, an_operation, a_probe, a_drive, a_register, line-kind, line-fine}

-- ---- names that are given once

module _ (u : UnitText) where
  -- an argument, or a result of these lines
  abbrev Defines : List LineText → List ℕ → Type 0
  Defines before n = (args_define n u.args ≡ true) ⊎ (lines_define n before ≡ true)

  defines-more : (before : List LineText) (l : LineText) (n : List ℕ) → Defines before n → Defines (before ++ l ∷ []) n
  defines-more before l n (inl a) = inl a
  defines-more before l n (inr d) = inr (lines_define-append n before (l ∷ []) ∙ or_left (lines_define n before) (lines_define n (l ∷ [])) d)

  defines-last : (before : List LineText) (l : LineText) (n : List ℕ) → is_result_name n l.result ≡ true → Defines (before ++ l ∷ []) n
  defines-last before l n q =
      inr (lines_define-append n before (l ∷ []) ∙ or_right (lines_define n before) (lines_define n (l ∷ [])) (or_left (is_result_name n l.result) false q))

  -- no line gives a name that is defined before it
  other-result : (before : List LineText) (r : Option (List ℕ)) (n : List ℕ) → result_repeats u.args before r ≡ false → Defines before n → (m : List ℕ) → r ≡ Some m → same_name m n ≡ false
  other-result before r n h d m q = by (same_name m n) refl
    where
      free : (args_define m u.args ≡ false) × (lines_define m before ≡ false)
      free = or_parts (args_define m u.args) (lines_define m before) (sym (ap (result_repeats u.args before) q) ∙ h)

      not-both : m ≡ n → Defines before n → ⊥
      not-both e (inl a) = false≢true (sym free.0 ∙ ap (λ x. args_define x u.args) e ∙ a)
      not-both e (inr z) = false≢true (sym free.1 ∙ ap (λ x. lines_define x before) e ∙ z)

      by : (b : Bool) → same_name m n ≡ b → b ≡ false
      by true e = absurd (not-both (same_name-is m n e) d)
      by false e = refl

  if-kept : (e : Env) (before : List LineText) (r : Option (List ℕ)) (o : Option Held) (n : List ℕ) → result_repeats u.args before r ≡ false → Defines before n → if_held e r o n ≡ e n
  if-kept e before r None n h d = refl
  if-kept e before None (Some x) n h d = refl
  if-kept e before (Some m) (Some x) n h d = ap (λ b. if b then Some x else e n) (other-result before (Some m) n h d m refl)

  -- so later lines change nothing under it
  static-kept : (ls before : List LineText) (e : Env) (n : List ℕ) → results_repeat u.args before ls ≡ false → Defines before n → static_from u e ls n ≡ e n
  static-kept [] before e n h d = refl
  static-kept (l ∷ ls) before e n h d =
      let z = or_parts (result_repeats u.args before l.result) (results_repeat u.args (before ++ l ∷ []) ls) h in
      static-kept ls (before ++ l ∷ []) (if_held e l.result (static_of u e l.inst)) n z.1 (defines-more before l n d) ∙ if-kept e before l.result (static_of u e l.inst) n z.0 d

-- ---- parts that are held

module _ (u : UnitText) (args : List Range) where
  -- each part that is known is held
  abbrev pub PartsHeld : Knowledge → Env → Type 0
  PartsHeld k e = (n : List ℕ) (p : Part) → k n ≡ Some (known_part p) → e n ≡ Some (part_held (range_in args p))

  parts-given : (k : Knowledge) (e : Env) (r : Option (List ℕ)) (x : Known) (o : Option Held) → ((p : Part) → x ≡ known_part p → o ≡ Some (part_held (range_in args p))) → PartsHeld k e
      → PartsHeld (with_given k r (Some x)) (if_held e r o)
  parts-given k e None x None g h = λ n p q. h n p q
  parts-given k e None x (Some y) g h = λ n p q. h n p q
  parts-given k e (Some m) x o g h = λ n p q. at n p (same_name m n) refl q o refl
    where
      at : (n : List ℕ) (p : Part) (b : Bool) → same_name m n ≡ b → (if b then Some x else k n) ≡ Some (known_part p) → (z : Option Held) → o ≡ z
          → if_held e (Some m) z n ≡ Some (part_held (range_in args p))
      at n p true e1 q None w = absurd (none-some (part_held (range_in args p)) (sym w ∙ g p (same_Some x (known_part p) q)))
      at n p true e1 q (Some y) w = ap (λ b. if b then Some y else e n) e1 ∙ sym w ∙ g p (same_Some x (known_part p) q)
      at n p false e1 q None w = h n p q
      at n p false e1 q (Some y) w = ap (λ b. if b then Some y else e n) e1 ∙ h n p q

  pub part-there : (k : Knowledge) (e : Env) → PartsHeld k e → (n : List ℕ) (p : Part) → part_known k n ≡ Some p → part_at e n ≡ Some (range_in args p)
  part-there k e h n p q = by (k n) refl q
    where
      by : (o : Option Known) → k n ≡ o → option_and_then known_as_part o ≡ Some p → part_at e n ≡ Some (range_in args p)
      by None w g = absurd (none-some p g)
      by (Some (known_value t)) w g = absurd (none-some p g)
      by (Some (known_cell t)) w g = absurd (none-some p g)
      by (Some (known_part y)) w g = ap (option_and_then as_part) (h n y w) ∙ ap (λ z. Some (range_in args z)) (same_Some y p g)

  module _ (names : KnownNames) (l : LineText) (fine : LineFine u l) (e : EntityText) (f : ReadFine u names e) (x : Env) (h : PartsHeld e.known x) where
    operation-parts : (o : Op) (os : List OperandText) (y : Known) → Gives u e.known o os y → (p : Part) → y ≡ known_part p → static_of u x (pure_text o os) ≡ Some (part_held (range_in args p))
    operation-parts o os _ (gives_term ts q z) p g = cc
    operation-parts o os _ (gives_part y) p g =
        let same : inner_part u e.known o os y ≡ p = cc in
        part-done u e.known args x o os y (part-there e.known x h y.operand.value y.whole y.known) ∙ ap (λ z. Some (part_held (range_in args z))) same

    -- what a line probes
    record Probes (i : InstText) (r : Option (List ℕ)) : Type 0 where
      parts : List Part
      are : (reads_line e i r).probes ≡ e.probes ++ parts
      held : PartsHeld (reads_line e i r).known (if_held x r (static_of u x i))
      sensed : (y : Env) → Each (λ n. y n ≡ x n) (values_named i) → (more : List Range) → part_if_probe y i more ≡ map (range_in args) parts ++ more

    nothing-probed : (i : InstText) (r : Option (List ℕ)) → (reads_line e i r).probes ≡ e.probes → PartsHeld (reads_line e i r).known (if_held x r (static_of u x i))
        → ((y : Env) (more : List Range) → part_if_probe y i more ≡ more) → Probes i r
    nothing-probed i r a k s = record { parts = []; are = a ∙ sym (append-nil e.probes); held = k; sensed = λ y z more. s y more }

    probes-by : (i : InstText) → l.inst ≡ i → LineKind i → UsesKnown e i → Probes i l.result
    probes-by _ q (a_constant d) z = nothing-probed (const_text d) l.result refl (parts-given e.known x l.result (known_value (constant d)) (Some (datum_held d)) (λ p g. cc) h) (λ y more. refl)
    probes-by _ q (an_operation o os) z =
        let y = operation-of u names l fine e f o os q z in
        nothing-probed (pure_text o os) l.result refl
        (subst (λ w. PartsHeld (with_given e.known l.result w) (if_held x l.result (static_of u x (pure_text o os)))) (sym y.is)
        (parts-given e.known x l.result y.known (static_of u x (pure_text o os)) (operation-parts o os y.known y.gives) h))
        (λ y more. refl)
    probes-by _ q (a_probe s) z =
        let y = probe-of u names l fine e f s q z in
        let is : reads_line e (prb_text s) l.result ≡ gives (record e { probes = e.probes ++ y.part ∷ [] }) l.result (Some (known_value (now_of y.part))) = ap (probed e l.result) y.is in
        record {
          parts = y.part ∷ [];
          are = ap (λ (w : EntityText). w.probes) is;
          held = subst (λ (w : EntityText). PartsHeld w.known x) (sym is) (parts-given e.known x l.result (known_value (now_of y.part)) None (λ p g. cc) h);
          sensed = λ w a more.
              let there : part_at w s.value ≡ Some (range_in args y.part) = ap (option_and_then as_part) a.0 ∙ part-there e.known x h s.value y.part y.is in
              ap (λ o. option_map_or (λ r. r ∷ more) o more) there;
        }
    probes-by _ q (a_drive to value after cond) z =
        let y = drive-of u names l fine e f to value after cond q z in
        let is = ap (with_row e) y.is in
        nothing-probed (drv_text to value after cond) l.result (ap (λ (w : EntityText). w.probes) is) (subst (λ (w : EntityText). PartsHeld w.known x) (sym is) h) (λ y more. refl)
    probes-by _ q (a_register to gs) z =
        let y = register-of u names l fine e f to gs q z in
        let is : reads_line e (reg_text to gs) l.result ≡ _ = ap (with_row e) (λ i. register_row (y.part_is i) (y.rows_are i)) in
        nothing-probed (reg_text to gs) l.result (ap (λ (w : EntityText). w.probes) is) (subst (λ (w : EntityText). PartsHeld w.known x) (sym is) h) (λ y more. refl)

    line-probes : Each (λ n. names n ≡ true) (values_named l.inst) → Probes l.inst l.result
    line-probes n = probes-by l.inst refl (line-kind u names l fine e f) (uses-known u names l fine e f n)

  -- ---- all lines

  -- what lines probe, and what the entity senses of them
  pub record AllProbed (ls : List LineText) (e : EntityText) (x : Env) : Type 0 where
    pub parts : List Part
    pub are : (reads_lines e ls).probes ≡ e.probes ++ parts
    pub sensed : probed_parts (static_from u x ls) ls ≡ map (range_in args) parts

  each-same : (x y : Env) (P : List ℕ → Type 0) → ((n : List ℕ) → P n → y n ≡ x n) → (ns : List (List ℕ)) → Each P ns → Each (λ n. y n ≡ x n) ns
  each-same x y P go [] h = tt
  each-same x y P go (n ∷ ns) h = (go n h.0, each-same x y P go ns h.1)

  pub all-probed : (ls before : List LineText) (names : KnownNames) (e : EntityText) (x : Env) → Each (LineFine u) ls → NamesKnown names ls → ReadFine u names e → PartsHeld e.known x
      → results_repeat u.args before ls ≡ false → ((n : List ℕ) → names n ≡ true → Defines u before n) → AllProbed ls e x
  all-probed [] before names e x fs ns f h r d = record { parts = []; are = sym (append-nil e.probes); sensed = refl }
  all-probed (l ∷ ls) before names e x fs ns f h r d =
      let one = line-probes names l fs.0 e f x h ns.0 in
      let e1 : EntityText = reads_line e l.inst l.result in
      let x1 : Env = if_held x l.result (static_of u x l.inst) in
      let end : Env = static_from u x1 ls in
      let later = or_parts (result_repeats u.args before l.result) (results_repeat u.args (before ++ l ∷ []) ls) r in
      let rest = all-probed ls (before ++ l ∷ []) (known_after names l) e1 x1 fs.1 ns.1 (line-fine u names l fs.0 e f ns.0) one.held later.1 (λ n q. after n (or_cases (names n) (is_result_name n l.result) q)) in
      let same : Each (λ n. end n ≡ x n) (values_named l.inst) = each-same x end (λ n. names n ≡ true) (λ n q. static-kept u (l ∷ ls) before x n r (d n q)) (values_named l.inst) ns.0 in
      record {
        parts = one.parts ++ rest.parts;
        are = rest.are ∙ ap (λ ps. ps ++ rest.parts) one.are ∙ append_assoc e.probes one.parts rest.parts;
        sensed = ap (part_if_probe end l.inst) rest.sensed ∙ one.sensed end same (map (range_in args) rest.parts) ∙ sym (map-append (range_in args) one.parts rest.parts);
      }
    where
      after : (n : List ℕ) → (names n ≡ true) ⊎ (is_result_name n l.result ≡ true) → Defines u (before ++ l ∷ []) n
      after n (inl q) = defines-more u before l n (d n q)
      after n (inr q) = defines-last u before l n q
