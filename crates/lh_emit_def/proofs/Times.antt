-- The times in the instructions of an entity are those of its delays, and its registers have triggers.
use Rattle.std.proofs.Common.{◌≡◌, ℕ, Bool, true, false, ◌&&◌, if◌then◌else◌, List, [], ◌∷◌, map, Option, Some, None, slice_get, refl, sym, ◌∙◌, subst, arith}
use Rattle.std.specs.Prelude.{fold}
use Rattle.std.specs.List.{list_all}
use Rattle.std.specs.Option.{is_none}
use Rattle.lh_types.specs.Types.{TypeTree, TypeRow, int_type, time_type, array_type, tuple_type, signal_type, no_types, more_types, row_of, IsData, AreData}
use Rattle.lh_types.specs.Values.{Datum, DatumRow, int_value, time_value, array_value, tuple_value, no_values, more_values}
use Rattle.lh_types.specs.Fits.{FitsType, PartsFit, FitsRow}
use Rattle.lh_types.specs.Faults.{array_fault}
use Rattle.lh_types.specs.Same.{and_both}
use Rattle.lh_types.specs.declared.op.Op.{Op}
use Rattle.lh_types.specs.declared.op.Op.TheVariants.{Array}
use Rattle.lh_unit.specs.Contents.{InstText, const_text, pure_text, reg_text, LineText}
use Rattle.lh_unit.specs.Within.{Each}
use Rattle.lh_term.specs.Tree.{Tree, TreeRow, constant, past_of, now_of, operation, choice_of, no_trees, more_trees, operation_on}
use Rattle.lh_term.specs.Types.{IsTyped, AreTyped, type_of, types_of}
use Rattle.lh_term.specs.Make.{is_bit, is_constant, value_in}
use Rattle.lh_term.proofs.TermTypes.{gives_is}
use Rattle.lh_term.specs.declared.part.Part.{Part}
use Rattle.lh_emit_def.specs.Given.{Drive, TriggerTree, EdgeRowTree}
use Rattle.lh_emit_def.specs.Emitted.{PartStep, Source, Emitted, gives, next_name, takes_steps, typed, signal, arg_name, unless_there, need_part}
use Rattle.lh_emit_def.specs.Needs.{gives_operation, need_value, need_values, need_pair, need, need_all}
use Rattle.lh_emit_def.specs.Entities.{need_cond, emit_drive, emit_drives, emit_probes, need_trigger, trigger_text, need_register, emit_register_by, emit_register, choices_fit, drive_fits, row_fits}
use Rattle.lh_emit_def.specs.Ways.{WaitIsGiven, DriveIsGiven, TriggerIsGiven, RowIsGiven}
use Rattle.lh_emit_def.specs.Printed.{IsWritable, DelayIsWritable, DriveIsWritable, RowIsWritable}
use Rattle.lh_emit_def.proofs.InstructionSpelling.{each-append}

-- a time can be written, and a register has triggers
abbrev pub TimeFits : InstText → Type 0
TimeFits (const_text (time_value d)) = IsWritable d
TimeFits (reg_text to []) = ⊥
TimeFits _ = Unit {0}

abbrev pub TimeLine : LineText → Type 0
TimeLine l = TimeFits l.inst

abbrev pub Timed : Emitted → Type 0
Timed e = Each TimeLine e.lines

-- ---- values of data types have no times

abbrev mutual
  NoTime : Datum → Type 0
  NoTime (int_value w b) = Unit {0}
  NoTime (time_value d) = ⊥
  NoTime (array_value vs) = NoTimes vs
  NoTime (tuple_value vs) = NoTimes vs

  NoTimes : DatumRow → Type 0
  NoTimes no_values = Unit {0}
  NoTimes (more_values v vs) = NoTime v × NoTimes vs

mutual
  data-timeless : (v : Datum) (t : TypeTree) → IsData t → FitsType v t → NoTime v
  data-timeless (int_value w b) t d f = tt
  data-timeless (time_value x) time_type d f = absurd d
  data-timeless (time_value x) _ d f = absurd f
  data-timeless (array_value vs) (array_type n t) d f = parts-timeless vs t d.0 f.1
  data-timeless (array_value vs) _ d f = absurd f
  data-timeless (tuple_value vs) (tuple_type ts) d f = row-timeless vs ts d.0 f
  data-timeless (tuple_value vs) _ d f = absurd f

  parts-timeless : (vs : DatumRow) (t : TypeTree) → IsData t → PartsFit vs t → NoTimes vs
  parts-timeless no_values t d f = tt
  parts-timeless (more_values v vs) t d f = (data-timeless v t d f.0, parts-timeless vs t d f.1)

  row-timeless : (vs : DatumRow) (ts : TypeRow) → AreData ts → FitsRow vs ts → NoTimes vs
  row-timeless no_values ts d f = tt
  row-timeless (more_values v vs) no_types d f = absurd f
  row-timeless (more_values v vs) (more_types t ts) d f = (data-timeless v t d.0 f.0, row-timeless vs ts d.1 f.1)

constant-timeless : (t : Tree) → IsTyped t → IsData (type_of t) → NoTime (value_in t)
constant-timeless (constant v) w d = data-timeless v (type_of (constant v)) d w.fits
constant-timeless (past_of p) w d = tt
constant-timeless (now_of p) w d = tt
constant-timeless (operation op ts) w d = tt
constant-timeless (choice_of c f t) w d = tt

one-bit : IsData (int_type 1)
one-bit = (omega arith, omega arith)

unless-timed : (o : Option (List ℕ)) (f : Emitted → Emitted) (e : Emitted) → Timed e → Timed (f e) → Timed (unless_there o f e)
unless-timed None f e h k = k
unless-timed (Some n) f e h k = h

module _ (s : Source) where
  steps-timed : (p : Part) (n : List ℕ) (more : List PartStep) (e : Emitted) → Timed e → Timed (takes_steps s p n more e)
  steps-timed p n [] e h = h
  steps-timed p n (st ∷ more) e h = steps-timed p (next_name s e) more (gives s (pure_text st.op (typed n (signal_type st.to.ty) ∷ [])) e) (each-append TimeLine e.lines _ h (tt, tt))

  part-timed : (p : Part) (e : Emitted) → Timed e → Timed (need_part s p e)
  part-timed p e h = unless-timed (e.parts p) _ e h (steps-timed p (arg_name (slice_get s.args p.arg)) (s.steps p) e h)

  mutual
    value-timed : (v : Datum) → NoTime v → (e : Emitted) → Timed e → Timed (need_value s v e)
    value-timed (int_value w b) n e h = unless-timed (e.terms (constant (int_value w b))) _ e h (each-append TimeLine e.lines _ h (tt, tt))
    value-timed (time_value d) n e h = absurd n
    value-timed (array_value vs) n e h = unless-timed (e.terms (constant (array_value vs))) _ e h (each-append TimeLine (need_values s vs e).lines _ (values-timed vs n e h) (tt, tt))
    value-timed (tuple_value vs) n e h = unless-timed (e.terms (constant (tuple_value vs))) _ e h (each-append TimeLine (need_values s vs e).lines _ (values-timed vs n e h) (tt, tt))

    values-timed : (vs : DatumRow) → NoTimes vs → (e : Emitted) → Timed e → Timed (need_values s vs e)
    values-timed no_values n e h = h
    values-timed (more_values v vs) n e h = values-timed vs n.1 (need_value s v e) (value-timed v n.0 e h)

  operation-timed : (t : Tree) (op : Op) (ts : List Tree) (x : Emitted) → Timed x → Timed (gives_operation s t op ts x)
  operation-timed t op ts x h = each-append TimeLine x.lines _ h (tt, tt)

  pair-timed : (f t : Tree) (need_f need_t : Emitted → Emitted) → NoTime (value_in f) → NoTime (value_in t) → (e : Emitted) → Timed e → Timed (need_t (need_f e))
      → Timed (need_pair s f t need_f need_t e)
  pair-timed f t need_f need_t nf nt e h k = at (is_constant f && is_constant t) refl
    where
      at : (b : Bool) → (is_constant f && is_constant t) ≡ b → Timed (need_pair s f t need_f need_t e)
      at true q = rw q (value-timed (array_value (more_values (value_in f) (more_values (value_in t) no_values))) (nf, (nt, tt)) e h)
      at false q =
          let p : Tree = operation_on Array (f ∷ t ∷ []) in
          rw q (unless-timed (e.terms p) (λ x. gives_operation s p Array (f ∷ t ∷ []) (need_t (need_f x))) e h (operation-timed p Array (f ∷ t ∷ []) (need_t (need_f e)) k))

  mutual
    need-timed : (t : Tree) → IsTyped t → IsData (type_of t) → (e : Emitted) → Timed e → Timed (need s t e)
    need-timed (constant v) w d e h = value-timed v (data-timeless v (type_of (constant v)) d w.fits) e h
    need-timed (past_of p) w d e h = unless-timed (e.terms (past_of p)) _ e h (each-append TimeLine (need_part s p e).lines _ (part-timed p e h) (tt, tt))
    need-timed (now_of p) w d e h = unless-timed (e.terms (now_of p)) _ e h (each-append TimeLine (need_part s p e).lines _ (part-timed p e h) (tt, tt))
    need-timed (operation op ts) w d e h = unless-timed (e.terms (operation op ts)) _ e h (each-append TimeLine (need_all s ts e).lines _ (all-timed ts w.0 w.1.data_types e h) (tt, tt))
    need-timed (choice_of c f t) w d e h =
        let dt : IsData (type_of t) = subst IsData w.3.1 d in
        let dc : IsData (type_of c) = subst IsData (sym w.3.0) one-bit in
        let a = need-timed f w.1 d e h in
        let b = need-timed t w.2 dt (need s f e) a in
        let p = pair-timed f t (need s f) (need s t) (constant-timeless f w.1 d) (constant-timeless t w.2 dt) e h b in
        let x = need_pair s f t (need s f) (need s t) e in
        unless-timed (e.terms (choice_of c f t)) _ e h (each-append TimeLine (need s c x).lines _ (need-timed c w.0 dc x p) (tt, tt))

    all-timed : (ts : TreeRow) → AreTyped ts → AreData (row_of (types_of ts)) → (e : Emitted) → Timed e → Timed (need_all s ts e)
    all-timed no_trees w d e h = h
    all-timed (more_trees t ts) w d e h = all-timed ts w.1 d.1 (need s t e) (need-timed t w.0 d.0 e h)

  -- a delay is a constant, since no array has times
  delay-timed : (t : Tree) → IsTyped t → type_of t ≡ time_type → choices_fit t ≡ true → DelayIsWritable t → (e : Emitted) → Timed e → Timed (need s t e)
  delay-timed (constant (int_value n b)) w q c d e h = absurd cc
  delay-timed (constant (time_value x)) w q c d e h = unless-timed (e.terms (constant (time_value x))) _ e h (each-append TimeLine e.lines _ h (d, tt))
  delay-timed (constant (array_value vs)) w q c d e h = absurd cc
  delay-timed (constant (tuple_value vs)) w q c d e h = absurd cc
  delay-timed (past_of p) w q c d e h = absurd (subst IsData q w)
  delay-timed (now_of p) w q c d e h = absurd (subst IsData q w)
  delay-timed (operation op ts) w q c d e h = absurd (subst IsData (sym (gives_is op (types_of ts) w.1) ∙ q) w.1.is_data)
  delay-timed (choice_of c f t) w q k d e h =
      let a = and_both (is_none (array_fault 2 (type_of f))) (choices_fit f && (choices_fit t && choices_fit c)) k in
      let z : is_none (array_fault 2 time_type) ≡ true = subst (λ x. is_none (array_fault 2 x) ≡ true) q a.0 in
      absurd cc

  cond-timed : (c : Tree) → IsTyped c → type_of c ≡ int_type 1 → (e : Emitted) → Timed e → Timed (need_cond s c e)
  cond-timed c w q e h = at (is_bit 1 c) refl
    where
      at : (b : Bool) → is_bit 1 c ≡ b → Timed (if b then e else need s c e)
      at true r = h
      at false r = need-timed c w (subst IsData (sym q) one-bit) e h

  -- ---- drives

  drive-timed : (d : Drive) → DriveIsGiven s d → drive_fits d ≡ true → DriveIsWritable d → (e : Emitted) → Timed e → Timed (emit_drive s e d)
  drive-timed d g w l e h =
      let b = and_both (choices_fit d.value) (choices_fit d.delay && choices_fit d.cond) w in
      let c = and_both (choices_fit d.delay) (choices_fit d.cond) b.1 in
      let e1 = need s d.value e in
      let h1 = need-timed d.value g.value.typed (subst IsData (sym g.is_value) g.carries) e h in
      let e2 = need s d.delay e1 in
      let h2 = delay-timed d.delay g.delay.typed g.is_delay c.0 l e1 h1 in
      let e3 = need_cond s d.cond e2 in
      let h3 = cond-timed d.cond g.cond.typed g.is_condition e2 h2 in
      each-append TimeLine (need_part s d.part e3).lines _ (part-timed d.part e3 h3) (tt, tt)

  pub drives-timed : (ds : List Drive) → Each (DriveIsGiven s) ds → list_all drive_fits ds ≡ true → Each DriveIsWritable ds → (e : Emitted) → Timed e → Timed (emit_drives s ds e)
  drives-timed [] g w l e h = h
  drives-timed (d ∷ ds) g w l e h =
      let b = and_both (drive_fits d) (list_all drive_fits ds) w in
      drives-timed ds g.1 b.1 l.1 (emit_drive s e d) (drive-timed d g.0 b.0 l.0 e h)

  pub probes-timed : (ps : List Part) → Each (WaitIsGiven s) ps → (e : Emitted) → Timed e → Timed (emit_probes s ps e)
  probes-timed [] g e h = h
  probes-timed (p ∷ ps) g e h = probes-timed ps g.1 (need s (now_of p) e) (need-timed (now_of p) g.0.is_data g.0.is_data e h)

  -- ---- registers

  module _ (r : EdgeRowTree) (g : RowIsGiven s r) (fits : choices_fit r.delay ≡ true) (l : RowIsWritable r) where
    trigger-timed : (x : TriggerTree) → TriggerIsGiven s x → (e : Emitted) → Timed e → Timed (need_trigger s r e x)
    trigger-timed x t e h =
        let e1 = need s r.value e in
        let h1 = need-timed r.value g.value.typed (subst IsData (sym g.is_value) g.carries) e h in
        let e2 = need s (now_of x.part) e1 in
        let h2 = need-timed (now_of x.part) t.is_data t.is_data e1 h1 in
        let e3 = need_cond s x.gate e2 in
        let h3 = cond-timed x.gate t.gate.typed t.is_gate e2 h2 in
        delay-timed r.delay g.delay.typed g.is_delay fits l e3 h3

    triggers-timed : (gs : List TriggerTree) → Each (TriggerIsGiven s) gs → (e : Emitted) → Timed e → Timed (fold (need_trigger s r) e gs)
    triggers-timed [] t e h = h
    triggers-timed (x ∷ gs) t e h = triggers-timed gs t.1 (need_trigger s r e x) (trigger-timed x t.0 e h)

    register-timed : (e : Emitted) → Timed e → Timed (need_register s r e)
    register-timed e h = part-timed r.part (fold (need_trigger s r) e r.triggers) (triggers-timed r.triggers g.triggers e h)

  row-timed : (r : EdgeRowTree) → RowIsGiven s r → row_fits r ≡ true → RowIsWritable r → (e : Emitted) → Timed e → Timed (emit_register s e r)
  row-timed r g w l e h = at r.triggers refl
    where
      at : (gs : List TriggerTree) → r.triggers ≡ gs → Timed (emit_register_by s r gs e)
      at [] q = h
      at (x ∷ gs) q =
          let d : (choices_fit r.value && (choices_fit r.delay && list_all (λ (g : TriggerTree). choices_fit g.gate) (x ∷ gs))) ≡ true = (rw q at w) in
          let b = and_both (choices_fit r.value) (choices_fit r.delay && list_all (λ (g : TriggerTree). choices_fit g.gate) (x ∷ gs)) d in
          let c = and_both (choices_fit r.delay) (list_all (λ (g : TriggerTree). choices_fit g.gate) (x ∷ gs)) b.1 in
          let z = need_register s r e in
          let k : TimeFits (reg_text (signal z r.part) (map (trigger_text r z) r.triggers)) =
          subst (λ (y : List TriggerTree). TimeFits (reg_text (signal z r.part) (map (trigger_text r z) y))) (sym q) tt in
          each-append TimeLine z.lines _ (register-timed r g c.0 l e h) (k, tt)

  pub rows-timed : (rs : List EdgeRowTree) → Each (RowIsGiven s) rs → list_all row_fits rs ≡ true → Each RowIsWritable rs → (e : Emitted) → Timed e → Timed (fold (emit_register s) e rs)
  rows-timed [] g w l e h = h
  rows-timed (r ∷ rs) g w l e h =
      let b = and_both (row_fits r) (list_all row_fits rs) w in
      rows-timed rs g.1 b.1 l.1 (emit_register s e r) (row-timed r g.0 b.0 l.0 e h)
