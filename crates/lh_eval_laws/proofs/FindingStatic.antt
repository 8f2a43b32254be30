-- Without any probe an entity still holds its signals and their parts, and each value that comes from no probe.
use Rattle.std.proofs.Common.{◌≡◌, ℕ, List, [], ◌∷◌, length, map, Bool, true, false, ◌||◌, if◌then◌else◌, Option, Some, None, IsSome, refl, ap, sym, ◌∙◌, subst}
use Rattle.std.specs.Option.{option_and_then, option_map}
use Rattle.std.proofs.lemmas.Option.{none-some}
use Rattle.lh_time.specs.declared.Instant.{Instant}
use Rattle.lh_types.specs.Types.{TypeTree, signal_type}
use Rattle.lh_types.specs.Values.{Datum}
use Rattle.lh_types.specs.Apply.{apply}
use Rattle.lh_types.specs.Parts.{range_of}
use Rattle.lh_types.specs.declared.op.Op.{Op}
use Rattle.lh_types.specs.declared.op.Op.TheVariants as op
use Rattle.lh_types.specs.declared.part.Range.{Range}
use Rattle.lh_types.specs.declared.part.Step.{Step}
use Rattle.lh_unit.specs.declared.inst.UnitKind.TheVariants as kind
use Rattle.lh_unit.specs.Contents.{OperandText, InstText, const_text, pure_text, var_text, ld_text, st_text, sig_text, prb_text, drv_text, reg_text, child_text, call_text, phi_text, br_text, branch_text, wait_text, halt_text, ret_text, LineText, UnitText, is_result_name}
use Rattle.lh_unit.specs.Typing.{value_type, result_type, first_type, or_else}
use Rattle.lh_unit.specs.Kinds.{Use, Need, data_needed, all_used, step_need}
use Rattle.lh_unit.specs.Held.{Held, datum_held, part_held, Env, as_part, part_at, data_at}
use Rattle.lh_unit.specs.Effects.{within, stepped, signal_part, step_of, operated, read_bits, probed}
use Rattle.lh_unit.specs.Hierarchy.{if_held, static_of, static_from}
use Rattle.lh_unit.specs.Pass.{Passed, passes}
use Rattle.lh_unit.specs.WellFormed.{values_named, is_allowed}
use Rattle.lh_unit.specs.SpellsInst.{gives_value}
use Rattle.lh_unit.specs.Within.{Each}
use Rattle.lh_unit.proofs.Within.{Each-more}
use Rattle.lh_unit_names.proofs.NameLists.{same_name-is}
use Rattle.lh_verify_laws.specs.Operands.{IsOf, RowIs}
use Rattle.lh_verify_laws.specs.Parts.{HasPart}
use Rattle.lh_eval.specs.Fitting.{Fits}
use Rattle.lh_eval.specs.Sound.{IsWrittenRight, InstIsSound}
use Rattle.lh_eval.proofs.GivesFit.{constants-fit, operations-fit, probes-fit, held-still-fits}
use Rattle.lh_eval_laws.specs.Finding.{FindsInPass}
use Rattle.lh_eval_laws.proofs.FitLaws.{keeps-fit}
use Rattle.lh_eval_laws.proofs.OperandsFound.{some-of, as-signal, or-else-second, part-at}
use Rattle.lh_eval_laws.proofs.FindingPass.{KnownNames, known_after, NamesKnown, IsFitLine, SigHeld, SigsHeld, given-stays, given-held, sigs-more, finds-one, passes-stay, unnamed, next-held}

-- the name of a result
pub result-is : (r : Option (List ℕ)) (n : List ℕ) → is_result_name n r ≡ true → r ≡ Some n
result-is None n q = absurd cc
result-is (Some m) n q = ap Some (same_name-is m n q)

-- what a probe reads is no part
read-no-part : (now : List Bool) (a : Option TypeTree) (b : Option Range) (x : Held) → read_bits now a b ≡ Some x → as_part x ≡ None
read-no-part now (Some t) (Some r) x e = sym (ap (option_and_then as_part) e)
read-no-part now (Some t) None x e = absurd (none-some x e)
read-no-part now None b x e = absurd (none-some x e)

no-part : {A : Type 0} (o : Option Range) (r : Range) → o ≡ None → o ≡ Some r → A
no-part o r a b = absurd (none-some r (sym a ∙ b))

module _ (u : UnitText) (now : List Bool) (memory : Option (List Bool)) (t : Instant) where
  abbrev pub after : Passed → LineText → Passed
  after p l = passes u now memory t l.inst l.result p

  abbrev pub static_after : Env → LineText → Env
  static_after e l = if_held e l.result (static_of u e l.inst)

  -- what is held without a probe fits too
  static-fits : (w : ℕ) (e : Env) → Fits u w e → (i : InstText) (r : Option (List ℕ)) → RowIs u i → HasPart u i → IsWrittenRight i → ((n : List ℕ) → r ≡ Some n → value_type u n ≡ result_type i)
      → Fits u w (if_held e r (static_of u e i))
  static-fits w e f (const_text d) r row part written gives = held-still-fits u w e r (Some (datum_held d)) f (λ n k x s g q. constants-fit w d written x s g (sym (gives n k) ∙ q))
  static-fits w e f (pure_text o os) r row part written gives =
      held-still-fits u w e r (operated u e o os) f (λ n k x s g q. operations-fit u w e o os f row part written x s g (sym (gives n k) ∙ q))
  static-fits w e f _ r row part written gives = f

  pub static-line-fits : (w : ℕ) (e : Env) (l : LineText) → InstIsSound u l → Fits u w e → Fits u w (static_after e l)
  static-line-fits w e l s f = static-fits w e f l.inst l.result s.row s.part s.written s.gives

  pub static-all-fits : (w : ℕ) (ls : List LineText) (e : Env) → Each (InstIsSound u) ls → Fits u w e → Fits u w (static_from u e ls)
  static-all-fits w [] e s f = f
  static-all-fits w (l ∷ ls) e s f = static-all-fits w ls (static_after e l) s.1 (static-line-fits w e l s.0 f)

  pub static-stays : (ls : List LineText) (e : Env) (n : List ℕ) → IsSome (e n) → IsSome (static_from u e ls n)
  static-stays [] e n h = h
  static-stays (l ∷ ls) e n h = static-stays ls (static_after e l) n (given-stays e l.result n (static_of u e l.inst) h)

  module _ (w : ℕ) (p : Passed) (f : Fits u w p.held) (e : Env) (fe : Fits u w e) where
    -- a part of a signal is there without a probe where the signal is
    part-moves : (o : Op) (os : List OperandText) (h : Held) → signal_part u p.held o os ≡ Some h → Each (λ (x : OperandText). (b : TypeTree) → IsOf u (signal_type b) x.value → IsSome (e x.value)) os
        → IsSome (signal_part u e o os)
    part-moves o [] h g k = absurd (none-some h g)
    part-moves o (x ∷ y ∷ more) h g k = absurd (none-some h g)
    part-moves o (x ∷ []) h g k = by (value_type u x.value) refl (part_at p.held x.value) (step_of o) g
      where
        of-range : (r : Range) (s : Range) (q : Option Range) → option_map (λ z. part_held (within r z)) q ≡ Some h → IsSome (option_map (λ z. part_held (within s z)) q)
        of-range r s None c = absurd (none-some h c)
        of-range r s (Some z) c = refl

        by : (ty : Option TypeTree) → value_type u x.value ≡ ty → (q : Option Range) (st : Option Step) → stepped ty q st ≡ Some h → IsSome (stepped ty (part_at e x.value) st)
        by (Some (signal_type b)) i (Some r) (Some s) c =
            let z = part-at u w e fe x.value b i (k.0 b i) in
            subst (λ y. IsSome (stepped (Some (signal_type b)) y (Some s))) (sym z.1) (of-range r z.0 (range_of b (s ∷ [])) c)
        by (Some (signal_type b)) i (Some r) None c = absurd (none-some h c)
        by (Some (signal_type b)) i None st c = absurd (none-some h c)
        by (Some y) i q st c = absurd (none-some h c)
        by None i q st c = absurd (none-some h c)

    -- an operation that gives a part of a signal gives one without a probe
    signal-moves : (o : Op) (os : List OperandText) (x : Held) (r : Range) → operated u p.held o os ≡ Some x → as_part x ≡ Some r
        → Each (λ (y : OperandText). (b : TypeTree) → IsOf u (signal_type b) y.value → IsSome (e y.value)) os → IsSome (operated u e o os)
    signal-moves o os x r g a k = by (data_at p.held os) refl
      where
        by : (ds : Option (List Datum)) → data_at p.held os ≡ ds → IsSome (operated u e o os)
        by (Some ds) q =
            let c : Some (datum_held (apply o ds)) ≡ Some x = sym (ap (λ z. or_else (option_map (λ y. datum_held (apply o y)) z) (signal_part u p.held o os)) q) ∙ g in
            no-part (as_part x) r (sym (ap (option_and_then as_part) c)) a
        by None q =
            let c : signal_part u p.held o os ≡ Some x = sym (ap (λ z. or_else (option_map (λ y. datum_held (apply o y)) z) (signal_part u p.held o os)) q) ∙ g in
            or-else-second u w e fe _ (signal_part u e o os) (part-moves o os x c k)

  -- the signals that are known are held
  abbrev pub SignalsHeld : KnownNames → Env → Type 0
  SignalsHeld known e = (n : List ℕ) → known n ≡ true → (b : TypeTree) → IsOf u (signal_type b) n → IsSome (e n)

  abbrev pub OfSignals : Env → List ℕ → Type 0
  OfSignals e n = (b : TypeTree) → IsOf u (signal_type b) n → IsSome (e n)

  used-held : (e : Env) (need : Need) (os : List OperandText) → Each (OfSignals e) (map (λ (x : Use). x.value) (all_used need os)) → Each (λ (y : OperandText). OfSignals e y.value) os
  used-held e need [] h = tt
  used-held e need (o ∷ os) h = (h.0, used-held e need os h.1)

  -- the operands of an operation are its uses
  operands-held : (e : Env) (o : Op) (os : List OperandText) → Each (OfSignals e) (values_named (pure_text o os)) → Each (λ (y : OperandText). OfSignals e y.value) os
  operands-held e (op.Extf k) os h = used-held e (step_need (first_type os)) os h
  operands-held e (op.Exts at len) os h = used-held e (step_need (first_type os)) os h
  operands-held e o os h = used-held e data_needed os h

  -- what gives a value of a signal's type is held without a probe
  signal-result : (w : ℕ) (l : LineText) (p : Passed) (e : Env) → length now ≡ w → Fits u w p.held → Fits u w e → InstIsSound u l → IsFitLine l → FindsInPass u now t p l.inst
      → Each (OfSignals e) (values_named l.inst) → SigHeld e l.inst l.result
      → (n : List ℕ) → is_result_name n l.result ≡ true → (b : TypeTree) → IsOf u (signal_type b) n → IsSome (static_after e l n)
  signal-result w l p e ww f fe s a h k g n q b ty = at l.inst s.row s.part s.written (sym (s.gives n (result-is l.result n q)) ∙ ty) a.0 a.1 h k g
    where
      at : (i : InstText) → RowIs u i → HasPart u i → IsWrittenRight i → result_type i ≡ Some (signal_type b) → is_allowed kind.Entity i ≡ true
          → ((m : List ℕ) → l.result ≡ Some m → gives_value i ≡ true)
          → FindsInPass u now t p i → Each (OfSignals e) (values_named i) → SigHeld e i l.result → IsSome (if_held e l.result (static_of u e i) n)
      at (const_text d) row part written res a g h k z = given-held e l.result n (Some (datum_held d)) refl q
      at (pure_text o os) row part written res a g h k z =
          let x = some-of (operated u p.held o os) h in
          let r = as-signal w x.0 b (operations-fit u w p.held o os f row part written x.0 (signal_type b) x.1 res) in
          given-held e l.result n (operated u e o os) (signal-moves w p f e fe o os x.0 r.0 x.1 r.1 (operands-held e o os k)) q
      at (prb_text o) row part written res a g h k z =
          let x = some-of (probed now p.held o) h in
          let r = as-signal (length now) x.0 b (probes-fit u now p.held o (subst (λ m. Fits u m p.held) (sym ww) f) row x.0 (signal_type b) x.1 res) in
          no-part (as_part x.0) r.0 (read-no-part now _ (part_at p.held o.value) x.0 x.1) r.1
      at (sig_text o) row part written res a g h k z = z n q
      at (drv_text to value after c) row part written res a g h k z = unnamed u now memory t l.result n g q
      at (reg_text to gs) row part written res a g h k z = unnamed u now memory t l.result n g q
      at (child_text v inputs outputs) row part written res a g h k z = unnamed u now memory t l.result n g q
      at (var_text o) row part written res a g h k z = absurd cc
      at (ld_text o) row part written res a g h k z = absurd cc
      at (st_text to value) row part written res a g h k z = absurd cc
      at (call_text v ty os) row part written res a g h k z = absurd cc
      at (phi_text ty es) row part written res a g h k z = absurd cc
      at (br_text to) row part written res a g h k z = absurd cc
      at (branch_text c x y) row part written res a g h k z = absurd cc
      at (wait_text to after ss) row part written res a g h k z = absurd cc
      at halt_text row part written res a g h k z = absurd cc
      at (ret_text o) row part written res a g h k z = absurd cc

  -- the operands of each line that are signals are held where the unit is at its end
  pub signals-found : (ls : List LineText) (p : Passed) (e : Env) (known : KnownNames) → ((n : List ℕ) → known n ≡ true → IsSome (p.held n)) → Fits u (length now) p.held → SignalsHeld known e
      → Fits u (length now) e
      → Each (InstIsSound u) ls → NamesKnown known ls → Each IsFitLine ls → SigsHeld p.held ls → SigsHeld e ls → Each (λ (l : LineText). Each (OfSignals (static_from u e ls)) (values_named l.inst)) ls
  signals-found [] p e known k f z fe s m a g ge = tt
  signals-found (l ∷ ls) p e known k f z fe s m a g ge =
      let here : FindsInPass u now t p l.inst = finds-one u now memory t p f l.inst s.0.row s.0.part (Each-more (λ n. known n ≡ true) (λ n. IsSome (p.held n)) (values_named l.inst) k m.0) in
      let operands : Each (OfSignals e) (values_named l.inst) = Each-more (λ n. known n ≡ true) (OfSignals e) (values_named l.inst) z m.0 in (
        Each-more (OfSignals e) (OfSignals (static_from u e (l ∷ ls))) (values_named l.inst) (λ n h b i. static-stays (l ∷ ls) e n (h b i)) operands,
        signals-found ls (after p l) (static_after e l) (known_after known l) (next-held u now memory t l p known k a.0 here g.0) (keeps-fit u now memory t p l s.0 f)
            (λ n q b i. next n (known n) refl (is_result_name n l.result) refl here operands q b i) (static-line-fits (length now) e l s.0 fe) s.1 m.1 a.1
            (sigs-more p.held (after p l).held ls (λ n h. passes-stay u now memory t l.inst l.result p n h) g.1)
            (sigs-more e (static_after e l) ls (λ n h. given-stays e l.result n (static_of u e l.inst) h) ge.1),
      )
    where
      next : (n : List ℕ) (b : Bool) → known n ≡ b → (c : Bool) → is_result_name n l.result ≡ c → FindsInPass u now t p l.inst → Each (OfSignals e) (values_named l.inst) → (b || c) ≡ true
          → (ty : TypeTree) → IsOf u (signal_type ty) n → IsSome (static_after e l n)
      next n true x c y h o q ty i = given-stays e l.result n (static_of u e l.inst) (z n x ty i)
      next n false x true y h o q ty i = signal-result (length now) l p e refl f fe s.0 a.0 h o ge.0 n y ty i
      next n false x false y h o q ty i = absurd cc
