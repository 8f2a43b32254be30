-- Each instruction that is emitted has no fault.
use Rattle.std.proofs.Common.{◌≡◌, ℕ, ◌+◌, Bool, true, false, if◌then◌else◌, nat_eq, nat_lt, List, [], ◌∷◌, ◌++◌, length, map, Option, Some, None, slice_get, unwrap_or, refl, ap, sym, ◌∙◌, subst, arith, length-append, inl, inr}
use Rattle.std.specs.List.{list_all}
use Rattle.std.specs.Option.{option_and_then, option_map, option_map_or}
use Rattle.std.proofs.lemmas.Bool.Decides.{nat_tests}
use Rattle.lh_types.specs.Types.{TypeTree, int_type, time_type, signal_type, IsData, same_type}
use Rattle.lh_types.specs.Values.{Datum, int_value, time_value, array_value, tuple_value}
use Rattle.lh_types.specs.Faults.{int_fault}
use Rattle.lh_types.specs.Same.{same-refl}
use Rattle.lh_types.specs.Parts.{Part as TypePart, step_part}
use Rattle.lh_types.specs.declared.op.Op.{Op}
use Rattle.lh_types.specs.declared.op.Op.TheVariants as op
use Rattle.lh_types.specs.declared.part.Step.{Step}
use Rattle.lh_types.specs.declared.part.Step.TheVariants.{Field, Slice}
use Rattle.lh_unit.specs.Contents.{InstText, const_text, pure_text, prb_text, drv_text, reg_text, LineText, UnitText}
use Rattle.lh_unit.specs.Kinds.{Use, used, maybe_used, data_needed, time_needed, kind_of, trigger_uses, result_kind}
use Rattle.lh_unit.specs.Typing.{value_type, constant_type, result_type, if_made}
use Rattle.lh_unit.specs.TypingRows.{may_have_type, part_type, bit, trigger_fits}
use Rattle.lh_unit.specs.Within.{Each}
use Rattle.lh_unit.proofs.Lists.{some_inj}
use Rattle.lh_term.specs.Tree.{Tree, constant, now_of}
use Rattle.lh_term.specs.Types.{FitsTerm, IsValueType, type_of, value_type as datum_type}
use Rattle.lh_term.specs.Make.{is_bit}
use Rattle.lh_term.specs.SameTree.{same_tree, same_tree-is}
use Rattle.lh_term.specs.Same.{same_part, same_part-is}
use Rattle.lh_term.specs.declared.part.Part.{Part}
use Rattle.lh_emit_def.specs.Given.{Drive, TriggerTree, EdgeRowTree}
use Rattle.lh_emit_def.specs.Names.{value_name}
use Rattle.lh_emit_def.specs.Emitted.{PartStep, Emitted, gives, gives_term, puts, next_name, with_term, with_part, takes_steps, arg_name, term_name, part_name, typed, signal}
use Rattle.lh_emit_def.specs.Needs.{operation_text}
use Rattle.lh_emit_def.specs.Entities.{cond_name, trigger_text}
use Rattle.lh_emit_def.specs.Ways.{part_by_step, part_by, StepsLead, IsReached}
use Rattle.lh_term.specs.Parts.{whole_argument}
use Rattle.lh_emit_def.proofs.Induction.{IsNamed, IsNamedPart}
use Rattle.lh_emit_def.proofs.NeedLaws.{IsScalar}
use Rattle.lh_emit_def.proofs.Rows.{HasRow}
use Rattle.lh_emit_def.proofs.PassState.{Frame, HasFewArgs, source, Begins, begins-before}
use Rattle.lh_emit_def.proofs.DrivePasses.{CondNamed}
use Rattle.lh_emit_def.proofs.RegisterPasses.{TriggerNamed}
use Rattle.lh_emit_def.proofs.KeptByRows.{DriveHas, TriggerHas, RowHas, DriveNamed, RowNamed, KeepsRows}
use Rattle.lh_emit_def.proofs.OperationRows.{has, operation-fits, operation-gives}
use Rattle.lh_emit_def.proofs.Typed.{Named, UseRight, IsRight, right-push, named-before, data-right, signal-right, time-right, operands-right, Typed, given-named, gives-typed}
use Rattle.lh_unit.proofs.ById.{line_giving-later}
use Rattle.lh_text_laws.proofs.Printed.{results-push}

-- the type of a constant
constant-type : (v : Datum) → IsScalar v → FitsTerm v → constant_type v ≡ Some (datum_type v)
constant-type (time_value d) s w = refl
constant-type (int_value n a) s w = by w.is_value
  where
    by : IsValueType (int_type n) → if_made (int_fault n) (int_type n) ≡ Some (int_type n)
    by (inl d) = let p : nat_eq n 0 ≡ false = grind (arith, nat_tests) in let q : nat_lt 128 n ≡ false = grind (arith, nat_tests) in rw (p, q) refl
    by (inr e) = absurd cc
constant-type (array_value vs) s w = absurd s
constant-type (tuple_value vs) s w = absurd s

module _ (f : Frame) (few : HasFewArgs f.unit) where
  module _ (y : UnitText) (e : Emitted) (m : Typed f few y e) where
    pub term-named : (t : Tree) → IsNamed e t → Named y e.lines (term_name e t) (type_of t)
    term-named t n = subst (λ o. Named y e.lines (unwrap_or o []) (type_of t)) (sym n.is) (m.terms t n.name n.is)

    pub terms-named : (ts : List Tree) → Each (IsNamed e) ts → Each (λ t. Named y e.lines (term_name e t) (type_of t)) ts
    terms-named [] h = tt
    terms-named (t ∷ ts) h = (term-named t h.0, terms-named ts h.1)

    terms-typed : (ts : List Tree) → Each (IsNamed e) ts → Each (λ t. value_type y (term_name e t) ≡ Some (type_of t)) ts
    terms-typed [] h = tt
    terms-typed (t ∷ ts) h = ((term-named t h.0).type, terms-typed ts h.1)

    pub part-named : (p : Part) → IsNamedPart e p → Named y e.lines (part_name e p) (signal_type p.ty)
    part-named p n = subst (λ o. Named y e.lines (unwrap_or o []) (signal_type p.ty)) (sym n.is) (m.parts p n.name n.is)

    pub operation-right : (o : Op) (ts : List Tree) (t : Tree) → HasRow o ts t → Each (IsNamed e) ts → IsRight y e.lines (operation_text e o ts)
    operation-right o ts t r h = record { uses = operands-right y e.lines e o ts r.takes (terms-named ts h); types = operation-fits y e o ts r.takes (terms-typed ts h) }

    pub probe-right : (p : Part) → IsNamedPart e p → IsRight y e.lines (prb_text (signal e p))
    probe-right p n = let h = part-named p n in record { uses = (signal-right y e.lines (part_name e p) p.ty h, tt); types = has y (part_name e p) (signal_type p.ty) h.type }

    -- a step from a part to another
    step-fits : (q to : Part) (n : List ℕ) (s : Step) → part_by_step q s ≡ Some to → value_type y n ≡ Some (signal_type q.ty) →
        option_map_or (same_type (signal_type to.ty)) (option_and_then (part_type s) (value_type y n)) false ≡ true
    step-fits q to n s h v = ap (λ o. option_map_or (same_type (signal_type to.ty)) (option_and_then (part_type s) o) false) v ∙ at (step_part q.ty s) h
      where
        at : (x : Option TypePart) → option_map (λ (a : TypePart). let z : Part = record { arg = q.arg; lo = q.lo + a.lo; ty = a.of } in z) x ≡ Some to →
            option_map_or (same_type (signal_type to.ty)) (option_map (λ (p : TypePart). signal_type p.of) x) false ≡ true
        at None k = absurd cc
        at (Some a) k =
            let z : to.ty ≡ a.of = ap (λ (x : Part). x.ty) (sym (some_inj _ to k)) in
            ap (λ t. same_type t a.of) z ∙ same-refl a.of

    pub step-right : (q to : Part) (n : List ℕ) (o : Op) → part_by q o ≡ Some to → Named y e.lines n (signal_type q.ty) → IsRight y e.lines (pure_text o (typed n (signal_type to.ty) ∷ []))
    step-right q to n (op.Extf k) h v = record { uses = (signal-right y e.lines n q.ty v, tt); types = step-fits q to n (Field k) h v.type }
    step-right q to n (op.Exts at len) h v = record { uses = (signal-right y e.lines n q.ty v, tt); types = step-fits q to n (Slice at len) h v.type }
    step-right q to n _ h v = absurd cc

    -- ---- drives and registers

    one-bit : IsData (int_type 1)
    one-bit = (omega arith, omega arith)

    cond-uses : (c : Tree) → type_of c ≡ int_type 1 → CondNamed e c → Each (UseRight y e.lines) (maybe_used data_needed (cond_name e c))
    cond-uses c q n = at (is_bit 1 c) refl
      where
        at : (b : Bool) → is_bit 1 c ≡ b → Each (UseRight y e.lines) (maybe_used data_needed (if b then None else Some (term_name e c)))
        at true r = tt
        at false r = (data-right y e.lines (term_name e c) (type_of c) (term-named c (n r)) (subst IsData (sym q) (omega arith, omega arith)), tt)

    cond-fits : (c : Tree) → type_of c ≡ int_type 1 → CondNamed e c → may_have_type y bit (cond_name e c) ≡ true
    cond-fits c q n = at (is_bit 1 c) refl
      where
        at : (b : Bool) → is_bit 1 c ≡ b → may_have_type y bit (if b then None else Some (term_name e c)) ≡ true
        at true r = refl
        at false r = has y (term_name e c) bit ((term-named c (n r)).type ∙ ap Some q)

    -- a value of the type that a part carries, and a delay
    value-named : (t : Tree) (ty : TypeTree) → type_of t ≡ ty → IsNamed e t → Named y e.lines (term_name e t) ty
    value-named t ty q n = subst (Named y e.lines (term_name e t)) q (term-named t n)

    pub drive-right : (d : Drive) (Good : Part → Type 0) → DriveHas Good (source f few) d → DriveNamed e d →
        IsRight y e.lines (drv_text (signal e d.part) (term_name e d.value) (term_name e d.delay) (cond_name e d.cond))
    drive-right d Good h n =
        let p = part-named d.part n.part in
        let v = value-named d.value d.part.ty h.is_value n.value in
        let a = value-named d.delay time_type h.is_delay n.delay in
        record {
          uses = (signal-right y e.lines _ d.part.ty p, (data-right y e.lines _ d.part.ty v h.carries, (time-right y e.lines _ a, cond-uses d.cond h.is_condition n.cond)));
          types = rw (has y _ (signal_type d.part.ty) p.type, has y _ d.part.ty v.type, has y _ time_type a.type) (cond-fits d.cond h.is_condition n.cond);
        }

    each-then : (xs ys : List Use) → Each (UseRight y e.lines) xs → Each (UseRight y e.lines) ys → Each (UseRight y e.lines) (xs ++ ys)
    each-then [] ys h k = k
    each-then (x ∷ xs) ys h k = (h.0, each-then xs ys h.1 k)

    module _ (r : EdgeRowTree) (Good : Part → Type 0) (h : RowHas Good (source f few) r) (n : RowNamed e r) where
      triggers-right : (gs : List TriggerTree) → Each (TriggerHas Good) gs → Each (TriggerNamed e) gs → Each (UseRight y e.lines) (trigger_uses (map (trigger_text r e) gs))
      triggers-right [] t k = tt
      triggers-right (g ∷ gs) t k =
          let v = value-named r.value r.part.ty h.is_value n.value in
          let a = value-named r.delay time_type h.is_delay n.delay in
          let b = value-named (now_of g.part) (int_type 1) t.0.is_bit k.0.now in (
            data-right y e.lines _ r.part.ty v h.carries,
            (
              data-right y e.lines _ (int_type 1) b (omega arith, omega arith),
              each-then (maybe_used data_needed (cond_name e g.gate) ++ used time_needed (term_name e r.delay) ∷ []) (trigger_uses (map (trigger_text r e) gs))
                  (each-then (maybe_used data_needed (cond_name e g.gate)) (used time_needed (term_name e r.delay) ∷ []) (cond-uses g.gate t.0.is_gate k.0.gate) (time-right y e.lines _ a, tt))
                  (triggers-right gs t.1 k.1),
            ),
          )

      triggers-fit : (gs : List TriggerTree) → Each (TriggerHas Good) gs → Each (TriggerNamed e) gs → list_all (trigger_fits y (signal e r.part)) (map (trigger_text r e) gs) ≡ true
      triggers-fit [] t k = refl
      triggers-fit (g ∷ gs) t k =
          let v = value-named r.value r.part.ty h.is_value n.value in
          let a = value-named r.delay time_type h.is_delay n.delay in
          let b = value-named (now_of g.part) (int_type 1) t.0.is_bit k.0.now in
          rw (has y _ r.part.ty v.type, has y _ bit b.type, cond-fits g.gate t.0.is_gate k.0.gate, has y _ time_type a.type) (triggers-fit gs t.1 k.1)

      pub register-right : IsRight y e.lines (reg_text (signal e r.part) (map (trigger_text r e) r.triggers))
      register-right =
          let p = part-named r.part n.part in
          record {
            uses = (signal-right y e.lines _ r.part.ty p, triggers-right r.triggers h.triggers n.triggers);
            types = rw (has y _ (signal_type r.part.ty) p.type) (triggers-fit r.triggers h.triggers n.triggers);
          }

  -- ---- what is kept

  abbrev pub NoFault : Emitted → Type 0
  NoFault e = (y : UnitText) → Begins f few y e.lines → Typed f few y e

  names-term : (y : UnitText) (e : Emitted) (t : Tree) (n : List ℕ) → Typed f few y e → Named y e.lines n (type_of t) → Typed f few y (record e { terms = with_term e.terms t n })
  names-term y e t n m h = record { terms = λ x k p. at x k p (same_tree t x) refl; parts = m.parts; args = m.args; new = m.new; room = m.room; right = m.right; once = m.once }
    where
      at : (x : Tree) (k : List ℕ) → (if same_tree t x then Some n else e.terms x) ≡ Some k → (b : Bool) → same_tree t x ≡ b → Named y e.lines k (type_of x)
      at x k p true q =
          let a : n ≡ k = some_inj n k (rw q at p) in
          subst (λ (z : Tree). Named y e.lines k (type_of z)) (same_tree-is t x q) (subst (λ (z : List ℕ). Named y e.lines z (type_of t)) a h)
      at x k p false q = m.terms x k (rw q at p)

  names-part : (y : UnitText) (e : Emitted) (p : Part) (n : List ℕ) → Typed f few y e → Named y e.lines n (signal_type p.ty) → Typed f few y (record e { parts = with_part e.parts p n })
  names-part y e p n m h = record { terms = m.terms; parts = λ x k q. at x k q (same_part p x) refl; args = m.args; new = m.new; room = m.room; right = m.right; once = m.once }
    where
      at : (x : Part) (k : List ℕ) → (if same_part p x then Some n else e.parts x) ≡ Some k → (b : Bool) → same_part p x ≡ b → Named y e.lines k (signal_type x.ty)
      at x k q true r =
          let a : n ≡ k = some_inj n k (rw r at q) in
          subst (λ (z : Part). Named y e.lines k (signal_type z.ty)) (same_part-is p x r) (subst (λ (z : List ℕ). Named y e.lines z (signal_type p.ty)) a h)
      at x k q false r = m.parts x k (rw r at q)

  -- an instruction that gives the value of a term
  gives-kept : (y : UnitText) (e : Emitted) (t : Tree) (i : InstText) → Begins f few y (gives (source f few) i e).lines → Typed f few y e → IsRight y e.lines i →
      result_type i ≡ Some (type_of t) → result_kind i ≡ option_and_then kind_of (result_type i) → Typed f few y (gives_term (source f few) t i e)
  gives-kept y e t i b m r q k =
      names-term y (gives (source f few) i e) t (next_name (source f few) e) (gives-typed f few y e i b m r) (given-named f few y e i b m r (type_of t) q (k ∙ ap (option_and_then kind_of) q))

  -- an instruction that gives none
  puts-kept : (y : UnitText) (e : Emitted) (i : InstText) → Typed f few y e → IsRight y e.lines i → Typed f few y (puts i e)
  puts-kept y e i m r =
      let line : LineText = record { result = None; inst = i } in
      let q : length (e.lines ++ line ∷ []) ≡ length e.lines + 1 = length-append e.lines (line ∷ []) in
      record {
        terms = λ t n p. named-before y e.lines line n _ (m.terms t n p);
        parts = λ p n k. named-before y e.lines line n _ (m.parts p n k);
        args = λ k a t p s. named-before y e.lines line a.name _ (m.args k a t p s);
        new = λ j a. line_giving-later (value_name j) e.lines (line ∷ []) (m.new j a);
        room = rw q (omega (arith, m.room));
        right = right-push y [] e.lines line m.right r;
        once = results-push f.unit.args [] e.lines line m.once refl;
      }

  step-gives : (q to : Part) (n : List ℕ) (o : Op) → part_by q o ≡ Some to → result_type (pure_text o (typed n (signal_type to.ty) ∷ [])) ≡ Some (signal_type to.ty)
  step-gives q to n (op.Extf k) h = refl
  step-gives q to n (op.Exts at len) h = refl
  step-gives q to n _ h = absurd cc

  -- the steps to a part
  steps-kept : (p q : Part) (n : List ℕ) (more : List PartStep) (e : Emitted) → NoFault e → ((y : UnitText) → Begins f few y e.lines → Named y e.lines n (signal_type q.ty)) → StepsLead q more p →
      NoFault (takes_steps (source f few) p n more e)
  steps-kept p q n [] e h w l = λ y b. names-part y e p n (h y b) (subst (λ (x : Part). Named y e.lines n (signal_type x.ty)) l (w y b))
  steps-kept p q n (st ∷ more) e h w l =
      let i : InstText = pure_text st.op (typed n (signal_type st.to.ty) ∷ []) in
      let right = λ (y : UnitText) (b : Begins f few y (gives (source f few) i e).lines).
      step-right y e (h y (begins-before f few y e.lines _ b)) q st.to n st.op l.0 (w y (begins-before f few y e.lines _ b)) in
      steps-kept p st.to (next_name (source f few) e) more (gives (source f few) i e)
      (λ y b. gives-typed f few y e i b (h y (begins-before f few y e.lines _ b)) (right y b))
      (λ y b. given-named f few y e i b (h y (begins-before f few y e.lines _ b)) (right y b) (signal_type st.to.ty) (step-gives q st.to n st.op l.0)
      (ap (option_and_then kind_of) (step-gives q st.to n st.op l.0)))
      l.1

  pub no-fault_kept : KeepsRows (source f few) (IsReached (source f few)) NoFault
  no-fault_kept = record {
    keeps = record {
      scalar = λ v e s w h y b. gives-kept y e (constant v) (const_text v) b (h y (begins-before f few y e.lines _ b)) (record { uses = tt; types = refl }) (constant-type v s w) refl;
      computed = λ o ts t e c r d n h y b.
          let m = h y (begins-before f few y e.lines _ b) in
          gives-kept y e t (operation_text e o ts) b m (operation-right y e m o ts t r n) (operation-gives y e o ts r.takes ∙ ap Some (sym r.type)) refl;
      probed = λ p t e c g n h y b.
          let m = h y (begins-before f few y e.lines _ b) in
          gives-kept y e t (prb_text (signal e p)) b m (probe-right y e m p n) (ap Some (sym c.type)) refl;
      stepped = λ p e a r h.
          let q : Part = whole_argument p.arg r.carries in
          steps-kept p q (arg_name (slice_get f.unit.args p.arg)) (f.steps p) e h
          (λ y b. subst (λ o. Named y e.lines (arg_name o) (signal_type r.carries)) (sym r.there) ((h y b).args p.arg r.arg r.carries r.there r.signal))
          r.leads;
    };
    drive = λ d e h n i y b.
        let m = i y (begins-before f few y e.lines _ b) in
        puts-kept y e _ m (drive-right y e m d (IsReached (source f few)) h n);
    register = λ r e h n i y b.
        let m = i y (begins-before f few y e.lines _ b) in
        puts-kept y e _ m (register-right y e m r (IsReached (source f few)) h n);
  }
