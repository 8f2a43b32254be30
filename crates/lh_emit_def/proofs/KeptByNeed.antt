-- Each instruction that need of a term emits keeps what the pass holds.
use Rattle.std.proofs.Common.{◌≡◌, ℕ, ◌+◌, Bool, true, false, if◌then◌else◌, List, [], ◌∷◌, map, Option, Some, None, slice_get, unwrap_or, refl, ap, sym, ◌∙◌, subst, arith}
use Rattle.std.specs.Option.{option_and_then, option_map}
use Rattle.lh_types.specs.Types.{TypeTree, signal_type, bit_count}
use Rattle.lh_types.specs.Parts.{Part as TypePart, step_part}
use Rattle.lh_types.specs.Wish.{Wish}
use Rattle.lh_types.specs.Values.{Datum}
use Rattle.lh_types.specs.Apply.{apply}
use Rattle.lh_types.specs.declared.op.Op.{Op}
use Rattle.lh_types.specs.declared.op.Op.TheVariants as op
use Rattle.lh_types.specs.declared.part.Step.{Step}
use Rattle.lh_unit.specs.Contents.{InstText, const_text, pure_text, prb_text, UnitText}
use Rattle.lh_unit.specs.Held.{datum_held, part_held, Env, as_datum, as_part, datum_at, data_at, part_at, front, bits_in}
use Rattle.lh_unit.specs.Effects.{step_of, stepped, operated, read_bits}
use Rattle.lh_unit.specs.Hierarchy.{if_held}
use Rattle.lh_unit.specs.Pass.{Passed}
use Rattle.lh_unit.specs.Typing.{or_else, value_type, result_type}
use Rattle.lh_unit.specs.Within.{Each}
use Rattle.lh_unit.proofs.Lists.{some_inj}
use Rattle.lh_term.specs.Tree.{Tree, constant}
use Rattle.lh_term.specs.Types.{type_of}
use Rattle.lh_term.specs.Mean.{IsFitting}
use Rattle.lh_term.specs.declared.part.Part.{Part}
use Rattle.lh_trace_laws.proofs.ProbesLaw.{read_values_fit}
use Rattle.lh_emit_def.specs.Emitted.{PartStep, Emitted, gives, next_name, takes_steps, arg_name, term_name, part_name, typed, bare, signal}
use Rattle.lh_emit_def.specs.Needs.{writes_each, each_typed, first_typed, written_type, types_of_all, operation_text}
use Rattle.lh_emit_def.specs.Reads.{range_in, reads}
use Rattle.lh_emit_def.specs.Ways.{part_by_step, part_by, StepsLead, IsReached}
use Rattle.lh_term.specs.Parts.{whole_argument}
use Rattle.lh_emit_def.proofs.ComputedTerms.{value, values, Computes}
use Rattle.lh_emit_def.proofs.Induction.{IsNamed, IsNamedPart}
use Rattle.lh_emit_def.proofs.NeedLaws.{IsScalar, IsProbe, Keeps}
use Rattle.lh_emit_def.proofs.PassState.{Frame, HasFewArgs, source, after, Begins, HoldsPart, Means, Inv, begins-before}
use Rattle.lh_emit_def.proofs.GivenValues.{GivesHeld, held-new, type-new, gives-means, names-part, term-means}
use Rattle.lh_eval.proofs.PartsRead.{of-values}

module _ (f : Frame) (few : HasFewArgs f.unit) where
  -- a part has a value of its type
  pub reads-fit : IsFitting (reads f.args f.now)
  reads-fit p d = read_values_fit p.ty (bits_in f.now (range_in f.args p)) d

  -- the bits of a part, by a step from another
  step-range : (q to : Part) (o : Option Step) → option_and_then (part_by_step q) o ≡ Some to →
      stepped (Some (signal_type q.ty)) (Some (range_in f.args q)) o ≡ Some (part_held (range_in f.args to))
  step-range q to None h = absurd cc
  step-range q to (Some st) h = at (step_part q.ty st) refl
    where
      at : (x : Option TypePart) → step_part q.ty st ≡ x → stepped (Some (signal_type q.ty)) (Some (range_in f.args q)) (Some st) ≡ Some (part_held (range_in f.args to))
      at None r = let z : None ≡ Some to = (rw r at h) in absurd cc
      at (Some a) r =
          let p : Part = record { arg = q.arg; lo = q.lo + a.lo; ty = a.of } in
          let z : Some p ≡ Some to = (rw r at h) in
          let l : (range_in f.args q).lo + (a.lo + 0) ≡ (range_in f.args p).lo = omega arith in
          rw r ((λ i. Some (part_held (record { lo = l i; len = bit_count a.of }))) ∙ ap (λ (x : Part). Some (part_held (range_in f.args x))) (some_inj p to z))

  pub step-operated : (y : UnitText) (e : Env) (n : List ℕ) (q to : Part) (o : Op) → HoldsPart f few y e n q → part_by q o ≡ Some to →
      operated y e o (typed n (signal_type to.ty) ∷ []) ≡ Some (part_held (range_in f.args to))
  step-operated y e n q to o b h =
      ap (λ z. or_else (option_map (λ ds. datum_held (apply o ds)) (front (option_and_then as_datum z) (Some []))) (stepped (value_type y n) (part_at e n) (step_of o))) b.held
      ∙ ap (λ z. stepped z (part_at e n) (step_of o)) b.type
      ∙ ap (λ z. stepped (Some (signal_type q.ty)) (option_and_then as_part z) (step_of o)) b.held
      ∙ step-range q to (step_of o) h

  module _ (w : Wish) (ts : List Bool) (y : UnitText) (e : Emitted) (m : Means f few w ts y e) where
    abbrev held : Env
    held = (after f few y e.lines).held

    -- the value of a term that was emitted
    pub term-held : (t : Tree) → IsNamed e t → datum_at held (term_name e t) ≡ Some (value (reads f.args f.now) t)
    term-held t n = ap (λ o. datum_at held (unwrap_or o [])) n.is ∙ ap (option_and_then as_datum) (m.terms t n.name n.is)

    -- the bits of a part that was emitted
    pub part-held : (p : Part) → IsNamedPart e p → HoldsPart f few y held (part_name e p) p
    part-held p n = subst (λ o. HoldsPart f few y held (unwrap_or o []) p) (sym n.is) (m.parts p n.name n.is)

    all-typed : (xs : List Tree) → Each (IsNamed e) xs → data_at held (map (λ t. typed (term_name e t) (type_of t)) xs) ≡ Some (values (reads f.args f.now) xs)
    all-typed [] h = refl
    all-typed (x ∷ xs) h = let p = term-held x h.0 in let q = all-typed xs h.1 in λ i. front (p i) (q i)

    all-bare : (xs : List Tree) → Each (IsNamed e) xs → data_at held (map (λ t. bare (term_name e t)) xs) ≡ Some (values (reads f.args f.now) xs)
    all-bare [] h = refl
    all-bare (x ∷ xs) h = let p = term-held x h.0 in let q = all-bare xs h.1 in λ i. front (p i) (q i)

    first-typed : (d : TypeTree) (xs : List Tree) → Each (IsNamed e) xs → data_at held (first_typed e d xs) ≡ Some (values (reads f.args f.now) xs)
    first-typed d [] h = refl
    first-typed d (x ∷ xs) h = let p = term-held x h.0 in let q = all-bare xs h.1 in λ i. front (p i) (q i)

    operands-held : (o : Op) (xs : List Tree) → Each (IsNamed e) xs → (b : Bool) →
        data_at held (if b then each_typed e xs else first_typed e (written_type o (types_of_all xs)) xs) ≡ Some (values (reads f.args f.now) xs)
    operands-held o xs h true = all-typed xs h
    operands-held o xs h false = first-typed (written_type o (types_of_all xs)) xs h

    -- an operation gives the value of its term
    pub operation-gives : (o : Op) (xs : List Tree) (t : Tree) → Computes o xs t → Each (IsNamed e) xs →
        GivesHeld f few w ts y (operation_text e o xs) (datum_held (value (reads f.args f.now) t)) (after f few y e.lines)
    operation-gives o xs t c h n =
        let d = operands-held o xs h (writes_each o) in
        let g : operated y held o (if writes_each o then each_typed e xs else first_typed e (written_type o (types_of_all xs)) xs) ≡ Some (datum_held (value (reads f.args f.now) t)) =
        of-values y held o _ _ d ∙ ap (λ x. Some (datum_held x)) (sym (c.mean (reads f.args f.now) reads-fit)) in
        λ i. record (after f few y e.lines) { held = if_held held (Some n) (g i) }

    -- a probe gives the value of its part
    pub probe-gives : (p : Part) (t : Tree) → IsProbe p t → IsNamedPart e p → GivesHeld f few w ts y (prb_text (signal e p)) (datum_held (value (reads f.args f.now) t)) (after f few y e.lines)
    probe-gives p t c h n =
        let b = part-held p h in
        let g : read_bits f.now (Some p.ty) (part_at held (part_name e p)) ≡ Some (datum_held (value (reads f.args f.now) t)) =
        ap (λ o. read_bits f.now (Some p.ty) (option_and_then as_part o)) b.held ∙ ap (λ x. Some (datum_held x)) (sym (c.mean (reads f.args f.now))) in
        λ i. record (after f few y e.lines) { held = if_held held (Some n) (g i) }

    step-gives : (n : List ℕ) (q to : Part) (o : Op) → HoldsPart f few y held n q → part_by q o ≡ Some to →
        GivesHeld f few w ts y (pure_text o (typed n (signal_type to.ty) ∷ [])) (part_held (range_in f.args to)) (after f few y e.lines)
    step-gives n q to o b h k =
        let g = step-operated y held n q to o b h in
        λ i. record (after f few y e.lines) { held = if_held held (Some k) (g i) }

  -- the type of a step
  pub step-type : (q to : Part) (n : List ℕ) (o : Op) → part_by q o ≡ Some to → result_type (pure_text o (typed n (signal_type to.ty) ∷ [])) ≡ Some (signal_type to.ty)
  step-type q to n (op.Extf k) h = refl
  step-type q to n (op.Exts at len) h = refl
  step-type q to n _ h = absurd cc

  module _ (w : Wish) (ts : List Bool) where
    -- the steps to a part
    steps-keep : (p q : Part) (n : List ℕ) (more : List PartStep) (e : Emitted) → Inv f few w ts e →
        ((y : UnitText) → Begins f few y e.lines → HoldsPart f few y (after f few y e.lines).held n q) → StepsLead q more p →
        Inv f few w ts (takes_steps (source f few) p n more e)
    steps-keep p q n [] e inv h l = λ y b. names-part f few w ts y e p n (inv y b) (subst (HoldsPart f few y (after f few y e.lines).held n) l (h y b))
    steps-keep p q n (st ∷ more) e inv h l =
        let i : InstText = pure_text st.op (typed n (signal_type st.to.ty) ∷ []) in
        let g = λ (y : UnitText) (b : Begins f few y (gives (source f few) i e).lines).
        step-gives w ts y e (inv y (begins-before f few y e.lines _ b)) n q st.to st.op (h y (begins-before f few y e.lines _ b)) l.0 in
        steps-keep p st.to (next_name (source f few) e) more (gives (source f few) i e)
        (λ y b. gives-means f few w ts y e i _ b (inv y (begins-before f few y e.lines _ b)) (g y b))
        (λ y b. record {
          held = held-new f few w ts y e i _ b (inv y (begins-before f few y e.lines _ b)) (g y b);
          type = type-new f few w ts y e i _ b (inv y (begins-before f few y e.lines _ b)) (g y b) ∙ step-type q st.to n st.op l.0;
        })
        l.1

    scalar-gives : (v : Datum) → IsScalar v → (y : UnitText) (p : Passed) → GivesHeld f few w ts y (const_text v) (datum_held v) p
    scalar-gives v h y p n = refl

    pub keeps : Keeps (source f few) (IsReached (source f few)) (Inv f few w ts)
    keeps = record {
      scalar = λ v e s t inv y b. term-means f few w ts y e (constant v) (const_text v) b (inv y (begins-before f few y e.lines _ b)) (scalar-gives v s y (after f few y e.lines));
      computed = λ o xs t e c r d h inv y b.
          let m = inv y (begins-before f few y e.lines _ b) in
          term-means f few w ts y e t (operation_text e o xs) b m (operation-gives w ts y e m o xs t c h);
      probed = λ p t e c d h inv y b.
          let m = inv y (begins-before f few y e.lines _ b) in
          term-means f few w ts y e t (prb_text (signal e p)) b m (probe-gives w ts y e m p t c h);
      stepped = λ p e d r inv.
          let q : Part = whole_argument p.arg r.carries in
          steps-keep p q (arg_name (slice_get f.unit.args p.arg)) (f.steps p) e inv
          (λ y b. subst (λ o. HoldsPart f few y (after f few y e.lines).held (arg_name o) q) (sym r.there) ((inv y b).args p.arg r.arg r.carries r.there r.signal))
          r.leads;
    }
