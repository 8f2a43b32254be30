-- Each instruction that need of a term emits says the term read again from its leaves.
use Rattle.std.proofs.Common.{◌≡◌, ℕ, ◌+◌, Bool, true, false, ◌&&◌, if◌then◌else◌, List, [], ◌∷◌, ◌++◌, map, Option, Some, None, slice_get, unwrap_or, refl, ap, sym, ◌∙◌, subst, arith, inl, inr, ◌⊎◌}
use Rattle.std.specs.Option.{option_and_then, option_map}
use Rattle.lh_types.specs.Types.{TypeTree, int_type, signal_type, same_type}
use Rattle.lh_types.specs.Parts.{Part as TypePart, step_part}
use Rattle.lh_types.specs.declared.part.Step.{Step}
use Rattle.lh_types.specs.Same.{same-refl}
use Rattle.lh_types.specs.Values.{Datum, DatumRow, array_value, tuple_value, no_values, more_values, data_row}
use Rattle.lh_types.specs.Apply.{apply}
use Rattle.lh_types.specs.declared.op.Op.{Op}
use Rattle.lh_types.specs.declared.op.Op.TheVariants.{Mux, Array, Tuple}
use Rattle.lh_unit.specs.Contents.{InstText, OperandText, const_text, pure_text, prb_text, ArgText, UnitText}
use Rattle.lh_unit.specs.Effects.{step_of}
use Rattle.lh_unit.proofs.Lists.{some_inj}
use Rattle.lh_unit.specs.Held.{front}
use Rattle.lh_unit.specs.Typing.{or_else}
use Rattle.lh_unit.specs.Within.{Each}
use Rattle.lh_term.specs.Tree.{Tree, TreeRow, constant, past_of, now_of, operation, choice_of, no_trees, more_trees, operation_on}
use Rattle.lh_term.specs.Types.{IsTyped, type_of}
use Rattle.lh_term.specs.Make.{is_constant, all_constant, value_in, values_in, make_operation}
use Rattle.lh_term.specs.Parts.{whole_argument}
use Rattle.lh_term.specs.declared.part.Part.{Part}
use Rattle.lh_term.proofs.Sound.{constant_term}
use Rattle.lh_edge.specs.Atoms.{is_one_bit}
use Rattle.lh_region_def.specs.Known.{Known, known_value, known_part, with_known, with_given, as_value, as_part, value_known, part_known, values_known}
use Rattle.lh_region_def.specs.Places.{stepped, part_stepped}
use Rattle.lh_region_def.specs.Typed.{Among}
use Rattle.lh_emit_def.specs.Emitted.{PartStep, source_of, Emitted, gives, next_name, takes_steps, arg_name, term_name, part_name, typed, bare, signal}
use Rattle.lh_emit_def.specs.Needs.{constants, operands_in, pair_of, writes_each, written_type, each_typed, first_typed, types_of_all, operation_text}
use Rattle.lh_emit_def.specs.Ways.{part_by_step, part_by, StepsLead, IsReached}
use Rattle.lh_emit_def.proofs.ComputedTerms.{MakesTerm, its_own, elements, fields, both, Computes, pair-constant, pair-else}
use Rattle.lh_emit_def.proofs.Induction.{IsNamed, IsNamedPart}
use Rattle.lh_emit_def.proofs.NeedLaws.{IsScalar, IsProbe, NotProbe, Keeps}
use Rattle.lh_emit_def.proofs.PassState.{HasFewArgs, Begins, begins-before}
use Rattle.lh_emit_def.proofs.SensedParts.{among-before, among-last}
use Rattle.lh_cert_terms.specs.Rebuilding.{pair_in, selected, read_operation, rebuilt, rebuilt_row}
use Rattle.lh_cert_terms.proofs.Reading.{rebuilt_sound}
use Rattle.lh_cert_rows.specs.Rows.{EntityRow}
use Rattle.lh_cert_rows.specs.Reading.{EntityText, operated, probed}
use Rattle.lh_cert_emitted.proofs.SaysState.{frame, said, Says, Inv, SaysKnown, gives-says, known-new, names-part, term-says}

-- ---- an operation as read

abbrev pub all_rebuilt : List Tree → List Tree
all_rebuilt ts = map rebuilt ts

row-rebuilt : (ts : TreeRow) → all_rebuilt (operands_in ts) ≡ rebuilt_row ts
row-rebuilt no_trees = refl
row-rebuilt (more_trees t ts) = ap (λ l. rebuilt t ∷ l) (row-rebuilt ts)

constants-rebuilt : (vs : DatumRow) → all_rebuilt (constants vs) ≡ constants vs
constants-rebuilt no_values = refl
constants-rebuilt (more_values v vs) = ap (λ l. constant v ∷ l) (constants-rebuilt vs)

constants-are : (vs : DatumRow) → all_constant (constants vs) ≡ true
constants-are no_values = refl
constants-are (more_values v vs) = constants-are vs

constants-in : (vs : DatumRow) → data_row (values_in (constants vs)) ≡ vs
constants-in no_values = refl
constants-in (more_values v vs) = ap (more_values v) (constants-in vs)

-- the array or struct of a constant's parts
array-made : (vs : DatumRow) → make_operation Array (constants vs) ≡ constant (array_value vs)
unfolding apply
array-made vs = rw (constants-are vs) (ap (λ r. constant (array_value r)) (constants-in vs))

tuple-made : (vs : DatumRow) → make_operation Tuple (constants vs) ≡ constant (tuple_value vs)
unfolding apply
tuple-made vs = rw (constants-are vs) (ap (λ r. constant (tuple_value r)) (constants-in vs))

-- the two elements of an array of two terms, as it is made
pair-in : (x y : Tree) → pair_in (pair_of x y) ≡ Some (x, y)
pair-in x y = at (is_constant x) (is_constant y) refl refl
  where
    at : (a b : Bool) → is_constant x ≡ a → is_constant y ≡ b → pair_in (pair_of x y) ≡ Some (x, y)
    at true true p q =
        let e : x ≡ constant (value_in x) = constant_term x p in
        let g : y ≡ constant (value_in y) = constant_term y q in
        ap pair_in (pair-constant x y p q) ∙ sym ((λ i. Some (e i, y)) ∙ (λ i. Some (constant (value_in x), g i)))
    at true false p q = ap pair_in (pair-else x y (rw (p, q) refl))
    at false true p q = ap pair_in (pair-else x y (rw p refl))
    at false false p q = ap pair_in (pair-else x y (rw p refl))

pair-read : (f t : Tree) → pair_in (rebuilt (pair_of f t)) ≡ Some (rebuilt f, rebuilt t)
pair-read f t = at (is_constant f) (is_constant t) refl refl
  where
    other : (is_constant f && is_constant t) ≡ false → pair_in (rebuilt (pair_of f t)) ≡ Some (rebuilt f, rebuilt t)
    other p = ap (λ x. pair_in (rebuilt x)) (pair-else f t p) ∙ pair-in (rebuilt f) (rebuilt t)

    at : (a b : Bool) → is_constant f ≡ a → is_constant t ≡ b → pair_in (rebuilt (pair_of f t)) ≡ Some (rebuilt f, rebuilt t)
    at true true p q =
        let e : f ≡ constant (value_in f) = constant_term f p in
        let g : t ≡ constant (value_in t) = constant_term t q in
        ap (λ x. pair_in (rebuilt x)) (pair-constant f t p q) ∙ sym ((λ i. Some (rebuilt (e i), rebuilt t)) ∙ (λ i. Some (constant (value_in f), rebuilt (g i))))
    at true false p q = other (rw (p, q) refl)
    at false true p q = other (rw p refl)
    at false false p q = other (rw p refl)

-- an operation that makes a term gives, of its operands read again, the term read again
operation-read : (o : Op) (ts : List Tree) (t : Tree) → Computes o ts t → read_operation o (all_rebuilt ts) ≡ rebuilt t
operation-read o ts t c = by o ts t c.makes c.typed
  where
    by : (o : Op) (ts : List Tree) (t : Tree) → MakesTerm o ts t → IsTyped t → read_operation o (all_rebuilt ts) ≡ rebuilt t
    by o ts t (its_own op xs) w = ap (read_operation op) (row-rebuilt xs)
    by o ts t (elements vs) w = ap (make_operation Array) (constants-rebuilt vs) ∙ array-made vs
    by o ts t (fields vs) w = ap (make_operation Tuple) (constants-rebuilt vs) ∙ tuple-made vs
    by o ts t (both c f g) w =
        let one : is_one_bit (rebuilt c) ≡ true = ap (λ x. same_type x (int_type 1)) ((rebuilt_sound c w.0).type ∙ w.3.0) ∙ same-refl (int_type 1) in
        let found : (if is_one_bit (rebuilt c) then pair_in (rebuilt (pair_of f g)) else None) ≡ Some (rebuilt f, rebuilt g) =
        ap (λ (b : Bool). if b then pair_in (rebuilt (pair_of f g)) else None) one ∙ pair-read f g in
        ap (selected (rebuilt (pair_of f g)) (rebuilt c)) found

-- ---- the instructions that need emits

module _ (u : UnitText) (steps : Part → List PartStep) (few : HasFewArgs u) (Good : Part → Type 0) where
  -- a step to a part
  step-known : (q to : Part) (o : Option Step) → option_and_then (part_by_step q) o ≡ Some to → stepped (Some q) (Some to.ty) o ≡ Some (known_part to)
  step-known q to None h = absurd cc
  step-known q to (Some st) h = at (step_part q.ty st) refl
    where
      at : (x : Option TypePart) → step_part q.ty st ≡ x → stepped (Some q) (Some to.ty) (Some st) ≡ Some (known_part to)
      at None r = let z : None ≡ Some to = (rw r at h) in absurd cc
      at (Some a) r =
          let p : Part = record { arg = q.arg; lo = q.lo + a.lo; ty = a.of } in
          let z : Some p ≡ Some to = (rw r at h) in
          let e : p ≡ to = some_inj p to z in
          let l : q.lo + (a.lo + 0) ≡ q.lo + a.lo = omega arith in
          rw r ((λ i. Some (known_part (record { arg = q.arg; lo = l i; ty = (sym e i).ty })))
          ∙ ap (λ (x : Part). Some (known_part x)) e)

  module _ (rows : List EntityRow) (e : Emitted) (m : Says u steps few Good rows e) where
    abbrev text : EntityText
    text = said u steps few Good e.lines

    pub term-known : (t : Tree) → IsNamed e t → value_known text.known (term_name e t) ≡ Some (rebuilt t)
    term-known t n = ap (λ o. value_known text.known (unwrap_or o [])) n.is ∙ ap (option_and_then as_value) (m.terms t n.name n.is)

    pub part-known : (p : Part) → IsNamedPart e p → text.known (part_name e p) ≡ Some (known_part p)
    part-known p n = ap (λ o. text.known (unwrap_or o [])) n.is ∙ m.parts p n.name n.is

    all-typed : (ts : List Tree) → Each (IsNamed e) ts → values_known text.known (each_typed e ts) ≡ Some (all_rebuilt ts)
    all-typed [] h = refl
    all-typed (x ∷ xs) h = let p = term-known x h.0 in let q = all-typed xs h.1 in λ i. front (p i) (q i)

    all-bare : (ts : List Tree) → Each (IsNamed e) ts → values_known text.known (map (λ t. bare (term_name e t)) ts) ≡ Some (all_rebuilt ts)
    all-bare [] h = refl
    all-bare (x ∷ xs) h = let p = term-known x h.0 in let q = all-bare xs h.1 in λ i. front (p i) (q i)

    first-typed : (d : TypeTree) (ts : List Tree) → Each (IsNamed e) ts → values_known text.known (first_typed e d ts) ≡ Some (all_rebuilt ts)
    first-typed d [] h = refl
    first-typed d (x ∷ xs) h = let p = term-known x h.0 in let q = all-bare xs h.1 in λ i. front (p i) (q i)

    operands-known : (d : TypeTree) (ts : List Tree) → Each (IsNamed e) ts → (b : Bool) → values_known text.known (if b then each_typed e ts else first_typed e d ts) ≡ Some (all_rebuilt ts)
    operands-known d ts h true = all-typed ts h
    operands-known d ts h false = first-typed d ts h

    operation-says : (o : Op) (ts : List Tree) (t : Tree) → Computes o ts t → Each (IsNamed e) ts → SaysKnown u steps few Good (operation_text e o ts) (known_value (rebuilt t)) text.probes text
    operation-says o ts t c h n =
        let args : List OperandText = if writes_each o then each_typed e ts else first_typed e (written_type o (types_of_all ts)) ts in
        let d = operands-known (written_type o (types_of_all ts)) ts h (writes_each o) in
        let g : operated text.known o args ≡ Some (known_value (rebuilt t)) =
        ap (λ z. or_else (option_map (λ ts. known_value (read_operation o ts)) z) (part_stepped text.known o args)) d ∙ ap (λ x. Some (known_value x)) (operation-read o ts t c) in
        λ i. record text { known = with_given text.known (Some n) (g i) }

    probe-says : (p : Part) (t : Tree) → IsProbe p t → IsNamedPart e p → SaysKnown u steps few Good (prb_text (signal e p)) (known_value (rebuilt t)) (text.probes ++ p ∷ []) text
    probe-says p t c h n =
        let b : part_known text.known (part_name e p) ≡ Some p = ap (option_and_then as_part) (part-known p h) in
        let r : now_of p ≡ rebuilt t = sym (now-read c.is) in
        (λ i. probed text (Some n) (b i)) ∙ (λ i. record { known = with_known text.known n (known_value (r i)); probes = text.probes ++ p ∷ []; rows = text.rows })
      where
        now-read : (t ≡ now_of p) ⊎ (t ≡ past_of p) → rebuilt t ≡ now_of p
        now-read (inl q) = ap rebuilt q
        now-read (inr q) = ap rebuilt q

    step-says : (n : List ℕ) (q to : Part) (o : Op) → text.known n ≡ Some (known_part q) → part_by q o ≡ Some to →
        SaysKnown u steps few Good (pure_text o (typed n (signal_type to.ty) ∷ [])) (known_part to) text.probes text
    step-says n q to o b h k =
        let args : List OperandText = typed n (signal_type to.ty) ∷ [] in
        let g : operated text.known o args ≡ Some (known_part to) =
        (λ i. or_else (option_map (λ ts. known_value (read_operation o ts)) (front (option_and_then as_value (b i)) (Some []))) (stepped (option_and_then as_part (b i)) (Some to.ty) (step_of o)))
        ∙ step-known q to (step_of o) h in
        λ i. record text { known = with_given text.known (Some k) (g i) }

    scalar-says : (v : Datum) → SaysKnown u steps few Good (const_text v) (known_value (rebuilt (constant v))) text.probes text
    scalar-says v n = refl

  -- what is no value of a part
  no-probe : (t : Tree) (ps : List Part) → NotProbe t → (p : Part) → t ≡ now_of p → Among p ps
  no-probe t ps h p q = absurd (subst NotProbe q h)

  probed-now : (p : Part) (t : Tree) (ps : List Part) → IsProbe p t → (q : Part) → t ≡ now_of q → Among q (ps ++ p ∷ [])
  probed-now p t ps c q h = by c.is
    where
      by : (t ≡ now_of p) ⊎ (t ≡ past_of p) → Among q (ps ++ p ∷ [])
      by (inl g) = let z : p ≡ q = cc in subst (λ (r : Part). Among r (ps ++ p ∷ [])) z (among-last p ps)
      by (inr g) = absurd cc

  good-more : (ps : List Part) (p : Part) → Each Good ps → Good p → Each Good (ps ++ p ∷ [])
  good-more [] p h g = (g, tt)
  good-more (q ∷ ps) p h g = (h.0, good-more ps p h.1 g)

  -- the steps to a part
  steps-say : (rows : List EntityRow) (p q : Part) (n : List ℕ) (more : List PartStep) (e : Emitted) → Inv u steps few Good rows e →
      ((y : UnitText) → Begins (frame u steps few Good) few y e.lines → (said u steps few Good e.lines).known n ≡ Some (known_part q)) → StepsLead q more p →
      Inv u steps few Good rows (takes_steps (source_of u steps) p n more e)
  steps-say rows p q n [] e inv h l = λ y b.
      names-part u steps few Good rows e p n (inv y b) (h y b ∙ ap (λ (x : Part). Some (known_part x)) l)
  steps-say rows p q n (st ∷ more) e inv h l =
      let i : InstText = pure_text st.op (typed n (signal_type st.to.ty) ∷ []) in
      let s = source_of u steps in
      let before = λ (y : UnitText) (b : Begins (frame u steps few Good) few y (gives s i e).lines). begins-before (frame u steps few Good) few y e.lines _ b in
      let g = λ (y : UnitText) (b : Begins (frame u steps few Good) few y (gives s i e).lines).
      step-says rows e (inv y (before y b)) n q st.to st.op (h y (before y b)) l.0 in
      steps-say rows p st.to (next_name s e) more (gives s i e)
      (λ y b. let m = inv y (before y b) in gives-says u steps few Good rows y e i _ _ b m (g y b) m.probed (λ p k. k) (refl, refl, refl))
      (λ y b. let m = inv y (before y b) in known-new u steps few Good rows y e i _ _ b m (g y b) m.probed (λ p k. k) (refl, refl, refl))
      l.1

  pub keeps : (rows : List EntityRow) → ((p : Part) → Good p → IsReached (source_of u steps) p) → Keeps (source_of u steps) Good (Inv u steps few Good rows)
  keeps rows reached = record {
    scalar = λ v e s t inv y b.
        let m = inv y (begins-before (frame u steps few Good) few y e.lines _ b) in
        term-says u steps few Good rows y e (constant v) (const_text v) _ b m (scalar-says rows e m v) m.probed (λ p k. k) (λ p q. absurd cc) (refl, refl, refl);
    computed = λ o ts t e c r d h inv y b.
        let m = inv y (begins-before (frame u steps few Good) few y e.lines _ b) in
        term-says u steps few Good rows y e t (operation_text e o ts) _ b m (operation-says rows e m o ts t c h) m.probed (λ p k. k) (no-probe t _ d) (refl, refl, refl);
    probed = λ p t e c d h inv y b.
        let m = inv y (begins-before (frame u steps few Good) few y e.lines _ b) in
        term-says u steps few Good rows y e t (prb_text (signal e p)) _ b m (probe-says rows e m p t c h) (good-more _ p m.probed d) (λ q k. among-before q _ (p ∷ []) k) (probed-now p t _ c) (refl, refl, refl);
    stepped = λ p e d r inv.
        let q : Part = whole_argument p.arg r.carries in
        steps-say rows p q (arg_name (slice_get u.args p.arg)) (steps p) e inv
        (λ y b. ap (λ (o : Option ArgText). (said u steps few Good e.lines).known (arg_name o)) r.there ∙ (inv y b).args p.arg r.arg r.carries r.there r.signal)
        r.leads;
  }
