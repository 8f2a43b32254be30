-- The parts of values by names, and the steps that lead to them, are those by ids.
use Rattle.std.proofs.Common.{◌≡◌, ◌⊎◌, inl, inr, ℕ, zero, suc, ◌+◌, Bool, true, false, if◌then◌else◌, List, [], ◌∷◌, ◌++◌, map, Option, Some, None, refl, ap, sym, ◌∙◌, subst}
use Rattle.std.specs.Option.{option_and_then, option_map}
use Rattle.std.proofs.lemmas.List.{map-append}
use Rattle.std.proofs.lemmas.Option.{same_Some, none-some}
use Rattle.lh_types.specs.Types.{TypeTree, signal_type}
use Rattle.lh_types.specs.Parts as Parts
use Rattle.lh_types.specs.Parts.{range_of, step_part}
use Rattle.lh_types.specs.declared.op.Op.{Op}
use Rattle.lh_types.specs.declared.op.Op.TheVariants as op
use Rattle.lh_types.specs.declared.part.Step.{Step}
use Rattle.lh_unit.specs.Contents.{OperandText, InstText, pure_text, LineText, UnitText, is_result_name}
use Rattle.lh_unit_names.specs.Names.{same_name}
use Rattle.lh_unit.specs.Effects.{step_of}
use Rattle.lh_unit.specs.Hierarchy.{lines_of}
use Rattle.lh_unit.specs.Naming.{Naming, operand_text, inst_text}
use Rattle.lh_unit.specs.Typing.{value_type, result_type, carried, or_else, line_giving, inst_giving}
use Rattle.lh_unit.specs.Within.{Each}
use Rattle.lh_unit.specs.declared.inst.ValueId.{ValueId}
use Rattle.lh_unit.specs.declared.inst.Typed.{Typed}
use Rattle.lh_unit.specs.declared.inst.Inst.{Inst}
use Rattle.lh_unit.specs.declared.inst.Inst.TheVariants as inst
use Rattle.lh_unit_names.proofs.NameLists.{same_name-is}
use Rattle.lh_verify_laws.specs.Parts.{HasPart}
use Rattle.lh_verify_laws.proofs.PartsLaw.{parts_have_ranges}
use Rattle.lh_verify_laws.proofs.PartSteps.{takes-part, step-type}
use Rattle.lh_eval_laws.proofs.NamedOnce.{giving-lines}
use Rattle.lh_flat_laws.specs.Formed.{IsFormed}
use Rattle.lh_term.specs.declared.part.Part.{Part}
use Rattle.lh_flat_parts.specs.declared.step.PartStep.{PartStep as IdStep}
use Rattle.lh_flat_parts.specs.Steps.{step_if, step_in, part_within, stepped, part_by as id_part_by, part_found}
use Rattle.lh_region_def.proofs.Heads.{argument-of}
use Rattle.lh_region_def.proofs.PartsNamed.{no-argument}
use Rattle.lh_emit_def.specs.Reached.{Reached, as_argument, stepped_by, further, reached}
use Rattle.lh_region_def.specs.Known.{argument_part}
use Rattle.lh_region_def.proofs.Sites.{LineGood}
use Rattle.lh_emit_def.specs.Ways.{inner, part_by_step}
use Rattle.lh_emit_def.proofs.ReachedParts.{further-is}
use Rattle.lh_emit_def.proofs.PartsLed.{part-led, Taken, taken}
use Rattle.lh_emit_source.specs.Origins.{step_text}

-- ---- by ids

-- a part, and the operations and types of the steps that lead to it from its argument
pub record Way : Type 0 where
  pub part : Part
  pub steps : List (Op × TypeTree)

abbrev pub whole_way : Part → Way
whole_way p = record { part = p; steps = [] }

-- one step more
abbrev pub with_step : Way → IdStep → Part → Way
with_step w s q = record { part = q; steps = w.steps ++ (s.op, s.ty) ∷ [] }

abbrev pub extended : IdStep → Way → Option Way
extended s w = option_map (with_step w s) (stepped w.part s)

abbrev pub way_by : (ℕ → Option Way) → Option IdStep → Option Part → Option Way
way_by g None a = option_map whole_way a
way_by g (Some s) a = option_and_then (extended s) (g s.from.0)

-- the way to a value by fewer than n steps
abbrev pub way_found : (n : ℕ) → (ℕ → Option IdStep) → (ℕ → Option Part) → ℕ → Option Way
way_found zero f a v = None
way_found (suc n) f a v = way_by (way_found n f a) (f v) (a v)

abbrev pub way_part : Way → Part
way_part w = w.part

whole-part : (o : Option Part) → option_map way_part (option_map whole_way o) ≡ o
whole-part None = refl
whole-part (Some p) = refl

extended-part : (s : IdStep) (w : Option Way) → option_map way_part (option_and_then (extended s) w) ≡ option_and_then (λ p. stepped p s) (option_map way_part w)
extended-part s None = refl
extended-part s (Some w) = at (stepped w.part s)
  where
    at : (o : Option Part) → option_map way_part (option_map (with_step w s) o) ≡ o
    at None = refl
    at (Some q) = refl

-- its part is the one that is found
pub way-part : (n : ℕ) (f : ℕ → Option IdStep) (a : ℕ → Option Part) (v : ℕ) → option_map way_part (way_found n f a v) ≡ part_found n f a v
way-part zero f a v = refl
way-part (suc n) f a v = by (f v) (λ u. way-part n f a u)
  where
    by : (o : Option IdStep) → ((u : ℕ) → option_map way_part (way_found n f a u) ≡ part_found n f a u) → option_map way_part (way_by (way_found n f a) o (a v)) ≡ id_part_by (part_found n f a) o (a v)
    by None g = whole-part (a v)
    by (Some s) g = extended-part s (way_found n f a s.from.0) ∙ ap (option_and_then (λ p. stepped p s)) (g s.from.0)

-- ---- what is reached by names

abbrev pub seen : Reached → Way
seen r = record { part = r.part; steps = map step_text r.steps }

abbrev pub as_reached : Part → Reached
as_reached p = record { part = p; steps = [] }

pub seen-none : (o : Option Reached) → option_map seen o ≡ None → o ≡ None
seen-none None e = refl
seen-none (Some r) e = absurd (none-some (seen r) (sym e))

-- what a step by ids gives, by what is reached by names
abbrev pub by_step : (f : Naming) → (List ℕ → Option Reached) → Option IdStep → Option Way
by_step f g None = None
by_step f g (Some s) = option_and_then (extended s) (option_map seen (g (f.value_name s.from.0)))

-- ---- the part to which a step leads

id-led : (o : Op) (s : Step) (q : Part) (z : Parts.Part) (v : ValueId) → step_of o ≡ Some s → step_part q.ty s ≡ Some z → stepped q (record { from = v; op = o; ty = z.of }) ≡ Some (inner q z)
id-led o s q z v so leads =
    ap (λ (x : Option Step). option_map (part_within q z.of) (option_and_then (λ (y : Step). range_of q.ty (y ∷ [])) x)) so
    ∙ ap (option_map (part_within q z.of)) (parts_have_ranges q.ty s z leads)

-- ---- lines

pub record Giving (G : LineText → Type 0) (n : List ℕ) (i : InstText) : Type 0 where
  pub line : LineText
  pub good : G line
  pub result : line.result ≡ Some n
  pub inst : line.inst ≡ i

pub giving-at : (G : LineText → Type 0) (n : List ℕ) (ls : List LineText) (i : InstText) → Each G ls → line_giving n ls ≡ Some i → Giving G n i
giving-at G n [] i g e = absurd (none-some i e)
giving-at G n (l ∷ ls) i g e = by l.result refl e (giving-at G n ls i g.1)
  where
    at : (m : List ℕ) → l.result ≡ Some m → (b : Bool) → same_name m n ≡ b → (if b then Some l.inst else line_giving n ls) ≡ Some i → (line_giving n ls ≡ Some i → Giving G n i) → Giving G n i
    at m r true s k go = record { line = l; good = g.0; result = r ∙ ap Some (same_name-is m n s); inst = same_Some l.inst i k }
    at m r false s k go = go k

    by : (r : Option (List ℕ)) → l.result ≡ r → (if is_result_name n r then Some l.inst else line_giving n ls) ≡ Some i → (line_giving n ls ≡ Some i → Giving G n i) → Giving G n i
    by None r k go = go k
    by (Some m) r k go = at m r (same_name m n) refl k go

-- the operation of a step is one
steps-by : (o : Op) (from r : Reached) → stepped_by o from ≡ Some r → (s : Step) × (step_of o ≡ Some s)
steps-by o from r h = at (step_of o) refl h
  where
    at : (x : Option Step) → step_of o ≡ x → option_map (λ p. let z : Reached = record { part = p; steps = from.steps ++ record { op = o; to = p } ∷ [] } in
        z) (option_and_then (part_by_step from.part) x) ≡ Some r → (s : Step) × (step_of o ≡ Some s)
    at None q k = absurd (none-some r k)
    at (Some s) q k = (s, q)

-- ---- what is reached is a signal of its type

module _ (u : UnitText) (formed : IsFormed u) (good : Each (LineGood u) (lines_of u.blocks)) where
  argument-typed : (n : List ℕ) (r : Reached) → as_argument u n ≡ Some r → value_type u n ≡ Some (signal_type r.part.ty)
  argument-typed n r h = at (argument_part n 0 u.args) refl h
    where
      at : (o : Option Part) → argument_part n 0 u.args ≡ o → option_map as_reached o ≡ Some r → value_type u n ≡ Some (signal_type r.part.ty)
      at None q k = absurd (none-some r k)
      at (Some p) q k =
          (argument-of u n 0 u.args p formed.args formed.ports q).1
          ∙ ap (λ (z : Reached). Some (signal_type z.part.ty)) (same_Some (as_reached p) r k)

  -- the result of a step from a signal
  step-typed : (n : List ℕ) (o : Op) (x : OperandText) (from r : Reached) → Giving (LineGood u) n (pure_text o (x ∷ [])) → value_type u x.value ≡ Some (signal_type from.part.ty)
      → stepped_by o from ≡ Some r → value_type u n ≡ Some (signal_type r.part.ty)
  step-typed n o x from r l t h =
      let s = steps-by o from r h in
      let k = taken u x s.0 from.part (takes-part u o s.0 (x ∷ []) s.1 (subst (HasPart u) l.inst l.good.0.part)) t in
      let led : stepped_by o from ≡ Some (record { part = inner from.part k.part; steps = from.steps ++ record { op = o; to = inner from.part k.part } ∷ [] }) =
      ap (option_map (λ p. let z : Reached = record { part = p; steps = from.steps ++ record { op = o; to = p } ∷ [] } in z)) (part-led o s.0 from.part k.part s.1 k.leads) in
      l.good.0.gives n l.result ∙ ap result_type l.inst ∙ step-type o s.0 x s.1 ∙ k.written ∙ ap (λ (z : Reached). Some (signal_type z.part.ty)) (same_Some _ r (sym led ∙ h))

  or-else-is : (a b : Option Reached) (r : Reached) → or_else a b ≡ Some r → (a ≡ Some r) ⊎ (b ≡ Some r)
  or-else-is None b r h = inr h
  or-else-is (Some x) b r h = inl h

  reached-typed : (k : ℕ) (n : List ℕ) (r : Reached) → reached k u n ≡ Some r → value_type u n ≡ Some (signal_type r.part.ty)
  reached-typed zero n r h = argument-typed n r h
  reached-typed (suc k) n r h = by (or-else-is (as_argument u n) (further (reached k u) (inst_giving n u.blocks)) r h) (λ m x e. reached-typed k m x e)
    where
      by : (as_argument u n ≡ Some r) ⊎ (further (reached k u) (inst_giving n u.blocks) ≡ Some r)
          → ((m : List ℕ) (x : Reached) → reached k u m ≡ Some x → value_type u m ≡ Some (signal_type x.part.ty)) → value_type u n ≡ Some (signal_type r.part.ty)
      by (inl a) go = argument-typed n r a
      by (inr b) go =
          let s = further-is (reached k u) (inst_giving n u.blocks) r b in
          let l = giving-at (LineGood u) n (lines_of u.blocks) (pure_text s.op (s.operand ∷ [])) good (sym (giving-lines n u.blocks) ∙ s.is) in
          step-typed n s.op s.operand s.from r l (go s.operand.value s.from s.reaches) s.steps

  -- ---- what a line gives

  module _ (f : Naming) (k : ℕ) where
    no-step : (o : Op) (v : ValueId) (x : Option Step) (t : Option TypeTree) → reached k u (f.value_name v.0) ≡ None → by_step f (reached k u) (step_if o v x t) ≡ None
    no-step o v None None e = refl
    no-step o v None (Some t) e = refl
    no-step o v (Some s) None e = refl
    no-step o v (Some s) (Some t) e = ap (λ (z : Option Reached). option_and_then (extended (record { from = v; op = o; ty = t })) (option_map seen z)) e

    -- the step is the operation on a signal
    step-given : (o : Op) (x : Typed) (s : Step) (r : Reached) → step_of o ≡ Some s → reached k u (f.value_name x.value.0) ≡ Some r → Taken u (operand_text f x) s r.part
        → option_map seen (stepped_by o r) ≡ by_step f (reached k u) (step_if o x.value (step_of o) (option_and_then carried x.ty))
    step-given o x s r so e t =
        let q = inner r.part t.part in
        let left : option_map seen (stepped_by o r) ≡ Some (record { part = q; steps = map step_text (r.steps ++ record { op = o; to = q } ∷ []) }) =
        ap (λ (z : Option Part). option_map seen (option_map (λ p. let y : Reached = record { part = p; steps = r.steps ++ record { op = o; to = p } ∷ [] } in y) z))
        (part-led o s r.part t.part so t.leads) in
        let is : step_if o x.value (step_of o) (option_and_then carried x.ty) ≡ Some (record { from = x.value; op = o; ty = t.part.of }) =
        (λ i. step_if o x.value (so i) (option_and_then carried (t.written i))) in
        let right : by_step f (reached k u) (step_if o x.value (step_of o) (option_and_then carried x.ty)) ≡ Some (record { part = q; steps = map step_text r.steps ++ (o, t.part.of) ∷ [] }) =
        ap (by_step f (reached k u)) is
        ∙ ap (λ (z : Option Reached). option_and_then (extended (record { from = x.value; op = o; ty = t.part.of })) (option_map seen z)) e
        ∙ ap (option_map (with_step (seen r) (record { from = x.value; op = o; ty = t.part.of }))) (id-led o s r.part t.part x.value so t.leads) in
        left ∙ ap (λ (ss : List (Op × TypeTree)). let y : Way = record { part = q; steps = ss } in Some y) (map-append step_text r.steps (record { op = o; to = q } ∷ [])) ∙ sym right

    one-given : (o : Op) (x : Typed) → HasPart u (pure_text o (operand_text f x ∷ [])) → option_map seen (option_and_then (stepped_by o) (reached k u (f.value_name x.value.0)))
        ≡ by_step f (reached k u) (step_if o x.value (step_of o) (option_and_then carried x.ty))
    one-given o x h = by (reached k u (f.value_name x.value.0)) refl
      where
        at : (r : Reached) → reached k u (f.value_name x.value.0) ≡ Some r → (s : Option Step) → step_of o ≡ s
            → option_map seen (stepped_by o r) ≡ by_step f (reached k u) (step_if o x.value (step_of o) (option_and_then carried x.ty))
        at r e (Some s) so = step-given o x s r so e (taken u (operand_text f x) s r.part (takes-part u o s (operand_text f x ∷ []) so h) (reached-typed k (f.value_name x.value.0) r e))
        at r e None so =
            ap (λ (z : Option Step). option_map seen (option_map (λ p. let y : Reached = record { part = p; steps = r.steps ++ record { op = o; to = p } ∷ [] } in y)
            (option_and_then (part_by_step r.part) z))) so
            ∙ sym (ap (λ (z : Option Step). by_step f (reached k u) (step_if o x.value z (option_and_then carried x.ty))) so)

        by : (z : Option Reached) → reached k u (f.value_name x.value.0) ≡ z → option_map seen (option_and_then (stepped_by o) (reached k u (f.value_name x.value.0)))
            ≡ by_step f (reached k u) (step_if o x.value (step_of o) (option_and_then carried x.ty))
        by None e = ap (λ (z : Option Reached). option_map seen (option_and_then (stepped_by o) z)) e ∙ sym (no-step o x.value (step_of o) (option_and_then carried x.ty) e)
        by (Some r) e = ap (λ (z : Option Reached). option_map seen (option_and_then (stepped_by o) z)) e ∙ at r e (step_of o) refl

    -- an instruction gives by names what it gives by ids
    pub inst-given : (i : Inst) → HasPart u (inst_text f i) → option_map seen (further (reached k u) (Some (inst_text f i))) ≡ by_step f (reached k u) (step_in i)
    inst-given (inst.Pure o []) h = refl
    inst-given (inst.Pure o (x ∷ [])) h = one-given o x h
    inst-given (inst.Pure o (x ∷ y ∷ more)) h = refl
    inst-given (inst.Const v) h = refl
    inst-given (inst.Var t) h = refl
    inst-given (inst.Ld t) h = refl
    inst-given (inst.St to value) h = refl
    inst-given (inst.Sig t) h = refl
    inst-given (inst.Prb t) h = refl
    inst-given (inst.Drv to value after cond) h = refl
    inst-given (inst.Reg to triggers) h = refl
    inst-given (inst.Child unit inputs outputs) h = refl
    inst-given (inst.Call unit result args) h = refl
    inst-given (inst.Phi ty edges) h = refl
    inst-given (inst.Br to) h = refl
    inst-given (inst.Branch cond first second) h = refl
    inst-given (inst.Wait to after signals) h = refl
    inst-given inst.Halt h = refl
    inst-given (inst.Ret None) h = refl
    inst-given (inst.Ret (Some t)) h = refl

  -- ---- a line that gives a name

  -- what is reached under it, by the line
  pub line-reached : (l : LineText) (n : List ℕ) → LineGood u l → l.result ≡ Some n → (reached zero u n ≡ None) × ((k : ℕ) → reached (suc k) u n ≡ further (reached k u) (Some l.inst))
  line-reached l n g r =
      let none : as_argument u n ≡ None = ap (option_map as_reached) (no-argument n 0 u.args (g.1 n r).0) in
      (none, λ k. ap (λ o. or_else o (further (reached k u) (inst_giving n u.blocks))) none ∙ ap (further (reached k u)) (giving-lines n u.blocks ∙ (g.1 n r).1))

  -- and nothing where it gives none
  pub line-none : (l : LineText) (n : List ℕ) → LineGood u l → l.result ≡ Some n → ((k : ℕ) → further (reached k u) (Some l.inst) ≡ None) → (k : ℕ) → reached k u n ≡ None
  line-none l n g r h zero = (line-reached l n g r).0
  line-none l n g r h (suc k) = (line-reached l n g r).1 k ∙ h k

  -- a name that no line gives by a step is reached as an argument alone
  pub argument-alone : (n : List ℕ) → ((i : InstText) → inst_giving n u.blocks ≡ Some i → (k : ℕ) → further (reached k u) (Some i) ≡ None) → (k : ℕ) → reached k u n ≡ as_argument u n
  argument-alone n h zero = refl
  argument-alone n h (suc k) = at (inst_giving n u.blocks) refl
    where
      or-none : (o : Option Reached) → or_else o None ≡ o
      or-none None = refl
      or-none (Some r) = refl

      at : (o : Option InstText) → inst_giving n u.blocks ≡ o → or_else (as_argument u n) (further (reached k u) (inst_giving n u.blocks)) ≡ as_argument u n
      at None e = ap (λ o. or_else (as_argument u n) (further (reached k u) o)) e ∙ or-none (as_argument u n)
      at (Some i) e = ap (λ o. or_else (as_argument u n) (further (reached k u) o)) e ∙ ap (or_else (as_argument u n)) (h i e k) ∙ or-none (as_argument u n)
