-- A formed flat text says of its steps to parts what the table of parts asks for.
use Rattle.std.proofs.Common.{◌≡◌, inl, inr, ℕ, ◌+◌, ◌<◌, ◌^◌, Bool, true, false, ◌||◌, nat_eq, if◌then◌else◌, List, [], ◌∷◌, length, map, Option, Some, None, refl, ap, sym, ◌∙◌, subst}
use Rattle.std.specs.Option.{option_map, option_and_then}
use Rattle.std.proofs.lemmas.Option.{same_Some, none-some}
use Rattle.lh_types.specs.Types.{TypeTree, signal_type, bit_count}
use Rattle.lh_types.specs.Parts as Parts
use Rattle.lh_types.specs.Parts.{part_range}
use Rattle.lh_types.specs.declared.op.Op.{Op}
use Rattle.lh_types.specs.declared.part.Range.{Range}
use Rattle.lh_types.specs.declared.part.Step.{Step}
use Rattle.lh_unit_names.specs.declared.name.UnitName.{UnitName}
use Rattle.lh_unit.specs.declared.inst.Arg.{Arg}
use Rattle.lh_unit.specs.declared.inst.Inst.{Inst}
use Rattle.lh_unit.specs.declared.inst.Inst.TheVariants as inst
use Rattle.lh_unit.specs.declared.inst.Typed.{Typed}
use Rattle.lh_unit.specs.declared.inst.ValueId.{ValueId}
use Rattle.lh_unit.specs.ById.{maybe_id, values_used}
use Rattle.lh_unit.specs.Contents.{OperandText, pure_text, LineText, ArgText, UnitText, args_define}
use Rattle.lh_unit_names.specs.Names.{same_name}
use Rattle.lh_unit.specs.Effects.{step_of}
use Rattle.lh_unit.specs.Hierarchy.{lines_of}
use Rattle.lh_unit.specs.Naming.{Naming, operand_text, arg_text, inst_text}
use Rattle.lh_unit.specs.Typing.{carried, or_else, value_type, result_type}
use Rattle.lh_unit.specs.Within.{Each}
use Rattle.lh_unit.proofs.Lists.{nat_eq-is, Each-append}
use Rattle.lh_unit_names.proofs.NameLists.{same_name-refl}
use Rattle.lh_unit.proofs.Within.{Each-more}
use Rattle.lh_verify_laws.specs.Parts.{TakesPart, HasPart}
use Rattle.lh_verify_laws.proofs.PartsLaw.{parts_have_ranges}
use Rattle.lh_eval.specs.Sound.{InstIsSound}
use Rattle.lh_eval.proofs.PartsRead.{carried-some}
use Rattle.lh_eval_laws.specs.Units.{HasItsType}
use Rattle.lh_verify_laws.proofs.EachItem.{each-split}
use Rattle.lh_verify_laws.proofs.PartSteps.{leads-is, takes-part, step-type}
use Rattle.lh_flat.specs.declared.flat.Flat.{Flat}
use Rattle.lh_flat.specs.declared.flat.FlatInst.{FlatInst}
use Rattle.lh_flat.specs.declared.flat.FlatBlock.{FlatBlock}
use Rattle.lh_flat.specs.declared.flat.Merge.{Merge}
use Rattle.lh_flat.specs.Flat.{with_merge, as_block}
use Rattle.lh_flat.specs.Below.{ValuesBelow, InstBelow, BlockBelow, IdsBelow}
use Rattle.lh_flat.specs.Reads.{merge_text, flat_line_text, flat_blocks_text}
use Rattle.lh_term.specs.declared.part.Part.{Part}
use Rattle.lh_flat_parts.specs.Steps.{step_if, step_in, is_result, if_result, step_giving, insts_in, argument_from, argument_of, range_by, type_carried, StepWithin, HasSteps}
use Rattle.lh_term.specs.Parts.{whole_argument}
use Rattle.lh_flat_parts.specs.declared.step.PartStep.{PartStep}
use Rattle.lh_region_def.specs.Typed.{Among}
use Rattle.lh_flat_laws.proofs.Members.{in-each}
use Rattle.lh_region_def.proofs.Operations.{carried-is}
use Rattle.lh_region.specs.Forms.{Names}
use Rattle.lh_region_walk.specs.Walked.{process_by}
use Rattle.lh_region_walk.proofs.PartsByIds.{argument-none}

-- ---- what holds of each line holds of each instruction

lines-insts : (P : LineText → Type 0) (f : Naming) (ls : List FlatInst) → Each P (map (flat_line_text f) ls) → Each (λ (m : FlatInst). P (flat_line_text f m)) ls
lines-insts P f [] h = tt
lines-insts P f (l ∷ ls) h = (h.0, lines-insts P f ls h.1)

unmerged : (P : LineText → Type 0) (f : Naming) (m : Option Merge) (ls : List LineText) → Each P (with_merge (option_map (merge_text f) m) ls) → Each P ls
unmerged P f None ls h = h
unmerged P f (Some m) ls h = h.1

each-inst : (P : LineText → Type 0) (f : Naming) (k : ℕ) (bs : List FlatBlock) → Each P (lines_of (map as_block (flat_blocks_text f k bs)))
    → Each (λ (m : FlatInst). P (flat_line_text f m)) (insts_in bs)
each-inst P f k [] h = tt
each-inst P f k (b ∷ bs) h =
    let s = each-split P (with_merge (option_map (merge_text f) b.merge) (map (flat_line_text f) b.insts)) (lines_of (map as_block (flat_blocks_text f (k + 1) bs))) h in
    Each-append (λ (m : FlatInst). P (flat_line_text f m)) b.insts (insts_in bs) (lines-insts P f b.insts (unmerged P f b.merge (map (flat_line_text f) b.insts) s.0)) (each-inst P f (k + 1) bs s.1)

insts-below : (v n : ℕ) (bs : List FlatBlock) → Each (BlockBelow v n) bs → Each (InstBelow v n) (insts_in bs)
insts-below v n [] h = tt
insts-below v n (b ∷ bs) h = Each-append (InstBelow v n) b.insts (insts_in bs) h.0.insts (insts-below v n bs h.1)

-- ---- the instruction that a step is

record Giving (ls : List FlatInst) (v : ℕ) (s : PartStep) : Type 0 where
  line : FlatInst
  among : Among line ls
  result : is_result v line.result ≡ true
  step : step_in line.inst ≡ Some s

giving : (ls : List FlatInst) (v : ℕ) (s : PartStep) → step_giving ls v ≡ Some s → Giving ls v s
giving [] v s e = absurd (none-some s e)
giving (l ∷ more) v s e = by (step_giving more v) (giving more v s) e
  where
    here : (b : Bool) → is_result v l.result ≡ b → (if b then step_in l.inst else None) ≡ Some s → Giving (l ∷ more) v s
    here true r g = record { line = l; among = inl refl; result = r; step = g }
    here false r g = absurd (none-some s g)

    by : (o : Option PartStep) → (o ≡ Some s → Giving more v s) → or_else o (if_result v l.result (step_in l.inst)) ≡ Some s → Giving (l ∷ more) v s
    by None go g = here (is_result v l.result) refl g
    by (Some x) go g = let z = go g in record { line = z.line; among = inr z.among; result = z.result; step = z.step }

-- an operation on one operand, whose part has the type that is written
record OneStep (i : Inst) (s : PartStep) : Type 0 where
  by-op : Op
  operand : Typed
  kind : Step
  is : i ≡ inst.Pure by-op (operand ∷ [])
  of : step_of by-op ≡ Some kind
  written : operand.ty ≡ Some (signal_type s.ty)
  from : operand.value ≡ s.from
  same-op : by-op ≡ s.op

one-step : (i : Inst) (s : PartStep) → step_in i ≡ Some s → OneStep i s
one-step (inst.Pure o []) s e = absurd (none-some s e)
one-step (inst.Pure o (x ∷ y ∷ more)) s e = absurd (none-some s e)
one-step (inst.Pure o (x ∷ [])) s e = by (step_of o) refl (option_and_then carried x.ty) refl e
  where
    by : (k : Option Step) → step_of o ≡ k → (t : Option TypeTree) → option_and_then carried x.ty ≡ t → step_if o x.value k t ≡ Some s → OneStep (inst.Pure o (x ∷ [])) s
    by None q None c g = absurd (none-some s g)
    by None q (Some t) c g = absurd (none-some s g)
    by (Some k) q None c g = absurd (none-some s g)
    by (Some k) q (Some t) c g =
        let z = same_Some (record { from = x.value; op = o; ty = t }) s g in
        record {
          by-op = o;
          operand = x;
          kind = k;
          is = refl;
          of = q;
          written = carried-some x.ty t c ∙ ap (λ (y : PartStep). Some (signal_type y.ty)) z;
          from = ap (λ (y : PartStep). y.from) z;
          same-op = ap (λ (y : PartStep). y.op) z;
        }
one-step _ s e = absurd (none-some s e)

-- ---- the argument that a value is

record AsArgument (xs : List Arg) (v : ℕ) (p : Part) : Type 0 where
  arg : Arg
  among : Among arg xs
  value : arg.value.0 ≡ v
  carries : carried arg.ty ≡ Some p.ty

as-argument : (k : ℕ) (xs : List Arg) (v : ℕ) (p : Part) → argument_from k xs v ≡ Some p → AsArgument xs v p
as-argument k [] v p e = absurd (none-some p e)
as-argument k (a ∷ more) v p e = by (argument_from (k + 1) more v) (as-argument (k + 1) more v p) e
  where
    whole : (c : Option TypeTree) → carried a.ty ≡ c → nat_eq a.value.0 v ≡ true → option_map (whole_argument k) c ≡ Some p → AsArgument (a ∷ more) v p
    whole None q r g = absurd (none-some p g)
    whole (Some t) q r g = record { arg = a; among = inl refl; value = nat_eq-is a.value.0 v r; carries = q ∙ ap (λ (y : Part). Some y.ty) (same_Some (whole_argument k t) p g) }

    here : (b : Bool) → nat_eq a.value.0 v ≡ b → (if b then option_map (whole_argument k) (carried a.ty) else None) ≡ Some p → AsArgument (a ∷ more) v p
    here true r g = whole (carried a.ty) refl r g
    here false r g = absurd (none-some p g)

    by : (o : Option Part) → (o ≡ Some p → AsArgument more v p) → or_else o (if nat_eq a.value.0 v then option_map (whole_argument k) (carried a.ty) else None) ≡ Some p → AsArgument (a ∷ more) v p
    by None go g = here (nat_eq a.value.0 v) refl g
    by (Some x) go g = let z = go g in record { arg = z.arg; among = inr z.among; value = z.value; carries = z.carries }

arg-among : (f : Naming) (a : Arg) (xs : List Arg) → Among a xs → Among (arg_text f a) (map (arg_text f) xs)
arg-among f a [] h = absurd h
arg-among f a (x ∷ xs) (inl e) = inl (ap (arg_text f) e)
arg-among f a (x ∷ xs) (inr h) = inr (arg-among f a xs h)

defined : (a : ArgText) (xs : List ArgText) → Among a xs → args_define a.name xs ≡ true
defined a [] h = absurd h
defined a (x ∷ xs) (inl e) = ap (λ (b : Bool). b || args_define a.name xs) (ap (λ (y : ArgText). same_name y.name a.name) e ∙ same_name-refl a.name)
defined a (x ∷ xs) (inr h) = by (same_name x.name a.name) (defined a xs h)
  where
    by : (b : Bool) → args_define a.name xs ≡ true → (b || args_define a.name xs) ≡ true
    by true e = refl
    by false e = e

-- ---- what a step leads to

-- the part that is taken of a signal has the bits of the type that is written
taken-fits : (u : UnitText) (x : OperandText) (k : Step) (whole ty : TypeTree) (r : Range) → TakesPart u k (x ∷ []) → value_type u x.value ≡ Some (signal_type whole) → x.ty ≡ Some (signal_type ty)
    → Parts.range_of whole (k ∷ []) ≡ Some r → r.len ≡ bit_count ty
taken-fits u x k whole ty r t v w g =
    let same : x ≡ t.operand = cc_operand in
    let z = leads-is k t.whole t.of whole t.leads (same_Some t.whole (signal_type whole) (sym t.is ∙ ap (λ (y : OperandText). value_type u y.value) (sym same) ∙ v)) in
    let of : t.of ≡ signal_type ty = same_Some t.of (signal_type ty) (sym t.written ∙ ap (λ (y : OperandText). y.ty) (sym same) ∙ w) in
    let same-ty : z.0.of ≡ ty = carried-is z.0.of ty (sym z.2 ∙ of) in
    ap (λ (y : Range). y.len) (sym (same_Some (part_range z.0) r (sym (parts_have_ranges whole k z.0 z.1) ∙ g))) ∙ ap bit_count same-ty
  where
    first-of : (a b : OperandText) → a ∷ [] ≡ b ∷ [] → a ≡ b
    first-of a b e = cc

    cc_operand : x ≡ t.operand
    cc_operand = first-of x t.operand t.operands

-- ---- a flat text

module _ (name : UnitName) (f : Naming) (t : Flat) (n : Names t f) (below : IdsBelow t) where
  abbrev u : UnitText
  u = process_by name f t

  abbrev Right : FlatInst → Type 0
  Right m = InstIsSound u (flat_line_text f m)

  all-right : Each Right (insts_in t.blocks)
  all-right = each-inst (InstIsSound u) f 0 t.blocks (n.formed name).lines

  abbrev Within : FlatInst → Type 0
  Within m = InstBelow t.values (length t.blocks) m

  all-within : Each Within (insts_in t.blocks)
  all-within = insts-below t.values (length t.blocks) t.blocks below.blocks

  -- a step by its text
  record StepHere (v : ℕ) (s : PartStep) : Type 0 where
    operand : OperandText
    kind : Step
    takes : TakesPart u kind (operand ∷ [])
    name-is : operand.value ≡ f.value_name s.from.0
    written : operand.ty ≡ Some (signal_type s.ty)
    of : step_of s.op ≡ Some kind
    type : value_type u (f.value_name v) ≡ Some (signal_type s.ty)

  step-here : (v : ℕ) (s : PartStep) → step_giving (insts_in t.blocks) v ≡ Some s → StepHere v s
  step-here v s e =
      let g = giving (insts_in t.blocks) v s e in
      let o = one-step g.line.inst s g.step in
      let sound = in-each Right (insts_in t.blocks) g.line all-right g.among in
      let x = operand_text f o.operand in
      let is : inst_text f g.line.inst ≡ pure_text o.by-op (x ∷ []) = ap (inst_text f) o.is in
      record {
        operand = x;
        kind = o.kind;
        takes = takes-part u o.by-op o.kind (x ∷ []) o.of (subst (HasPart u) is sound.part);
        name-is = ap (λ (i : ValueId). f.value_name i.0) o.from;
        written = o.written;
        of = ap step_of (sym o.same-op) ∙ o.of;
        type = sound.gives (f.value_name v) (named g.line.result g.result) ∙ ap result_type is ∙ step-type o.by-op o.kind x o.of ∙ o.written;
      }
    where
      named : (r : Option ValueId) → is_result v r ≡ true → option_map (λ (i : ValueId). f.value_name i.0) r ≡ Some (f.value_name v)
      named None e = absurd cc
      named (Some r) e = ap (λ (i : ℕ). Some (f.value_name i)) (nat_eq-is r.0 v e)

  -- what a value carries by its id it carries by its name
  carries : (v : ℕ) (whole : TypeTree) → type_carried t v ≡ Some whole → value_type u (f.value_name v) ≡ Some (signal_type whole)
  carries v whole e = by (step_giving (insts_in t.blocks) v) refl e
    where
      argument : (o : Option Part) → argument_of t.args v ≡ o → option_map (λ (p : Part). p.ty) o ≡ Some whole → value_type u (f.value_name v) ≡ Some (signal_type whole)
      argument None q g = absurd (none-some whole g)
      argument (Some p) q g =
          let a = as-argument 0 t.args v p q in
          let h = in-each (HasItsType u) u.args (arg_text f a.arg) (n.formed name).args (arg-among f a.arg t.args a.among) in
          ap (λ (i : ℕ). value_type u (f.value_name i)) (sym a.value) ∙ h ∙ carried-some (Some a.arg.ty) p.ty a.carries ∙ ap (λ (y : TypeTree). Some (signal_type y)) (same_Some p.ty whole g)

      by : (o : Option PartStep) → step_giving (insts_in t.blocks) v ≡ o → or_else (option_map (λ (s : PartStep). s.ty) o) (option_map (λ (p : Part). p.ty) (argument_of t.args v)) ≡ Some whole
          → value_type u (f.value_name v) ≡ Some (signal_type whole)
      by None q g = argument (argument_of t.args v) refl g
      by (Some s) q g = (step-here v s q).type ∙ ap (λ (y : TypeTree). Some (signal_type y)) (same_Some s.ty whole g)

  fits : (v : ℕ) (s : PartStep) (whole : TypeTree) (r : Range) → step_giving (insts_in t.blocks) v ≡ Some s → type_carried t s.from.0 ≡ Some whole → range_by whole s.op ≡ Some r
      → r.len ≡ bit_count s.ty
  fits v s whole r e c g =
      let h = step-here v s e in
      taken-fits u h.operand h.kind whole s.ty r h.takes (ap (value_type u) h.name-is ∙ carries s.from.0 whole c) h.written
      (sym (ap (option_and_then (λ (k : Step). Parts.range_of whole (k ∷ []))) h.of) ∙ g)

  -- an argument that is a signal is given by no instruction
  apart : (v : ℕ) (p : Part) → argument_of t.args v ≡ Some p → step_giving (insts_in t.blocks) v ≡ None
  apart v p e =
      let a = as-argument 0 t.args v p e in
      let low : v < t.values = subst (λ (i : ℕ). i < t.values) a.value (in-each (λ (x : Arg). x.value.0 < t.values) t.args a.arg below.args a.among) in
      argument-none name f t n below v low (ap (λ (i : ℕ). args_define (f.value_name i) u.args) (sym a.value) ∙ defined (arg_text f a.arg) u.args (arg-among f a.arg t.args a.among))

  within : (m : FlatInst) → Within m → StepWithin t.values m.result (step_in m.inst)
  within m h = by m.result h.result (step_in m.inst) refl
    where
      by : (r : Option ValueId) → ValuesBelow t.values (maybe_id r) → (o : Option PartStep) → step_in m.inst ≡ o → StepWithin t.values r o
      by None b o e = tt
      by (Some v) b None e = tt
      by (Some v) b (Some s) e =
          let o = one-step m.inst s e in
          (b.0, subst (λ (i : ValueId). i.0 < t.values) o.from (subst (λ (i : Inst). ValuesBelow t.values (values_used i)) o.is h.used).0)

  pub has-steps : length t.args < 2 ^ 32 → HasSteps t
  has-steps few = record {
    args = below.args;
    few = few;
    within = Each-more Within (λ (m : FlatInst). StepWithin t.values m.result (step_in m.inst)) (insts_in t.blocks) within all-within;
    apart = apart;
    fit = fits;
  }
