-- The part of a value by ids is the part of its name.
use Rattle.std.proofs.Common.{◌≡◌, ◌≢◌, ◌⊎◌, inl, inr, ℕ, zero, suc, ◌+◌, ◌<◌, Bool, true, false, nat_eq, if◌then◌else◌, List, [], ◌∷◌, ◌++◌, length, map, Option, Some, None, refl, ap, sym, ◌∙◌, subst}
use Rattle.std.specs.Option.{option_map, option_and_then}
use Rattle.std.proofs.lemmas.Bool.{false≢true, or_parts}
use Rattle.std.proofs.lemmas.Option.{same_Some, none-some}
use Rattle.lh_types.specs.Types.{TypeTree}
use Rattle.lh_types.specs.Parts.{range_of}
use Rattle.lh_types.specs.declared.op.Op.{Op}
use Rattle.lh_types.specs.declared.part.Step.{Step}
use Rattle.lh_types.specs.declared.part.Range.{Range}
use Rattle.lh_unit_names.specs.declared.name.UnitName.{UnitName}
use Rattle.lh_unit.specs.declared.inst.Inst.{Inst}
use Rattle.lh_unit.specs.declared.inst.Inst.TheVariants as inst
use Rattle.lh_unit.specs.declared.inst.Typed.{Typed}
use Rattle.lh_unit.specs.declared.inst.ValueId.{ValueId}
use Rattle.lh_unit.specs.declared.inst.Arg.{Arg}
use Rattle.lh_unit.specs.ById.{operand_ids, maybe_id, values_used}
use Rattle.lh_unit.specs.Contents.{OperandText, InstText, pure_text, LineText, ArgText, UnitText, is_result_name, args_define}
use Rattle.lh_unit_names.specs.Names.{same_name}
use Rattle.lh_unit.specs.Effects.{step_of}
use Rattle.lh_unit.specs.Hierarchy.{lines_of}
use Rattle.lh_unit.specs.Naming.{Naming, maybe_text, operand_text, arg_text, inst_text}
use Rattle.lh_unit.specs.Reads.{args_repeat}
use Rattle.lh_unit.specs.Typing.{carried, or_else, line_giving, inst_giving}
use Rattle.lh_unit.specs.WellFormed.{is_phi}
use Rattle.lh_unit.specs.Within.{Each}
use Rattle.lh_unit.proofs.Lists.{Same, same, other, same_or, nat_eq-refl, nat_eq-other, nat_eq-is, Each-append}
use Rattle.lh_unit_names.proofs.NameLists.{same_name-is, same_name-refl}
use Rattle.lh_unit.proofs.Within.{Each-more}
use Rattle.lh_text_laws.specs.Printable.{results_repeat}
use Rattle.lh_verify_laws.proofs.EachItem.{each-split}
use Rattle.lh_eval_laws.proofs.FindingStatic.{result-is}
use Rattle.lh_eval_laws.proofs.NamedOnce.{IsFirst, each-first, giving-lines}
use Rattle.lh_flat.specs.declared.flat.Flat.{Flat}
use Rattle.lh_flat.specs.declared.flat.FlatInst.{FlatInst}
use Rattle.lh_flat.specs.declared.flat.FlatBlock.{FlatBlock}
use Rattle.lh_flat.specs.declared.flat.Merge.{Merge}
use Rattle.lh_flat.specs.Flat.{with_merge, as_block}
use Rattle.lh_flat.specs.Below.{ValuesBelow, InstBelow, BlockBelow, IdsBelow}
use Rattle.lh_flat.specs.Reads.{merge_text, flat_line_text, flat_blocks_text}
use Rattle.lh_term.specs.declared.part.Part.{Part}
use Rattle.lh_flat_parts.specs.Steps as ids
use Rattle.lh_flat_parts.specs.Steps.{step_if, step_on, step_in, is_result, if_result, step_giving, insts_in, argument_from, argument_of, part_by, part_found, IsPart, part_at, IsPartTable}
use Rattle.lh_term.specs.Parts.{whole_argument}
use Rattle.lh_flat_parts.specs.declared.step.PartStep.{PartStep}
use Rattle.lh_flat_parts.specs.declared.table.PartTable.{PartTable}
use Rattle.lh_region_def.specs.Known.{known_part, argument_part}
use Rattle.lh_region_def.specs.Places.{stepped}
use Rattle.lh_region_def.specs.Typed.{Among, IsPartOf, of_argument, of_step}
use Rattle.lh_flat_laws.proofs.Members.{in-each, among-split, among-left, among-right}
use Rattle.lh_region_def.proofs.PartsNamed.{part-argument, part-is as same-known}
use Rattle.lh_region_def.proofs.Heads.{define-last, define-append}
use Rattle.lh_region.specs.Forms.{Names}
use Rattle.lh_region_walk.specs.Walked.{process_by}

-- ---- the step that gives a value, where each instruction that gives it has this one

abbrev AllGive : ℕ → Option PartStep → List FlatInst → Type 0
AllGive v o ls = Each (λ (m : FlatInst). is_result v m.result ≡ true → step_in m.inst ≡ o) ls

or-of : (x y o : Option PartStep) → (x ≡ None) ⊎ (x ≡ o) → (y ≡ None) ⊎ (y ≡ o) → (or_else x y ≡ None) ⊎ (or_else x y ≡ o)
or-of None y o h k = k
or-of (Some s) y o (inl e) k = absurd (none-some s (sym e))
or-of (Some s) y o (inr e) k = inr e

or-last : (x y o : Option PartStep) → (x ≡ None) ⊎ (x ≡ o) → y ≡ o → or_else x y ≡ o
or-last None y o h e = e
or-last (Some s) y o (inl q) e = absurd (none-some s (sym q))
or-last (Some s) y o (inr q) e = q

or-first : (x y o : Option PartStep) → x ≡ o → (y ≡ None) ⊎ (y ≡ o) → or_else x y ≡ o
or-first None y o q (inl e) = e ∙ q
or-first None y o q (inr e) = e
or-first (Some s) y o q h = q

if-of : (b : Bool) (x o : Option PartStep) → (b ≡ true → x ≡ o) → ((if b then x else None) ≡ None) ⊎ ((if b then x else None) ≡ o)
if-of true x o h = inr (h refl)
if-of false x o h = inl refl

step-or : (ls : List FlatInst) (v : ℕ) (o : Option PartStep) → AllGive v o ls → (step_giving ls v ≡ None) ⊎ (step_giving ls v ≡ o)
step-or [] v o h = inl refl
step-or (m ∷ more) v o h = or-of (step_giving more v) (if_result v m.result (step_in m.inst)) o (step-or more v o h.1) (if-of (is_result v m.result) (step_in m.inst) o h.0)

step-found : (ls : List FlatInst) (v : ℕ) (o : Option PartStep) (l : FlatInst) → Among l ls → is_result v l.result ≡ true → AllGive v o ls → step_giving ls v ≡ o
step-found [] v o l a r h = absurd a
step-found (m ∷ more) v o l (inl e) r h =
    let q : is_result v m.result ≡ true = subst (λ (x : FlatInst). is_result v x.result ≡ true) (sym e) r in
    or-last (step_giving more v) (if_result v m.result (step_in m.inst)) o (step-or more v o h.1) (ap (λ (b : Bool). if b then step_in m.inst else None) q ∙ h.0 q)
step-found (m ∷ more) v o l (inr a) r h =
    or-first (step_giving more v) (if_result v m.result (step_in m.inst)) o (step-found more v o l a r h.1) (if-of (is_result v m.result) (step_in m.inst) o h.0)

-- no instruction gives the value
step-none : (ls : List FlatInst) (v : ℕ) → Each (λ (m : FlatInst). is_result v m.result ≡ false) ls → step_giving ls v ≡ None
step-none [] v h = refl
step-none (m ∷ more) v h = (λ i. or_else (step-none more v h.1 i) (if h.0 i then step_in m.inst else None))

-- ---- instructions by their texts

pub inst-pure : (f : Naming) (i : Inst) (o : Op) (os : List OperandText) → inst_text f i ≡ pure_text o os → (args : List Typed) × (i ≡ inst.Pure o args) × (map (operand_text f) args ≡ os)
inst-pure f (inst.Pure p args) o os e = let q : p ≡ o = cc in let g : map (operand_text f) args ≡ os = cc in (args, (λ j. inst.Pure (q j) args), g)
inst-pure f (inst.Ret None) o os e = absurd cc
inst-pure f (inst.Ret (Some t)) o os e = absurd cc
inst-pure f _ o os e = absurd cc

-- operands of the same names are the same
same-args : (f : Naming) (t : Flat) → Names t f → (xs ys : List Typed) → ValuesBelow t.values (operand_ids xs) → ValuesBelow t.values (operand_ids ys)
    → map (operand_text f) xs ≡ map (operand_text f) ys → xs ≡ ys
same-args f t n [] [] a b e = refl
same-args f t n [] (y ∷ ys) a b e = absurd cc
same-args f t n (x ∷ xs) [] a b e = absurd cc
same-args f t n (x ∷ xs) (y ∷ ys) a b e =
    let q : operand_text f x ≡ operand_text f y = cc in
    let more : map (operand_text f) xs ≡ map (operand_text f) ys = cc in
    let v : x.value.0 ≡ y.value.0 = n.values x.value.0 y.value.0 a.0 b.0 (λ j. (q j).value) in
    let rest = same-args f t n xs ys a.1 b.1 more in
    λ j. record { value = record { 0 = v j }; ty = (q j).ty } ∷ rest j

pub same-step : (f : Naming) (t : Flat) → Names t f → (i : Inst) (o : Op) (args : List Typed) → ValuesBelow t.values (values_used i) → ValuesBelow t.values (operand_ids args)
    → inst_text f i ≡ pure_text o (map (operand_text f) args) → step_in i ≡ step_on o args
same-step f t n i o args a b e =
    let z = inst-pure f i o (map (operand_text f) args) e in
    let w : ValuesBelow t.values (operand_ids z.0) = subst (λ (k : Inst). ValuesBelow t.values (values_used k)) z.1 a in
    ap step_in z.1 ∙ ap (step_on o) (same-args f t n z.0 args w b z.2)

-- a name is that of the result where the value is the result
pub result-same : (f : Naming) (t : Flat) → Names t f → (v : ℕ) (r : Option ValueId) → v < t.values → ValuesBelow t.values (maybe_id r)
    → is_result_name (f.value_name v) (maybe_text f r) ≡ is_result v r
result-same f t n v None l b = refl
result-same f t n v (Some r) l b = by (same_or r.0 v)
  where
    apart : r.0 ≢ v → (b : Bool) → same_name (f.value_name r.0) (f.value_name v) ≡ b → b ≡ false
    apart x false e = refl
    apart x true e = absurd (x (n.values r.0 v b.0 l (same_name-is (f.value_name r.0) (f.value_name v) e)))

    by : Same r.0 v → same_name (f.value_name r.0) (f.value_name v) ≡ nat_eq r.0 v
    by (same e) = subst (λ (i : ℕ). same_name (f.value_name r.0) (f.value_name i) ≡ nat_eq r.0 i) e (same_name-refl (f.value_name r.0) ∙ sym (nat_eq-refl r.0))
    by (other x) = apart x (same_name (f.value_name r.0) (f.value_name v)) refl ∙ sym (nat_eq-other r.0 v x)

-- ---- lines by their names

abbrev GivesOne : (n : List ℕ) → InstText → LineText → Type 0
GivesOne n j l = (is_result_name n l.result ≡ true) × (l.inst ≡ j)

giving-among : (n : List ℕ) (ls : List LineText) (j : InstText) → line_giving n ls ≡ Some j → (l : LineText) × Among l ls × GivesOne n j l
giving-among n [] j e = absurd (none-some j e)
giving-among n (l ∷ ls) j e = by (is_result_name n l.result) refl e (giving-among n ls j)
  where
    by : (b : Bool) → is_result_name n l.result ≡ b → (if b then Some l.inst else line_giving n ls) ≡ Some j → (line_giving n ls ≡ Some j → (x : LineText) × Among x ls × GivesOne n j x)
        → (x : LineText) × Among x (l ∷ ls) × GivesOne n j x
    by true r e go = (l, inl refl, (r, same_Some l.inst j e))
    by false r e go = let z = go e in (z.0, inr z.1, z.2)

among-map : {X Y : Type 0} (f : X → Y) (xs : List X) (y : Y) → Among y (map f xs) → (x : X) × Among x xs × (f x ≡ y)
among-map f [] y a = absurd a
among-map f (x ∷ xs) y (inl e) = (x, inl refl, e)
among-map f (x ∷ xs) y (inr a) = let z = among-map f xs y a in (z.0, inr z.1, z.2)

-- a line of a block that is no `phi` is an instruction of it
among-merged : (f : Naming) (m : Option Merge) (ls : List FlatInst) (l : LineText) → Among l (with_merge (option_map (merge_text f) m) (map (flat_line_text f) ls)) → is_phi l.inst ≡ false
    → (x : FlatInst) × Among x ls × (flat_line_text f x ≡ l)
among-merged f None ls l a p = among-map (flat_line_text f) ls l a
among-merged f (Some m) ls l (inl e) p = absurd (false≢true (sym p ∙ sym (ap (λ (x : LineText). is_phi x.inst) e)))
among-merged f (Some m) ls l (inr a) p = among-map (flat_line_text f) ls l a

abbrev text_lines : Naming → ℕ → List FlatBlock → List LineText
text_lines f k bs = lines_of (map as_block (flat_blocks_text f k bs))

among-insts : (f : Naming) (k : ℕ) (bs : List FlatBlock) (l : LineText) → Among l (text_lines f k bs) → is_phi l.inst ≡ false → (x : FlatInst) × Among x (insts_in bs) × (flat_line_text f x ≡ l)
among-insts f k [] l a p = absurd a
among-insts f k (b ∷ bs) l a p = by (λ c. among-insts f (k + 1) bs l c p) (among-split l (with_merge (option_map (merge_text f) b.merge) (map (flat_line_text f) b.insts)) (text_lines f (k + 1) bs) a)
  where
    by : (Among l (text_lines f (k + 1) bs) → (x : FlatInst) × Among x (insts_in bs) × (flat_line_text f x ≡ l))
        → Among l (with_merge (option_map (merge_text f) b.merge) (map (flat_line_text f) b.insts)) ⊎ Among l (text_lines f (k + 1) bs) → (x : FlatInst) × Among x (insts_in (b ∷ bs))
        × (flat_line_text f x ≡ l)
    by go (inl c) = let z = among-merged f b.merge b.insts l c p in (z.0, among-left z.0 b.insts (insts_in bs) z.1, z.2)
    by go (inr c) = let z = go c in (z.0, among-right z.0 b.insts (insts_in bs) z.1, z.2)

-- ---- arguments by their names

module _ (f : Naming) (t : Flat) (n : Names t f) (v : ℕ) (l : v < t.values) where
  abbrev ArgsBelow : List Arg → Type 0
  ArgsBelow xs = Each (λ (a : Arg). a.value.0 < t.values) xs

  name-same : (a : Arg) → a.value.0 < t.values → same_name (f.value_name a.value.0) (f.value_name v) ≡ nat_eq a.value.0 v
  name-same a h = result-same f t n v (Some a.value) l (h, tt)

  or-none : (x y : Option Part) → x ≡ None → y ≡ None → or_else x y ≡ None
  or-none x y e h = (λ i. or_else (e i) (h i))

  -- no argument of these has the name
  args-none : (seen : List ArgText) (k : ℕ) (xs : List Arg) → ArgsBelow xs → args_define (f.value_name v) seen ≡ true → args_repeat seen (map (arg_text f) xs) ≡ false → argument_from k xs v ≡ None
  args-none seen k [] b d r = refl
  args-none seen k (a ∷ xs) b d r =
      let p = or_parts (args_define (f.value_name a.value.0) seen) (args_repeat (seen ++ arg_text f a ∷ []) (map (arg_text f) xs)) r in
      let other : nat_eq a.value.0 v ≡ false = by (nat_eq a.value.0 v) refl p.0 in
      or-none (argument_from (k + 1) xs v) (if nat_eq a.value.0 v then option_map (whole_argument k) (carried a.ty) else None)
      (args-none (seen ++ arg_text f a ∷ []) (k + 1) xs b.1 (define-append (f.value_name v) seen (arg_text f a ∷ []) d) p.1)
      (ap (λ (c : Bool). if c then option_map (whole_argument k) (carried a.ty) else None) other)
    where
      by : (c : Bool) → nat_eq a.value.0 v ≡ c → args_define (f.value_name a.value.0) seen ≡ false → c ≡ false
      by false e h = refl
      by true e h = absurd (false≢true (sym h ∙ ap (λ (i : ℕ). args_define (f.value_name i) seen) (nat_eq-is a.value.0 v e) ∙ d))

  args-found : (seen : List ArgText) (k : ℕ) (xs : List Arg) (p : Part) → ArgsBelow xs → args_repeat seen (map (arg_text f) xs) ≡ false
      → argument_part (f.value_name v) k (map (arg_text f) xs) ≡ Some p → argument_from k xs v ≡ Some p
  args-found seen k [] p b r e = absurd (none-some p e)
  args-found seen k (a ∷ xs) p b r e =
      let z = or_parts (args_define (f.value_name a.value.0) seen) (args_repeat (seen ++ arg_text f a ∷ []) (map (arg_text f) xs)) r in
      by (args-found (seen ++ arg_text f a ∷ []) (k + 1) xs p b.1) (nat_eq a.value.0 v) refl z.1
      (subst (λ (c : Bool). (if c then option_map (whole_argument k) (carried a.ty) else argument_part (f.value_name v) (k + 1) (map (arg_text f) xs)) ≡ Some p) (name-same a b.0) e)
    where
      by : (args_repeat (seen ++ arg_text f a ∷ []) (map (arg_text f) xs) ≡ false → argument_part (f.value_name v) (k + 1) (map (arg_text f) xs) ≡ Some p → argument_from (k + 1) xs v ≡ Some p)
          → (c : Bool) → nat_eq a.value.0 v ≡ c → args_repeat (seen ++ arg_text f a ∷ []) (map (arg_text f) xs) ≡ false
          → (if c then option_map (whole_argument k) (carried a.ty) else argument_part (f.value_name v) (k + 1) (map (arg_text f) xs)) ≡ Some p
          → or_else (argument_from (k + 1) xs v) (if c then option_map (whole_argument k) (carried a.ty) else None) ≡ Some p
      by go true q h g =
          ap (λ (x : Option Part). or_else x (option_map (whole_argument k) (carried a.ty)))
          (args-none (seen ++ arg_text f a ∷ []) (k + 1) xs b.1 (define-last (f.value_name v) seen (arg_text f a) (name-same a b.0 ∙ q)) h) ∙ g
      by go false q h g = ap (λ (x : Option Part). or_else x None) (go h g)

-- ---- a step by its text

record StepIs (o : Op) (v : ValueId) (ty : Option TypeTree) (w p : Part) : Type 0 where
  step : PartStep
  is : step_if o v (step_of o) ty ≡ Some step
  from : step.from ≡ v
  leads : ids.stepped w step ≡ Some p

step-is : (o : Op) (v : ValueId) (ty : Option TypeTree) (w p : Part) → stepped (Some w) ty (step_of o) ≡ Some (known_part p) → StepIs o v ty w p
step-is o v ty w p e = by (step_of o) refl ty e
  where
    led : (s : Step) (t : TypeTree) → step_of o ≡ Some s → (r : Option Range) → range_of w.ty (s ∷ []) ≡ r → option_map (λ (x : Range). known_part (record { arg = w.arg; lo = w.lo + x.lo; ty = t })) r
        ≡ Some (known_part p) → StepIs o v (Some t) w p
    led s t q None g h = absurd (none-some (known_part p) h)
    led s t q (Some r) g h =
        let x : PartStep = record { from = v; op = o; ty = t } in
        let same : record { arg = w.arg; lo = w.lo + r.lo; ty = t } ≡ p = same-known (record { arg = w.arg; lo = w.lo + r.lo; ty = t }) p h in
        record {
          step = x;
          is = ap (λ (y : Option Step). step_if o v y (Some t)) q;
          from = refl;
          leads = ap (λ (y : Option Step). option_map (ids.part_within w t) (option_and_then (λ (z : Step). range_of w.ty (z ∷ [])) y)) q ∙ ap (option_map (ids.part_within w t)) g ∙ ap Some same;
        }

    by : (so : Option Step) → step_of o ≡ so → (ty : Option TypeTree) → stepped (Some w) ty so ≡ Some (known_part p) → StepIs o v ty w p
    by None q None e = absurd (none-some (known_part p) e)
    by None q (Some t) e = absurd (none-some (known_part p) e)
    by (Some s) q None e = absurd (none-some (known_part p) e)
    by (Some s) q (Some t) e = led s t q (range_of w.ty (s ∷ [])) refl e

-- ---- a flat text

module _ (name : UnitName) (f : Naming) (t : Flat) (n : Names t f) (below : IdsBelow t) where
  abbrev u : UnitText
  u = process_by name f t

  abbrev First : LineText → Type 0
  First l = IsFirst u.args (lines_of u.blocks) l

  abbrev Fine : FlatInst → Type 0
  Fine m = First (flat_line_text f m) × InstBelow t.values (length t.blocks) m

  unmerged : (m : Option Merge) (ls : List LineText) → Each First (with_merge (option_map (merge_text f) m) ls) → Each First ls
  unmerged None ls h = h
  unmerged (Some m) ls h = h.1

  insts-fine : (ls : List FlatInst) → Each First (map (flat_line_text f) ls) → Each (InstBelow t.values (length t.blocks)) ls → Each Fine ls
  insts-fine [] h b = tt
  insts-fine (l ∷ ls) h b = ((h.0, b.0), insts-fine ls h.1 b.1)

  blocks-fine : (k : ℕ) (bs : List FlatBlock) → Each First (text_lines f k bs) → Each (BlockBelow t.values (length t.blocks)) bs → Each Fine (insts_in bs)
  blocks-fine k [] h w = tt
  blocks-fine k (b ∷ bs) h w =
      let s = each-split First (with_merge (option_map (merge_text f) b.merge) (map (flat_line_text f) b.insts)) (text_lines f (k + 1) bs) h in
      Each-append Fine b.insts (insts_in bs) (insts-fine b.insts (unmerged b.merge (map (flat_line_text f) b.insts) s.0) w.0.insts) (blocks-fine (k + 1) bs s.1 w.1)

  all-fine : Each Fine (insts_in t.blocks)
  all-fine =
      let c = n.formed name in
      let new : results_repeat u.args [] (lines_of u.blocks) ≡ false = c.new_results in
      blocks-fine 0 t.blocks (each-first u.args (lines_of u.blocks) [] (lines_of u.blocks) refl new) below.blocks

  -- the step that gives a value is that of the one line of its name
  pub step-of-line : (v : ℕ) (o : Op) (args : List Typed) → v < t.values → ValuesBelow t.values (operand_ids args)
      → line_giving (f.value_name v) (lines_of u.blocks) ≡ Some (pure_text o (map (operand_text f) args)) → step_giving (insts_in t.blocks) v ≡ step_on o args
  step-of-line v o args l b e =
      let x = giving-among (f.value_name v) (lines_of u.blocks) (pure_text o (map (operand_text f) args)) e in
      let y = among-insts f 0 t.blocks x.0 x.1 (ap is_phi x.2.1) in
      let z = in-each Fine (insts_in t.blocks) y.0 all-fine y.1 in
      let r : is_result v y.0.result ≡ true = sym (result-same f t n v y.0.result l z.1.result) ∙ ap (λ (w : LineText). is_result_name (f.value_name v) w.result) y.2 ∙ x.2.0 in
      step-found (insts_in t.blocks) v (step_on o args) y.0 y.1 r (Each-more Fine (λ (m : FlatInst). is_result v m.result ≡ true → step_in m.inst ≡ step_on o args) (insts_in t.blocks) gives all-fine)
    where
      gives : (m : FlatInst) → Fine m → is_result v m.result ≡ true → step_in m.inst ≡ step_on o args
      gives m h r =
          let q = h.0 (f.value_name v) (result-is (maybe_text f m.result) (f.value_name v) (result-same f t n v m.result l h.1.result ∙ r)) in
          same-step f t n m.inst o args h.1.used b (same_Some (inst_text f m.inst) (pure_text o (map (operand_text f) args)) (sym q.1 ∙ e))

  -- the operand of a step that gives a value
  record StepOf (v : ℕ) (o : Op) (x : OperandText) : Type 0 where
    operand : Typed
    is : operand_text f operand ≡ x
    below' : operand.value.0 < t.values
    step : step_giving (insts_in t.blocks) v ≡ step_on o (operand ∷ [])

  step-of : (v : ℕ) (o : Op) (x : OperandText) → v < t.values → inst_giving (f.value_name v) u.blocks ≡ Some (pure_text o (x ∷ [])) → StepOf v o x
  step-of v o x l e =
      let q : line_giving (f.value_name v) (lines_of u.blocks) ≡ Some (pure_text o (x ∷ [])) = sym (giving-lines (f.value_name v) u.blocks) ∙ e in
      let a = giving-among (f.value_name v) (lines_of u.blocks) (pure_text o (x ∷ [])) q in
      let y = among-insts f 0 t.blocks a.0 a.1 (ap is_phi a.2.1) in
      let z = in-each Fine (insts_in t.blocks) y.0 all-fine y.1 in
      let w = inst-pure f y.0.inst o (x ∷ []) (ap (λ (l : LineText). l.inst) y.2 ∙ a.2.1) in
      by w.0 (subst (λ (i : Inst). ValuesBelow t.values (values_used i)) w.1 z.1.used) w.2 q
    where
      by : (args : List Typed) → ValuesBelow t.values (operand_ids args) → map (operand_text f) args ≡ x ∷ [] → line_giving (f.value_name v) (lines_of u.blocks) ≡ Some (pure_text o (x ∷ []))
          → StepOf v o x
      by [] b h q = absurd cc
      by (y ∷ z ∷ more) b h q = absurd cc
      by (y ∷ []) b h q =
          let s : operand_text f y ≡ x = cc in
          record { operand = y; is = s; below' = b.0; step = step-of-line v o (y ∷ []) l b (q ∙ ap (λ (j : OperandText). Some (pure_text o (j ∷ []))) (sym s)) }

  -- an argument is given by no instruction
  pub argument-none : (v : ℕ) → v < t.values → args_define (f.value_name v) u.args ≡ true → step_giving (insts_in t.blocks) v ≡ None
  argument-none v l d = step-none (insts_in t.blocks) v (Each-more Fine (λ (m : FlatInst). is_result v m.result ≡ false) (insts_in t.blocks) (λ m h. by m h (is_result v m.result) refl) all-fine)
    where
      by : (m : FlatInst) → Fine m → (b : Bool) → is_result v m.result ≡ b → b ≡ false
      by m h false e = refl
      by m h true e =
          let q = h.0 (f.value_name v) (result-is (maybe_text f m.result) (f.value_name v) (result-same f t n v m.result l h.1.result ∙ e)) in
          absurd (false≢true (sym q.0 ∙ d))

  pub part-is : (m : List ℕ) (p : Part) → IsPartOf u m p → (v : ℕ) → v < t.values → m ≡ f.value_name v → IsPart t v p
  part-is m p (of_argument _ _ e) v l q =
      let e' : argument_part (f.value_name v) 0 u.args ≡ Some p = subst (λ (k : List ℕ). argument_part k 0 u.args ≡ Some p) q e in
      let none = argument-none v l (part-argument (f.value_name v) 0 u.args p e') in (
        suc zero,
        ap (λ (s : Option PartStep). part_by (part_found zero (step_giving (insts_in t.blocks)) (argument_of t.args)) s (argument_of t.args v)) none
            ∙ args-found f t n v l [] 0 t.args p below.args (n.formed name).new_args e',
      )
  part-is m p (of_step _ o x w _ d g h s) v l q =
      let z = step-of v o x l (subst (λ (k : List ℕ). inst_giving k u.blocks ≡ Some (pure_text o (x ∷ []))) q g) in
      let y = z.operand in
      let i = part-is x.value w h y.value.0 z.below' (λ j. (sym z.is j).value) in
      let k = step-is o y.value (option_and_then carried y.ty) w p (subst (λ (a : OperandText). stepped (Some w) (option_and_then carried a.ty) (step_of o) ≡ Some (known_part p)) (sym z.is) s) in (
        suc i.0,
        ap (λ (a : Option PartStep). part_by (part_found i.0 (step_giving (insts_in t.blocks)) (argument_of t.args)) a (argument_of t.args v)) (z.step ∙ k.is)
            ∙ ap (λ (a : ValueId). option_and_then (λ (b : Part). ids.stepped b k.step) (part_found i.0 (step_giving (insts_in t.blocks)) (argument_of t.args) a.0)) k.from
            ∙ ap (option_and_then (λ (b : Part). ids.stepped b k.step)) i.1
            ∙ k.leads,
      )

  -- the table has the part of a name
  pub part-there : (table : PartTable) → IsPartTable t table → (v : ℕ) (p : Part) → v < t.values → IsPartOf u (f.value_name v) p → part_at table.parts.items v ≡ Some p
  part-there table h v p l i = h.whole v p l (part-is (f.value_name v) p i v l refl)
