-- The steps to a part of a flat text are those on the way back from the first result that is the part.
use Rattle.std.proofs.Common.{◌≡◌, ℕ, unwrap_or, zero, suc, ◌+◌, ◌<◌, Bool, true, false, ◌||◌, nat_eq, if◌then◌else◌, List, [], ◌∷◌, ◌++◌, length, map, Option, Some, None, Result, Ok, Err, IfOk, refl, ap, sym, ◌∙◌, subst}
use Rattle.std.specs.Option.{option_and_then, option_map}
use Rattle.std.proofs.lemmas.Bool.{or_parts}
use Rattle.std.proofs.lemmas.Option.{same_Some, none-some}
use Rattle.lh_types.specs.Types.{TypeTree}
use Rattle.lh_types.specs.declared.op.Op.{Op}
use Rattle.lh_types.specs.declared.memory.NoMemory.{NoMemory}
use Rattle.lh_unit.specs.ById.{maybe_id}
use Rattle.lh_unit.specs.Contents.{InstText, phi_text, LineText, ArgText, UnitText, args_define}
use Rattle.lh_unit_names.specs.Names.{same_name}
use Rattle.lh_unit.specs.Hierarchy.{lines_of}
use Rattle.lh_unit.specs.Reads.{args_repeat}
use Rattle.lh_unit.specs.Naming.{Naming, maybe_text, inst_text, arg_text}
use Rattle.lh_unit.specs.Typing.{carried, or_else, inst_giving}
use Rattle.lh_unit.specs.Within.{Each}
use Rattle.lh_unit_names.specs.declared.name.UnitName.{UnitName}
use Rattle.lh_unit.specs.declared.inst.ValueId.{ValueId}
use Rattle.lh_unit.specs.declared.inst.Arg.{Arg}
use Rattle.lh_unit.proofs.Lists.{Same, same, other, same_or, nat_eq-refl, nat_eq-is, nat_eq-other, not_true, Each-append, Each-left, Each-right, Each-zip, Each-of-map}
use Rattle.lh_unit_names.proofs.NameLists.{same_name-is, same_name-refl}
use Rattle.lh_text_laws.specs.Printable.{results_repeat}
use Rattle.lh_eval.specs.Sound.{InstIsSound}
use Rattle.lh_eval_laws.proofs.NamedOnce.{IsFirst, giving-lines, each-first}
use Rattle.lh_term.specs.Same.{same_part}
use Rattle.lh_term.specs.declared.part.Part.{Part}
use Rattle.lh_flat.specs.declared.flat.FlatInst.{FlatInst}
use Rattle.lh_flat.specs.declared.flat.FlatBlock.{FlatBlock}
use Rattle.lh_flat.specs.declared.flat.Merge.{Merge}
use Rattle.lh_flat.specs.declared.flat.Flat.{Flat}
use Rattle.lh_flat.specs.Flat.{MergeText, with_merge, flat_unit, as_block}
use Rattle.lh_flat.specs.Reads.{merge_text, flat_line_text, flat_blocks_text, flat_text}
use Rattle.lh_flat.specs.Below.{ValuesBelow, InstBelow, BlockBelow, IdsBelow}
use Rattle.lh_region.specs.Forms.{Names}
use Rattle.lh_flat_parts.specs.declared.table.PartTable.{PartTable}
use Rattle.lh_flat_parts.specs.declared.step.PartStep.{PartStep as IdStep}
use Rattle.lh_flat_parts.specs.Steps.{step_in, if_result, with_result, step_giving, step_results, insts_in, argument_from, argument_of, part_found, stepped, StepWithin, HasSteps, step_at, part_at, IsPartTable}
use Rattle.lh_term.specs.Parts.{whole_argument}
use Rattle.lh_flat_parts.specs.Resolving.{StepsLeadAlong}
use Rattle.lh_flat_parts.proofs.Resolved.{giving-within}
use Rattle.lh_flat_parts.proofs.Tables.{results-append}
use Rattle.lh_emit_def.specs.Emitted.{PartStep}
use Rattle.lh_emit_def.specs.Reached.{Reached, as_argument, further, reached, steps_if, first_steps, steps_in}
use Rattle.lh_region_def.specs.Known.{argument_part}
use Rattle.lh_region_def.proofs.Sites.{LineGood}
use Rattle.lh_emit_def.proofs.ReachedParts as Reaching
use Rattle.lh_emit_source.specs.declared.origin.Origin.{Origin}
use Rattle.lh_emit_source.specs.declared.origin.RouteStep.{RouteStep}
use Rattle.lh_emit_source.specs.Firsts.{is_the_part, first_result, key_of, kept_for, step_texts, texts_along, IsRouteTo}
use Rattle.lh_emit_source.specs.Origins.{step_text, route_text, AreStepsOf, IsOrigin}
use Rattle.lh_emit_source.proofs.FirstSteps.{results-values, first-some}
use Rattle.lh_emit_source.proofs.Named.{Way, whole_way, with_step, extended, way_by, way_found, way_part, way-part, seen, seen-none, as_reached, giving-at, by_step, inst-given, line-reached, line-none, argument-alone}

-- ---- arguments

-- each argument has an id of its own, by names no two of which are alike
module _ (f : Naming) (n : ℕ) (apart : (v w : ℕ) → v < n → w < n → f.value_name v ≡ f.value_name w → v ≡ w) where
  same-ids : (v w : ℕ) → v < n → w < n → same_name (f.value_name v) (f.value_name w) ≡ nat_eq v w
  same-ids v w l m = by (same_or v w)
    where
      by : Same v w → same_name (f.value_name v) (f.value_name w) ≡ nat_eq v w
      by (same e) = ap (λ k. same_name (f.value_name k) (f.value_name w)) e ∙ same_name-refl (f.value_name w) ∙ sym (ap (λ k. nat_eq k w) e ∙ nat_eq-refl w)
      by (other e) = not_true (same_name (f.value_name v) (f.value_name w)) (λ r. e (apart v w l m (same_name-is (f.value_name v) (f.value_name w) r))) ∙ sym (nat_eq-other v w e)

  define-more : (m : List ℕ) (xs : List ArgText) (a : ArgText) → args_define m xs ≡ true → args_define m (xs ++ a ∷ []) ≡ true
  define-more m [] a h = absurd cc
  define-more m (x ∷ xs) a h = by (same_name x.name m) h (define-more m xs a)
    where
      by : (b : Bool) → (b || args_define m xs) ≡ true → (args_define m xs ≡ true → args_define m (xs ++ a ∷ []) ≡ true) → (b || args_define m (xs ++ a ∷ [])) ≡ true
      by true k g = refl
      by false k g = g k

  define-last : (m : List ℕ) (xs : List ArgText) (a : ArgText) → same_name a.name m ≡ true → args_define m (xs ++ a ∷ []) ≡ true
  define-last m [] a h = ap (λ b. b || false) h
  define-last m (x ∷ xs) a h = by (same_name x.name m) (define-last m xs a h)
    where
      by : (b : Bool) → args_define m (xs ++ a ∷ []) ≡ true → (b || args_define m (xs ++ a ∷ [])) ≡ true
      by true k = refl
      by false k = k

  -- a name that an earlier argument has is no later one's
  none-later : (seen : List ArgText) (i v : ℕ) (xs : List Arg) → args_repeat seen (map (arg_text f) xs) ≡ false → args_define (f.value_name v) seen ≡ true → argument_from i xs v ≡ None
  none-later seen i v [] h d = refl
  none-later seen i v (a ∷ xs) h d =
      let b = or_parts (args_define (f.value_name a.value.0) seen) (args_repeat (seen ++ arg_text f a ∷ []) (map (arg_text f) xs)) h in
      let no : nat_eq a.value.0 v ≡ false = not_true (nat_eq a.value.0 v) (λ t.
      let z : false ≡ true = sym b.0 ∙ ap (λ k. args_define (f.value_name k) seen) (nat_eq-is a.value.0 v t) ∙ d in cc) in
      let rest = none-later (seen ++ arg_text f a ∷ []) (i + 1) v xs b.1 (define-more (f.value_name v) seen (arg_text f a) d) in
      ap (λ o. or_else o (if nat_eq a.value.0 v then option_map (whole_argument i) (carried a.ty) else None)) rest ∙ ap (λ c. if c then option_map (whole_argument i) (carried a.ty) else None) no

  argument-ids : (seen : List ArgText) (i v : ℕ) (xs : List Arg) → v < n → Each (λ (a : Arg). a.value.0 < n) xs → args_repeat seen (map (arg_text f) xs) ≡ false
      → argument_part (f.value_name v) i (map (arg_text f) xs) ≡ argument_from i xs v
  argument-ids seen i v [] l w h = refl
  argument-ids seen i v (a ∷ xs) l w h =
      let b = or_parts (args_define (f.value_name a.value.0) seen) (args_repeat (seen ++ arg_text f a ∷ []) (map (arg_text f) xs)) h in
      by (same_or a.value.0 v) b.1 (argument-ids (seen ++ arg_text f a ∷ []) (i + 1) v xs l w.1 b.1)
    where
      or-none : (o : Option Part) → o ≡ or_else o None
      or-none None = refl
      or-none (Some p) = refl

      test : same_name (f.value_name a.value.0) (f.value_name v) ≡ nat_eq a.value.0 v
      test = same-ids a.value.0 v w.0 l

      here : Option Part
      here = option_map (whole_argument i) (carried a.ty)

      by : Same a.value.0 v → args_repeat (seen ++ arg_text f a ∷ []) (map (arg_text f) xs) ≡ false → argument_part (f.value_name v) (i + 1) (map (arg_text f) xs) ≡ argument_from (i + 1) xs v
          → argument_part (f.value_name v) i (map (arg_text f) (a ∷ xs)) ≡ argument_from i (a ∷ xs) v
      by (same e) r g =
          let yes : nat_eq a.value.0 v ≡ true = ap (λ k. nat_eq k v) e ∙ nat_eq-refl v in
          let rest = none-later (seen ++ arg_text f a ∷ []) (i + 1) v xs r (define-last (f.value_name v) seen (arg_text f a) (test ∙ yes)) in
          ap (λ c. if c then option_map (whole_argument i) (carried a.ty) else argument_part (f.value_name v) (i + 1) (map (arg_text f) xs)) (test ∙ yes)
          ∙ sym (ap (λ o. or_else o (if nat_eq a.value.0 v then option_map (whole_argument i) (carried a.ty) else None)) rest ∙ ap (λ c. if c then option_map (whole_argument i) (carried a.ty) else None) yes)
      by (other e) r g =
          let no : nat_eq a.value.0 v ≡ false = nat_eq-other a.value.0 v e in
          ap (λ c. if c then option_map (whole_argument i) (carried a.ty) else argument_part (f.value_name v) (i + 1) (map (arg_text f) xs)) (test ∙ no)
          ∙ g
          ∙ or-none (argument_from (i + 1) xs v)
          ∙ sym (ap (λ c. or_else (argument_from (i + 1) xs v) (if c then option_map (whole_argument i) (carried a.ty) else None)) no)

-- ---- lines

-- the lines of blocks from place k on
abbrev lines_from : Naming → (k : ℕ) → List FlatBlock → List LineText
lines_from f k bs = lines_of (map as_block (flat_blocks_text f k bs))

-- each instruction has what its line has
module _ (f : Naming) (P : LineText → Type 0) where
  past-merge : (m : Option Merge) (ls : List LineText) → Each P (with_merge (option_map (merge_text f) m) ls) → Each P ls
  past-merge None ls h = h
  past-merge (Some m) ls h = h.1

  lines-each : (k : ℕ) (bs : List FlatBlock) → Each P (lines_from f k bs) → Each (λ (l : FlatInst). P (flat_line_text f l)) (insts_in bs)
  lines-each k [] h = tt
  lines-each k (b ∷ bs) h =
      let own = with_merge (option_map (merge_text f) b.merge) (map (flat_line_text f) b.insts) in
      Each-append (λ (l : FlatInst). P (flat_line_text f l)) b.insts (insts_in bs)
      (Each-of-map P (flat_line_text f) b.insts (past-merge b.merge (map (flat_line_text f) b.insts) (Each-left P own (lines_from f (k + 1) bs) h)))
      (lines-each (k + 1) bs (Each-right P own (lines_from f (k + 1) bs) h))

-- each line has what merges and instructions have
module _ (f : Naming) (P : LineText → Type 0) (merges : (m : MergeText) → P (record { result = Some m.value; inst = phi_text m.ty m.edges })) where
  with-merge : (m : Option MergeText) (ls : List LineText) → Each P ls → Each P (with_merge m ls)
  with-merge None ls h = h
  with-merge (Some m) ls h = (merges m, h)

  each-map : (ls : List FlatInst) → Each (λ (l : FlatInst). P (flat_line_text f l)) ls → Each P (map (flat_line_text f) ls)
  each-map [] h = tt
  each-map (l ∷ ls) h = (h.0, each-map ls h.1)

  each-line : (k : ℕ) (bs : List FlatBlock) → Each (λ (l : FlatInst). P (flat_line_text f l)) (insts_in bs) → Each P (lines_from f k bs)
  each-line k [] h = tt
  each-line k (b ∷ bs) h =
      Each-append P (with_merge (option_map (merge_text f) b.merge) (map (flat_line_text f) b.insts)) (lines_from f (k + 1) bs)
      (with-merge (option_map (merge_text f) b.merge) (map (flat_line_text f) b.insts) (each-map b.insts (Each-left (λ (l : FlatInst). P (flat_line_text f l)) b.insts (insts_in bs) h)))
      (each-line (k + 1) bs (Each-right (λ (l : FlatInst). P (flat_line_text f l)) b.insts (insts_in bs) h))

-- ---- the step that gives a value

record GivesStep (G : FlatInst → Type 0) (v : ℕ) (s : IdStep) : Type 0 where
  line : FlatInst
  good : G line
  result : line.result ≡ Some (record { 0 = v })
  step : step_in line.inst ≡ Some s

if-result-is : (v : ℕ) (r : Option ValueId) (x : Option IdStep) (s : IdStep) → if_result v r x ≡ Some s → (r ≡ Some (record { 0 = v })) × (x ≡ Some s)
if-result-is v None x s e = absurd (none-some s e)
if-result-is v (Some w) x s e = by (nat_eq w.0 v) refl e
  where
    by : (b : Bool) → nat_eq w.0 v ≡ b → (if b then x else None) ≡ Some s → (Some w ≡ Some (record { 0 = v })) × (x ≡ Some s)
    by true t k = let z : w.0 ≡ v = nat_eq-is w.0 v t in (λ i. Some (record { 0 = z i }), k)
    by false t k = absurd (none-some s k)

giving-is : (G : FlatInst → Type 0) (v : ℕ) (s : IdStep) (ls : List FlatInst) → Each G ls → step_giving ls v ≡ Some s → GivesStep G v s
giving-is G v s [] g e = absurd (none-some s e)
giving-is G v s (l ∷ ls) g e = by (step_giving ls v) refl e (giving-is G v s ls g.1)
  where
    by : (o : Option IdStep) → step_giving ls v ≡ o → or_else o (if_result v l.result (step_in l.inst)) ≡ Some s → (step_giving ls v ≡ Some s → GivesStep G v s) → GivesStep G v s
    by None q k go = let r = if-result-is v l.result (step_in l.inst) s k in record { line = l; good = g.0; result = r.0; step = r.1 }
    by (Some x) q k go = go (q ∙ k)

-- no instruction gives the value by a step
giving-none : (v : ℕ) (ls : List FlatInst) → step_giving ls v ≡ None → Each (λ (l : FlatInst). if_result v l.result (step_in l.inst) ≡ None) ls
giving-none v [] e = tt
giving-none v (l ∷ ls) e = by (step_giving ls v) refl e (giving-none v ls)
  where
    by : (o : Option IdStep) → step_giving ls v ≡ o → or_else o (if_result v l.result (step_in l.inst)) ≡ None
        → (step_giving ls v ≡ None → Each (λ (m : FlatInst). if_result v m.result (step_in m.inst) ≡ None) ls) → Each (λ (m : FlatInst). if_result v m.result (step_in m.inst) ≡ None) (l ∷ ls)
    by None q k go = (k, go q)
    by (Some x) q k go = absurd (none-some x (sym k))

-- ---- the first result

-- the steps of the first of these values that is the part
abbrev steps_of_if : Part → Option Way → Option (List (Op × TypeTree))
steps_of_if p None = None
steps_of_if p (Some w) = if same_part w.part p then Some w.steps else None

abbrev first_way : (ℕ → Option Way) → Part → List ValueId → Option (List (Op × TypeTree))
first_way g p [] = None
first_way g p (v ∷ vs) = or_else (steps_of_if p (g v.0)) (first_way g p vs)

abbrev texts : List PartStep → List (Op × TypeTree)
texts ss = map step_text ss

abbrev way_steps : Way → List (Op × TypeTree)
way_steps w = w.steps

first-append : (g : List ℕ → Option Reached) (p : Part) (xs ys : List LineText) → first_steps g p (xs ++ ys) ≡ or_else (first_steps g p xs) (first_steps g p ys)
first-append g p [] ys = refl
first-append g p (l ∷ xs) ys = by (steps_if p (option_and_then g l.result)) (first-append g p xs ys)
  where
    by : (o : Option (List PartStep)) → first_steps g p (xs ++ ys) ≡ or_else (first_steps g p xs) (first_steps g p ys)
        → or_else o (first_steps g p (xs ++ ys)) ≡ or_else (or_else o (first_steps g p xs)) (first_steps g p ys)
    by None e = e
    by (Some s) e = refl

way-append : (g : ℕ → Option Way) (p : Part) (xs ys : List ValueId) → first_way g p (xs ++ ys) ≡ or_else (first_way g p xs) (first_way g p ys)
way-append g p [] ys = refl
way-append g p (v ∷ xs) ys = by (steps_of_if p (g v.0)) (way-append g p xs ys)
  where
    by : (o : Option (List (Op × TypeTree))) → first_way g p (xs ++ ys) ≡ or_else (first_way g p xs) (first_way g p ys)
        → or_else o (first_way g p (xs ++ ys)) ≡ or_else (or_else o (first_way g p xs)) (first_way g p ys)
    by None e = e
    by (Some s) e = refl

with-append : (r : Option ValueId) (x : Option IdStep) (xs ys : List ValueId) → with_result r x (xs ++ ys) ≡ with_result r x xs ++ ys
with-append None x xs ys = refl
with-append (Some v) None xs ys = refl
with-append (Some v) (Some s) xs ys = refl

or-map : (a b : Option (List PartStep)) → option_map texts (or_else a b) ≡ or_else (option_map texts a) (option_map texts b)
or-map None b = refl
or-map (Some x) b = refl

unwrapped : (o : Option (List PartStep)) → texts (unwrap_or o []) ≡ unwrap_or (option_map texts o) []
unwrapped None = refl
unwrapped (Some ss) = refl

-- the steps of what is reached, where it is the part
steps-seen : (p : Part) (o : Option Reached) → option_map texts (steps_if p o) ≡ steps_of_if p (option_map seen o)
steps-seen p None = refl
steps-seen p (Some r) = by (same_part r.part p)
  where
    by : (b : Bool) → option_map texts (if b then Some r.steps else None) ≡ (if b then Some (texts r.steps) else None)
    by true = refl
    by false = refl

seen-argument : (o : Option Part) → option_map seen (option_map as_reached o) ≡ option_map whole_way o
seen-argument None = refl
seen-argument (Some p) = refl

-- ---- a flat text by names

module _ (t : Flat) (f : Naming) (name : UnitName) (names : Names t f) (below : IdsBelow t) (has_steps : HasSteps t) where
  abbrev u : UnitText
  u = flat_unit name (flat_text f t)

  abbrev insts : List FlatInst
  insts = insts_in t.blocks

  abbrev F : ℕ → Option IdStep
  F = step_giving insts

  abbrev A : ℕ → Option Part
  A = argument_of t.args

  -- the way to a value, by as many steps as there are lines
  abbrev way_to : ℕ → Option Way
  way_to v = way_found (suc (length (lines_of u.blocks))) F A v

  good-lines : Each (LineGood u) (lines_of u.blocks)
  good-lines =
      let formed = names.formed name in
      let new : results_repeat u.args [] (lines_of u.blocks) ≡ false = formed.new_results in
      Each-zip (InstIsSound u) (IsFirst u.args (lines_of u.blocks)) (LineGood u) (λ l a b. (a, b)) (lines_of u.blocks) formed.lines
      (each-first u.args (lines_of u.blocks) [] (lines_of u.blocks) refl new)

  record IsGoodInst (l : FlatInst) : Type 0 where
    text : LineGood u (flat_line_text f l)
    result : ValuesBelow t.values (maybe_id l.result)
    step : StepWithin t.values l.result (step_in l.inst)

  results-below : (bs : List FlatBlock) → Each (BlockBelow t.values (length t.blocks)) bs → Each (λ (l : FlatInst). ValuesBelow t.values (maybe_id l.result)) (insts_in bs)
  results-below [] h = tt
  results-below (b ∷ bs) h =
      Each-append (λ (l : FlatInst). ValuesBelow t.values (maybe_id l.result)) b.insts (insts_in bs)
      (Each-zip (InstBelow t.values (length t.blocks)) (InstBelow t.values (length t.blocks)) (λ (l : FlatInst). ValuesBelow t.values (maybe_id l.result)) (λ l a c. a.result) b.insts h.0.insts
      h.0.insts)
      (results-below bs h.1)

  good-insts : Each IsGoodInst insts
  good-insts =
      Each-zip (λ (l : FlatInst). LineGood u (flat_line_text f l) × ValuesBelow t.values (maybe_id l.result)) (λ (l : FlatInst). StepWithin t.values l.result (step_in l.inst)) IsGoodInst
      (λ l a b. record { text = a.0; result = a.1; step = b }) insts
      (Each-zip (λ (l : FlatInst). LineGood u (flat_line_text f l)) (λ (l : FlatInst). ValuesBelow t.values (maybe_id l.result))
      (λ (l : FlatInst). LineGood u (flat_line_text f l) × ValuesBelow t.values (maybe_id l.result)) (λ l a b. (a, b)) insts
      (lines-each f (LineGood u) 0 t.blocks good-lines) (results-below t.blocks below.blocks))
      has_steps.within

  -- what an instruction gives
  inst-seen : (k : ℕ) (l : FlatInst) → IsGoodInst l → option_map seen (further (reached k u) (Some (inst_text f l.inst))) ≡ by_step f (reached k u) (step_in l.inst)
  inst-seen k l g = inst-given u (names.formed name) good-lines f k l.inst g.text.0.part

  inst-none : (k : ℕ) (l : FlatInst) → IsGoodInst l → step_in l.inst ≡ None → further (reached k u) (Some (inst_text f l.inst)) ≡ None
  inst-none k l g e = seen-none _ (inst-seen k l g ∙ ap (by_step f (reached k u)) e)

  -- ---- the value of an argument

  argument-same : (v : ℕ) → v < t.values → option_map seen (as_argument u (f.value_name v)) ≡ option_map whole_way (A v)
  argument-same v l =
      seen-argument (argument_part (f.value_name v) 0 u.args)
      ∙ ap (option_map whole_way) (argument-ids f t.values names.values [] 0 v t.args l below.args (names.formed name).new_args)

  -- the name is given by no step
  abbrev GivesNone : ℕ → LineText → Type 0
  GivesNone v l = l.result ≡ Some (f.value_name v) → (k : ℕ) → further (reached k u) (Some l.inst) ≡ None

  inst-gives_none : (v : ℕ) → v < t.values → (l : FlatInst) → IsGoodInst l → if_result v l.result (step_in l.inst) ≡ None → GivesNone v (flat_line_text f l)
  inst-gives_none v m l g e = λ r k. inst-none k l g (by l.result r g.result e)
    where
      by : (x : Option ValueId) → maybe_text f x ≡ Some (f.value_name v) → ValuesBelow t.values (maybe_id x) → if_result v x (step_in l.inst) ≡ None → step_in l.inst ≡ None
      by None r b i = absurd (none-some (f.value_name v) r)
      by (Some w) r b i =
          let same : w.0 ≡ v = names.values w.0 v b.0 m (same_Some (f.value_name w.0) (f.value_name v) r) in
          let yes : nat_eq w.0 v ≡ true = ap (λ k. nat_eq k v) same ∙ nat_eq-refl v in
          sym (ap (λ c. if c then step_in l.inst else None) yes) ∙ i

  no-other : (v : ℕ) → v < t.values → F v ≡ None → (i : InstText) → inst_giving (f.value_name v) u.blocks ≡ Some i → (k : ℕ) → further (reached k u) (Some i) ≡ None
  no-other v l e i h k =
      let all : Each (GivesNone v) (lines_of u.blocks) =
      each-line f (GivesNone v) (λ m r j. refl) 0 t.blocks
      (Each-zip IsGoodInst (λ (x : FlatInst). if_result v x.result (step_in x.inst) ≡ None) (λ (x : FlatInst). GivesNone v (flat_line_text f x)) (inst-gives_none v l) insts good-insts
      (giving-none v insts e)) in
      let g = giving-at (GivesNone v) (f.value_name v) (lines_of u.blocks) i all (sym (giving-lines (f.value_name v) u.blocks) ∙ h) in
      ap (λ x. further (reached k u) (Some x)) (sym g.inst) ∙ g.good g.result k

  -- ---- the way to a value

  none-way : (k v : ℕ) → v < t.values → F v ≡ None → option_map seen (reached k u (f.value_name v)) ≡ way_found (suc k) F A v
  none-way k v l e =
      ap (option_map seen) (argument-alone u (names.formed name) good-lines (f.value_name v) (no-other v l e) k)
      ∙ argument-same v l
      ∙ sym (ap (λ o. way_by (way_found k F A) o (A v)) e)

  -- what is reached by names is the way by ids
  by-names : (k v : ℕ) → v < t.values → option_map seen (reached k u (f.value_name v)) ≡ way_found (suc k) F A v
  by-names zero v l = at (F v) refl
    where
      at : (o : Option IdStep) → F v ≡ o → option_map seen (reached zero u (f.value_name v)) ≡ way_found 1 F A v
      at None e = none-way zero v l e
      at (Some s) e =
          let g = giving-is IsGoodInst v s insts good-insts e in
          let none = line-reached u (names.formed name) good-lines (flat_line_text f g.line) (f.value_name v) g.good.text (ap (maybe_text f) g.result) in
          ap (option_map seen) none.0 ∙ sym (ap (λ o. way_by (way_found zero F A) o (A v)) e)
  by-names (suc k) v l = at (F v) refl (λ w m. by-names k w m)
    where
      at : (o : Option IdStep) → F v ≡ o → ((w : ℕ) → w < t.values → option_map seen (reached k u (f.value_name w)) ≡ way_found (suc k) F A w)
          → option_map seen (reached (suc k) u (f.value_name v)) ≡ way_found (suc (suc k)) F A v
      at None e go = none-way (suc k) v l e
      at (Some s) e go =
          let g = giving-is IsGoodInst v s insts good-insts e in
          let line = line-reached u (names.formed name) good-lines (flat_line_text f g.line) (f.value_name v) g.good.text (ap (maybe_text f) g.result) in
          ap (option_map seen) (line.1 k)
          ∙ inst-seen k g.line g.good
          ∙ ap (by_step f (reached k u)) g.step
          ∙ ap (option_and_then (extended s)) (go s.from.0 (giving-within t.values insts v s has_steps.within e))
          ∙ sym (ap (λ o. way_by (way_found (suc k) F A) o (A v)) e)

  -- ---- the first lines

  module _ (p : Part) where
    abbrev g : List ℕ → Option Reached
    g = reached (length (lines_of u.blocks)) u

    line-first : (l : FlatInst) → IsGoodInst l → (more : Option (List PartStep)) (vs : List ValueId) → option_map texts more ≡ first_way way_to p vs
        → option_map texts (or_else (steps_if p (option_and_then g (maybe_text f l.result))) more) ≡ first_way way_to p (with_result l.result (step_in l.inst) vs)
    line-first l i more vs h = by l.result refl (step_in l.inst) refl
      where
        by : (r : Option ValueId) → l.result ≡ r → (x : Option IdStep) → step_in l.inst ≡ x
            → option_map texts (or_else (steps_if p (option_and_then g (maybe_text f l.result))) more) ≡ first_way way_to p (with_result l.result (step_in l.inst) vs)
        by None r x e =
            ap (λ o. option_map texts (or_else (steps_if p (option_and_then g (maybe_text f o))) more)) r ∙ h ∙ sym (ap (λ o. first_way way_to p (with_result o (step_in l.inst) vs)) r)
        by (Some v) r None e =
            let none : g (f.value_name v.0) ≡ None =
            line-none u (names.formed name) good-lines (flat_line_text f l) (f.value_name v.0) i.text (ap (maybe_text f) r) (λ k. inst-none k l i e) (length (lines_of u.blocks)) in
            ap (λ o. option_map texts (or_else (steps_if p (option_and_then g (maybe_text f o))) more)) r
            ∙ ap (λ o. option_map texts (or_else (steps_if p o) more)) none
            ∙ h
            ∙ sym ((λ j. first_way way_to p (with_result (r j) (e j) vs)))
        by (Some v) r (Some s) e =
            let is_in : v.0 < t.values = (let w : StepWithin t.values (Some v)
            (Some s) = (subst (λ o. StepWithin t.values (Some v) o) e (subst (λ o. StepWithin t.values o (step_in l.inst)) r i.step)) in w.0) in
            ap (λ o. option_map texts (or_else (steps_if p (option_and_then g (maybe_text f o))) more)) r
            ∙ or-map (steps_if p (g (f.value_name v.0))) more
            ∙ (λ j. or_else ((steps-seen p (g (f.value_name v.0)) ∙ ap (steps_of_if p) (by-names (length (lines_of u.blocks)) v.0 is_in)) j) (h j))
            ∙ sym ((λ j. first_way way_to p (with_result (r j) (e j) vs)))

    insts-first : (ls : List FlatInst) → Each IsGoodInst ls → option_map texts (first_steps g p (map (flat_line_text f) ls)) ≡ first_way way_to p (step_results ls)
    insts-first [] h = refl
    insts-first (l ∷ ls) h = line-first l h.0 (first_steps g p (map (flat_line_text f) ls)) (step_results ls) (insts-first ls h.1)

    merge-first : (m : Option MergeText) (ls : List LineText) → Each (LineGood u) (with_merge m ls) → first_steps g p (with_merge m ls) ≡ first_steps g p ls
    merge-first None ls h = refl
    merge-first (Some m) ls h =
        let none : g m.value ≡ None =
        line-none u (names.formed name) good-lines (record { result = Some m.value; inst = phi_text m.ty m.edges }) m.value h.0 refl (λ k. refl) (length (lines_of u.blocks)) in
        ap (λ o. or_else (steps_if p o) (first_steps g p ls)) none

    blocks-first : (k : ℕ) (bs : List FlatBlock) → Each (LineGood u) (lines_from f k bs) → Each IsGoodInst (insts_in bs)
        → option_map texts (first_steps g p (lines_from f k bs)) ≡ first_way way_to p (step_results (insts_in bs))
    blocks-first k [] h i = refl
    blocks-first k (b ∷ bs) h i =
        let merge = option_map (merge_text f) b.merge in
        let own = with_merge merge (map (flat_line_text f) b.insts) in
        ap (option_map texts) (first-append g p own (lines_from f (k + 1) bs))
        ∙ or-map (first_steps g p own) (first_steps g p (lines_from f (k + 1) bs))
        ∙ ap (λ o. or_else (option_map texts o) (option_map texts (first_steps g p (lines_from f (k + 1) bs)))) (merge-first merge (map (flat_line_text f) b.insts)
        (Each-left (LineGood u) own (lines_from f (k + 1) bs) h))
        ∙ ap (λ o. or_else o (option_map texts (first_steps g p (lines_from f (k + 1) bs)))) (insts-first b.insts (Each-left IsGoodInst b.insts (insts_in bs) i))
        ∙ ap (or_else (first_way way_to p (step_results b.insts))) (blocks-first (k + 1) bs (Each-right (LineGood u) own (lines_from f (k + 1) bs) h) (Each-right IsGoodInst b.insts (insts_in bs) i))
        ∙ sym (ap (first_way way_to p) (results-append b.insts (insts_in bs)) ∙ way-append way_to p (step_results b.insts) (step_results (insts_in bs)))

    steps-first : texts (steps_in u p) ≡ unwrap_or (first_way way_to p (step_results insts)) []
    steps-first =
        unwrapped (first_steps g p (lines_of u.blocks))
        ∙ ap (λ o. unwrap_or o []) (blocks-first 0 t.blocks good-lines good-insts)

  -- ---- by the table

  module _ (table : PartTable) (is : IsPartTable t table) where
    abbrev parts : List (Option Part)
    parts = table.parts.items

    abbrev steps : List (Option IdStep)
    steps = table.steps.given.items

    -- a part that is found at all is found by as many steps as there are lines
    found-way : (n v : ℕ) (q : Part) → v < t.values → part_found n F A v ≡ Some q → option_map way_part (way_to v) ≡ Some q
    found-way zero v q l e = absurd (none-some q e)
    found-way (suc n) v q l e = at (reached n u (f.value_name v)) refl
      where
        is_seen : option_map way_part (option_map seen (reached n u (f.value_name v))) ≡ Some q
        is_seen = ap (option_map way_part) (by-names n v l) ∙ way-part (suc n) F A v ∙ e

        at : (o : Option Reached) → reached n u (f.value_name v) ≡ o → option_map way_part (way_to v) ≡ Some q
        at None k = absurd (none-some q (sym (ap (λ o. option_map way_part (option_map seen o)) k) ∙ is_seen))
        at (Some r) k =
            ap (option_map way_part) (sym (by-names (length (lines_of u.blocks)) v l))
            ∙ ap (λ o. option_map way_part (option_map seen o)) (Reaching.in-few u n (f.value_name v) r k)
            ∙ sym (ap (λ o. option_map way_part (option_map seen o)) k)
            ∙ is_seen

    part-is : (v : ℕ) → v < t.values → part_at parts v ≡ option_map way_part (way_to v)
    part-is v l = at (part_at parts v) refl (way_to v) refl
      where
        at : (o : Option Part) → part_at parts v ≡ o → (w : Option Way) → way_to v ≡ w → part_at parts v ≡ option_map way_part (way_to v)
        at (Some q) e w k = let h = is.sound v q e in e ∙ sym (found-way h.0 v q l h.1)
        at None e None k = e ∙ sym (ap (option_map way_part) k)
        at None e (Some w) k =
            let there : part_at parts v ≡ Some w.part = is.whole v w.part l (suc (length (lines_of u.blocks)), sym (way-part (suc (length (lines_of u.blocks))) F A v) ∙ ap (option_map way_part) k) in
            absurd (none-some w.part (sym e ∙ there))

    abbrev steps_to : ValueId → Option (List (Op × TypeTree))
    steps_to v = option_map way_steps (way_to v.0)

    first-is : (p : Part) (vs : List ValueId) → ValuesBelow t.values vs → first_way way_to p vs ≡ option_and_then steps_to (first_result parts vs p)
    first-is p [] h = refl
    first-is p (v ∷ vs) h = at (way_to v.0) refl (first-is p vs h.1)
      where
        by : (w : Way) → way_to v.0 ≡ Some w → (b : Bool) → first_way way_to p vs ≡ option_and_then steps_to (first_result parts vs p)
            → or_else (if b then Some w.steps else None) (first_way way_to p vs) ≡ option_and_then steps_to (if b then Some v else first_result parts vs p)
        by w e true go = sym (ap (option_map way_steps) e)
        by w e false go = go

        at : (o : Option Way) → way_to v.0 ≡ o → first_way way_to p vs ≡ option_and_then steps_to (first_result parts vs p)
            → first_way way_to p (v ∷ vs) ≡ option_and_then steps_to (first_result parts (v ∷ vs) p)
        at None e go =
            ap (λ o. or_else (steps_of_if p o) (first_way way_to p vs)) e
            ∙ go
            ∙ sym (ap (λ o. option_and_then steps_to (if is_the_part p o then Some v else first_result parts vs p)) (part-is v.0 h.0 ∙ ap (option_map way_part) e))
        at (Some w) e go =
            ap (λ o. or_else (steps_of_if p o) (first_way way_to p vs)) e
            ∙ by w e (same_part w.part p) go
            ∙ sym (ap (λ o. option_and_then steps_to (if is_the_part p o then Some v else first_result parts vs p)) (part-is v.0 h.0 ∙ ap (option_map way_part) e))

    -- the steps on the way to a value are those on the way back from it
    way-texts : (n v : ℕ) (way : List ValueId) (end : ℕ) (w : Way) → v < t.values → way_found n F A v ≡ Some w → StepsLeadAlong steps v way end → step_at steps end ≡ None
        → texts_along steps way ≡ w.steps
    way-texts zero v way end w l e h z = absurd (none-some w e)
    way-texts (suc n) v [] end w l e h z = at (A v) (sym (ap (λ o. way_by (way_found n F A) o (A v)) none) ∙ e)
      where
        none : F v ≡ None
        none = sym (is.steps v l) ∙ ap (step_at steps) h ∙ z

        at : (o : Option Part) → option_map whole_way o ≡ Some w → [] ≡ w.steps
        at None k = absurd (none-some w k)
        at (Some q) k = ap (λ (x : Way). x.steps) (same_Some (whole_way q) w k)
    way-texts (suc n) v (x ∷ more) end w l e h z = at (way_found n F A h.1.0.from.0) refl (sym (ap (λ o. way_by (way_found n F A) o (A v)) given) ∙ e) (way-texts n h.1.0.from.0 more end)
      where
        given : F v ≡ Some h.1.0
        given = sym (is.steps v l) ∙ h.1.1

        last : (y : Way) (o : Option Part) → option_map (with_step y h.1.0) o ≡ Some w → w.steps ≡ y.steps ++ (h.1.0.op, h.1.0.ty) ∷ []
        last y None k = absurd (none-some w k)
        last y (Some q) k = ap (λ (x : Way). x.steps) (sym (same_Some (with_step y h.1.0 q) w k))

        at : (o : Option Way) → way_found n F A h.1.0.from.0 ≡ o → option_and_then (extended h.1.0) o ≡ Some w
            → ((y : Way) → h.1.0.from.0 < t.values → way_found n F A h.1.0.from.0 ≡ Some y → StepsLeadAlong steps h.1.0.from.0 more end → step_at steps end ≡ None → texts_along steps more ≡ y.steps)
            → texts_along steps (x ∷ more) ≡ w.steps
        at None k i go = absurd (none-some w i)
        at (Some y) k i go =
            let rest = go y (giving-within t.values insts v h.1.0 has_steps.within given) k h.1.2 z in
            (λ j. rest j ++ step_texts ((ap (step_at steps) h.0 ∙ h.1.1) j)) ∙ sym (last y (stepped y.part h.1.0) i)

-- ---- the steps of a part

module _ (f : Naming) (o : Origin) (is : IsOrigin f o) (name : UnitName) (p : Part) where
  abbrev first : Option ValueId
  first = first_result o.parts.now.parts.items (kept_for o.firsts p) p

  all-values : ValuesBelow o.flat.now.values (step_results (insts_in o.flat.now.blocks))
  all-values = subst (ValuesBelow o.flat.now.values) is.table.results (subst (λ n. ValuesBelow n o.parts.now.steps.results.items) is.table.long (results-values o.flat.now o.parts.now is.steps is.table))

  all-steps : map step_text (steps_in (flat_unit name (flat_text f o.flat.now)) p)
      ≡ unwrap_or (option_and_then (λ (v : ValueId). option_map way_steps (way_to o.flat.now f name is.names is.below is.steps v.0)) first) []
  all-steps =
      steps-first o.flat.now f name is.names is.below is.steps p
      ∙ ap (λ x. unwrap_or x []) (first-is o.flat.now f name is.names is.below is.steps o.parts.now is.table p (step_results (insts_in o.flat.now.blocks)) all-values)
      ∙ ap (λ x. unwrap_or (option_and_then (λ (v : ValueId). option_map way_steps (way_to o.flat.now f name is.names is.below is.steps v.0)) x) []) (sym
      (is.firsts.first p ∙ ap (λ vs. first_result o.parts.now.parts.items vs p) is.table.results))

  pub route-none : first ≡ None → AreStepsOf (steps_in (flat_unit name (flat_text f o.flat.now)) p) []
  route-none e = sym (all-steps ∙ ap (λ x. unwrap_or (option_and_then (λ (v : ValueId). option_map way_steps (way_to o.flat.now f name is.names is.below is.steps v.0)) x) []) e)

  pub route-some : (v : ValueId) (route : List RouteStep) → first ≡ Some v → IsRouteTo o.parts.now.steps.given.items v.0 (map route_text route)
      → AreStepsOf (steps_in (flat_unit name (flat_text f o.flat.now)) p) route
  route-some v route e r = at (way_to o.flat.now f name is.names is.below is.steps v.0) refl
    where
      is_first : (v.0 < length o.parts.now.parts.items) × (part_at o.parts.now.parts.items v.0 ≡ Some p)
      is_first = first-some (length o.parts.now.parts.items) o.parts.now.parts.items (kept_for o.firsts p) p v (is.firsts.within (key_of p)) e

      is_in : v.0 < o.flat.now.values
      is_in = subst (λ n. v.0 < n) is.table.long is_first.0

      given : map step_text (steps_in (flat_unit name (flat_text f o.flat.now)) p) ≡ unwrap_or (option_map way_steps (way_to o.flat.now f name is.names is.below is.steps v.0)) []
      given = all-steps ∙ ap (λ x. unwrap_or (option_and_then (λ (w : ValueId). option_map way_steps (way_to o.flat.now f name is.names is.below is.steps w.0)) x) []) e

      at : (x : Option Way) → way_to o.flat.now f name is.names is.below is.steps v.0 ≡ x → map route_text route ≡ map step_text (steps_in (flat_unit name (flat_text f o.flat.now)) p)
      at None k = absurd (none-some p (sym (ap (option_map way_part) k) ∙ sym (part-is o.flat.now f name is.names is.below is.steps o.parts.now is.table v.0 is_in) ∙ is_first.1))
      at (Some w) k =
          r.2
          ∙ way-texts o.flat.now f name is.names is.below is.steps o.parts.now is.table (suc (length (lines_of (flat_unit name (flat_text f o.flat.now)).blocks))) v.0 r.0 r.1.end w is_in k r.1.leads
          r.1.stops
          ∙ sym (given ∙ ap (λ x. unwrap_or (option_map way_steps x) []) k)

-- ---- what is answered

pub steps-given : (o : Origin) (p : Part) (v : ValueId) (r : Result (List RouteStep) NoMemory) → first_result o.parts.now.parts.items (kept_for o.firsts p) p ≡ Some v
    → IfOk r (λ route. IsRouteTo o.parts.now.steps.given.items v.0 (map route_text route))
    → IfOk r (λ route. (f : Naming) (name : UnitName) → IsOrigin f o → AreStepsOf (steps_in (flat_unit name (flat_text f o.flat.now)) p) route)
steps-given o p v (Ok route) e h = λ f name is. route-some f o is name p v route e h
steps-given o p v (Err x) e h = tt

pub none-given : (o : Origin) (p : Part) (route : List RouteStep) → first_result o.parts.now.parts.items (kept_for o.firsts p) p ≡ None → route ≡ [] → (f : Naming) (name : UnitName) → IsOrigin f o
    → AreStepsOf (steps_in (flat_unit name (flat_text f o.flat.now)) p) route
none-given o p route e n f name is = subst (AreStepsOf (steps_in (flat_unit name (flat_text f o.flat.now)) p)) (sym n) (route-none f o is name p e)
